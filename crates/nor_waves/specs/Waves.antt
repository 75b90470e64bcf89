-- The text of a waveform: a Value Change Dump (IEEE 1364) of what is on the wires at each tick of a list of steps.
use Rattle.std.specs.Prelude.{ℕ, ◌+◌, ◌%◌, ◌^◌, List, [], ◌∷◌, ◌++◌, length, codes, decimal, flat_map}
use Rattle.nor_base.specs.declared.step.Step.{Step}
use Rattle.nor_base.specs.Script.{closed}
use Rattle.nor_waves.specs.declared.wires.Levels.{Levels}
use Rattle.nor_waves.specs.Wires.{changes, idle}
use Rattle.nor_waves.specs.Ticks.{ticks}

-- the wires by their characters and names, and what is on them at tick 0. A tick is 10 ns
unfoldable pub header : List ℕ
header = flat_map closed (
    codes "$timescale 10 ns $end"
    ∷ codes "$scope module norprog $end"
    ∷ codes "$var wire 1 ! CS# $end"
    ∷ codes "$var wire 1 \" CLK $end"
    ∷ codes "$var wire 1 # IO0 $end"
    ∷ codes "$var wire 1 $ IO1 $end"
    ∷ codes "$var wire 1 % IO2 $end"
    ∷ codes "$var wire 1 & IO3 $end"
    ∷ codes "$var wire 1 ' SMP $end"
    ∷ codes "$upscope $end"
    ∷ codes "$enddefinitions $end"
    ∷ codes "#0"
    ∷ codes "$dumpvars"
    ∷ codes "1!" ∷ codes "0\"" ∷ codes "z#" ∷ codes "z$" ∷ codes "z%" ∷ codes "z&" ∷ codes "0'"
    ∷ codes "$end"
    ∷ [])

-- `#T`: the number of a tick, counted from 0, in 64 bits (std's `decimal` is right for these)
unfoldable pub stamp : ℕ → List ℕ
stamp t = closed (codes "#" ++ decimal (t % 2 ^ 64))

-- the stamp stands before the lines of what changes at a tick; where nothing does, there is none
abbrev pub stamped : ℕ → List ℕ → List ℕ
stamped t [] = []
stamped t (c ∷ cs) = stamp t ++ (c ∷ cs)

-- what changes at these ticks, the first of which is tick t, after these levels
unfoldable pub changes_from : ℕ → Levels → List Levels → List ℕ
changes_from t before [] = []
changes_from t before (now ∷ rest) = stamped t (changes before now) ++ changes_from (t + 1) now rest

-- the waveform of these steps: the header, each change, and the stamp of its end
unfoldable pub waves : List Step → List ℕ
waves steps = header ++ (changes_from 0 idle (ticks steps) ++ stamp (length (ticks steps)))
