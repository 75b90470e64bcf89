-- The wires of a waveform, and the lines of a Value Change Dump that say which of them change (IEEE 1364).
use Rattle.std.specs.Prelude.{ℕ, ◌==◌, if◌then◌else◌, List, [], ◌∷◌, ◌++◌}
use Rattle.nor_waves.specs.declared.wires.Level.{Level}
use Rattle.nor_waves.specs.declared.wires.Level.TheVariants.{Low, High, Unknown, Floating}
use Rattle.nor_waves.specs.declared.wires.Levels.{Levels}

-- the value of a wire: `0`, `1`, `x` where it is driven and nobody says how, `z` where nobody drives it
abbrev pub letter : Level → ℕ
letter Low = 0x30
letter High = 0x31
letter Unknown = 0x78
letter Floating = 0x7A

-- the line of a wire with this character, if its value is another now: the value, the character, LF
abbrev pub change : ℕ → Level → Level → List ℕ
change wire before now = if letter before == letter now then [] else letter now ∷ wire ∷ 0x0A ∷ []

-- the lines of the wires `!` CS#, `"` CLK, `#` IO0, `$` IO1, `%` IO2, `&` IO3, `'` SMP
unfoldable pub changes : Levels → Levels → List ℕ
changes before now =
    change 0x21 before.select now.select
    ++ (change 0x22 before.clock now.clock
    ++ (change 0x23 before.io0 now.io0
    ++ (change 0x24 before.io1 now.io1
    ++ (change 0x25 before.io2 now.io2
    ++ (change 0x26 before.io3 now.io3
    ++ change 0x27 before.sampling now.sampling)))))

-- between transactions: the chip isn't selected, the clock is low, nobody drives a lane
abbrev pub idle : Levels
idle = record {
  select = High;
  clock = Low;
  io0 = Floating;
  io1 = Floating;
  io2 = Floating;
  io3 = Floating;
  sampling = Low;
}
