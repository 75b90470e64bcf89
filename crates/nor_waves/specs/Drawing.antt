-- How far a waveform is drawn, for the contracts of the parts that draw it.
use Rattle.std.specs.Prelude.{ℕ, ◌+◌, ◌%◌, ◌^◌, List, [], ◌∷◌, ◌++◌}
use Rattle.nor_waves.specs.declared.drawing.Drawing.{Drawing}
use Rattle.nor_waves.specs.declared.wires.Levels.{Levels}
use Rattle.nor_waves.specs.Wires.{changes}
use Rattle.nor_waves.specs.Waves.{stamped}

-- past a tick with these levels
abbrev pub past : Drawing → Levels → Drawing
past at now = record { tick = (at.tick + 1) % 2 ^ 64; levels = now }

unfoldable pub after : Drawing → List Levels → Drawing
after at [] = at
after at (now ∷ rest) = after (past at now) rest

-- the text of these ticks from there on
unfoldable pub drawn : Drawing → List Levels → List ℕ
drawn at [] = []
drawn at (now ∷ rest) = stamped at.tick (changes at.levels now) ++ drawn (past at now) rest
