-- The parts of a line, joined.
use Rattle.std.proofs.Common.{◌≡◌, refl, ℕ, List, ◌++◌}
use Rattle.std.specs.Prelude.{codes}
use Rattle.nor_base.specs.Script.{hex_pair}
use Rattle.norprog_player.specs.declared.ending.Unlike.TheVariants.{Moved}
use Rattle.norprog_player.specs.Line.{unlike_line}

pub moved_parts : (value : ℕ) (digits : List ℕ) → digits ≡ hex_pair value → codes "unlike register " ++ (digits ++ codes "\n") ≡ unlike_line (Moved value)
moved_parts value digits d = rw d refl
