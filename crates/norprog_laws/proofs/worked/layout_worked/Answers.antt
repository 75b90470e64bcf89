-- By computation.
use Rattle.std.proofs.Common.{refl}
use Rattle.bstr.specs.Text.{lines_from, line_len}
use Rattle.norprog_laws.proofs.worked.layout_worked.Goals as goal

pub returns : goal.returns
unfolding lines_from line_len
returns c = record {
  each = refl;
  sound = refl;
  sound_too = refl;
  known = refl;
  unknown = refl;
  both_ends = refl;
  whole = refl;
}
