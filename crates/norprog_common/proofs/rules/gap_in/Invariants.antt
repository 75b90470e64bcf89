-- The regions so far lack nothing.
use Rattle.std.proofs.Common.{◌≡◌, ◌<◌, ℕ, Some}
use Rattle.std.specs.List.{slice_get}
use Rattle.nor_hex.specs.Image.{byte_at}
use Rattle.nor_layout.specs.Region.{Region}
use Rattle.norprog_common.specs.Rules.{IsFilled}
use Rattle.norprog_common.proofs.rules.gap_in.Given as goal

abbrev pub invariant-loop-index : goal.invariant-loop-index
invariant-loop-index l = (i : ℕ) (region : Region) → i < l.index → slice_get l.regions i ≡ Some region → IsFilled (byte_at l.image) l.base region
