-- The worst outcome of a script on all chips (this project's).
use Rattle.std.specs.Prelude.{◌≡◌, false}
use Rattle.nor_base.specs.Chip.{Setting, IsChipOf}
use Rattle.nor_check.specs.declared.verdict.Verdict.{Verdict}
use Rattle.nor_check.specs.Order.{is_before}
use Rattle.nor_check.specs.Outcome.{Trial, outcome}

-- some chip comes out so, and no chip comes out earlier
pub record IsWorst (t : Trial) (v : Verdict) : Type 0 where
  pub chip : Setting
  pub is : IsChipOf t.m t.start chip
  pub so : outcome chip t.have t.want t.steps ≡ v
  pub first : (s : Setting) → IsChipOf t.m t.start s → is_before (outcome s t.have t.want t.steps) v ≡ false

-- there is just one
abbrev pub OneWorst : Type 0
OneWorst = (t : Trial) (v u : Verdict) → IsWorst t v → IsWorst t u → v ≡ u
