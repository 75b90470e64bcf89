-- Outcomes: of a run that is counted from one step earlier, and of one that is looked at twice.
use Rattle.std.proofs.Common.{◌≡◌, Result, Ok, Err, sym, ◌∙◌}
use Rattle.nor_base.specs.Chip.{Chip}
use Rattle.nor_base.specs.Run.{Stop, one_later}

pub later_ok : (r : Result Chip Stop) (d : Chip) → one_later r ≡ Ok d → r ≡ Ok d
later_ok (Ok c) d h = h
later_ok (Err stop) d h = cc

pub ok_is : {A E : Type 0} (p q : A) (r : Result A E) → r ≡ Ok p → r ≡ Ok q → p ≡ q
ok_is p q r first second = let both = sym first ∙ second in cc
