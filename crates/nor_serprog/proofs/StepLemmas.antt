-- Steps that are operations of the device.
use Rattle.std.proofs.Common.{◌≡◌, Bool, true, false, ℕ, ◌+◌, ◌<◌, ◌≤◌, List, [], ◌∷◌, ◌++◌, take, length, get_or, sym, ◌∙◌, ap, subst}
use Rattle.std.proofs.lemmas.List.{take_more, take_all}
use Rattle.std.proofs.lemmas.List.Elements.{All-nil, All-cons, All-append}
use Rattle.std.specs.Prelude.{All, IsTrue, ◌↔◌}
use Rattle.nor_base.specs.declared.step.Step.{Step}
use Rattle.nor_base.specs.Step.{step_clocks}
use Rattle.nor_serprog.specs.Carried.{IsOperation}
use Rattle.nor_serprog.specs.declared.limits.Limits.{Limits}
use Rattle.nor_serprog.specs.Steps.{IsCarried, AreCarried, IsFirstNotCarried}

-- all of the steps so far, and one more
pub all_more : (P : Step → Type 0) (steps : List Step) (at : ℕ) (x : Step) → at < length steps → x ≡ get_or steps at x → All P (take at steps) → P x → All P (take (at + 1) steps)
all_more P steps at x within is all one =
    let longer : take (at + 1) steps ≡ take at steps ++ x ∷ [] = take_more steps at x within ∙ ap (λ (y : Step). take at steps ++ y ∷ []) (sym is) in
    subst (All P) (sym longer) (All-append P (take at steps) (x ∷ []) all (All-cons P x [] one (All-nil P)))

pub all_to_end : (P : Step → Type 0) (steps : List Step) (at : ℕ) → length steps ≤ at → All P (take at steps) → All P steps
all_to_end P steps at all so_far = subst (All P) (take_all at steps all) so_far

-- the first that isn't
pub not_carried : (limits : Limits) (steps : List Step) (at number : ℕ) (x : Step) → at < length steps → x ≡ get_or steps at x → number ≡ at
    → AreCarried limits (take at steps) → (IsCarried limits x → ⊥) → IsFirstNotCarried limits steps number
not_carried limits steps at number x within is same before none =
    subst (IsFirstNotCarried limits steps) (sym same) (record { within = within; before = before; first = x; is = is; none = none })

-- what a test of the clocks reports
pub told : (limits : Limits) (x : Step) (clocks : List ℕ) (r : Bool) → clocks ≡ step_clocks x → (IsTrue r ↔ ((sent : List ℕ) × (asked : ℕ) × IsOperation limits clocks sent asked))
    → r ≡ true → IsCarried limits x
told limits x clocks r is tells passed = subst (λ (l : List ℕ). (sent : List ℕ) × (asked : ℕ) × IsOperation limits l sent asked) is (tells.0 passed)

pub told_not : (limits : Limits) (x : Step) (clocks : List ℕ) (r : Bool) → clocks ≡ step_clocks x → (IsTrue r ↔ ((sent : List ℕ) × (asked : ℕ) × IsOperation limits clocks sent asked))
    → r ≡ false → IsCarried limits x → ⊥
told_not limits x clocks r is tells failed can =
    let passed : r ≡ true = tells.1 (subst (λ (l : List ℕ). (sent : List ℕ) × (asked : ℕ) × IsOperation limits l sent asked) (sym is) can) in
    let both : true ≡ false = sym passed ∙ failed in cc
