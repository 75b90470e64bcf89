-- What the first calls of `next` say of the list that an iterator gives.
use Rattle.std.proofs.Common.{◌≡◌, ℕ, ◌<◌, List, [], ◌∷◌, length, Option, Some, None, refl, sym, ap, arith}
use Rattle.std.proofs.lemmas.Iterator.{YieldsList}
use Rattle.std.proofs.lemmas.Iterator.Consumers.{YieldsList-turn, YieldsList-end}
use Rattle.nor_layout.specs.Fields.{exactly_two}

-- more than two lists aren't exactly two
none_from_more : (all : List (List ℕ)) → 2 < length all → exactly_two all ≡ None
none_from_more [] more = absurd (omega arith)
none_from_more (first ∷ []) more = absurd (omega arith)
none_from_more (first ∷ second ∷ []) more = absurd (omega arith)
none_from_more (first ∷ second ∷ third ∷ others) more = refl

module _ {S A : Type 0} {steps : S → Option A → S → Type 0} {v : A → List ℕ} {s : S} {all : List (List ℕ)} (road : YieldsList steps v s all) where
  -- the end at once
  pub none_given : (given : Option A) (t : S) → given ≡ None → steps s given t → exactly_two all ≡ None
  none_given given t is_none end = ap exactly_two (sym (YieldsList-end road [] s refl given t is_none end).0)

  -- one item, then the end
  pub one_given : (x : A) (t u : S) → steps s (Some x) t → steps t None u → exactly_two all ≡ None
  one_given x t u first end = ap exactly_two (sym (YieldsList-end road (x ∷ []) t (t, first, refl) None u refl end).0)

  -- two items, then the end
  pub two_given : (x y : A) (t u w : S) → steps s (Some x) t → steps t (Some y) u → steps u None w → exactly_two all ≡ Some (v x, v y)
  two_given x y t u w first second end = ap exactly_two (sym (YieldsList-end road (x ∷ y ∷ []) u (t, first, (u, second, refl)) None w refl end).0)

  -- three items
  pub three_given : (x y z : A) (t u w : S) → steps s (Some x) t → steps t (Some y) u → steps u (Some z) w → exactly_two all ≡ None
  three_given x y z t u w first second third =
      none_from_more all (YieldsList-turn road (x ∷ y ∷ []) u (t, first, (u, second, refl)) (Some z) w z refl third).0
