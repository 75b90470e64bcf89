-- An image of just some bytes is the list of them.
use Rattle.std.proofs.Common.{◌≡◌, ◌≢◌, ◌⊎◌, inl, inr, ℕ, zero, suc, ◌+◌, ◌<◌, Bool, true, false, nat_eq, List, [], ◌∷◌, replicate, slice_get, Some, refl, sym, ap, ap₂, ◌∙◌, arith}
use Rattle.std.specs.List.{enumerate_from}
use Rattle.std.specs.List.Sorted.{IsStrictlyIncreasing}
use Rattle.std.proofs.lemmas.Bool.{eq-eqb, ne_eqb}
use Rattle.std.proofs.lemmas.Bool.Decides.{eqb_tells}
use Rattle.nor_hex.specs.Image.{Pairs, addresses, byte_at}
use Rattle.nor_hex.specs.Pieces.{LaysRun}
use Rattle.nor_hex.specs.Union.{HasJust}
use Rattle.norprog_flash.specs.Task.{blank_image}

tail_up : (p : ℕ × ℕ) (ps : Pairs) → IsStrictlyIncreasing (addresses (p ∷ ps)) → IsStrictlyIncreasing (addresses ps)
tail_up p ps up = λ k h. let e : suc k + 1 ≡ suc (k + 1) = omega arith in let further = up (suc k) (omega arith) in (rw e at further)

-- later addresses are higher
above : (p : ℕ × ℕ) (ps : Pairs) (x y : ℕ) → IsStrictlyIncreasing (addresses (p ∷ ps)) → byte_at ps x ≡ Some y → p.0 < x
above p [] x y up e = absurd cc
above p (q ∷ qs) x y up e = by (eqb_tells x q.0) e (λ rest. above q qs x y (tail_up p (q ∷ qs) up) rest)
  where
    first : p.0 < q.0
    first = up 0 (omega arith)

    by : ((nat_eq x q.0 ≡ true) × (x ≡ q.0)) ⊎ ((nat_eq x q.0 ≡ false) × (x ≢ q.0)) → byte_at (q ∷ qs) x ≡ Some y → (byte_at qs x ≡ Some y → q.0 < x) → p.0 < x
    by (inl same) f later = let is = same.1 in omega (arith, is, first)
    by (inr apart) f later =
        let rest : byte_at qs x ≡ Some y = rw apart.0 at f in
        let more = later rest in
        omega (arith, more, first)

at_head : (p : ℕ × ℕ) (ps : Pairs) → byte_at (p ∷ ps) p.0 ≡ Some p.1
at_head p ps = rw (eq-eqb p.0 p.0 refl) refl

past_head : (p : ℕ × ℕ) (ps : Pairs) (x y : ℕ) → x ≢ p.0 → byte_at (p ∷ ps) x ≡ Some y → byte_at ps x ≡ Some y
past_head p ps x y other e = rw (ne_eqb x p.0 other) at e

before_tail : (p : ℕ × ℕ) (ps : Pairs) (x y : ℕ) → x ≢ p.0 → byte_at ps x ≡ Some y → byte_at (p ∷ ps) x ≡ Some y
before_tail p ps x y other e = rw (ne_eqb x p.0 other) e

module _ (at b : ℕ) (bs : List ℕ) (p : ℕ × ℕ) (ps : Pairs) (is : HasJust at (b ∷ bs) (p ∷ ps)) where
  here : byte_at (p ∷ ps) at ≡ Some b
  here = is.laid at b (record { index = 0; byte_is = refl; at_is = omega arith })

  lays : LaysRun at (b ∷ bs) p.0 p.1
  lays = is.given p.0 p.1 (at_head p ps)

  address : p.0 ≡ at
  address = by (eqb_tells at p.0)
    where
      by : ((nat_eq at p.0 ≡ true) × (at ≡ p.0)) ⊎ ((nat_eq at p.0 ≡ false) × (at ≢ p.0)) → p.0 ≡ at
      by (inl same) = sym same.1
      by (inr apart) =
          let low = lays.at_is in
          let high = above p ps at b is.rising (past_head p ps at b apart.1 here) in
          absurd (omega (arith, low, high))

  byte : p.1 ≡ b
  byte =
      let there : Some p.1 ≡ Some b = sym (at_head p ps) ∙ (ap (byte_at (p ∷ ps)) address ∙ here) in
      cc

  rest : HasJust (at + 1) bs ps
  rest = record {
    rising = tail_up p ps is.rising;
    given = λ x y e. given x y (above p ps x y is.rising e) (is.given x y (before_tail p ps x y (λ same. let high = above p ps x y is.rising e in omega (arith, same, high)) e));
    laid = λ x y run.
        let place = run.at_is in
        past_head p ps x y (λ same. omega (arith, same, place, address))
        (is.laid x y (record { index = suc run.index; byte_is = run.byte_is; at_is = omega (arith, place) }));
  }
    where
      further : (x y i : ℕ) → p.0 < x → slice_get (b ∷ bs) i ≡ Some y → at + i ≡ x → LaysRun (at + 1) bs x y
      further x y zero high e place = absurd (omega (arith, high, place, address))
      further x y (suc i) high e place = record { index = i; byte_is = e; at_is = omega (arith, place) }

      given : (x y : ℕ) → p.0 < x → LaysRun at (b ∷ bs) x y → LaysRun (at + 1) bs x y
      given x y high run = further x y run.index high run.byte_is run.at_is

pub just_is : (at : ℕ) (bytes : List ℕ) (image : Pairs) → HasJust at bytes image → image ≡ enumerate_from at bytes
just_is at [] [] is = refl
just_is at [] (p ∷ ps) is = let run = is.given p.0 p.1 (at_head p ps) in let none = run.byte_is in absurd cc
just_is at (b ∷ bs) [] is =
    let there : byte_at [] at ≡ Some b = is.laid at b (record { index = 0; byte_is = refl; at_is = omega arith }) in
    absurd cc
just_is at (b ∷ bs) (p ∷ ps) is =
    let pair : ◌≡◌ {A = ℕ × ℕ} p (at, b) = ap₂ (λ x y. (x, y)) (address at b bs p ps is) (byte at b bs p ps is) in
    ap₂ (λ (q : ℕ × ℕ) (qs : Pairs). q ∷ qs) pair (just_is (at + 1) bs ps (rest at b bs p ps is))

-- a blank image, by its bytes
pub blank_is : (blank : Bool) (size : ℕ) (bytes : List ℕ) (image : Pairs) → blank ≡ true → bytes ≡ replicate size 0xFF → HasJust 0 bytes image
    → Some image ≡ blank_image blank size
blank_is false size bytes image asked is just = absurd cc
blank_is true size bytes image asked is just = ap (λ i. Some i) (just_is 0 bytes image just ∙ ap (enumerate_from 0) is)
