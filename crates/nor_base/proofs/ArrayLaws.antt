-- An array by its addresses, and what an erase leaves of it.
use Rattle.std.proofs.Common.{◌≡◌, ℕ, zero, suc, ◌+◌, ◌<◌, ◌≤◌, nat_le, nat_lt, Bool, true, false, ◌&&◌, ◌||◌, List, [], ◌∷◌, length, get_or, refl, sym, ◌∙◌, ap, subst, arith, inl, inr}
use Rattle.std.specs.List.{list_any, enumerate_from, slice_index}
use Rattle.std.proofs.Math.Bool.{and-false}
use Rattle.std.proofs.lemmas.Bool.{cases_lt, le-ltb, le-leb, lt-leb, or_parts}
use Rattle.std.proofs.lemmas.List.{length-map, get_or-map, get_or_past}
use Rattle.std.proofs.lemmas.List.FromFn.{length-enumerate_from, get_or-enumerate_from}
use Rattle.nor_base.specs.Array.{each, some, IsOutside}
use Rattle.nor_base.specs.Effect.{erased}

pub length-each : (f : ℕ → ℕ → ℕ) (array : List ℕ) → length (each f array) ≡ length array
length-each f array = length-map (enumerate_from 0 array) (λ p. f p.0 p.1) ∙ length-enumerate_from 0 array

pub slice_index-each : (f : ℕ → ℕ → ℕ) (array : List ℕ) (x : ℕ) → x < length array → slice_index (each f array) x ≡ f x (slice_index array x)
slice_index-each f array x fits =
    let numbered : x < length (enumerate_from 0 array) = omega (arith, length-enumerate_from 0 array) in
    get_or-map (λ p. f p.0 p.1) (enumerate_from 0 array) x (0, 0) 0 numbered
    ∙ ap (λ (p : ℕ × ℕ). f p.0 p.1) (get_or-enumerate_from 0 array x (0, 0) fits)
    ∙ ap (λ at. f at (get_or array x 0)) (omega arith)

-- where each byte stays, whatever it is, the array stays
pub each_keeps : (f : ℕ → ℕ → ℕ) (array : List ℕ) (x : ℕ) → ((old : ℕ) → f x old ≡ old) → slice_index (each f array) x ≡ slice_index array x
each_keeps f array x keeps = elim (cases_lt x (length array)) [
  | inl fits ↦ slice_index-each f array x fits ∙ keeps (slice_index array x)
  | inr past ↦
      let past_each : length (each f array) ≤ x = omega (arith, length-each f array) in
      get_or_past (each f array) x 0 past_each ∙ sym (get_or_past array x 0 past)
]

-- two arrays on which a test tells the same at each address
pub some_same : (test : ℕ → ℕ → Bool) (n : ℕ) (xs ys : List ℕ) → length xs ≡ length ys
    → ((k : ℕ) → k < length xs → test (n + k) (get_or xs k 0) ≡ test (n + k) (get_or ys k 0))
    → list_any (λ p. test p.0 p.1) (enumerate_from n xs) ≡ list_any (λ p. test p.0 p.1) (enumerate_from n ys)
some_same test n [] [] lengths same = refl
some_same test n [] (y ∷ ys) lengths same = absurd (omega arith)
some_same test n (x ∷ xs) [] lengths same = absurd (omega arith)
some_same test n (x ∷ xs) (y ∷ ys) lengths same =
    let start : n + 0 ≡ n = omega arith in
    let here : test n x ≡ test n y = ap (λ m. test m x) (sym start) ∙ same 0 (omega arith) ∙ ap (λ m. test m y) start in
    let lengths' : length xs ≡ length ys = omega arith in
    let same' : (k : ℕ) → k < length xs → test ((n + 1) + k) (get_or xs k 0) ≡ test ((n + 1) + k) (get_or ys k 0) = λ k fits.
    let moved : n + suc k ≡ (n + 1) + k = omega arith in
    ap (λ m. test m (get_or xs k 0)) (sym moved) ∙ same (suc k) (omega arith) ∙ ap (λ m. test m (get_or ys k 0)) moved in
    ap (λ b. b || list_any (λ p. test p.0 p.1) (enumerate_from (n + 1) xs)) here
    ∙ ap (λ b. test n y || b) (some_same test (n + 1) xs ys lengths' same')

-- a test that no byte passes fails at each address
none_pass : (test : ℕ → ℕ → Bool) (n : ℕ) (xs : List ℕ) (x : ℕ) → list_any (λ p. test p.0 p.1) (enumerate_from n xs) ≡ false → x < length xs
    → test (n + x) (get_or xs x 0) ≡ false
none_pass test n [] x h fits = absurd (omega arith)
none_pass test n (y ∷ ys) zero h fits =
    let start : n ≡ n + 0 = omega arith in
    subst (λ m. test m y ≡ false) start (or_parts (test n y) _ h).0
none_pass test n (y ∷ ys) (suc x) h fits =
    let moved : (n + 1) + x ≡ n + suc x = omega arith in
    subst (λ m. test m (get_or ys x 0) ≡ false) moved (none_pass test (n + 1) ys x (or_parts (test n y) _ h).1 (omega arith))

pub some-false : (test : ℕ → ℕ → Bool) (array : List ℕ) (x : ℕ) → some test array ≡ false → x < length array → test x (slice_index array x) ≡ false
some-false test array x h fits =
    let start : 0 + x ≡ x = omega arith in
    subst (λ m. test m (get_or array x 0) ≡ false) start (none_pass test 0 array x h fits)

-- where some byte passes, it has an address
pub record Passes (test : ℕ → ℕ → Bool) (n : ℕ) (xs : List ℕ) : Type 0 where
  pub at : ℕ
  pub inside : at < length xs
  pub passes : test (n + at) (get_or xs at 0) ≡ true

passes_here : (test : ℕ → ℕ → Bool) (n y : ℕ) (ys : List ℕ) → test n y ≡ true → Passes test n (y ∷ ys)
passes_here test n y ys is = let start : n ≡ n + 0 = omega arith in
    record { at = 0; inside = omega arith; passes = subst (λ m. test m y ≡ true) start is }

passes_later : (test : ℕ → ℕ → Bool) (n y : ℕ) (ys : List ℕ) → Passes test (n + 1) ys → Passes test n (y ∷ ys)
passes_later test n y ys later = let moved : (n + 1) + later.at ≡ n + suc later.at = omega arith in record {
  at = suc later.at;
  inside = omega (arith, later.inside);
  passes = subst (λ m. test m (get_or ys later.at 0) ≡ true) moved later.passes;
}

passes_step : (test : ℕ → ℕ → Bool) (n y : ℕ) (ys : List ℕ) (b : Bool) → test n y ≡ b
    → (list_any (λ p. test p.0 p.1) (enumerate_from (n + 1) ys) ≡ true → Passes test (n + 1) ys)
    → b || list_any (λ p. test p.0 p.1) (enumerate_from (n + 1) ys) ≡ true → Passes test n (y ∷ ys)
passes_step test n y ys true is later h = passes_here test n y ys is
passes_step test n y ys false is later h = passes_later test n y ys (later h)

some_passes : (test : ℕ → ℕ → Bool) (n : ℕ) (xs : List ℕ) → list_any (λ p. test p.0 p.1) (enumerate_from n xs) ≡ true → Passes test n xs
some_passes test n [] h = cc
some_passes test n (y ∷ ys) h = passes_step test n y ys (test n y) refl (some_passes test (n + 1) ys) h

pub some-true : (test : ℕ → ℕ → Bool) (array : List ℕ) → some test array ≡ true → Passes test 0 array
some-true test array h = some_passes test 0 array h

not_in_block : (start end x : ℕ) → IsOutside start end x → nat_le start x && nat_lt x end ≡ false
not_in_block start end x outside = elim outside [
  | inl low ↦ ap (λ b. b && nat_lt x end) (lt-leb start x low)
  | inr high ↦ ap (λ b. nat_le start x && b) (le-ltb x end high) ∙ and-false (nat_le start x)
]

pub erased_keeps : (start size : ℕ) (array : List ℕ) (x : ℕ) → IsOutside start (start + size) x → slice_index (erased start size array) x ≡ slice_index array x
unfolding erased
erased_keeps start size array x outside = each_keeps _ array x (λ old. rw (not_in_block start (start + size) x outside) refl)

in_block : (start end x : ℕ) → start ≤ x → x < end → nat_le start x && nat_lt x end ≡ true
in_block start end x from upto = rw (le-leb start x from) (le-leb (suc x) end upto)

pub erased_fills : (start size : ℕ) (array : List ℕ) (x : ℕ) → x < length array → start ≤ x → x < start + size → slice_index (erased start size array) x ≡ 255
unfolding erased
erased_fills start size array x inside from upto = slice_index-each _ array x inside ∙ rw (in_block start (start + size) x from upto) refl
