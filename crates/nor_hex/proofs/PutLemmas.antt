-- Lemmas on lists and on what records put.
use Prim.Native.Nat.{zero}
use Rattle.std.proofs.Common.{◌≡◌, ◌⊎◌, inl, inr, ℕ, suc, ◌≤◌, Bool, true, false, ◌||◌, List, [], ◌∷◌, ◌++◌, reverse, length, take, slice_get, Some, refl, sym, ap, subst, ◌∙◌, arith}
use Rattle.std.specs.List.{list_any, find}
use Rattle.std.proofs.lemmas.List.{reverse-append}
use Rattle.nor_hex.proofs.ListLemmas.{get-left}
use Rattle.std.specs.Option.{option_map_or}
use Rattle.nor_hex.specs.declared.base.Base.TheVariants.{Linear}
use Rattle.nor_hex.specs.Record.{Record}
use Rattle.nor_hex.specs.Image.{Lays, Puts, base_in, base_after, is_base}
use Rattle.nor_hex.specs.Steps.{base_past}

-- ---- an element and what stands before it
pub take-append_left : {X : Type 0} (xs ys : List X) (i : ℕ) (x : X) → slice_get xs i ≡ Some x → take i (xs ++ ys) ≡ take i xs
take-append_left [] ys i x e = absurd cc
take-append_left (y ∷ xs) ys zero x e = refl
take-append_left (y ∷ xs) ys (suc i) x e = ap (λ zs. y ∷ zs) (take-append_left xs ys i x e)

pub get-append_here : {X : Type 0} (xs ys : List X) (x : X) → slice_get (xs ++ x ∷ ys) (length xs) ≡ Some x
get-append_here [] ys x = refl
get-append_here (y ∷ xs) ys x = get-append_here xs ys x

pub take-append_here : {X : Type 0} (xs ys : List X) → take (length xs) (xs ++ ys) ≡ xs
take-append_here [] ys = refl
take-append_here (y ∷ xs) ys = ap (λ zs. y ∷ zs) (take-append_here xs ys)

pub get-snoc : {X : Type 0} (xs : List X) (y : X) (i : ℕ) (x : X) → slice_get (xs ++ y ∷ []) i ≡ Some x → (slice_get xs i ≡ Some x) ⊎ ((i ≡ length xs) × (y ≡ x))
get-snoc [] y zero x e = inr (refl, cc)
get-snoc [] y (suc i) x e = absurd cc
get-snoc (z ∷ xs) y zero x e = inl e
get-snoc (z ∷ xs) y (suc i) x e = by (get-snoc xs y i x e)
  where
    by : (slice_get xs i ≡ Some x) ⊎ ((i ≡ length xs) × (y ≡ x)) → (slice_get (z ∷ xs) (suc i) ≡ Some x) ⊎ ((suc i ≡ length (z ∷ xs)) × (y ≡ x))
    by (inl f) = inl f
    by (inr p) = inr (ap suc p.0, p.1)

-- ---- what records put
pub puts_more : (records more : List Record) (address byte : ℕ) → Puts records address byte → Puts (records ++ more) address byte
puts_more records more address byte puts = record {
  place = puts.place;
  line = puts.line;
  here = get-left records more puts.place puts.line puts.here;
  lays = subst (λ earlier. Lays (base_after earlier) puts.line address byte) (sym (take-append_left records more puts.place puts.line puts.here)) puts.lays;
}

pub puts_last : (records : List Record) (line : Record) (address byte : ℕ) → Lays (base_after records) line address byte → Puts (records ++ line ∷ []) address byte
puts_last records line address byte lays = record {
  place = length records;
  line = line;
  here = get-append_here records [] line;
  lays = subst (λ earlier. Lays (base_after earlier) line address byte) (sym (take-append_here records (line ∷ []))) lays;
}

pub puts_split : (records : List Record) (last : Record) (address byte : ℕ) → Puts (records ++ last ∷ []) address byte → Puts records address byte ⊎ Lays (base_after records) last address byte
puts_split records last address byte puts = by (get-snoc records last puts.place puts.line puts.here)
  where
    by : (slice_get records puts.place ≡ Some puts.line) ⊎ ((puts.place ≡ length records) × (last ≡ puts.line)) → Puts records address byte ⊎ Lays (base_after records) last address byte
    by (inl e) = inl (record {
      place = puts.place;
      line = puts.line;
      here = e;
      lays = subst (λ earlier. Lays (base_after earlier) puts.line address byte) (take-append_left records (last ∷ []) puts.place puts.line e) puts.lays;
    })
    by (inr p) =
        let before : take puts.place (records ++ last ∷ []) ≡ records = ap (λ i. take i (records ++ last ∷ [])) p.0 ∙ take-append_here records (last ∷ []) in
        inr (subst (λ line. Lays (base_after records) line address byte) (sym p.1) (subst (λ earlier. Lays (base_after earlier) puts.line address byte) before puts.lays))

-- the base after one more record
pub base_after-last : (records : List Record) (last : Record) → base_past (base_after records) last ≡ base_after (records ++ last ∷ [])
base_after-last records last = by (is_base last) refl ∙ ap (λ back. option_map_or base_in (find is_base back) (Linear 0)) (sym (reverse-append records (last ∷ [])))
  where
    by : (b : Bool) → is_base last ≡ b → base_past (base_after records) last ≡ option_map_or base_in (find is_base (last ∷ reverse records)) (Linear 0)
    by true e = rw e refl
    by false e = rw e refl

-- ---- tests of lists
pub any-append : {X : Type 0} (test : X → Bool) (xs : List X) (y : X) → list_any test xs ≡ false → list_any test (xs ++ y ∷ []) ≡ test y
any-append test [] y none = by (test y)
  where
    by : (b : Bool) → (b || false) ≡ b
    by true = refl
    by false = refl
any-append test (x ∷ xs) y none = by (test x) none (any-append test xs y)
  where
    by : (b : Bool) → (b || list_any test xs) ≡ false → (list_any test xs ≡ false → list_any test (xs ++ y ∷ []) ≡ test y) → (b || list_any test (xs ++ y ∷ [])) ≡ test y
    by true e more = absurd cc
    by false e more = more e

pub any-take_more : {X : Type 0} (test : X → Bool) (xs : List X) (i j : ℕ) → i ≤ j → list_any test (take i xs) ≡ true → list_any test (take j xs) ≡ true
any-take_more test xs zero j h e = absurd cc
any-take_more test [] (suc i) j h e = absurd cc
any-take_more test (x ∷ xs) (suc i) zero h e = absurd (omega arith)
any-take_more test (x ∷ xs) (suc i) (suc j) h e = by (test x) e (any-take_more test xs i j (omega arith))
  where
    by : (b : Bool) → (b || list_any test (take i xs)) ≡ true → (list_any test (take i xs) ≡ true → list_any test (take j xs) ≡ true) → (b || list_any test (take j xs)) ≡ true
    by true e more = refl
    by false e more = more e
