-- The largest of some blocks, and the smallest.
use Rattle.std.proofs.Common.{◌≡◌, ◌⊎◌, ℕ, suc, ◌<◌, ◌≤◌, nat_lt, Bool, true, false, if◌then◌else◌, List, [], ◌∷◌, Option, Some, None, refl, sym, ◌∙◌, ap, arith, inl, inr}
use Rattle.std.specs.Prelude.{is_some}
use Rattle.std.proofs.lemmas.Bool.{cases_lt, ltb-true, ltb-false, le-ltb, le-leb}
use Rattle.nor_base.specs.Blocks.{Block, larger_of, smaller_of, best_of}

abbrev pub Among : List ℕ → ℕ → Type 0
Among [] k = ⊥
Among (j ∷ js) k = (j ≡ k) ⊎ Among js k

-- none of some kinds has a larger block
abbrev pub NoneLarger : (ℕ → Option Block) → List ℕ → Block → Type 0
NoneLarger of [] b = Unit {0}
NoneLarger of (k ∷ ks) b = ((c : Block) → of k ≡ Some c → c.size ≤ b.size) × NoneLarger of ks b

-- the block is the largest that some kinds have, and no kind before its own has one as large
abbrev pub Best : (ℕ → Option Block) → List ℕ → Block → Type 0
Best of [] b = ⊥
Best of (k ∷ ks) b = ((of k ≡ Some b) × NoneLarger of ks b) ⊎ (((c : Block) → of k ≡ Some c → c.size < b.size) × Best of ks b)

pub picked : (of : ℕ → Option Block) (ks : List ℕ) (b : Block) → Best of ks b → (k : ℕ) × (of k ≡ Some b)
picked of [] b h = absurd h
picked of (k ∷ ks) b (inl h) = (k, h.0)
picked of (k ∷ ks) b (inr h) = picked of ks b h.1

larger_still : (of : ℕ → Option Block) (ks : List ℕ) (b d : Block) → b.size ≤ d.size → NoneLarger of ks b → NoneLarger of ks d
larger_still of [] b d more h = tt
larger_still of (k ∷ ks) b d more h = ((λ c is. let fits = h.0 c is in omega (arith, fits)), larger_still of ks b d more h.1)

pub best_bounds : (of : ℕ → Option Block) (ks : List ℕ) (b : Block) → Best of ks b → NoneLarger of ks b
best_bounds of [] b h = absurd h
best_bounds of (k ∷ ks) b (inl h) = ((λ c is. let same : Some b ≡ Some c = sym h.0 ∙ is in let same' : b ≡ c = cc in let size : b.size ≡ c.size = ap (λ (d : Block). d.size) same' in omega arith), h.1)
best_bounds of (k ∷ ks) b (inr h) = ((λ c is. let below = h.0 c is in omega (arith, below)), best_bounds of ks b h.1)

bounded : (of : ℕ → Option Block) (ks : List ℕ) (b y : Block) → Best of ks y → NoneLarger of ks b → y.size ≤ b.size
bounded of [] b y h none = absurd h
bounded of (k ∷ ks) b y (inl h) none = none.0 y h.0
bounded of (k ∷ ks) b y (inr h) none = bounded of ks b y h.1 none.1

no_block : (c : Block) (o : Option Block) → o ≡ None → o ≡ Some c → ⊥
no_block c o none is = let both : None ≡ Some c = sym none ∙ is in cc

none_step : (of : ℕ → Option Block) (k : ℕ) (ks : List ℕ) (b : Block) (o r : Option Block) → of k ≡ o → best_of larger_of of ks ≡ r
    → (best_of larger_of of ks ≡ None → NoneLarger of ks b) → larger_of o r ≡ None → NoneLarger of (k ∷ ks) b
none_step of k ks b None r o_is r_is later h = ((λ c is. absurd (no_block c (of k) o_is is)), later (r_is ∙ h))
none_step of k ks b (Some x) None o_is r_is later h = cc
none_step of k ks b (Some x) (Some y) o_is r_is later h = by_size (nat_lt x.size y.size) h
  where
    by_size : (t : Bool) → (if t then Some y else Some x) ≡ None → NoneLarger of (k ∷ ks) b
    by_size true h = cc
    by_size false h = cc

none_at_all : (of : ℕ → Option Block) (ks : List ℕ) (b : Block) → best_of larger_of of ks ≡ None → NoneLarger of ks b
none_at_all of [] b h = tt
none_at_all of (k ∷ ks) b h = none_step of k ks b (of k) (best_of larger_of of ks) refl refl (none_at_all of ks b) h

best_step : (of : ℕ → Option Block) (k : ℕ) (ks : List ℕ) (b : Block) (o r : Option Block) → of k ≡ o → best_of larger_of of ks ≡ r
    → ((c : Block) → best_of larger_of of ks ≡ Some c → Best of ks c) → larger_of o r ≡ Some b → Best of (k ∷ ks) b
best_step of k ks b None r o_is r_is later h = inr ((λ c is. absurd (no_block c (of k) o_is is)), later b (r_is ∙ h))
best_step of k ks b (Some x) None o_is r_is later h = let same : x ≡ b = cc in
    inl (o_is ∙ ap (λ (d : Block). Some d) same, none_at_all of ks b r_is)
best_step of k ks b (Some x) (Some y) o_is r_is later h = by_size (nat_lt x.size y.size) refl h
  where
    by_size : (t : Bool) → nat_lt x.size y.size ≡ t → (if t then Some y else Some x) ≡ Some b → Best of (k ∷ ks) b
    by_size true less h =
        let same : y ≡ b = cc in
        let size : y.size ≡ b.size = ap (λ (d : Block). d.size) same in
        inr (
          (λ c is.
              let first : Some x ≡ Some c = sym o_is ∙ is in
              let first' : x ≡ c = cc in
              let size' : x.size ≡ c.size = ap (λ (d : Block). d.size) first' in
              omega (arith, ltb-true x.size y.size less, size, size')),
          later b (r_is ∙ ap (λ (d : Block). Some d) same),
        )
    by_size false more h =
        let same : x ≡ b = cc in
        let size : x.size ≡ b.size = ap (λ (d : Block). d.size) same in
        inl (
          o_is ∙ ap (λ (d : Block). Some d) same,
          larger_still of ks y b (omega (arith, ltb-false x.size y.size more, size)) (best_bounds of ks y (later y r_is)),
        )

pub best_is : (of : ℕ → Option Block) (ks : List ℕ) (b : Block) → best_of larger_of of ks ≡ Some b → Best of ks b
best_is of [] b h = cc
best_is of (k ∷ ks) b h = best_step of k ks b (of k) (best_of larger_of of ks) refl refl (best_is of ks) h

pub is_best : (of : ℕ → Option Block) (ks : List ℕ) (b : Block) → Best of ks b → best_of larger_of of ks ≡ Some b
is_best of [] b h = absurd h
is_best of (k ∷ ks) b (inl h) = rw h.0 (by_rest (best_of larger_of of ks) refl)
  where
    by_rest : (r : Option Block) → best_of larger_of of ks ≡ r → larger_of (Some b) r ≡ Some b
    by_rest None r_is = refl
    by_rest (Some y) r_is = rw (le-ltb b.size y.size (bounded of ks b y (best_is of ks y r_is) h.1)) refl
is_best of (k ∷ ks) b (inr h) = rw (is_best of ks b h.1) (by_first (of k) refl)
  where
    by_first : (o : Option Block) → of k ≡ o → larger_of o (Some b) ≡ Some b
    by_first None o_is = refl
    by_first (Some x) o_is = let less = h.0 x o_is in rw (le-leb (suc x.size) b.size less) refl

-- where another look-up has the block too, and none as large that this one hasn't, it is the best there as well
none_larger_moves : (of other : ℕ → Option Block) (b : Block) (ks : List ℕ) → ((k : ℕ) (c : Block) → other k ≡ Some c → b.size ≤ c.size → of k ≡ Some c)
    → NoneLarger of ks b → NoneLarger other ks b
none_larger_moves of other b [] back h = tt
none_larger_moves of other b (k ∷ ks) back h = (
  (λ c is. elim (cases_lt b.size c.size) [ inl less ↦ h.0 c (back k c is (omega arith)) | inr more ↦ more ]),
  none_larger_moves of other b ks back h.1,
)

pub best_moves : (of other : ℕ → Option Block) (b : Block) (ks : List ℕ) → ((k : ℕ) → of k ≡ Some b → other k ≡ Some b)
    → ((k : ℕ) (c : Block) → other k ≡ Some c → b.size ≤ c.size → of k ≡ Some c) → Best of ks b → Best other ks b
best_moves of other b [] on back h = absurd h
best_moves of other b (k ∷ ks) on back (inl h) = inl (on k h.0, none_larger_moves of other b ks back h.1)
best_moves of other b (k ∷ ks) on back (inr h) =
    inr ((λ c is. elim (cases_lt c.size b.size) [ inl less ↦ less | inr more ↦ h.0 c (back k c is more) ]), best_moves of other b ks on back h.1)

-- where a kind has a block, some block is the best
pub some_best : (of : ℕ → Option Block) (ks : List ℕ) (k : ℕ) (c : Block) → Among ks k → of k ≡ Some c → is_some (best_of larger_of of ks) ≡ true
some_best of [] k c among is = absurd among
some_best of (j ∷ js) k c (inl same) is = by_rest (best_of larger_of of js) (of j) (ap of same ∙ is)
  where
    by_rest : (r o : Option Block) → o ≡ Some c → is_some (larger_of o r) ≡ true
    by_rest r None o_is = cc
    by_rest None (Some x) o_is = refl
    by_rest (Some y) (Some x) o_is = by_size (nat_lt x.size y.size)
      where
        by_size : (t : Bool) → is_some (if t then Some y else Some x) ≡ true
        by_size true = refl
        by_size false = refl
some_best of (j ∷ js) k c (inr later) is = by_first (of j) (best_of larger_of of js) (some_best of js k c later is)
  where
    by_first : (o r : Option Block) → is_some r ≡ true → is_some (larger_of o r) ≡ true
    by_first None r h = h
    by_first (Some x) None h = refl
    by_first (Some x) (Some y) h = by_size (nat_lt x.size y.size)
      where
        by_size : (t : Bool) → is_some (if t then Some y else Some x) ≡ true
        by_size true = refl
        by_size false = refl

-- the smallest: some kind has it, and none has a smaller one
pub record IsSmallestOf (of : ℕ → Option Block) (ks : List ℕ) (b : Block) : Type 0 where
  pub kind : ℕ
  pub has : of kind ≡ Some b
  pub least : (k : ℕ) (c : Block) → Among ks k → of k ≡ Some c → b.size ≤ c.size

same_size : (b c : Block) (o : Option Block) → o ≡ Some b → o ≡ Some c → b.size ≡ c.size
same_size b c o is also = let both : Some b ≡ Some c = sym is ∙ also in let same : b ≡ c = cc in ap (λ (d : Block). d.size) same

none_small_step : (of : ℕ → Option Block) (j : ℕ) (js : List ℕ) (k : ℕ) (c : Block) (o r : Option Block) → of j ≡ o → best_of smaller_of of js ≡ r
    → (best_of smaller_of of js ≡ None → Among js k → ⊥) → smaller_of o r ≡ None → (j ≡ k) ⊎ Among js k → of k ≡ Some c → ⊥
none_small_step of j js k c None r o_is r_is later h (inl same) is = no_block c (of j) o_is (ap of same ∙ is)
none_small_step of j js k c None r o_is r_is later h (inr more) is = later (r_is ∙ h) more
none_small_step of j js k c (Some x) None o_is r_is later h among is = cc
none_small_step of j js k c (Some x) (Some y) o_is r_is later h among is = by_size (nat_lt y.size x.size) h
  where
    by_size : (t : Bool) → (if t then Some y else Some x) ≡ None → ⊥
    by_size true h = cc
    by_size false h = cc

pub none_small : (of : ℕ → Option Block) (ks : List ℕ) → best_of smaller_of of ks ≡ None → (k : ℕ) (c : Block) → Among ks k → of k ≡ Some c → ⊥
none_small of [] h k c among is = absurd among
none_small of (j ∷ js) h k c among is =
    none_small_step of j js k c (of j) (best_of smaller_of of js) refl refl (λ none more. none_small of js none k c more is) h among is

small_step : (of : ℕ → Option Block) (j : ℕ) (js : List ℕ) (b : Block) (o r : Option Block) → of j ≡ o → best_of smaller_of of js ≡ r
    → ((c : Block) → best_of smaller_of of js ≡ Some c → IsSmallestOf of js c) → smaller_of o r ≡ Some b → IsSmallestOf of (j ∷ js) b
small_step of j js b None r o_is r_is later h =
    let rest = later b (r_is ∙ h) in
    record { kind = rest.kind; has = rest.has; least = λ k c among is. elim among [ inl same ↦ absurd (no_block c (of j) o_is (ap of same ∙ is)) | inr more ↦ rest.least k c more is ] }
small_step of j js b (Some x) None o_is r_is later h =
    let same : x ≡ b = cc in
    let has : of j ≡ Some b = o_is ∙ ap (λ (d : Block). Some d) same in
    record {
      kind = j;
      has = has;
      least = λ k c among is. elim among [
        | inl here ↦ let size = same_size b c (of j) has (ap of here ∙ is) in omega arith
        | inr more ↦ absurd (none_small of js r_is k c more is)
      ];
    }
small_step of j js b (Some x) (Some y) o_is r_is later h = by_size (nat_lt y.size x.size) refl h
  where
    by_size : (t : Bool) → nat_lt y.size x.size ≡ t → (if t then Some y else Some x) ≡ Some b → IsSmallestOf of (j ∷ js) b
    by_size true less h =
        let same : y ≡ b = cc in
        let size : y.size ≡ b.size = ap (λ (d : Block). d.size) same in
        let rest = later b (r_is ∙ ap (λ (d : Block). Some d) same) in
        record {
          kind = rest.kind;
          has = rest.has;
          least = λ k c among is. elim among [
            | inl here ↦ let first = same_size x c (of j) o_is (ap of here ∙ is) in omega (arith, first, size, ltb-true y.size x.size less)
            | inr more ↦ rest.least k c more is
          ];
        }
    by_size false more h =
        let same : x ≡ b = cc in
        let has : of j ≡ Some b = o_is ∙ ap (λ (d : Block). Some d) same in
        let size : x.size ≡ b.size = ap (λ (d : Block). d.size) same in
        record {
          kind = j;
          has = has;
          least = λ k c among is. elim among [
            | inl here ↦ let first = same_size b c (of j) has (ap of here ∙ is) in omega arith
            | inr later' ↦ let rest = (later y r_is).least k c later' is in omega (arith, rest, size, ltb-false y.size x.size more)
          ];
        }

pub smallest_of : (of : ℕ → Option Block) (ks : List ℕ) (b : Block) → best_of smaller_of of ks ≡ Some b → IsSmallestOf of ks b
smallest_of of [] b h = cc
smallest_of of (j ∷ js) b h = small_step of j js b (of j) (best_of smaller_of of js) refl refl (smallest_of of js) h
