-- Blocks of rising size, one more among them.
use Rattle.std.proofs.Common.{◌≡◌, ◌⊎◌, ℕ, suc, ◌+◌, ◌<◌, ◌≤◌, nat_lt, Bool, true, false, if◌then◌else◌, List, [], ◌∷◌, ◌++◌, length, take, drop, get_or, refl, sym, ◌∙◌, ap, arith, inl, inr}
use Rattle.std.specs.List.{AllByRecursion, insert, All, AllPairs}
use Rattle.std.proofs.lemmas.Bool.{cases_lt, le-ltb, le-leb}
use Rattle.std.proofs.lemmas.List.{take-append-drop}
use Rattle.std.proofs.Math.Seq.{take-length, drop-cons}
use Rattle.std.proofs.lemmas.List.Elements.{All-nil, All-cons}
use Rattle.std.proofs.lemmas.List.Kept.{AllPairs-cons}
use Rattle.nor_base.specs.Blocks.{Block}
use Rattle.nor_geometry.specs.Takes.{with_block}

less : (b c : Block) → b.size < c.size → nat_lt b.size c.size ≡ true
less b c h = le-leb (suc b.size) c.size h

more : (b c : Block) → c.size ≤ b.size → nat_lt b.size c.size ≡ false
more b c h = le-ltb b.size c.size h

first_smaller : (b c : Block) (cs : List Block) → b.size < c.size → with_block b (c ∷ cs) ≡ b ∷ (c ∷ cs)
first_smaller b c cs h = rw (less b c h) refl

first_larger : (b c : Block) (cs : List Block) → c.size < b.size → with_block b (c ∷ cs) ≡ c ∷ with_block b cs
first_larger b c cs h = rw (more b c (omega arith), less c b h) refl

first_equal : (b c : Block) (cs : List Block) → b.size ≡ c.size → with_block b (c ∷ cs) ≡ c ∷ cs
first_equal b c cs h = rw (more b c (omega arith), more c b (omega arith)) refl

pub put_here : (b c : Block) (xs : List Block) (i : ℕ) → i < length xs → get_or xs i c ≡ c → b.size < c.size
    → with_block b xs ≡ take i xs ++ with_block b (drop i xs) → insert xs i b ≡ with_block b xs
put_here b c xs i inside is smaller rest =
    let front : drop i xs ≡ c ∷ drop (suc i) xs = drop-cons xs i c inside ∙ ap (λ x. x ∷ drop (suc i) xs) is in
    let found : with_block b (drop i xs) ≡ b ∷ drop i xs = ap (with_block b) front ∙ first_smaller b c (drop (suc i) xs) smaller ∙ ap (λ ys. b ∷ ys) (sym front) in
    sym (rest ∙ ap (λ ys. take i xs ++ ys) found)

pub there_already : (b c : Block) (xs : List Block) (i : ℕ) → i < length xs → get_or xs i c ≡ c → b.size ≡ c.size
    → with_block b xs ≡ take i xs ++ with_block b (drop i xs) → xs ≡ with_block b xs
there_already b c xs i inside is equal rest =
    let front : drop i xs ≡ c ∷ drop (suc i) xs = drop-cons xs i c inside ∙ ap (λ x. x ∷ drop (suc i) xs) is in
    let found : with_block b (drop i xs) ≡ drop i xs = ap (with_block b) front ∙ first_equal b c (drop (suc i) xs) equal ∙ sym front in
    sym (rest ∙ ap (λ ys. take i xs ++ ys) found ∙ take-append-drop i xs)

drop_all : (xs : List Block) → drop (length xs) xs ≡ []
drop_all [] = refl
drop_all (x ∷ xs) = drop_all xs

pub at_the_end : (b : Block) (xs : List Block) (i : ℕ) → i ≡ length xs → with_block b xs ≡ take i xs ++ with_block b (drop i xs) → xs ++ b ∷ [] ≡ with_block b xs
at_the_end b xs i end rest =
    let all : take i xs ≡ xs = ap (λ n. take n xs) end ∙ take-length xs in
    let none : drop i xs ≡ [] = ap (λ n. drop n xs) end ∙ drop_all xs in
    sym (rest ∙ ap (λ ys. ys ++ with_block b (drop i xs)) all ∙ ap (λ ys. xs ++ with_block b ys) none)

-- a block of the list with another's size, of no higher kind
abbrev pub Covers : List Block → Block → Type 0
Covers [] c = ⊥
Covers (b ∷ bs) c = ((b.size ≡ c.size) × (b.kind ≤ c.kind)) ⊎ Covers bs c

-- all are larger
abbrev pub AreAbove : ℕ → List Block → Type 0
AreAbove n [] = Unit {0}
AreAbove n (b ∷ bs) = (n < b.size) × AreAbove n bs

abbrev pub IsRising : List Block → Type 0
IsRising [] = Unit {0}
IsRising (b ∷ bs) = AreAbove b.size bs × IsRising bs

higher : (n o : ℕ) (bs : List Block) → n ≤ o → AreAbove o bs → AreAbove n bs
higher n o [] le h = tt
higher n o (b ∷ bs) le h = (omega (arith, h.0), higher n o bs le h.1)

above_with : (n : ℕ) (b : Block) (cs : List Block) → n < b.size → AreAbove n cs → AreAbove n (with_block b cs)
above_with n b [] low h = (low, tt)
above_with n b (c ∷ cs) low h = by_first (nat_lt b.size c.size) (nat_lt c.size b.size) (above_with n b cs low h.1)
  where
    by_first : (s t : Bool) → AreAbove n (with_block b cs) → AreAbove n (if s then b ∷ (c ∷ cs) else if t then c ∷ with_block b cs else c ∷ cs)
    by_first true t later = (low, h)
    by_first false true later = (h.0, later)
    by_first false false later = h

pub rising_with : (b : Block) (cs : List Block) → IsRising cs → IsRising (with_block b cs)
rising_with b [] h = (tt, tt)
rising_with b (c ∷ cs) h = elim (cases_lt b.size c.size) [
  | inl smaller ↦ rw (first_smaller b c cs smaller) ((smaller, higher b.size c.size cs (omega arith) h.0), h)
  | inr fits ↦ elim (cases_lt c.size b.size) [
    | inl larger ↦ rw (first_larger b c cs larger) (above_with c.size b cs larger h.0, rising_with b cs h.1)
    | inr fits' ↦ rw (first_equal b c cs (omega arith)) h
  ]
]

pub each_with : (P : Block → Type 0) (b : Block) (cs : List Block) → P b → AllByRecursion P cs → AllByRecursion P (with_block b cs)
each_with P b [] here h = (here, tt)
each_with P b (c ∷ cs) here h = by_first (nat_lt b.size c.size) (nat_lt c.size b.size) (each_with P b cs here h.1)
  where
    by_first : (s t : Bool) → AllByRecursion P (with_block b cs) → AllByRecursion P (if s then b ∷ (c ∷ cs) else if t then c ∷ with_block b cs else c ∷ cs)
    by_first true t later = (here, h)
    by_first false true later = (h.0, later)
    by_first false false later = h

-- a block that was covered still is
pub covers_still : (b : Block) (cs : List Block) (x : Block) → Covers cs x → Covers (with_block b cs) x
covers_still b [] x h = absurd h
covers_still b (c ∷ cs) x h = by_first (nat_lt b.size c.size) (nat_lt c.size b.size) (covers_still b cs x) h
  where
    by_first : (s t : Bool) → (Covers cs x → Covers (with_block b cs) x) → ((c.size ≡ x.size) × (c.kind ≤ x.kind)) ⊎ Covers cs x → Covers (if s then b ∷ (c ∷ cs) else if t then c ∷ with_block b cs else c ∷ cs) x
    by_first true t still h = inr h
    by_first false true still (inl here) = inl here
    by_first false true still (inr later) = inr (still later)
    by_first false false still h = h

-- and so is the new one, where no kind of the list is higher than its
pub covers_new : (b : Block) (cs : List Block) → AllByRecursion (λ c. c.kind ≤ b.kind) cs → Covers (with_block b cs) b
covers_new b [] h = inl (refl, omega arith)
covers_new b (c ∷ cs) h = elim (cases_lt b.size c.size) [
  | inl smaller ↦ rw (first_smaller b c cs smaller) (inl (refl, omega arith))
  | inr fits ↦ elim (cases_lt c.size b.size) [
    | inl larger ↦ rw (first_larger b c cs larger) (inr (covers_new b cs h.1))
    | inr fits' ↦ rw (first_equal b c cs (omega arith)) (inl (omega arith, h.0))
  ]
]

pub all_of : (P : Block → Type 0) (bs : List Block) → AllByRecursion P bs → All P bs
all_of P [] h = All-nil P
all_of P (b ∷ bs) h = All-cons P b bs h.0 (all_of P bs h.1)

above_all : (b : Block) (bs : List Block) → AreAbove b.size bs → AllByRecursion (λ c. b.size < c.size) bs
above_all b [] h = tt
above_all b (c ∷ cs) h = (h.0, above_all b cs h.1)

pub pairs_of : (bs : List Block) → IsRising bs → AllPairs (λ b c. b.size < c.size) bs
pairs_of [] h = λ i j d before inside. absurd (omega arith)
pairs_of (b ∷ bs) h = AllPairs-cons (λ b c. b.size < c.size) b bs (all_of (λ c. b.size < c.size) bs (above_all b bs h.0)) (pairs_of bs h.1)

pub length_with : (b : Block) (cs : List Block) → length (with_block b cs) ≤ length cs + 1
length_with b [] = omega arith
length_with b (c ∷ cs) = by_first (nat_lt b.size c.size) (nat_lt c.size b.size) (length_with b cs)
  where
    by_first : (s t : Bool) → length (with_block b cs) ≤ length cs + 1
        → length (if s then b ∷ (c ∷ cs) else if t then c ∷ with_block b cs else c ∷ cs) ≤ length (c ∷ cs) + 1
    by_first true t later = omega arith
    by_first false true later = omega arith
    by_first false false later = omega arith
