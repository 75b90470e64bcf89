-- The units' blocks have as many bytes as addresses are needed: both count the addresses that some unit's block holds.
use Rattle.std.proofs.Common.{◌≡◌, ℕ, zero, suc, ◌+◌, ◌-◌, ◌≤◌, nat_le, nat_lt, Bool, true, false, ◌&&◌, cond, List, [], ◌∷◌, length, Option, Some, None, refl, sym, ◌∙◌, ap, arith, inl, inr, le-leb}
use Rattle.std.specs.List.{count_by, sum_by, range_with_len}
use Rattle.std.specs.Option.{option_map_or}
use Rattle.std.proofs.Math.Bool.{and-false}
use Rattle.std.proofs.lemmas.Bool.{cases_lt, lt-leb, lt-ltb, le-ltb}
use Rattle.std.proofs.lemmas.List.Sums.{sum_by-cons}
use Rattle.nor_base.specs.Parameters.{Parameters, block_size}
use Rattle.nor_base.specs.Blocks.{Block}
use Rattle.nor_base.specs.Chip.{chip_of}
use Rattle.nor_base.specs.Strategies.{strategy}
use Rattle.nor_base.specs.Need.{is_due, is_needed, levelled}
use Rattle.nor_base.specs.Units.{WorkUnit}
use Rattle.nor_base.specs.Planned.{planned_units}
use Rattle.nor_plan_laws.specs.Exists.{ThereIsPlannedWork}
use Rattle.nor_plan_laws.specs.Runs.{ErasedBytes}
use Rattle.nor_plan_laws.proofs.Task.Made.{IsSoundBy, AreSoundUnits}
use Rattle.nor_plan_laws.proofs.Task.Whole.{units_sound}
use Rattle.nor_plan_laws.proofs.Spelling.Sent.{own_page}
use Rattle.nor_plan_laws.proofs.Runs.Lists.{sum_same}
use Rattle.nor_plan_laws.proofs.Runs.Counted.{count_skip}
use Rattle.nor_plan_laws.proofs.Runs.Once.{block_holds_it, holding, units_hold_needed}

-- sums in either order
sum_none : {A : Type 0} (xs : List A) → sum_by (λ (x : A). 0) xs ≡ 0
sum_none [] = refl
sum_none (x ∷ xs) = let sum = sum_by-cons (λ y. 0) x xs in let rest = sum_none xs in omega (arith, sum, rest)

sum_both : {A : Type 0} (f g : A → ℕ) (xs : List A) → sum_by (λ x. f x + g x) xs ≡ sum_by f xs + sum_by g xs
sum_both f g [] = omega arith
sum_both f g (x ∷ xs) =
    let both = sum_by-cons (λ y. f y + g y) x xs in
    let one = sum_by-cons f x xs in
    let other = sum_by-cons g x xs in
    let rest = sum_both f g xs in
    omega (arith, both, one, other, rest)

sum_turned : {A B : Type 0} (f : A → B → ℕ) (xs : List A) (ys : List B) → sum_by (λ x. sum_by (f x) ys) xs ≡ sum_by (λ y. sum_by (λ x. f x y) xs) ys
sum_turned f xs [] = sum_none xs
sum_turned f xs (y ∷ ys) =
    sum_same (λ x. sum_by (f x) (y ∷ ys)) (λ x. f x y + sum_by (f x) ys) (λ x. sum_by-cons (f x) y ys) xs
    ∙ sum_both (λ x. f x y) (λ x. sum_by (f x) ys) xs ∙ ap (λ k. sum_by (λ x. f x y) xs + k) (sum_turned f xs ys)
    ∙ sym (sum_by-cons (λ z. sum_by (λ x. f x z) xs) y ys)

-- how many addresses of a stretch lie in another
abbrev lies : ℕ → ℕ → ℕ → Bool
lies start end a = nat_le start a && nat_lt a end

count_past : (start end n low : ℕ) → end ≤ low → count_by (lies start end) (range_with_len low n) ≡ 0
count_past start end zero low past = refl
count_past start end (suc n) low past =
    count_skip (lies start end) low (range_with_len (low + 1) n) (ap (λ b. nat_le start low && b) (le-ltb low end past) ∙ and-false (nat_le start low))
    ∙ count_past start end n (low + 1) (omega (arith, past))

count_within : (start end n low : ℕ) → start ≤ low → low ≤ end → end ≤ low + n → count_by (lies start end) (range_with_len low n) ≡ end - low
count_within start end zero low from upto fits = omega (arith, upto, fits)
count_within start end (suc n) low from upto fits = elim (cases_lt low end) [
  | inr past ↦ let none = count_past start end (suc n) low past in omega (arith, none, past)
  | inl inside ↦
      let here : lies start end low ≡ true = rw (le-leb start low from, lt-ltb low end inside) refl in
      let sum : count_by (lies start end) (range_with_len low (suc n)) ≡ 1 + count_by (lies start end) (range_with_len (low + 1) n) =
      sum_by-cons (λ a. cond (lies start end a) 1 0) low (range_with_len (low + 1) n) ∙ ap (λ b. cond b 1 0 + count_by (lies start end) (range_with_len (low + 1) n)) here in
      let rest = count_within start end n (low + 1) (omega (arith, from)) (omega (arith, inside)) (omega (arith, fits)) in
      omega (arith, sum, rest, inside)
]

count_from : (start end n low : ℕ) → low ≤ start → start ≤ end → end ≤ low + n → count_by (lies start end) (range_with_len low n) ≡ end - start
count_from start end zero low before rises fits = omega (arith, before, rises, fits)
count_from start end (suc n) low before rises fits = elim (cases_lt low start) [
  | inl first ↦
      count_skip (lies start end) low (range_with_len (low + 1) n) (ap (λ b. b && nat_lt low end) (lt-leb start low first))
      ∙ count_from start end n (low + 1) (omega (arith, first)) rises (omega (arith, fits))
  | inr here ↦
      let same : low ≡ start = omega (arith, before, here) in
      count_within start end (suc n) low (omega (arith, here)) (omega (arith, same, rises)) fits ∙ ap (λ k. end - k) same
]

-- the addresses that a unit's block holds are its bytes
block_bytes : (m : Parameters) (page : ℕ) (level have want : List ℕ) (u : WorkUnit) (e : Option Block) → IsSoundBy m page level have want u e → u.start + u.size ≤ m.size
    → sum_by (λ a. cond (block_holds_it m a e) 1 0) (range_with_len 0 m.size) ≡ option_map_or (λ (b : Block). b.size) e 0
block_bytes m page level have want u None sound inside = sum_none (range_with_len 0 m.size)
block_bytes m page level have want u (Some b) sound inside =
    let counted = count_from b.start (b.start + block_size m b.kind) m.size 0 (omega arith) (omega arith)
    (omega (arith, sound.start_is, sound.size_is, sound.can.size, inside)) in
    omega (arith, counted, sound.can.size)

units_bytes : (m : Parameters) (page : ℕ) (level have want : List ℕ) (us : List WorkUnit) (low : ℕ) → length want ≡ m.size → AreSoundUnits m page level have want low us
    → sum_by (λ (u : WorkUnit). sum_by (λ a. cond (block_holds_it m a u.erase) 1 0) (range_with_len 0 m.size)) us
    ≡ sum_by (λ (u : WorkUnit). option_map_or (λ (b : Block). b.size) u.erase 0) us
units_bytes m page level have want [] low size sound = refl
units_bytes m page level have want (u ∷ us) low size sound =
    let first = block_bytes m page level have want u u.erase sound.2.kind (omega (arith, sound.2.inside, size)) in
    let rest = units_bytes m page level have want us (u.start + u.size) size sound.3 in
    let one = sum_by-cons (λ (v : WorkUnit). sum_by (λ a. cond (block_holds_it m a v.erase) 1 0) (range_with_len 0 m.size)) u us in
    let other = sum_by-cons (λ (v : WorkUnit). option_map_or (λ (b : Block). b.size) v.erase 0) u us in
    omega (arith, first, rest, one, other)

-- each needed address is held once, as a run on some chip shows
pub erased_bytes : ThereIsPlannedWork → ErasedBytes
erased_bytes there m start have want w =
    let by = strategy m start in
    let us = planned_units m start have want in
    let found = there m start false have want w in
    let held = units_hold_needed m start false have want found.0 w found.1 (chip_of m start [] false) (record { its_meaning = refl; its_start = refl; its_page = own_page m }) in
    sym (units_bytes m m.page (levelled m by (is_due m have want) have) have want us 0 w.want_size (units_sound m start m.page have want w (own_page m)))
    ∙ sym (sum_turned (λ a (u : WorkUnit). cond (block_holds_it m a u.erase) 1 0) (range_with_len 0 m.size) us)
    ∙ sum_same (λ a. holding m a us) (λ a. cond (is_needed m (is_due m have want) a) 1 0) held (range_with_len 0 m.size)
