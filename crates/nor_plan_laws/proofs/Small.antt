-- The instance with something to erase: 01h over 00h at 0 of 8 KiB.
use Rattle.std.proofs.Common.{◌≡◌, ℕ, zero, suc, ◌+◌, ◌-◌, ◌*◌, ◌/◌, ◌%◌, ◌<◌, ◌≤◌, ◌==◌, nat_lt, Bool, true, false, not, ◌&&◌, List, ◌∷◌, length, replicate, Some, refl, sym, ◌∙◌, ap, subst, arith, inl, inr, eq-eqb, le-leb, ltb-true}
use Rattle.std.specs.List.{slice_index}
use Rattle.std.specs.Option.{option_map_or}
use Rattle.std.proofs.Math.Bool.{and-false}
use Rattle.std.proofs.Math.Nat.{mod-lt, div-add-mod}
use Rattle.std.proofs.lemmas.Bool.{cases_lt, lt-ltb}
use Rattle.std.proofs.lemmas.List.{length-replicate, get_or-replicate, get_or_past}
use Rattle.nor_base.specs.declared.meaning.Strategy.TheVariants.{S2}
use Rattle.nor_base.specs.Accepted.{IsAccepted}
use Rattle.nor_base.specs.Blocks.{Block, block_holds, block_at, is_legal, smallest}
use Rattle.nor_base.specs.Strategies.{strategy}
use Rattle.nor_base.specs.Need.{differs, is_due, is_needed, lacks_erase, is_at_fault}
use Rattle.nor_base.specs.Planned.{IsWorkable}
use Rattle.nor_base.proofs.UniformAccepted.{uniform_accepted}
use Rattle.nor_plan_laws.specs.Exists.{ThereIsPlannedWork}
use Rattle.nor_plan_laws.specs.Small.{small_chip, small_start, small_have, small_want, SmallIsWorkable, SmallWorkErases}
use Rattle.nor_plan_laws.proofs.Task.Whole.{planned_works}
use Rattle.nor_plan_laws.proofs.Runs.Exact.{planned_erases_needed}
use Rattle.nor_plan_laws.proofs.Erased.Erasing.{floor_aligned}
use Rattle.nor_base.proofs.StretchLaws.{any_at}
use Rattle.nor_plan_laws.proofs.Erased.Needed.{needed_caused, same_truth}

pub accepted : IsAccepted small_chip
accepted = uniform_accepted 8192 (omega arith) (omega arith) refl

by_three : strategy small_chip small_start ≡ S2
unfolding strategy
by_three = refl

-- each address has its sector
sector : (a : ℕ) → a < 8192 → smallest small_chip a ≡ Some (record { start = a - a % 4096; size = 4096; kind = 1 })
unfolding smallest block_at is_legal
sector a inside =
    let rest : a % 4096 < 4096 = mod-lt a (omega arith) in
    let all : 4096 * (a / 4096) + a % 4096 ≡ a = div-add-mod a 4096 in
    let floor : (a - a % 4096) % 4096 ≡ 0 = floor_aligned a 4096 in
    let fits : (a - a % 4096) + 4096 ≤ 8192 = omega (arith, rest, all, inside) in
    rw (eq-eqb ((a - a % 4096) % 4096) 0 floor, le-leb 0 (a - a % 4096) (omega arith), le-leb ((a - a % 4096) + 4096) (0 + 8192) (omega (arith, fits))) refl

-- content and target, with so many FFh
abbrev fill : ℕ → List ℕ
fill n = replicate n 255

abbrev have_of : ℕ → List ℕ
have_of n = 0 ∷ 0x12 ∷ fill n

abbrev want_of : ℕ → List ℕ
want_of n = 1 ∷ 0x12 ∷ fill n

length_fill : (n : ℕ) → length (fill n) ≡ n
length_fill n = length-replicate n 255

fill_small : (n k : ℕ) → slice_index (fill n) k < 256
fill_small n k = elim (cases_lt k n) [
  | inl inside ↦ let is : slice_index (fill n) k ≡ 255 = get_or-replicate n k 255 0 inside in omega (arith, is)
  | inr past ↦
      let is : slice_index (fill n) k ≡ 0 = get_or_past (fill n) k 0 (omega (arith, length_fill n, past)) in
      omega (arith, is)
]

want_small : (n k : ℕ) → slice_index (want_of n) k < 256
want_small n zero = omega arith
want_small n (suc zero) = omega arith
want_small n (suc (suc k)) = fill_small n k

-- nothing but the first byte differs
rest_same : (n k : ℕ) → differs (have_of n) (want_of n) (suc k) ≡ false
rest_same n zero = refl
rest_same n (suc k) = let same : (slice_index (fill n) k == slice_index (fill n) k) ≡ true = eq-eqb (slice_index (fill n) k) (slice_index (fill n) k) refl in ap not same

due_first : (n a : ℕ) → is_due small_chip (have_of n) (want_of n) a ≡ true → a ≡ 0
due_first n zero h = refl
due_first n (suc k) h = let none : is_due small_chip (have_of n) (want_of n) (suc k) ≡ false = rw (rest_same n k) refl in cc

-- the first sector is needed, and no more
needed_sector : (n a : ℕ) → is_needed small_chip (is_due small_chip (have_of n) (want_of n)) a ≡ nat_lt a 4096
unfolding is_needed
needed_sector n a =
    same_truth (is_needed small_chip due a) (nat_lt a 4096)
    (λ h.
    let c = needed_caused small_chip due a h in
    let first : c.cause ≡ 0 = due_first n c.cause c.is_due in
    let both : Some c.block ≡ Some (record { start = 0; size = 4096; kind = 1 }) = sym c.is ∙ ap (smallest small_chip) first ∙ sector 0 (omega arith) in
    let same : c.block ≡ record { start = 0; size = 4096; kind = 1 } = cc in
    let upto : a < 0 + 4096 = subst (λ (b : Block). a < b.start + b.size) same c.high in
    lt-ltb a 4096 (omega (arith, upto)))
    (λ h.
    let upto : a < 4096 = ltb-true a 4096 h in
    let here : option_map_or (block_holds a) (smallest small_chip 0) false ≡ true =
    rw (sector 0 (omega arith)) (rw (le-leb 0 a (omega arith), lt-ltb a 4096 upto) refl) in
    any_at (λ cause. due cause && option_map_or (block_holds a) (smallest small_chip cause) false) 8192 0 0 (omega arith) (omega arith) (rw here refl))
  where
    due : ℕ → Bool
    due x = is_due small_chip (have_of n) (want_of n) x

no_fault : (have want : List ℕ) (a : ℕ) → a < 8192 → is_at_fault small_chip S2 have want a ≡ false
unfolding lacks_erase
no_fault have want a inside = rw (sector a inside) (and-false (is_due small_chip have want a))

workable_of : (n : ℕ) → n + 2 ≡ 8192 → IsWorkable small_chip small_start (have_of n) (want_of n)
workable_of n size = record {
  accepted = accepted;
  have_size = omega (arith, length_fill n, size);
  want_size = omega (arith, length_fill n, size);
  bytes = want_small n;
  sound = λ a inside. subst (λ by. is_at_fault small_chip by (have_of n) (want_of n) a ≡ false) (sym by_three) (no_fault (have_of n) (want_of n) a inside);
}

pub small_is_workable : SmallIsWorkable
unfolding small_have small_want
small_is_workable = workable_of 8190 refl

small_needed : (a : ℕ) → is_needed small_chip (is_due small_chip small_have small_want) a ≡ nat_lt a 4096
unfolding small_have small_want
small_needed a = needed_sector 8190 a

pub small_work_erases : ThereIsPlannedWork → SmallWorkErases
small_work_erases there verify =
    let found = there small_chip small_start verify small_have small_want small_is_workable in (
      found.0,
      found.1,
      λ s is. (
        (planned_works small_chip small_start verify small_have small_want found.0 small_is_workable found.1 s is).task,
        λ a. planned_erases_needed small_chip small_start verify small_have small_want found.0 small_is_workable found.1 s is a ∙ small_needed a,
      ),
    )
