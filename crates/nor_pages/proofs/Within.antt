-- The runs of pages lie within them, and are no more than their bytes.
use Rattle.std.proofs.Common.{◌≡◌, ℕ, zero, suc, ◌+◌, ◌*◌, ◌/◌, ◌%◌, ◌≤◌, Bool, true, false, List, [], ◌∷◌, ◌++◌, length, Option, Some, None, sym, subst, arith, length-append}
use Rattle.std.specs.List.{range_with_len, slice_range, AllByRecursion}
use Rattle.std.proofs.Math.Nat.{div-add-mod'}
use Rattle.nor_geometry.specs.declared.unit.PlanUnit.{PlanUnit}
use Rattle.nor_pages.specs.declared.run.Run.{Run}
use Rattle.nor_pages.specs.Runs.{LiesBetween, AreBetween, unit_start, some_run, ended, onward, extended, runs_on, closed_at, differs_at, page_runs, change, pages_runs}
use Rattle.nor_pages.proofs.UnitRuns.{part_length}

-- a run so far begins past one address, and ends by another
abbrev IsRunTo : ℕ → ℕ → Option Run → Type 0
IsRunTo low a None = Unit {0}
IsRunTo low a (Some r) = LiesBetween low a r

abbrev count_of : Option Run → ℕ
count_of None = 0
count_of (Some r) = 1

all_then : (low high : ℕ) (xs ys : List Run) → AllByRecursion (LiesBetween low high) xs → AllByRecursion (LiesBetween low high) ys
    → AllByRecursion (LiesBetween low high) (xs ++ ys)
all_then low high [] ys first second = second
all_then low high (x ∷ xs) ys first second = (first.0, all_then low high xs ys first.1 second)

all_wider : (low high low' high' : ℕ) → low' ≤ low → high ≤ high' → (xs : List Run) → AllByRecursion (LiesBetween low high) xs → AllByRecursion (LiesBetween low' high') xs
all_wider low high low' high' from upto [] all = tt
all_wider low high low' high' from upto (x ∷ xs) all = (
  record { from = omega (arith, from, all.0.from); some = all.0.some; upto = omega (arith, upto, all.0.upto) },
  all_wider low high low' high' from upto xs all.1,
)

runs_then : (low high a b : ℕ) (xs ys : List Run) → AreBetween low high a xs → AreBetween low high b ys → AreBetween low high (a + b) (xs ++ ys)
runs_then low high a b xs ys first second = record {
  each = all_then low high xs ys first.each second.each;
  few = omega (arith, first.few, second.few, length-append xs ys);
}

runs_more : (low high a b : ℕ) (xs : List Run) → a ≤ b → AreBetween low high a xs → AreBetween low high b xs
runs_more low high a b xs more is = record { each = is.each; few = omega (arith, is.few, more) }

some_between : (low high a : ℕ) (run : Option Run) → a ≤ high → IsRunTo low a run → AreBetween low high (count_of run) (some_run run)
some_between low high a None upto is = record { each = tt; few = omega arith }
some_between low high a (Some r) upto is = record {
  each = (record { from = is.from; some = is.some; upto = omega (arith, upto, is.upto) }, tt);
  few = omega arith;
}

later_to : (low a : ℕ) (run : Option Run) → IsRunTo low a run → IsRunTo low (a + 1) run
later_to low a None is = tt
later_to low a (Some r) is = record { from = is.from; some = is.some; upto = omega (arith, is.upto) }

extended_to : (low a : ℕ) (run : Option Run) → low ≤ a → IsRunTo low a run → LiesBetween low (a + 1) (extended run a)
extended_to low a None from is = record { from = from; some = omega arith; upto = omega arith }
extended_to low a (Some r) from is = record { from = is.from; some = omega arith; upto = omega (arith, is.upto, is.some) }

-- one address more
one_more : (c d : ℕ → Bool) (low high n a : ℕ) (run : Option Run) (rest : List ℕ) (b e : Bool) → low ≤ a → a + 1 ≤ high → IsRunTo low a run
    → ((next : Option Run) → IsRunTo low (a + 1) next → AreBetween low high (n + count_of next) (runs_on c d next rest))
    → AreBetween low high (suc n + count_of run) (ended b run ++ runs_on c d (onward b e run a) rest)
one_more c d low high n a run rest true e from upto is later =
    runs_more low high (count_of run + (n + 0)) (suc n + count_of run) _ (omega arith)
    (runs_then low high (count_of run) (n + 0) (some_run run) (runs_on c d None rest) (some_between low high a run (omega (arith, upto)) is) (later None tt))
one_more c d low high n a run rest false true from upto is later =
    runs_more low high (n + 1) (suc n + count_of run) _ (omega arith) (later (Some (extended run a)) (extended_to low a run from is))
one_more c d low high n a run rest false false from upto is later =
    runs_more low high (n + count_of run) (suc n + count_of run) _ (omega arith) (later run (later_to low a run is))

runs_between : (c d : ℕ → Bool) (low high n a : ℕ) (run : Option Run) → low ≤ a → a + n ≤ high → IsRunTo low a run
    → AreBetween low high (n + count_of run) (runs_on c d run (range_with_len a n))
runs_between c d low high zero a run from upto is =
    runs_more low high (count_of run) (0 + count_of run) _ (omega arith) (some_between low high a run (omega (arith, upto)) is)
runs_between c d low high (suc n) a run from upto is =
    one_more c d low high n a run (range_with_len (a + 1) n) (c a) (d a) from (omega (arith, upto)) is
    (λ next on. runs_between c d low high n (a + 1) next (omega (arith, from)) (omega (arith, upto)) on)

page_between : (blank erased_only : Bool) (have want : List ℕ) (at : ℕ) → AreBetween at (at + length want) (length want) (page_runs blank erased_only have want at)
page_between blank erased_only have want at =
    runs_more at (at + length want) (length want + 0) (length want) _ (omega arith)
    (runs_between (closed_at blank erased_only have at) (differs_at blank have want at) at (at + length want) (length want) at None (omega arith) (omega arith) tt)

pages_between : (blank erased_only : Bool) (page : ℕ) (have want : List ℕ) (start n : ℕ) → n * page ≤ length want
    → AreBetween start (start + n * page) (n * page) (pages_runs erased_only page (change blank have want) start n)
pages_between blank erased_only page have want start zero inside = record { each = tt; few = omega arith }
pages_between blank erased_only page have want start (suc n) inside =
    let more : suc n * page ≡ n * page + page = omega arith in
    let low = n * page in
    let long : length (slice_range want low (low + page)) ≡ page = part_length want low page (omega (arith, more, inside)) in
    let before = pages_between blank erased_only page have want start n (omega (arith, more, inside)) in
    let here = page_between blank erased_only (slice_range have low (low + page)) (slice_range want low (low + page)) (start + low) in
    let first : AreBetween start (start + suc n * page) low (pages_runs erased_only page (change blank have want) start n) = record {
      each = all_wider start (start + low) start (start + suc n * page) (omega arith) (omega (arith, more)) _ before.each;
      few = before.few;
    } in
    let second : AreBetween start (start + suc n * page) page (page_runs blank erased_only (slice_range have low (low + page)) (slice_range want low (low + page)) (start + low)) = record {
      each = all_wider (start + low) (start + low + length (slice_range want low (low + page))) start (start + suc n * page) (omega arith) (omega (arith, more, long)) _ here.each;
      few = omega (arith, here.few, long);
    } in
    runs_more start (start + suc n * page) (low + page) (suc n * page) _ (omega (arith, more))
    (runs_then start (start + suc n * page) low page _ _ first second)

-- so do those of a unit
pub unit_between : (blank erased_only : Bool) (page : ℕ) (have want : List ℕ) (start : ℕ) (u : PlanUnit) (runs : List Run) → unit_start u ≡ start
    → runs ≡ pages_runs erased_only page (change blank have want) start (length want / page)
    → AreBetween (unit_start u) (unit_start u + length want) (length want) runs
unit_between blank erased_only page have want start u runs from are =
    let all : length want / page * page + length want % page ≡ length want = div-add-mod' (length want) page in
    let fits : length want / page * page ≤ length want = omega (arith, all) in
    let is = pages_between blank erased_only page have want start (length want / page) fits in
    subst (λ rs. AreBetween (unit_start u) (unit_start u + length want) (length want) rs) (sym are)
    (subst (λ a. AreBetween a (a + length want) (length want) (pages_runs erased_only page (change blank have want) start (length want / page))) (sym from)
    (record {
      each = all_wider start (start + length want / page * page) start (start + length want) (omega arith) (omega (arith, fits)) _ is.each;
      few = omega (arith, is.few, fits);
    }))
