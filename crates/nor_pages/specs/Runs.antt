-- The runs of a unit (this project's; a program in a page as the Page Program of the W25Q256JV datasheet).
use Rattle.std.specs.Prelude.{◌≡◌, ℕ, zero, suc, Bool, ◌+◌, ◌-◌, ◌*◌, ◌/◌, ◌%◌, ◌<◌, ◌≤◌, ◌==◌, not, ◌&&◌, false, if◌then◌else◌, List, [], ◌∷◌, ◌++◌, length, map, flat_map, Option, Some, None, slice_index, slice_range}
use Rattle.std.specs.List.{range_with_len, AllByRecursion}
use Rattle.nor_base.specs.Parameters.{Parameters}
use Rattle.nor_base.specs.Programs.{Program, target_bytes, page_programs}
use Rattle.nor_base.specs.Units.{pages}
use Rattle.nor_geometry.specs.declared.unit.PlanUnit.{PlanUnit}
use Rattle.nor_geometry.specs.declared.unit.PlanUnit.TheVariants as unit
use Rattle.nor_geometry.specs.Plan.{HasPart}
use Rattle.nor_pages.specs.declared.run.Run.{Run}

-- whole pages of the chip: a block, or a page
abbrev pub IsStretch : Parameters → ℕ → ℕ → Type 0
IsStretch m start count = (count % m.page ≡ 0) × (start + count ≤ m.size)

abbrev pub IsUnit : Parameters → PlanUnit → ℕ → Type 0
IsUnit m (unit.Block b) count = (count ≡ b.size) × IsStretch m b.start count
IsUnit m (unit.Page start) count = (count ≡ m.page) × IsStretch m start count

-- the program of a run
abbrev pub run_program : List ℕ → Run → Program
run_program target r = target_bytes target r.at (r.at + r.len)

-- FFh over a stretch
abbrev pub IsBlank : List ℕ → ℕ → ℕ → Type 0
IsBlank level start count = (x : ℕ) → start ≤ x → x < start + count → slice_index level x ≡ 255

-- whatever the rest of the chip holds and must hold: the runs are just the programs of the unit, over the content with its
-- erased blocks level
abbrev pub IsSplit : Parameters → PlanUnit → List ℕ → List ℕ → List Run → Type 0
IsSplit m (unit.Block b) have want runs =
    (level target : List ℕ) → IsBlank level b.start b.size → HasPart target want b.start
    → map (run_program target) runs ≡ flat_map (page_programs m level target) (pages m.page b.start (b.size / m.page))
IsSplit m (unit.Page start) have want runs =
    (level target : List ℕ) → HasPart level have start → HasPart target want start → map (run_program target) runs ≡ page_programs m level target start

-- a run of some bytes from one address up to another
pub record LiesBetween (low high : ℕ) (r : Run) : Type 0 where
  pub from : low ≤ r.at
  pub some : 0 < r.len
  pub upto : r.at + r.len ≤ high

-- so they all are, and there are no more than so many
pub record AreBetween (low high most : ℕ) (runs : List Run) : Type 0 where
  pub each : AllByRecursion (LiesBetween low high) runs
  pub few : length runs ≤ most

abbrev pub unit_start : PlanUnit → ℕ
unit_start (unit.Block b) = b.start
unit_start (unit.Page start) = start

-- what is there when a byte is programmed
abbrev pub old_over : Bool → ℕ → ℕ
old_over blank old = if blank then 255 else old

-- a run up to an address, or one that begins there
abbrev pub extended : Option Run → ℕ → Run
extended None a = record { at = a; len = 1 }
extended (Some r) a = record { at = r.at; len = a - r.at + 1 }

abbrev pub reaches_back : Option Run → ℕ → Type 0
reaches_back None a = Unit {0}
reaches_back (Some r) a = r.at ≤ a

abbrev pub some_run : Option Run → List Run
some_run None = []
some_run (Some r) = r ∷ []

-- at an address: the run that ends there, where no program may cover it; and the one that goes on, to it where it differs
abbrev pub ended : Bool → Option Run → List Run
ended closed run = if closed then some_run run else []

abbrev pub onward : Bool → Bool → Option Run → ℕ → Option Run
onward closed differs run a = if closed then None else if differs then Some (extended run a) else run

-- the runs of some addresses, of which a run so far may go on: one ends at an address that no program may cover, and goes from
-- the first that differs to the last
abbrev pub runs_on : (ℕ → Bool) → (ℕ → Bool) → Option Run → List ℕ → List Run
runs_on closed differs run [] = some_run run
runs_on closed differs run (a ∷ more) = ended (closed a) run ++ runs_on closed differs (onward (closed a) (differs a) run a) more

-- of a page's bytes from an address on: those that no program may cover, and those that differ
abbrev pub closed_at : Bool → Bool → List ℕ → ℕ → ℕ → Bool
closed_at blank erased_only have at a = erased_only && not (old_over blank (slice_index have (a - at)) == 255)

abbrev pub differs_at : Bool → List ℕ → List ℕ → ℕ → ℕ → Bool
differs_at blank have want at a = not (old_over blank (slice_index have (a - at)) == slice_index want (a - at))

abbrev pub page_runs : Bool → Bool → List ℕ → List ℕ → ℕ → List Run
page_runs blank erased_only have want at =
    runs_on (closed_at blank erased_only have at) (differs_at blank have want at) None (range_with_len at (length want))

-- where each byte may be programmed: the runs of so many addresses from one on, of which a run so far may go on
abbrev pub open_runs : (ℕ → Bool) → Option Run → ℕ → ℕ → List Run
open_runs differs run a n = runs_on (λ a. false) differs run (range_with_len a n)

-- such a page has no run, wherever it begins
abbrev pub LacksRun : Bool → List ℕ → List ℕ → Type 0
LacksRun blank have want = (at : ℕ) → page_runs blank false have want at ≡ []

-- its run begins at this place: all runs are those that go on from there
pub record BeginsRun (blank : Bool) (have want : List ℕ) (first : ℕ) : Type 0 where
  pub inside : first < length want
  pub runs : (at : ℕ) → page_runs blank false have want at ≡ open_runs (differs_at blank have want at) (Some (record { at = at + first; len = 1 })) (at + (first + 1)) (length want - (first + 1))

-- its run goes from one place to another
abbrev pub IsRun : Bool → List ℕ → List ℕ → ℕ → ℕ → Type 0
IsRun blank have want first last = (at : ℕ) → page_runs blank false have want at ≡ record { at = at + first; len = last - first + 1 } ∷ []

-- the bytes of some pages: whether they are erased first, what they were and what they are to be
pub record Change : Type 0 where
  pub blank : Bool
  pub have : List ℕ
  pub want : List ℕ

abbrev pub change : Bool → List ℕ → List ℕ → Change
change blank have want = record { blank = blank; have = have; want = want }

-- the runs of so many pages, the last of them last
abbrev pub pages_runs : Bool → ℕ → Change → ℕ → ℕ → List Run
pages_runs erased_only page c start zero = []
pages_runs erased_only page c start (suc n) =
    pages_runs erased_only page c start n
    ++ page_runs c.blank erased_only (slice_range c.have (n * page) (n * page + page)) (slice_range c.want (n * page) (n * page + page)) (start + n * page)
