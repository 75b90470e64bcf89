-- What planned operations send and read are bytes of the target.
use Rattle.std.proofs.Common.{◌≡◌, ℕ, ◌+◌, ◌/◌, ◌==◌, Bool, true, false, if◌then◌else◌, List, [], ◌∷◌, map, Option, Some, None}
use Rattle.std.specs.Prelude.{flat_map, filter}
use Rattle.std.specs.List.{AllByRecursion, range_with_len, slice_split}
use Rattle.nor_base.specs.declared.meaning.Start.{Start}
use Rattle.nor_base.specs.Array.{are_bytes}
use Rattle.nor_base.specs.Blocks.{Block}
use Rattle.nor_base.specs.Need.{differs}
use Rattle.nor_base.specs.Operations.{Op, writes, reads, unit_reads, unit_erases, unit_ops}
use Rattle.nor_base.specs.Parameters.{Parameters}
use Rattle.nor_base.specs.Planned.{planned_units, planned_ops}
use Rattle.nor_base.specs.Programs.{Program, target_bytes, last_of, span, is_closed, page_programs}
use Rattle.nor_base.specs.Units.{WorkUnit, pages, page_unit, unit_by, units_over, units}
use Rattle.nor_job.specs.Written.{AreBytes}
use Rattle.norprog.proofs.Promise.Bytes.{all_small, small_range}
use Rattle.norprog.proofs.Promise.Steps.{AreOpBytes}
use Rattle.nor_base.proofs.ListLaws.{all_append}

abbrev HasBytes : Program → Type 0
HasBytes p = are_bytes p.bytes ≡ true

all_flat : {A B : Type 0} (P : B → Type 0) (f : A → List B) → ((x : A) → AllByRecursion P (f x)) → (xs : List A) → AllByRecursion P (flat_map f xs)
all_flat P f each [] = tt
all_flat P f each (x ∷ xs) = all_append P (f x) (flat_map f xs) (each x) (all_flat P f each xs)

all_among : {A B : Type 0} (Q : A → Type 0) (P : B → Type 0) (f : A → List B) → ((x : A) → Q x → AllByRecursion P (f x)) → (xs : List A) → AllByRecursion Q xs
    → AllByRecursion P (flat_map f xs)
all_among Q P f each [] all = tt
all_among Q P f each (x ∷ xs) all = all_append P (f x) (flat_map f xs) (each x all.0) (all_among Q P f each xs all.1)

part_bytes : (want : List ℕ) → AreBytes want → (low high : ℕ) → HasBytes (target_bytes want low high)
part_bytes want small low high = all_small _ (small_range low high want small)

span_bytes : (want : List ℕ) → AreBytes want → (places : List ℕ) → AllByRecursion HasBytes (span want places)
span_bytes want small [] = tt
span_bytes want small (a ∷ more) = (part_bytes want small a (last_of a more + 1), tt)

page_bytes : (m : Parameters) (level want : List ℕ) → AreBytes want → (start : ℕ) → AllByRecursion HasBytes (page_programs m level want start)
unfolding page_programs
page_bytes m level want small start =
    all_flat HasBytes (λ part. span want (filter (differs level want) part)) (λ part. span_bytes want small (filter (differs level want) part))
    (slice_split (is_closed m level) (range_with_len start m.page))

abbrev AreUnitBytes : WorkUnit → Type 0
AreUnitBytes u = AllByRecursion HasBytes u.programs

unit_bytes : (m : Parameters) (start : ℕ) (ps : List Program) → AllByRecursion HasBytes ps → AllByRecursion AreUnitBytes (page_unit m start ps)
unit_bytes m start [] all = tt
unit_bytes m start (p ∷ ps) all = (all, tt)

one_if : {A : Type 0} (P : A → Type 0) (b : Bool) (x : A) → P x → AllByRecursion P (if b then x ∷ [] else [])
one_if P true x p = (p, tt)
one_if P false x p = tt

by_bytes : (m : Parameters) (level want : List ℕ) → AreBytes want → (start : ℕ) (e : Option Block) → AllByRecursion AreUnitBytes (unit_by m level want start e)
by_bytes m level want small start (Some b) =
    one_if AreUnitBytes (b.start == start) _ (all_flat HasBytes (page_programs m level want) (page_bytes m level want small) (pages m.page b.start (b.size / m.page)))
by_bytes m level want small start None = unit_bytes m start (page_programs m level want start) (page_bytes m level want small start)

units_bytes : (m : Parameters) (level want : List ℕ) (erased : ℕ → Option Block) → AreBytes want → (starts : List ℕ) → AllByRecursion AreUnitBytes (units_over m level want erased starts)
unfolding units_over
units_bytes m level want erased small starts =
    all_flat AreUnitBytes (λ start. unit_by m level want start (erased start)) (λ start. by_bytes m level want small start (erased start)) starts

writes_bytes : (ps : List Program) → AllByRecursion HasBytes ps → AllByRecursion AreOpBytes (map writes ps)
writes_bytes [] all = tt
writes_bytes (p ∷ ps) all = (all.0, writes_bytes ps all.1)

reads_bytes : (ps : List Program) → AllByRecursion HasBytes ps → AllByRecursion AreOpBytes (map reads ps)
reads_bytes [] all = tt
reads_bytes (p ∷ ps) all = (all.0, reads_bytes ps all.1)

page_reads_bytes : (page : ℕ) (want : List ℕ) → AreBytes want → (starts : List ℕ) → AllByRecursion AreOpBytes (map (λ start. reads (target_bytes want start (start + page))) starts)
page_reads_bytes page want small [] = tt
page_reads_bytes page want small (a ∷ starts) = (part_bytes want small a (a + page), page_reads_bytes page want small starts)

unit_reads_bytes : (m : Parameters) (want : List ℕ) → AreBytes want → (u : WorkUnit) → AreUnitBytes u → (e : Option Block) → AllByRecursion AreOpBytes (unit_reads m want u e)
unit_reads_bytes m want small u all (Some b) = page_reads_bytes m.page want small (pages m.page b.start (b.size / m.page))
unit_reads_bytes m want small u all None = reads_bytes u.programs all

erases_bytes : (e : Option Block) → AllByRecursion AreOpBytes (unit_erases e)
erases_bytes (Some b) = (tt, tt)
erases_bytes None = tt

where_bytes : (b : Bool) (ops : List Op) → AllByRecursion AreOpBytes ops → AllByRecursion AreOpBytes (if b then ops else [])
where_bytes true ops all = all
where_bytes false ops all = tt

ops_bytes : (m : Parameters) (verify : Bool) (want : List ℕ) → AreBytes want → (u : WorkUnit) → AreUnitBytes u → AllByRecursion AreOpBytes (unit_ops m verify want u)
ops_bytes m verify want small u all =
    all_append AreOpBytes (unit_erases u.erase) _ (erases_bytes u.erase)
    (all_append AreOpBytes (map writes u.programs) _ (writes_bytes u.programs all) (where_bytes verify _ (unit_reads_bytes m want small u all u.erase)))

pub planned_bytes : (m : Parameters) (start : Start) (verify : Bool) (have want : List ℕ) → AreBytes want → AllByRecursion AreOpBytes (planned_ops m start verify have want)
unfolding units
planned_bytes m start verify have want small =
    all_among AreUnitBytes AreOpBytes (unit_ops m verify want) (ops_bytes m verify want small) (planned_units m start have want)
    (units_bytes m _ want _ small (pages m.page 0 (m.size / m.page)))
