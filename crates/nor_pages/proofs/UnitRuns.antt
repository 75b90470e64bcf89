-- The runs of a unit are its programs.
use Rattle.std.proofs.Common.{◌≡◌, ℕ, zero, suc, ◌+◌, ◌-◌, ◌*◌, ◌/◌, ◌%◌, ◌<◌, ◌≤◌, ◌==◌, ◌&&◌, not, Bool, true, false, cond, List, [], ◌∷◌, ◌++◌, length, map, Option, Some, None, refl, sym, ◌∙◌, ap, subst, arith, get_or-take, get_or-drop, length-take, length-drop, drop}
use Rattle.std.specs.Prelude.{flat_map, filter}
use Rattle.std.specs.List.{range_with_len, slice_split, onto_first, slice_index, slice_range}
use Rattle.std.proofs.Math.Nat.{div-add-mod', div_self}
use Rattle.std.proofs.lemmas.List.{append_assoc, map-append, append-nil}
use Rattle.nor_base.specs.Parameters.{Parameters}
use Rattle.nor_base.specs.Blocks.{Block}
use Rattle.nor_base.specs.Need.{differs}
use Rattle.nor_base.specs.Programs.{Program, target_bytes, last_of, span, is_closed, page_programs}
use Rattle.nor_base.specs.Units.{pages}
use Rattle.nor_base.specs.Accepted.{IsPowerOfTwo}
use Rattle.nor_geometry.specs.declared.unit.PlanUnit.{PlanUnit}
use Rattle.nor_geometry.specs.declared.unit.PlanUnit.TheVariants as unit
use Rattle.nor_geometry.specs.Plan.{HasPart}
use Rattle.std.proofs.Math.Pow.{pow_pos}
use Rattle.nor_pages.specs.declared.run.Run.{Run}
use Rattle.nor_pages.specs.Runs.{IsUnit, IsSplit, IsBlank, run_program, extended, some_run, reaches_back, ended, onward, runs_on, old_over, closed_at, differs_at, page_runs, change, pages_runs}

-- the programs of a part of a page
abbrev of_part : (ℕ → Bool) → List ℕ → List ℕ → List Program
of_part d target part = span target (filter d part)

-- of rising addresses that differ, of which a run may go on
abbrev with_run : List ℕ → Option Run → List ℕ → List Program
with_run target None ds = span target ds
with_run target (Some r) [] = run_program target r ∷ []
with_run target (Some r) (x ∷ ds) = target_bytes target r.at (last_of x ds + 1) ∷ []

abbrev joined : (ℕ → Bool) → List ℕ → Option Run → List (List ℕ) → List Program
joined d target run [] = []
joined d target run (part ∷ parts) = with_run target run (filter d part) ++ flat_map (of_part d target) parts

-- a cut list has a first part
first_part : (c : ℕ → Bool) (xs : List ℕ) → (part : List ℕ) × (parts : List (List ℕ)) × (slice_split c xs ≡ part ∷ parts)
first_part c [] = ([], [], refl)
first_part c (x ∷ xs) = by_test x (c x) (slice_split c xs) (first_part c xs)
  where
    by_test : (x : ℕ) (b : Bool) (rest : List (List ℕ)) → (part : List ℕ) × (parts : List (List ℕ)) × (rest ≡ part ∷ parts)
        → (part : List ℕ) × (parts : List (List ℕ)) × (cond b ([] ∷ rest) (onto_first x rest) ≡ part ∷ parts)
    by_test x true rest h = ([], rest, refl)
    by_test x false rest h = (x ∷ h.0, h.1, ap (onto_first x) h.2)

all_parts : (d : ℕ → Bool) (c : ℕ → Bool) (target xs : List ℕ) → joined d target None (slice_split c xs) ≡ flat_map (of_part d target) (slice_split c xs)
all_parts d c target xs = let f = first_part c xs in
    ap (joined d target None) f.2 ∙ sym (ap (flat_map (of_part d target)) f.2)

no_more : (target : List ℕ) (run : Option Run) → map (run_program target) (some_run run) ≡ with_run target run []
no_more target None = refl
no_more target (Some r) = refl

-- one more address that differs
longer : (target : List ℕ) (run : Option Run) (a : ℕ) (ds : List ℕ) → reaches_back run a
    → with_run target (Some (extended run a)) ds ≡ with_run target run (a ∷ ds)
longer target None a [] back = refl
longer target None a (x ∷ ds) back = refl
longer target (Some r) a [] back = let end : r.at + (a - r.at + 1) ≡ a + 1 = omega arith in ap (λ e. target_bytes target r.at e ∷ []) end
longer target (Some r) a (x ∷ ds) back = refl

back_on : (run : Option Run) (a : ℕ) → reaches_back run a → reaches_back run (a + 1)
back_on None a back = tt
back_on (Some r) a back = omega (arith, back)

extended_back : (run : Option Run) (a : ℕ) → reaches_back run a → reaches_back (Some (extended run a)) (a + 1)
extended_back None a back = omega arith
extended_back (Some r) a back = omega (arith, back)

-- an address that differs, or not, in front of the first part
at_front : (d : ℕ → Bool) (target : List ℕ) (run : Option Run) (a : ℕ) (part : List ℕ) (parts : List (List ℕ)) (b : Bool) → reaches_back run a
    → joined d target (onward false b run a) (part ∷ parts)
    ≡ with_run target run (cond b (a ∷ filter d part) (filter d part)) ++ flat_map (of_part d target) parts
at_front d target run a part parts true back = ap (λ ps. ps ++ flat_map (of_part d target) parts) (longer target run a (filter d part) back)
at_front d target run a part parts false back = refl

onward_back : (run : Option Run) (a : ℕ) (b : Bool) → reaches_back run a → reaches_back (onward false b run a) (a + 1)
onward_back run a true back = extended_back run a back
onward_back run a false back = back_on run a back

step_on : (c d : ℕ → Bool) (target rest : List ℕ) (a : ℕ) (run : Option Run) (b : Bool) → reaches_back run a
    → ((next : Option Run) → reaches_back next (a + 1) → map (run_program target) (runs_on c d next rest) ≡ joined d target next (slice_split c rest))
    → map (run_program target) (ended b run ++ runs_on c d (onward b (d a) run a) rest) ≡ joined d target run (cond b ([] ∷ slice_split c rest) (onto_first a (slice_split c rest)))
step_on c d target rest a run true back later =
    map-append (run_program target) (some_run run) (runs_on c d None rest) ∙ ap (λ ps. ps ++ map (run_program target) (runs_on c d None rest)) (no_more target run)
    ∙ ap (λ ps. with_run target run [] ++ ps) (later None tt ∙ all_parts d c target rest)
step_on c d target rest a run false back later =
    let f = first_part c rest in
    later (onward false (d a) run a) (onward_back run a (d a) back) ∙ ap (joined d target (onward false (d a) run a)) f.2
    ∙ at_front d target run a f.0 f.1 (d a) back ∙ sym (ap (λ ps. joined d target run (onto_first a ps)) f.2)

-- runs over a stretch are the programs of its parts
programs_on : (c d : ℕ → Bool) (target : List ℕ) (n a : ℕ) (run : Option Run) → reaches_back run a
    → map (run_program target) (runs_on c d run (range_with_len a n)) ≡ joined d target run (slice_split c (range_with_len a n))
programs_on c d target zero a run back = no_more target run ∙ sym (append-nil (with_run target run []))
programs_on c d target (suc n) a run back = step_on c d target (range_with_len (a + 1) n) a run (c a) back (λ next on. programs_on c d target n (a + 1) next on)

-- tests that agree over a stretch give the same runs
same_runs : (c d c' d' : ℕ → Bool) (n a : ℕ) (run : Option Run) → ((x : ℕ) → a ≤ x → x < a + n → c x ≡ c' x) → ((x : ℕ) → a ≤ x → x < a + n → d x ≡ d' x)
    → runs_on c d run (range_with_len a n) ≡ runs_on c' d' run (range_with_len a n)
same_runs c d c' d' zero a run closed apart = refl
same_runs c d c' d' (suc n) a run closed apart =
    let one = closed a (omega arith) (omega arith) in
    let other = apart a (omega arith) (omega arith) in
    ap (λ b. ended b run ++ runs_on c d (onward b (d a) run a) (range_with_len (a + 1) n)) one
    ∙ ap (λ b. ended (c' a) run ++ runs_on c d (onward (c' a) b run a) (range_with_len (a + 1) n)) other
    ∙ ap (λ rs. ended (c' a) run ++ rs)
    (same_runs c d c' d' n (a + 1) (onward (c' a) (d' a) run a) (λ x from upto. closed x (omega (arith, from)) (omega (arith, upto))) (λ x from upto. apart x (omega (arith, from)) (omega (arith, upto))))

-- what the bytes of a page say of the chip's
record IsPageOf (m : Parameters) (blank : Bool) (have want level target : List ℕ) (at : ℕ) : Type 0 where
  size : length want ≡ m.page
  old : (i : ℕ) → i < m.page → slice_index level (at + i) ≡ old_over blank (slice_index have i)
  new : (i : ℕ) → i < m.page → slice_index target (at + i) ≡ slice_index want i

page_programmed : (m : Parameters) (blank : Bool) (have want level target : List ℕ) (at : ℕ) → IsPageOf m blank have want level target at
    → map (run_program target) (page_runs blank m.erased_only have want at) ≡ page_programs m level target at
unfolding page_programs
page_programmed m blank have want level target at is =
    let n = length want in
    let same_old : (x : ℕ) → at ≤ x → x < at + n → slice_index level x ≡ old_over blank (slice_index have (x - at)) = λ x from upto.
    let place : at + (x - at) ≡ x = omega (arith, from) in
    ap (slice_index level) (sym place) ∙ is.old (x - at) (omega (arith, from, upto, is.size)) in
    let same_new : (x : ℕ) → at ≤ x → x < at + n → slice_index target x ≡ slice_index want (x - at) = λ x from upto.
    let place : at + (x - at) ≡ x = omega (arith, from) in
    ap (slice_index target) (sym place) ∙ is.new (x - at) (omega (arith, from, upto, is.size)) in
    let runs = same_runs (closed_at blank m.erased_only have at) (differs_at blank have want at) (is_closed m level) (differs level target) n at None
    (λ x from upto. ap (λ b. m.erased_only && not (b == 255)) (sym (same_old x from upto)))
    (λ x from upto. ap (λ b. not (b == slice_index want (x - at))) (sym (same_old x from upto)) ∙ ap (λ b. not (slice_index level x == b)) (sym (same_new x from upto))) in
    ap (map (run_program target)) runs ∙ programs_on (is_closed m level) (differs level target) target n at None tt
    ∙ all_parts (differs level target) (is_closed m level) target (range_with_len at n)
    ∙ ap (λ k. flat_map (of_part (differs level target) target) (slice_split (is_closed m level) (range_with_len at k))) is.size

-- pages one after another
pages_last : (page n start : ℕ) (f : ℕ → List Program) → flat_map f (pages page start (suc n)) ≡ flat_map f (pages page start n) ++ f (start + n * page)
pages_last page zero start f = let here : start + 0 * page ≡ start = omega arith in append-nil (f start) ∙ sym (ap f here)
pages_last page (suc n) start f =
    let there : start + page + n * page ≡ start + suc n * page = omega arith in
    ap (λ ps. f start ++ ps) (pages_last page n (start + page) f ∙ ap (λ a. flat_map f (pages page (start + page) n) ++ f a) there)
    ∙ sym (append_assoc (f start) (flat_map f (pages page (start + page) n)) (f (start + suc n * page)))

part_at : (xs : List ℕ) (low page i : ℕ) → i < page → slice_index (slice_range xs low (low + page)) i ≡ slice_index xs (low + i)
part_at xs low page i inside = get_or-take ((low + page) - low) (drop low xs) i 0 (omega (arith, inside)) ∙ get_or-drop low xs i 0

pub part_length : (xs : List ℕ) (low page : ℕ) → low + page ≤ length xs → length (slice_range xs low (low + page)) ≡ page
part_length xs low page inside = omega (arith, length-take ((low + page) - low) (drop low xs), length-drop low xs, inside)

-- what the bytes of some pages say of the chip's
record IsPartOf (blank : Bool) (have want level target : List ℕ) (start : ℕ) : Type 0 where
  old : (i : ℕ) → i < length want → slice_index level (start + i) ≡ old_over blank (slice_index have i)
  new : (i : ℕ) → i < length want → slice_index target (start + i) ≡ slice_index want i

pages_programmed : (m : Parameters) (blank : Bool) (have want level target : List ℕ) (start n : ℕ) → IsPartOf blank have want level target start
    → n * m.page ≤ length want
    → map (run_program target) (pages_runs m.erased_only m.page (change blank have want) start n) ≡ flat_map (page_programs m level target) (pages m.page start n)
pages_programmed m blank have want level target start zero is inside = refl
pages_programmed m blank have want level target start (suc n) is inside =
    let low = n * m.page in
    let more : suc n * m.page ≡ n * m.page + m.page = omega arith in
    let fits : low + m.page ≤ length want = omega (arith, more, inside) in
    let last = page_runs blank m.erased_only (slice_range have low (low + m.page)) (slice_range want low (low + m.page)) (start + low) in
    let page : IsPageOf m blank (slice_range have low (low + m.page)) (slice_range want low (low + m.page)) level target (start + low) = record {
      size = part_length want low m.page fits;
      old = λ i small. let place : start + low + i ≡ start + (low + i) = omega arith in
          ap (slice_index level) place ∙ is.old (low + i) (omega (arith, small, fits)) ∙ ap (old_over blank) (sym (part_at have low m.page i small));
      new = λ i small. let place : start + low + i ≡ start + (low + i) = omega arith in
          ap (slice_index target) place ∙ is.new (low + i) (omega (arith, small, fits)) ∙ sym (part_at want low m.page i small);
    } in
    map-append (run_program target) (pages_runs m.erased_only m.page (change blank have want) start n) last
    ∙ ap (λ ps. ps ++ map (run_program target) last) (pages_programmed m blank have want level target start n is (omega (arith, more, inside)))
    ∙ ap (λ ps. flat_map (page_programs m level target) (pages m.page start n) ++ ps)
    (page_programmed m blank (slice_range have low (low + m.page)) (slice_range want low (low + m.page)) level target (start + low) page)
    ∙ sym (pages_last m.page n start (page_programs m level target))

-- of a block, whatever it held, and of a page
pub block_programmed : (m : Parameters) (have want level target : List ℕ) (start size : ℕ) → length want ≡ size → size % m.page ≡ 0 → IsBlank level start size → HasPart target want start
    → map (run_program target) (pages_runs m.erased_only m.page (change true have want) start (length want / m.page)) ≡ flat_map (page_programs m level target) (pages m.page start (size / m.page))
block_programmed m have want level target start size long whole blank part =
    let all : length want / m.page * m.page + length want % m.page ≡ length want = div-add-mod' (length want) m.page in
    pages_programmed m true have want level target start (length want / m.page)
    (record { old = λ i small. blank (start + i) (omega arith) (omega (arith, long, small)); new = λ i small. part.same i small }) (omega (arith, all))
    ∙ ap (λ n. flat_map (page_programs m level target) (pages m.page start (n / m.page))) long

pub one_page_programmed : (m : Parameters) (have want level target : List ℕ) (start : ℕ) → length want ≡ m.page → length have ≡ length want → 0 < m.page → HasPart level have start
    → HasPart target want start → map (run_program target) (pages_runs m.erased_only m.page (change false have want) start (length want / m.page)) ≡ page_programs m level target start
one_page_programmed m have want level target start long lengths some first part =
    let one : length want / m.page ≡ 1 = ap (λ n. n / m.page) long ∙ div_self some in
    ap (λ n. map (run_program target) (pages_runs m.erased_only m.page (change false have want) start n)) one
    ∙ pages_programmed m false have want level target start 1
    (record { old = λ i small. first.same i (omega (arith, lengths, small)); new = λ i small. part.same i small }) (omega (arith, long))
    ∙ append-nil (page_programs m level target start)

-- so is what a unit's runs promise
pub block_split : (m : Parameters) (u : PlanUnit) (b : Block) (have want : List ℕ) (runs : List Run) → u ≡ unit.Block b → IsUnit m u (length want)
    → runs ≡ pages_runs m.erased_only m.page (change true have want) b.start (length want / m.page) → IsSplit m u have want runs
block_split m u b have want runs is req are =
    let its : IsUnit m (unit.Block b) (length want) = subst (λ v. IsUnit m v (length want)) is req in
    let whole : b.size % m.page ≡ 0 = ap (λ n. n % m.page) (sym its.0) ∙ its.1.0 in
    subst (λ v. IsSplit m v have want runs) (sym is)
    (λ level target blank part. ap (map (run_program target)) are ∙ block_programmed m have want level target b.start b.size its.0 whole blank part)

pub page_split : (m : Parameters) (u : PlanUnit) (start : ℕ) (have want : List ℕ) (runs : List Run) → 0 < m.page → length have ≡ length want → u ≡ unit.Page start
    → IsUnit m u (length want) → runs ≡ pages_runs m.erased_only m.page (change false have want) start (length want / m.page) → IsSplit m u have want runs
page_split m u start have want runs some lengths is req are =
    let its : IsUnit m (unit.Page start) (length want) = subst (λ v. IsUnit m v (length want)) is req in
    subst (λ v. IsSplit m v have want runs) (sym is)
    (λ level target first part. ap (map (run_program target)) are ∙ one_page_programmed m have want level target start its.0 lengths some first part)

pub some_page : (m : Parameters) → IsPowerOfTwo 4 12 m.page → 0 < m.page
some_page m p = subst (λ n. 0 < n) (sym p.value) (pow_pos p.exponent)
