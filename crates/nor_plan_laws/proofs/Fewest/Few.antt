-- Each page with a planned program has one in each run that does the task, and a program is in one page.
use Rattle.std.proofs.Common.{◌≡◌, ℕ, ◌+◌, ◌/◌, ◌%◌, ◌<◌, ◌≤◌, ◌==◌, Bool, true, false, cond, not, ◌&&◌, ◌||◌, if◌then◌else◌, List, [], ◌∷◌, length, Option, Some, None, refl, sym, ◌∙◌, ap, subst, arith, inl, inr, eq-eqb, eqb-true}
use Rattle.std.specs.Prelude.{bit_and, flat_map, is_some}
use Rattle.std.specs.List.{slice_index, list_any, count_by, sum_by}
use Rattle.std.specs.Option.{option_map_or}
use Rattle.std.proofs.Math.Nat.{mod-lt, mod-eq_of_lt}
use Rattle.std.proofs.lemmas.Bool.{both_ways, cases_eq, ne_eqb}
use Rattle.std.proofs.lemmas.Nat.{and_mask}
use Rattle.std.proofs.lemmas.List.{length-append}
use Rattle.std.proofs.lemmas.List.Sums.{sum_by-cons}
use Rattle.nor_base.specs.declared.meaning.Start.{Start}
use Rattle.nor_base.specs.declared.step.Step.{Step}
use Rattle.nor_base.specs.Parameters.{Parameters}
use Rattle.nor_base.specs.Blocks.{Block}
use Rattle.nor_base.specs.Decoding.{Instruction}
use Rattle.nor_base.specs.Chip.{Setting, IsChipOf, chip_of, ready, may_page}
use Rattle.nor_base.specs.Effect.{page_start, is_program, may_program, is_barred, last_byte_for, programmed}
use Rattle.nor_base.specs.Run.{DoesTask}
use Rattle.nor_base.specs.Strategies.{strategy}
use Rattle.nor_base.specs.Need.{differs, is_due, is_needed, erased_at, levelled}
use Rattle.nor_base.specs.Programs.{Program, page_programs}
use Rattle.nor_base.specs.Units.{WorkUnit, units}
use Rattle.nor_base.specs.Planned.{planned_units, IsWorkable}
use Rattle.nor_base.specs.Events.{Event, events, is_erased_by, programs_seen}
use Rattle.nor_plan_laws.specs.Fewest.{NoScriptProgramsLess, NoneOnEveryChip, OneServesTwo}
use Rattle.nor_plan_laws.proofs.Units.Ranges.{aligned_le}
use Rattle.nor_plan_laws.proofs.Units.Walk.{clear_at}
use Rattle.nor_plan_laws.proofs.Units.Wider.{some_page}
use Rattle.nor_plan_laws.proofs.Task.Whole.{level_at, setting_of, all_pages}
use Rattle.nor_plan_laws.proofs.Spelling.Sent.{own_page}
use Rattle.nor_plan_laws.proofs.Erased.Erasing.{floor_aligned}
use Rattle.nor_plan_laws.proofs.Erased.Needed.{erases_needed}
use Rattle.nor_plan_laws.proofs.Erased.Least.{no_script_erases_less}
use Rattle.nor_plan_laws.proofs.Runs.Counted.{count_skip}
use Rattle.nor_plan_laws.proofs.Fewest.Touched.{programs_page, on_page, run_leaves}
use Rattle.nor_plan_laws.proofs.Fewest.Rising.{IsFirst, Rising, rises_within, programs_of, all_rise}

-- what is counted
pub count_false : {A : Type 0} (xs : List A) → count_by (λ (x : A). false) xs ≡ 0
count_false [] = refl
count_false (x ∷ xs) = count_skip (λ y. false) x xs refl ∙ count_false xs

at_most : (a b : Bool) → cond (a || b) 1 0 ≤ cond a 1 0 + cond b 1 0
at_most true true = omega arith
at_most true false = omega arith
at_most false true = omega arith
at_most false false = omega arith

pub count_or : {A : Type 0} (f g : A → Bool) (xs : List A) → count_by (λ x. f x || g x) xs ≤ count_by f xs + count_by g xs
count_or f g [] = omega arith
count_or f g (x ∷ xs) =
    let both = sum_by-cons (λ y. cond (f y || g y) 1 0) x xs in
    let one = sum_by-cons (λ y. cond (f y) 1 0) x xs in
    let other = sum_by-cons (λ y. cond (g y) 1 0) x xs in
    let here = at_most (f x) (g x) in
    let rest = count_or f g xs in
    omega (arith, both, one, other, here, rest)

sum_length : {A B : Type 0} (f : A → List B) (xs : List A) → length (flat_map f xs) ≡ sum_by (λ x. length (f x)) xs
sum_length f [] = refl
sum_length f (x ∷ xs) = length-append (f x) (flat_map f xs) ∙ ap (λ k. length (f x) + k) (sum_length f xs) ∙ sym (sum_by-cons (λ y. length (f y)) x xs)

-- the page of a program
module _ (page : ℕ) (level want : List ℕ) (some : 0 < page) where
  begins_at : (first : ℕ) (p : Program) → IsFirst page level want first p → page_start page p.at ≡ first
  begins_at first p is =
      let rest : p.at % page < page = mod-lt p.at some in
      let floor = floor_aligned p.at page in
      let from = is.from in
      let upto = is.upto in
      let low : first ≤ page_start page p.at = aligned_le first (page_start page p.at) page some is.whole floor (omega arith) in
      let high : page_start page p.at ≤ first = aligned_le (page_start page p.at) first page some floor is.whole (omega arith) in
      omega arith

  -- an address is that of at most one of them
  none_there : (ps : List Program) (low high a : ℕ) → a < low → Rising page level want low high ps → count_by (λ p. a == page_start page p.at) ps ≡ 0
  none_there [] low high a before h = refl
  none_there (p ∷ ps) low high a before h =
      let first = h.1 in
      let start = begins_at h.0 p h.2 in
      count_skip (λ p. a == page_start page p.at) p ps (ne_eqb a (page_start page p.at) (λ same. omega (arith, same, start)))
      ∙ none_there ps (h.0 + page) high a (omega arith) h.3

  one_there : (ps : List Program) (low high a : ℕ) → Rising page level want low high ps → count_by (λ p. a == page_start page p.at) ps ≤ 1
  one_there [] low high a h = omega arith
  one_there (p ∷ ps) low high a h =
      let start = begins_at h.0 p h.2 in
      elim (cases_eq a (page_start page p.at)) [
        | inl same ↦
            let sum = sum_by-cons (λ (q : Program). cond (a == page_start page q.at) 1 0) p ps in
            let one : ◌≡◌ {A = ℕ} (cond (a == page_start page p.at) 1 0) 1 = ap (λ b. cond b 1 0) (eq-eqb a (page_start page p.at) same) in
            let none = none_there ps (h.0 + page) high a (omega (arith, same, start, some)) h.3 in
            omega (arith, sum, one, none)
        | inr other ↦
            let skip = count_skip (λ p. a == page_start page p.at) p ps (ne_eqb a (page_start page p.at) other) in
            let rest = one_there ps (h.0 + page) high a h.3 in
            omega (arith, skip, rest)
      ]

  -- an event programs the pages of as many of them as it is a program
  by_program : (ps : List Program) (low high a : ℕ) (b : Bool) → Rising page level want low high ps
      → count_by (λ p. b && (a == page_start page p.at)) ps ≤ cond b 1 0
  by_program ps low high a true h = one_there ps low high a h
  by_program ps low high a false h = let none = count_false ps in omega (arith, none)

  seen_few : (ps : List Program) (low high : ℕ) (seen : Option Instruction) → Rising page level want low high ps
      → count_by (λ p. option_map_or (programs_page page (page_start page p.at)) seen false) ps ≤ cond (option_map_or (λ i. is_program i.what) seen false) 1 0
  seen_few ps low high None h = let none = count_false ps in omega (arith, none)
  seen_few ps low high (Some i) h = by_program ps low high (page_start page i.address) (is_program i.what) h

  few : (ps : List Program) (low high : ℕ) (seen : List Event) → Rising page level want low high ps
      → count_by (λ p. list_any (on_page page (page_start page p.at)) seen) ps ≤ programs_seen seen
  few ps low high [] h = let none = count_false ps in omega (arith, none)
  few ps low high (e ∷ es) h =
      let sum = sum_by-cons (λ (e : Event). cond (option_map_or (λ i. is_program i.what) e.seen false) 1 0) e es in
      let both = count_or (λ (p : Program). on_page page (page_start page p.at) e) (λ (p : Program). list_any (on_page page (page_start page p.at)) es) ps in
      let here = seen_few ps low high e.seen h in
      let rest = few ps low high es h in
      omega (arith, sum, both, here, rest)

  -- all of them are counted
  all_there : (test : Program → Bool) (ps : List Program) (low high : ℕ) → Rising page level want low high ps
      → ((p : Program) → p.at < high → differs level want p.at ≡ true → test p ≡ true) → count_by test ps ≡ length ps
  all_there test [] low high h each = refl
  all_there test (p ∷ ps) low high h each =
      let upto = h.2.upto in
      let ends = rises_within page level want ps (h.0 + page) high h.3 in
      let here : test p ≡ true = each p (omega arith) h.2.apart in
      let sum = sum_by-cons (λ q. cond (test q) 1 0) p ps in
      let one : ◌≡◌ {A = ℕ} (cond (test p) 1 0) 1 = ap (λ b. cond b 1 0) here in
      let rest = all_there test ps (h.0 + page) high h.3 each in
      omega (arith, sum, one, rest)

  no_more : (ps : List Program) (low high : ℕ) (seen : List Event) → Rising page level want low high ps
      → ((p : Program) → p.at < high → differs level want p.at ≡ true → list_any (on_page page (page_start page p.at)) seen ≡ true)
      → length ps ≤ programs_seen seen
  no_more ps low high seen h each =
      let all = all_there (λ p. list_any (on_page page (page_start page p.at)) seen) ps low high h each in
      let most = few ps low high seen h in
      omega (arith, all, most)

-- the same byte doesn't differ
no_difference : (level want : List ℕ) (a : ℕ) → slice_index level a ≡ slice_index want a → differs level want a ≡ true → ⊥
no_difference level want a same apart = both_ways (differs level want a) (ap not (eq-eqb (slice_index level a) (slice_index want a) same)) apart

full : (b : Bool) (old byte : ℕ) → b ≡ false → old < 256 → byte ≡ 255 → (if b then old == 255 else bit_and old byte == byte) ≡ true → old ≡ byte
full true old byte plain small blank may = cc
full false old byte plain small blank may =
    let same : bit_and old byte ≡ byte = eqb-true (bit_and old byte) byte may in
    let mask : bit_and old 255 ≡ old % 256 = and_mask old 8 in
    let rest : old % 256 ≡ old = mod-eq_of_lt small in
    sym rest ∙ sym mask ∙ ap (bit_and old) (sym blank) ∙ same

module _ (s : Setting) (have want : List ℕ) (steps : List Step) (w : IsWorkable s.meaning s.start have want) (small : (a : ℕ) → slice_index have a < 256)
    (plain : s.meaning.erased_only ≡ false) (page : s.page ≡ s.meaning.page) (is : IsChipOf s.meaning s.start s) (task : DoesTask s have want steps) where
  level : List ℕ
  level = levelled s.meaning (strategy s.meaning s.start) (is_due s.meaning have want) have

  seen : List Event
  seen = events s (ready s have) steps

  some : 0 < s.page
  some = subst (λ n. 0 < n) (sym page) (some_page s.meaning w.accepted)

  level_by : (a : ℕ) (o : Option Block) → a < s.meaning.size → erased_at s.meaning (strategy s.meaning s.start) (is_due s.meaning have want) a ≡ o
      → slice_index level a ≡ (if is_some o then 255 else slice_index have a)
  unfolding level
  level_by a o inside at =
      level_at s.meaning s.start have want a (omega (arith, w.have_size, inside)) ∙ ap (λ o. if is_some o then 255 else slice_index have a) at

  level_small : (a : ℕ) (o : Option Block) → a < s.meaning.size → erased_at s.meaning (strategy s.meaning s.start) (is_due s.meaning have want) a ≡ o
      → slice_index level a < 256
  level_small a (Some b) inside at = let level = level_by a (Some b) inside at in omega (arith, level)
  level_small a None inside at = subst (λ n. n < 256) (sym (level_by a None inside at)) (small a)

  -- it wasn't erased, and so neither planned to be
  stays_apart : (a : ℕ) (o : Option Block) → a < s.meaning.size → erased_at s.meaning (strategy s.meaning s.start) (is_due s.meaning have want) a ≡ o
      → slice_index want a ≡ slice_index have a → is_erased_by s seen a ≡ false → differs level want a ≡ true → ⊥
  unfolding seen
  stays_apart a (Some b) inside at same none apart =
      let needed : is_needed s.meaning (is_due s.meaning have want) a ≡ true =
      sym (erases_needed s.meaning s.start have want a w) ∙ ap (λ (o : Option Block). is_some o) at in
      both_ways (is_erased_by s (events s (ready s have) steps) a) none (no_script_erases_less s.meaning s.start s have want steps a w.accepted is task needed)
  stays_apart a None inside at same none apart = no_difference level want a (level_by a None inside at ∙ sym same) apart

  -- FFh is no target there
  blank_apart : (a : ℕ) → a < s.meaning.size → slice_index want a ≡ 255 → differs level want a ≡ true → ⊥
  unfolding level
  blank_apart a inside blank apart =
      let may : may_program s.meaning (slice_index level a) (slice_index want a) ≡ true =
      clear_at s.meaning s.meaning.page level have want (erased_at s.meaning (strategy s.meaning s.start) (is_due s.meaning have want)) a
      (setting_of s.meaning s.start s.meaning.page have want w (own_page s.meaning)) inside apart in
      no_difference level want a
      (full s.meaning.erased_only (slice_index level a) (slice_index want a) plain (level_small a _ inside refl) blank may) apart

  touched : (a : ℕ) → a < s.meaning.size → differs level want a ≡ true → list_any (on_page s.page (page_start s.page a)) seen ≡ true
  unfolding seen
  touched a inside apart =
      let left = run_leaves s a some (ready s have) task.final steps task.good.runs (omega (arith, w.have_size, inside)) in
      elim left.1 [
        | inl programs ↦ programs
        | inr other ↦ elim other [
          | inl stays ↦
              absurd (stays_apart a _ inside refl (ap (λ array. slice_index array a) (sym task.array) ∙ stays.0) stays.1 apart)
          | inr blank ↦ absurd (blank_apart a inside (ap (λ array. slice_index array a) (sym task.array) ∙ blank) apart)
        ]
      ]

  few_on : sum_by (λ u. length u.programs) (planned_units s.meaning s.start have want) ≤ programs_seen (events s (ready s have) steps)
  unfolding units level seen
  few_on =
      let us = planned_units s.meaning s.start have want in
      let rising : Rising s.meaning.page level want 0 s.meaning.size (programs_of us) =
      all_rise s.meaning s.meaning.page level have want (erased_at s.meaning (strategy s.meaning s.start) (is_due s.meaning have want)) plain
      (setting_of s.meaning s.start s.meaning.page have want w (own_page s.meaning)) (s.meaning.size / s.meaning.page) (all_pages s.meaning s.start have want w) in
      let total : length (programs_of us) ≡ sum_by (λ (u : WorkUnit). length u.programs) us = sum_length (λ (u : WorkUnit). u.programs) us in
      let most = no_more s.meaning.page level want (some_page s.meaning w.accepted) (programs_of us) 0 s.meaning.size seen rising
      (λ p upto apart. subst (λ n. list_any (on_page n (page_start n p.at)) seen ≡ true) page (touched p.at upto apart)) in
      omega (arith, total, most)

-- as of a chip of a meaning and a start
pub no_script_programs_less : NoScriptProgramsLess
no_script_programs_less m start s have want steps w small plain is page task =
    let on : IsWorkable s.meaning s.start have want =
    subst (λ (b : Start). IsWorkable s.meaning b have want) (sym is.its_start) (subst (λ (a : Parameters). IsWorkable a start have want) (sym is.its_meaning) w) in
    subst (λ (b : Start). sum_by (λ u. length u.programs) (planned_units m b have want) ≤ programs_seen (events s (ready s have) steps)) is.its_start
    (subst (λ (a : Parameters). sum_by (λ u. length u.programs) (planned_units a s.start have want) ≤ programs_seen (events s (ready s have) steps)) is.its_meaning
    (few_on s have want steps on small (ap (λ (a : Parameters). a.erased_only) is.its_meaning ∙ plain)
    (page ∙ ap (λ (a : Parameters). a.page) (sym is.its_meaning)) (record { its_meaning = refl; its_start = refl; its_page = subst (λ (a : Parameters). may_page a s.page ≡ true) (sym is.its_meaning) is.its_page }) task))

own_chip : (m : Parameters) (start : Start) (busy : List ℕ) (keeps : Bool) → IsChipOf m start (chip_of m start busy keeps)
own_chip m start busy keeps = record { its_meaning = refl; its_start = refl; its_page = own_page m }

pub none_on_every_chip : NoneOnEveryChip
none_on_every_chip m start have want steps busy keeps w small plain every =
    no_script_programs_less m start (chip_of m start busy keeps) have want steps w small plain (own_chip m start busy keeps) refl
    (every (chip_of m start busy keeps) (own_chip m start busy keeps))

pub one_serves_two : OneServesTwo
unfolding page_programs is_barred programmed last_byte_for
one_serves_two = record { planned = refl; free = refl; done = refl }
