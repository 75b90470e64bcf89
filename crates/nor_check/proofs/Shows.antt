-- One chip with even busy times shows what is judged of all.
use Rattle.std.proofs.Common.{◌≡◌, ℕ, zero, suc, ◌+◌, ◌<◌, ◌≤◌, ◌==◌, Bool, true, false, not, ◌&&◌, if◌then◌else◌, List, [], ◌∷◌, length, replicate, drop, map, Option, Some, None, Result, Ok, Err, refl, sym, ◌∙◌, ap, arith, subst, inl, inr, eq-eqb}
use Rattle.std.specs.Prelude.{◌⊎◌, codes, nat_eq}
use Rattle.std.specs.List.{slice_index, starts_with}
use Rattle.std.specs.Str.{bytes_eq}
use Rattle.nor_laws.proofs.EffectLaws.{taken}
use Rattle.nor_laws.proofs.VerifyLaws.{status_begins}
use Rattle.std.proofs.lemmas.Bool.{and_parts, cases_eq, ne_eqb, or_left}
use Rattle.nor_base.specs.declared.step.Step.{Step}
use Rattle.nor_base.specs.declared.step.Step.TheVariants.{Send, Poll, Verify}
use Rattle.nor_base.specs.declared.wrong.Wrong.{Wrong}
use Rattle.nor_base.specs.declared.wrong.Wrong.TheVariants as wrong
use Rattle.nor_base.specs.Chip.{Chip, is_busy, is_settled, is_mode, first_mode4, may_page, page_sizes}
use Rattle.nor_base.specs.Decoding.{Instruction, decode}
use Rattle.nor_base.specs.Effect.{effect_of, is_status}
use Rattle.nor_base.specs.Run.{poll_clocks, is_verify, run}
use Rattle.nor_laws.specs.Laws.{PollEnds}
use Rattle.nor_laws.specs.Spelling.{VerifyKeeps}
use Rattle.nor_check.specs.declared.verdict.Verdict.{Verdict}
use Rattle.nor_check.specs.declared.verdict.Verdict.TheVariants.{Yes, No}
use Rattle.nor_check.specs.declared.verdict.Why.{Why}
use Rattle.nor_check.specs.declared.verdict.Why.TheVariants as why
use Rattle.nor_check.specs.Order.{is_before}
use Rattle.nor_check.specs.Outcome.{Trial, first_difference, at_difference, outcome_from}
use Rattle.nor_check.specs.Witness.{is_status_read, in_a_row, reads_from, reads_before, Witnesses, EachNoIsShown, FewReads, even}
use Rattle.nor_check.specs.Chips.{Kind, Chips, one_like, latch_of, MayBeLeft, one_of, some_left, least_able, all_ready, begun}
use Rattle.nor_check.specs.Judged.{later, all_taken, all_effect, all_done, all_matched, all_step, judge_on, judged, judged_with, is_other_page}
use Rattle.nor_check.specs.Pages.{begun_each, judged_each, others, with_page}
use Rattle.nor_check.proofs.OneVerdict.{one_worst}
use Rattle.nor_check.proofs.WorstPages.{worst_of_each}
use Rattle.nor_check.proofs.Steps.{IsStepOfAll, HasNext, no_status, step_of_all}
use Rattle.nor_check.proofs.Judges.{outcome_next, outcome_stops}

-- how many steps some were busy for, where one goes wrong or at the end
abbrev waits_on : Result Chips Wrong → ℕ → (Chips → ℕ) → ℕ
waits_on (Err cause) r rest = r
waits_on (Ok v) r rest = rest v

abbrev waited : Bool → Bool → ℕ → ℕ
waited true true r = r + 1
waited true false r = 0
waited false after r = 0

unfoldable waits : Kind → Chips → ℕ → List Step → ℕ
waits k w r [] = r
waits k w r (x ∷ xs) = waits_on (all_step k w x) r (λ v. waits k v (waited w.busy v.busy r) xs)

-- whether no step goes wrong
abbrev ends_on : Result Chips Wrong → (Chips → Bool) → Bool
ends_on (Err cause) rest = false
ends_on (Ok v) rest = rest v

unfoldable ends_well : Kind → Chips → List Step → Bool
ends_well k w [] = true
ends_well k w (x ∷ xs) = ends_on (all_step k w x) (λ v. ends_well k v xs)

-- a chip among them that is still busy after so many reads, where one may be, and even from there on
record IsEven (w : Chips) (n r left : ℕ) (to_come : List ℕ) (steps : List Step) : Type 0 where
  may : MayBeLeft w.busy left
  enough : w.busy ≡ true → n ≤ left + r
  count : ℕ
  same : to_come ≡ replicate count n
  many : length steps ≤ count

first_of_even : (n count : ℕ) → 0 < count → slice_index (replicate count n) 0 ≡ n
first_of_even n zero some = absurd (omega arith)
first_of_even n (suc count) some = refl

rest_of_even : (n count : ℕ) → 0 < count → (less : ℕ) × (drop 1 (replicate count n) ≡ replicate less n) × (count ≡ suc less)
rest_of_even n zero some = absurd (omega arith)
rest_of_even n (suc count) some = (count, refl, refl)

stays_busy : (before after : Bool) (n r left then_left : ℕ) → (before ≡ true → n ≤ left + r) → (after ≡ true → (before ≡ true) × (left ≤ suc then_left))
    → after ≡ true → n ≤ then_left + waited before after r
stays_busy true true n r left then_left enough how is =
    let low = enough refl in let fell = (how is).1 in omega arith
stays_busy true false n r left then_left enough how is = cc
stays_busy false after n r left then_left enough how is = let both = (how is).0 in cc

goes_on : (k : Kind) (x : Step) (xs : List Step) (w v : Chips) (keeps : Bool) (n r left : ℕ) (to_come : List ℕ) (next : HasNext k x w v keeps left to_come)
    → IsEven w n r left to_come (x ∷ xs) → IsEven v n (waited w.busy v.busy r) next.then_left next.then_come xs
goes_on k x xs w v keeps n r left to_come next even = elim next.how [
  | inl took ↦
      let some : 0 < even.count = let many = even.many in omega arith in
      let first : next.then_left ≡ n = took.0 ∙ ap (λ l. slice_index l 0) even.same ∙ first_of_even n even.count some in
      let rest = rest_of_even n even.count some in
      record {
        may = next.may;
        enough = λ is. omega (arith, first);
        count = rest.0;
        same = took.1 ∙ ap (drop 1) even.same ∙ rest.1;
        many = let many = even.many in let less = rest.2 in omega arith;
      }
  | inr stayed ↦ record {
    may = next.may;
    enough = stays_busy w.busy v.busy n r left next.then_left even.enough stayed.1;
    count = even.count;
    same = stayed.0 ∙ even.same;
    many = let many = even.many in omega arith;
  }
]

-- it is busy where the least able is
busy_same : (busy : Bool) (n r left : ℕ) → MayBeLeft busy left → (busy ≡ true → n ≤ left + r) → r < n → is_busy left ≡ is_busy (some_left busy)
busy_same true n r zero may enough low = let most = enough refl in absurd (omega arith)
busy_same true n r (suc left) may enough low = refl
busy_same false n r left may enough low = ap is_busy may

module _ (k : Kind) (target : List ℕ) (n : ℕ) (busy : List ℕ) (ends : PollEnds) (quiet : VerifyKeeps) where
  at_last : (w : Chips) (left : ℕ) (to_come : List ℕ) → is_busy left ≡ is_busy (some_left w.busy)
      → outcome_from (one_like k busy true) (one_of w true left to_come) target [] ≡ judged k target w []
  unfolding outcome_from run judged is_settled
  at_last w left to_come same =
      ap (λ b. if not b && (not (latch_of w.latches true) && is_mode (first_mode4 (one_like k [] true)) w.mode4)
      then at_difference 0 (first_difference w.array target) else No 0 (why.Wrong wrong.NotIdleAtEnd)) same

  shows_step : (w : Chips) (x : Step) (xs : List Step) (r left : ℕ) (to_come : List ℕ) (res : Result Chips Wrong) → IsStepOfAll k x w res
      → IsEven w n r left to_come (x ∷ xs) → waits_on res r (λ v. waits k v (waited w.busy v.busy r) xs) < n
      → ((v : Chips) (r left : ℕ) (to_come : List ℕ) → IsEven v n r left to_come xs → waits k v r xs < n
      → outcome_from (one_like k busy (ends_well k v xs)) (one_of v (ends_well k v xs) left to_come) target xs ≡ judged k target v xs)
      → outcome_from (one_like k busy (ends_on res (λ v. ends_well k v xs))) (one_of w (ends_on res (λ v. ends_well k v xs)) left to_come) target (x ∷ xs)
      ≡ judge_on res (λ after. judged k target after xs)
  shows_step w x xs r left to_come (Ok v) is even low rest =
      let next = is.onward (ends_well k v xs) left to_come even.may in
      outcome_next (one_like k busy (ends_well k v xs)) (one_of w (ends_well k v xs) left to_come) (one_of v (ends_well k v xs) next.then_left next.then_come) target x xs (next.steps busy)
      ∙ ap later (rest v (waited w.busy v.busy r) next.then_left next.then_come (goes_on k x xs w v (ends_well k v xs) n r left to_come next even) low)
  shows_step w x xs r left to_come (Err cause) is even low rest =
      outcome_stops (one_like k busy false) (one_of w false left to_come) target x xs cause
      (is.some busy left to_come (busy_same w.busy n r left even.may even.enough low))

  shows : (steps : List Step) (w : Chips) (r left : ℕ) (to_come : List ℕ) → IsEven w n r left to_come steps → waits k w r steps < n
      → outcome_from (one_like k busy (ends_well k w steps)) (one_of w (ends_well k w steps) left to_come) target steps ≡ judged k target w steps
  unfolding waits ends_well judged
  shows [] w r left to_come even low = at_last w left to_come (busy_same w.busy n r left even.may even.enough low)
  shows (x ∷ xs) w r left to_come even low =
      shows_step w x xs r left to_come (all_step k w x) (step_of_all k w x ends quiet) even low (λ v r left to_come even low. shows xs v r left to_come even low)

-- while some stay busy, only status reads are taken
busy_reads_if : (k : Kind) (w v : Chips) (i : Instruction) (r : Result (Chip × List ℕ) Wrong) → w.busy ≡ true
    → effect_of (one_like k [] false) (least_able w) i ≡ r → all_done (all_taken w i.what r) ≡ Ok v → is_status i.what ≡ true
busy_reads_if k w v i (Err cause) busy is h = cc
busy_reads_if k w v i (Ok (d, bytes)) busy is h =
    let idle : not (is_status i.what) && is_busy (some_left w.busy) ≡ false = (taken (one_like k [] false) (least_able w) i d bytes is).idle in
    by (is_status i.what) (ap (λ b. not (is_status i.what) && is_busy (some_left b)) (sym busy) ∙ idle)
  where
    by : (b : Bool) → not b && true ≡ false → b ≡ true
    by true h = refl
    by false h = cc

send_reads : (k : Kind) (w v : Chips) (clocks : List ℕ) (o : Option Instruction) → w.busy ≡ true → decode k.meaning w.mode4 clocks ≡ o
    → all_done (all_effect k w o) ≡ Ok v → starts_with nat_eq clocks (codes "00000101") ≡ true
send_reads k w v clocks None busy is h = cc
send_reads k w v clocks (Some i) busy is h =
    status_begins k.meaning w.mode4 clocks i is (busy_reads_if k w v i (effect_of (one_like k [] false) (least_able w) i) busy refl h)

poll_reads : (w v : Chips) (b : Bool) → v.busy ≡ true → (if b then Ok (record w { busy = false }) else Err wrong.Unknown) ≡ Ok v → ⊥
poll_reads w v true busy h = let none : false ≡ v.busy = cc in cc
poll_reads w v false busy h = cc

matched_all : (expect : List ℕ) (r : Result (Chips × List ℕ) Wrong) (v : Chips) → all_matched expect r ≡ Ok v → all_done r ≡ Ok v
matched_all expect (Err cause) v h = cc
matched_all expect (Ok after) v h = by (bytes_eq after.1 expect) h
  where
    by : (b : Bool) → (if b then Ok after.0 else Err wrong.Mismatch) ≡ Ok v → all_done (Ok after) ≡ Ok v
    by true h = h
    by false h = cc

verify_quiet : (k : Kind) (w v : Chips) (clocks expect : List ℕ) (b : Bool) (o : Option Instruction) → VerifyKeeps → w.busy ≡ true → is_verify clocks ≡ b
    → decode k.meaning w.mode4 clocks ≡ o → (if b then all_matched expect (all_effect k w o) else Err wrong.Unknown) ≡ Ok v → ⊥
verify_quiet k w v clocks expect false o quiet busy verify is h = cc
verify_quiet k w v clocks expect true None quiet busy verify is h = cc
verify_quiet k w v clocks expect true (Some i) quiet busy verify is h =
    let status = busy_reads_if k w v i (effect_of (one_like k [] false) (least_able w) i) busy refl (matched_all expect (all_effect k w (Some i)) v h) in
    let none = no_status k.meaning k.start w.mode4 clocks i quiet verify is in
    let clash : true ≡ false = sym status ∙ none in
    cc

busy_reads : (k : Kind) (w v : Chips) (x : Step) → VerifyKeeps → w.busy ≡ true → v.busy ≡ true → all_step k w x ≡ Ok v → is_status_read x ≡ true
unfolding all_step
busy_reads k w v (Send clocks) quiet busy still h = send_reads k w v clocks (decode k.meaning w.mode4 clocks) busy refl h
busy_reads k w v (Poll clocks) quiet busy still h = absurd (poll_reads w v (bytes_eq clocks poll_clocks) still h)
busy_reads k w v (Verify clocks expect) quiet busy still h =
    absurd (verify_quiet k w v clocks expect (is_verify clocks) (decode k.meaning w.mode4 clocks) quiet busy refl refl h)

waited_few : (before after read : Bool) (r most : ℕ) → (before ≡ true → after ≡ true → read ≡ true) → r ≤ most
    → waited before after r ≤ (if read then most + 1 else 0)
waited_few true true true r most only few = omega arith
waited_few true true false r most only few = let no = only refl refl in cc
waited_few true false read r most only few = omega arith
waited_few false after read r most only few = omega arith

-- what a no tells of how long one waits, and of whether a step goes wrong
record Tells (few most j count : ℕ) (well : Bool) : Type 0 where
  within : few ≤ most
  last : well ≡ (j == count)

one_before : (v : Verdict) (j : ℕ) (cause : Why) → later v ≡ No j cause → (i : ℕ) × (v ≡ No i cause) × (j ≡ suc i)
one_before Yes j cause h = cc
one_before (No i other) j cause h =
    let number : i + 1 ≡ j = cc in
    let same : other ≡ cause = cc in
    (i, ap (No i) same, omega (arith, number))

at_zero : (b : Bool) (o : Option ℕ) (j : ℕ) (cause : Why) → (if b then at_difference 0 o else No 0 (why.Wrong wrong.NotIdleAtEnd)) ≡ No j cause → j ≡ 0
at_zero true None j cause h = cc
at_zero true (Some a) j cause h = cc
at_zero false o j cause h = cc

next_equal : (i count : ℕ) → (suc i == suc count) ≡ (i == count)
next_equal i count = elim (cases_eq i count) [
  | inl same ↦ eq-eqb (suc i) (suc count) (ap suc same) ∙ sym (eq-eqb i count same)
  | inr apart ↦ ne_eqb (suc i) (suc count) (λ same. apart (omega arith)) ∙ sym (ne_eqb i count apart)
]

tells_step : (k : Kind) (target : List ℕ) (x : Step) (xs : List Step) (w : Chips) (r most j : ℕ) (cause : Why) (res : Result Chips Wrong) → VerifyKeeps
    → all_step k w x ≡ res → r ≤ most
    → ((v : Chips) (r most i : ℕ) → r ≤ most → judged k target v xs ≡ No i cause → Tells (waits k v r xs) (reads_from most i xs) i (length xs) (ends_well k v xs))
    → judge_on res (λ after. judged k target after xs) ≡ No j cause
    → Tells (waits_on res r (λ v. waits k v (waited w.busy v.busy r) xs)) (reads_from most j (x ∷ xs)) j (suc (length xs)) (ends_on res (λ v. ends_well k v xs))
unfolding reads_from
tells_step k target x xs w r most j cause (Ok v) quiet is few rest h =
    let one = one_before (judged k target v xs) j cause h in
    let next = waited_few w.busy v.busy (is_status_read x) r most (λ busy still. busy_reads k w v x quiet busy still is) few in
    let more = rest v (waited w.busy v.busy r) (in_a_row most x) one.0 next one.1 in
    record {
      within = subst (λ j. waits k v (waited w.busy v.busy r) xs ≤ reads_from most j (x ∷ xs)) (sym one.2) more.within;
      last = more.last ∙ sym (next_equal one.0 (length xs)) ∙ ap (λ i. i == suc (length xs)) (sym one.2);
    }
tells_step k target x xs w r most j cause (Err other) quiet is few rest h =
    let number : 0 ≡ j = cc in
    record {
      within = subst (λ j. r ≤ reads_from most j (x ∷ xs)) number few;
      last = sym (ne_eqb j (suc (length xs)) (λ same. omega (arith, number, same)));
    }

tells : (k : Kind) (target : List ℕ) (steps : List Step) (w : Chips) (r most j : ℕ) (cause : Why) → VerifyKeeps → r ≤ most → judged k target w steps ≡ No j cause
    → Tells (waits k w r steps) (reads_from most j steps) j (length steps) (ends_well k w steps)
unfolding waits ends_well judged reads_from
tells k target [] w r most j cause quiet few h =
    let number = at_zero (is_settled (one_like k [] true) (one_of w true (some_left w.busy) [])) (first_difference w.array target) j cause h in
    record { within = subst (λ j. r ≤ reads_from most j []) (sym number) few; last = ap (λ i. i == 0) (sym number) }
tells k target (x ∷ xs) w r most j cause quiet few h =
    tells_step k target x xs w r most j cause (all_step k w x) quiet refl few (λ v r most i few is. tells k target xs v r most i cause quiet few is) h

-- the page whose verdict is the earliest
of_two : (v u : Verdict) (b : Bool) (j : ℕ) (cause : Why) → (if b then u else v) ≡ No j cause → (v ≡ No j cause) ⊎ (u ≡ No j cause)
of_two v u true j cause h = inr h
of_two v u false j cause h = inl h

pub record Found (t : Trial) (j : ℕ) (cause : Why) : Type 0 where
  pub page : ℕ
  pub may : may_page t.m page ≡ true
  pub so : judged_with t page ≡ No j cause

module _ (t : Trial) (j : ℕ) (cause : Why) where
  found_by : (q : ℕ) (rest : List ℕ) (b : Bool) → is_other_page t.m q ≡ b
      → (judged_each t.want (map (with_page (begun t.m t.start t.m.page t.have)) rest) t.steps ≡ No j cause → Found t j cause)
      → judged_each t.want (map (with_page (begun t.m t.start t.m.page t.have)) (if b then q ∷ rest else rest)) t.steps ≡ No j cause → Found t j cause
  found_by q rest true other more h =
      elim (of_two (judged_with t q) (judged_each t.want (map (with_page (begun t.m t.start t.m.page t.have)) rest) t.steps)
      (is_before (judged_each t.want (map (with_page (begun t.m t.start t.m.page t.have)) rest) t.steps) (judged_with t q)) j cause h) [
        | inl here ↦ record { page = q; may = (and_parts (not (q == t.m.page)) (may_page t.m q) other).1; so = here }
        | inr there ↦ more there
      ]
  found_by q rest false other more h = more h

  found_others : (sizes : List ℕ) → judged_each t.want (map (with_page (begun t.m t.start t.m.page t.have)) (others t.m sizes)) t.steps ≡ No j cause → Found t j cause
  found_others [] h = cc
  found_others (q ∷ sizes) h = found_by q (others t.m sizes) (is_other_page t.m q) refl (found_others sizes) h

  found : judged_each t.want (begun_each t.m t.start t.have) t.steps ≡ No j cause → Found t j cause
  found h =
      elim (of_two (judged_with t t.m.page) (judged_each t.want (map (with_page (begun t.m t.start t.m.page t.have)) (others t.m page_sizes)) t.steps)
      (is_before (judged_each t.want (map (with_page (begun t.m t.start t.m.page t.have)) (others t.m page_sizes)) t.steps) (judged_with t t.m.page)) j cause h) [
        | inl here ↦ record { page = t.m.page; may = or_left (t.m.page == t.m.page) _ (eq-eqb t.m.page t.m.page refl); so = here }
        | inr there ↦ found_others page_sizes there
      ]

  pub on_page : PollEnds → VerifyKeeps → (n : ℕ) (f : Found t j cause) → reads_before j t.steps < n → Witnesses t j cause (even n (j == length t.steps) f.page)
  on_page ends quiet n f low =
      let k : Kind = record { meaning = t.m; start = t.start; page = f.page } in
      let w = all_ready k t.have in
      let told = tells k t.want t.steps w 0 0 j cause quiet (omega arith) f.so in
      let few = told.within in
      record {
        may = f.may;
        shows = λ many enough.
            let even : IsEven w n 0 0 (replicate many n) t.steps =
            record { may = refl; enough = λ is. cc; count = many; same = refl; many = enough } in
            subst (λ b. outcome_from (one_like k (replicate many n) b) (one_of w b 0 (replicate many n)) t.want t.steps ≡ No j cause) told.last
            (shows k t.want n (replicate many n) ends quiet t.steps w 0 0 (replicate many n) even (omega (arith, few, low)) ∙ f.so);
      }

pub each_no_is_shown : PollEnds → VerifyKeeps → EachNoIsShown
each_no_is_shown ends quiet t step cause worst =
    let same = one_worst t (judged_each t.want (begun_each t.m t.start t.have) t.steps) (No step cause) (worst_of_each t ends quiet) worst in
    let f = found t step cause same in
    (f.page, λ n low. on_page t step cause ends quiet n f low)

few_from : (steps : List Step) (n reads : ℕ) → reads_from reads n steps ≤ reads + n
unfolding reads_from
few_from steps zero reads = omega arith
few_from [] (suc n) reads = omega arith
few_from (x ∷ xs) (suc n) reads =
    let rest = few_from xs n (in_a_row reads x) in
    let one = by (is_status_read x) in
    omega (arith, rest, one)
  where
    by : (b : Bool) → (if b then reads + 1 else 0) ≤ reads + 1
    by true = omega arith
    by false = omega arith

pub few_reads : FewReads
few_reads n steps = let few = few_from steps n 0 in omega (arith, few)
