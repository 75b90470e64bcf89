-- The page that shows a verdict, fed step by step.
use Rattle.std.proofs.Common.{◌≡◌, ℕ, zero, suc, ◌+◌, ◌<◌, ◌≤◌, ◌==◌, Bool, true, false, not, if◌then◌else◌, List, [], ◌∷◌, length, get_or, drop, map, Option, Some, None, Result, Ok, Err, refl, sym, ◌∙◌, ap, arith, subst, inl, inr, eq-eqb}
use Rattle.std.specs.Prelude.{slice_set, is_some}
use Rattle.std.proofs.lemmas.Bool.{and_parts, or_left}
use Rattle.std.proofs.lemmas.List.{drop_more, drop-set-lt, drop-drop}
use Rattle.nor_base.specs.declared.step.Step.{Step}
use Rattle.nor_base.specs.declared.wrong.Wrong.{Wrong}
use Rattle.nor_base.specs.declared.wrong.Wrong.TheVariants as wrong
use Rattle.nor_base.specs.Parameters.{Parameters}
use Rattle.nor_base.specs.Chip.{is_settled, may_page, page_sizes}
use Rattle.nor_laws.specs.Laws.{PollEnds}
use Rattle.nor_laws.specs.Spelling.{VerifyKeeps}
use Rattle.nor_check.specs.declared.verdict.Verdict.{Verdict}
use Rattle.nor_check.specs.declared.verdict.Verdict.TheVariants.{Yes, No}
use Rattle.nor_check.specs.declared.verdict.Witness.{Witness}
use Rattle.nor_check.specs.declared.verdict.Why.{Why}
use Rattle.nor_check.specs.declared.verdict.Why.TheVariants as why
use Rattle.nor_check.specs.Order.{is_before, earlier}
use Rattle.nor_check.specs.Outcome.{Trial, first_difference, at_difference, at_end}
use Rattle.nor_check.specs.Chips.{Kind, Chips, Together, one_like, last_settled, begun}
use Rattle.nor_check.specs.Judged.{later, StepsAll, all_step, judge_on, judged, is_other_page}
use Rattle.nor_check.specs.Pages.{IsOneOf, IsRefusedBy, IsToldBy, IsJudgedBy, StepsEach, begun_each, each_step, first_of, is_sooner, joined, judged_each, others, page_by_page, with_page}
use Rattle.nor_check.specs.Fed.{Fed, IsShown, after_steps, reads_after, reached, to_come, verdict_at}
use Rattle.nor_check.specs.Witness.{in_a_row, is_status_read, reads_from, reads_before, Witnesses, even}
use Rattle.nor_check.proofs.Shows.{on_page}

-- one of the rest of some is one of them
of_rest : (t : Together) (xs : List Together) (i : ℕ) → IsOneOf t (drop i xs) → IsOneOf t xs
of_rest t xs zero h = h
of_rest t [] (suc i) h = h
of_rest t (u ∷ us) (suc i) h = inr (of_rest t us i h)

pub there_of : (xs : List Together) (i : ℕ) (d : Together) → i < length xs → IsOneOf (get_or xs i d) xs
there_of [] i d within = absurd (omega arith)
there_of (x ∷ xs) zero d within = inl refl
there_of (x ∷ xs) (suc i) d within = inr (there_of xs i d (omega arith))

-- one step: the chips of the first
pub own_told : (own after : Together) (rest : List Together) (x : Step) (r : Result (Unit {0}) Wrong) → StepsAll own after r x → IsToldBy (own ∷ rest) r x own.kind.page
own_told own after rest x (Ok u) h = tt
own_told own after rest x (Err cause) h = record { these = own; among = inl refl; its_page = refl; so = h.0 }

-- and of one more
pub next_told : (before : List Together) (t after : Together) (x : Step) (a r : Result (Unit {0}) Wrong) (page then_page : ℕ) (b : Bool) → StepsAll t after r x
    → IsOneOf t before → is_sooner r a ≡ b → (b ≡ true → then_page ≡ after.kind.page) → (b ≡ false → then_page ≡ page) → IsToldBy before a x page
    → IsToldBy before (first_of a r) x then_page
next_told before t after x (Ok u) (Ok v) page then_page b h among is sooner other told = tt
next_told before t after x (Ok u) (Err cause) page then_page true h among is sooner other told =
    record { these = t; among = among; its_page = sym (ap (λ (k : Kind). k.page) h.1) ∙ sym (sooner refl); so = h.0 }
next_told before t after x (Ok u) (Err cause) page then_page false h among is sooner other told = cc
next_told before t after x (Err cause) (Ok v) page then_page true h among is sooner other told = cc
next_told before t after x (Err cause) (Ok v) page then_page false h among is sooner other told =
    record { these = told.these; among = told.among; its_page = told.its_page ∙ sym (other refl); so = told.so }
next_told before t after x (Err cause) (Err because) page then_page true h among is sooner other told =
    subst (λ c. IsRefusedBy before x c then_page) (sym (ap (λ b. if b then because else cause) is))
    (record { these = t; among = among; its_page = sym (ap (λ (k : Kind). k.page) h.1) ∙ sym (sooner refl); so = h.0 })
next_told before t after x (Err cause) (Err because) page then_page false h among is sooner other told =
    subst (λ c. IsRefusedBy before x c then_page) (sym (ap (λ b. if b then because else cause) is))
    (record { these = told.these; among = told.among; its_page = told.its_page ∙ sym (other refl); so = told.so })

page_by : (b : Bool) (page own : ℕ) → ((b ≡ true → (if b then own else page) ≡ own) × (b ≡ false → (if b then own else page) ≡ page))
page_by true page own = (λ is. refl, λ is. cc)
page_by false page own = (λ is. cc, λ is. refl)

-- one of the others after those so far
pub moves_on : (first items : List Together) (i : ℕ) (after : Together) → i < length items → drop i items ≡ drop i first
    → drop (i + 1) (slice_set items i after) ≡ drop (i + 1) first
moves_on first items i after within same =
    drop-set-lt (i + 1) items i after (omega arith) ∙ sym (drop-drop 1 i items) ∙ ap (drop 1) same ∙ drop-drop 1 i first

pub more_told : (own : Together) (first items : List Together) (i : ℕ) (d after : Together) (x : Step) (a r next : Result (Unit {0}) Wrong) (page after_page then_page : ℕ)
    → i < length items → drop i items ≡ drop i first → StepsAll (get_or items i d) after r x → next ≡ first_of a r → after_page ≡ after.kind.page
    → then_page ≡ (if is_sooner r a then after_page else page) → IsToldBy (own ∷ first) a x page → IsToldBy (own ∷ first) next x then_page
more_told own first items i d after x a r next page after_page then_page within same h is own_page picked told =
    let here : IsOneOf (get_or items i d) (drop i items) = subst (IsOneOf (get_or items i d)) (sym (drop_more items i d within)) (inl refl) in
    let among : IsOneOf (get_or items i d) (own ∷ first) = inr (of_rest (get_or items i d) first i (subst (IsOneOf (get_or items i d)) same here)) in
    let by = page_by (is_sooner r a) page after_page in
    subst (λ n. IsToldBy (own ∷ first) n x then_page) (sym is)
    (next_told (own ∷ first) (get_or items i d) after x a r page then_page (is_sooner r a) h among refl (λ sooner. picked ∙ by.0 sooner ∙ own_page) (λ other. picked ∙ by.1 other) told)

-- alike chips: those of the meaning's own page are one of them
own_alike : (own : Together) → own.kind.page ≡ own.kind.meaning.page → with_page own own.kind.meaning.page ≡ own
own_alike own same = ap (λ q. with_page own q) (sym same)

pub alike_told : (b : Bool) (own after : Together) (rest now : List Together) (x : Step) (r : Result (Unit {0}) Wrong) → b ≡ true → page_by_page b own rest ≡ now
    → own.kind.page ≡ own.kind.meaning.page → StepsAll own after r x → IsToldBy now r x own.kind.page
alike_told true own after rest now x (Ok u) is view same h = tt
alike_told true own after rest now x (Err cause) is view same h =
    subst (λ ts. IsRefusedBy ts x cause own.kind.page) view
    (record { these = own; among = inl (sym (own_alike own same)); its_page = refl; so = h.0 })
alike_told false own after rest now x r is view same h = cc

-- the end
pub own_judged : (judge : Together → Verdict) (b : Bool) (own : Together) (rest now : List Together) (v : Verdict) → b ≡ true → page_by_page b own rest ≡ now
    → own.kind.page ≡ own.kind.meaning.page → judge own ≡ v → IsJudgedBy judge now v own.kind.page
own_judged judge true own rest now v is view same h =
    subst (λ ts. IsJudgedBy judge ts v own.kind.page) view (record { these = own; among = inl (sym (own_alike own same)); its_page = refl; so = h })
own_judged judge false own rest now v is view same h = cc

-- the earlier of two verdicts is that of the chips of its page
judged_then : (judge : Together → Verdict) (before : List Together) (t : Together) (worst v : Verdict) (page own then_page : ℕ) (b : Bool) → is_before v worst ≡ b
    → IsOneOf t before → judge t ≡ v → own ≡ t.kind.page → then_page ≡ (if b then own else page) → IsJudgedBy judge before worst page
    → IsJudgedBy judge before (if b then v else worst) then_page
judged_then judge before t worst v page own then_page true is among so own_page picked told =
    record { these = t; among = among; its_page = sym own_page ∙ sym picked; so = so }
judged_then judge before t worst v page own then_page false is among so own_page picked told =
    record { these = told.these; among = told.among; its_page = told.its_page ∙ sym picked; so = told.so }

pub more_judged : (judge : Together → Verdict) (own : Together) (all : List Together) (i : ℕ) (d : Together) (worst v next : Verdict) (page after_page then_page : ℕ)
    → i < length all → judge (get_or all i d) ≡ v → after_page ≡ (get_or all i d).kind.page → then_page ≡ (if is_before v worst then after_page else page)
    → next ≡ earlier worst v → IsJudgedBy judge (own ∷ all) worst page → IsJudgedBy judge (own ∷ all) next then_page
more_judged judge own all i d worst v next page after_page then_page within so own_page picked is told =
    subst (λ u. IsJudgedBy judge (own ∷ all) u then_page) (sym is)
    (judged_then judge (own ∷ all) (get_or all i d) worst v page after_page then_page (is_before v worst) refl (inr (there_of all i d within)) so own_page picked told)

-- before any step: whoever shows a no is one of the chips of a page
found_if : (m : Parameters) (q : ℕ) (t : Together) (own : Together) (rest : List ℕ) (b : Bool) (P : Type 0) → is_other_page m q ≡ b
    → (is_other_page m q ≡ true → t ≡ with_page own q → P) → (IsOneOf t (map (with_page own) rest) → P)
    → IsOneOf t (map (with_page own) (if b then q ∷ rest else rest)) → P
found_if m q t own rest true P is here more (inl same) = here is same
found_if m q t own rest true P is here more (inr there) = more there
found_if m q t own rest false P is here more h = more h

module _ (t : Trial) (j : ℕ) (cause : Why) where
  -- a page of which some show a no has chips that show it
  Shows : ℕ → Type 0
  Shows page = (may_page t.m page ≡ true) × (judged (record { meaning = t.m; start = t.start; page = page }) t.want (begun t.m t.start t.m.page t.have).chips t.steps ≡ No j cause)

  at_page : (q page : ℕ) (c : Together) → may_page t.m q ≡ true → c ≡ with_page (begun t.m t.start t.m.page t.have) q → c.kind.page ≡ page
      → judged c.kind t.want c.chips t.steps ≡ No j cause → Shows page
  unfolding Shows
  at_page q page c may same its so =
      let here : q ≡ page = ap (λ (u : Together). u.kind.page) (sym same) ∙ its in (
        subst (λ n. may_page t.m n ≡ true) here may,
        subst (λ n. judged (record { meaning = t.m; start = t.start; page = n }) t.want (begun t.m t.start t.m.page t.have).chips t.steps ≡ No j cause) here
            (subst (λ (u : Together). judged u.kind t.want u.chips t.steps ≡ No j cause) same so),
      )

  among_others : (sizes : List ℕ) (page : ℕ) (c : Together) → IsOneOf c (map (with_page (begun t.m t.start t.m.page t.have)) (others t.m sizes)) → c.kind.page ≡ page
      → judged c.kind t.want c.chips t.steps ≡ No j cause → Shows page
  among_others [] page c h its so = absurd h
  among_others (q ∷ sizes) page c h its so =
      found_if t.m q c (begun t.m t.start t.m.page t.have) (others t.m sizes) (is_other_page t.m q) (Shows page) refl
      (λ other same. at_page q page c (and_parts (not (q == t.m.page)) (may_page t.m q) other).1 same its so) (λ there. among_others sizes page c there its so) h

  among_all : (page : ℕ) (c : Together) → IsOneOf c (begun_each t.m t.start t.have) → c.kind.page ≡ page → judged c.kind t.want c.chips t.steps ≡ No j cause → Shows page
  among_all page c (inl own) its so = at_page t.m.page page c (or_left (t.m.page == t.m.page) _ (eq-eqb t.m.page t.m.page refl)) own its so
  among_all page c (inr other) its so = among_others page_sizes page c other its so

pub begins_shown : (size : ℕ) (t : Trial) (step : ℕ) (cause : Why) (own : ℕ) (w : Witness) (n : ℕ) → PollEnds → VerifyKeeps → (ts : List Together) → ts ≡ begun_each t.m t.start t.have
    → IsShown (record { size = size; number = 0; chips = ts; stopped = None; page = own; reads = 0 }) t.want t.steps (No step cause) w → w.reads < n
    → Witnesses t step cause (even n (step == length t.steps) w.page)
unfolding IsShown Shows
begins_shown size t step cause own w n ends quiet ts is h low =
    let same : h.0 ≡ step = omega (arith, h.1) in
    let of = h.2 in
    let shows = among_all t h.0 cause w.page of.these (subst (IsOneOf of.these) is of.among) of.its_page of.so in
    let few : reads_before h.0 t.steps < n = omega (arith, h.3, low) in
    subst (λ j. Witnesses t j cause (even n (j == length t.steps) w.page)) same
    (on_page t h.0 cause ends quiet n (record { page = w.page; may = shows.0; so = shows.1 }) few)

-- the number of status reads is that of those right before
pub begins_counted : (size : ℕ) (target : List ℕ) (ts : List Together) (steps : List Step) (step : ℕ) (cause : Why) (own : ℕ) (w : Witness)
    → IsShown (record { size = size; number = 0; chips = ts; stopped = None; page = own; reads = 0 }) target steps (No step cause) w → w.reads ≡ reads_before step steps
unfolding IsShown
begins_counted size target ts steps step cause own w h =
    let same : h.0 ≡ step = omega (arith, h.1) in
    subst (λ j. w.reads ≡ reads_before j steps) same (sym h.3)

-- one step more
later_of : (v : Verdict) (i : ℕ) (cause : Why) → v ≡ No i cause → later v ≡ No (suc i) cause
later_of v i cause h = let one : i + 1 ≡ suc i = omega arith in ap later h ∙ ap (λ n. No n cause) one

came_from_by : (target : List ℕ) (x : Step) (more : List Step) (k : Kind) (w : Chips) (ts : List Together) (r : Result Chips Wrong) (s : Result (List Together) Wrong)
    (after : List Together) (t : Together) → all_step k w x ≡ r → joined k r s ≡ Ok after
    → ((rest : List Together) → s ≡ Ok rest → IsOneOf t rest → (u : Together) × IsOneOf u ts × (u.kind.page ≡ t.kind.page) × (all_step u.kind u.chips x ≡ Ok t.chips) × (u.kind ≡ t.kind))
    → IsOneOf t after
    → (u : Together) × IsOneOf u (record { kind = k; chips = w } ∷ ts) × (u.kind.page ≡ t.kind.page) × (all_step u.kind u.chips x ≡ Ok t.chips) × (u.kind ≡ t.kind)
came_from_by target x more k w ts (Ok v) (Ok rest) after t is h deeper among =
    let same : record { kind = k; chips = v } ∷ rest ≡ after = cc in
    by (subst (IsOneOf t) (sym same) among)
  where
    by : IsOneOf t (record { kind = k; chips = v } ∷ rest)
        → (u : Together) × IsOneOf u (record { kind = k; chips = w } ∷ ts) × (u.kind.page ≡ t.kind.page) × (all_step u.kind u.chips x ≡ Ok t.chips) × (u.kind ≡ t.kind)
    by (inl here) = (
      record { kind = k; chips = w },
      inl refl,
      ap (λ (u : Together). u.kind.page) (sym here),
      is ∙ ap (λ (u : Together). Ok u.chips) (sym here),
      ap (λ (u : Together). u.kind) (sym here),
    )
    by (inr there) = let d = deeper rest refl there in (d.0, inr d.1, d.2, d.3, d.4)
came_from_by target x more k w ts (Ok v) (Err b) after t is h deeper among = cc
came_from_by target x more k w ts (Err a) (Ok rest) after t is h deeper among = cc
came_from_by target x more k w ts (Err a) (Err b) after t is h deeper among = cc

came_from : (target : List ℕ) (x : Step) (more : List Step) (ts after : List Together) (t : Together) → each_step ts x ≡ Ok after → IsOneOf t after
    → (u : Together) × IsOneOf u ts × (u.kind.page ≡ t.kind.page) × (all_step u.kind u.chips x ≡ Ok t.chips) × (u.kind ≡ t.kind)
came_from target x more [] after t h among = let same : [] ≡ after = cc in absurd (subst (IsOneOf t) (sym same) among)
came_from target x more (u ∷ us) after t h among =
    came_from_by target x more u.kind u.chips us (all_step u.kind u.chips x) (each_step us x) after t refl h (λ rest is there. came_from target x more us rest t is there) among

module _ (target : List ℕ) (size number reads own then_own : ℕ) (ts after : List Together) (x : Step) (more : List Step) where
  abbrev old : Fed
  old = record { size = size; number = number; chips = ts; stopped = None; page = own; reads = reads }

  stepped : (v : Verdict) (w : Witness) → each_step ts x ≡ Ok after
      → IsShown (record { size = size; number = number + 1; chips = after; stopped = None; page = then_own; reads = in_a_row reads x }) target more v w
      → IsShown old target (x ∷ more) v w
  unfolding IsShown judged reads_from
  stepped Yes w is h = absurd h
  stepped (No step cause) w is h =
      let of = h.2 in
      let from = came_from target x more ts after of.these is of.among in (
        suc h.0,
        omega (arith, h.1),
        record {
          these = from.0;
          among = from.1;
          its_page = from.2 ∙ of.its_page;
          so = ap (λ r. judge_on r (λ after. judged from.0.kind target after more)) from.3
              ∙ later_of (judged from.0.kind target of.these.chips more) h.0 cause
              (subst (λ (k : Kind). judged k target of.these.chips more ≡ No h.0 cause) (sym from.4) of.so);
        },
        h.3,
      )

  stopped_by : (v : Verdict) (w : Witness) (wrong : Wrong) → IsRefusedBy ts x wrong then_own
      → IsShown (record { size = size; number = number + 1; chips = after; stopped = Some (No number (why.Wrong wrong)); page = then_own; reads = reads }) target more v w
      → IsShown old target (x ∷ more) v w
  unfolding IsShown judged reads_from
  stopped_by Yes w wrong told h = let clash = h.0 in cc
  stopped_by (No step cause) w wrong told h =
      let number_is : number ≡ step = cc in
      let cause_is : why.Wrong wrong ≡ cause = cc in (
        0,
        omega (arith, number_is),
        record {
          these = told.these;
          among = told.among;
          its_page = told.its_page ∙ h.1;
          so = ap (λ r. judge_on r (λ after. judged told.these.kind target after more)) told.so ∙ ap (No 0) cause_is;
        },
        h.2,
      )

-- what is shown after a step is shown before it
pub feeds_shown : (target : List ℕ) (size number reads then_reads own then_own : ℕ) (ts after : List Together) (x : Step) (more : List Step) (o : Option Verdict)
    (r : Result (Unit {0}) Wrong) (v : Verdict) (w : Witness) → false ≡ is_some o → StepsEach ts after r x → IsToldBy ts r x then_own → then_reads ≡ reads_after reads x r
    → IsShown (record { size = size; number = number + 1; chips = after; stopped = verdict_at number r; page = then_own; reads = then_reads }) target more v w
    → IsShown (record { size = size; number = number; chips = ts; stopped = o; page = own; reads = reads }) target (x ∷ more) v w
feeds_shown target size number reads then_reads own then_own ts after x more (Some u) r v w none is told counted h = cc
feeds_shown target size number reads then_reads own then_own ts after x more None (Ok u) v w none is told counted h =
    stepped target size number reads own then_own ts after x more v w is
    (subst (λ n. IsShown (record { size = size; number = number + 1; chips = after; stopped = None; page = then_own; reads = n }) target more v w) counted h)
feeds_shown target size number reads then_reads own then_own ts after x more None (Err wrong) v w none is told counted h =
    stopped_by target size number reads own then_own ts after x more v w wrong told
    (subst (λ n. IsShown (record { size = size; number = number + 1; chips = after; stopped = Some (No number (why.Wrong wrong)); page = then_own; reads = n }) target more v w)
    counted h)

-- once a verdict is reached it stays
pub stays_shown : (target : List ℕ) (size number later_on own reads : ℕ) (ts : List Together) (x : Step) (more : List Step) (o : Option Verdict) (v : Verdict) (w : Witness)
    → true ≡ is_some o → IsShown (record { size = size; number = later_on; chips = ts; stopped = o; page = own; reads = reads }) target more v w
    → IsShown (record { size = size; number = number; chips = ts; stopped = o; page = own; reads = reads }) target (x ∷ more) v w
unfolding IsShown
stays_shown target size number later_on own reads ts x more None v w some h = cc
stays_shown target size number later_on own reads ts x more (Some u) v w some h = h

-- at the end
pub reached_shown : (f : Fed) (target : List ℕ) (v : Verdict) (step : ℕ) (cause : Why) → f.stopped ≡ Some v → to_come f target [] ≡ No step cause
    → IsShown f target [] (No step cause) (record { reads = f.reads; page = f.page })
unfolding IsShown to_come
reached_shown f target v step cause is h =
    subst (λ (o : Option Verdict). IsShown (record f { stopped = o }) target [] (No step cause) (record { reads = f.reads; page = f.page })) (sym is)
    (ap (λ (o : Option Verdict). reached o (after_steps f.number (judged_each target f.chips []))) (sym is) ∙ h, refl, refl)

zero_at : (n : ℕ) (b : Bool) (o : Option ℕ) (step : ℕ) (cause : Why) → (if b then at_difference n o else No n (why.Wrong wrong.NotIdleAtEnd)) ≡ No step cause
    → (step ≡ n) × ((if b then at_difference 0 o else No 0 (why.Wrong wrong.NotIdleAtEnd)) ≡ No 0 cause)
zero_at n true None step cause h = cc
zero_at n true (Some a) step cause h = let number : n ≡ step = cc in let same : why.Differs a ≡ cause = cc in (sym number, ap (No 0) same)
zero_at n false o step cause h = let number : n ≡ step = cc in let same : why.Wrong wrong.NotIdleAtEnd ≡ cause = cc in (sym number, ap (No 0) same)

pub ends_shown : (target : List ℕ) (size n own page reads : ℕ) (ts : List Together) (o : Option Verdict) (v : Verdict) (step : ℕ) (cause : Why) → o ≡ None
    → IsJudgedBy (λ t. at_end (one_like t.kind [] true) target n (last_settled t.chips)) ts v page → v ≡ No step cause
    → IsShown (record { size = size; number = n; chips = ts; stopped = o; page = own; reads = reads }) target [] (No step cause) (record { reads = reads; page = page })
unfolding IsShown judged reads_from
ends_shown target size n own page reads ts o v step cause none told is =
    let ends = zero_at n (is_settled (one_like told.these.kind [] true) (last_settled told.these.chips)) (first_difference told.these.chips.array target) step cause (told.so ∙ is) in
    subst (λ (o : Option Verdict). IsShown (record { size = size; number = n; chips = ts; stopped = o; page = own; reads = reads }) target [] (No step cause) (record { reads = reads; page = page })) (sym none)
    (0, omega (arith, ends.0), record { these = told.these; among = told.among; its_page = told.its_page; so = ends.1 }, refl)

pub reads_most : (reads number : ℕ) (x : Step) (r : Result (Unit {0}) Wrong) → reads ≤ number → reads_after reads x r ≤ number + 1
reads_most reads number x (Ok u) few = by (is_status_read x)
  where
    by : (b : Bool) → (if b then reads + 1 else 0) ≤ number + 1
    by true = omega arith
    by false = omega arith
reads_most reads number x (Err cause) few = omega arith
