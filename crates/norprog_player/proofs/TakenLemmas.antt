-- A script that goes well on the chip in memory: it takes each step.
use Rattle.std.proofs.Common.{◌≡◌, ℕ, ◌==◌, Bool, true, false, if◌then◌else◌, List, [], ◌∷◌, Vec, Global, length, Result, Ok, Err, refl, sym, ◌∙◌, ap, subst, arith, eq-eqb}
use Rattle.std.proofs.lemmas.Bool.{or_left}
use Rattle.std.proofs.lemmas.Slice.Eq.{bytes_eq-Decides}
use Rattle.std.specs.Str.{bytes_eq}
use Rattle.nor_base.specs.declared.step.Step.{Step}
use Rattle.nor_base.specs.declared.step.Step.TheVariants.{Send, Poll, Verify}
use Rattle.nor_base.specs.declared.wrong.Wrong.{Wrong}
use Rattle.nor_base.specs.declared.wrong.Wrong.TheVariants as wrong
use Rattle.nor_base.specs.declared.meaning.Start.{Start}
use Rattle.nor_base.specs.Chip.{Setting, Chip, chip_of, is_settled, may_page, ready}
use Rattle.nor_base.specs.Parameters.{Parameters}
use Rattle.nor_base.specs.Port.{Shown}
use Rattle.nor_chip.specs.Ready.{ready_chip}
use Rattle.nor_base.specs.Effect.{effect}
use Rattle.nor_base.specs.Run.{Stop, Halt, poll_clocks, says_busy, is_verify, done, matched, halt_on, poll_or_halt, polled_for, step_for, play_on, played, DoesTaskOnEvery}
use Rattle.nor_check.specs.declared.verdict.Verdict.TheVariants.{No as Says}
use Rattle.nor_check.specs.declared.verdict.Why.{Why}
use Rattle.nor_check.specs.Outcome.{trial}
use Rattle.nor_check.specs.Worst.{IsWorst}
use Rattle.nor_play.specs.Play.{at_end, play, EndsPlay, Plays}
use Rattle.nor_play.specs.declared.fault.PlayFault.{PlayFault}
use Rattle.nor_play.specs.declared.fault.PlayFault.TheVariants as fault
use Rattle.nor_base.specs.Step.{step_clocks}
use Rattle.nor_base.proofs.OutcomeLaws.{later_ok}
use Rattle.nor_laws.proofs.BoundedLaws.{bounded_is_run}
use Rattle.nor_laws.proofs.EffectLaws.{keeps_size}
use Rattle.nor_laws.specs.Laws.{IsBelow}
use Rattle.norprog_player.specs.declared.rehearsal.Rehearsal.TheVariants as rehearsal
use Rattle.norprog_player.specs.Rehearsal.{Rehearses}

-- the chip in memory takes these clocks, and is then so
abbrev pub Takes : Setting → Chip → List ℕ → Chip → Type 0
Takes s c clocks d = (given : List ℕ) × (effect s c clocks ≡ Ok (d, given))

abbrev Gave : Result (Chip × List ℕ) Wrong → Chip → Type 0
Gave r d = (given : List ℕ) × (r ≡ Ok (d, given))

sent : (c d : Chip) (r : Result (Chip × List ℕ) Wrong) → halt_on c (done r) ≡ Ok d → Gave r d
sent c d (Ok after) h = let same : after.0 ≡ d = cc in (after.1, ap (λ (e : Chip). Ok (e, after.1)) same)
sent c d (Err why) h = cc

polls : (c d : Chip) (r : Result (Chip × List ℕ) Wrong) (more : Chip → Result Chip Halt) → ((e : Chip) → more e ≡ Ok d → ⊥) → poll_or_halt c r more ≡ Ok d → Gave r d
polls c d (Err why) more none h = cc
polls c d (Ok after) more none h = by (says_busy after.1) h
  where
    by : (busy : Bool) → (if busy then more after.0 else Ok after.0) ≡ Ok d → Gave (Ok after) d
    by true h = absurd (none after.0 h)
    by false h = let same : after.0 ≡ d = cc in (after.1, ap (λ (e : Chip). Ok (e, after.1)) same)

never : (s : Setting) (c d : Chip) → polled_for s 0 c ≡ Ok d → ⊥
unfolding polled_for
never s c d h = cc

polled_once : (s : Setting) (c d : Chip) → polled_for s 1 c ≡ Ok d → Takes s c poll_clocks d
unfolding polled_for
polled_once s c d h = polls c d (effect s c poll_clocks) (polled_for s 0) (λ e. never s e d) h

verified : (c d : Chip) (expect : List ℕ) (r : Result (Chip × List ℕ) Wrong) → halt_on c (matched expect r) ≡ Ok d → Gave r d
verified c d expect (Err why) h = cc
verified c d expect (Ok after) h = by (bytes_eq after.1 expect) h
  where
    by : (same : Bool) → halt_on c (if same then Ok after.0 else Err wrong.Mismatch) ≡ Ok d → Gave (Ok after) d
    by true h = let same : after.0 ≡ d = cc in (after.1, ap (λ (e : Chip). Ok (e, after.1)) same)
    by false h = cc

step_takes : (s : Setting) (c d : Chip) (x : Step) → step_for s 1 c x ≡ Ok d → Takes s c (step_clocks x) d
unfolding step_for
step_takes s c d (Send clocks) h = sent c d (effect s c clocks) h
step_takes s c d (Poll clocks) h = by (bytes_eq clocks poll_clocks) refl h
  where
    by : (is : Bool) → bytes_eq clocks poll_clocks ≡ is → (if is then polled_for s 1 c else Err (record { why = wrong.Unknown; chip = c })) ≡ Ok d → Takes s c clocks d
    by true same h = subst (λ (l : List ℕ). Takes s c l d) (sym ((bytes_eq-Decides clocks poll_clocks).0 same)) (polled_once s c d h)
    by false same h = cc
step_takes s c d (Verify clocks expect) h = by (is_verify clocks) h
  where
    by : (is : Bool) → halt_on c (if is then matched expect (effect s c clocks) else Err wrong.Unknown) ≡ Ok d → Takes s c clocks d
    by true h = verified c d expect (effect s c clocks) h
    by false h = cc

-- a step that is followed by others
pub goes_on : (s : Setting) (c d : Chip) (x : Step) (xs : List Step) → played s 1 c (x ∷ xs) ≡ Ok d
    → (e : Chip) × Takes s c (step_clocks x) e × (played s 1 e xs ≡ Ok d)
unfolding played
goes_on s c d x xs h = by (step_for s 1 c x) refl h
  where
    by : (r : Result Chip Halt) → step_for s 1 c x ≡ r → play_on r (λ e. played s 1 e xs) ≡ Ok d
        → (e : Chip) × Takes s c (step_clocks x) e × (played s 1 e xs ≡ Ok d)
    by (Ok e) is h = (e, step_takes s c e x is, later_ok (played s 1 e xs) d h)
    by (Err halt) is h = cc

nothing_more : (s : Setting) (c d : Chip) → played s 1 c [] ≡ Ok d → c ≡ d
unfolding played
nothing_more s c d h = cc

-- a run leaves as many bytes as there were
keeps : (s : Setting) (c d : Chip) (steps : List Step) → played s 1 c steps ≡ Ok d → length d.array ≡ length c.array
keeps s c d [] h = ap (λ (e : Chip). length e.array) (sym (nothing_more s c d h))
keeps s c d (x ∷ xs) h =
    let next = goes_on s c d x xs h in keeps s next.0 d xs next.2 ∙ keeps_size s c next.0 (step_clocks x) next.1.0 next.1.1

-- the end of a run that goes well
abbrev ended : ℕ → Chip → Bool → Result Chip Stop
ended count c is = if is then Ok c else Err (record { at = count; why = wrong.NotIdleAtEnd; chip = c })

at_rest : (count : ℕ) (c d : Chip) (is : Bool) → ended count c is ≡ Ok d → Path (Result Chip Stop) (Ok c) (Ok d)
at_rest count c d true h = h
at_rest count c d false h = cc

pub without_end : (s : Setting) (count : ℕ) (r : Result Chip Stop) (d : Chip) → at_end s count r ≡ Ok d → r ≡ Ok d
without_end s count (Ok c) d h = at_rest count c d (is_settled s c) h
without_end s count (Err stop) d h = h

pub left_whole : (s : Setting) (c d : Chip) (steps : List Step) → play s 1 c steps ≡ Ok d → length d.array ≡ length c.array
left_whole s c d steps h = keeps s c d steps (without_end s (length steps) (played s 1 c steps) d h)

-- steps that do the same on every chip do so on the one that is never busy
settled_end : (s : Setting) (count : ℕ) (d : Chip) → is_settled s d ≡ true → at_end s count (Ok d) ≡ Ok d
settled_end s count d is = ap (ended count d) is

pub left_same : (m : Parameters) (start : Start) (content : List ℕ) (left : Vec ℕ Global) (steps : List Step) → DoesTaskOnEvery m start content left.items steps
    → Rehearses (chip_of m start [] false) (ready (chip_of m start [] false) content) steps (rehearsal.Well left)
left_same m start content left steps every =
    let s = chip_of m start [] false in
    let own : may_page m m.page ≡ true = or_left (m.page == m.page) _ (eq-eqb m.page m.page refl) in
    let does = every s (record { its_meaning = refl; its_start = refl; its_page = own }) in
    let below : IsBelow 1 (ready s content) = record { left = omega arith; to_come = λ n. omega arith } in
    let plays : play s 1 (ready s content) steps ≡ Ok does.final =
    ap (at_end s (length steps)) (bounded_is_run s 1 (ready s content) steps below ∙ does.good.runs) ∙ settled_end s (length steps) does.final does.good.settled in (
      record {
        left = does.final;
        ends = plays;
        every = subst (λ (l : List ℕ). DoesTaskOnEvery m start content l steps) (sym does.array) every;
      },
      sym does.array,
    )

-- a play on a ready chip that leaves these bytes, judged by them
pub well : (before after : Shown) (s : Setting) (content : List ℕ) (left : Vec ℕ Global) (steps : List Step) (count : ℕ) → before ≡ ready_chip s content → EndsPlay before after 1 steps count
    → left.items ≡ after.chip.array → DoesTaskOnEvery s.meaning s.start content after.chip.array steps → Rehearses s (ready s content) steps (rehearsal.Well left)
well before after s content left steps count is ends holds every = (
  record {
    left = after.chip;
    ends = subst (λ (b : Shown). play b.setting 1 b.chip steps ≡ Ok after.chip) is ends.ends;
    every = every;
  },
  holds,
)

pub other : (before after : Shown) (s : Setting) (content left : List ℕ) (steps : List Step) (count at : ℕ) (why : Why) → before ≡ ready_chip s content
    → EndsPlay before after 1 steps count → left ≡ after.chip.array → IsWorst (trial s.meaning s.start content left steps) (Says at why)
    → Rehearses s (ready s content) steps (rehearsal.No at why)
other before after s content left steps count at why is ends holds worst = record {
  left = after.chip;
  ends = subst (λ (b : Shown). play b.setting 1 b.chip steps ≡ Ok after.chip) is ends.ends;
  worst = subst (λ (l : List ℕ). IsWorst (trial s.meaning s.start content l steps) (Says at why)) holds worst;
}

pub wrong_at : (before after : Shown) (s : Setting) (content : List ℕ) (steps : List Step) (at : ℕ) (why : Wrong) (f : PlayFault) → before ≡ ready_chip s content
    → f ≡ fault.Wrong at why → Plays before after 1 steps (Err f) → (d : Chip) × (play s 1 (ready s content) steps ≡ Err (record { at = at; why = why; chip = d }))
wrong_at before after s content steps at why f is told plays =
    let stops = subst (λ (k : PlayFault). Plays before after 1 steps (Err k)) told plays in
    (after.chip, subst (λ (b : Shown). play b.setting 1 b.chip steps ≡ Err (record { at = at; why = why; chip = after.chip })) is stops.1)
