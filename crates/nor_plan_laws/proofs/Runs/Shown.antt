-- The transactions of a run of instructions: one for each that is sent or read, and status reads for each poll.
use Rattle.std.proofs.Common.{◌≡◌, ℕ, zero, suc, ◌+◌, Bool, true, false, if◌then◌else◌, cond, List, [], ◌∷◌, ◌++◌, Some, Result, Ok, Err, refl, sym, ◌∙◌, ap, subst}
use Rattle.std.specs.List.{AllByRecursion, count_by}
use Rattle.std.specs.Option.{option_map_or}
use Rattle.std.proofs.Math.Nat.{zero-add, add-zero}
use Rattle.std.proofs.lemmas.List.Sums.{sum_by-cons, sum_by-append}
use Rattle.nor_base.specs.declared.instruction.What.{What}
use Rattle.nor_base.specs.declared.instruction.What.TheVariants as what
use Rattle.nor_base.specs.declared.step.Step.{Step}
use Rattle.nor_base.specs.declared.step.Step.TheVariants.{Send, Poll, Verify}
use Rattle.nor_base.specs.declared.wrong.Wrong.{Wrong}
use Rattle.nor_base.specs.declared.wrong.Wrong.TheVariants as wrong
use Rattle.nor_base.specs.Decoding.{Instruction, decode}
use Rattle.nor_base.specs.Chip.{Setting, Chip}
use Rattle.nor_base.specs.Effect.{effect, effect_if, effect_of, after, is_status, has_address}
use Rattle.nor_base.specs.Run.{poll_clocks, says_busy, done, matched, is_verify, step, go_on, run}
use Rattle.nor_base.specs.Spelling.{Instr, seen, IsSentBy, IsReadBy, IsStepBy, AreStepsOf, mode_after}
use Rattle.nor_base.specs.Operations.{poll}
use Rattle.nor_base.specs.Events.{Event, event_on, polled_events, step_events, events_after, events_from}
use Rattle.nor_base.proofs.OutcomeLaws.{later_ok}
use Rattle.nor_laws.proofs.PollLaws.{poll_is_status, poll_ends}
use Rattle.nor_laws.proofs.EffectLaws.{taken}
use Rattle.nor_plan_laws.proofs.Erased.Least.{matched_done}

-- the transactions of the step of a number, that of a poll or of another instruction
abbrev pub ShownBy : ℕ → Instr → Bool → List Event → Type 0
ShownBy n i true es = AllByRecursion (λ (e : Event). e.seen ≡ Some (seen poll)) es
ShownBy n i false es = (d : Chip) × (es ≡ record { step = n; seen = Some (seen i); chip = d } ∷ [])

-- the transactions of instructions, each by a step, from the step of a number on
abbrev pub AreShown : ℕ → List Instr → List Event → Type 0
AreShown n [] es = es ≡ []
AreShown n (i ∷ these) es =
    (front : List Event) × (back : List Event) × (es ≡ front ++ back) × ShownBy n i (is_status i.what) front × AreShown (n + 1) these back

-- a poll shows status reads, and leaves the mode
poll_on_shown : (s : Setting) (n : ℕ) (c : Chip) (r : Result (Chip × List ℕ) Wrong) (more : Chip × List ℕ → List Event)
    → ((after : Chip × List ℕ) → AllByRecursion (λ (e : Event). e.seen ≡ Some (seen poll)) (more after))
    → AllByRecursion (λ (e : Event). e.seen ≡ Some (seen poll)) (event_on s n c poll_clocks r more)
poll_on_shown s n c (Err why) more later = tt
poll_on_shown s n c (Ok after) more later = (poll_is_status s.meaning c.mode4, later after)

if_busy : (b : Bool) (es : List Event) → AllByRecursion (λ (e : Event). e.seen ≡ Some (seen poll)) es
    → AllByRecursion (λ (e : Event). e.seen ≡ Some (seen poll)) (if b then es else [])
if_busy true es all = all
if_busy false es all = tt

polled_shown : (s : Setting) (n turns : ℕ) (c : Chip) → AllByRecursion (λ (e : Event). e.seen ≡ Some (seen poll)) (polled_events s n turns c)
unfolding polled_events
polled_shown s n zero c = tt
polled_shown s n (suc turns) c =
    poll_on_shown s n c (effect s c poll_clocks) (λ after. if says_busy after.1 then polled_events s n turns after.0 else [])
    (λ after. if_busy (says_busy after.1) (polled_events s n turns after.0) (polled_shown s n turns after.0))

record IsPolled (s : Setting) (n : ℕ) (c e : Chip) : Type 0 where
  shown : AllByRecursion (λ (v : Event). v.seen ≡ Some (seen poll)) (step_events s n c (Poll poll_clocks))
  mode : e.mode4 ≡ c.mode4

poll_shown : (s : Setting) (n : ℕ) (c e : Chip) → step s c (Poll poll_clocks) ≡ Ok e → IsPolled s n c e
unfolding step step_events
poll_shown s n c e h =
    let ended : Ok (record c { left = 0 }) ≡ Ok e = sym (poll_ends s c c.left) ∙ h in
    let same : record c { left = 0 } ≡ e = cc in
    record { shown = polled_shown s n (suc c.left) c; mode = ap (λ (d : Chip). d.mode4) (sym same) }

-- an instruction that is sent or read shows itself
record IsShown (s : Setting) (n : ℕ) (c e : Chip) (i : Instr) (x : Step) : Type 0 where
  chip : Chip
  shown : step_events s n c x ≡ record { step = n; seen = Some (seen i); chip = chip } ∷ []
  bytes : List ℕ
  done : effect_of s c (seen i) ≡ Ok (e, bytes)

on_shown : (s : Setting) (n : ℕ) (c e : Chip) (i : Instr) (x : Step) (clocks : List ℕ) (r : Result (Chip × List ℕ) Wrong) → effect s c clocks ≡ r
    → decode s.meaning c.mode4 clocks ≡ Some (seen i) → step_events s n c x ≡ event_on s n c clocks (effect s c clocks) (λ after. []) → done r ≡ Ok e
    → IsShown s n c e i x
unfolding effect
on_shown s n c e i x clocks (Err why) is decoded all h = cc
on_shown s n c e i x clocks (Ok after) is decoded all h =
    let same : after.0 ≡ e = cc in
    record {
      chip = after.0;
      shown = all ∙ ap (λ r. event_on s n c clocks r (λ after. [])) is ∙ ap (λ o. record { step = n; seen = o; chip = after.0 } ∷ []) decoded;
      bytes = after.1;
      done = ap (effect_if s c) (sym decoded) ∙ is ∙ ap (λ (d : Chip). Ok (d, after.1)) same;
    }

sent_shown : (s : Setting) (n : ℕ) (c e : Chip) (i : Instr) (x : Step) → IsSentBy s.meaning c.mode4 i x → step s c x ≡ Ok e → IsShown s n c e i x
unfolding step step_events
sent_shown s n c e i x by h =
    subst (λ (y : Step). IsShown s n c e i y) (sym by.sent)
    (on_shown s n c e i (Send by.clocks) by.clocks (effect s c by.clocks) refl by.spelled.decodes refl (ap (step s c) (sym by.sent) ∙ h))

verify_shown : (s : Setting) (n : ℕ) (c e : Chip) (i : Instr) (clocks expect : List ℕ) (b : Bool) → is_verify clocks ≡ b → decode s.meaning c.mode4 clocks ≡ Some (seen i)
    → (if b then matched expect (effect s c clocks) else Err wrong.Unknown) ≡ Ok e → IsShown s n c e i (Verify clocks expect)
unfolding step_events
verify_shown s n c e i clocks expect true is decoded h =
    on_shown s n c e i (Verify clocks expect) clocks (effect s c clocks) refl decoded (rw is refl) (matched_done expect e (effect s c clocks) h)
verify_shown s n c e i clocks expect false is decoded h = cc

read_shown : (s : Setting) (n : ℕ) (c e : Chip) (i : Instr) (x : Step) → IsReadBy s.meaning c.mode4 i x → step s c x ≡ Ok e → IsShown s n c e i x
unfolding step
read_shown s n c e i x by h =
    subst (λ (y : Step). IsShown s n c e i y) (sym by.read)
    (verify_shown s n c e i by.clocks i.bytes (is_verify by.clocks) refl by.spelled.decodes (ap (step s c) (sym by.read) ∙ h))

-- the mode is then the one that the instruction says
mode_then : (s : Setting) (c : Chip) (j : Instruction) (w : What) → (after s c j w).mode4 ≡ mode_after w c.mode4
unfolding after
mode_then s c j what.Enable = refl
mode_then s c j what.Disable = refl
mode_then s c j what.Status = refl
mode_then s c j what.Enter = refl
mode_then s c j what.Leave = refl
mode_then s c j (what.Erase kind) = refl
mode_then s c j what.Program = refl
mode_then s c j what.QuadProgram = refl
mode_then s c j what.Read = refl
mode_then s c j what.QuadRead = refl
mode_then s c j what.Broken = refl

record IsStepShown (s : Setting) (n : ℕ) (c e : Chip) (i : Instr) (x : Step) (w : What) : Type 0 where
  shown : ShownBy n i (is_status w) (step_events s n c x)
  mode : e.mode4 ≡ mode_after w c.mode4

by_itself : (s : Setting) (n : ℕ) (c e : Chip) (i : Instr) (x : Step) (w : What) → i.what ≡ w → is_status w ≡ false → IsShown s n c e i x → IsStepShown s n c e i x w
by_itself s n c e i x w same other is = record {
  shown = subst (λ b. ShownBy n i b (step_events s n c x)) (sym other) (is.chip, is.shown);
  mode = ap (λ (d : Chip). d.mode4) (taken s c (seen i) e is.bytes is.done).chip ∙ mode_then s c (seen i) i.what ∙ ap (λ v. mode_after v c.mode4) same;
}

step_shown : (s : Setting) (n : ℕ) (c e : Chip) (i : Instr) (x : Step) (w : What) → i.what ≡ w → IsStepBy s.meaning c.mode4 i w x → step s c x ≡ Ok e
    → IsStepShown s n c e i x w
step_shown s n c e i x what.Status same by h =
    let is = poll_shown s n c e (ap (step s c) (sym by) ∙ h) in
    record { shown = subst (λ (y : Step). AllByRecursion (λ (v : Event). v.seen ≡ Some (seen poll)) (step_events s n c y)) (sym by) is.shown; mode = is.mode }
step_shown s n c e i x what.Read same by h = by_itself s n c e i x what.Read same refl (read_shown s n c e i x by h)
step_shown s n c e i x what.QuadRead same by h = by_itself s n c e i x what.QuadRead same refl (read_shown s n c e i x by h)
step_shown s n c e i x what.Enable same by h = by_itself s n c e i x what.Enable same refl (sent_shown s n c e i x by h)
step_shown s n c e i x what.Disable same by h = by_itself s n c e i x what.Disable same refl (sent_shown s n c e i x by h)
step_shown s n c e i x what.Enter same by h = by_itself s n c e i x what.Enter same refl (sent_shown s n c e i x by h)
step_shown s n c e i x what.Leave same by h = by_itself s n c e i x what.Leave same refl (sent_shown s n c e i x by h)
step_shown s n c e i x (what.Erase kind) same by h = by_itself s n c e i x (what.Erase kind) same refl (sent_shown s n c e i x by h)
step_shown s n c e i x what.Program same by h = by_itself s n c e i x what.Program same refl (sent_shown s n c e i x by h)
step_shown s n c e i x what.QuadProgram same by h = by_itself s n c e i x what.QuadProgram same refl (sent_shown s n c e i x by h)
step_shown s n c e i x what.Broken same by h = by_itself s n c e i x what.Broken same refl (sent_shown s n c e i x by h)

first_shown : (s : Setting) (n : ℕ) (c d : Chip) (i : Instr) (these : List Instr) (x : Step) (xs : List Step) (r : Result Chip Wrong) → step s c x ≡ r
    → AreStepsOf s.meaning c.mode4 (i ∷ these) (x ∷ xs)
    → ((e : Chip) → AreStepsOf s.meaning e.mode4 these xs → run s e xs ≡ Ok d → AreShown (n + 1) these (events_from s (n + 1) e xs))
    → go_on c r (λ e. run s e xs) ≡ Ok d → AreShown n (i ∷ these) (step_events s n c x ++ events_after r (λ e. events_from s (n + 1) e xs))
first_shown s n c d i these x xs (Err why) is are later h = cc
first_shown s n c d i these x xs (Ok e) is are later h =
    let first = step_shown s n c e i x i.what refl are.0 is in (
      step_events s n c x,
      events_from s (n + 1) e xs,
      refl,
      first.shown,
      later e (subst (λ mode4. AreStepsOf s.meaning mode4 these xs) (sym first.mode) are.1) (later_ok (run s e xs) d h),
    )

-- so does a run that goes through
pub run_shown : (s : Setting) (n : ℕ) (c d : Chip) (these : List Instr) (steps : List Step) → AreStepsOf s.meaning c.mode4 these steps → run s c steps ≡ Ok d
    → AreShown n these (events_from s n c steps)
unfolding run events_from
run_shown s n c d [] [] are h = refl
run_shown s n c d [] (x ∷ xs) are h = absurd are
run_shown s n c d (i ∷ these) [] are h = absurd are
run_shown s n c d (i ∷ these) (x ∷ xs) are h =
    first_shown s n c d i these x xs (step s c x) refl are (λ e are' h'. run_shown s (n + 1) e d these xs are' h') h

-- a test that no instruction without an address passes
abbrev pub IsAddressed : (Instruction → Bool) → Type 0
IsAddressed test = (j : Instruction) → has_address j.what ≡ false → test j ≡ false

-- a transaction passes a test of its instruction
abbrev pub passes : (Instruction → Bool) → Event → Bool
passes test e = option_map_or test e.seen false

pub count_none : {A : Type 0} (test : A → Bool) (xs : List A) → AllByRecursion (λ x. test x ≡ false) xs → count_by test xs ≡ 0
count_none test [] all = refl
count_none test (x ∷ xs) all = sum_by-cons (λ y. cond (test y) 1 0) x xs ∙ ap (λ b. cond b 1 0 + count_by test xs) all.0 ∙ zero-add (count_by test xs) ∙ count_none test xs all.1

none_pass : (test : Instruction → Bool) (es : List Event) → IsAddressed test → AllByRecursion (λ (e : Event). e.seen ≡ Some (seen poll)) es
    → AllByRecursion (λ (e : Event). passes test e ≡ false) es
none_pass test [] addressed all = tt
none_pass test (e ∷ es) addressed all = (ap (λ o. option_map_or test o false) all.0 ∙ addressed (seen poll) refl, none_pass test es addressed all.1)

status_bare : (w : What) → is_status w ≡ true → has_address w ≡ false
status_bare what.Status is = refl
status_bare other is = cc

front_count : (test : Instruction → Bool) (n : ℕ) (i : Instr) (front : List Event) (b : Bool) → IsAddressed test → is_status i.what ≡ b → ShownBy n i b front
    → count_by (passes test) front ≡ cond (test (seen i)) 1 0
front_count test n i front true addressed is shown =
    count_none (passes test) front (none_pass test front addressed shown) ∙ ap (λ b. cond b 1 0) (sym (addressed (seen i) (status_bare i.what is)))
front_count test n i front false addressed is shown =
    ap (count_by (passes test)) shown.1
    ∙ sum_by-cons (λ y. cond (passes test y) 1 0) (record { step = n; seen = Some (seen i); chip = shown.0 }) [] ∙ add-zero (cond (test (seen i)) 1 0)

-- as many transactions pass as instructions do
pub shown_count : (test : Instruction → Bool) → IsAddressed test → (n : ℕ) (these : List Instr) (es : List Event) → AreShown n these es
    → count_by (passes test) es ≡ count_by (λ (i : Instr). test (seen i)) these
shown_count test addressed n [] es shown = ap (count_by (passes test)) shown
shown_count test addressed n (i ∷ these) es shown =
    let front = front_count test n i shown.0 (is_status i.what) addressed refl shown.3 in
    let back = shown_count test addressed (n + 1) these shown.1 shown.4 in
    ap (count_by (passes test)) shown.2 ∙ sum_by-append (λ y. cond (passes test y) 1 0) shown.0 shown.1
    ∙ ap (λ k. k + count_by (passes test) shown.1) front ∙ ap (λ k. cond (test (seen i)) 1 0 + k) back
    ∙ sym (sum_by-cons (λ (j : Instr). cond (test (seen j)) 1 0) i these)
