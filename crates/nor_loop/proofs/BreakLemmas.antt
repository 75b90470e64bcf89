-- Where the work is broken off, at most one unit is in the making.
use Rattle.std.proofs.Common.{◌≡◌, inl, inr, ℕ, zero, suc, not, ◌&&◌, Bool, true, false, if◌then◌else◌, List, [], ◌∷◌, ◌++◌, map, Option, Some, None, Result, Ok, Err, refl, sym, ◌∙◌, ap, subst, append_assoc, arith}
use Rattle.std.specs.Prelude.{replicate}
use Rattle.std.specs.List.{AllByRecursion, list_all}
use Rattle.std.specs.Str.{bytes_eq}
use Rattle.std.proofs.lemmas.Slice.Eq.{bytes_eq-Decides}
use Rattle.nor_base.specs.declared.instruction.What.{What}
use Rattle.nor_base.specs.declared.instruction.What.TheVariants as what
use Rattle.nor_base.specs.declared.meaning.Start.{Start}
use Rattle.nor_base.specs.declared.step.Step.{Step}
use Rattle.nor_base.specs.declared.step.Step.TheVariants.{Send, Poll, Verify}
use Rattle.nor_base.specs.declared.wrong.Wrong.{Wrong}
use Rattle.nor_base.specs.declared.wrong.Wrong.TheVariants as wrong
use Rattle.nor_base.specs.Parameters.{Parameters}
use Rattle.nor_base.specs.Clocks.{bits}
use Rattle.nor_base.specs.Decoding.{Instruction, decode}
use Rattle.nor_base.specs.Chip.{Setting, Chip, IsChipOf, begins4, ready}
use Rattle.nor_base.specs.Effect.{needs_latch, after, effect, effect_if}
use Rattle.nor_base.specs.Planned.{ArePlanned, IsInTheMaking, planned, planned_ops, planned_units}
use Rattle.nor_base.specs.Run.{poll_clocks, polled, is_verify, done, matched, step, step_trail, run, trail, trail_on, trail_after}
use Rattle.nor_base.specs.Spelling.{Instr, Spells, seen, IsStepOf, AreStepsOf, mode_after}
use Rattle.nor_base.specs.Step.{verifies}
use Rattle.nor_base.specs.Strategies.{strategy}
use Rattle.nor_base.specs.Units.{WorkUnit}
use Rattle.nor_base.proofs.OutcomeLaws.{ok_is}
use Rattle.nor_laws.specs.Spelling.{VerifyKeeps}
use Rattle.nor_laws.proofs.EffectLaws.{taken}
use Rattle.nor_laws.proofs.PollLaws.{left_with, read_busy, read_idle}
use Rattle.nor_plan_laws.specs.Laws.{PlannedDoesTask, OneUnitInTheMaking}
use Rattle.nor_serprog.specs.Row.{IsForm, enable_clocks}
use Rattle.nor_loop.specs.Log.{Operation, Explains}
use Rattle.nor_loop.specs.Laws.{LoopBreaks}
use Rattle.nor_loop.specs.Loop.{DoesSome}
use Rattle.nor_loop.specs.Steps.{status_read, AreLogOf, IsBegun, IsFirstBegun, next_clocks}
use Rattle.nor_loop.proofs.EnterLemmas.{plain, seen_06}
use Rattle.nor_loop.proofs.FollowLemmas.{in_parts, status_clocks, done_same, poll_left, step_same, goes}
use Rattle.nor_loop.proofs.LatchLemmas.{is_calm, latch_after, lowered_calm, mode_of, latch_of, calm_now, calm_later}
use Rattle.nor_loop.proofs.LoopLemmas.{told_first}
use Rattle.nor_loop.proofs.ReadLemmas.{its_mode}
use Rattle.nor_loop.proofs.SomeLemmas.{sent_by, read_by, poll_by, took, sent_step, read_step, poll_step, same_bytes}

-- what holds of the arrays of some chips
abbrev AllHold : (List ℕ → Type 0) → List Chip → Type 0
AllHold P chips = AllByRecursion (λ (e : Chip). P e.array) chips

-- of two parts
all_first : (P : List ℕ → Type 0) (xs ys : List Chip) → AllHold P (xs ++ ys) → AllHold P xs
all_first P [] ys h = tt
all_first P (x ∷ xs) ys h = (h.0, all_first P xs ys h.1)

all_second : (P : List ℕ → Type 0) (xs ys : List Chip) → AllHold P (xs ++ ys) → AllHold P ys
all_second P [] ys h = h
all_second P (x ∷ xs) ys h = all_second P xs ys h.1

-- a transaction of a trail
on_trail : (P : List ℕ → Type 0) (e : Chip) (given : List ℕ) (r : Result (Chip × List ℕ) Wrong) (more : Chip × List ℕ → List Chip)
    → r ≡ Ok (e, given) → AllHold P (trail_on r more) → P e.array
on_trail P e given (Ok after) more is h = let same : after.0 ≡ e = cc in subst (λ (c : Chip). P c.array) same h.0
on_trail P e given (Err why) more is h = cc

-- what a verifying read that goes well leaves
verified : (r : Result (Chip × List ℕ) Wrong) (b : Bool) (expect : List ℕ) (f : Chip) → (if b then matched expect r else Err wrong.Unknown) ≡ Ok f → b ≡ true
verified r true expect f h = refl
verified r false expect f h = cc

-- a status read leaves the array
status_keeps : (s : Setting) (c e : Chip) (given : List ℕ) (n : ℕ) → effect s (left_with c n) poll_clocks ≡ Ok (e, given) → e.array ≡ c.array
status_keeps s c e given zero h =
    ap (λ (p : Chip × List ℕ). p.0.array) (ok_is (e, given) (left_with c 0, (if c.latch then 2 else 0) ∷ []) (effect s (left_with c 0) poll_clocks) h (read_idle s c))
status_keeps s c e given (suc n) h =
    ap (λ (p : Chip × List ℕ). p.0.array) (ok_is (e, given) (left_with c n, 3 ∷ []) (effect s (left_with c (suc n)) poll_clocks) h (read_busy s c n))

-- so do those of a poll, whatever they said
statuses_keep : (s : Setting) (c d : Chip) (statuses : List ℕ) → Explains s c (map status_read statuses) d → d.array ≡ c.array
statuses_keep s c d [] same = ap (λ (f : Chip). f.array) same
statuses_keep s c d (b ∷ bs) (e, does, more) =
    statuses_keep s e d bs more ∙ status_keeps s c e does.given c.left (ap (effect s c) (sym (status_clocks b)) ∙ does.done)

-- or some of those that went out
polls_keep : (s : Setting) (n : ℕ) (c d : Chip) → DoesSome s c (replicate n poll_clocks ++ []) d → d.array ≡ c.array
polls_keep s zero c d same = ap (λ (f : Chip). f.array) same
polls_keep s (suc n) c d (inl passed) = polls_keep s n c d passed
polls_keep s (suc n) c d (inr (e, given, did, more)) = polls_keep s n e d more ∙ status_keeps s c e given c.left did

-- a poll's clocks are a status read
pub poll_is : (s : Setting) (c f : Chip) (symbols : List ℕ) → step s c (Poll symbols) ≡ Ok f → symbols ≡ poll_clocks
unfolding step
poll_is s c f symbols h = by (bytes_eq symbols poll_clocks) refl h
  where
    by : (b : Bool) → bytes_eq symbols poll_clocks ≡ b → (if b then polled s (suc c.left) c else Err wrong.Unknown) ≡ Ok f → symbols ≡ poll_clocks
    by true is h = same_bytes symbols poll_clocks is
    by false is h = cc

-- a verifying read leaves the chip, whatever it gave
same_twice : (bytes : List ℕ) → bytes_eq bytes bytes ≡ true
same_twice bytes = (bytes_eq-Decides bytes bytes).1 refl

gives_what_it_gave : (e : Chip) (given : List ℕ) (r : Result (Chip × List ℕ) Wrong) → r ≡ Ok (e, given) → matched given r ≡ Ok e
gives_what_it_gave e given r is = ap (matched given) is ∙ (rw (same_twice given) refl)

verify_reads : (s : Setting) (c f : Chip) (symbols expect : List ℕ) → step s c (Verify symbols expect) ≡ Ok f → is_verify symbols ≡ true
unfolding step
verify_reads s c f symbols expect is = verified (effect s c symbols) (is_verify symbols) expect f is

verify_stays : VerifyKeeps → (s : Setting) (c e : Chip) (symbols given : List ℕ) → is_verify symbols ≡ true → effect s c symbols ≡ Ok (e, given) → e ≡ c
unfolding step
verify_stays keeps s c e symbols given reads did =
    keeps s c e symbols given
    (subst (λ b. (if b then matched given (effect s c symbols) else Err wrong.Unknown) ≡ Ok e) (sym reads) (gives_what_it_gave e given (effect s c symbols) did))

verifies_keep : VerifyKeeps → (s : Setting) (c d f : Chip) (reads : ℕ) (xs rest : List Step) → list_all verifies xs ≡ true → run s c (xs ++ rest) ≡ Ok f
    → DoesSome s c (next_clocks reads xs) d → d ≡ c
verifies_keep keeps s c d f reads [] rest all is same = same
verifies_keep keeps s c d f reads (Send symbols ∷ xs) rest all is some = cc
verifies_keep keeps s c d f reads (Poll symbols ∷ xs) rest all is some = cc
verifies_keep keeps s c d f reads (Verify symbols expect ∷ xs) rest all is (inl passed) =
    let one = goes s c f (Verify symbols expect) (xs ++ rest) is in
    let same : one.next ≡ c = keeps s c one.next symbols expect one.first in
    verifies_keep keeps s c d f reads xs rest all (subst (λ (e : Chip). run s e (xs ++ rest) ≡ Ok f) same one.rest) passed
verifies_keep keeps s c d f reads (Verify symbols expect ∷ xs) rest all is (inr (e, given, did, more)) =
    let one = goes s c f (Verify symbols expect) (xs ++ rest) is in
    let same : one.next ≡ c = keeps s c one.next symbols expect one.first in
    let stays : e ≡ c = verify_stays keeps s c e symbols given (verify_reads s c one.next symbols expect one.first) did in
    verifies_keep keeps s c d f reads xs rest all (subst (λ (g : Chip). run s g (xs ++ rest) ≡ Ok f) same one.rest)
    (subst (λ (g : Chip). DoesSome s g (next_clocks reads xs) d) stays more)

-- a chip whose latch is clear changes no byte
unlatched_after : (s : Setting) (c : Chip) (i : Instruction) (w : What) → c.latch ≡ false → needs_latch s.meaning w && not c.latch ≡ false
    → (after s c i w).array ≡ c.array
unfolding after
unlatched_after s c i what.Enable clear may = refl
unlatched_after s c i what.Disable clear may = refl
unlatched_after s c i what.Status clear may = refl
unlatched_after s c i what.Enter clear may = refl
unlatched_after s c i what.Leave clear may = refl
unlatched_after s c i (what.Erase kind) clear may = let no : not c.latch ≡ false = may in let yes : not c.latch ≡ true = ap not clear in cc
unlatched_after s c i what.Program clear may = let no : not c.latch ≡ false = may in let yes : not c.latch ≡ true = ap not clear in cc
unlatched_after s c i what.QuadProgram clear may = let no : not c.latch ≡ false = may in let yes : not c.latch ≡ true = ap not clear in cc
unlatched_after s c i what.Read clear may = refl
unlatched_after s c i what.QuadRead clear may = refl
unlatched_after s c i what.Broken clear may = refl

seen_unlatched : (s : Setting) (c e : Chip) (o : Option Instruction) (given : List ℕ) → c.latch ≡ false → effect_if s c o ≡ Ok (e, given) → e.array ≡ c.array
seen_unlatched s c e None given clear h = cc
seen_unlatched s c e (Some i) given clear h =
    let its = taken s c i e given h in ap (λ (f : Chip). f.array) its.chip ∙ unlatched_after s c i i.what clear its.latched

unlatched : (s : Setting) (c e : Chip) (symbols given : List ℕ) → c.latch ≡ false → effect s c symbols ≡ Ok (e, given) → e.array ≡ c.array
unfolding effect
unlatched s c e symbols given clear h = seen_unlatched s c e (decode s.meaning c.mode4 symbols) given clear h

-- one transaction of a step that a trail has
sent_holds : (P : List ℕ → Type 0) (s : Setting) (c e : Chip) (symbols given : List ℕ) → AllHold P (step_trail s c (Send symbols)) → effect s c symbols ≡ Ok (e, given)
    → P e.array
unfolding step_trail
sent_holds P s c e symbols given all did = on_trail P e given (effect s c symbols) (λ after. []) did all

-- a change, and then its poll's reads: some of them
change_some : (P : List ℕ → Type 0) (s : Setting) (n : ℕ) (c d : Chip) (symbols : List ℕ) → P c.array
    → ((e : Chip) (given : List ℕ) → effect s c symbols ≡ Ok (e, given) → P e.array) → DoesSome s c (symbols ∷ (replicate n poll_clocks ++ [])) d → P d.array
change_some P s n c d symbols now later (inl passed) = subst P (sym (polls_keep s n c d passed)) now
change_some P s n c d symbols now later (inr (e, given, did, more)) = subst P (sym (polls_keep s n e d more)) (later e given did)

one_some : (P : List ℕ → Type 0) (s : Setting) (c d : Chip) (symbols : List ℕ) → P c.array
    → ((e : Chip) (given : List ℕ) → effect s c symbols ≡ Ok (e, given) → P e.array) → DoesSome s c (symbols ∷ []) d → P d.array
one_some P s c d symbols now later (inl same) = subst (λ (f : Chip). P f.array) (sym same) now
one_some P s c d symbols now later (inr (e, given, did, same)) = subst (λ (f : Chip). P f.array) (sym same) (later e given did)

-- after a step that was done
done_holds : (P : List ℕ → Type 0) (f : Chip) (r : Result (Chip × List ℕ) Wrong) → AllHold P (trail_on r (λ after. [])) → done r ≡ Ok f → P f.array
done_holds P f (Ok after) all h = let same : after.0 ≡ f = cc in subst (λ (c : Chip). P c.array) same all.0
done_holds P f (Err why) all h = cc

matched_holds : (P : List ℕ → Type 0) (f : Chip) (expect : List ℕ) (r : Result (Chip × List ℕ) Wrong) → AllHold P (trail_on r (λ after. [])) → matched expect r ≡ Ok f
    → P f.array
matched_holds P f expect (Ok after) all h = by_test (bytes_eq after.1 expect) h
  where
    by_test : (b : Bool) → (if b then Ok after.0 else Err wrong.Mismatch) ≡ Ok f → P f.array
    by_test true h = let same : after.0 ≡ f = cc in subst (λ (c : Chip). P c.array) same all.0
    by_test false h = cc
matched_holds P f expect (Err why) all h = cc

verify_holds : (P : List ℕ → Type 0) (f : Chip) (expect : List ℕ) (r : Result (Chip × List ℕ) Wrong) (b : Bool)
    → AllHold P (if b then trail_on r (λ after. []) else []) → (if b then matched expect r else Err wrong.Unknown) ≡ Ok f → P f.array
verify_holds P f expect r true all h = matched_holds P f expect r all h
verify_holds P f expect r false all h = cc

step_holds : (P : List ℕ → Type 0) (s : Setting) (c f : Chip) (x : Step) → P c.array → AllHold P (step_trail s c x) → step s c x ≡ Ok f → P f.array
unfolding step step_trail
step_holds P s c f (Send symbols) now all is = done_holds P f (effect s c symbols) all is
step_holds P s c f (Poll symbols) now all is = subst (λ (b : Chip). P b.array) (poll_left s c f (bytes_eq symbols poll_clocks) is) now
step_holds P s c f (Verify symbols expect) now all is = verify_holds P f expect (effect s c symbols) (is_verify symbols) all is

-- where the steps before a row lead
record Reached (P : List ℕ → Type 0) (s : Setting) (d f : Chip) (tail : List Step) (begun : List Operation) : Type 0 where
  chip : Chip
  runs : run s chip tail ≡ Ok f
  holds : P chip.array
  all : AllHold P (trail s chip tail)
  explains : Explains s chip begun d
  latched : Bool
  these : List Instr
  are : AreStepsOf s.meaning chip.mode4 these tail
  calm : is_calm latched these ≡ true
  clear : latched ≡ false → chip.latch ≡ false

-- what one step leaves
record Left (s : Setting) (c e : Chip) (i : Instr) (more : List Instr) (latched : Bool) (xs : List Step) : Type 0 where
  are : AreStepsOf s.meaning e.mode4 more xs
  clear : latch_after i.what latched ≡ false → e.latch ≡ false

left_by : (s : Setting) (c e : Chip) (i : Instr) (more : List Instr) (latched : Bool) (x : Step) (xs : List Step) → IsStepOf s.meaning c.mode4 i x
    → AreStepsOf s.meaning (mode_after i.what c.mode4) more xs → (latched ≡ false → c.latch ≡ false) → step s c x ≡ Ok e → Left s c e i more latched xs
left_by s c e i more latched (Send symbols) xs one others clear is =
    let by = sent_by s.meaning c.mode4 i i.what symbols refl one in
    let did = sent_step s c e symbols is in
    let its = took s c e i symbols did.0 by.spelled did.1 in
    let mode : e.mode4 ≡ mode_after i.what c.mode4 = ap (λ (g : Chip). g.mode4) its.chip ∙ mode_of s c (seen i) i.what in record {
      are = subst (λ mode4. AreStepsOf s.meaning mode4 more xs) (sym mode) others;
      clear = λ none. ap (λ (g : Chip). g.latch) its.chip ∙ latch_of s c (seen i) i.what latched clear none;
    }
left_by s c e i more latched (Poll symbols) xs one others clear is =
    let by = poll_by s.meaning c.mode4 i i.what symbols refl one in
    let idle = poll_step s c e symbols is in
    let mode : mode_after i.what c.mode4 ≡ e.mode4 = ap (λ w. mode_after w c.mode4) by.0 ∙ ap (λ (g : Chip). g.mode4) idle in record {
      are = subst (λ mode4. AreStepsOf s.meaning mode4 more xs) mode others;
      clear = λ none. ap (λ (g : Chip). g.latch) (sym idle) ∙ clear (sym (ap (λ w. latch_after w latched) by.0) ∙ none);
    }
left_by s c e i more latched (Verify symbols expect) xs one others clear is =
    let by = read_by s.meaning c.mode4 i i.what symbols expect refl one in
    let did = read_step s c e symbols expect is in
    let its = took s c e i symbols expect by.spelled did in
    let mode : e.mode4 ≡ mode_after i.what c.mode4 = ap (λ (g : Chip). g.mode4) its.chip ∙ mode_of s c (seen i) i.what in record {
      are = subst (λ mode4. AreStepsOf s.meaning mode4 more xs) (sym mode) others;
      clear = λ none. ap (λ (g : Chip). g.latch) its.chip ∙ latch_of s c (seen i) i.what latched clear none;
    }

reach : (P : List ℕ → Type 0) (s : Setting) (c d f : Chip) (front tail : List Step) (done begun : List Operation) (these : List Instr) (latched : Bool)
    → AreStepsOf s.meaning c.mode4 these (front ++ tail) → is_calm latched these ≡ true → (latched ≡ false → c.latch ≡ false) → run s c (front ++ tail) ≡ Ok f
    → P c.array → AllHold P (trail s c (front ++ tail)) → AreLogOf front done → Explains s c (done ++ begun) d → Reached P s d f tail begun
unfolding trail
reach P s c d f [] tail done begun these latched are calm clear is now all none h = record {
  chip = c;
  runs = is;
  holds = now;
  all = all;
  explains = subst (λ (l : List Operation). Explains s c (l ++ begun) d) none h;
  latched = latched;
  these = these;
  are = are;
  calm = calm;
  clear = clear;
}
reach P s c d f (x ∷ xs) tail done begun [] latched are calm clear is now all its h = absurd are
reach P s c d f (x ∷ xs) tail done begun (i ∷ more) latched are calm clear is now all (first, rest, parts, its, later) h =
    let one = goes s c f x (xs ++ tail) is in
    let whole : done ++ begun ≡ first ++ (rest ++ begun) = ap (λ (l : List Operation). l ++ begun) parts ∙ append_assoc first rest begun in
    let split = in_parts s c d first (rest ++ begun) (subst (λ (l : List Operation). Explains s c l d) whole h) in
    let same = step_same s c split.between one.next x first its split.first one.first in
    let here = step_holds P s c one.next x now (all_first P (step_trail s c x) (trail_after (step s c x) (λ e. trail s e (xs ++ tail))) all) one.first in
    let back = all_second P (step_trail s c x) (trail_after (step s c x) (λ e. trail s e (xs ++ tail))) all in
    let on : AllHold P (trail s one.next (xs ++ tail)) = subst (λ (r : Result Chip Wrong). AllHold P (trail_after r (λ e. trail s e (xs ++ tail)))) one.first back in
    let left = left_by s c one.next i more latched x (xs ++ tail) are.0 are.1 clear one.first in
    reach P s one.next d f xs tail rest begun more (latch_after i.what latched) left.are (calm_later latched i more calm) left.clear one.rest here on later
    (subst (λ (e : Chip). Explains s e (rest ++ begun) d) same split.second)

-- the first of the steps left, and the others
record Firsts (P : List ℕ → Type 0) (s : Setting) (c f : Chip) (x : Step) (xs : List Step) : Type 0 where
  next : Chip
  first : step s c x ≡ Ok next
  its : AllHold P (step_trail s c x)
  rest : run s next xs ≡ Ok f
  on : AllHold P (trail s next xs)

firsts : (P : List ℕ → Type 0) (s : Setting) (c f : Chip) (x : Step) (xs : List Step) → run s c (x ∷ xs) ≡ Ok f → AllHold P (trail s c (x ∷ xs)) → Firsts P s c f x xs
unfolding trail
firsts P s c f x xs is all =
    let one = goes s c f x xs is in
    let back = all_second P (step_trail s c x) (trail_after (step s c x) (λ e. trail s e xs)) all in record {
      next = one.next;
      first = one.first;
      its = all_first P (step_trail s c x) (trail_after (step s c x) (λ e. trail s e xs)) all;
      rest = one.rest;
      on = subst (λ (r : Result Chip Wrong). AllHold P (trail_after r (λ e. trail s e xs))) one.first back;
    }

-- one step
one_holds : VerifyKeeps → (P : List ℕ → Type 0) (s : Setting) (c d e f : Chip) (reads : ℕ) (x : Step) (rest : List Step) (begun : List Operation)
    → run s c (x ∷ rest) ≡ Ok f → P c.array → AllHold P (trail s c (x ∷ rest)) → IsBegun x begun → Explains s c begun d → DoesSome s d (next_clocks reads (x ∷ [])) e
    → P e.array
one_holds keeps P s c d e f reads (Send symbols) rest begun is now all none h some =
    let same : d ≡ c = subst (λ (l : List Operation). Explains s c l d) none h in
    let its = firsts P s c f (Send symbols) rest is all in
    one_some P s c e symbols now (λ g given did. sent_holds P s c g symbols given its.its did) (subst (λ (b : Chip). DoesSome s b (symbols ∷ []) e) same some)
one_holds keeps P s c d e f reads (Poll symbols) rest begun is now all (its, waiting) h some =
    let still = statuses_keep s c d (waiting.busy ++ waiting.idle) (subst (λ (l : List Operation). Explains s c l d) waiting.those h) in
    let more = polls_keep s reads d e (subst (λ (l : List ℕ). DoesSome s d (replicate reads l ++ []) e) its some) in
    subst P (sym (more ∙ still)) now
one_holds keeps P s c d e f reads (Verify symbols expect) rest begun is now all none h some =
    let same : d ≡ c = subst (λ (l : List Operation). Explains s c l d) none h in
    let stays = verifies_keep keeps s c e f reads (Verify symbols expect ∷ []) rest refl is (subst (λ (b : Chip). DoesSome s b (symbols ∷ []) e) same some) in
    subst (λ (b : Chip). P b.array) (sym stays) now

sent_same : (s : Setting) (c e f : Chip) (symbols given : List ℕ) → effect s c symbols ≡ Ok (e, given) → step s c (Send symbols) ≡ Ok f → e ≡ f
unfolding step
sent_same s c e f symbols given did is = done_same e f given (effect s c symbols) did is

-- a change and its poll
change_holds : (P : List ℕ → Type 0) (s : Setting) (c e f : Chip) (reads : ℕ) (change wait : List ℕ) (rest : List Step)
    → run s c (Send change ∷ (Poll wait ∷ rest)) ≡ Ok f → P c.array → AllHold P (trail s c (Send change ∷ (Poll wait ∷ rest)))
    → DoesSome s c (change ∷ (replicate reads wait ++ [])) e → P e.array
change_holds P s c e f reads change wait rest is now all some =
    let its = firsts P s c f (Send change) (Poll wait ∷ rest) is all in
    let poll = goes s its.next f (Poll wait) rest its.rest in
    let read = poll_is s its.next poll.next wait poll.first in
    change_some P s reads c e change now (λ g given did. sent_holds P s c g change given its.its did)
    (subst (λ (l : List ℕ). DoesSome s c (change ∷ (replicate reads l ++ [])) e) read some)

-- after a write enable, on a chip whose latch is clear
enabled_holds : (P : List ℕ → Type 0) (s : Setting) (c e f : Chip) (reads : ℕ) (enable change wait : List ℕ) (rest : List Step) → c.latch ≡ false
    → run s c (Send enable ∷ (Send change ∷ (Poll wait ∷ rest))) ≡ Ok f → P c.array → AllHold P (trail s c (Send enable ∷ (Send change ∷ (Poll wait ∷ rest))))
    → DoesSome s c (enable ∷ (change ∷ (replicate reads wait ++ []))) e → P e.array
enabled_holds P s c e f reads enable change wait rest clear is now all (inl passed) =
    let its = firsts P s c f (Send enable) (Send change ∷ (Poll wait ∷ rest)) is all in
    let sent = goes s its.next f (Send change) (Poll wait ∷ rest) its.rest in
    let poll = goes s sent.next f (Poll wait) rest sent.rest in
    let read = poll_is s sent.next poll.next wait poll.first in
    change_some P s reads c e change now (λ g given did. subst P (sym (unlatched s c g change given clear did)) now)
    (subst (λ (l : List ℕ). DoesSome s c (change ∷ (replicate reads l ++ [])) e) read passed)
enabled_holds P s c e f reads enable change wait rest clear is now all (inr (g, given, did, more)) =
    let its = firsts P s c f (Send enable) (Send change ∷ (Poll wait ∷ rest)) is all in
    let same : g ≡ its.next = sent_same s c g its.next enable given did its.first in
    let here : P its.next.array = subst (λ (b : Chip). P b.array) same (sent_holds P s c g enable given its.its did) in
    change_holds P s its.next e f reads change wait rest its.rest here its.on (subst (λ (b : Chip). DoesSome s b (change ∷ (replicate reads wait ++ [])) e) same more)

-- the write enable of planned work finds the latch clear
enable_seen : (m : Parameters) (mode4 : Bool) (i : Instr) → Spells m mode4 i enable_clocks → i.what ≡ what.Enable
unfolding bits
enable_seen m mode4 i spelled =
    let seen_it : Some (seen i) ≡ Some (plain what.Enable) = sym spelled.decodes ∙ seen_06 m mode4 in
    let same : seen i ≡ plain what.Enable = cc in ap (λ (j : Instruction). j.what) same

finds_clear : (s : Setting) (c : Chip) (these : List Instr) (latched : Bool) (xs : List Step) → AreStepsOf s.meaning c.mode4 these (Send enable_clocks ∷ xs)
    → is_calm latched these ≡ true → (latched ≡ false → c.latch ≡ false) → c.latch ≡ false
finds_clear s c [] latched xs are calm clear = absurd are
finds_clear s c (i ∷ more) latched xs are calm clear =
    let by = sent_by s.meaning c.mode4 i i.what enable_clocks refl are.0 in
    clear (calm_now latched i more (enable_seen s.meaning c.mode4 i by.spelled) calm)

verifying_begun : (row : List Step) (begun : List Operation) → list_all verifies row ≡ true → IsFirstBegun row begun → begun ≡ []
verifying_begun [] begun all first = absurd first
verifying_begun (Send symbols ∷ xs) begun all first = first
verifying_begun (Poll symbols ∷ xs) begun all first = cc
verifying_begun (Verify symbols expect ∷ xs) begun all first = first

-- some of a row
row_holds : VerifyKeeps → (P : List ℕ → Type 0) (s : Setting) (d e f : Chip) (reads : ℕ) (row rest : List Step) (begun : List Operation) → IsForm row
    → IsFirstBegun row begun → Reached P s d f (row ++ rest) begun → DoesSome s d (next_clocks reads row) e → P e.array
row_holds keeps P s d e f reads row rest begun (inl (x, same)) first at some =
    let begins : IsFirstBegun (x ∷ []) begun = subst (λ (l : List Step). IsFirstBegun l begun) same first in
    let run_it : run s at.chip (x ∷ rest) ≡ Ok f = subst (λ (l : List Step). run s at.chip (l ++ rest) ≡ Ok f) same at.runs in
    let all_it : AllHold P (trail s at.chip (x ∷ rest)) = subst (λ (l : List Step). AllHold P (trail s at.chip (l ++ rest))) same at.all in
    one_holds keeps P s at.chip d e f reads x rest begun run_it at.holds all_it begins at.explains
    (subst (λ (l : List Step). DoesSome s d (next_clocks reads l) e) same some)
row_holds keeps P s d e f reads row rest begun (inr (inl (change, wait, same))) first at some =
    let these = Send change ∷ (Poll wait ∷ []) in
    let none : begun ≡ [] = subst (λ (l : List Step). IsFirstBegun l begun) same first in
    let stays : d ≡ at.chip = subst (λ (l : List Operation). Explains s at.chip l d) none at.explains in
    let run_it : run s at.chip (these ++ rest) ≡ Ok f = subst (λ (l : List Step). run s at.chip (l ++ rest) ≡ Ok f) same at.runs in
    let all_it : AllHold P (trail s at.chip (these ++ rest)) = subst (λ (l : List Step). AllHold P (trail s at.chip (l ++ rest))) same at.all in
    let its : DoesSome s at.chip (next_clocks reads these) e =
    subst (λ (b : Chip). DoesSome s b (next_clocks reads these) e) stays (subst (λ (l : List Step). DoesSome s d (next_clocks reads l) e) same some) in
    change_holds P s at.chip e f reads change wait rest run_it at.holds all_it its
row_holds keeps P s d e f reads row rest begun (inr (inr (inl (change, wait, same)))) first at some =
    let these = Send enable_clocks ∷ (Send change ∷ (Poll wait ∷ [])) in
    let none : begun ≡ [] = subst (λ (l : List Step). IsFirstBegun l begun) same first in
    let stays : d ≡ at.chip = subst (λ (l : List Operation). Explains s at.chip l d) none at.explains in
    let run_it : run s at.chip (these ++ rest) ≡ Ok f = subst (λ (l : List Step). run s at.chip (l ++ rest) ≡ Ok f) same at.runs in
    let all_it : AllHold P (trail s at.chip (these ++ rest)) = subst (λ (l : List Step). AllHold P (trail s at.chip (l ++ rest))) same at.all in
    let are_it : AreStepsOf s.meaning at.chip.mode4 at.these (these ++ rest) = subst (λ (l : List Step). AreStepsOf s.meaning at.chip.mode4 at.these (l ++ rest)) same at.are in
    let its : DoesSome s at.chip (next_clocks reads these) e =
    subst (λ (b : Chip). DoesSome s b (next_clocks reads these) e) stays (subst (λ (l : List Step). DoesSome s d (next_clocks reads l) e) same some) in
    let clear = finds_clear s at.chip at.these at.latched (Send change ∷ (Poll wait ∷ rest)) are_it at.calm at.clear in
    enabled_holds P s at.chip e f reads enable_clocks change wait rest clear run_it at.holds all_it its
row_holds keeps P s d e f reads row rest begun (inr (inr (inr all))) first at some =
    let none = verifying_begun row begun all first in
    let stays : d ≡ at.chip = subst (λ (l : List Operation). Explains s at.chip l d) none at.explains in
    let keeps_it = verifies_keep keeps s at.chip e f reads row rest all at.runs (subst (λ (b : Chip). DoesSome s b (next_clocks reads row) e) stays some) in
    subst (λ (b : Chip). P b.array) (sym keeps_it) at.holds

-- before the work nothing is in the making
none_made : (us : List WorkUnit) (have want : List ℕ) → IsInTheMaking us have want have
none_made us have want = record { low = 0; high = 0; below = λ x h. absurd (omega arith); above = λ x h. refl; between = inl refl }

-- planned steps, on a chip of the meaning and start
planned_here : (m : Parameters) (start : Start) (verify : Bool) (content goal : List ℕ) (steps : List Step) (s : Setting) → IsChipOf m start s
    → ArePlanned m start verify content goal steps
    → AreStepsOf s.meaning (ready s content).mode4 (planned m start verify content goal) steps
planned_here m start verify content goal steps s is those =
    let these = planned m start verify content goal in
    subst (λ (n : Parameters). AreStepsOf n (begins4 s.meaning s.start) these steps) (sym is.its_meaning)
    (subst (λ b. AreStepsOf m b these steps) (sym (its_mode m start s is)) those)

pub loop_breaks : PlannedDoesTask → OneUnitInTheMaking → VerifyKeeps → LoopBreaks
loop_breaks does making keeps w c first again work at row reads doing one two begun s held after may =
    let told = told_first w.m w.start c first (again ++ work) one.tells s held after may in
    let on = (told_first w.m w.start c again work two.tells s held after told.1).1.explains in
    let by = doing held may.content told.0 in
    let goal = w.goal held in
    let its = does w.m w.start w.verify held goal w.steps by.workable by.planned s may.is in
    let units = planned_units w.m w.start held goal in
    let P = IsInTheMaking units held goal in
    let d = ready s held in
    let trails = making w.m w.start w.verify held goal w.steps by.workable by.planned s may.is in
    let are = planned_here w.m w.start w.verify held goal w.steps s may.is by.planned in
    let these = planned w.m w.start w.verify held goal in
    let reached = reach P s d after its.final begun.front (row ++ begun.rest) begun.done begun.begun these false
    (subst (λ (l : List Step). AreStepsOf s.meaning d.mode4 these l) begun.those are)
    (lowered_calm w.m w.start (strategy w.m w.start) (planned_ops w.m w.start w.verify held goal)) (λ none. refl)
    (subst (λ (l : List Step). run s d l ≡ Ok its.final) begun.those its.good.runs) (none_made units held goal)
    (subst (λ (l : List Step). AllHold P (trail s d l)) begun.those trails) begun.logged
    (subst (λ (l : List Operation). Explains s d l after) begun.joined on) in
    record {
      held_it = told.0;
      part = λ e some. row_holds keeps P s after e its.final reads row begun.rest begun.begun begun.form begun.last reached some;
    }
