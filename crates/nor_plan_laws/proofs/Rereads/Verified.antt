-- What a verified run erases or programs it reads later, against the target.
use Rattle.std.proofs.Common.{◌≡◌, ℕ, zero, suc, ◌+◌, ◌-◌, ◌<◌, Bool, true, false, ◌||◌, if◌then◌else◌, List, [], ◌∷◌, ◌++◌, length, Some, None, refl, sym, ◌∙◌, ap, subst, arith, inl, inr}
use Rattle.std.specs.Prelude.{slice_get}
use Rattle.std.specs.List.{AllByRecursion}
use Rattle.std.specs.Option.{option_map_or}
use Rattle.std.proofs.lemmas.Bool.{cases_lt, both_ways}
use Rattle.nor_base.specs.declared.instruction.What.{What}
use Rattle.nor_base.specs.declared.instruction.What.TheVariants as what
use Rattle.nor_base.specs.declared.meaning.Start.{Start}
use Rattle.nor_base.specs.declared.step.Step.{Step}
use Rattle.nor_base.specs.declared.step.Step.TheVariants.{Verify}
use Rattle.nor_base.specs.Parameters.{Parameters}
use Rattle.nor_base.specs.Chip.{Setting, may_page, first_mode4, ready}
use Rattle.nor_base.specs.Effect.{is_status, is_read}
use Rattle.nor_base.specs.Strategies.{strategy}
use Rattle.nor_base.specs.Spelling.{Instr, seen, IsReadBy, IsStepBy, AreStepsOf, mode_after}
use Rattle.nor_base.specs.Operations.{poll}
use Rattle.nor_base.specs.Planned.{planned, planned_ops, ArePlanned, IsWorkable}
use Rattle.nor_base.specs.Events.{Event, events, erases_address, programs_address, changes_address, VerifiesAddress, IsReadLater, IsVerified}
use Rattle.nor_plan_laws.specs.Runs.{PlannedIsVerified}
use Rattle.nor_plan_laws.proofs.Runs.Shown.{ShownBy, AreShown}
use Rattle.nor_plan_laws.proofs.Runs.Counted.{planned_shown}
use Rattle.nor_plan_laws.proofs.Rereads.Reread.{planned_covered}
use Rattle.nor_plan_laws.proofs.Rereads.Followed.{Rereads, AreReread, changes, AreFollowed, lowered_followed}

-- places in lists joined
get_after : {A : Type 0} (xs ys : List A) (k j : ℕ) → j ≡ length xs + k → slice_get (xs ++ ys) j ≡ slice_get ys k
get_after [] ys k j is = let same : j ≡ k = omega (arith, is) in ap (slice_get ys) same
get_after (x ∷ xs) ys k zero is = absurd (omega (arith, is))
get_after (x ∷ xs) ys k (suc j) is = get_after xs ys k j (omega (arith, is))

get_before : {A : Type 0} (xs ys : List A) (j : ℕ) → j < length xs → slice_get (xs ++ ys) j ≡ slice_get xs j
get_before [] ys j before = absurd (omega (arith, before))
get_before (x ∷ xs) ys zero before = refl
get_before (x ∷ xs) ys (suc j) before = get_before xs ys j (omega (arith, before))

all_got : {A : Type 0} (P : A → Type 0) (xs : List A) (j : ℕ) (x : A) → AllByRecursion P xs → slice_get xs j ≡ Some x → P x
all_got P [] j x all is = cc
all_got P (y ∷ ys) zero x all is = let same : y ≡ x = cc in subst P same all.0
all_got P (y ∷ ys) (suc j) x all is = all_got P ys j x all.1 is

-- some steps are those of a whole from a number on
abbrev StandAt : List Step → ℕ → List Step → Type 0
StandAt whole n xs = (k : ℕ) → slice_get whole (n + k) ≡ slice_get xs k

stand_next : (whole xs : List Step) (n : ℕ) (x : Step) → StandAt whole n (x ∷ xs) → StandAt whole (n + 1) xs
stand_next whole xs n x stand k = let same : (n + 1) + k ≡ n + suc k = omega arith in ap (slice_get whole) same ∙ stand (suc k)

-- the transaction of a later read
record IsFound (want : List ℕ) (whole : List Step) (a : ℕ) (es : List Event) : Type 0 where
  place : ℕ
  event : Event
  there : slice_get es place ≡ Some event
  verifies : VerifiesAddress want whole a event

read_step : (m : Parameters) (mode4 : Bool) (i : Instr) (w : What) (x : Step) → is_read w ≡ true → IsStepBy m mode4 i w x → IsReadBy m mode4 i x
read_step m mode4 i what.Read x is by = by
read_step m mode4 i what.QuadRead x is by = by
read_step m mode4 i other x is by = cc

read_alone : (w : What) → is_read w ≡ true → is_status w ≡ false
read_alone what.Read is = refl
read_alone what.QuadRead is = refl
read_alone other is = cc

found_here : (want : List ℕ) (whole xs : List Step) (a n : ℕ) (m : Parameters) (mode4 : Bool) (i : Instr) (x : Step) (es front back : List Event) → es ≡ front ++ back
    → ShownBy n i (is_status i.what) front → IsStepBy m mode4 i i.what x → StandAt whole n (x ∷ xs) → Rereads want a i → IsFound want whole a es
found_here want whole xs a n m mode4 i x es front back are shown by stand reads =
    let one = subst (λ b. ShownBy n i b front) (read_alone i.what reads.0) shown in
    let read = read_step m mode4 i i.what x reads.0 by in
    let none : n + 0 ≡ n = omega arith in
    record {
      place = 0;
      event = record { step = n; seen = Some (seen i); chip = one.0 };
      there = ap (λ all. slice_get all 0) are ∙ ap (λ first. slice_get (first ++ back) 0) one.1;
      verifies = record {
        seen = seen i;
        clocks = read.clocks;
        is_seen = refl;
        there = ap (slice_get whole) (sym none) ∙ stand 0 ∙ ap (λ y. Some y) read.read ∙ ap (λ bytes. Some (Verify read.clocks bytes)) reads.2;
        reads = reads.1;
      };
    }

find : (want : List ℕ) (whole : List Step) (a n : ℕ) (m : Parameters) (mode4 : Bool) (these : List Instr) (xs : List Step) (es : List Event) → AreShown n these es
    → AreStepsOf m mode4 these xs → StandAt whole n xs → AreReread want a these → IsFound want whole a es
find want whole a n m mode4 [] xs es shown are stand h = absurd h
find want whole a n m mode4 (i ∷ these) [] es shown are stand h = absurd are
find want whole a n m mode4 (i ∷ these) (x ∷ xs) es shown are stand (inl here) =
    found_here want whole xs a n m mode4 i x es shown.0 shown.1 shown.2 shown.3 are.0 stand here
find want whole a n m mode4 (i ∷ these) (x ∷ xs) es shown are stand (inr later) =
    let found = find want whole a (n + 1) m (mode_after i.what mode4) these xs shown.1 shown.4 are.1 (stand_next whole xs n x stand) later in
    record {
      place = length shown.0 + found.place;
      event = found.event;
      there = ap (λ all. slice_get all (length shown.0 + found.place)) shown.2
          ∙ get_after shown.0 shown.1 found.place (length shown.0 + found.place) refl ∙ found.there;
      verifies = found.verifies;
    }

-- a transaction that changes an address is no status read
front_seen : (n : ℕ) (i : Instr) (b : Bool) (front : List Event) → ShownBy n i b front → AllByRecursion (λ (e : Event). e.seen ≡ Some (seen (if b then poll else i))) front
front_seen n i true front shown = shown
front_seen n i false front shown = subst (AllByRecursion (λ (e : Event). e.seen ≡ Some (seen i))) (sym shown.1) (refl, tt)

changed_by : (s : Setting) (a : ℕ) (e : Event) (i : Instr) (b : Bool) → e.seen ≡ Some (seen (if b then poll else i)) → changes_address s a e ≡ true
    → changes s.meaning s.page a i ≡ true
changed_by s a e i true is h =
    let none : changes_address s a e ≡ false =
    ap (λ o. option_map_or (λ j. erases_address s.meaning a j j.what) o false || option_map_or (λ j. programs_address s.page a j j.what) o false) is in
    absurd (both_ways (changes_address s a e) none h)
changed_by s a e i false is h =
    sym (ap (λ o. option_map_or (λ j. erases_address s.meaning a j j.what) o false || option_map_or (λ j. programs_address s.page a j j.what) o false) is) ∙ h

later_by : (want : List ℕ) (whole : List Step) (es : List Event) (at place : ℕ) (event : Event) (a : ℕ) → at < place → slice_get es place ≡ Some event
    → VerifiesAddress want whole a event → IsReadLater want whole es at a
later_by want whole es at place event a past is verifies = record { later = place; event = event; after = past; there = is; verifies = verifies }

read_later : (s : Setting) (want : List ℕ) (whole : List Step) (n : ℕ) (mode4 : Bool) (these : List Instr) (xs : List Step) (es : List Event) → AreShown n these es
    → AreStepsOf s.meaning mode4 these xs → StandAt whole n xs → AreFollowed s.meaning s.page want these → (at a : ℕ) (e : Event) → slice_get es at ≡ Some e
    → changes_address s a e ≡ true → IsReadLater want whole es at a
read_later s want whole n mode4 [] xs es shown are stand followed at a e is h =
    let none : None ≡ Some e = sym (ap (λ all. slice_get all at) shown) ∙ is in
    cc
read_later s want whole n mode4 (i ∷ these) [] es shown are stand followed at a e is h = absurd are
read_later s want whole n mode4 (i ∷ these) (x ∷ xs) es shown are stand followed at a e is h =
    let front = shown.0 in
    let back = shown.1 in
    let here : slice_get (front ++ back) at ≡ Some e = ap (λ all. slice_get all at) (sym shown.2) ∙ is in
    let next = stand_next whole xs n x stand in
    let mode = mode_after i.what mode4 in
    elim (cases_lt at (length front)) [
      | inl first ↦
          let its = all_got (λ (v : Event). v.seen ≡ Some (seen (if is_status i.what then poll else i))) front at e (front_seen n i (is_status i.what) front shown.3)
          (sym (get_before front back at first) ∙ here) in
          let found = find want whole a (n + 1) s.meaning mode these xs back shown.4 are.1 next (followed.0 a (changed_by s a e i (is_status i.what) its h)) in
          later_by want whole es at (length front + found.place) found.event a (omega (arith, first))
          (ap (λ all. slice_get all (length front + found.place)) shown.2 ∙ get_after front back found.place (length front + found.place) refl ∙ found.there) found.verifies
      | inr past ↦
          let sum : at ≡ length front + (at - length front) = omega (arith, past) in
          let rest = read_later s want whole (n + 1) mode these xs back shown.4 are.1 next followed.1 (at - length front) a e
          (sym (get_after front back (at - length front) at sum) ∙ here) h in
          later_by want whole es at (length front + rest.later) rest.event a (omega (arith, rest.after, past))
          (ap (λ all. slice_get all (length front + rest.later)) shown.2 ∙ get_after front back rest.later (length front + rest.later) refl ∙ rest.there) rest.verifies
    ]

verified_on : (s : Setting) (have want : List ℕ) (steps : List Step) → IsWorkable s.meaning s.start have want → may_page s.meaning s.page ≡ true
    → ArePlanned s.meaning s.start true have want steps → AreShown 0 (planned s.meaning s.start true have want) (events s (ready s have) steps) → IsVerified s have want steps
verified_on s have want steps w may are shown at a e is h =
    read_later s want steps 0 (first_mode4 s) (planned s.meaning s.start true have want) steps (events s (ready s have) steps) shown are whole
    (lowered_followed s.meaning s.page want s.start (strategy s.meaning s.start) (planned_ops s.meaning s.start true have want)
    (planned_covered s.meaning s.start s.page have want w may))
    at a e is h
  where
    whole : (k : ℕ) → slice_get steps (0 + k) ≡ slice_get steps k
    whole k = let same : 0 + k ≡ k = omega arith in ap (slice_get steps) same

pub planned_is_verified : PlannedIsVerified
planned_is_verified m start have want steps w are s is =
    let w' = subst (λ (b : Start). IsWorkable s.meaning b have want) (sym is.its_start) (subst (λ (a : Parameters). IsWorkable a start have want) (sym is.its_meaning) w) in
    let are' = subst (λ (b : Start). ArePlanned s.meaning b true have want steps) (sym is.its_start)
    (subst (λ (a : Parameters). ArePlanned a start true have want steps) (sym is.its_meaning) are) in
    let may = subst (λ (a : Parameters). may_page a s.page ≡ true) (sym is.its_meaning) is.its_page in
    verified_on s have want steps w' may are' (planned_shown s.meaning s.start true have want steps w' are' s (record { its_meaning = refl; its_start = refl; its_page = may }))
