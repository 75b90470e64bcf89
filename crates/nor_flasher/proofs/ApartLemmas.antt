-- Work on a later stretch of the wire.
use Rattle.std.proofs.Common.{◌≡◌, ℕ, true, false, inl, List, [], ◌∷◌, ◌++◌, length, refl, sym, ◌∙◌, ap, subst, append_assoc}
use Rattle.std.specs.Prelude.{Option}
use Rattle.std.specs.List.{AllByRecursion}
use Rattle.std.proofs.lemmas.List.{append-nil}
use Rattle.nor_base.specs.declared.step.Step.{Step}
use Rattle.nor_base.specs.Chip.{ready}
use Rattle.nor_base.specs.Device.{Ahead}
use Rattle.nor_base.specs.Wire.{Wire, wire}
use Rattle.nor_plan_laws.specs.Laws.{PlannedDoesTask}
use Rattle.nor_loop.specs.Laws.{ToldLoopCloses, LoopIsExplained, LoopBreaks, DoneIsLogged, HaltIsLogged, ReadTwice}
use Rattle.nor_loop.specs.Log.{Operation, Explains, HasLogged}
use Rattle.nor_loop.specs.Single.{WhateverQuad, WhateverQuadPart}
use Rattle.nor_loop.specs.Steps.{AreBegun, next_clocks}
use Rattle.nor_flasher.specs.Apart.{given, work_on, BreaksApart, ChipRead}
use Rattle.nor_flasher.specs.Laws.{Closes, Breaks, Rests}
use Rattle.nor_flasher.specs.Within.{IsPlannedWithin}
use Rattle.nor_flasher.proofs.LengthLemmas.{IsOne, PlannedIsOne}
use Rattle.nor_flasher.proofs.BegunLemmas.{all_before, all_after, ends, explains_front, next_operations, not_yet}
use Rattle.nor_flasher.proofs.WithinLemmas.{has_given, planned_for_all}

pub closes : PlannedDoesTask → DoneIsLogged → ToldLoopCloses → LoopIsExplained → WhateverQuad → Closes
closes does logged told shown whatever h0 h1 h2 h3 a0 a1 a2 a3 limits turns c goal steps within twice did =
    let done = logged h2 h3 a2 a3 limits turns steps did in
    let work = done.0 in
    let log = twice.first ++ (twice.again ++ work) in
    let all = planned_for_all c goal steps within in
    let every = told c.m c.start (given c) goal steps twice.first twice.again work twice.reads.tells twice.rereads.tells
    (λ held is has. let by = all held is has in does c.m c.start true held (goal held) steps by.workable by.planned) done.2 in
    record {
      first = twice.first;
      again = twice.again;
      work = work;
      read = twice.wire;
      worked = done.1;
      those = done.2;
      every = λ quad. whatever c.m c.start goal log c.start.quad quad every;
      some = shown (work_on c goal steps) (given c) c.content twice.first twice.again work all twice.reads twice.rereads done.2 within.content
          (has_given c goal steps within);
    }

joins : (first again work rest : List Operation) → first ++ (again ++ (work ++ rest)) ≡ (first ++ (again ++ work)) ++ rest
joins first again work rest =
    ap (λ (l : List Operation). first ++ l) (sym (append_assoc again work rest)) ∙ sym (append_assoc first (again ++ work) rest)

-- work was begun, and its log is what went over the wire
begun_breaks : PlannedIsOne → LoopBreaks → LoopIsExplained → WhateverQuadPart → (opened closed old : Wire) (held : Option (List ℕ)) (ahead : Ahead)
    (c : ChipRead) (goal : List ℕ → List ℕ) (steps : List Step) (at : ℕ) (row : List Step) (work : List Operation)
    → c.start.quad ≡ false → IsPlannedWithin c goal steps → ReadTwice opened closed c.m c.start (given c)
    → HasLogged old (wire held ahead) work → AreBegun steps at row work → BreaksApart opened closed old c goal steps at row
begun_breaks ones broken shown whatever opened closed old held ahead c goal steps at row work off within twice worked begun =
    let all = planned_for_all c goal steps within in
    let each = ones c.m c.start true c.content (goal c.content) steps within.done.workable off within.done.planned in
    let those = subst (AllByRecursion IsOne) begun.those each in
    let own = all_before row begun.rest (all_after begun.front (row ++ begun.rest) those) in
    let end = ends steps at row work each begun in
    let whole = shown (work_on c goal steps) (given c) c.content twice.first twice.again (work ++ end.0) all twice.reads twice.rereads end.1 within.content
    (has_given c goal steps within) in
    let front = explains_front whole.0 (ready whole.0 c.content) whole.1 (twice.first ++ (twice.again ++ work)) end.0
    (subst (λ (l : List Operation). Explains whole.0 (ready whole.0 c.content) l whole.1) (joins twice.first twice.again work end.0) whole.2.explains) in
    record {
      first = twice.first;
      again = twice.again;
      work = work;
      held = held;
      ahead = ahead;
      read = twice.wire;
      worked = worked;
      begun = begun;
      every = λ quad reads. whatever (work_on c goal steps) (given c) (twice.first ++ (twice.again ++ work)) (next_clocks reads row) c.start.quad quad
          (next_operations reads row own)
          (broken (work_on c goal steps) (given c) twice.first twice.again work at row reads all twice.reads twice.rereads begun);
      some = (whole.0, front.0, record { is = whole.2.is; content = whole.2.content; explains = front.1 });
    }

pub breaks : PlannedIsOne → HaltIsLogged → LoopBreaks → LoopIsExplained → WhateverQuadPart → Breaks
breaks ones logged broken shown whatever h0 h1 h2 h3 a0 a1 a2 a3 limits turns c goal steps halt off within twice halted =
    let log = logged h2 h3 a2 a3 limits turns steps halt halted in
    begun_breaks ones broken shown whatever (wire h0 a0) (wire h1 a1) (wire h2 a2) log.0 log.1 c goal steps halt.step
    (halted.at ∷ halted.beyond) log.2 off within twice log.3 log.4

-- of the step that comes next nothing was done
pub rests : PlannedIsOne → DoneIsLogged → LoopBreaks → LoopIsExplained → WhateverQuadPart → Rests
rests ones logged broken shown whatever h0 h1 h2 h3 a0 a1 a2 a3 limits turns c goal front x rest off within twice did =
    let steps = front ++ (x ∷ rest) in
    let log = logged h2 h3 a2 a3 limits turns front did in
    let next = all_after front (x ∷ rest) (ones c.m c.start true c.content (goal c.content) steps within.done.workable off within.done.planned) in
    let begun : AreBegun steps (length front) (x ∷ []) log.0 = record {
      front = front;
      rest = rest;
      those = refl;
      number = refl;
      form = inl (x, refl);
      done = log.0;
      begun = [];
      joined = sym (append-nil log.0);
      logged = log.2;
      last = not_yet x next.0;
    } in
    begun_breaks ones broken shown whatever (wire h0 a0) (wire h1 a1) (wire h2 a2) h3 a3 c goal steps (length front) (x ∷ []) log.0 off within
    twice log.1 begun
