-- The steps, and then what the chip gives.
use Rattle.std.proofs.Common.{◌≡◌, ◌∙◌, ℕ, List, length, Result, Ok, Err, ap, subst, sym}
use Rattle.nor_reader.specs.AtOnce.{at_once}
use Rattle.nor_reader.specs.declared.difference.Mismatch.{Mismatch}
use Rattle.nor_serprog.specs.Done.{HasDoneAll}
use Rattle.nor_base.specs.declared.step.Step.{Step}
use Rattle.nor_base.specs.Wire.{Wire, wire}
use Rattle.norprog.specs.Stepper.{steps_by, update_of}
use Rattle.norprog_device.specs.Doing.{Doing}
use Rattle.norprog_device.specs.declared.failure.Failure.{Failure}
use Rattle.norprog_flash.specs.declared.ending.Ending.TheVariants.{Done, Failed}
use Rattle.norprog_flash.specs.Worked.{Back, Flashing, HasMissed, HasWorked, MissedIt, ReadsBack, Stopped, Worked, WorksOut, flashing}
use Rattle.norprog_flash.proofs.work.do_work.Goals as goal

worked : (d : Doing) (before done after : Wire) (steps : List Step) (b : Back) (result : Result (Unit {0}) Mismatch) (most : ℕ) → most ≡ at_once d.limits
    → HasDoneAll before done d.limits d.turns steps → ReadsBack most b done after result → HasWorked d before after (flashing steps b) result
worked d before done after steps b result most is all gives = record {
  done = done;
  steps = all;
  gives = subst (λ (n : ℕ). ReadsBack n b done after result) is gives;
}

-- the number of steps is the one that is reported
all_done : (d : Doing) (before after : Wire) (f : Flashing) (n : ℕ) → n ≡ length f.steps → HasWorked d before after f (Ok tt) → WorksOut d before after f (Done n)
all_done d before after f n is all = subst (λ (k : ℕ). WorksOut d before after f (Done k)) (sym is) (Worked all)

missed : (d : Doing) (before after : Wire) (f : Flashing) (why : Failure) (n : ℕ) → n ≡ length f.steps → HasMissed d before after f why → WorksOut d before after f (Failed n why)
missed d before after f why n is it = subst (λ (k : ℕ). WorksOut d before after f (Failed k why)) (sym is) (MissedIt why it)

pub returns-in-Err : goal.returns-in-Err
returns-in-Err g c = record { ends = Stopped c.in-Err.stop c.in-Err.ensures.stopped }

pub returns-in-Ok : goal.returns-in-Ok
returns-in-Ok g c = record {
  ends =
      let d = c.args.doing.now in
      let done = wire (g.W.ByteOut.held c.do_windows-stopped.new.to) (g.R.ByteIn.ahead c.do_windows-stopped.new.from) in
      let steps = steps_by (update_of c.args.steps.stepper) in
      all_done d _ _ (flashing steps c.args.back.now) c.args.steps.all c.requires.all
      (worked d _ done _ steps c.args.back.now (Ok tt) _ (c.for_reading-reading.ensures.asked ∙ ap (λ (x : Doing). at_once x.limits) c.doing.view_is)
      c.in_default.ensures.done c.in-Ok.ensures.back);
}

pub returns-in-Err-read_back : goal.returns-in-Err-read_back
returns-in-Err-read_back g c = record {
  ends =
      let d = c.args.doing.now in
      let done = wire (g.W.ByteOut.held c.do_windows-stopped.new.to) (g.R.ByteIn.ahead c.do_windows-stopped.new.from) in
      let steps = steps_by (update_of c.args.steps.stepper) in
      missed d _ _ (flashing steps c.args.back.now) c.failure_by.result c.args.steps.all c.requires.all (record {
        mismatch = c.in-Err-read_back.why;
        worked = worked d _ done _ steps c.args.back.now (Err c.in-Err-read_back.why) _
            (c.for_reading-reading.ensures.asked ∙ ap (λ (x : Doing). at_once x.limits) c.doing.view_is) c.in_default.ensures.done c.in-Err-read_back.ensures.back;
        failed = c.failure_by.ensures;
      });
}
