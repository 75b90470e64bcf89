-- The steps after the last window are kept.
use Rattle.std.proofs.Common.{◌∙◌, ap}
use Rattle.nor_select.specs.Streamed.{last}
use Rattle.nor_steps.specs.Writing.{lines_of}
use Rattle.norprog.specs.Stepper.{Stepping}
use Rattle.norprog.proofs.Promise.Made.{closes, kept_text}
use Rattle.norprog.proofs.stepper.Stepper.close.Goals as goal

pub returns-in-Ok : goal.returns-in-Ok
returns-in-Ok c = record {
  whole = closes c.script_texts.ensures.lines c.there_is_planned_work.ensures.spelled c.spelling.ensures.has c.args.self c.into_inner.result.items c.requires.ready c.requires.whole
      c.into_inner.ensures.spelled
      (kept_text _ _ c.into_inner.result.items _ c.new-steps.ensures c.into_inner.ensures.steps c.in-Ok.ensures.lines
      ∙ ap (λ (s : Stepping). lines_of (last s.work.streaming)) c.self.view_is);
}
