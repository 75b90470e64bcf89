-- Law by law.
use Rattle.norprog.proofs.builder.planned_work_does_the_task.Goals as goal

pub returns : goal.returns
returns c = record {
  done = c.planned_work.ensures.done;
  making = c.planned_work.ensures.making;
  trail = c.run_events.ensures;
  exact = c.planned_runs.ensures.exact;
  once = c.planned_runs.ensures.once;
  erases = c.planned_runs.ensures.erases;
  programs = c.planned_runs.ensures.programs;
  blocks = c.erased_blocks.ensures.blocks;
  apart = c.erased_blocks.ensures.apart;
  largest = c.erased_blocks.ensures.largest;
  verified = c.planned_runs.ensures.verified;
  unverified = c.planned_runs.ensures.unverified;
  least = c.least_erasure.ensures;
  fewest = c.fewest_programs.ensures.fewest;
  spelled = c.there_is_planned_work.ensures.spelled;
  has = c.spelling.ensures.has;
}
