-- What a chip sees in the clocks.
use Rattle.nor_decode.specs.Seen.{transaction_of}
use Rattle.nor_cells.proofs.TouchedLemmas.{seen_marked, unseen_marked, seen_mode, unseen_mode}
use Rattle.nor_cells.proofs.touched.mark_step.Goals as goal

pub returns-in-Some-clause-marked : goal.returns-in-Some-clause-marked
returns-in-Some-clause-marked c =
    seen_marked c.args.meaning.now c.args.mode4 c.args.step.now c.clocks.result.now (transaction_of c.in-Some.seen) c.args.marks.now c.mark_seen.new.marks c.clocks.ensures
    c.in-Some.ensures c.mark_seen.ensures

pub returns-in-Some-clause-mode : goal.returns-in-Some-clause-mode
returns-in-Some-clause-mode c =
    seen_mode c.args.meaning.now c.args.mode4 c.mode_after.result c.args.step.now c.clocks.result.now (transaction_of c.in-Some.seen) c.clocks.ensures c.in-Some.ensures
    c.mode_after.ensures

pub returns-in-None-clause-marked : goal.returns-in-None-clause-marked
returns-in-None-clause-marked c =
    unseen_marked c.args.meaning.now c.args.mode4 c.args.step.now c.clocks.result.now c.args.marks.now c.clocks.ensures c.in-None.ensures

pub returns-in-None-clause-mode : goal.returns-in-None-clause-mode
returns-in-None-clause-mode c = unseen_mode c.args.meaning.now c.args.mode4 c.args.step.now c.clocks.result.now c.clocks.ensures c.in-None.ensures
