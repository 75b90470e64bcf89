-- What the rehearsal, the look at each step and its form tell.
use Rattle.std.proofs.Common.{◌∙◌, [], false, length, ap}
use Rattle.nor_base.specs.Chip.{chip_of, ready}
use Rattle.norprog_player.proofs.TakenLemmas.{left_whole}
use Rattle.norprog_player.proofs.early.ends_early.Goals as goal

pub returns-in-Some : goal.returns-in-Some
returns-in-Some c =
    let well = rw c.in-Well.is at c.in_ok-left.ensures in
    record {
      same = well.0;
      limits = c.widest.result;
      widest = record { sent = c.widest.ensures.sent; asked = c.widest.ensures.asked };
      first = rw c.in-Some.is at c.in_ok-step.ensures;
    }

pub returns : goal.returns
returns c =
    let s = chip_of c.args.meaning.now c.args.start [] false in
    let well = rw c.in-Well.is at c.in_ok-left.ensures in
    record {
      same = well.0;
      left = well.1;
      whole = ap length well.1 ∙ left_whole s (ready s c.args.content.now) well.0.left c.args.steps well.0.ends;
      limits = c.widest.result;
      widest = record { sent = c.widest.ensures.sent; asked = c.widest.ensures.asked };
      carried = rw c.in_default.is at c.in_ok-step.ensures;
      put = c.in_ok-steps.ensures;
    }
