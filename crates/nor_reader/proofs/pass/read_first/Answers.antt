-- The mode was entered, the bytes were read, and the mode was left.
use Rattle.std.proofs.Common.{inl, inr, take, drop}
use Rattle.std.proofs.lemmas.List.{length-take-le}
use Rattle.nor_loop.specs.Reads.{chunk}
use Rattle.nor_reader.specs.Reads.{reads}
use Rattle.nor_reader.proofs.CutLemmas.{first_by}
use Rattle.nor_reader.proofs.pass.read_first.Goals as goal

pub returns-in-Err-read-clause-read : goal.returns-in-Err-read-clause-read
returns-in-Err-read-clause-read g c =
    inr (inl (record {
      held = _;
      ahead = _;
      entered = rw c.enter_of.ensures at c.in_default.ensures.switches;
      rest = (take c.args.low c.args.bytes.now, length-take-le c.args.low c.args.bytes.now c.requires.low, c.in-Err-read.ensures.read);
    }))

pub returns-clause-read : goal.returns-clause-read
returns-clause-read g c =
    first_by (reads c.args.limits.now.asked c.args.by) _ _ _ _ _ _ _ _ (chunk c.args.low (drop c.args.low c.read_on-read.new.bytes)) c.switch_mode-2.result
    (rw c.enter_of.ensures at c.in_default.ensures.switches) c.in_default-read.ensures.cut (rw c.leave_of.ensures at c.switch_mode-2.ensures.switches)
