-- What was read half a chip away.
use Rattle.nor_loop.specs.Reads.{chunk}
use Rattle.norprog_read.specs.End.{Elsewhere, LostThere, Twice}
use Rattle.norprog_read.proofs.end.see_elsewhere.Goals as goal

pub returns-in-Ok-clause-stops : goal.returns-in-Ok-clause-stops
returns-in-Ok-clause-stops g c =
    Twice (chunk c.in-Some.at c.in-Some.bytes.now) c.requires.near c.if-ask.false c.in-Some.ensures (rw c.few_of-few.ensures.asked at c.in-Ok.ensures.again)

pub returns-in-Err-Exchange-clause-stops : goal.returns-in-Err-Exchange-clause-stops
returns-in-Err-Exchange-clause-stops g c =
    LostThere (chunk c.in-Some.at c.in-Some.bytes.now) c.in-Err-Exchange.why c.requires.near c.if-ask.false c.in-Some.ensures
    (rw c.few_of-few.ensures.asked at (rw c.in-Err-Exchange.field-0-is at c.in-Err-Exchange.ensures.again))

pub returns-in-Err-Differs-clause-end : goal.returns-in-Err-Differs-clause-end
returns-in-Err-Differs-clause-end g c =
    Elsewhere c.requires.near (chunk c.in-Some.at c.in-Some.bytes.now) c.in-Some.ensures c.in-Err-Differs.field-0-0
    (rw c.few_of-few.ensures.asked at (rw c.in-Err-Differs.field-0-is at c.in-Err-Differs.ensures.again))
