-- None is asked for, or it moves some, or none, or it didn't come.
use Rattle.std.proofs.Common.{◌∙◌, refl, sym}
use Rattle.norprog_read.specs.Size.{Lost, Moved, Unasked, Unmoved}
use Rattle.norprog_read.proofs.size.see_register.Goals as goal

pub returns-in-None-clause-unmoved : goal.returns-in-None-clause-unmoved
returns-in-None-clause-unmoved g c = rw c.in-None.is (Unasked refl)

pub returns-in-Ok-clause-stops : goal.returns-in-Ok-clause-stops
returns-in-Ok-clause-stops g c =
    Moved c.in-Some.register c.in-Ok.value c.in-Some.is (rw c.opcode_of.ensures at c.in-Ok.ensures.register)
    (sym c.is_moved.ensures ∙ c.if-is_moved.true)

pub returns-in-Ok-2-clause-unmoved : goal.returns-in-Ok-2-clause-unmoved
returns-in-Ok-2-clause-unmoved g c =
    rw c.in-Some.is (Unmoved c.in-Some.register c.in-Ok.value (rw c.opcode_of.ensures at c.in-Ok.ensures.register)
    (sym c.is_moved.ensures ∙ c.if-is_moved.false))

pub returns-in-Err-clause-stops : goal.returns-in-Err-clause-stops
returns-in-Err-clause-stops g c =
    Lost c.in-Some.register c.in-Err.why c.in-Some.is (rw c.opcode_of.ensures at c.in-Err.ensures.register)
