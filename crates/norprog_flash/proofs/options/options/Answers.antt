-- The values, one after another.
use Rattle.std.proofs.Common.{refl}
use Rattle.norprog_flash.proofs.options.options.Goals as goal

pub returns : goal.returns
returns c = rw (c.as_slice.ensures.value, c.as_slice-2.ensures.value, c.first_name.ensures) refl
