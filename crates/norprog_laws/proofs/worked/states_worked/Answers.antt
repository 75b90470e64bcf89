-- By computation.
use Rattle.std.proofs.Common.{refl}
use Rattle.nor_base.specs.Uniform.{uniform_of}
use Rattle.nor_job.specs.Chip.{uniform_says}
use Rattle.nor_job.specs.Status.{status_fault}
use Rattle.nor_job.specs.Task.{contradiction}
use Rattle.norprog_laws.proofs.worked.states_worked.Goals as goal

pub returns : goal.returns
unfolding uniform_says status_fault contradiction
returns c = record {
  busy = refl;
  latched = refl;
  suspended = refl;
  protected = refl;
  idle = refl;
  untold = refl;
  begins = refl;
  flags = refl;
  no_layout = refl;
  no_part = refl;
  said_twice = refl;
  of_a_part = refl;
  consistent = refl;
  says = record { own = uniform_of 8192; says = refl; its = uniform_of 8192; with_page = refl; profile = refl };
  says_erased = record { own = uniform_of 8192; says = refl; its = uniform_of 8192; with_page = refl; profile = refl };
  says_page = refl;
  no_page = refl;
  no_size = refl;
  page = refl;
  open_page = refl;
}
