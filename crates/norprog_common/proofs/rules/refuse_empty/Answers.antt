-- What was found is of the job.
use Rattle.std.proofs.Common.{◌≡◌, Some, None, refl, subst, sym}
use Rattle.nor_hex.specs.Image.{byte_at}
use Rattle.nor_job.specs.declared.job.Job.{Job}
use Rattle.nor_target.specs.Shares.{first_empty}
use Rattle.norprog_common.proofs.rules.refuse_empty.Goals as goal

pub returns-in-None-clause-none : goal.returns-in-None-clause-none
returns-in-None-clause-none c = λ asked.
    subst (λ (j : Job). first_empty (byte_at j.image) j.base j.meaning.size c.args.regions.now ≡ None) c.job.view_is (sym c.in-None.ensures)

pub returns-in-Some-clause-some : goal.returns-in-Some-clause-some
returns-in-Some-clause-some c = (
  c.in-Some.index,
  refl,
  c.if-not-strict.false,
  subst (λ (j : Job). first_empty (byte_at j.image) j.base j.meaning.size c.args.regions.now ≡ Some c.in-Some.index) c.job.view_is (sym c.in-Some.ensures),
)
