-- What a build has to do, of accepted inputs (this project's).
use Rattle.std.specs.Prelude.{◌≡◌, ℕ, List}
use Rattle.nor_layout.specs.Region.{Region}
use Rattle.nor_layout.specs.Chosen.{has, is_chosen}
use Rattle.nor_job.specs.declared.job.Job.{Job}
use Rattle.nor_job.specs.Causes.{AreAccepted}
use Rattle.nor_job.specs.Status.{start_of}
use Rattle.nor_job.specs.Task.{Task}

pub record IsJob (t : Task) (len : ℕ) (job : Job) : Type 0 where
  pub regions : List Region
  pub accepted : AreAccepted t len job.image regions job.meaning
  pub chosen : (a : ℕ) → has job.chosen a ≡ is_chosen regions t.regions a
  pub start : job.start ≡ start_of t
  pub base : job.base ≡ t.base
  pub verify : job.verify ≡ t.verify
