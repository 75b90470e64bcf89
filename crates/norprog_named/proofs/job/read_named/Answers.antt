-- The file that is named was read, or can't be.
use Rattle.std.proofs.Common.{[], ◌∷◌}
use Rattle.norprog_files.specs.Files.{Denied, Here}
use Rattle.norprog_files.proofs.FilesLemmas.{adds_none}
use Rattle.norprog_named.specs.Job.{Named, Unnamed}
use Rattle.norprog_named.proofs.JobLemmas.{stops_reading}
use Rattle.norprog_named.proofs.job.read_named.Goals as goal

pub returns-in_err-read-in-Some : goal.returns-in_err-read-in-Some
returns-in_err-read-in-Some g c =
    let path = c.in-Some.path.now in
    rw c.in-Some.is (
      Denied path ∷ [],
      c.in_err-read-in-Some.ensures.did,
      stops_reading _ _ _ _ _ c.from_residual.ensures.1 (Here c.args.name path [] _ c.in_err-read-in-Some.ensures.refused),
    )

pub returns-in_ok-read-in-Some : goal.returns-in_ok-read-in-Some
returns-in_ok-read-in-Some g c = rw c.in-Some.is (_, c.in_ok-read-in-Some.ensures.did, Named c.in-Some.path.now _)

pub returns-in-None : goal.returns-in-None
returns-in-None g c = rw c.in-None.is ([], adds_none _, Unnamed)
