-- The file that is named was made, or can't be.
use Rattle.std.proofs.Common.{[], ◌∷◌}
use Rattle.norprog_common.specs.declared.faults.FileName.TheVariants as file
use Rattle.norprog_files.specs.Files.{Denied, Here}
use Rattle.norprog_files.proofs.FilesLemmas.{adds_none}
use Rattle.norprog_named.specs.Plan.{MapMade, NoneMade}
use Rattle.norprog_named.proofs.JobLemmas.{stops_reading}
use Rattle.norprog_named.proofs.plan_files.make_map.Goals as goal

pub returns-in_err-create-in-Some : goal.returns-in_err-create-in-Some
returns-in_err-create-in-Some g c = record {
  did =
      let path = c.in-Some.out.path.now in
      rw c.in-Some.is (
        Denied path ∷ [],
        c.in_err-create-in-Some.ensures.did,
        stops_reading _ _ _ _ _ c.from_residual.ensures.1 (Here file.Map path [] _ c.in_err-create-in-Some.ensures.refused),
      );
}

pub returns-in_ok-create-in-Some : goal.returns-in_ok-create-in-Some
returns-in_ok-create-in-Some g c = record { did = rw c.in-Some.is (_, c.in_ok-create-in-Some.ensures.did, MapMade _) }

pub returns-in-None : goal.returns-in-None
returns-in-None g c = record { did = rw c.in-None.is ([], adds_none _, NoneMade) }
