-- How it ends in memory, and by the device.
use Rattle.std.proofs.Common.{[], ◌∷◌, refl}
use Rattle.nor_base.proofs.FaultLaws.{answered}
use Rattle.nor_job.specs.declared.fault.BuildFault.TheVariants.{Memory}
use Rattle.norprog_common.specs.declared.faults.Refusal.TheVariants.{Build}
use Rattle.norprog_files.specs.Files.{Denied}
use Rattle.norprog_files.proofs.FilesLemmas.{adds_both, adds_none}
use Rattle.norprog_named.specs.Play.{EndsPlaying, InMemory, NoDevice, NoMemory, OnDevice}
use Rattle.norprog_named.proofs.PlayLemmas.{put_doable}
use Rattle.norprog_player.specs.Expected.{expectation_of, play_of}
use Rattle.norprog_player.specs.declared.unplayed.Unplayed.TheVariants.{Refused}
use Rattle.norprog_named.proofs.play_files.play_job.Goals as goal

pub returns-in_err-ending : goal.returns-in_err-ending
returns-in_err-ending g c =
    let p = play_of c.args.job.steps (expectation_of c.args.expected) c.args.job.meaning c.args.job.content.items c.args.limit in
    ([], adds_none _, answered _ (EndsPlaying c.args.device.now p []) (Refused (Build Memory)) NoMemory c.from_residual.ensures.1)

pub returns-in-Ends : goal.returns-in-Ends
returns-in-Ends g c = ([], adds_none _, InMemory c.in-Ends.ending (rw (c.as_slice-content.ensures.value, c.in-Ends.is) at c.in_ok-ending.ensures))

pub returns-in_err-from : goal.returns-in_err-from
returns-in_err-from g c =
    let device = c.args.device.now in
    let p = play_of c.args.job.steps (expectation_of c.args.expected) c.args.job.meaning c.args.job.content.items c.args.limit in
    let may = rw (c.as_slice-content.ensures.value, c.in-Goes.is) at c.in_ok-ending.ensures in
    let log = Denied device ∷ [] in (
      log,
      c.in_err-from.ensures.did,
      answered _ (EndsPlaying device p log) (Refused c.in_err-from.field-0.0) (NoDevice _ _ may c.in_err-from.ensures.refused) c.from_residual-in_err-from.ensures.1,
    )

pub play_on-ended-requires-clause-form : goal.play_on-ended-requires-clause-form
play_on-ended-requires-clause-form g c =
    let may = rw (c.as_slice-content.ensures.value, c.in-Goes.is) at c.in_ok-ending.ensures in
    put_doable _ _ _ may.put

pub returns : goal.returns
returns g c =
    let may = rw (c.as_slice-content.ensures.value, c.in-Goes.is) at c.in_ok-ending.ensures in (
      _,
      adds_both c.in_ok-from.ensures.did c.close_device.ensures,
      OnDevice c.in-Goes.rehearsed _ _ _ c.play_on-ended.result may (record {
        meaning = refl;
        expected = refl;
        content = c.as_slice-content.ensures.value;
        steps = refl;
        left = c.as_slice.ensures.value;
        turns = refl;
      }) c.play_on-ended.ensures,
    )
