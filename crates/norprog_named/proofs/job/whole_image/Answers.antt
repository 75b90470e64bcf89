-- The further files, if there are some.
use Rattle.std.proofs.Common.{[]}
use Rattle.norprog_files.proofs.FilesLemmas.{adds_none}
use Rattle.norprog_named.specs.Gathered.{NoRoom}
use Rattle.norprog_named.proofs.GatherLemmas.{none_more, some_more}
use Rattle.norprog_named.proofs.job.whole_image.Goals as goal

pub returns-in_default : goal.returns-in_default
returns-in_default g c = ([], adds_none _, NoRoom _)

pub returns-in-None : goal.returns-in-None
returns-in-None g c =
    ([], adds_none _, none_more c.args.given.now c.in-Ok.images.items c.as_slice.result.now c.as_slice.ensures.value c.in-Ok.ensures c.in-None.ensures.cases)

pub returns : goal.returns
returns g c =
    let did = c.gather.ensures in (
      did.0,
      did.1,
      some_more c.args.given.now c.in-Ok.images.items c.as_slice.result.now _ c.in-Some.more.now c.as_slice.ensures.value c.in-Ok.ensures
          c.in-Some.ensures.cases.0 did.2,
    )
