-- The first file, and then the others.
use Rattle.std.proofs.Common.{[], map, option_map}
use Rattle.nor_base.proofs.FaultLaws.{answered}
use Rattle.norprog_common.specs.Image.{image_in}
use Rattle.norprog_files.proofs.FilesLemmas.{adds_both, adds_none}
use Rattle.norprog_named.specs.Gathered.{JoinsAll}
use Rattle.norprog_named.proofs.GatherLemmas.{joins_on, no_more, stops_at}
use Rattle.norprog_named.proofs.job.+join_all.Goals as goal

pub returns-in_err-both-in-Some : goal.returns-in_err-both-in-Some
returns-in_err-both-in-Some g t c =
    let did = c.in_err-both-in-Some.ensures in (
      did.0,
      did.1,
      answered _ (λ result. JoinsAll c.args.base (option_map (λ bytes. bytes.now) c.args.layout) (map image_in c.args.more.now) c.args.image result did.0) _
          (stops_at c.args.more.now c.in-Some.file.now c.in-Some.rest.now c.in-Some.ensures.cases.0 did.2) c.from_residual.ensures.1,
    )

pub returns-in-None : goal.returns-in-None
returns-in-None g t c = ([], adds_none _, no_more c.args.more.now c.args.image c.in-None.ensures.cases)

pub returns-in_ok-both-in-Some : goal.returns-in_ok-both-in-Some
returns-in_ok-both-in-Some g t c =
    let did = c.in_ok-both-in-Some.ensures in
    let further = c.join_all.ensures in
    (_, adds_both did.1 further.1, joins_on c.args.more.now c.in-Some.file.now c.in-Some.rest.now c.in-Some.ensures.cases.0 did.2 further.2)
