-- The file that can't be read, gives nothing, or is laid over the image or not.
use Rattle.std.proofs.Common.{option_map}
use Rattle.nor_base.proofs.FaultLaws.{answered}
use Rattle.norprog_common.specs.Image.{image_in}
use Rattle.norprog_named.specs.Gathered.{Joins, NoFile}
use Rattle.norprog_named.proofs.GatherLemmas.{has_none, joins}
use Rattle.norprog_named.proofs.job.join_file.Goals as goal

pub returns-in_err-bytes : goal.returns-in_err-bytes
returns-in_err-bytes g c =
    let did = c.in_err-bytes.ensures in (
      did.0,
      did.1,
      answered _ (λ result. Joins c.args.base (option_map (λ t. t.now) c.args.layout) (image_in c.args.file) c.args.image.now result did.0) _
          (NoFile did.0 _ did.2) c.from_residual.ensures.1,
    )

pub returns-in_err-beside : goal.returns-in_err-beside
returns-in_err-beside g c =
    let did = c.in_ok-bytes.ensures in (
      did.0,
      did.1,
      answered _ (λ result. Joins c.args.base (option_map (λ t. t.now) c.args.layout) (image_in c.args.file) c.args.image.now result did.0) _
          (has_none did.2 c.in_err-beside.ensures.refused) c.from_residual-in_err-beside.ensures.1,
    )

pub returns : goal.returns
returns g c =
    let did = c.in_ok-bytes.ensures in
    (did.0, did.1, joins c.joined.result did.2 c.in_ok-beside.ensures.gives c.joined.ensures.joined c.joined.ensures.refused)
