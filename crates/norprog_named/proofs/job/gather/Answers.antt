-- The first image, and then the files.
use Rattle.std.proofs.Common.{◌≡◌, [], length, map, option_map, rules}
use Rattle.nor_base.proofs.FaultLaws.{answered}
use Rattle.norprog_common.specs.Image.{image_in}
use Rattle.norprog_files.proofs.FilesLemmas.{adds_none}
use Rattle.norprog_named.specs.Gathered.{Gathers}
use Rattle.norprog_named.proofs.GatherLemmas.{alone, no_first, no_other, together}
use Rattle.norprog_named.proofs.job.gather.Goals as goal

pub returns-then-is_empty : goal.returns-then-is_empty
returns-then-is_empty g c =
    let none : length c.args.more.now ≡ 0 = search rules in ([], adds_none _, alone c.args.more.now none)

pub returns-in_err-image : goal.returns-in_err-image
returns-in_err-image g c =
    let some : length c.args.more.now ≡ 0 → ⊥ = search rules in (
      [],
      adds_none _,
      answered _ (λ result. Gathers c.args.base (option_map (λ t. t.now) c.args.layout) c.args.first (map image_in c.args.more.now) result []) _
          (no_first c.args.more.now some c.in_err-image.ensures.refused) c.from_residual.ensures.1,
    )

pub returns-in_err-all : goal.returns-in_err-all
returns-in_err-all g c =
    let some : length c.args.more.now ≡ 0 → ⊥ = search rules in
    let did = c.in_err-all.ensures in (
      did.0,
      did.1,
      answered _ (λ result. Gathers c.args.base (option_map (λ t. t.now) c.args.layout) c.args.first (map image_in c.args.more.now) result did.0) _
          (no_other c.args.more.now some c.in_ok-image.ensures.image did.2) c.from_residual-in_err-all.ensures.1,
    )

pub returns : goal.returns
returns g c =
    let some : length c.args.more.now ≡ 0 → ⊥ = search rules in
    let did = c.in_ok-all.ensures in (did.0, did.1, together c.args.more.now some c.in_ok-image.ensures.image did.2)
