use Rattle.std.proofs.Common.{◌≡◌, None}
use Rattle.nor_layout.specs.Chosen.{first_unknown}
use Rattle.nor_layout.proofs.Names.{empty_unknown}
use Rattle.nor_layout.proofs.layout.Layout.choose.Goals as goal

pub returns-clause-empty_name : goal.returns-clause-empty_name
returns-clause-empty_name c =
    let known : first_unknown c.self.inside.regions.items c.args.names.now ≡ None = cc in
    λ holds. absurd (empty_unknown c.self.inside.regions.items c.args.names.now c.self.invariant.each holds known)
