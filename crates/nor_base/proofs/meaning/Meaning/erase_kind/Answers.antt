-- The slot is that of the kind.
use Rattle.std.proofs.Common.{◌<◌, length, ap, arith}
use Rattle.nor_base.specs.Parameters.{Parameters}
use Rattle.nor_base.proofs.KindLemmas.{kind_of_slot, some_bytes_of}
use Rattle.nor_base.proofs.meaning.Meaning.erase_kind.Goals as goal

pub returns-clause-kind : goal.returns-clause-kind
returns-clause-kind c =
    let inside : c.from.result < length c.self.inside.erases = omega (arith, c.self.invariant.four_kinds) in
    kind_of_slot c.args.self.now c.self.inside.erases c.args.kind c.from.result (ap (λ (m : Parameters). m.erases) c.self.view_is) (omega arith) inside

pub returns-clause-some : goal.returns-clause-some
returns-clause-some c = some_bytes_of c.args.self.now c.args.kind _ c.acceptance.ensures (returns-clause-kind c)
