-- A mask of a byte has no bit past the eighth.
use Rattle.std.proofs.Common.{◌≡◌, ◌<◌, rules, inl, inr}
use Rattle.std.specs.Prelude.{◌⊎◌}
use Rattle.nor_base.proofs.KindLemmas.{no_kind}
use Rattle.nor_base.proofs.meaning.Region.allows.Goals as goal

pub returns-then-kind-eq0 : goal.returns-then-kind-eq0
returns-then-kind-eq0 c =
    let small : c.args.self.now.kinds < 256 = search rules in
    let none : (c.args.kind ≡ 0) ⊎ (8 < c.args.kind) = elim c.then-kind-eq0.either [ inl h ↦ inl h | inr h ↦ inr h.1 ] in
    no_kind c.args.self.now c.args.kind small none
