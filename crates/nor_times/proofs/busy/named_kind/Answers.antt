-- The kind at which it stops is the first; else one kind less is left.
use Rattle.std.proofs.Common.{◌∙◌, sym}
use Rattle.nor_times.specs.Busy.{is_named}
use Rattle.nor_times.proofs.KindLemmas.{found_here, found_later}
use Rattle.nor_times.proofs.busy.named_kind.Goals as goal

pub returns-then-is_named-clause-value : goal.returns-then-is_named-clause-value
returns-then-is_named-clause-value c =
    sym (c.loop-kind.invariant
    ∙ found_here (is_named c.args.meaning.now c.args.opcode) c.loop-kind.kind c.loop-kind-test.true (sym c.is_named.ensures ∙ c.if-is_named.true))

pub loop-kind-preserved : goal.loop-kind-preserved
loop-kind-preserved c =
    c.loop-kind.invariant
    ∙ found_later (is_named c.args.meaning.now c.args.opcode) c.loop-kind.kind c.loop-kind-test.true (sym c.is_named.ensures ∙ c.if-is_named.false)
