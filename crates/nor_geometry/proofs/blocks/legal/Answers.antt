-- Each kind adds its block, if it has one.
use Rattle.std.proofs.Common.{◌≡◌, sym, ◌∙◌, ap, arith}
use Rattle.nor_geometry.proofs.PlaceLemmas.{next_kind, no_kind, are_legal}
use Rattle.nor_geometry.proofs.blocks.legal.Goals as goal
use Rattle.nor_geometry.proofs.blocks.legal.Goals.{in-Some, in_default}

pub loop-kind-preserved : goal.loop-kind-preserved
loop-kind-preserved c = elim c.match-block_at.branch [
  | in-Some w ↦
      let now = ap (λ v. v.items) w.blocks-is ∙ w.add.ensures in
      let found = sym c.block_at.ensures ∙ w.in-Some.is in
      let next = next_kind c.args.meaning.now c.args.strategy c.args.at c.loop-kind.kind c.loop-kind.blocks.items c.match-block_at.blocks.items w.in-Some.block
      c.acceptance.ensures c.loop-kind.invariant.room c.loop-kind.invariant.blocks found now in
      record { room = next.0; blocks = next.1 }
  | in_default w ↦
      let none = sym c.block_at.ensures ∙ w.in_default.is in
      let next = no_kind c.args.meaning.now c.args.strategy c.args.at c.loop-kind.kind c.loop-kind.blocks.items c.match-block_at.blocks.items
      c.acceptance.ensures c.loop-kind.invariant.room c.loop-kind.invariant.blocks none (ap (λ v. v.items) w.blocks-is) in
      record { room = next.0; blocks = next.1 }
]

pub returns : goal.returns
returns c =
    let end : c.loop-kind.kind ≡ 5 = omega arith in
    are_legal c.args.meaning.now c.args.strategy c.args.at c.loop-kind.blocks.items c.acceptance.ensures (rw end at c.loop-kind.invariant.blocks)
