-- A header that counts is taken where it is newer; another changes nothing.
use Rattle.std.proofs.Common.{Some, ◌∙◌, ap}
use Rattle.nor_sfdp.proofs.NewestLemmas.{newest-taken, newest-passed}
use Rattle.nor_sfdp.proofs.header.newest.Goals as goal
use Rattle.nor_sfdp.proofs.header.newest.Goals.{then-is_of, else-is_of}

pub loop-i-preserved : goal.loop-i-preserved
loop-i-preserved c =
    elim c.if-is_of.branch [
      | then-is_of w ↦
          w.taken-is ∙ ap Some w.newer.ensures
          ∙ newest-taken c.args.bytes.now c.args.id c.loop-i.i c.header_at-header.result c.loop-i.taken c.header_at-header.ensures w.if-is_of.ensures c.loop-i.invariant
      | else-is_of w ↦
          w.taken-is
          ∙ newest-passed c.args.bytes.now c.args.id c.loop-i.i c.header_at-header.result c.loop-i.taken c.header_at-header.ensures w.if-is_of.ensures c.loop-i.invariant
    ]
