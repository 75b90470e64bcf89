-- The look-up, case by case.
use Rattle.std.proofs.Common.{◌≡◌, Some, sym, ◌∙◌, rules}
use Rattle.nor_base.specs.Parameters.{erase_kind}
use Rattle.nor_geometry.proofs.KindLemmas.{reached_here, not_legal, not_taken, absent}
use Rattle.nor_geometry.proofs.blocks.block_at.Goals as goal
use Rattle.nor_geometry.proofs.blocks.block_at.Goals.{else-is_legal-via-then-is_legal+else-takes, else-is_legal-via-else-is_legal}

pub returns-in_err-erase : goal.returns-in_err-erase
returns-in_err-erase c =
    c.from_residual.ensures ∙ sym (absent c.args.meaning.now c.args.strategy c.args.at c.args.kind (sym c.erase_kind.ensures.kind ∙ c.in_err-erase.was))

pub returns-then-takes : goal.returns-then-takes
returns-then-takes c =
    let there : erase_kind c.args.meaning.now c.args.kind ≡ Some c.in_ok-erase.erase = search rules in
    sym (reached_here c.args.meaning.now c.args.strategy c.args.at c.args.kind c.in_ok-erase.erase there (search rules) (search rules))

pub returns-else-is_legal : goal.returns-else-is_legal
returns-else-is_legal c =
    let there : erase_kind c.args.meaning.now c.args.kind ≡ Some c.in_ok-erase.erase = search rules in
    elim c.else-is_legal.branch [
      | else-is_legal-via-then-is_legal+else-takes w ↦
          sym (not_taken c.args.meaning.now c.args.strategy c.args.at c.args.kind c.in_ok-erase.erase there (search rules) (search rules))
      | else-is_legal-via-else-is_legal w ↦ sym (not_legal c.args.meaning.now c.args.strategy c.args.at c.args.kind c.in_ok-erase.erase there (search rules))
    ]
