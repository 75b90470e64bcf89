use Rattle.std.proofs.Common.{◌+◌, length, sym, ◌∙◌}
use Rattle.nor_base.specs.Target.{target_byte}
use Rattle.nor_hex.specs.Image.{byte_at}
use Rattle.nor_layout.specs.Chosen.{has}
use Rattle.nor_target.proofs.PartLemmas.{all_filled, part_of_target}
use Rattle.nor_target.proofs.RunLemmas.{filled_more, filled_all}
use Rattle.nor_target.proofs.fill.Goals as goal

pub loop-begin-preserved : goal.loop-begin-preserved
loop-begin-preserved c =
    filled_more (byte_at c.args.image.now) c.args.base c.args.at (has c.args.chosen.now) c.args.have.now c.loop-begin.want c.lay.new.want c.loop-begin.done c.in-Some.begin c.in-Some.end c.loop-begin.invariant c.in-Some.ensures c.lay.auto.want c.lay.ensures

pub returns-clause-bytes : goal.returns-clause-bytes
returns-clause-bytes c =
    all_filled (target_byte (byte_at c.args.image.now) c.args.base (has c.args.chosen.now)) c.args.at c.args.have.now c.loop-begin.want (sym c.loop-begin.invariant.same_length)
    (filled_all (byte_at c.args.image.now) c.args.base c.args.at (has c.args.chosen.now) c.args.have.now c.loop-begin.want c.loop-begin.done c.loop-begin.invariant c.in_default.ensures)

pub returns-clause-part : goal.returns-clause-part
returns-clause-part c = λ content part.
    returns-clause-bytes c
    ∙ part_of_target (byte_at c.args.image.now) c.args.base (has c.args.chosen.now) content c.args.have.now c.args.at (c.args.at + length c.args.have.now) part
