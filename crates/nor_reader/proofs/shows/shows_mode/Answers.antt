-- Piece by piece.
use Rattle.std.proofs.Common.{◌≡◌, inl, Bool, true, false, arith}
use Rattle.nor_reader.proofs.TellingLemmas.{none_more, cut_more, none_shows}
use Rattle.nor_reader.proofs.shows.shows_mode.Goals as goal

pub loop-done-init : goal.loop-done-init
loop-done-init c = record { within = omega arith; cut = inl (0, omega arith); none = λ n less. absurd (omega arith) }

both : (b : Bool) → b ≡ false → b ≡ true → ⊥
both b no_ is = cc

pub loop-done-preserved : goal.loop-done-preserved
loop-done-preserved c = record {
  within = omega arith;
  cut = cut_more c.args.limits.now.asked c.loop-done.done c.min-len.result c.args.content.now c.loop-done-test.true c.min-len.ensures
      c.loop-done.invariant.cut;
  none = none_more c.args.limits.now.asked c.loop-done.done c.min-len.result c.args.content.now c.loop-done-test.true c.min-len.ensures
      c.loop-done.invariant.cut c.loop-done.invariant.none
      (λ telling. both c.is_telling.result c.if-is_telling.false (c.is_telling.ensures.1 telling));
}

pub returns : goal.returns
returns c = (
  λ clash. absurd (cc),
  λ shows. absurd (none_shows c.args.mode4 c.args.limits.now.asked c.loop-done.done c.args.content.now c.loop-done-test.false c.loop-done.invariant.none shows),
)
