-- Place by place.
use Rattle.std.proofs.Common.{arith, rules}
use Rattle.std.proofs.lemmas.List.{take_more_same}
use Rattle.nor_reader.proofs.DifferenceLemmas.{alike_all}
use Rattle.nor_reader.proofs.difference.first_difference.Goals as goal

pub loop-place-preserved : goal.loop-place-preserved
loop-place-preserved c = take_more_same c.args.got.now c.args.want.now c.loop-place.place 0 (omega arith) (omega arith) c.loop-place.invariant (search rules)

pub returns-then-got-place : goal.returns-then-got-place
returns-then-got-place c = record { within = omega arith; before = c.loop-place.invariant; other = c.if-got-place.true }

pub returns : goal.returns
returns c = alike_all c.args.got.now c.args.want.now c.loop-place.place c.requires (omega arith) c.loop-place.invariant
