-- The request of an operation.
use Rattle.std.proofs.Common.{◌≡◌, sym, ◌∙◌, subst, arith}
use Rattle.std.proofs.lemmas.Bool.{OnTrue_at, OnTrue_from}
use Rattle.nor_base.specs.Decoding.{bytes_of_bits}
use Rattle.nor_serprog.specs.Carried.{IsOperation}
use Rattle.nor_serprog.proofs.CarriedLemmas.{asked_is}
use Rattle.nor_serprog.proofs.row.add_operation.Goals as goal

pub overflow_cast-asked : goal.overflow_cast-asked
overflow_cast-asked c =
    let carried = c.in-Some.ensures.carried in
    let count = asked_is c.args.limits.now c.args.clocks.now _ carried.0 carried.1 in
    omega (arith, count, c.requires, carried.1.few_asked, c.args.limits.now.few_asked)

pub add_request-requires-clause-asked : goal.add_request-requires-clause-asked
add_request-requires-clause-asked c =
    let carried = c.in-Some.ensures.carried in
    let count = asked_is c.args.limits.now c.args.clocks.now _ carried.0 carried.1 in
    omega (arith, count, c.requires, carried.1.few_asked, c.args.limits.now.few_asked)

pub returns-in-Some : goal.returns-in-Some
returns-in-Some c =
    let carried = c.in-Some.ensures.carried in
    let sent = bytes_of_bits c.in-Some.bits.now in
    let count : carried.0 ≡ c.args.asked = sym (asked_is c.args.limits.now c.args.clocks.now sent carried.0 carried.1) ∙ sym c.requires in
    let op : IsOperation c.args.limits.now c.args.clocks.now sent c.args.asked = subst (IsOperation c.args.limits.now c.args.clocks.now sent) count carried.1 in
    OnTrue_from c.add_request.result _ (λ h. (sent, op, OnTrue_at h c.add_request.ensures))
