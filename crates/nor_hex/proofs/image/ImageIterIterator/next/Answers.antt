use Rattle.std.proofs.Common.{length, sym, ap, ◌∙◌, refl, arith, rules}
use Rattle.nor_hex.proofs.ViewLemmas.{left_more, left_fits, left_inside, left_later, left_next, step_on, step_over}
use Rattle.nor_hex.proofs.image.ImageIterIterator.next.Goals as goal

pub overflow_add-address : goal.overflow_add-address
overflow_add-address c =
    let more = left_more _ _ c.in_ok-segment.segment.now _ _ c.self.invariant c.in_ok-segment.ensures.cases.0 in
    let fits = left_fits _ _ c.in_ok-segment.segment.now _ _ c.self.invariant c.in_ok-segment.ensures.cases.0 in
    omega arith

pub overflow_add-byte : goal.overflow_add-byte
overflow_add-byte c =
    let more = left_more _ _ c.in_ok-segment.segment.now _ _ c.self.invariant c.in_ok-segment.ensures.cases.0 in
    let inside = left_inside _ _ c.in_ok-segment.segment.now _ _ c.self.invariant c.in_ok-segment.ensures.cases.0 in
    omega arith

pub bounds-self-inside-segment : goal.bounds-self-inside-segment
bounds-self-inside-segment c =
    let more = left_more _ _ c.in_ok-segment.segment.now _ _ c.self.invariant c.in_ok-segment.ensures.cases.0 in
    let inside = left_inside _ _ c.in_ok-segment.segment.now _ _ c.self.invariant c.in_ok-segment.ensures.cases.0 in
    omega arith

pub overflow_add-self : goal.overflow_add-self
overflow_add-self c =
    let more = left_more _ _ c.in_ok-segment.segment.now _ _ c.self.invariant c.in_ok-segment.ensures.cases.0 in
    let fits = left_fits _ _ c.in_ok-segment.segment.now _ _ c.self.invariant c.in_ok-segment.ensures.cases.0 in
    let apart = c.if-address-segment.false in
    omega arith

pub invariant_of-self : goal.invariant_of-self
invariant_of-self c = left_later _ _ c.in_ok-segment.segment.now _ _ c.self.invariant c.in_ok-segment.ensures.cases.0

pub invariant_of-self-else-address-segment : goal.invariant_of-self-else-address-segment
invariant_of-self-else-address-segment c = left_next _ _ c.in_ok-segment.segment.now _ _ c.self.invariant c.in_ok-segment.ensures.cases.0 c.if-address-segment.false

pub returns-then-address-segment-clause-steps : goal.returns-then-address-segment-clause-steps
returns-then-address-segment-clause-steps c =
    sym c.self.view_is ∙ step_over _ _ c.in_ok-segment.segment.now _ _ c.self.invariant c.in_ok-segment.ensures.cases.0 _ _ refl c.if-address-segment.true refl

pub returns-then-address-segment-clause-goes : goal.returns-then-address-segment-clause-goes
returns-then-address-segment-clause-goes c =
    let e = sym c.self.view_is ∙ step_over _ _ c.in_ok-segment.segment.now _ _ c.self.invariant c.in_ok-segment.ensures.cases.0 _ _ refl c.if-address-segment.true refl in
    let l = ap length e in
    search rules

pub returns-else-address-segment-clause-steps : goal.returns-else-address-segment-clause-steps
returns-else-address-segment-clause-steps c =
    sym c.self.view_is ∙ step_on _ _ c.in_ok-segment.segment.now _ _ c.self.invariant c.in_ok-segment.ensures.cases.0 _ _ refl refl

pub returns-else-address-segment-clause-goes : goal.returns-else-address-segment-clause-goes
returns-else-address-segment-clause-goes c =
    let e = sym c.self.view_is ∙ step_on _ _ c.in_ok-segment.segment.now _ _ c.self.invariant c.in_ok-segment.ensures.cases.0 _ _ refl refl in
    let l = ap length e in
    search rules
