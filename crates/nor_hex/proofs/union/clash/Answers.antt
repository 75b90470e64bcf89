use Rattle.std.proofs.Common.{◌++◌, ◌∷◌, [], ap, sym, subst, ◌∙◌, append-nil, append_assoc}
use Rattle.nor_hex.proofs.UnionLemmas.{AreAlikeIn, alike_all, alike_more, another, clash_at, no_other}
use Rattle.nor_hex.proofs.union.clash.Goals as goal

pub loop-address-init : goal.loop-address-init
loop-address-init c = record { split = c.into_iter-address-iterator.ensures.into_iter_gives ∙ c.iter-address-items.ensures.pairs; alike = λ i address first second e f. absurd cc }

pub returns-then-unwrap_or-byte : goal.returns-then-unwrap_or-byte
returns-then-unwrap_or-byte c =
    let other = another c.at.result c.in-Some.byte (λ same. c.if-unwrap_or-byte.true (c.unwrap_or.ensures ∙ same)) in
    clash_at c.args.one.now c.args.other.now c.loop-address.yielded _ c.in-Some.address c.in-Some.byte other.0 c.iter-address-items.ensures.rising
    (ap (λ rest. c.loop-address.yielded ++ rest) (sym c.in-Some.ensures.steps) ∙ c.loop-address.invariant.split)
    (λ at byte. (c.iter-address-items.ensures.given at byte).1) c.loop-address.invariant.alike (sym c.at.ensures ∙ other.1) other.2

pub loop-address-preserved : goal.loop-address-preserved
loop-address-preserved c = record {
  split = append_assoc c.loop-address.yielded _ _ ∙ ap (λ rest. c.loop-address.yielded ++ rest) (sym c.in-Some.ensures.steps) ∙ c.loop-address.invariant.split;
  alike = alike_more c.loop-address.yielded c.args.other.now c.in-Some.address c.in-Some.byte c.loop-address.invariant.alike
      (λ second e. no_other c.at.result c.in-Some.byte (sym c.unwrap_or.ensures ∙ c.if-unwrap_or-byte.false) second (c.at.ensures ∙ e));
}

pub returns : goal.returns
returns c =
    let whole = ap (λ rest. c.loop-address.yielded ++ rest) (sym c.in-None.ensures.steps.0) ∙ c.loop-address.invariant.split in
    alike_all c.args.one.now c.args.other.now (subst (λ pairs. AreAlikeIn pairs c.args.other.now) (sym (append-nil c.loop-address.yielded) ∙ whole) c.loop-address.invariant.alike)
