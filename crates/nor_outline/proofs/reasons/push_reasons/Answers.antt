-- Each smallest block starts where the one before it ends.
use Rattle.std.proofs.Common.{◌≡◌, ℕ, ◌+◌, ◌++◌, ◌≤◌, ◌<◌, List, length, sym, ◌∙◌, ap, subst, arith, rules, append-nil}
use Rattle.nor_base.specs.Blocks.{Block, Holds}
use Rattle.nor_base.specs.Parameters.{Parameters}
use Rattle.nor_base.specs.declared.meaning.Strategy.{Strategy}
use Rattle.nor_base.specs.Accepted.{IsAccepted}
use Rattle.nor_base.proofs.RegionLaws.{legal_on_chip}
use Rattle.nor_geometry.specs.Legal.{IsSmallestAt}
use Rattle.nor_geometry.proofs.KindLemmas.{placed}
use Rattle.nor_plan_laws.specs.Able.{BlocksStay}
use Rattle.nor_plan_laws.proofs.Units.Ranges.{length-range}
use Rattle.nor_outline.specs.Parts.{MayErase}
use Rattle.nor_outline.proofs.ReasonLemmas.{IsBorder, IsNextIn, first_border, next_in}
use Rattle.nor_outline.proofs.WalkLemmas.{lines, one_more}
use Rattle.nor_outline.proofs.reasons.push_reasons.Goals as goal

-- the smallest block at the next place
next_at : (m : Parameters) (by : Strategy) (b : Block) (have want : List ℕ) (start done : ℕ) (least : Block) → BlocksStay → IsAccepted m → MayErase m by b
    → length have ≡ length want → length want ≡ b.size → done < length have → start ≡ b.start → IsBorder m (b.start + done) → IsSmallestAt m by (start + done) least
    → IsNextIn m b (b.start + done) least
next_at m by b have want start done least stay accepted may lengths count less starts border is =
    let held : Holds b (b.start + done) = (omega arith, omega arith) in
    next_in m by b (b.start + done) least stay accepted may held border (subst (λ n. IsSmallestAt m by (n + done) least) starts is)

pub loop-done-init : goal.loop-done-init
loop-done-init c =
    let place : c.args.block.start ≡ c.args.block.start + 0 = omega arith in
    let p = placed c.args.meaning.now c.args.block c.acceptance.ensures c.requires.block.legal in
    record {
      upto = omega arith;
      border = subst (IsBorder c.args.meaning.now) place (first_border c.args.meaning.now c.args.block c.acceptance.ensures c.requires.block.legal p.some);
      pushed = sym (append-nil c.args.lines.now.items);
    }

pub overflow_add-start : goal.overflow_add-start
overflow_add-start c =
    let start : c.block.inside.start ≡ c.args.block.start = ap (λ (b : Block). b.start) c.block.view_is in
    let fits = legal_on_chip c.args.meaning.now c.args.block c.acceptance.ensures c.requires.block.legal in
    omega (arith, fits, start, c.acceptance.ensures.size_high)

pub slice_bounds-push_reason-end : goal.slice_bounds-push_reason-end
slice_bounds-push_reason-end c =
    let start : c.block.inside.start ≡ c.args.block.start = ap (λ (b : Block). b.start) c.block.view_is in
    let size : c.least.inside.size ≡ c.in-Some.least.size = ap (λ (b : Block). b.size) c.least.view_is in
    let next = next_at c.args.meaning.now c.args.strategy c.args.block c.args.have.now c.args.want.now c.block.inside.start c.loop-done.done c.in-Some.least c.blocks-2.ensures.blocks
    c.acceptance.ensures c.requires.block c.requires.lengths c.requires.count c.loop-done-test.true start c.loop-done.invariant.border c.in-Some.ensures in
    let upto : c.loop-done.done + c.least.inside.size ≤ length c.args.have.now = omega (arith, next.fits, size) in
    search rules

pub push_reason-requires-clause-inside : goal.push_reason-requires-clause-inside
push_reason-requires-clause-inside c =
    let start : c.block.inside.start ≡ c.args.block.start = ap (λ (b : Block). b.start) c.block.view_is in
    let size : c.least.inside.size ≡ c.in-Some.least.size = ap (λ (b : Block). b.size) c.least.view_is in
    let next = next_at c.args.meaning.now c.args.strategy c.args.block c.args.have.now c.args.want.now c.block.inside.start c.loop-done.done c.in-Some.least c.blocks-2.ensures.blocks
    c.acceptance.ensures c.requires.block c.requires.lengths c.requires.count c.loop-done-test.true start c.loop-done.invariant.border c.in-Some.ensures in
    let upto : c.loop-done.done + c.least.inside.size ≤ length c.args.have.now = omega (arith, next.fits, size) in
    let fits = legal_on_chip c.args.meaning.now c.args.block c.acceptance.ensures c.requires.block.legal in
    omega (arith, fits, start, length-range c.args.have.now c.loop-done.done (c.loop-done.done + c.least.inside.size) (omega arith) upto)

pub loop-done-preserved : goal.loop-done-preserved
loop-done-preserved c =
    let start : c.block.inside.start ≡ c.args.block.start = ap (λ (b : Block). b.start) c.block.view_is in
    let size : c.least.inside.size ≡ c.in-Some.least.size = ap (λ (b : Block). b.size) c.least.view_is in
    let next = next_at c.args.meaning.now c.args.strategy c.args.block c.args.have.now c.args.want.now c.block.inside.start c.loop-done.done c.in-Some.least c.blocks-2.ensures.blocks
    c.acceptance.ensures c.requires.block c.requires.lengths c.requires.count c.loop-done-test.true start c.loop-done.invariant.border c.in-Some.ensures in
    let upto : c.loop-done.done + c.least.inside.size ≤ length c.args.have.now = omega (arith, next.fits, size) in
    let place : (c.args.block.start + c.loop-done.done) + c.in-Some.least.size ≡ c.args.block.start + (c.loop-done.done + c.least.inside.size) = omega (arith, size) in
    record {
      upto = upto;
      border = subst (IsBorder c.args.meaning.now) place next.border;
      pushed = one_more c.args.meaning.now c.args.block c.in-Some.least c.args.have.now c.args.want.now c.block.inside.start c.loop-done.done c.least.inside.size
          c.args.lines.now.items c.loop-done.lines.items c.push_reason.new.lines.items start size upto next
          c.loop-done.invariant.pushed c.in_ok-push_reason.ensures;
    }

pub returns : goal.returns
returns c =
    let all : c.loop-done.done ≡ c.args.block.size = omega (arith, c.loop-done.invariant.upto, c.requires.lengths, c.requires.count) in
    c.loop-done.invariant.pushed
    ∙ ap (λ n. c.args.lines.now.items ++ lines c.args.meaning.now c.args.have.now c.args.want.now c.args.block.start c.args.block.start n) all
