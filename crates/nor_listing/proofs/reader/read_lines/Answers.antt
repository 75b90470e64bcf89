-- One line more.
use Rattle.std.proofs.Common.{◌≡◌, ◌<◌, ◌^◌, List, ◌++◌, ◌∷◌, [], length, rules, refl, sym, ◌∙◌, ap, subst, arith}
use Rattle.nor_base.specs.declared.step.Step.{Step}
use Rattle.nor_listing.specs.Read.{mode_through}
use Rattle.nor_listing.specs.Told.{SaysLine, SaysNoLine, AreRead}
use Rattle.nor_listing.proofs.FeedLemmas.{at_end, at_line}
use Rattle.nor_listing.proofs.ReadLemmas.{none_read, one_read, mode_read}
use Rattle.nor_listing.proofs.reader.read_lines.Goals as goal

pub loop-line-init : goal.loop-line-init
loop-line-init c = record {
  read = none_read c.args.meaning.now c.args.first c.args.text.now c.args.steps.now.items c.args.text.now c.requires refl;
  mode = ap (mode_through c.args.meaning.now c.args.first) (sym c.requires);
}

pub loop-line-preserved : goal.loop-line-preserved
loop-line-preserved c =
    let m = c.args.meaning.now in
    let steps = c.loop-line.steps.items in
    let read = c.in-Some-2.read in
    let x = read.step in
    let count : c.len.result ≡ length steps = omega (arith, c.loop-line.steps.ok.0) in
    let says : SaysLine m c.len.result c.loop-line.mode4 c.in-Some.line.now read = search rules in
    let here : SaysLine m (length steps) c.loop-line.mode4 c.in-Some.line.now read =
    subst (λ n. SaysLine m n c.loop-line.mode4 c.in-Some.line.now read) count says in
    let more : c.push.new.self.items ≡ steps ++ x ∷ [] = c.in_ok-push.ensures.items in
    record {
      read = subst (λ (l : List Step). AreRead m c.args.first c.args.text.now l c.in-Some.more.now) (sym more)
          (one_read m c.args.first c.args.text.now steps c.loop-line.rest.now read c.loop-line.mode4 c.in-Some.line.now c.in-Some.more.now
          c.loop-line.invariant.read c.loop-line.invariant.mode c.in-Some.ensures.whole here);
      mode = mode_read m c.args.first c.args.text.now steps c.loop-line.rest.now read c.loop-line.mode4 c.in-Some.line.now c.loop-line.invariant.mode here
          ∙ ap (mode_through m c.args.first) (sym more);
    }

pub returns-in_default-2-clause-last : goal.returns-in_default-2-clause-last
returns-in_default-2-clause-last c =
    let m = c.args.meaning.now in
    let steps = c.loop-line.steps.items in
    let count : c.len.result ≡ length steps = omega (arith, c.loop-line.steps.ok.0) in
    let fits : c.len.result < 2 ^ 64 = omega (arith, c.loop-line.steps.ok.0) in
    let none : SaysNoLine m c.len.result c.loop-line.mode4 c.in-Some.line.now = rw c.in_default-2.is at c.in_ok-read.ensures in
    at_line m c.len.result (length steps) c.loop-line.mode4 (mode_through m c.args.first steps) c.loop-line.rest.now c.in-Some.line.now c.in-Some.more.now
    count c.loop-line.invariant.mode fits c.in-Some.ensures none

pub returns-clause-last : goal.returns-clause-last
returns-clause-last c =
    at_end c.args.meaning.now (length c.loop-line.steps.items) (mode_through c.args.meaning.now c.args.first c.loop-line.steps.items) c.loop-line.rest.now c.in_default.ensures
