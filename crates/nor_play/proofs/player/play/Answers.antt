-- Each step takes the play further, or ends it.
use Rattle.std.proofs.Common.{◌+◌, ◌++◌, List, [], ◌∷◌, Ok, Err, take, drop, refl, sym, ◌∙◌, subst}
use Rattle.nor_base.specs.declared.step.Step.{Step}
use Rattle.nor_chip.specs.Asked.{AsksMore}
use Rattle.nor_play.specs.Fed.{Player, past}
use Rattle.nor_play.specs.Play.{Plays}
use Rattle.nor_play.specs.Asks.{AsksPlay}
use Rattle.nor_base.proofs.FaultLaws.{answered}
use Rattle.nor_base.proofs.ListLaws.{one_taken}
use Rattle.nor_play.proofs.PlayLemmas.{at_one}
use Rattle.nor_play.proofs.AskLemmas.{HasAsked, nothing_asked}
use Rattle.nor_play.proofs.FedLaws.{IsFed, fed_none, fed_more, fed_more_asks, fed_halts, fed_halts_asks}
use Rattle.nor_play.proofs.player.play.Goals as goal

pub loop-step-init : goal.loop-step-init
loop-step-init g c =
    let shown = g.P.Port.shown c.args.port.now in
    let asked = g.P.Port.asked c.args.port.now in
    record {
      fed = subst (λ (p : Player). IsFed shown shown c.args.limit [] p) (sym c.new-player.ensures) (fed_none shown c.args.limit);
      asked = subst (λ (p : Player). HasAsked shown asked asked c.args.limit [] p.done) (sym c.new-player.ensures) (nothing_asked shown asked c.args.limit);
      count = refl;
    }

pub returns-in_err-step-clause-played : goal.returns-in_err-step-clause-played
returns-in_err-step-clause-played g c =
    let before = g.P.Port.shown c.args.port.now in
    let now = g.P.Port.shown c.loop-step.port in
    let after = g.P.Port.shown c.step.new.port in
    answered c.from_residual.result (Plays before after c.args.limit c.args.steps.now) c.in_err-step.field-0.0
    (subst (λ (l : List Step). Plays before after c.args.limit l (Err c.in_err-step.field-0.0)) (at_one c.args.steps.now c.loop-step.step-index c.step-item.result c.loop-step-test.true c.step-item.is)
    (fed_halts before now after c.args.limit (take c.loop-step.step-index c.args.steps.now) c.loop-step.player c.loop-step.invariant.fed c.step-item.result
    (drop (c.loop-step.step-index + 1) c.args.steps.now) c.in_err-step.field-0.0 c.in_err-step.ensures.played))
    c.from_residual.ensures.1

pub returns-in_err-step-clause-asked : goal.returns-in_err-step-clause-asked
returns-in_err-step-clause-asked g c =
    let before = g.P.Port.shown c.args.port.now in
    let now = g.P.Port.shown c.loop-step.port in
    let after = g.P.Port.shown c.step.new.port in
    let P = g.P.Port.asked c.args.port.now in
    let Q = g.P.Port.asked c.loop-step.port in
    let R = g.P.Port.asked c.step.new.port in
    answered c.from_residual.result (AsksPlay before (AsksMore P R) c.args.limit c.args.steps.now) c.in_err-step.field-0.0
    (subst (λ (l : List Step). AsksPlay before (AsksMore P R) c.args.limit l (Err c.in_err-step.field-0.0)) (at_one c.args.steps.now c.loop-step.step-index c.step-item.result c.loop-step-test.true c.step-item.is)
    (fed_halts_asks before now after c.args.limit (take c.loop-step.step-index c.args.steps.now) c.loop-step.player c.loop-step.invariant.fed c.step-item.result
    (drop (c.loop-step.step-index + 1) c.args.steps.now) c.in_err-step.field-0.0 c.in_err-step.ensures.played P Q R c.loop-step.invariant.asked c.in_err-step.ensures.asked))
    c.from_residual.ensures.1

pub loop-step-preserved : goal.loop-step-preserved
loop-step-preserved g c =
    let before = g.P.Port.shown c.args.port.now in
    let now = g.P.Port.shown c.loop-step.port in
    let after = g.P.Port.shown c.step.new.port in
    let P = g.P.Port.asked c.args.port.now in
    let Q = g.P.Port.asked c.loop-step.port in
    let R = g.P.Port.asked c.step.new.port in
    let front = take c.loop-step.step-index c.args.steps.now in
    let turns = c.in_ok-step.field-0 in
    let taken = one_taken c.args.steps.now c.loop-step.step-index c.step-item.result c.loop-step-test.true c.step-item.is in
    let more = fed_more before now after c.args.limit front c.loop-step.player c.loop-step.invariant.fed c.step-item.result turns c.in_ok-step.ensures.played in
    let asks = fed_more_asks before now after c.args.limit front c.loop-step.player c.loop-step.invariant.fed c.step-item.result P Q R turns c.loop-step.invariant.asked c.in_ok-step.ensures.asked in
    record {
      fed = subst (λ (l : List Step). IsFed before after c.args.limit l c.step.new.self) {x = front ++ c.step-item.result ∷ []} (sym taken)
          (subst (λ (p : Player). IsFed before after c.args.limit (front ++ c.step-item.result ∷ []) p) {x = past c.loop-step.player (Ok turns)} (sym c.in_ok-step.ensures.player) more);
      asked = subst (λ (l : List Step). HasAsked before P R c.args.limit l c.step.new.self.done) {x = front ++ c.step-item.result ∷ []} (sym taken)
          (subst (λ (p : Player). HasAsked before P R c.args.limit (front ++ c.step-item.result ∷ []) p.done) {x = past c.loop-step.player (Ok turns)} (sym c.in_ok-step.ensures.player) asks);
      count = c.in_ok-step.ensures.count ∙ c.loop-step.invariant.count;
    }
