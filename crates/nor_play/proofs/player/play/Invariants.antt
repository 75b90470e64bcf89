-- The steps so far were fed.
use Rattle.std.proofs.Common.{◌≡◌, take}
use Rattle.nor_play.proofs.AskLemmas.{HasAsked}
use Rattle.nor_play.proofs.FedLaws.{IsFed}
use Rattle.nor_play.proofs.player.play.Given as goal

abbrev pub invariant-loop-step : goal.invariant-loop-step
invariant-loop-step g l = record {
  fed : IsFed (g.P.Port.shown l.fn.port) (g.P.Port.shown l.port) l.limit (take l.step-index l.steps) l.player;
  asked : HasAsked (g.P.Port.shown l.fn.port) (g.P.Port.asked l.fn.port) (g.P.Port.asked l.port) l.limit (take l.step-index l.steps) l.player.done;
  count : g.P.Port.count l.port ≡ g.P.Port.count l.fn.port;
}
