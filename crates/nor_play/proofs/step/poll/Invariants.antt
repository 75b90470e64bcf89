-- Each turn so far said busy.
use Rattle.std.proofs.Common.{◌≡◌, length}
use Rattle.nor_play.proofs.PollLemmas.{IsPolling}
use Rattle.nor_play.proofs.AskLemmas.{IsAsking}
use Rattle.nor_play.proofs.step.poll.Given as goal

abbrev pub invariant-loop-turn : goal.invariant-loop-turn
invariant-loop-turn g l = record {
  polling : IsPolling (g.P.Port.shown l.fn.port) (g.P.Port.shown l.port) l.limit l.turn;
  asking : IsAsking (g.P.Port.shown l.fn.port) (g.P.Port.shown l.port) (g.P.Port.asked l.fn.port) (g.P.Port.asked l.port) l.limit l.turn;
  count : g.P.Port.count l.port ≡ g.P.Port.count l.fn.port;
  room : length l.out ≡ 1;
}
