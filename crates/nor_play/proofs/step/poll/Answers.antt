-- The turns of a poll.
use Rattle.std.proofs.Common.{◌≡◌, ◌%◌, ◌≢◌, get_or, true, refl, rules, arith, ◌∙◌, sym, subst}
use Rattle.std.specs.Str.{bytes_eq}
use Rattle.nor_base.specs.declared.step.Step.TheVariants.{Poll}
use Rattle.nor_base.specs.Run.{poll_clocks}
use Rattle.nor_play.specs.Halt.{halt_of}
use Rattle.nor_play.specs.Turns.{PlaysStep}
use Rattle.nor_play.proofs.PollLemmas.{IsPolling, waits, goes_on, ends, halts, never, idle_says, busy_says}
use Rattle.nor_base.proofs.FaultLaws.{answered}
use Rattle.nor_play.proofs.StepLemmas.{poll_unknown}
use Rattle.nor_chip.specs.Asked.{AsksMore}
use Rattle.nor_play.specs.Asks.{AsksStep}
use Rattle.nor_play.proofs.AskLemmas.{IsAsking, waits_asking, asks_on, asks_enough, asks_halts, asks_all, poll_none, as_many, never_asked}
use Rattle.nor_play.proofs.step.poll.Goals as goal

pub returns-then-ne-clause-played : goal.returns-then-ne-clause-played
returns-then-ne-clause-played g c = poll_unknown _ c.args.limit c.args.clocks.now (search rules)

pub loop-turn-init : goal.loop-turn-init
loop-turn-init g c = record {
  polling = waits (g.P.Port.shown c.args.port.now) (g.P.Port.shown c.wait_busy-waited.new.self) c.args.limit c.wait_busy-waited.result c.wait_busy-waited.ensures.waited;
  asking = waits_asking (g.P.Port.shown c.args.port.now) (g.P.Port.shown c.wait_busy-waited.new.self) (g.P.Port.asked c.args.port.now)
      (g.P.Port.asked c.wait_busy-waited.new.self) c.args.limit c.wait_busy-waited.result c.wait_busy-waited.ensures.waited c.wait_busy-waited.ensures.asked;
  count = c.wait_busy-waited.ensures.count;
  room = refl;
}

pub returns-in_err-transact-clause-played : goal.returns-in_err-transact-clause-played
returns-in_err-transact-clause-played g c =
    let is : bytes_eq c.args.clocks.now poll_clocks ≡ true = search rules in
    answered c.from_residual.result (PlaysStep (g.P.Port.shown c.args.port.now) (g.P.Port.shown c.transact.new.self) c.args.limit (Poll c.args.clocks.now)) (halt_of c.in_err-transact.field-0.0)
    (halts _ _ _ c.args.limit c.loop-turn.turn c.loop-turn.invariant.polling c.loop-turn-test.true c.args.clocks.now _ c.in_err-transact.field-0.0 is c.in_err-transact.ensures.effect)
    c.from_residual.ensures.1

pub returns-then-out-eq0-clause-played : goal.returns-then-out-eq0-clause-played
returns-then-out-eq0-clause-played g c =
    let is : bytes_eq c.args.clocks.now poll_clocks ≡ true = search rules in
    let even : get_or c.transact.new.out 0 0 % 2 ≡ 0 = search rules in
    ends _ _ _ c.args.limit c.loop-turn.turn c.loop-turn.invariant.polling c.loop-turn-test.true c.transact.new.out c.in_ok-transact.ensures.effect.1 c.in_ok-transact.ensures.effect.0
    c.args.clocks.now is (idle_says c.transact.new.out even)

pub loop-turn-preserved : goal.loop-turn-preserved
loop-turn-preserved g c =
    let odd : get_or c.transact.new.out 0 0 % 2 ≢ 0 = search rules in
    record {
      polling = goes_on _ _ _ c.args.limit c.loop-turn.turn c.loop-turn.invariant.polling c.loop-turn-test.true c.transact.new.out c.in_ok-transact.ensures.effect.1
          c.in_ok-transact.ensures.effect.0 (busy_says c.transact.new.out odd);
      asking = asks_on (g.P.Port.shown c.args.port.now) (g.P.Port.shown c.loop-turn.port)
          (g.P.Port.shown c.transact.new.self) (g.P.Port.asked c.args.port.now) (g.P.Port.asked c.loop-turn.port) (g.P.Port.asked c.transact.new.self) c.args.limit c.loop-turn.turn c.loop-turn.invariant.polling c.loop-turn.invariant.asking c.loop-turn-test.true c.transact.new.out
          c.in_ok-transact.ensures.effect.0 c.in_ok-transact.ensures.asked (busy_says c.transact.new.out odd);
      count = c.in_ok-transact.ensures.count ∙ c.loop-turn.invariant.count;
      room = search rules;
    }

pub returns-clause-played : goal.returns-clause-played
returns-clause-played g c =
    let is : bytes_eq c.args.clocks.now poll_clocks ≡ true = search rules in
    let all : c.loop-turn.turn ≡ c.args.limit = omega (arith, c.loop-turn-test.false, c.loop-turn.auto.turn-end c.wait_busy-waited.ensures.waited.few) in
    never _ _ c.args.limit c.args.clocks.now (subst (IsPolling (g.P.Port.shown c.args.port.now) (g.P.Port.shown c.loop-turn.port) c.args.limit) all c.loop-turn.invariant.polling) is

pub returns-then-ne-clause-asked : goal.returns-then-ne-clause-asked
returns-then-ne-clause-asked g c =
    as_many (g.P.Port.asked c.args.port.now) (g.P.Port.asked c.args.port.now) 0 _ (sym (poll_none (g.P.Port.shown c.args.port.now) c.args.limit c.args.clocks.now (search rules))) (never_asked (g.P.Port.asked c.args.port.now))

pub returns-in_err-transact-clause-asked : goal.returns-in_err-transact-clause-asked
returns-in_err-transact-clause-asked g c =
    let is : bytes_eq c.args.clocks.now poll_clocks ≡ true = search rules in
    answered c.from_residual.result
    (AsksStep (g.P.Port.shown c.args.port.now) (AsksMore (g.P.Port.asked c.args.port.now) (g.P.Port.asked c.transact.new.self)) c.args.limit (Poll c.args.clocks.now))
    (halt_of c.in_err-transact.field-0.0)
    (asks_halts (g.P.Port.shown c.args.port.now) (g.P.Port.shown c.loop-turn.port) (g.P.Port.shown c.transact.new.self) (g.P.Port.asked c.args.port.now) (g.P.Port.asked c.loop-turn.port) (g.P.Port.asked c.transact.new.self) c.args.limit c.loop-turn.turn c.loop-turn.invariant.polling c.loop-turn.invariant.asking c.loop-turn-test.true
    c.args.clocks.now _ c.in_err-transact.field-0.0 is c.in_err-transact.ensures.effect c.in_err-transact.ensures.asked) c.from_residual.ensures.1

pub returns-then-out-eq0-clause-asked : goal.returns-then-out-eq0-clause-asked
returns-then-out-eq0-clause-asked g c =
    let is : bytes_eq c.args.clocks.now poll_clocks ≡ true = search rules in
    let even : get_or c.transact.new.out 0 0 % 2 ≡ 0 = search rules in
    asks_enough (g.P.Port.shown c.args.port.now) (g.P.Port.shown c.loop-turn.port) (g.P.Port.shown c.transact.new.self) (g.P.Port.asked c.args.port.now) (g.P.Port.asked c.loop-turn.port) (g.P.Port.asked c.transact.new.self) c.args.limit c.loop-turn.turn c.loop-turn.invariant.polling c.loop-turn.invariant.asking c.loop-turn-test.true c.transact.new.out
    c.in_ok-transact.ensures.effect.0 c.in_ok-transact.ensures.asked c.args.clocks.now is (idle_says c.transact.new.out even)

pub returns-clause-asked : goal.returns-clause-asked
returns-clause-asked g c =
    let is : bytes_eq c.args.clocks.now poll_clocks ≡ true = search rules in
    let all : c.loop-turn.turn ≡ c.args.limit = omega (arith, c.loop-turn-test.false, c.loop-turn.auto.turn-end c.wait_busy-waited.ensures.waited.few) in
    asks_all (g.P.Port.shown c.args.port.now) (g.P.Port.shown c.loop-turn.port) (g.P.Port.asked c.args.port.now) (g.P.Port.asked c.loop-turn.port) c.args.limit c.args.clocks.now
    (subst (IsAsking (g.P.Port.shown c.args.port.now) (g.P.Port.shown c.loop-turn.port) (g.P.Port.asked c.args.port.now) (g.P.Port.asked c.loop-turn.port) c.args.limit) all
    c.loop-turn.invariant.asking) is
