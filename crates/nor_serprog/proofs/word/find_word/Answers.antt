-- Byte by byte.
use Rattle.std.proofs.Common.{refl, sym, ◌∙◌, arith}
use Rattle.nor_base.specs.Wire.{wire}
use Rattle.nor_serprog.specs.Greeting.{Finds}
use Rattle.nor_base.proofs.FaultLaws.{answered}
use Rattle.nor_serprog.proofs.WordLemmas.{begins, hears, tries_again, found, differs, silent, stops_hearing, stops_trying}
use Rattle.nor_serprog.proofs.word.find_word.Goals as goal
use Rattle.nor_serprog.proofs.word.find_word.Goals.{in-Some+else-ends_word, in-None+else-tries-eq-TRIES+in_ok-put_try-in-None}

pub loop-init : goal.loop-init
loop-init g c = record { listening = begins (g.R.ByteIn.ahead c.args.from.now) c.in_ok-put_try.ensures.tries; reads = refl; writes = c.in_ok-put_try.ensures.writes }

pub returns-in_err-byte-clause-word : goal.returns-in_err-byte-clause-word
returns-in_err-byte-clause-word g c =
    let why = c.in_err-byte.field-0.0 in
    answered c.from_residual-in_err-byte.result
    (λ r. Finds (wire (g.W.ByteOut.held c.args.to.now) (g.R.ByteIn.ahead c.args.from.now)) (wire (g.W.ByteOut.held c.loop.to) (g.R.ByteIn.ahead c.take_byte.new.from)) r)
    why (stops_hearing _ c.loop.tries c.loop.last c.loop.counter why c.loop.invariant.listening c.in_err-byte.ensures.hears) c.from_residual-in_err-byte.ensures.1

pub returns-then-ends_word-clause-word : goal.returns-then-ends_word-clause-word
returns-then-ends_word-clause-word g c =
    found _ c.loop.tries c.loop.last c.loop.counter c.in-Some.byte c.in_ok-byte.field-0 c.in-Some.is c.loop.invariant.listening c.in_ok-byte.ensures.hears (sym c.ends_word.ensures ∙ c.if-ends_word.true)

pub returns-then-tries-eq-TRIES-clause-word : goal.returns-then-tries-eq-TRIES-clause-word
returns-then-tries-eq-TRIES-clause-word g c =
    silent _ c.loop.tries c.loop.last c.loop.counter c.in_ok-byte.field-0 c.in-None.is c.if-tries-eq-TRIES.true c.loop.invariant.listening c.in_ok-byte.ensures.hears

pub returns-in_err-put_try-in-None-clause-word : goal.returns-in_err-put_try-in-None-clause-word
returns-in_err-put_try-in-None-clause-word g c =
    let why = c.in_err-put_try-in-None.field-0.0 in
    answered c.from_residual-in_err-put_try-in-None.result
    (λ r. Finds (wire (g.W.ByteOut.held c.args.to.now) (g.R.ByteIn.ahead c.args.from.now)) (wire (g.W.ByteOut.held c.put_try-in-None.new.to) (g.R.ByteIn.ahead c.take_byte.new.from)) r)
    why (stops_trying _ _ c.loop.tries c.loop.last c.loop.counter c.in_ok-byte.field-0 why c.in-None.is c.if-tries-eq-TRIES.false c.loop.invariant.listening
    c.in_ok-byte.ensures.hears c.in_err-put_try-in-None.ensures.tries) c.from_residual-in_err-put_try-in-None.ensures.1

pub overflow_add-tries : goal.overflow_add-tries
overflow_add-tries g c = omega (arith, c.loop.invariant.listening.few)

pub loop-preserved : goal.loop-preserved
loop-preserved g c = elim c.match-branch-3.branch [
  | in-Some+else-ends_word w ↦
      rw (w.to-is, w.tries-is, w.last-is) (record {
        listening = hears _ c.loop.tries c.loop.last c.loop.counter w.in-Some.byte c.in_ok-byte.field-0 w.in-Some.is c.loop.invariant.listening c.in_ok-byte.ensures.hears (sym w.ends_word.ensures ∙ w.if-ends_word.false);
        reads = c.in_ok-byte.ensures.reads ∙ c.loop.invariant.reads;
        writes = c.loop.invariant.writes;
      })
  | in-None+else-tries-eq-TRIES+in_ok-put_try-in-None w ↦
      rw (w.to-is, w.tries-is, w.last-is) (record {
        listening = tries_again _ _ c.loop.tries c.loop.last c.loop.counter c.in_ok-byte.field-0 w.in-None.is w.if-tries-eq-TRIES.false c.loop.invariant.listening c.in_ok-byte.ensures.hears w.in_ok-put_try-in-None.ensures.tries;
        reads = c.in_ok-byte.ensures.reads ∙ c.loop.invariant.reads;
        writes = w.in_ok-put_try-in-None.ensures.writes ∙ c.loop.invariant.writes;
      })
]

pub returns-clause-word : goal.returns-clause-word
returns-clause-word g c = differs c.loop.tries c.loop.last c.loop.counter (omega (arith, c.loop-test.false)) c.loop.invariant.listening
