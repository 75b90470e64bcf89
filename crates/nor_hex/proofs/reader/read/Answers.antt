use Rattle.std.proofs.Common.{◌≡◌, ◌+◌, true, false, sym, ap, ◌∙◌, length, take, drop, ◌-◌, arith, rules}
use Rattle.std.proofs.lemmas.Result.{err_from_is_err_and}
use Rattle.nor_hex.specs.Faults.{is_end}
use Rattle.nor_hex.specs.Segments.{pairs_of}
use Rattle.nor_hex.proofs.AcceptLemmas.{only_memory, refused_for_memory}
use Rattle.nor_hex.proofs.FaultLemmas.{read_at, read_none, read_more, seen_more, read_all, lacks_end, after_end, conflict, no_record, line_of_record}
use Rattle.nor_hex.proofs.PieceLemmas.{single, pieces_none, gives_none}
use Rattle.nor_hex.proofs.ViewLemmas.{increasing, rising, held_from_byte, byte_from_held}
use Rattle.nor_hex.proofs.reader.read.Goals as goal

pub loop-number-init : goal.loop-number-init
loop-number-init c = record {
  pieces = pieces_none c.new.result c.new-2.result.items c.new.ensures.empty;
  read = rw (c.into_iter-number-iterator.ensures.into_iter_gives, c.filled-number-items.ensures) (read_none c.args.text.now _ (gives_none c.new.result c.new-2.result.items c.new.ensures.empty));
}

pub returns-then-ended-clause-fault : goal.returns-then-ended-clause-fault
returns-then-ended-clause-fault c = λ real.
    after_end c.args.text.now _ _ _ _ _ (read_at _ _ _ _ _ _ _ true c.in-Some.ensures.steps c.if-ended.true c.loop-number.invariant.read)

pub returns-then-ended-clause-accepted : goal.returns-then-ended-clause-accepted
returns-then-ended-clause-accepted c = λ records accepted.
    only_memory c.args.text.now records _ accepted (returns-then-ended-clause-fault c)

pub returns-in_err-record-clause-fault : goal.returns-in_err-record-clause-fault
returns-in_err-record-clause-fault c =
    let p = err_from_is_err_and c.from_residual.result c.from_residual.ensures.1 in
    rw (p.1, p.2) (λ real. no_record c.args.text.now _ _ _ _ _ c.in_err-record.field-0.0 (read_at _ _ _ _ _ _ _ false c.in-Some.ensures.steps c.if-ended.false c.loop-number.invariant.read) (sym c.in_err-record.ensures.line))

pub returns-in_err-record-clause-accepted : goal.returns-in_err-record-clause-accepted
returns-in_err-record-clause-accepted c = λ records accepted.
    refused_for_memory c.args.text.now records c.from_residual.result accepted (returns-in_err-record-clause-fault c)

pub add_record-requires : goal.add_record-requires
add_record-requires c =
    let n : 4 + c.len.result - 4 ≡ length c.in_ok-record.record.bytes = omega arith in
    record { bytes = (ap (λ n. take n (drop 4 c.record_in.new.bytes)) n ∙ c.in_ok-record.ensures.bytes, search rules, search rules) }

pub returns-in_err-base-clause-fault : goal.returns-in_err-base-clause-fault
returns-in_err-base-clause-fault c =
    let p = err_from_is_err_and c.from_residual-in_err-base.result c.from_residual-in_err-base.ensures.1 in
    rw (p.1, p.2) (λ real.
    rw (c.in_err-base.ensures.line real)
    (conflict c.args.text.now _ _ _ _ _ c.in_ok-record.record c.in_ok-record.record.line (read_at _ _ _ _ _ _ _ false c.in-Some.ensures.steps c.if-ended.false c.loop-number.invariant.read) (sym c.in_ok-record.ensures.line) (line_of_record c.in-Some.number c.in-Some.line.now c.in_ok-record.record (sym c.in_ok-record.ensures.line)) (c.in_err-base.ensures.clash real)))

pub returns-in_err-base-clause-accepted : goal.returns-in_err-base-clause-accepted
returns-in_err-base-clause-accepted c = λ records accepted.
    refused_for_memory c.args.text.now records c.from_residual-in_err-base.result accepted (returns-in_err-base-clause-fault c)

pub loop-number-preserved : goal.loop-number-preserved
loop-number-preserved c =
    record {
      pieces = c.in_ok-base.ensures.pieces;
      read = seen_more (λ line. (line.0, line.1.now)) c.args.text.now c.loop-number.yielded (c.in-Some.number, c.in-Some.line) _ _ _ _
          (read_more c.args.text.now _ _ _ _ _ _ _ c.in_ok-record.record _ (read_at _ _ _ _ _ _ _ false c.in-Some.ensures.steps c.if-ended.false c.loop-number.invariant.read) (sym c.in_ok-record.ensures.line) c.in_ok-base.ensures.bytes (single _ _ c.in_ok-base.ensures.pieces) c.in_ok-base.ensures.base (ap is_end c.record.view_is));
    }

pub returns-then-not-ended-clause-fault : goal.returns-then-not-ended-clause-fault
returns-then-not-ended-clause-fault c = λ real.
    (ap (λ n. n + 1) c.line_count.ensures.count, lacks_end c.args.text.now _ _ _ (read_at _ _ _ _ _ _ _ false c.in-None.ensures.steps.0 c.if-not-ended.true c.loop-number.invariant.read))

pub returns-then-not-ended-clause-accepted : goal.returns-then-not-ended-clause-accepted
returns-then-not-ended-clause-accepted c = λ records accepted.
    only_memory c.args.text.now records _ accepted (returns-then-not-ended-clause-fault c)

pub returns-clause-image : goal.returns-clause-image
returns-clause-image c =
    let made = c.in_ok-joined.field-0 in
    read_all c.args.text.now _ _ _ (pairs_of made.list.items made.bytes.items) (read_at _ _ _ _ _ _ _ true c.in-None.ensures.steps.0 c.if-not-ended.false c.loop-number.invariant.read)
    (increasing 0 (pairs_of made.list.items made.bytes.items) (rising 0 made.list.items made.bytes.items made.right (λ s e. omega arith)))
    (λ address byte e. c.in_ok-joined.ensures.given address byte (held_from_byte made.list.items made.bytes.items address byte made.right e))
    (λ address byte e. byte_from_held made.list.items made.bytes.items address byte made.right (c.in_ok-joined.ensures.kept address byte e))
