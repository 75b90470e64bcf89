-- From the first byte that isn't FFh on, in the first half or in the second.
use Rattle.std.proofs.Common.{◌+◌, ◌-◌, ◌/◌, length, arith, inl, inr, refl}
use Rattle.std.proofs.lemmas.Bool.{cases_lt}
use Rattle.norprog_read.specs.Span.{part_in}
use Rattle.norprog_read.proofs.EndLemmas.{blank, found, is_away}
use Rattle.norprog_read.proofs.end.away_from.Goals as goal

pub returns-in-None : goal.returns-in-None
returns-in-None c = blank (part_in c.args.part c.args.content.now) c.in-None.ensures

pub returns-then-first-half : goal.returns-then-first-half
returns-then-first-half c =
    let content = c.args.content.now in
    let part = c.args.part in
    let from = part.low + c.in-Some.place in
    let end = c.min-end.ensures in
    let more = found content part c.in-Some.place c.requires.part.0 c.requires.part.1 c.in-Some.ensures in
    is_away content part c.in-Some.place c.requires.part.0 c.requires.part.1 c.in-Some.ensures c.min-end.result (from + length content / 2)
    (omega (arith, more, end, c.if-first-half.true)) (omega (arith, end))
    (elim (cases_lt part.high (length content / 2)) [ inl below ↦ inl (omega (arith, below, end)) | inr past ↦ inr (omega (arith, past, end)) ])
    (inl refl) (omega (arith, end, c.if-first-half.true))

pub returns-else-first-half : goal.returns-else-first-half
returns-else-first-half c =
    let content = c.args.content.now in
    let part = c.args.part in
    let from = part.low + c.in-Some.place in
    let more = found content part c.in-Some.place c.requires.part.0 c.requires.part.1 c.in-Some.ensures in
    is_away content part c.in-Some.place c.requires.part.0 c.requires.part.1 c.in-Some.ensures part.high (from - length content / 2)
    more (omega arith) (inl refl) (inr (omega (arith, c.if-first-half.false))) (omega (arith, more, c.requires.part.1, c.if-first-half.false))
