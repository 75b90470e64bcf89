-- The halves are alike, or it goes on otherwise past its end.
use Rattle.std.proofs.Common.{◌∙◌, refl, sym}
use Rattle.norprog_read.specs.End.{Alike, Lost, Other}
use Rattle.norprog_read.proofs.EndLemmas.{none_of}
use Rattle.norprog_read.proofs.end.see_end.Goals as goal

pub returns-then-repeats-clause-stops : goal.returns-then-repeats-clause-stops
returns-then-repeats-clause-stops g c =
    Alike (none_of c.args.ask.now.near (sym c.is_some.ensures ∙ c.if-is_some.false)) refl c.if-not-ask.true (c.repeats.ensures.0 c.if-repeats.true)

pub returns-in-Err-Exchange-clause-stops : goal.returns-in-Err-Exchange-clause-stops
returns-in-Err-Exchange-clause-stops g c =
    Lost c.in-Err-Exchange.why (none_of c.args.ask.now.near (sym c.is_some.ensures ∙ c.if-is_some.false)) c.if-ask.false
    (rw c.in-Err-Exchange.field-0-is at c.in-Err-Exchange.ensures.past)

pub returns-in-Err-Differs-clause-stops : goal.returns-in-Err-Differs-clause-stops
returns-in-Err-Differs-clause-stops g c =
    Other c.in-Err-Differs.d (none_of c.args.ask.now.near (sym c.is_some.ensures ∙ c.if-is_some.false)) c.if-ask.false
    (rw c.in-Err-Differs.field-0-is at c.in-Err-Differs.ensures.past)
