-- What is asked for.
use Rattle.std.proofs.Common.{ℕ, sym, ap, subst}
use Rattle.nor_base.specs.Parameters.{Parameters}
use Rattle.norprog_read.specs.Span.{span, windows_around, All, Around, IsPart, Nothing}
use Rattle.norprog_read.proofs.span.part_of.Goals as goal

pub returns-then-not-ask-clause-part : goal.returns-then-not-ask-clause-part
returns-then-not-ask-clause-part c = Nothing c.if-not-ask.true

pub returns-in-None-clause-part : goal.returns-in-None-clause-part
returns-in-None-clause-part c =
    subst (λ (n : ℕ). IsPart c.args.ask.now c.args.meaning.now (span 0 n)) (sym (ap (λ (m : Parameters). m.size) c.meaning.view_is))
    (All c.if-not-ask.false c.in-None.is)

pub returns-in-Some-clause-part : goal.returns-in-Some-clause-part
returns-in-Some-clause-part c =
    let window = c.wide_window.result in
    rw c.windows_around.ensures.is
    (subst (λ (n : ℕ). IsPart c.args.ask.now c.args.meaning.now (windows_around c.in-Some.near window n)) (sym (ap (λ (m : Parameters). m.size) c.meaning.view_is))
    (Around c.in-Some.near window c.if-not-ask.false c.in-Some.is c.wide_window.ensures.size))
