use Rattle.std.proofs.Common.{◌≡◌, ◌∙◌, sym, ap, subst, IfOk}
use Rattle.std.specs.Str.{bytes_eq}
use Rattle.nor_log.specs.declared.line.Said.{Said}
use Rattle.nor_log.proofs.LineLemmas.{text_said}
use Rattle.nor_log.proofs.line.text_says.Goals as goal

pub returns : goal.returns
returns c =
    let said = text_said c.args.text.now (sym c.is_empty.ensures ∙ c.if-is_empty.false) (ap (bytes_eq c.args.text.now) (sym c.as_slice.ensures) ∙ sym c.eq.ensures ∙ c.if-eq.false) in
    subst (λ (s : Said). IfOk c.transaction.result (λ x. x ≡ s)) said (rw (← c.cut.ensures.before, ← c.cut.ensures.after, ← c.in_ok-sent.ensures, ← c.in_ok-answer.ensures) c.transaction.ensures)
