-- A plan of a content in memory.
use Rattle.std.proofs.Common.{◌∙◌, inl, inr, ap, length}
use Rattle.norprog_flash.proofs.BuiltLemmas.{plan_in}
use Rattle.norprog_flash.proofs.RefusedLemmas.{not_late, reported}
use Rattle.norprog_flash.proofs.planned.plan_lines.Goals as goal

pub returns-in-Ok-clause-plan : goal.returns-in-Ok-clause-plan
returns-in-Ok-clause-plan c =
    plan_in c.args.inputs.now c.args.content.now _ _ _ _ _ c.in-Ok.report (ap (λ r. r.now) c.new-reader.ensures.inner)
    (ap (λ v. v.items) c.new-lines.ensures.inner ∙ c.new.ensures.items) (ap (λ v. v.items) c.into_inner.ensures) c.in-Ok.ensures.planned

pub returns-in-Err-clause-stops : goal.returns-in-Err-clause-stops
returns-in-Err-clause-stops c =
    elim c.in-Err.ensures.refused [
      | inl refused ↦ inr (c.late.ensures ∙ not_late c.args.inputs.now (length c.args.content.now) c.in-Err.why refused.0)
      | inr stops ↦ inl (reported c.args.inputs.now c.args.content.now _ _ _ _ c.in-Err.why c.late.result (ap (λ r. r.now) c.new-reader.ensures.inner) c.late.ensures stops)
    ]
