-- One row more.
use Rattle.std.proofs.Common.{◌≡◌, ◌++◌, ◌+◌, ◌-◌, List, [], length, refl, sym, ◌∙◌, ap, subst, append_assoc, arith, length-append}
use Rattle.std.specs.Prelude.{All}
use Rattle.nor_base.specs.declared.step.Step.{Step}
use Rattle.nor_base.specs.Wire.{wire}
use Rattle.nor_serprog.specs.declared.halt.Halt.{Halt}
use Rattle.nor_serprog.specs.Done.{IsDoable}
use Rattle.nor_serprog.specs.Row.{HasHalted}
use Rattle.nor_flasher.proofs.StepsLemmas.{all_first, all_second, in_two}
use Rattle.nor_flasher.proofs.steps.do_part.Goals as goal

pub row_length-requires-clause-form : goal.row_length-requires-clause-form
row_length-requires-clause-form g c =
    let does = c.loop-rest.invariant.does in
    all_second IsDoable does.0 c.loop-rest.rest.now (subst (All IsDoable) does.1 c.requires.form)

pub do_row-requires-clause-form : goal.do_row-requires-clause-form
do_row-requires-clause-form g c =
    let does = c.loop-rest.invariant.does in
    let row = c.split_at.result.0.now in
    let later = c.split_at.result.1.now in
    let two = in_two c.loop-rest.rest.now row later c.row_length.result c.split_at.ensures.front c.split_at.ensures.back in
    all_first IsDoable row later (subst (All IsDoable) two (all_second IsDoable does.0 c.loop-rest.rest.now (subst (All IsDoable) does.1 c.requires.form)))

pub returns-in-Err-clause-done : goal.returns-in-Err-clause-done
returns-in-Err-clause-done g c =
    let does = c.loop-rest.invariant.does in
    let row = c.split_at.result.0.now in
    let later = c.split_at.result.1.now in
    let two = in_two c.loop-rest.rest.now row later c.row_length.result c.split_at.ensures.front c.split_at.ensures.back in
    let whole : c.args.steps.now ≡ does.0 ++ (row ++ later) = does.1 ∙ ap (λ (l : List Step). does.0 ++ l) two in
    let long : length c.args.steps.now ≡ length does.0 + length c.loop-rest.rest.now = ap length does.1 ∙ length-append does.0 c.loop-rest.rest.now in
    let halt : Halt = record { step = length c.args.steps.now - length c.loop-rest.rest.now + c.in-Err.halt.step; why = c.in-Err.halt.why } in
    subst (λ (l : List Step). HasHalted (wire (g.W.ByteOut.held c.args.to.now) (g.R.ByteIn.ahead c.args.from.now)) (wire (g.W.ByteOut.held c.do_row.new.to) (g.R.ByteIn.ahead c.do_row.new.from))
    c.args.limits.now c.args.turns l halt) (sym whole)
    (c.rows.ensures.halts _ _ _ _ _ _ c.args.limits.now c.args.turns does.0 row later c.in-Err.halt halt does.2 c.in-Err.ensures.done (omega (arith, long)) refl)

pub loop-rest-preserved : goal.loop-rest-preserved
loop-rest-preserved g c =
    let does = c.loop-rest.invariant.does in
    let row = c.split_at.result.0.now in
    let later = c.split_at.result.1.now in
    let two = in_two c.loop-rest.rest.now row later c.row_length.result c.split_at.ensures.front c.split_at.ensures.back in
    record {
      does = (
        does.0 ++ row,
        does.1 ∙ ap (λ (l : List Step). does.0 ++ l) two ∙ sym (append_assoc does.0 row later),
        c.rows.ensures.parts _ _ _ _ _ _ c.args.limits.now c.args.turns does.0 row does.2 c.in_default.ensures.done,
      );
      reads = c.in_default.ensures.counts.0 ∙ c.loop-rest.invariant.reads;
      writes = c.in_default.ensures.counts.1 ∙ c.loop-rest.invariant.writes;
    }

pub loop-rest-init : goal.loop-rest-init
loop-rest-init g c = record {
  does = ([], refl, (refl, refl));
  reads = refl;
  writes = refl;
}
