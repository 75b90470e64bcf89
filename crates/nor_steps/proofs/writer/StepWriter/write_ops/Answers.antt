-- The lines of the operations' instructions.
use Rattle.std.proofs.Common.{◌∙◌, sym, subst, ap, length, map, arith}
use Rattle.std.specs.Io.KnownBytes.{Appends}
use Rattle.nor_base.specs.Device.{Cuts}
use Rattle.nor_select.specs.Streamed.{Streaming, next}
use Rattle.nor_select.specs.View.{op_of}
use Rattle.nor_steps.specs.Lines.{lines_out, AreNarrow}
use Rattle.std.proofs.lemmas.List.{length-map}
use Rattle.nor_steps.specs.Writing.{Writing, lines_of}
use Rattle.nor_steps.proofs.LineLemmas.{lines_are, count_is, narrow_are, begins_none, begins_cut, adds_err}
use Rattle.nor_steps.proofs.StreamLemmas.{thin_next, few_next}
use Rattle.nor_steps.proofs.writer.StepWriter.write_ops.Goals as goal

pub returns-in_err-instrs-clause-lines : goal.returns-in_err-instrs-clause-lines
returns-in_err-instrs-clause-lines g c = adds_err _ _ _ _ c.from_residual.ensures.0 (begins_none _ _)

pub take-requires : goal.take-requires
take-requires g c = record { narrow = subst AreNarrow (sym c.deref.ensures.value) (narrow_are c.in_ok-instrs.instrs.items _ c.in_ok-instrs.ensures.instrs (thin_next c.self.inside.lowerer (map op_of c.args.ops.now))) }

pub returns-in_err-take-clause-lines : goal.returns-in_err-take-clause-lines
returns-in_err-take-clause-lines g c =
    let view = ap (λ (w : Writing). w.streaming) c.self.view_is in
    let lines = ap lines_out c.deref.ensures.value ∙ lines_are c.in_ok-instrs.instrs.items _ c.in_ok-instrs.ensures.instrs
    ∙ ap (λ (s : Streaming). lines_of (next s (map op_of c.args.ops.now))) view in
    adds_err _ _ _ _ c.from_residual-in_err-take.ensures.0
    (begins_cut _ _ _ (subst (Cuts (g.W.InstrOut.held c.args.out.now) (g.W.InstrOut.held c.take.new.self)) lines c.in_err-take.ensures.lines))

pub returns-clause-lines : goal.returns-clause-lines
returns-clause-lines g c =
    let view = ap (λ (w : Writing). w.streaming) c.self.view_is in
    let lines = ap lines_out c.deref.ensures.value ∙ lines_are c.in_ok-instrs.instrs.items _ c.in_ok-instrs.ensures.instrs
    ∙ ap (λ (s : Streaming). lines_of (next s (map op_of c.args.ops.now))) view in
    subst (Appends (g.W.InstrOut.held c.args.out.now) (g.W.InstrOut.held c.take.new.self)) lines c.in_ok-take.ensures.lines

pub returns-clause-steps : goal.returns-clause-steps
returns-clause-steps g c =
    let view = ap (λ (w : Writing). w.streaming) c.self.view_is in
    c.len.ensures ∙ sym c.deref.ensures.len ∙ ap length c.deref.ensures.value ∙ count_is c.in_ok-instrs.instrs.items _ c.in_ok-instrs.ensures.instrs ∙ ap (λ (s : Streaming). length (next s (map op_of c.args.ops.now))) view

pub returns-clause-few : goal.returns-clause-few
returns-clause-few g c =
    let count = c.len.ensures ∙ sym c.deref.ensures.len ∙ ap length c.deref.ensures.value ∙ count_is c.in_ok-instrs.instrs.items _ c.in_ok-instrs.ensures.instrs in
    omega (arith, count, few_next c.self.inside.lowerer (map op_of c.args.ops.now), length-map c.args.ops.now op_of)
