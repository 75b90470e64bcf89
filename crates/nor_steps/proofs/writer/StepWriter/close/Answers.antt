-- The lines of what leaves the mode.
use Rattle.std.proofs.Common.{◌∙◌, sym, subst, ap, length, arith}
use Rattle.std.specs.Io.KnownBytes.{Appends}
use Rattle.nor_base.specs.Device.{Cuts}
use Rattle.nor_select.specs.Streamed.{Streaming, last}
use Rattle.nor_steps.specs.Lines.{lines_out, AreNarrow}
use Rattle.nor_steps.specs.Writing.{Writing, lines_of}
use Rattle.nor_steps.proofs.LineLemmas.{lines_are, count_is, narrow_are, begins_none, begins_cut, adds_err}
use Rattle.nor_steps.proofs.StreamLemmas.{thin_last, few_last}
use Rattle.nor_steps.proofs.writer.StepWriter.close.Goals as goal

pub returns-in_err-instrs-clause-lines : goal.returns-in_err-instrs-clause-lines
returns-in_err-instrs-clause-lines g c = adds_err _ _ _ _ c.from_residual.ensures.0 (begins_none _ _)

pub take-requires : goal.take-requires
take-requires g c = record { narrow = subst AreNarrow (sym c.deref.ensures.value) (narrow_are c.in_ok-instrs.instrs.items _ c.in_ok-instrs.ensures (thin_last c.self.inside.lowerer)) }

pub returns-in_err-take-clause-lines : goal.returns-in_err-take-clause-lines
returns-in_err-take-clause-lines g c =
    let view = ap (λ (w : Writing). w.streaming) c.self.view_is in
    let lines = ap lines_out c.deref.ensures.value ∙ lines_are c.in_ok-instrs.instrs.items _ c.in_ok-instrs.ensures ∙ ap (λ (s : Streaming). lines_of (last s)) view in
    adds_err _ _ _ _ c.from_residual-in_err-take.ensures.0
    (begins_cut _ _ _ (subst (Cuts (g.W.InstrOut.held c.args.out.now) (g.W.InstrOut.held c.take.new.self)) lines c.in_err-take.ensures.lines))

pub returns-clause-lines : goal.returns-clause-lines
returns-clause-lines g c =
    let view = ap (λ (w : Writing). w.streaming) c.self.view_is in
    let lines = ap lines_out c.deref.ensures.value ∙ lines_are c.in_ok-instrs.instrs.items _ c.in_ok-instrs.ensures ∙ ap (λ (s : Streaming). lines_of (last s)) view in
    subst (Appends (g.W.InstrOut.held c.args.out.now) (g.W.InstrOut.held c.take.new.self)) lines c.in_ok-take.ensures.lines

pub returns-clause-steps : goal.returns-clause-steps
returns-clause-steps g c =
    let view = ap (λ (w : Writing). w.streaming) c.self.view_is in
    c.len.ensures ∙ sym c.deref.ensures.len ∙ ap length c.deref.ensures.value ∙ count_is c.in_ok-instrs.instrs.items _ c.in_ok-instrs.ensures
    ∙ ap (λ (s : Streaming). length (last s)) view

pub returns-clause-few : goal.returns-clause-few
returns-clause-few g c =
    let count = c.len.ensures ∙ sym c.deref.ensures.len ∙ ap length c.deref.ensures.value ∙ count_is c.in_ok-instrs.instrs.items _ c.in_ok-instrs.ensures in
    omega (arith, count, few_last c.self.inside.lowerer)
