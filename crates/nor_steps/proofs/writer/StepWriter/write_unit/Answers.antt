-- By the unit: a block's steps, or a page's programs and its reads.
use Rattle.std.proofs.Common.{true, false, Ok, length, ◌+◌, ◌∙◌, sym, ap, subst, arith, rules}
use Rattle.std.specs.Io.KnownBytes.{Appends}
use Rattle.nor_base.specs.Parameters.{Parameters}
use Rattle.nor_geometry.specs.declared.unit.PlanUnit.{PlanUnit}
use Rattle.nor_pages.specs.Runs.{IsUnit, IsSplit}
use Rattle.nor_select.specs.Streamed.{next}
use Rattle.nor_steps.specs.Units.{run_ops, page_ops, Wrote}
use Rattle.nor_steps.specs.Writing.{Writing, Begins, next_lines, written_on, output}
use Rattle.nor_steps.proofs.OpLemmas.{Done, begun_more}
use Rattle.nor_steps.proofs.TallyLemmas.{page_wrote, page_cut, writes_err, reads_on, reads_off, stays_on, nothing_read}
use Rattle.nor_steps.proofs.UnitLemmas.{block_writes, page_writes}
use Rattle.nor_steps.proofs.writer.StepWriter.write_unit.Goals as goal
use Rattle.nor_steps.proofs.writer.StepWriter.write_unit.Goals.{then-self+in_ok-reads, else-self}

pub write_block-requires-clause-block : goal.write_block-requires-clause-block
write_block-requires-clause-block g c =
    let meaning = c.meaning-meaning.ensures ∙ ap (λ (w : Writing). w.streaming.meaning) c.self.view_is in
    let its = subst (λ (u : PlanUnit). IsUnit c.args.self.now.streaming.meaning u (length c.args.want.now)) c.in-Block.is c.requires.unit in
    let size = ap (λ (m : Parameters). m.size) meaning in
    (omega (arith, its.1.1, size, c.acceptance.ensures.size_high), search rules, search rules)

pub returns-in-Block-clause-written : goal.returns-in-Block-clause-written
returns-in-Block-clause-written g c =
    let meaning = c.meaning-meaning.ensures ∙ ap (λ (w : Writing). w.streaming.meaning) c.self.view_is in
    block_writes _ _ _ _ _ c.in-Block.block _ _ c.in_ok-runs.runs.items _ _ c.in-Block.is c.deref.ensures.value c.requires.unit c.in_ok-runs.ensures.within
    (subst (λ (m : Parameters). IsSplit m c.args.unit.now c.args.have.now c.args.want.now c.in_ok-runs.runs.items) meaning c.in_ok-runs.ensures.split)
    c.write_block.ensures.written

pub returns-in_err-programs-clause-written : goal.returns-in_err-programs-clause-written
returns-in_err-programs-clause-written g c =
    let meaning = c.meaning-meaning.ensures ∙ ap (λ (w : Writing). w.streaming.meaning) c.self.view_is in
    page_writes _ _ _ _ _ c.in-Page.start _ _ c.in_ok-runs.runs.items c.deref-2.result.now _ c.in-Page.is c.deref-2.ensures.value c.in_ok-runs.ensures.within
    (subst (λ (m : Parameters). IsSplit m c.args.unit.now c.args.have.now c.args.want.now c.in_ok-runs.runs.items) meaning c.in_ok-runs.ensures.split)
    (writes_err _ _ _ _ 1 _ _ c.from_residual-in_err-programs.ensures.0
    (begun_more _ _ c.args.self.now (run_ops false c.in-Page.start c.args.want.now c.deref-2.result.now) _ c.in_err-programs.ensures.lines))

pub returns-in_err-reads-clause-written : goal.returns-in_err-reads-clause-written
returns-in_err-reads-clause-written g c =
    let meaning = c.meaning-meaning.ensures ∙ ap (λ (w : Writing). w.streaming.meaning) c.self.view_is in
    let v = c.write_runs.new.self in
    let same = c.deref-then-self.ensures.value ∙ sym c.deref-2.ensures.value in
    let on = ap (run_ops true c.in-Page.start c.args.want.now) same
    ∙ reads_on v c.in-Page.start c.args.want.now c.deref-2.result.now (sym (ap (λ (w : Writing). w.verify) c.self-2.view_is) ∙ c.if-self.true) in
    page_writes _ _ _ _ _ c.in-Page.start _ _ c.in_ok-runs.runs.items c.deref-2.result.now _ c.in-Page.is c.deref-2.ensures.value c.in_ok-runs.ensures.within
    (subst (λ (m : Parameters). IsSplit m c.args.unit.now c.args.have.now c.args.want.now c.in_ok-runs.runs.items) meaning c.in_ok-runs.ensures.split)
    (page_cut _ _ _ _ _ _ c.in-Page.start c.deref-2.result.now c.args.want.now _ c.from_residual-in_err-reads.ensures.0 c.in_ok-programs.ensures.lines c.in_ok-programs.ensures.onward
    (subst (λ ops. Begins (g.W.InstrOut.held c.write_runs.new.out) (g.W.InstrOut.held c.write_runs-then-self.new.out) (next_lines v ops)) on c.in_err-reads.ensures.lines))

pub returns-clause-written : goal.returns-clause-written
returns-clause-written g c =
    let meaning = c.meaning-meaning.ensures ∙ ap (λ (w : Writing). w.streaming.meaning) c.self.view_is in
    let start = c.in-Page.start in
    let want = c.args.want.now in
    let runs = c.deref-2.result.now in
    let v = c.write_runs.new.self in
    let long = ap length c.deref-2.ensures.value in
    let programs : Done c.args.self.now v (g.W.InstrOut.held c.args.out.now) (g.W.InstrOut.held c.write_runs.new.out) (run_ops false start want runs) c.in_ok-programs.programs =
    record { put = c.in_ok-programs.ensures.lines; state = c.in_ok-programs.ensures.onward; count = c.in_ok-programs.ensures.steps.0 } in
    let wrote : Wrote (output c.args.self.now (g.W.InstrOut.held c.args.out.now)) (output c.if-self.self (g.W.InstrOut.held c.if-self.out)) 1 (page_ops c.args.self.now start runs want) (record { steps = c.in_ok-programs.programs + c.if-self.reads; erases = 0; erased = 0; programs = length runs }) =
    elim c.if-self.branch [
      | then-self+in_ok-reads w ↦
          let same = w.deref-then-self.ensures.value ∙ sym c.deref-2.ensures.value in
          let on = ap (run_ops true start want) same ∙ reads_on v start want runs (sym (ap (λ (w : Writing). w.verify) c.self-2.view_is) ∙ w.if-self.true) in
          let read = w.in_ok-reads.ensures in
          rw (w.self-is, w.out-is, w.reads-is)
          (page_wrote _ _ _ _ _ _ start runs want _ _ programs
          (subst (λ ops. Appends (g.W.InstrOut.held c.write_runs.new.out) (g.W.InstrOut.held w.write_runs-then-self.new.out) (next_lines v ops)) on read.lines)
          (read.onward ∙ ap (written_on v) on) (read.steps.0 ∙ ap (λ ops. length (next v.streaming ops)) on) c.in_ok-programs.ensures.steps.1 (omega (arith, read.steps.1, ap length same))
          (omega (arith, long, c.in_ok-runs.ensures.within.few, c.requires.few)))
      | else-self w ↦
          let off = sym (ap (λ (w : Writing). w.verify) c.self-2.view_is) ∙ w.if-self.false in
          let none = reads_off v start want runs off in
          rw (w.self-is, w.out-is, w.reads-is)
          (page_wrote _ _ _ _ _ _ start runs want _ _ programs (nothing_read v _ v.verify _ off)
          (stays_on v ∙ ap (written_on v) none) (ap (λ ops. length (next v.streaming ops)) none) c.in_ok-programs.ensures.steps.1 (omega arith)
          (omega (arith, long, c.in_ok-runs.ensures.within.few, c.requires.few)))
    ] in
    page_writes _ _ _ _ _ c.in-Page.start _ _ c.in_ok-runs.runs.items c.deref-2.result.now (Ok _) c.in-Page.is c.deref-2.ensures.value c.in_ok-runs.ensures.within
    (subst (λ (m : Parameters). IsSplit m c.args.unit.now c.args.have.now c.args.want.now c.in_ok-runs.runs.items) meaning c.in_ok-runs.ensures.split)
    (subst (λ n. Wrote (output c.args.self.now (g.W.InstrOut.held c.args.out.now)) (output c.if-self.self (g.W.InstrOut.held c.if-self.out)) 1 (page_ops c.args.self.now start runs want) (record { steps = c.in_ok-programs.programs + c.if-self.reads; erases = 0; erased = 0; programs = n })) (c.deref-2.ensures.len ∙ sym c.len.ensures) wrote)
