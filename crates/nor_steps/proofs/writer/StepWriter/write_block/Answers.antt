-- The erase, the programs, the reads.
use Rattle.std.proofs.Common.{◌+◌, ◌∙◌, [], ◌∷◌, false, length, sym, ap, subst, arith}
use Rattle.nor_base.specs.Blocks.{Block}
use Rattle.std.specs.Io.KnownBytes.{Appends}
use Rattle.nor_base.specs.Operations.{erases}
use Rattle.nor_select.specs.Streamed.{next}
use Rattle.nor_steps.specs.Units.{run_ops, block_reads, block_ops, Wrote}
use Rattle.nor_steps.specs.Writing.{next_lines, written_on, output}
use Rattle.nor_steps.proofs.OpLemmas.{begun_more}
use Rattle.nor_steps.proofs.TallyLemmas.{block_wrote, writes_err, programs_cut, reads_cut}
use Rattle.nor_steps.proofs.writer.StepWriter.write_block.Goals as goal

pub returns-in_err-erase-clause-written : goal.returns-in_err-erase-clause-written
returns-in_err-erase-clause-written g c =
    writes_err _ _ _ _ 1 _ _ c.from_residual.ensures.0 (begun_more _ _ c.args.self.now (erases c.args.block ∷ []) _ c.in_err-erase.ensures.lines)

pub returns-in_err-programs-clause-written : goal.returns-in_err-programs-clause-written
returns-in_err-programs-clause-written g c =
    programs_cut _ _ _ _ _ _ c.args.block c.block.inside.start c.args.runs.now c.args.want.now _ c.from_residual-in_err-programs.ensures.0
    (ap (λ (b : Block). b.start) c.block.view_is) c.in_ok-erase.ensures.lines c.in_ok-erase.ensures.onward c.in_err-programs.ensures.lines

pub returns-in_err-reads-clause-written : goal.returns-in_err-reads-clause-written
returns-in_err-reads-clause-written g c =
    let start = ap (λ (b : Block). b.start) c.block.view_is in
    reads_cut _ _ _ _ _ _ _ _ c.args.block c.block.inside.start c.block.inside.start c.args.runs.now c.args.want.now _ c.from_residual-in_err-reads.ensures.0
    start start c.in_ok-erase.ensures.lines c.in_ok-erase.ensures.onward c.in_ok-programs.ensures.lines c.in_ok-programs.ensures.onward c.in_err-reads.ensures.lines

pub returns-clause-written : goal.returns-clause-written
returns-clause-written g c =
    let start = ap (λ (b : Block). b.start) c.block.view_is in
    let size = ap (λ (b : Block). b.size) c.block.view_is in
    let m = c.write_ops.new.self in
    subst (λ n. Wrote (output c.args.self.now (g.W.InstrOut.held c.args.out.now)) (output c.verify_block.new.self (g.W.InstrOut.held c.verify_block.new.out)) 1 (block_ops c.args.self.now c.args.block c.args.runs.now c.args.want.now) (record { steps = c.in_ok-erase.erase + c.in_ok-programs.programs + c.in_ok-reads.reads; erases = 1; erased = n; programs = length c.args.runs.now }))
    (sym (c.from.ensures ∙ size))
    (block_wrote _ _ _ _ _ _ _ _ c.args.block c.args.runs.now c.args.want.now _ _ _
    (record { put = c.in_ok-erase.ensures.lines; state = c.in_ok-erase.ensures.onward; count = c.in_ok-erase.ensures.steps })
    (subst (λ a. Appends (g.W.InstrOut.held c.write_ops.new.out) (g.W.InstrOut.held c.write_runs.new.out) (next_lines m (run_ops false a c.args.want.now c.args.runs.now))) start c.in_ok-programs.ensures.lines)
    (c.in_ok-programs.ensures.onward ∙ ap (λ a. written_on m (run_ops false a c.args.want.now c.args.runs.now)) start)
    (c.in_ok-programs.ensures.steps.0 ∙ ap (λ a. length (next m.streaming (run_ops false a c.args.want.now c.args.runs.now))) start)
    (subst (λ a. Appends (g.W.InstrOut.held c.write_runs.new.out) (g.W.InstrOut.held c.verify_block.new.out) (next_lines c.write_runs.new.self (block_reads c.write_runs.new.self a c.args.want.now))) start c.in_ok-reads.ensures.lines)
    (c.in_ok-reads.ensures.onward ∙ ap (λ a. written_on c.write_runs.new.self (block_reads c.write_runs.new.self a c.args.want.now)) start)
    (c.in_ok-reads.ensures.steps.0 ∙ ap (λ a. length (next c.write_runs.new.self.streaming (block_reads c.write_runs.new.self a c.args.want.now))) start)
    c.in_ok-erase.ensures.few c.in_ok-programs.ensures.steps.1 c.in_ok-reads.ensures.steps.1 (omega (arith, c.requires.between.few, c.requires.block.2)) c.requires.block.2 c.requires.block.1)
