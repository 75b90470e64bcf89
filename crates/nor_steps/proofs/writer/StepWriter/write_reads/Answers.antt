-- One page after another.
use Rattle.std.proofs.Common.{◌≡◌, ℕ, List, ◌+◌, ◌-◌, ◌*◌, ◌/◌, ◌∙◌, [], ◌∷◌, map, length, refl, ap, subst, arith}
use Rattle.std.specs.Prelude.{slice_range}
use Rattle.std.specs.Io.KnownBytes.{Appends}
use Rattle.std.proofs.lemmas.List.{map-append}
use Rattle.nor_base.specs.Operations.{Op, reads}
use Rattle.nor_base.specs.Units.{pages}
use Rattle.nor_select.specs.Streamed.{next}
use Rattle.nor_steps.specs.Units.{page_read}
use Rattle.nor_steps.specs.Writing.{Begins, next_lines, written_on}
use Rattle.nor_steps.proofs.LineLemmas.{adds_err}
use Rattle.nor_steps.proofs.OpLemmas.{pages_next, pages_at, map_parts, next_lines_one, done_none, done_one}
use Rattle.nor_steps.proofs.writer.StepWriter.write_reads.Goals as goal

-- the read of the page that lies so far behind the start
read_there : (start page low : ℕ) (want : List ℕ) → reads (record { at = start + low; bytes = slice_range want low (low + page) }) ≡ page_read start page want (start + low)
read_there start page low want =
    let back : low ≡ start + low - start = omega arith in
    ap (λ n. reads (record { at = start + low; bytes = slice_range want n (n + page) })) back

pub loop-number-init : goal.loop-number-init
loop-number-init g c = record { done = done_none _ _; few = omega arith; count = refl }

pub returns-in_err-steps-clause-lines : goal.returns-in_err-steps-clause-lines
returns-in_err-steps-clause-lines g c =
    let f = page_read c.args.start c.args.page c.args.want.now in
    let rest = pages_at c.args.page (length c.args.want.now / c.args.page) c.loop-number.number c.args.start c.loop-number-test.true in
    let is = read_there c.args.start c.args.page (c.loop-number.number * c.args.page) c.args.want.now in
    adds_err _ _ _ _ c.from_residual.ensures.0
    (next_lines_one _ _ _ _ _ _ _ _ (map f rest.0) c.loop-number.invariant.done.put c.loop-number.invariant.done.state
    (subst (λ (op : Op). Begins (g.W.InstrOut.held c.loop-number.out) (g.W.InstrOut.held c.write_ops.new.out) (next_lines c.loop-number.self (op ∷ []))) is c.in_err-steps.ensures.lines)
    (map_parts f _ _ _ _ rest.1))

pub loop-number-preserved : goal.loop-number-preserved
loop-number-preserved g c =
    let f = page_read c.args.start c.args.page c.args.want.now in
    let v = c.loop-number.self in
    let is = read_there c.args.start c.args.page (c.loop-number.number * c.args.page) c.args.want.now in
    record {
      done = done_one _ _ _ _ _ _ _ _ _ _ _ _ c.loop-number.invariant.done
          (subst (λ (op : Op). Appends (g.W.InstrOut.held c.loop-number.out) (g.W.InstrOut.held c.write_ops.new.out) (next_lines v (op ∷ []))) is c.in_ok-steps.ensures.lines)
          (c.in_ok-steps.ensures.onward ∙ ap (λ (op : Op). written_on v (op ∷ [])) is)
          (c.in_ok-steps.ensures.steps ∙ ap (λ (op : Op). length (next v.streaming (op ∷ []))) is) refl
          (ap (map f) (pages_next c.args.page c.args.start c.loop-number.number)
          ∙ map-append f (pages c.args.page c.args.start c.loop-number.number) ((c.args.start + c.loop-number.number * c.args.page) ∷ []));
      few = omega (arith, c.loop-number.invariant.few, c.in_ok-steps.ensures.few);
      count = c.in_ok-steps.ensures.fails.0 ∙ c.loop-number.invariant.count;
    }
