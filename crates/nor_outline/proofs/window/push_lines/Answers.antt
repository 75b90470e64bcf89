-- The unit's runs, and its lines.
use Rattle.std.proofs.Common.{◌++◌, ◌∙◌, ap}
use Rattle.nor_outline.specs.Parts.{part_lines, due_in}
use Rattle.nor_outline.proofs.UnitLemmas.{part_told}
use Rattle.nor_outline.proofs.window.push_lines.Goals as goal
use Rattle.nor_pages.specs.Runs.{unit_start}

pub returns-clause-lines : goal.returns-clause-lines
returns-clause-lines c =
    let m = c.args.meaning.now in
    let have = c.args.have.now in
    let want = c.args.want.now in
    let runs = c.in_ok-runs.runs.items in (
      part_lines m c.args.strategy (due_in m have want (unit_start c.args.unit.now)) c.args.unit.now runs,
      part_told m c.args.strategy c.args.unit.now runs have want c.acceptance.ensures c.requires.unit.0 c.requires.planned c.in_ok-runs.ensures.within
          c.in_ok-runs.ensures.split,
      c.in_ok-push_unit.ensures ∙ ap (λ rs. c.args.lines.now.items ++ part_lines m c.args.strategy (due_in m have want (unit_start c.args.unit.now)) c.args.unit.now rs) c.deref.ensures.value,
    )
