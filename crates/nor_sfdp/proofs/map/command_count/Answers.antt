-- Each command is counted once, and the count is accepted.
use Rattle.std.proofs.Common.{refl, arith, sym, ◌∙◌, ◌≤◌}
use Rattle.nor_sfdp.specs.Bits.{dword_count}
use Rattle.nor_sfdp.proofs.CommandLemmas.{command_counted, commands_counted, too_many, past_the_end, count_taken}
use Rattle.nor_sfdp.proofs.map.command_count.Goals as goal
use Rattle.nor_sfdp.proofs.map.command_count.Goals.{then-count-gt8-via-then-count-gt8, then-count-gt8-via-else-count-gt8+then-count-dwords}

pub loop-count-preserved : goal.loop-count-preserved
loop-count-preserved c =
    let inside : c.loop-count.at ≤ dword_count c.args.table.now = c.loop-count-test.ensures.within refl in
    record {
      place = omega (arith, c.loop-count.invariant.place);
      within = omega (arith, inside);
      counted = command_counted c.args.table.now c.len-dwords.result c.loop-count.at c.loop-count.count _ c.loop-count.invariant.place
          (omega (arith, inside, c.len-dwords.ensures.count)) c.loop-count-test.ensures.value c.loop-count.invariant.counted;
    }

pub returns-then-count-gt8-clause-count : goal.returns-then-count-gt8-clause-count
returns-then-count-gt8-clause-count c =
    let total = commands_counted c.args.table.now c.len-dwords.result c.loop-count.at c.loop-count.count c.len-dwords.ensures.count c.loop-count-test.ensures.value c.loop-count.invariant.counted in
    elim c.then-count-gt8.branch [
      | then-count-gt8-via-then-count-gt8 w ↦ sym (total ∙ too_many c.args.table.now c.loop-count.count w.if-count-gt8.true)
      | then-count-gt8-via-else-count-gt8+then-count-dwords w ↦
          sym (total ∙ past_the_end c.args.table.now c.loop-count.count w.if-count-gt8.false (omega (arith, w.if-count-dwords.true, c.len-dwords.ensures.count)))
    ]

pub returns-clause-count : goal.returns-clause-count
returns-clause-count c =
    let total = commands_counted c.args.table.now c.len-dwords.result c.loop-count.at c.loop-count.count c.len-dwords.ensures.count c.loop-count-test.ensures.value c.loop-count.invariant.counted in
    sym (total ∙ count_taken c.args.table.now c.loop-count.count c.if-count-gt8.false (omega (arith, c.if-count-dwords.false, c.len-dwords.ensures.count)))
