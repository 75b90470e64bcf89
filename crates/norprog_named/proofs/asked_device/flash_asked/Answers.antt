-- How its answer ends: what fails as it is said had not failed before, or had.
use Rattle.norprog_common.specs.Told.{output}
use Rattle.norprog_named.proofs.FlashLemmas.{says_wider}
use Rattle.norprog_named.proofs.asked_device.flash_asked.Goals as goal

pub returns-clause-ends : goal.returns-clause-ends
returns-clause-ends g c =
    let did = c.flash_given-answer.ensures.ends in (
      did.0,
      did.1,
      record {
        answer = c.flash_given-answer.result;
        middle = g.O.ByteOut.held c.flash_given-answer.new.out;
        ends = did.2;
        says = says_wider c.args.given (g.O.ByteOut.count c.args.out.now) (g.O.ByteOut.count c.flash_given-answer.new.out) (g.O.ByteOut.count c.report_flash.new.out)
            (g.O.ByteOut.held c.flash_given-answer.new.out) (g.O.ByteOut.held c.report_flash.new.out)
            (output g.E.ByteOut.held g.E.ByteOut.count c.args.err.now c.report_flash.new.err) c.report_flash.result c.flash_given-answer.result
            c.flash_given-answer.ensures.works c.report_flash.ensures.says;
      },
    )
