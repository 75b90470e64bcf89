-- Each command its answer.
use Rattle.std.proofs.Common.{[], refl}
use Rattle.norprog_common.proofs.TellsLemmas.{answer_ends}
use Rattle.norprog_files.proofs.FilesLemmas.{adds_none}
use Rattle.norprog_cli.proofs.command.answer_to.Goals as goal

pub returns-in-Build-clause-answer : goal.returns-in-Build-clause-answer
returns-in-Build-clause-answer g c =
    let did = c.build_asked.ensures.ends in rw c.in-Build.is (
      did.0,
      did.1,
      (c.build_asked.result, did.2, answer_ends g.E.ByteOut.held g.E.ByteOut.count _ _ _ c.build_asked.result c.answered.ensures.done c.answered.ensures.told),
    )

pub returns-in-Plan-clause-answer : goal.returns-in-Plan-clause-answer
returns-in-Plan-clause-answer g c =
    let did = c.plan_asked.ensures.ends in rw c.in-Plan.is (
      did.0,
      did.1,
      (c.plan_asked.result, did.2, answer_ends g.E.ByteOut.held g.E.ByteOut.count _ _ _ c.plan_asked.result c.answered-in-Plan.ensures.done c.answered-in-Plan.ensures.told),
    )

pub returns-in-Check-clause-answer : goal.returns-in-Check-clause-answer
returns-in-Check-clause-answer g c =
    let did = c.check_asked.ensures.ends in rw c.in-Check.is (
      did.0,
      did.1,
      (c.check_asked.result, did.2, answer_ends g.E.ByteOut.held g.E.ByteOut.count _ _ _ c.check_asked.result c.answered-in-Check.ensures.done c.answered-in-Check.ensures.told),
    )

pub returns-in-Run-clause-answer : goal.returns-in-Run-clause-answer
returns-in-Run-clause-answer g c =
    let did = c.run_asked.ensures.ends in rw c.in-Run.is (
      did.0,
      did.1,
      (c.run_asked.result, did.2, answer_ends g.E.ByteOut.held g.E.ByteOut.count _ _ _ c.run_asked.result c.answered-in-Run.ensures.done c.answered-in-Run.ensures.told),
    )

pub returns-in-List-clause-answer : goal.returns-in-List-clause-answer
returns-in-List-clause-answer g c =
    let did = c.list_asked.ensures.ends in rw c.in-List.is (
      did.0,
      did.1,
      (c.list_asked.result, did.2, answer_ends g.E.ByteOut.held g.E.ByteOut.count _ _ _ c.list_asked.result c.answered-in-List.ensures.done c.answered-in-List.ensures.told),
    )

pub returns-in-Draw-clause-answer : goal.returns-in-Draw-clause-answer
returns-in-Draw-clause-answer g c =
    let did = c.draw_asked.ensures.ends in rw c.in-Draw.is (
      did.0,
      did.1,
      (refl, (c.draw_asked.result, did.2, answer_ends g.E.ByteOut.held g.E.ByteOut.count _ _ _ c.draw_asked.result c.answered-in-Draw.ensures.done c.answered-in-Draw.ensures.told)),
    )

pub returns-in-Sfdp-clause-answer : goal.returns-in-Sfdp-clause-answer
returns-in-Sfdp-clause-answer g c =
    let did = c.sfdp_asked.ensures.ends in rw c.in-Sfdp.is (
      did.0,
      did.1,
      (c.sfdp_asked.result, did.2, answer_ends g.E.ByteOut.held g.E.ByteOut.count _ _ _ c.sfdp_asked.result c.answered-in-Sfdp.ensures.done c.answered-in-Sfdp.ensures.told),
    )

pub returns-in-Hex-clause-answer : goal.returns-in-Hex-clause-answer
returns-in-Hex-clause-answer g c =
    let did = c.hex_asked.ensures.ends in rw c.in-Hex.is (
      did.0,
      did.1,
      (refl, (c.hex_asked.result, did.2, answer_ends g.E.ByteOut.held g.E.ByteOut.count _ _ _ c.hex_asked.result c.answered-in-Hex.ensures.done c.answered-in-Hex.ensures.told)),
    )

pub returns-in-Script-clause-answer : goal.returns-in-Script-clause-answer
returns-in-Script-clause-answer g c =
    let did = c.script_asked.ensures.ends in rw c.in-Script.is (
      did.0,
      did.1,
      (c.script_asked.result, did.2, answer_ends g.E.ByteOut.held g.E.ByteOut.count _ _ _ c.script_asked.result c.answered-in-Script.ensures.done c.answered-in-Script.ensures.told),
    )

pub returns-in-Play-clause-answer : goal.returns-in-Play-clause-answer
returns-in-Play-clause-answer g c = rw c.in-Play.is c.play_asked.ensures.ends

pub returns-in-Read-clause-answer : goal.returns-in-Read-clause-answer
returns-in-Read-clause-answer g c = rw c.in-Read.is c.read_asked.ensures.ends

pub returns-in-Flash-clause-answer : goal.returns-in-Flash-clause-answer
returns-in-Flash-clause-answer g c = rw c.in-Flash.is c.flash_asked.ensures.ends

pub returns-in-Explain-clause-answer : goal.returns-in-Explain-clause-answer
returns-in-Explain-clause-answer g c = rw c.in-Explain.is (
  [],
  adds_none _,
  (refl, (c.explain.result, rw c.as_slice.ensures.value at c.explain.ensures, answer_ends g.E.ByteOut.held g.E.ByteOut.count _ _ _ c.explain.result c.answered-in-Explain.ensures.done c.answered-in-Explain.ensures.told)),
)

pub returns-in-Help-clause-answer : goal.returns-in-Help-clause-answer
returns-in-Help-clause-answer g c = rw c.in-Help.is (
  [],
  adds_none _,
  (refl, (c.help.result, rw c.as_str.ensures.value at c.help.ensures.ends, answer_ends g.E.ByteOut.held g.E.ByteOut.count _ _ _ c.help.result c.answered-in-Help.ensures.done c.answered-in-Help.ensures.told)),
)
