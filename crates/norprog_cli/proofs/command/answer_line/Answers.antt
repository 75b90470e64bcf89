-- What the command answers, and what `--details` adds.
use Rattle.std.proofs.Common.{rules}
use Rattle.norprog_cli.specs.Answers.{InDetail, Plainly}
use Rattle.norprog_files.proofs.FilesLemmas.{adds_both}
use Rattle.norprog_cli.proofs.command.answer_line.Goals as goal

pub returns-in_default-clause-answer : goal.returns-in_default-clause-answer
returns-in_default-clause-answer g c = let did = c.answer_to-status.ensures.answer in (did.0, did.1, Plainly did.0 did.2)

pub returns-then-status-eq0-clause-answer : goal.returns-then-status-eq0-clause-answer
returns-then-status-eq0-clause-answer g c = let did = c.answer_to-status.ensures.answer in (did.0, did.1, Plainly did.0 did.2)

pub returns-clause-answer : goal.returns-clause-answer
returns-clause-answer g c =
    let did = c.answer_to-status.ensures.answer in
    let looks = c.write_details.ensures in (
      _,
      adds_both did.1 looks.1,
      InDetail c.in-Some.typed c.as_line.result (g.E.ByteOut.held c.answer_to-status.new.err.out) (g.E.ByteOut.count c.answer_to-status.new.err.out) did.0 looks.0
          c.in-Some.is c.as_line.ensures (search rules) did.2 looks.2,
    )
