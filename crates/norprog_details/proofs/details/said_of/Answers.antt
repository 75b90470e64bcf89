-- Nothing yet; then the file of the next option.
use Rattle.std.proofs.Common.{[]}
use Rattle.std.proofs.lemmas.List.Elements.{Contains-get_or}
use Rattle.norprog_details.specs.Details.{NoneAgain}
use Rattle.norprog_details.proofs.LookLemmas.{then_at}
use Rattle.norprog_files.proofs.FilesLemmas.{adds_none}
use Rattle.norprog_details.proofs.details.said_of.Goals as goal

pub loop-option-init : goal.loop-option-init
loop-option-init g c = ([], adds_none _, NoneAgain)

pub returns-in_err-add_told : goal.returns-in_err-add_told
returns-in_err-add_told g c =
    then_at c.args.line.typed.now _ (Contains-get_or _ c.loop-option.option-index _ c.loop-option-test.true) c.loop-option.invariant c.add_told.ensures

pub loop-option-preserved : goal.loop-option-preserved
loop-option-preserved g c =
    then_at c.args.line.typed.now _ (Contains-get_or _ c.loop-option.option-index _ c.loop-option-test.true) c.loop-option.invariant c.add_told.ensures
