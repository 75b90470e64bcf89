-- Before the first window.
use Rattle.std.proofs.Common.{[], refl, rules, sym, subst}
use Rattle.nor_steps.specs.declared.tally.Tally.{Tally}
use Rattle.norprog.specs.Planner.{IsPlannedPart, outlined}
use Rattle.norprog.specs.Windows.{first_writing, window_of}
use Rattle.nor_base.proofs.FaultLaws.{handed_on}
use Rattle.nor_outline.specs.Told.{unit_outline}
use Rattle.norprog.proofs.Content.Plans.{none_told}
use Rattle.norprog.proofs.Content.Windows.{none_cut}
use Rattle.norprog.proofs.planner.Planner.new.Goals as goal

pub returns-clause-told : goal.returns-clause-told
returns-clause-told c = λ ahead.
    subst (λ (told : Tally). IsPlannedPart (window_of c.args.job.now 0 0) (first_writing c.args.job.now) ahead ahead (outlined c.new.result told [])) (sym c.none.ensures)
    (none_told c.args.job.now c.new.result ahead (search rules))

pub returns-in_err-have-clause-refused : goal.returns-in_err-have-clause-refused
returns-in_err-have-clause-refused c =
    handed_on _ _ _ c.from_residual.ensures.1 (refl, λ ahead x. none_cut unit_outline c.args.job.now c.window_size-window.result ahead x c.window_size-window.ensures.size)
