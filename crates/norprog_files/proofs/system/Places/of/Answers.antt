-- Nothing is done by no call.
use Rattle.std.proofs.Common.{[], subst, sym}
use Rattle.norprog_files.specs.Trace.{IsBegun, Traces}
use Rattle.norprog_files.proofs.system.Places.of.Goals as goal

pub returns : goal.returns
returns g c = λ none. ([], none, subst (Traces _ [] []) (sym c.new.ensures.items) IsBegun)
