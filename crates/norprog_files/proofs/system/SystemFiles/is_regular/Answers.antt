-- One question.
use Rattle.std.proofs.Common.{refl}
use Rattle.norprog_files.specs.Trace.{ToAsked}
use Rattle.norprog_files.proofs.QuestionLemmas.{asks}
use Rattle.norprog_files.proofs.TraceLemmas.{traced}
use Rattle.norprog_files.proofs.system.SystemFiles.is_regular.Goals as goal

pub returns-in-Regular : goal.returns-in-Regular
returns-in-Regular g c = traced c.stat.ensures refl refl (ToAsked c.args.path.now _ (asks _ _))

pub returns-in_default : goal.returns-in_default
returns-in_default g c = traced c.stat.ensures refl refl (ToAsked c.args.path.now _ (asks _ _))

pub returns-in-Err : goal.returns-in-Err
returns-in-Err g c = traced c.stat.ensures refl refl (ToAsked c.args.path.now _ (asks _ _))
