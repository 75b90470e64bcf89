-- A file that is made anew, by its call.
use Rattle.std.proofs.Common.{◌≡◌, [], Ok, refl, subst, sym}
use Rattle.nor_base.proofs.FaultLaws.{handed_on}
use Rattle.std.specs.Io.Buffered.{writer_buffer, writer_inner}
use Rattle.norprog_files.specs.declared.disk.How.TheVariants.{Anew}
use Rattle.norprog_files.specs.Files.{Denies}
use Rattle.norprog_files.specs.Guards.{EndsOpen}
use Rattle.norprog_files.specs.Trace.{ToNew, ToNoNew}
use Rattle.norprog_files.proofs.DeniesLemmas.{open_denies}
use Rattle.norprog_files.proofs.TraceLemmas.{came_if, denied, starved, traced}
use Rattle.norprog_files.proofs.system.SystemFiles.create_new.Goals as goal

pub returns-in_err-file-clause-did : goal.returns-in_err-file-clause-did
returns-in_err-file-clause-did g c =
    let did = c.in_err-file.ensures in
    denied _ c.from_residual.result _ c.from_residual.ensures.1 (traced did.1 refl refl (ToNoNew c.args.path.now c.args.name _ did.0 did.2))

pub returns-in_err-file-clause-refused : goal.returns-in_err-file-clause-refused
returns-in_err-file-clause-refused g c = handed_on (Denies c.args.name) _ _ c.from_residual.ensures.1 (open_denies c.in_err-file.ensures.2)

pub returns-clause-did : goal.returns-clause-did
returns-clause-did g c =
    let did = c.in_ok-file.ensures in
    came_if c.buffered.result (λ w. (writer_inner w.inner ≡ c.in_ok-file.file) × (writer_buffer w.inner ≡ []) × (w.failed ≡ 0)) c.buffered.ensures.made
    (λ w is. traced did.1 refl refl (ToNew c.args.path.now c.args.name w.inner did.0 (subst (λ file. EndsOpen c.args.path.now Anew c.args.name did.0 (Ok file)) (sym is.0) did.2) is.1))
    (traced did.1 refl refl (ToNoNew c.args.path.now c.args.name (Ok c.in_ok-file.file) did.0 did.2))

pub returns-clause-refused : goal.returns-clause-refused
returns-clause-refused g c = starved c.args.name c.buffered.result c.buffered.ensures.memory
