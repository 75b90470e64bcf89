-- An output, by its calls.
use Rattle.std.proofs.Common.{◌≡◌, [], Ok, refl, subst, sym}
use Rattle.nor_base.proofs.FaultLaws.{handed_on}
use Rattle.std.specs.Io.Buffered.{writer_buffer, writer_inner}
use Rattle.norprog_files.specs.Files.{Denies}
use Rattle.norprog_files.specs.Guards.{EndsOutput}
use Rattle.norprog_files.specs.Replaced.{name_of}
use Rattle.norprog_files.specs.Trace.{ToMade, ToNoOutput}
use Rattle.norprog_files.proofs.DeniesLemmas.{output_denies}
use Rattle.norprog_files.proofs.TraceLemmas.{came_if, denied, over, starved, traced}
use Rattle.norprog_files.proofs.system.SystemFiles.create.Goals as goal

pub returns-in_err-file-clause-did : goal.returns-in_err-file-clause-did
returns-in_err-file-clause-did g c =
    let did = c.in_err-file.ensures in
    denied _ c.from_residual.result _ c.from_residual.ensures.1 (traced did.1 refl refl (ToNoOutput c.args.out c.args.kind _ did.0 (over c.as_slice-opened.ensures.value did.2)))

pub returns-in_err-file-clause-refused : goal.returns-in_err-file-clause-refused
returns-in_err-file-clause-refused g c = handed_on (Denies (name_of c.args.kind)) _ _ c.from_residual.ensures.1 (output_denies c.in_err-file.ensures.2)

pub returns-clause-did : goal.returns-clause-did
returns-clause-did g c =
    let did = c.in_ok-file.ensures in
    came_if c.buffered.result (λ w. (writer_inner w.inner ≡ c.in_ok-file.file) × (writer_buffer w.inner ≡ []) × (w.failed ≡ 0)) c.buffered.ensures.made
    (λ w is. traced did.1 refl refl (ToMade c.args.out c.args.kind w.inner did.0 (subst (λ file. EndsOutput (g.D.File.Read.remaining) c.args.out c.args.kind c.args.trail.now.opened.items did.0 (Ok file)) (sym is.0) (over c.as_slice-opened.ensures.value did.2)) is.1))
    (traced did.1 refl refl (ToNoOutput c.args.out c.args.kind (Ok c.in_ok-file.file) did.0 (over c.as_slice-opened.ensures.value did.2)))

pub returns-clause-refused : goal.returns-clause-refused
returns-clause-refused g c = starved (name_of c.args.kind) c.buffered.result c.buffered.ensures.memory
