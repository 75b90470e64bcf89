-- A file that is read whole, by its calls.
use Rattle.std.proofs.Common.{◌≡◌, IfSome, Ok, refl}
use Rattle.nor_base.proofs.FaultLaws.{handed_on}
use Rattle.norprog_files.specs.Files.{Denies, Unusable}
use Rattle.norprog_files.specs.Trace.{ToGiven, ToNoInput}
use Rattle.norprog_files.proofs.DeniesLemmas.{input_denies}
use Rattle.norprog_files.proofs.TraceLemmas.{came_if, denied, traced}
use Rattle.norprog_files.proofs.system.SystemFiles.read.Goals as goal

pub returns-in_err-file-clause-did : goal.returns-in_err-file-clause-did
returns-in_err-file-clause-did g c =
    let did = c.in_err-file.ensures in
    denied _ c.from_residual.result _ c.from_residual.ensures.1 (traced did.1 did.2.1 refl (ToNoInput c.args.path.now c.args.name _ did.2.0 did.0 did.2.2))

pub returns-in_err-file-clause-refused : goal.returns-in_err-file-clause-refused
returns-in_err-file-clause-refused g c = handed_on (Denies c.args.name) _ _ c.from_residual.ensures.1 (input_denies c.in_err-file.ensures.2.2)

pub returns-then-len-gt-MOST_BYTES-clause-did : goal.returns-then-len-gt-MOST_BYTES-clause-did
returns-then-len-gt-MOST_BYTES-clause-did g c =
    let did = c.in_ok-file.ensures in
    traced did.1 did.2.1 refl (ToNoInput c.args.path.now c.args.name (Ok (c.in_ok-file.file, c.in_ok-file.len)) did.2.0 did.0 did.2.2)

pub returns-then-len-gt-MOST_BYTES-clause-refused : goal.returns-then-len-gt-MOST_BYTES-clause-refused
returns-then-len-gt-MOST_BYTES-clause-refused g c = Unusable

pub returns-clause-did : goal.returns-clause-did
returns-clause-did g c =
    let did = c.in_ok-file.ensures in
    came_if c.read_opened.result (λ bytes. IfSome (g.D.File.Read.remaining c.in_ok-file.file) (λ given. bytes.items ≡ given)) c.read_opened.ensures.whole
    (λ bytes is. traced did.1 did.2.1 refl (ToGiven c.args.path.now bytes.items c.args.name c.in_ok-file.file c.in_ok-file.len did.2.0 did.0 did.2.2 is))
    (traced did.1 did.2.1 refl (ToNoInput c.args.path.now c.args.name (Ok (c.in_ok-file.file, c.in_ok-file.len)) did.2.0 did.0 did.2.2))
