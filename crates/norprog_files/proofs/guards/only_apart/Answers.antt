-- It is one of the files, or none of them.
use Rattle.std.proofs.Common.{◌≡◌, All, Err, rules, subst, sym}
use Rattle.std.specs.IoError.{error_kind}
use Rattle.std.specs.declared.io.ErrorKind.TheVariants.{NotFound}
use Rattle.norprog_common.specs.declared.faults.Refusal.TheVariants.{File}
use Rattle.norprog_files.specs.Guards.{EndsApart, IsApart, IsOther, IsSame, Unasked}
use Rattle.norprog_files.proofs.guards.only_apart.Goals as goal

pub returns-in-Ok : goal.returns-in-Ok
returns-in-Ok c =
    subst (λ found. EndsApart c.args.places.now c.args.name found (Err (File c.args.name))) (sym c.in-Ok.is) (IsSame c.in-Ok.stat (λ apart. search rules))

pub returns-in-Ok-2 : goal.returns-in-Ok-2
returns-in-Ok-2 c =
    let apart : All (λ place. place ≡ c.in-Ok.stat.id → ⊥) c.args.places.now = search rules in
    IsOther c.args.found (subst (IsApart c.args.places.now) (sym c.in-Ok.is) apart)

pub returns-in-Err : goal.returns-in-Err
returns-in-Err c =
    let none : error_kind c.in-Err.error ≡ NotFound = search rules in
    IsOther c.args.found (subst (IsApart c.args.places.now) (sym c.in-Err.is) none)

pub returns-in-Err-2 : goal.returns-in-Err-2
returns-in-Err-2 c =
    subst (λ found. EndsApart c.args.places.now c.args.name found (Err c.refusal_of.result)) (sym c.in-Err-2.is) (Unasked c.in-Err-2.error _ c.refusal_of.ensures)
