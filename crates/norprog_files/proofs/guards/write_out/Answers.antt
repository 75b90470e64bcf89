-- The buffer is empty when the file is asked about.
use Rattle.std.proofs.Common.{[], ◌∷◌, Err, Ok, rules, subst, sym}
use Rattle.nor_base.proofs.FaultLaws.{answered}
use Rattle.norprog_files.specs.Disk.{Looks, Syncs}
use Rattle.norprog_files.specs.Guards.{GoesOut, IsHanded, IsStored, Untold, Unwritten}
use Rattle.norprog_files.proofs.FilesLemmas.{adds_both, adds_none}
use Rattle.norprog_files.proofs.guards.write_out.Goals as goal

pub returns-in_err-flush-clause-out : goal.returns-in_err-flush-clause-out
returns-in_err-flush-clause-out g c = (_, adds_none _, answered _ (GoesOut c.flush.new.self _) _ (Unwritten _) c.from_residual.ensures.1)

pub returns-in_err-stat-clause-out : goal.returns-in_err-stat-clause-out
returns-in_err-stat-clause-out g c = (
  _,
  c.in_err-stat.ensures,
  answered _ (GoesOut c.flush.new.self _) _
      (subst (λ inner. GoesOut c.flush.new.self (Looks inner (Err c.in_err-stat.field-0.0) ∷ []) (Err c.in_err-stat.field-0.0)) (sym c.get_ref-inner.ensures) (Untold c.in_err-stat.field-0.0))
      c.from_residual-in_err-stat.ensures.1,
)

pub returns-in-Regular-clause-out : goal.returns-in-Regular-clause-out
returns-in-Regular-clause-out g c = (
  _,
  adds_both c.in_ok-stat.ensures c.sync.ensures,
  subst (λ inner. GoesOut c.flush.new.self (Looks inner (Ok c.in_ok-stat.stat) ∷ (Syncs inner c.sync.result ∷ [])) c.sync.result) (sym c.get_ref-inner.ensures)
      (IsStored c.in_ok-stat.stat c.sync.result c.in-Regular.is c.in_ok-flush.ensures.ok),
)

pub returns-in_default : goal.returns-in_default
returns-in_default g c = record {
  out = (
    _,
    c.in_ok-stat.ensures,
    subst (λ inner. GoesOut c.flush.new.self (Looks inner (Ok c.in_ok-stat.stat) ∷ []) (Ok tt)) (sym c.get_ref-inner.ensures)
        (IsHanded c.in_ok-stat.stat c.in_default.not-Regular c.in_ok-flush.ensures.ok),
  );
  kept = search rules;
}
