-- A script that is written, or isn't, of the same bytes.
use Rattle.std.proofs.Common.{◌≡◌, ℕ, List, Option, subst}
use Rattle.norprog_common.specs.declared.faults.Refusal.{Refusal}
use Rattle.norprog_named.specs.Script.{source_of}
use Rattle.norprog_script.specs.Written.{RefusesLog, WasWritten}
use Rattle.norprog_script.specs.declared.request.ScriptRequest.{ScriptRequest}
use Rattle.norprog_script.specs.declared.tally.Tally.{Tally}

pub written_of : (r : ScriptRequest) (a b : Option (List ℕ)) (tally : Tally) {tables tables' text text' : List ℕ} → tables' ≡ tables → text' ≡ text
    → WasWritten (source_of r tables') text' a b tally → WasWritten (source_of r tables) text a b tally
written_of r a b tally {tables} {tables'} {text} {text'} one other was =
    subst (λ (t : List ℕ). WasWritten (source_of r t) text a b tally) one (subst (λ (t : List ℕ). WasWritten (source_of r tables') t a b tally) other was)

pub refused_of : (r : ScriptRequest) (a b : Option (List ℕ)) (why : Refusal) {tables tables' text text' : List ℕ} → tables' ≡ tables → text' ≡ text
    → RefusesLog (source_of r tables') text' a b why → RefusesLog (source_of r tables) text a b why
refused_of r a b why {tables} {tables'} {text} {text'} one other was =
    subst (λ (t : List ℕ). RefusesLog (source_of r t) text a b why) one (subst (λ (t : List ℕ). RefusesLog (source_of r tables') t a b why) other was)
