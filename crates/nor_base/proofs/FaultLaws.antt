-- A fault that is handed on, as it is or as another one.
use Rattle.std.proofs.Common.{◌≡◌, Result, Ok, Err, sym, subst}
use Rattle.std.specs.Prelude.{IfErr, IsErrAnd}

-- what is known of the fault is known of the answer's
pub handed_on : {T E : Type 0} (P : E → Type 0) (answer : Result T E) (fault : E) → IsErrAnd answer (λ told. told ≡ fault) → P fault → IfErr answer P
handed_on P (Ok x) fault is p = tt
handed_on P (Err told) fault is p = subst P (sym is) p

-- what holds of an answer with that fault holds of the answer
pub answered : {T E : Type 0} (answer : Result T E) (P : Result T E → Type 0) (fault : E) → P (Err fault) → IsErrAnd answer (λ told. told ≡ fault) → P answer
answered (Ok x) P fault p is = absurd is
answered (Err told) P fault p is = subst (λ why. P (Err why)) (sym is) p
