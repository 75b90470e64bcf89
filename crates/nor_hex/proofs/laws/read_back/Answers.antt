-- A written text is accepted, and its image is that of the bytes.
use Rattle.std.proofs.Common.{Result, Ok, Err}
use Rattle.std.specs.Prelude.{IfOk}
use Rattle.nor_hex.proofs.ReadLemmas.{just_back, accepted_back}
use Rattle.nor_hex.proofs.laws.read_back.Goals as goal

of_ok : {T E : Type 0} (P Q : T → Type 0) (r : Result T E) → ((x : T) → P x → Q x) → IfOk r P → IfOk r Q
of_ok P Q (Ok x) wider is = wider x is
of_ok P Q (Err e) wider is = tt

pub returns-clause-just : goal.returns-clause-just
returns-clause-just c = λ at bytes all fits is.
    of_ok _ _ c.read.result (λ image of. just_back at bytes fits all c.records-records.ensures.record c.args.text.now image is of) c.read.ensures.image

pub returns-clause-read : goal.returns-clause-read
returns-clause-read c = λ at bytes all fits is.
    c.read.ensures.accepted _ (accepted_back at bytes fits all c.records-records.ensures.record c.args.text.now is)
