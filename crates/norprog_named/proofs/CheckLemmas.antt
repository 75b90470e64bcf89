-- Why nothing is found.
use Rattle.norprog_check.specs.Stream.{BadReading, NoContent, NoMemory as Unallotted, NoScript, Refused, Unchecked, Work}
use Rattle.norprog_check.specs.declared.fault.StreamStop.{StreamStop}

pub wider : {w : Work} {A B C D : Type 0} {why : StreamStop} → (A → C) → (B → D) → Unchecked w A B why → Unchecked w C D why
wider f g (Refused why refuses) = Refused why refuses
wider f g (NoScript why taken had) = NoScript why taken had
wider f g (BadReading failed taken unread) = BadReading failed taken (f unread)
wider f g (NoContent why taken spelled stops unheld) = NoContent why taken spelled stops (λ is. g (unheld is))
wider f g (Unallotted taken) = Unallotted taken
