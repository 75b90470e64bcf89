-- One number as often as can be counted.
use Rattle.std.proofs.Common.{sym, ◌∙◌, ap, length}
use Rattle.std.proofs.lemmas.List.{length-replicate}
use Rattle.nor_chip.specs.Busy.{most_times, times_of}
use Rattle.nor_chip.proofs.BusyLemmas.{most_is}
use Rattle.nor_chip.proofs.busy.BusyTimes.count.Goals as goal

pub returns-in-Each : goal.returns-in-Each
returns-in-Each c = most_is ∙ sym (length-replicate most_times _) ∙ ap (λ b. length (times_of b)) (sym c.in-Each.is)
