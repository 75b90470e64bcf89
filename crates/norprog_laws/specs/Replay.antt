-- What a play of the chip that shows a no comes to (this project's).
use Rattle.std.specs.Prelude.{◌≡◌, ◌≢◌, ℕ, ◌<◌, ◌≤◌, List, length, Result, Ok, Err, slice_index}
use Rattle.nor_base.specs.Chip.{Chip, ready}
use Rattle.nor_base.specs.Run.{Stop}
use Rattle.nor_check.specs.declared.verdict.Why.{Why}
use Rattle.nor_check.specs.declared.verdict.Why.TheVariants as why
use Rattle.nor_check.specs.Outcome.{Trial}
use Rattle.nor_check.specs.Witness.{Even, Witnesses, even_chip}
use Rattle.nor_play.specs.Play.{play}

-- a play goes wrong at this step for this cause; or it ends well, after as many steps, with another byte there than the target
abbrev pub ShowsSo : Why → ℕ → ℕ → List ℕ → Result Chip Stop → Type 0
ShowsSo (why.Wrong cause) step count want (Err stop) = (stop.at ≡ step) × (stop.why ≡ cause)
ShowsSo (why.Wrong cause) step count want (Ok chip) = ⊥
ShowsSo (why.Differs a) step count want (Ok chip) = (count ≡ step) × (a < length want) × (slice_index chip.array a ≢ slice_index want a)
ShowsSo (why.Differs a) step count want (Err stop) = ⊥

-- with any limit on polls above its number of status reads
abbrev pub NoIsReplayed : Type 0
NoIsReplayed = (t : Trial) (step : ℕ) (why : Why) (e : Even) (limit many : ℕ) → Witnesses t step why e → e.each_busy < limit → length t.steps ≤ many
    → ShowsSo why step (length t.steps) t.want (play (even_chip t.m t.start many e) limit (ready (even_chip t.m t.start many e) t.have) t.steps)
