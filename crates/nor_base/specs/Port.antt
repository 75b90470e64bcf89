-- What a device that shows a chip answers.
use Rattle.std.specs.Prelude.{◌≡◌, ℕ, List, Result, Ok, Err, ⊤}
use Rattle.nor_base.specs.Device.{one_more}
use Rattle.nor_base.specs.declared.wrong.PortFault.{PortFault}
use Rattle.nor_base.specs.declared.wrong.PortFault.TheVariants as fault
use Rattle.nor_base.specs.Chip.{Setting, Chip}
use Rattle.nor_base.specs.Effect.{effect}

-- what a port shows: a chip, and what is fixed with it
pub record Shown : Type 0 where
  pub setting : Setting
  pub chip : Chip

-- Ok: chip and bytes are by the effect, and what is fixed stays. Wrong: the effect is that wrong, and all stays. Failed:
-- nothing is promised
abbrev pub Transacts : Shown → Shown → Result (Unit {0}) PortFault → List ℕ → List ℕ → Type 0
Transacts before after (Ok u) clocks out =
    (effect before.setting before.chip clocks ≡ Ok (after.chip, out)) × (after.setting ≡ before.setting)
Transacts before after (Err (fault.Wrong why)) clocks out =
    (effect before.setting before.chip clocks ≡ Err why) × (after ≡ before)
Transacts before after (Err fault.Failed) clocks out = ⊤

-- the count of failures rises by one exactly where Failed is answered
abbrev pub CountsTransact : ℕ → ℕ → Result (Unit {0}) PortFault → Type 0
CountsTransact before after (Ok u) = after ≡ before
CountsTransact before after (Err (fault.Wrong why)) = after ≡ before
CountsTransact before after (Err fault.Failed) = after ≡ one_more before
