-- What a script's reader gave.
use Rattle.std.proofs.Common.{ℕ, List, [], Err}
use Rattle.nor_base.specs.declared.step.Step.{Step}
use Rattle.nor_base.specs.Device.{Ahead}
use Rattle.nor_base.proofs.DeviceLaws.{Gives-append}
use Rattle.nor_script.specs.declared.fault.ReadFault.{ReadFault}
use Rattle.nor_script.specs.declared.fault.ReadFault.TheVariants.{Script, Device}
use Rattle.nor_script.specs.Stream.{Reading, reading, Reads, HasRead, Advances, Begins}
use Rattle.norprog_common.specs.Reading.{GivesSome}

module _ (before : Ahead) where
  -- the header couldn't be read
  pub header_gave : (after : Ahead) (fault : ReadFault) → Begins before after (Err fault) → GivesSome before after
  header_gave after fault p = (p.1.pulled, p.1.given)

  -- more was read
  pub more_gave : (b c : Reading) (above : List Step) (bytes : List ℕ) → HasRead (reading before []) b above → Reads b c bytes → GivesSome before c.ahead
  more_gave b c above bytes p q = (_, Gives-append before b.ahead c.ahead _ _ p.reads.given q.given)

  -- the next step couldn't be read
  pub step_gave : (b c : Reading) (above : List Step) (steps : ℕ) (step : Step) (fault : ReadFault) → HasRead (reading before []) b above
      → Advances b c steps step (Err fault) → GivesSome before c.ahead
  step_gave b c above steps step (Script why) p q = more_gave b c above [] p q.0
  step_gave b c above steps step (Device failed) p q = more_gave b c above [] p q
