-- What a device did for steps (this project's).
use Rattle.std.specs.Prelude.{◌≡◌, ◌⊎◌, ℕ, List, [], ◌∷◌, length, Option, Ok, Err}
use Rattle.nor_base.specs.declared.step.Step.{Step}
use Rattle.nor_base.specs.declared.step.Step.TheVariants.{Send, Poll, Verify}
use Rattle.nor_base.specs.Device.{Ahead}
use Rattle.nor_base.specs.Run.{poll_clocks}
use Rattle.nor_base.specs.Sample.{sampled_count}
use Rattle.nor_base.specs.Wire.{Wire, wire}
use Rattle.nor_serprog.specs.declared.fault.Reason.{Reason}
use Rattle.nor_serprog.specs.declared.limits.Limits.{Limits}
use Rattle.nor_serprog.specs.Follow.{Waits, Operates}

-- what a step sends and samples fits what it is: nothing comes back where it only sends, a poll reads the status, and of a verify as
-- many bytes are expected as its clocks sample
abbrev pub IsDoable : Step → Type 0
IsDoable (Send symbols) = sampled_count symbols ≡ 0
IsDoable (Poll symbols) = symbols ≡ poll_clocks
IsDoable (Verify symbols expect) = length expect ≡ sampled_count symbols

-- a device did a step: one operation that gave nothing or what is expected, or a wait until the status said idle
abbrev pub HasDone : Wire → Wire → Limits → ℕ → Step → Type 0
HasDone before after limits turns (Send symbols) =
    Operates before after (Ok tt) limits symbols []
HasDone before after limits turns (Poll symbols) =
    (symbols ≡ poll_clocks) × Waits before after (Ok tt) limits turns
HasDone before after limits turns (Verify symbols expect) =
    Operates before after (Ok tt) limits symbols expect

-- or it stopped at it, for this reason
abbrev pub HasStopped : Wire → Wire → Limits → ℕ → Reason → Step → Type 0
HasStopped before after limits turns why (Send symbols) =
    Operates before after (Err why) limits symbols []
HasStopped before after limits turns why (Poll symbols) =
    (symbols ≡ poll_clocks) × Waits before after (Err why) limits turns
HasStopped before after limits turns why (Verify symbols expect) =
    Operates before after (Err why) limits symbols expect

-- it did steps one after the other
abbrev pub HasDoneAll : Wire → Wire → Limits → ℕ → List Step → Type 0
HasDoneAll before after limits turns [] = (after.held ≡ before.held) × (after.ahead ≡ before.ahead)
HasDoneAll before after limits turns (x ∷ xs) =
    (held : Option (List ℕ)) × (ahead : Ahead) × HasDone before (wire held ahead) limits turns x
    × HasDoneAll (wire held ahead) after limits turns xs

-- or it did those before one, and stopped at that one
abbrev pub HasStoppedAmong : Wire → Wire → Limits → ℕ → Reason → List Step → Type 0
HasStoppedAmong before after limits turns why [] = ⊥
HasStoppedAmong before after limits turns why (x ∷ xs) =
    HasStopped before after limits turns why x
    ⊎ ((held : Option (List ℕ)) × (ahead : Ahead) × HasDone before (wire held ahead) limits turns x
    × HasStoppedAmong (wire held ahead) after limits turns why xs)
