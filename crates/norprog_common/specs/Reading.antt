-- What a reader gave (this project's).
use Rattle.std.specs.Prelude.{ℕ, List}
use Rattle.nor_base.specs.Device.{Ahead, Gives}

-- a reader gave the beginning of what it had ahead
abbrev pub GivesSome : Ahead → Ahead → Type 0
GivesSome before after = (part : List ℕ) × Gives before part after
