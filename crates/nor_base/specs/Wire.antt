-- A writer and a reader at one moment, such as the wire to a device (this project's).
use Rattle.std.specs.Prelude.{ℕ, List, Option}
use Rattle.nor_base.specs.Device.{Ahead}

-- what the writer has taken so far, where that is known, and what the reader has yet to give
pub record Wire : Type 0 where
  pub held : Option (List ℕ)
  pub ahead : Ahead

-- where a writer and a reader tell these
abbrev pub wire : Option (List ℕ) → Ahead → Wire
wire held ahead = record { held = held; ahead = ahead }
