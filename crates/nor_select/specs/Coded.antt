-- An instruction as it goes out: its opcode, address and dummies, and what its data clocks carry (this project's).
use Rattle.std.specs.Prelude.{ℕ, List}
use Rattle.nor_base.specs.declared.instruction.What.{What}
use Rattle.nor_base.specs.declared.instruction.What.TheVariants as what
use Rattle.nor_base.specs.Spelling.{Instr}

-- what the data clocks carry
pub data Load : Type 0 where
  -- there are none
  plain : Load
  -- a status, read until it says these bytes
  polled : List ℕ → Load
  -- bytes that are sent on one lane, or on four
  sent : List ℕ → Load
  sent4 : List ℕ → Load
  -- bytes that are to be read on one lane, or on four
  asked : List ℕ → Load
  asked4 : List ℕ → Load

pub record Coded : Type 0 where
  pub op : ℕ
  pub address : ℕ
  -- address bytes, and dummy clocks after them
  pub width : ℕ
  pub dummies : ℕ
  pub load : Load

abbrev pub load_of : What → List ℕ → Load
load_of what.Enable bytes = plain
load_of what.Disable bytes = plain
load_of what.Status bytes = polled bytes
load_of what.Enter bytes = plain
load_of what.Leave bytes = plain
load_of (what.Erase kind) bytes = plain
load_of what.Program bytes = sent bytes
load_of what.QuadProgram bytes = sent4 bytes
load_of what.Read bytes = asked bytes
load_of what.QuadRead bytes = asked4 bytes
load_of what.Broken bytes = plain

-- a planned instruction, without what a chip is to see in it
abbrev pub coded : Instr → Coded
coded i = record { op = i.op; address = i.address; width = i.width; dummies = i.dummies; load = load_of i.what i.bytes }
