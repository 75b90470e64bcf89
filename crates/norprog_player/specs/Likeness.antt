-- Whether the chip behind a device holds what it is to hold (this project's).
use Rattle.std.specs.Prelude.{◌≡◌, ◌⊎◌, Bool, true, false, Result, Ok, Err}
use Rattle.nor_base.specs.Wire.{Wire}
use Rattle.nor_reader.specs.declared.by.ReadBy.{ReadBy}
use Rattle.nor_reader.specs.declared.by.ReadBy.TheVariants.{Content}
use Rattle.nor_reader.specs.declared.difference.Mismatch.{Mismatch}
use Rattle.nor_reader.specs.Past.{ReadsPast}
use Rattle.nor_reader.specs.Reads.{reads}
use Rattle.norprog_player.specs.declared.access.Access.{Access}
use Rattle.norprog_player.specs.declared.access.Access.TheVariants.{Four}
use Rattle.norprog_player.specs.Compared.{Comparison, HasCompared, StopsComparing}

-- past its end a chip is read by 03h with the address bytes of the mode that it begins in
abbrev pub past_by : Access → ReadBy
past_by Four = Content true
past_by access = Content false

-- the device read just these bytes of a content; then the reading of what a chip of just that content gives past its end ended so
pub record ComparesPast (before after : Wire) (c : Comparison) (result : Result (Unit {0}) Mismatch) : Type 0 where
  pub between : Wire
  pub compared : HasCompared before between c
  pub past : ReadsPast (reads c.limits.asked (past_by c.access)) between after result c.content

-- both came; or one of the readings stopped so
abbrev pub ComparesWhole : Wire → Wire → Comparison → Result (Unit {0}) Mismatch → Type 0
ComparesWhole before after c (Ok u) = ComparesPast before after c (Ok u)
ComparesWhole before after c (Err why) = StopsComparing before after c why ⊎ ComparesPast before after c (Err why)

-- nothing was done where the chip is trusted; else it was compared
abbrev pub Compares : Comparison → Bool → Wire → Wire → Type 0
Compares c true before after = after ≡ before
Compares c false before after = ComparesWhole before after c (Ok tt)
