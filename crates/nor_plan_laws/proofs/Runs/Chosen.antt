-- The instruction of a program, and that of a read, whichever the strategy takes.
use Rattle.std.proofs.Common.{◌≡◌, Bool, true, false, not, ◌&&◌, if◌then◌else◌, length, refl}
use Rattle.std.specs.Prelude.{is_some}
use Rattle.nor_base.specs.declared.meaning.Start.{Start}
use Rattle.nor_base.specs.declared.meaning.Strategy.{Strategy}
use Rattle.nor_base.specs.Parameters.{Parameters}
use Rattle.nor_base.specs.Effect.{is_program, is_read}
use Rattle.nor_base.specs.Programs.{Program}
use Rattle.nor_base.specs.Spelling.{Instr, seen}
use Rattle.nor_base.specs.Operations.{programming, reading, takes_dedicated}

-- an instruction that programs these bytes there
pub record Programs (p : Program) (i : Instr) : Type 0 where
  pub program : is_program i.what ≡ true
  pub at : i.address ≡ p.at
  pub sent : (seen i).sent ≡ p.bytes

-- one that reads these bytes there
pub record ReadsBack (p : Program) (i : Instr) : Type 0 where
  pub read : is_read i.what ≡ true
  pub at : i.address ≡ p.at
  pub bytes : i.bytes ≡ p.bytes
  pub asked : (seen i).asked ≡ length p.bytes

either : (P : Instr → Type 0) (x y z : Instr) (a b : Bool) → P x → P y → P z → P (if a then x else if b then y else z)
either P x y z true b first second third = first
either P x y z false true first second third = second
either P x y z false false first second third = third

pub programming_programs : (m : Parameters) (start : Start) (by : Strategy) (p : Program) → Programs p (programming m start by p)
programming_programs m start by p =
    either (Programs p) _ _ _ (start.quad && m.quad4) (start.quad && (m.quad3 && not (takes_dedicated by p.at)))
    (record { program = refl; at = refl; sent = refl }) (record { program = refl; at = refl; sent = refl }) (record { program = refl; at = refl; sent = refl })

pub reading_reads : (m : Parameters) (start : Start) (by : Strategy) (p : Program) → ReadsBack p (reading m start by p)
reading_reads m start by p =
    either (ReadsBack p) _ _ _ (start.quad && m.quad_read4) (start.quad && (is_some m.quad_read && not (takes_dedicated by p.at)))
    (record { read = refl; at = refl; bytes = refl; asked = refl }) (record { read = refl; at = refl; bytes = refl; asked = refl })
    (record { read = refl; at = refl; bytes = refl; asked = refl })
