-- An `Op` and an `Instr` as the definitions see them.
use Rattle.std.specs.Prelude.{◌≡◌, ℕ, if◌then◌else◌, List, [], ◌∷◌, ◌++◌, map}
use Rattle.nor_base.specs.declared.meaning.Strategy.{Strategy}
use Rattle.nor_base.specs.Spelling.{Instr as Planned}
use Rattle.nor_base.specs.Operations.{Op, erases, writes, reads, takes_dedicated, legacy_width}
use Rattle.nor_select.specs.declared.op.Op.{Op as DeclaredOp}
use Rattle.nor_select.specs.declared.op.Op.TheVariants.{Erase, Program, Read}
use Rattle.nor_select.specs.declared.instr.Body.{Body}
use Rattle.nor_select.specs.declared.instr.Body.TheVariants.{Plain, Poll, Write1, Write4, Read1, Read4}
use Rattle.nor_select.specs.declared.instr.Instr.{Instr}
use Rattle.nor_select.specs.Coded.{Load, plain, polled, sent, sent4, asked, asked4, Coded, coded}

-- the operation that is meant
abbrev pub op_of : DeclaredOp → Op
op_of (Erase block) = erases block
op_of (Program at bytes) = writes (record { at = at; bytes = bytes.now })
op_of (Read at bytes) = reads (record { at = at; bytes = bytes.now })

-- a poll waits for a status of 00h: idle, and the latch clear
abbrev pub load_in : Body → Load
load_in Plain = plain
load_in Poll = polled (0 ∷ [])
load_in (Write1 bytes) = sent bytes.now
load_in (Write4 bytes) = sent4 bytes.now
load_in (Read1 bytes) = asked bytes.now
load_in (Read4 bytes) = asked4 bytes.now

abbrev pub coded_of : Instr → Coded
coded_of i = record { op = i.op; address = i.address; width = i.width; dummies = i.dummies; load = load_in i.body }

-- just these instructions
abbrev pub AreCoded : List Instr → List Planned → Type 0
AreCoded instrs these = map coded_of instrs ≡ map coded these

-- these come after those that are there
abbrev pub Adds : List Instr → List Planned → List Instr → Type 0
Adds before these after = map coded_of after ≡ map coded_of before ++ map coded these

-- an instruction at an address, by its dedicated opcode or by its legacy one, without data
abbrev pub coded_at : Strategy → ℕ → ℕ → ℕ → ℕ → Coded
coded_at by op op4 dummies a = record {
  op = if takes_dedicated by a then op4 else op;
  address = a;
  width = if takes_dedicated by a then 4 else legacy_width by;
  dummies = dummies;
  load = plain;
}
