-- Laws of spelling: which clocks an instruction has.
use Rattle.std.specs.Prelude.{◌≡◌, ℕ, Bool, List, Ok}
use Rattle.nor_base.specs.declared.step.Step.TheVariants.{Verify}
use Rattle.nor_base.specs.Parameters.{Parameters}
use Rattle.nor_base.specs.Chip.{Setting, Chip}
use Rattle.nor_base.specs.Run.{poll_clocks, step}
use Rattle.nor_base.specs.Spelling.{Instr, Spells}
use Rattle.nor_base.specs.Operations.{poll}
use Rattle.nor_base.specs.Clocks.{clocks_of, HasRow, IsSendable}

-- where the opcode has a row that agrees, and the instruction fits its clocks, these spell it
abbrev pub HasSpelling : Type 0
HasSpelling = (m : Parameters) (mode4 : Bool) (i : Instr) → HasRow m mode4 i → IsSendable i → Spells m mode4 i (clocks_of i)

-- no other clocks do
abbrev pub OneSpelling : Type 0
OneSpelling = (m : Parameters) (mode4 : Bool) (i : Instr) (clocks : List ℕ) → HasRow m mode4 i → IsSendable i → Spells m mode4 i clocks → clocks ≡ clocks_of i

-- nor do two lists of clocks spell an instruction that has a row, whether it can be sent or not
abbrev pub SameSpelling : Type 0
SameSpelling = (m : Parameters) (mode4 : Bool) (i : Instr) (xs ys : List ℕ) → HasRow m mode4 i → Spells m mode4 i xs → Spells m mode4 i ys → xs ≡ ys

-- on every chip and in each mode a poll has just its clocks
abbrev pub PollIsFixed : Type 0
PollIsFixed = (m : Parameters) (mode4 : Bool) (clocks : List ℕ) → Spells m mode4 poll clocks → clocks ≡ poll_clocks

-- a verifying read leaves the chip as it was
abbrev pub VerifyKeeps : Type 0
VerifyKeeps = (s : Setting) (c d : Chip) (clocks expect : List ℕ) → step s c (Verify clocks expect) ≡ Ok d → d ≡ c
