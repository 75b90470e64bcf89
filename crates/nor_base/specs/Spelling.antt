-- Instructions as they are planned, and the steps that spell them (this project's).
use Rattle.std.specs.Prelude.{◌≡◌, ℕ, Bool, true, false, List, [], ◌∷◌, length, Option, None, Some}
use Rattle.nor_base.specs.declared.instruction.What.{What}
use Rattle.nor_base.specs.declared.instruction.What.TheVariants as what
use Rattle.nor_base.specs.declared.step.Step.{Step}
use Rattle.nor_base.specs.declared.step.Step.TheVariants.{Send, Poll, Verify}
use Rattle.nor_base.specs.Parameters.{Parameters}
use Rattle.nor_base.specs.Instructions.{Form, nothing, sends, sends4, samples, samples4, form_of}
use Rattle.nor_base.specs.Decoding.{Instruction, decode, opcode}
use Rattle.nor_base.specs.Run.{poll_clocks}

-- an instruction that is planned
pub record Instr : Type 0 where
  -- what a chip is to see in it
  pub what : What
  pub op : ℕ
  pub address : ℕ
  -- how many address bytes there are, and how many dummy clocks come after them
  pub width : ℕ
  pub dummies : ℕ
  -- the bytes that are sent, or that are to be read
  pub bytes : List ℕ

abbrev pub bytes_to_send : Form → List ℕ → List ℕ
bytes_to_send nothing bytes = []
bytes_to_send sends bytes = bytes
bytes_to_send sends4 bytes = bytes
bytes_to_send samples bytes = []
bytes_to_send samples4 bytes = []

abbrev pub count_to_read : Form → List ℕ → ℕ
count_to_read nothing bytes = 0
count_to_read sends bytes = 0
count_to_read sends4 bytes = 0
count_to_read samples bytes = length bytes
count_to_read samples4 bytes = length bytes

-- the instruction as a chip is to see it
abbrev pub seen : Instr → Instruction
seen i = record {
  what = i.what;
  address = i.address;
  sent = bytes_to_send (form_of i.what) i.bytes;
  asked = count_to_read (form_of i.what) i.bytes;
}

-- the clocks spell the instruction in an address mode: they begin with its opcode, and a chip sees the instruction in them
pub record Spells (m : Parameters) (mode4 : Bool) (i : Instr) (clocks : List ℕ) : Type 0 where
  pub begins : opcode clocks ≡ i.op
  pub decodes : decode m mode4 clocks ≡ Some (seen i)

-- clocks that spell the instruction are sent; where it reads, its bytes are expected
pub record IsSentBy (m : Parameters) (mode4 : Bool) (i : Instr) (step : Step) : Type 0 where
  pub clocks : List ℕ
  pub spelled : Spells m mode4 i clocks
  pub sent : step ≡ Send clocks

pub record IsReadBy (m : Parameters) (mode4 : Bool) (i : Instr) (step : Step) : Type 0 where
  pub clocks : List ℕ
  pub spelled : Spells m mode4 i clocks
  pub read : step ≡ Verify clocks i.bytes

-- the step of an instruction: a status read is a poll, a read a verifying one, and all else is sent
abbrev pub IsStepBy : Parameters → Bool → Instr → What → Step → Type 0
IsStepBy m mode4 i what.Status step = step ≡ Poll poll_clocks
IsStepBy m mode4 i what.Read step = IsReadBy m mode4 i step
IsStepBy m mode4 i what.QuadRead step = IsReadBy m mode4 i step
IsStepBy m mode4 i other step = IsSentBy m mode4 i step

abbrev pub IsStepOf : Parameters → Bool → Instr → Step → Type 0
IsStepOf m mode4 i step = IsStepBy m mode4 i i.what step

-- the address mode after an instruction
abbrev pub mode_after : What → Bool → Bool
mode_after what.Enter mode4 = true
mode_after what.Leave mode4 = false
mode_after other mode4 = mode4

-- and after what a chip sees in some clocks
abbrev pub mode_by : Bool → Option Instruction → Bool
mode_by mode4 None = mode4
mode_by mode4 (Some i) = mode_after i.what mode4

-- the steps are those of the instructions, one by one, from an address mode on
abbrev pub AreStepsOf : Parameters → Bool → List Instr → List Step → Type 0
AreStepsOf m mode4 [] [] = Unit {0}
AreStepsOf m mode4 [] (x ∷ xs) = ⊥
AreStepsOf m mode4 (i ∷ rest) [] = ⊥
AreStepsOf m mode4 (i ∷ rest) (x ∷ xs) = IsStepOf m mode4 i x × AreStepsOf m (mode_after i.what mode4) rest xs
