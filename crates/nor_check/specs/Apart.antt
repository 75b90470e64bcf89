-- Which steps tell chips of different pages apart (this project's).
use Rattle.std.specs.Prelude.{ℕ, Bool, false, ◌+◌, ◌%◌, nat_le, not, ◌&&◌, List, length, Option, Some, None}
use Rattle.nor_base.specs.declared.step.Step.{Step}
use Rattle.nor_base.specs.declared.step.Step.TheVariants.{Send, Poll, Verify}
use Rattle.nor_base.specs.Parameters.{Parameters}
use Rattle.nor_base.specs.Decoding.{Instruction, decode}
use Rattle.nor_base.specs.Effect.{is_program}

-- bytes from an address on lie in one page of this size
abbrev pub lies_in_page : ℕ → ℕ → List ℕ → Bool
lies_in_page page address bytes = nat_le (address % page + length bytes) page

-- a program whose bytes don't
abbrev pub leaves_page : ℕ → Option Instruction → Bool
leaves_page page None = false
leaves_page page (Some i) = is_program i.what && not (lies_in_page page i.address i.sent)

-- a step with a program that leaves the least page that may be
abbrev pub tells_apart : Parameters → Bool → Step → Bool
tells_apart m mode4 (Send clocks) = leaves_page m.page (decode m mode4 clocks)
tells_apart m mode4 (Poll clocks) = false
tells_apart m mode4 (Verify clocks expect) = leaves_page m.page (decode m mode4 clocks)
