-- What a transaction is to a chip, by its bytes.
use Rattle.std.specs.Prelude.{ℕ, List}
use Rattle.nor_base.specs.Decoding.{Instruction, instruction}
use Rattle.nor_decode.specs.declared.seen.Seen.{Seen}
use Rattle.nor_decode.specs.Seen.{transaction_of}

-- the instruction that was seen
abbrev pub instruction_of : Seen → Instruction
instruction_of seen = instruction (transaction_of seen)

-- the bytes that it sends
abbrev pub sent : Seen → List ℕ
sent seen = (instruction_of seen).sent
