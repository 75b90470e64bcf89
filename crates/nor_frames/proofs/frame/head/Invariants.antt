use Rattle.std.proofs.Common.{◌≡◌, ◌∷◌, take}
use Rattle.nor_frames.proofs.frame.head.Given as goal

-- the opcode and the first address bytes are there
abbrev pub invariant-loop-byte : goal.invariant-loop-byte
invariant-loop-byte l = l.bytes.items ≡ l.instr.op ∷ take l.byte-index l.byte-items
