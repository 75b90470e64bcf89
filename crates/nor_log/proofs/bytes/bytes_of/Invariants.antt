use Rattle.std.proofs.Common.{◌≡◌, ◌++◌, length}
use Rattle.std.specs.Prelude.{option_map}
use Rattle.nor_log.specs.Words.{bytes_of}
use Rattle.nor_log.proofs.bytes.bytes_of.Given as goal

-- the text spells the bytes so far, and then those of the rest
abbrev pub invariant-loop-rest : goal.invariant-loop-rest
invariant-loop-rest l = bytes_of l.fn.text ≡ option_map (λ more. l.bytes.items ++ more) (bytes_of l.rest)

abbrev pub decreases-loop-rest : goal.decreases-loop-rest
decreases-loop-rest l = length l.rest
