-- The first bytes are there.
use Rattle.std.proofs.Common.{◌≡◌, ℕ, ◌+◌, ◌<◌, get_or}
use Rattle.nor_base.specs.Decoding.{instruction}
use Rattle.nor_decode.specs.Seen.{transaction_of}
use Rattle.nor_listing.proofs.sent.fill.Given as goal

abbrev pub invariant-loop-i : goal.invariant-loop-i
invariant-loop-i l = (k : ℕ) → k < l.i → get_or l.bytes k 0 ≡ get_or (instruction (transaction_of l.seen)).sent (l.from + k) 0
