-- A reading, and then another.
use Rattle.std.proofs.Common.{◌≡◌, ◌-◌, ℕ, List, length, take, drop, length-drop, arith}
use Rattle.std.proofs.lemmas.List.{take_all}
use Rattle.nor_loop.specs.Reads.{chunk}
use Rattle.nor_reader.proofs.CutLemmas.{apart_by}
use Rattle.nor_reader.proofs.TwiceLemmas.{twice_by}
use Rattle.nor_reader.specs.Twice.{twice}
use Rattle.nor_reader.proofs.pass.read_content.Goals as goal

-- what came first is all from an address on
came : (bytes : List ℕ) (low : ℕ) → take (length bytes - low) (drop low bytes) ≡ drop low bytes
came bytes low = take_all (length bytes - low) (drop low bytes) (omega (arith, length-drop low bytes))

pub returns-clause-twice : goal.returns-clause-twice
returns-clause-twice g c =
    twice_by (twice c.args.limits.now.asked c.args.by c.args.again) _ _ _ _ _ _ (chunk c.args.low (drop c.args.low c.read_first.new.bytes)) c.read_again.result
    c.in_default.ensures.read (rw (came c.read_first.new.bytes c.args.low) at c.read_again.ensures.again)

pub returns-clause-apart : goal.returns-clause-apart
returns-clause-apart g c =
    apart_by (twice c.args.limits.now.asked c.args.by c.args.again) _ _ _ _ _ _ (chunk c.args.low (drop c.args.low c.read_first.new.bytes)) c.read_again.result
    c.in_default.ensures.cut (rw (came c.read_first.new.bytes c.args.low) at c.read_again.ensures.cut)
