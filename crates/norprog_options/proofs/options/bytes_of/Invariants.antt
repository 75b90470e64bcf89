-- The texts that were passed are there.
use Rattle.std.proofs.Common.{◌≡◌, map, take}
use Rattle.norprog_options.proofs.options.bytes_of.Given as goal

abbrev pub invariant-loop-text : goal.invariant-loop-text
invariant-loop-text l = l.each.items ≡ map (λ text. text.now) (take l.text-index l.texts)
