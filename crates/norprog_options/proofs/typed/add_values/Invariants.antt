-- The first values are there.
use Rattle.std.proofs.Common.{◌≡◌, ◌++◌, take, map}
use Rattle.norprog_options.specs.Typed.{pair_of}
use Rattle.norprog_options.proofs.typed.add_values.Given as goal

abbrev pub invariant-loop-value : goal.invariant-loop-value
invariant-loop-value l =
    map pair_of l.typed.items ≡ map pair_of l.fn.typed.items ++ map (λ text. (l.name, text)) (map (λ value. value.now) (take l.value-index l.values))
