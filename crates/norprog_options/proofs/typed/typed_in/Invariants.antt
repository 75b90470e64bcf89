-- The options of the first names.
use Rattle.std.proofs.Common.{◌≡◌, take, map}
use Rattle.clap.specs.Words.{found_of}
use Rattle.norprog_options.specs.Typed.{pair_of, typed_in}
use Rattle.norprog_options.proofs.typed.typed_in.Given as goal

abbrev pub invariant-loop-name : goal.invariant-loop-name
invariant-loop-name l = map pair_of l.typed.items ≡ typed_in (map (λ name. name.now) (take l.name-index l.names)) (found_of l.used)
