-- The values that were found are those of all uses.
use Rattle.std.proofs.Common.{◌≡◌, ◌++◌, ℕ, List, IfOk, map, rules, subst}
use Rattle.clap.specs.Words.{found_of}
use Rattle.norprog_options.specs.Options.{texts_of}
use Rattle.norprog_options.specs.Typed.{pair_of}
use Rattle.norprog_options.proofs.typed.add_typed.Goals as goal

pub returns-in-Some-clause-done : goal.returns-in-Some-clause-done
returns-in-Some-clause-done c =
    let same : map (λ value. value.now) c.in-Some.values.now ≡ texts_of (found_of c.args.used.now) c.args.name.now = search rules in
    subst (λ (texts : List (List ℕ)). IfOk c.add_values.result (λ x. map pair_of c.add_values.new.typed.items
    ≡ map pair_of c.args.typed.now.items ++ map (λ (text : List ℕ). (c.args.name.now, text)) texts)) same c.add_values.ensures.done
