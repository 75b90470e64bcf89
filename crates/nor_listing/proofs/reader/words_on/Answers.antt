-- The number, and then the blank.
use Rattle.std.proofs.Common.{◌≡◌, ◌++◌, List, ℕ, rules}
use Rattle.std.specs.Prelude.{codes, decimal}
use Rattle.std.proofs.lemmas.Bool.Decides.{Decides-eqb}
use Rattle.std.proofs.lemmas.Slice.Eq.{strip_prefix_is}
use Rattle.nor_listing.proofs.ReadLemmas.{no_number, number_on}
use Rattle.nor_listing.proofs.reader.words_on.Goals as goal

pub returns-in_default : goal.returns-in_default
returns-in_default c =
    let digits : c.as_bytes.result.now ≡ decimal c.args.number = search rules in
    let none : (rest : List ℕ) → c.args.line.now ≡ c.as_bytes.result.now ++ rest → ⊥ =
    rw c.in_default.is at (strip_prefix_is Decides-eqb c.args.line.now c.as_bytes.result.now _ c.strip_prefix.ensures.cases) in
    no_number c.args.number c.args.line.now c.as_bytes.result.now digits none

pub returns : goal.returns
returns c =
    let digits : c.as_bytes.result.now ≡ decimal c.args.number = search rules in
    let front : c.args.line.now ≡ c.as_bytes.result.now ++ c.in-Some.rest.now =
    rw c.in-Some.is at (strip_prefix_is Decides-eqb c.args.line.now c.as_bytes.result.now _ c.strip_prefix.ensures.cases) in
    number_on c.args.number c.args.line.now c.as_bytes.result.now c.in-Some.rest.now digits front c.strip_prefix-2.result
    (strip_prefix_is Decides-eqb c.in-Some.rest.now (codes " ") _ c.strip_prefix-2.ensures.cases)
