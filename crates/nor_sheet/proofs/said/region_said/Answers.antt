use Rattle.std.proofs.Common.{map, arith}
use Rattle.std.proofs.lemmas.List.{length-map}
use Rattle.nor_sheet.proofs.FormLemmas.{region_form}
use Rattle.nor_sheet.proofs.said.region_said.Goals as goal

pub returns-in_default-clause-said : goal.returns-in_default-clause-said
returns-in_default-clause-said c =
    region_form (map (λ word. word.now) c.args.words.now) (λ e. omega (arith, e, c.in_default.len_below, length-map c.args.words.now (λ word. word.now)))

pub returns-in_default-2-clause-said : goal.returns-in_default-2-clause-said
returns-in_default-2-clause-said c =
    region_form (map (λ word. word.now) c.args.words.now) (λ e. omega (arith, e, c.in_default.len_at_least, length-map c.args.words.now (λ word. word.now)))
