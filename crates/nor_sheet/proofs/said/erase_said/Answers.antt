use Rattle.std.proofs.Common.{◌∙◌, map, sym, arith, rules}
use Rattle.std.proofs.lemmas.List.{length-map}
use Rattle.nor_sheet.proofs.FormLemmas.{erase_form, kind_within}
use Rattle.nor_sheet.proofs.PowerLemmas.{erase_power}
use Rattle.nor_sheet.proofs.said.erase_said.Goals as goal

pub returns-in_default-clause-said : goal.returns-in_default-clause-said
returns-in_default-clause-said c =
    erase_form (map (λ word. word.now) c.args.words.now) (λ e. omega (arith, e, c.in_default.len_below, length-map c.args.words.now (λ word. word.now)))

pub returns-in_default-2-clause-said : goal.returns-in_default-2-clause-said
returns-in_default-2-clause-said c =
    erase_form (map (λ word. word.now) c.args.words.now) (λ e. omega (arith, e, c.in_default.len_at_least, length-map c.args.words.now (λ word. word.now)))

pub returns-clause-kept : goal.returns-clause-kept
returns-clause-kept c =
    let within = kind_within c.in_ok-kind.kind (sym c.is_kind.ensures ∙ c.if-not-is_kind.false) in (
      within.0,
      within.1,
      record {
        size = erase_power c.in_ok-size.size (sym c.is_erase_size.ensures ∙ c.if-not-is_erase_size.false);
        op = search rules;
        op4 = search rules;
      },
    )
