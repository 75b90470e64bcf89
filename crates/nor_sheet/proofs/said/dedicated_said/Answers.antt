use Rattle.std.proofs.Common.{◌≡◌, ◌∙◌, true, false, map, refl, sym}
use Rattle.nor_sheet.specs.Said.{are_dedicated, is_dedicated, names, offers}
use Rattle.nor_sheet.proofs.FormLemmas.{any_shown, all_shown}
use Rattle.nor_sheet.proofs.said.dedicated_said.Goals as goal

pub returns-then-not-are_dedicated-clause-said : goal.returns-then-not-are_dedicated-clause-said
returns-then-not-are_dedicated-clause-said c =
    let tested : are_dedicated (map (λ word. word.now) c.args.words.now) ≡ false =
    sym (all_shown is_dedicated (λ word. word.now) c.args.words.now) ∙ sym c.are_dedicated.ensures ∙ c.if-not-are_dedicated.true in
    rw tested refl

pub returns-clause-said : goal.returns-clause-said
returns-clause-said c =
    let tested : are_dedicated (map (λ word. word.now) c.args.words.now) ≡ true =
    sym (all_shown is_dedicated (λ word. word.now) c.args.words.now) ∙ sym c.are_dedicated.ensures ∙ c.if-not-are_dedicated.false in
    let first : c.offers.result ≡ offers 0x13 (map (λ word. word.now) c.args.words.now) = c.offers.ensures ∙ any_shown (names 0x13) (λ word. word.now) c.args.words.now in
    let second : c.offers-2.result ≡ offers 0x6C (map (λ word. word.now) c.args.words.now) = c.offers-2.ensures ∙ any_shown (names 0x6C) (λ word. word.now) c.args.words.now in
    let third : c.offers-3.result ≡ offers 0x12 (map (λ word. word.now) c.args.words.now) = c.offers-3.ensures ∙ any_shown (names 0x12) (λ word. word.now) c.args.words.now in
    let fourth : c.offers-4.result ≡ offers 0x34 (map (λ word. word.now) c.args.words.now) = c.offers-4.ensures ∙ any_shown (names 0x34) (λ word. word.now) c.args.words.now in
    rw (tested, first, second, third, fourth) refl
