use Rattle.std.proofs.Common.{◌≡◌, ◌≢◌, ◌∙◌, ◌++◌, map, length, sym, ap, arith}
use Rattle.std.proofs.lemmas.Bool.{eqb-true, eqb-false}
use Rattle.std.proofs.lemmas.List.{map_push, length-map}
use Rattle.nor_sheet.specs.Words.{split}
use Rattle.nor_sheet.proofs.WordLemmas.{word_more, no_more, too_many, few_enough}
use Rattle.nor_sheet.proofs.words.words.Goals as goal

pub returns-then-is_full : goal.returns-then-is_full
returns-then-is_full c =
    let full : length c.loop-word.words.items ≡ 5 = eqb-true (length c.loop-word.words.items) 5 (sym c.is_full.ensures.value ∙ c.if-is_full.true) in
    too_many _ _ c.loop-word.rest.now (c.in-Some.word.now, c.in-Some.more.now) c.loop-word.invariant.so c.in-Some.ensures
    (omega (arith, length-map c.loop-word.words.items (λ word. word.now), full))

pub loop-word-preserved : goal.loop-word-preserved
loop-word-preserved c =
    let room : length c.loop-word.words.items ≢ 5 = eqb-false (length c.loop-word.words.items) 5 (sym c.is_full.ensures.value ∙ c.if-is_full.false) in
    record {
      so =
          ap (λ words. map (λ word. word.now) words ++ split c.in-Some.more.now) c.push.ensures.items
          ∙ ap (λ words. words ++ split c.in-Some.more.now) (map_push (λ word. word.now) c.loop-word.words.items c.in-Some.word)
          ∙ word_more _ _ c.loop-word.rest.now (c.in-Some.word.now, c.in-Some.more.now) c.loop-word.invariant.so c.in-Some.ensures;
      few = omega (arith, c.push.ensures.len, room, c.loop-word.invariant.few);
    }

pub returns : goal.returns
returns c =
    few_enough _ _ (no_more _ _ c.loop-word.rest.now c.loop-word.invariant.so c.in_default.ensures)
    (omega (arith, length-map c.loop-word.words.items (λ word. word.now), c.loop-word.invariant.few))
