use Rattle.std.proofs.Common.{take, sym, ap, arith}
use Rattle.std.proofs.lemmas.Grind.{common_steps}
use Rattle.nor_lines.specs.Lines.{is_blank}
use Rattle.nor_sheet.proofs.WordLemmas.{place_is, no_place}
use Rattle.nor_sheet.proofs.words.cut.Goals as goal

pub returns-in-Some-clause-before : goal.returns-in-Some-clause-before
returns-in-Some-clause-before c = ap (λ n. take n c.args.text.now) (sym (place_is is_blank c.args.text.now c.in-Some.place c.in-Some.ensures))

pub returns-in-Some-clause-after : goal.returns-in-Some-clause-after
returns-in-Some-clause-after c =
    let is = place_is is_blank c.args.text.now c.in-Some.place c.in-Some.ensures in
    rw is (grind (arith, common_steps))

pub returns-in-None-clause-before : goal.returns-in-None-clause-before
returns-in-None-clause-before c =
    let past = no_place is_blank c.args.text.now c.in-None.ensures in
    grind (arith, common_steps, past)

pub returns-in-None-clause-after : goal.returns-in-None-clause-after
returns-in-None-clause-after c =
    let past = no_place is_blank c.args.text.now c.in-None.ensures in
    grind (arith, common_steps, past)
