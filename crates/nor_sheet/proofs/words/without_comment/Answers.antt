use Rattle.std.proofs.Common.{take, sym, ap, arith}
use Rattle.std.proofs.lemmas.Grind.{common_steps}
use Rattle.nor_sheet.specs.Words.{is_hash}
use Rattle.nor_sheet.proofs.WordLemmas.{place_is, no_place}
use Rattle.nor_sheet.proofs.words.without_comment.Goals as goal

pub returns-in-Some : goal.returns-in-Some
returns-in-Some c = ap (λ n. take n c.args.line.now) (sym (place_is is_hash c.args.line.now c.in-Some.place c.in-Some.ensures))

pub returns-in-None : goal.returns-in-None
returns-in-None c =
    let past = no_place is_hash c.args.line.now c.in-None.ensures in
    grind (arith, common_steps, past)
