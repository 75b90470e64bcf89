-- The next chosen addresses, and the image's next bytes from there on.
use Rattle.std.proofs.Common.{◌≡◌, ◌∙◌, ◌+◌, ◌-◌, ap, max, rules, subst}
use Rattle.nor_layout.specs.Chosen.{has, IsChosenRun}
use Rattle.norprog_flash.proofs.NearLemmas.{piece_is}
use Rattle.norprog_flash.proofs.near.next_piece.Goals as goal

pub returns : goal.returns
returns c =
    let from : c.in_ok-from.from ≡ c.args.done = search rules in
    let start : c.in_ok-start.start ≡ c.args.base + c.in_ok-first.first = search rules in
    piece_is c.args.image.now c.args.base c.args.done c.in_ok-start.start c.in_ok-first.first c.in_ok-first.last c.in_ok-at.at c.max.result c.in_ok-at.run'.now
    (has c.args.chosen.now) (subst (λ n. IsChosenRun (has c.args.chosen.now) n c.in_ok-first.first c.in_ok-first.last) from c.in_ok-first.ensures) start c.in_ok-at.ensures
    (c.max.ensures ∙ ap (λ n. max n (c.in_ok-at.at - c.args.base)) c.min-end.ensures)
