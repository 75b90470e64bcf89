-- The first byte that is due is the one found, and where none is none is found.
use Rattle.std.proofs.Common.{◌++◌, length, sym, ◌∙◌, ap, append-nil}
use Rattle.nor_outline.specs.Outline.{because}
use Rattle.nor_outline.specs.Parts.{due_in}
use Rattle.nor_outline.proofs.RangeLemmas.{find_none, find_some}
use Rattle.nor_outline.proofs.reasons.push_reason.Goals as goal

pub returns-in_default : goal.returns-in_default
returns-in_default c =
    sym (append-nil c.args.lines.now.items)
    ∙ ap (λ o. c.args.lines.now.items ++ because c.args.start o)
    (sym (find_none (due_in c.args.meaning.now c.args.have.now c.args.want.now c.args.start) (length c.args.have.now) c.args.start c.in_default.ensures))

pub returns : goal.returns
returns c =
    let f = c.in-Some.ensures in
    c.in_ok-push.ensures.items
    ∙ ap (λ o. c.args.lines.now.items ++ because c.args.start o)
    (sym (find_some (due_in c.args.meaning.now c.args.have.now c.args.want.now c.args.start) (length c.args.have.now) c.args.start c.in-Some.cause f.low f.high f.due f.before))
