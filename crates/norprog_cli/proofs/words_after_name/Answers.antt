-- The words are what is left once the first is skipped.
use Rattle.std.proofs.Common.{◌≡◌, ◌∙◌, IfOk, ap, drop, subst}
use Rattle.std.specs.Vec.Iter.{into_iter_items, into_iter_len}
use Rattle.std.proofs.lemmas.Iterator.{items_from_collect}
use Rattle.std.proofs.lemmas.Iterator.Adapters.{YieldsList-from_skip, YieldsList-from_vec}
use Rattle.norprog_cli.proofs.words_after_name.Goals as goal

pub returns-in-Ok-clause-words : goal.returns-in-Ok-clause-words
returns-in-Ok-clause-words c =
    let items = into_iter_items c.args.words in
    let rest = YieldsList-from_skip 1 (YieldsList-from_vec items (ap into_iter_items c.skip.ensures.source) (ap into_iter_len c.skip.ensures.source ∙ c.args.words.rest.ok.0))
    c.skip.ensures.count in
    subst (λ r. IfOk r (λ found. found.items ≡ drop 1 items)) c.in-Ok.is (items_from_collect _ c.collect.ensures.ran rest)
