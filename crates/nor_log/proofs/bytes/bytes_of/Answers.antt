use Rattle.std.proofs.Common.{sym, ◌∙◌}
use Rattle.nor_log.specs.Words.{bytes_of}
use Rattle.nor_log.proofs.TextLemmas.{spelled_further}
use Rattle.nor_log.proofs.bytes.bytes_of.Goals as goal

pub loop-rest-preserved : goal.loop-rest-preserved
loop-rest-preserved c =
    let more = spelled_further (bytes_of c.args.text.now) c.loop-rest.bytes.items c.loop-rest.rest.now (c.in-Some.byte, c.in-Some.more.now) c.loop-rest.invariant
    (sym c.is_blank.ensures ∙ c.if-is_blank.false) c.in-Some.ensures in
    rw c.in_ok-push.ensures.items more
