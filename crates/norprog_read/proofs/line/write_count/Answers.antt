-- The parts joined are the line.
use Rattle.std.proofs.Common.{◌≡◌, ◌∙◌, true, Bool, subst, sym, rules}
use Rattle.nor_base.specs.Device.{Writes}
use Rattle.norprog_read.specs.Line.{content_line}
use Rattle.norprog_read.proofs.LineLemmas.{count_parts}
use Rattle.norprog_read.proofs.line.write_count.Goals as goal

pub returns-clause-bytes : goal.returns-clause-bytes
returns-clause-bytes g c =
    let wanted : c.args.wanted ≡ true = search rules in
    subst (λ (w : Bool). Writes (g.W.ByteOut.held c.args.writer.now) (g.W.ByteOut.held c.put_parts.new.writer) c.put_parts.result (content_line w c.args.content.now)) (sym wanted)
    (subst (Writes (g.W.ByteOut.held c.args.writer.now) (g.W.ByteOut.held c.put_parts.new.writer) c.put_parts.result)
    (count_parts c.args.content.now _ (c.as_bytes-digits.ensures.value ∙ c.format.ensures.text)) c.put_parts.ensures.bytes)
