-- The chunks, and what is left of them.
use Rattle.std.proofs.Common.{◌∙◌}
use Rattle.nor_erase.specs.Bytes.{raises_bit}
use Rattle.nor_erase.proofs.ChunkLemmas.{some_chunk, no_chunk}
use Rattle.nor_erase.proofs.bytes.rises.Goals as goal

pub returns-then-rises_chunks : goal.returns-then-rises_chunks
returns-then-rises_chunks c =
    c.if-rises_chunks.true ∙ some_chunk raises_bit 32 c.args.have.now c.args.want.now _ _ _ _ c.requires c.as_chunks.ensures.front c.as_chunks-2.ensures.front
    c.as_chunks.ensures.back c.as_chunks-2.ensures.back c.if-rises_chunks.ensures

pub returns-else-rises_chunks : goal.returns-else-rises_chunks
returns-else-rises_chunks c =
    no_chunk raises_bit 32 c.args.have.now c.args.want.now _ _ _ _ _ c.requires c.as_chunks.ensures.front c.as_chunks-2.ensures.front
    c.as_chunks.ensures.back c.as_chunks-2.ensures.back c.if-rises_chunks.ensures c.rises_rest.ensures
