-- The chunks, and what is left of them.
use Rattle.std.proofs.Common.{◌∙◌}
use Rattle.nor_erase.specs.Bytes.{is_kept}
use Rattle.nor_erase.proofs.ChunkLemmas.{some_chunk, no_chunk}
use Rattle.nor_erase.proofs.bytes.dirty.Goals as goal

pub returns-then-dirty_chunks : goal.returns-then-dirty_chunks
returns-then-dirty_chunks c =
    c.if-dirty_chunks.true ∙ some_chunk is_kept 32 c.args.have.now c.args.want.now _ _ _ _ c.requires c.as_chunks.ensures.front c.as_chunks-2.ensures.front
    c.as_chunks.ensures.back c.as_chunks-2.ensures.back c.if-dirty_chunks.ensures

pub returns-else-dirty_chunks : goal.returns-else-dirty_chunks
returns-else-dirty_chunks c =
    no_chunk is_kept 32 c.args.have.now c.args.want.now _ _ _ _ _ c.requires c.as_chunks.ensures.front c.as_chunks-2.ensures.front
    c.as_chunks.ensures.back c.as_chunks-2.ensures.back c.if-dirty_chunks.ensures c.dirty_rest.ensures
