-- The chunks, one after another, and what is left of them.
use Rattle.std.proofs.Common.{◌∙◌, arith}
use Rattle.nor_base.specs.Clocks.{nibbles}
use Rattle.nor_frames.proofs.ChunkLemmas.{chunk_put, chunks_done, spread_whole}
use Rattle.nor_frames.proofs.spread.spread4.Goals as goal

pub loop-j-preserved : goal.loop-j-preserved
loop-j-preserved c =
    chunk_put nibbles c.loop-j.j _ c.as_chunks.result.0.now c.loop-j.front c.copy_from_slice.new.self c.loop-j-test.true (omega arith) (omega arith) (c.copy_from_slice.ensures.after ∙ c.spread4_lanes.ensures) c.loop-j.invariant

pub returns : goal.returns
returns c =
    let chunks = chunks_done nibbles c.loop-j.j c.as_chunks.result.0.now c.loop-j.front c.loop-j-test.false (omega arith) c.loop-j.invariant in
    spread_whole nibbles 16 c.args.bytes.now _ _ _ _ chunks c.spread4_rest.ensures c.as_chunks.ensures.front c.as_chunks.ensures.back
