-- Lane by lane.
use Rattle.std.proofs.Common.{rules}
use Rattle.nor_frames.proofs.LaneLemmas.{sixteen_bytes}
use Rattle.nor_frames.proofs.spread.spread4_lanes.Goals as goal

pub returns : goal.returns
returns c = sixteen_bytes c.args.bytes.now c.told-bytes (search rules)
