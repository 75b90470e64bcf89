-- Lane by lane.
use Rattle.std.proofs.Common.{rules}
use Rattle.nor_frames.proofs.LaneLemmas.{four_bytes}
use Rattle.nor_frames.proofs.spread.spread1_lanes.Goals as goal

pub returns : goal.returns
returns c = four_bytes c.args.bytes.now c.told-bytes (search rules)
