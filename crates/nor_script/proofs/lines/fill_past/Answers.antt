-- What the device gave stands behind the first bytes.
use Rattle.std.proofs.Common.{◌≡◌, ◌-◌, length, rules}
use Rattle.nor_script.proofs.SliceLemmas.{filled_past}
use Rattle.nor_script.proofs.lines.fill_past.Goals as goal

pub returns-clause-bytes : goal.returns-clause-bytes
returns-clause-bytes g c =
    let size : length c.take.new.out ≡ length c.args.buffer.now - c.args.upto = search rules in
    filled_past _ _ c.args.buffer.now c.take.new.out c.args.upto _ c.take.result c.requires.upto size c.take.ensures.bytes
