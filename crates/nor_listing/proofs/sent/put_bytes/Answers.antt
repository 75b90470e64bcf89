-- One more part, and a part that is cut.
use Rattle.std.proofs.Common.{◌∙◌, refl, arith}
use Rattle.nor_base.specs.Decoding.{instruction}
use Rattle.nor_base.proofs.DeviceLaws.{Writes-cut}
use Rattle.nor_decode.specs.Seen.{transaction_of}
use Rattle.nor_script.proofs.HexLemmas.{part_put, part_cut}
use Rattle.nor_listing.proofs.sent.put_bytes.Goals as goal

pub loop-done-preserved : goal.loop-done-preserved
loop-done-preserved g c = record {
  within = omega arith;
  put = part_put _ _ _ (instruction (transaction_of c.args.seen.now)).sent c.loop-done.done c.min-count.result _ refl c.loop-done.invariant.put c.in_ok-put_some.ensures.bytes;
  count = c.in_ok-put_some.ensures.count ∙ c.loop-done.invariant.count;
}

pub returns-in_err-put_some-clause-bytes : goal.returns-in_err-put_some-clause-bytes
returns-in_err-put_some-clause-bytes g c =
    Writes-cut _ _ _ _ c.from_residual.ensures.0
    (part_cut _ _ _ (instruction (transaction_of c.args.seen.now)).sent c.loop-done.done _ c.loop-done.invariant.put c.in_err-put_some.ensures.bytes)
