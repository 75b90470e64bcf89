-- The place of the first sample.
use Rattle.std.proofs.Common.{◌≡◌, length, rules}
use Rattle.std.specs.Prelude.{unwrap_or}
use Rattle.nor_serprog.specs.Carried.{is_sample}
use Rattle.nor_flasher.proofs.OperationLemmas.{place_found, place_within}
use Rattle.nor_flasher.proofs.kept.count_bits.Goals as goal

pub returns : goal.returns
returns c =
    let value : c.unwrap_or.result ≡ unwrap_or c.first_sample.result (length c.args.clocks.now) = search rules in
    let place = place_found is_sample c.args.clocks.now in
    let within = place_within is_sample c.args.clocks.now in
    record { count = cc; within = search rules }
