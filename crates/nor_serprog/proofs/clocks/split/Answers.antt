-- The place of the first sample.
use Rattle.std.proofs.Common.{◌≡◌, length, rules}
use Rattle.std.specs.Prelude.{unwrap_or}
use Rattle.nor_serprog.specs.Carried.{is_sample}
use Rattle.nor_serprog.proofs.CarriedLemmas.{place_found}
use Rattle.nor_serprog.proofs.clocks.split.Goals as goal

pub returns-clause-first : goal.returns-clause-first
returns-clause-first c =
    let value : c.unwrap_or.result ≡ unwrap_or c.first_sample.result (length c.args.clocks.now) = search rules in
    let long : length c.split_at.result.0.now ≡ c.unwrap_or.result = search rules in
    let place = place_found is_sample c.args.clocks.now in cc
