-- A region that lacks something, and those before it.
use Rattle.std.proofs.Common.{◌+◌, ◌-◌, refl, ap, arith}
use Rattle.std.proofs.lemmas.Option.{slice_get_read, slice_get_within}
use Rattle.nor_hex.specs.Image.{byte_at}
use Rattle.nor_layout.specs.Region.{Region}
use Rattle.norprog_common.proofs.RulesLemmas.{one_filled}
use Rattle.norprog_common.proofs.rules.gap_in.Goals as goal

pub loop-index-preserved : goal.loop-index-preserved
loop-index-preserved c =
    one_filled (byte_at c.args.image.now) c.args.base c.args.regions.now c.loop-index.index c.index-regions-index.result
    (slice_get_read c.args.regions.now _ c.loop-index.index c.index-regions-index.result refl c.loop-index-test.true c.index-regions-index.is)
    c.loop-index.invariant c.in_default.ensures

pub returns-in-Some : goal.returns-in-Some
returns-in-Some c = record {
  region = c.index-regions-index.result;
  here = slice_get_read c.args.regions.now _ c.loop-index.index c.index-regions-index.result refl c.loop-index-test.true c.index-regions-index.is;
  missing = c.in-Some.ensures;
  given = c.given_in.ensures;
  size = rw (c.from.ensures, c.from-in-Some.ensures) (ap (λ (r : Region). r.end + 1 - r.start) c.region.view_is);
  earlier = λ i other lt here. c.loop-index.invariant i other lt here;
}

pub returns : goal.returns
returns c = λ i region here.
    let within = slice_get_within c.args.regions.now i region here in
    let end = c.loop-index-test.false in c.loop-index.invariant i region (omega (arith, within, end)) here
