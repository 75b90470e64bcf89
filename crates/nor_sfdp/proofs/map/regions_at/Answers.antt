-- One region more, and the sum at the end.
use Rattle.std.proofs.Common.{◌≡◌, ◌+◌, ℕ, List, Ok, sym, ap, subst, ◌∙◌, arith}
use Rattle.std.specs.List.{AllByRecursion, range_with_len}
use Rattle.nor_base.specs.declared.meaning.Region.{Region}
use Rattle.nor_base.specs.Accepted.{IsRegion}
use Rattle.nor_sfdp.specs.Bits.{bits}
use Rattle.nor_sfdp.specs.SectorMap.{region_of, bytes_of, map_regions}
use Rattle.nor_sfdp.proofs.RegionLemmas.{region_at, regions_from, region_pushed, bytes_more, bytes_differ, bytes_pass, bytes_agree, are_regions}
use Rattle.nor_sfdp.proofs.map.regions_at.Goals as goal

pub returns-then-total-size-clause-regions : goal.returns-then-total-size-clause-regions
returns-then-total-size-clause-regions c =
    let bytes : c.region_bytes-bytes.result ≡ (region_at c.args.table.now (c.args.map.first + c.loop-k.k)).size =
    c.region_bytes-bytes.ensures.value ∙ ap (λ (d : ℕ). (region_of d).size) c.word-dword.ensures in
    let more = bytes_more c.args.table.now c.args.map.first c.loop-k.k in
    bytes_pass c.args.table.now c.args.map c.args.size (c.loop-k.k + 1) (omega (arith, c.loop-k-test.true))
    (omega (arith, c.if-total-size.true, c.loop-k.invariant.total, bytes, more, c.from-size.ensures))

pub loop-k-preserved : goal.loop-k-preserved
loop-k-preserved c =
    let bytes : c.region_bytes-bytes.result ≡ (region_at c.args.table.now (c.args.map.first + c.loop-k.k)).size =
    c.region_bytes-bytes.ensures.value ∙ ap (λ (d : ℕ). (region_of d).size) c.word-dword.ensures in
    let kinds : c.bits.result ≡ (region_at c.args.table.now (c.args.map.first + c.loop-k.k)).kinds =
    c.bits.ensures.value ∙ ap (λ (d : ℕ). bits d 3 0) c.word-dword.ensures in
    let more = bytes_more c.args.table.now c.args.map.first c.loop-k.k in
    record {
      items = region_pushed c.args.table.now c.args.map.first c.loop-k.k _ _ c.loop-k.regions.items c.push.new.self.items c.push.ensures.items c.loop-k.invariant.items bytes kinds;
      count = omega (arith, c.push.ensures.len, c.loop-k.invariant.count);
      total = omega (arith, c.loop-k.invariant.total, bytes, more);
      within = c.if-total-size.false;
    }

pub returns-then-total-size-2-clause-regions : goal.returns-then-total-size-2-clause-regions
returns-then-total-size-2-clause-regions c =
    let all : c.loop-k.k ≡ c.args.map.count = omega (arith, c.loop-k-test.false, c.loop-k.auto.k-end) in
    let total : c.loop-k.total ≡ bytes_of (map_regions c.args.table.now c.args.map) =
    c.loop-k.invariant.total ∙ ap (λ (n : ℕ). bytes_of (regions_from c.args.table.now c.args.map.first n)) all in
    bytes_differ c.args.table.now c.args.map c.args.size (λ e. absurd (c.if-total-size-2.true (total ∙ e ∙ sym c.from-size.ensures)))

pub returns-clause-regions : goal.returns-clause-regions
returns-clause-regions c =
    let all : c.loop-k.k ≡ c.args.map.count = omega (arith, c.loop-k-test.false, c.loop-k.auto.k-end) in
    let items : c.loop-k.regions.items ≡ map_regions c.args.table.now c.args.map =
    c.loop-k.invariant.items ∙ ap (λ (n : ℕ). regions_from c.args.table.now c.args.map.first n) all in
    let total : bytes_of (map_regions c.args.table.now c.args.map) ≡ c.args.size =
    sym (c.loop-k.invariant.total ∙ ap (λ (n : ℕ). bytes_of (regions_from c.args.table.now c.args.map.first n)) all) ∙ c.if-total-size-2.false ∙ c.from-size.ensures in
    ap (λ (regions : List Region). Ok regions) items ∙ bytes_agree c.args.table.now c.args.map c.args.size total

pub returns-clause-form : goal.returns-clause-form
returns-clause-form c =
    subst (AllByRecursion IsRegion) (sym c.loop-k.invariant.items) (are_regions c.args.table.now (range_with_len c.args.map.first c.loop-k.k))
