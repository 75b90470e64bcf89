-- Each map is passed, found, or refused.
use Rattle.std.proofs.Common.{◌≡◌, ◌+◌, ◌<◌, ◌≤◌, ℕ, Option, Ok, true, false, sym, ap, subst, ◌∙◌, arith}
use Rattle.std.specs.Prelude.{IfSome}
use Rattle.std.proofs.lemmas.Result.{err_from_is_err_and}
use Rattle.nor_sfdp.specs.declared.map.SectorMap.{SectorMap}
use Rattle.nor_sfdp.specs.Bits.{dword_count, word, is_set}
use Rattle.nor_sfdp.proofs.MapLemmas.{IsWalk, walk_begins, walk_ends, walk_refuses, walk_closes, walk_goes_on, found_holds}
use Rattle.nor_sfdp.proofs.map.first_map.Goals as goal

pub loop-at-init : goal.loop-at-init
loop-at-init c = record {
  low = c.requires.low;
  high = c.requires.high;
  walk = walk_begins c.args.table.now c.args.from c.args.id c.requires.low;
  count = tt;
  within = tt;
}

pub loop-at-preserved : goal.loop-at-preserved
loop-at-preserved c =
    let inside : c.loop-at.at ≤ dword_count c.args.table.now = omega (arith, c.loop-at-test.true, c.len-dwords.ensures.count) in
    let more : false ≡ is_set (word c.args.table.now c.loop-at.at) 0 = c.if-is_set.ensures ∙ ap (λ (d : ℕ). is_set d 0) c.word.ensures in
    let later : c.loop-at.at < c.in_ok-map.map.first + c.in_ok-map.map.count = omega (arith, c.in_ok-map.ensures.first) in
    record {
      low = omega (arith, later);
      high = c.in_ok-map.ensures.within;
      walk = subst (IsWalk c.args.table.now c.args.from c.args.id (c.in_ok-map.map.first + c.in_ok-map.map.count)) (sym c.found_or-found.ensures)
          (walk_goes_on c.args.table.now c.args.from c.args.id c.loop-at.at c.loop-at.found c.in_ok-map.map inside c.in_ok-map.ensures.map later more c.loop-at.invariant.walk);
      count = subst (λ (o : Option SectorMap). IfSome o (λ m. m.count ≤ 256)) (sym c.found_or-found.ensures)
          (found_holds (λ m. m.count ≤ 256) c.loop-at.found c.in_ok-map.map c.args.id c.loop-at.invariant.count c.in_ok-map.ensures.count);
      within = subst (λ (o : Option SectorMap). IfSome o (λ m. m.first + m.count ≤ dword_count c.args.table.now + 1)) (sym c.found_or-found.ensures)
          (found_holds (λ m. m.first + m.count ≤ dword_count c.args.table.now + 1) c.loop-at.found c.in_ok-map.map c.args.id c.loop-at.invariant.within c.in_ok-map.ensures.within);
    }

pub returns-in_err-map-clause-map : goal.returns-in_err-map-clause-map
returns-in_err-map-clause-map c =
    let p = err_from_is_err_and c.from_residual.result c.from_residual.ensures.1 in
    rw (p.1, p.2) (walk_refuses c.args.table.now c.args.from c.args.id c.loop-at.at c.loop-at.found _ (omega (arith, c.loop-at-test.true, c.len-dwords.ensures.count)) c.in_err-map.ensures.map c.loop-at.invariant.walk)

pub returns-then-is_set-clause-map : goal.returns-then-is_set-clause-map
returns-then-is_set-clause-map c =
    let inside : c.loop-at.at ≤ dword_count c.args.table.now = omega (arith, c.loop-at-test.true, c.len-dwords.ensures.count) in
    let last : true ≡ is_set (word c.args.table.now c.loop-at.at) 0 = c.if-is_set.ensures ∙ ap (λ (d : ℕ). is_set d 0) c.word.ensures in
    ap (λ (o : Option SectorMap). Ok o) c.found_or-found.ensures
    ∙ walk_closes c.args.table.now c.args.from c.args.id c.loop-at.at c.loop-at.found c.in_ok-map.map inside c.in_ok-map.ensures.map last c.loop-at.invariant.walk

pub returns-then-is_set-clause-count : goal.returns-then-is_set-clause-count
returns-then-is_set-clause-count c =
    subst (λ (o : Option SectorMap). IfSome o (λ m. m.count ≤ 256)) (sym c.found_or-found.ensures)
    (found_holds (λ m. m.count ≤ 256) c.loop-at.found c.in_ok-map.map c.args.id c.loop-at.invariant.count c.in_ok-map.ensures.count)

pub returns-then-is_set-clause-within : goal.returns-then-is_set-clause-within
returns-then-is_set-clause-within c =
    subst (λ (o : Option SectorMap). IfSome o (λ m. m.first + m.count ≤ dword_count c.args.table.now + 1)) (sym c.found_or-found.ensures)
    (found_holds (λ m. m.first + m.count ≤ dword_count c.args.table.now + 1) c.loop-at.found c.in_ok-map.map c.args.id c.loop-at.invariant.within c.in_ok-map.ensures.within)

pub returns-clause-map : goal.returns-clause-map
returns-clause-map c = walk_ends c.args.table.now c.args.from c.args.id c.loop-at.at c.loop-at.found (omega (arith, c.loop-at-test.false, c.len-dwords.ensures.count)) c.loop-at.invariant.walk
