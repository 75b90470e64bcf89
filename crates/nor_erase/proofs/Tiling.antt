-- A run of needed addresses, tiled from its low end.
use Rattle.std.proofs.Common.{◌≡◌, ◌⊎◌, ℕ, ◌+◌, ◌-◌, ◌%◌, ◌<◌, ◌≤◌, ◌==◌, Bool, true, false, List, Option, Some, None, refl, sym, ◌∙◌, ap, arith, inl, inr, eq-eqb, eqb-true}
use Rattle.std.proofs.lemmas.Bool.{cases_lt, both_ways}
use Rattle.nor_base.specs.declared.meaning.Start.{Start}
use Rattle.nor_base.specs.Parameters.{Parameters}
use Rattle.nor_base.specs.Accepted.{IsAccepted}
use Rattle.nor_base.specs.Blocks.{Block, IsLegalBlock, block_at, kinds, smallest}
use Rattle.nor_base.specs.Strategies.{strategy}
use Rattle.nor_base.specs.Need.{is_due, is_needed, lies_in_needed, erased_at, is_beyond, is_at_fault}
use Rattle.nor_geometry.specs.Legal.{IsReachedAt, IsSmallestAt}
use Rattle.nor_geometry.specs.Window.{IsUncrossed}
use Rattle.nor_geometry.proofs.KindLemmas.{placed, floor_is, legal_kind}
use Rattle.nor_erase.specs.Tiles.{IsLargestAt}
use Rattle.nor_plan_laws.proofs.Erased.Best.{none_small}
use Rattle.nor_plan_laws.proofs.Erased.Erasing.{can_erase, erased_all, there}
use Rattle.nor_base.proofs.StretchLaws.{all_over}
use Rattle.nor_plan_laws.proofs.Erased.Reached.{four, small, has_block, erased_where_due}
use Rattle.nor_plan_laws.proofs.Erased.Needed.{needed_caused, holds_smallest, erases_largest, some_of, all_at}
use Rattle.nor_erase.proofs.Runs.{IsErasedAt, erased_is, at_address, lowest_kind}

-- a part of the chip whose ends no legal block crosses
pub record IsIn (m : Parameters) (at end : ℕ) : Type 0 where
  pub accepted : IsAccepted m
  pub low : (b : Block) → IsLegalBlock m b → IsUncrossed at b.start b.size
  pub high : (b : Block) → IsLegalBlock m b → IsUncrossed end b.start b.size
  pub inside : end ≤ m.size

-- all is needed from `low` up to `high`; no erased block crosses the first and no smallest block of a due byte the second
pub record IsRunTo (m : Parameters) (start : Start) (have want : List ℕ) (at low high : ℕ) : Type 0 where
  pub needed : (x : ℕ) → low ≤ x → x < high → is_needed m (is_due m have want) x ≡ true
  pub border : (x : ℕ) (c : Block) → erased_at m (strategy m start) (is_due m have want) x ≡ Some c → IsUncrossed low c.start c.size
  pub uncut : (cause : ℕ) (s : Block) → is_due m have want cause ≡ true → smallest m cause ≡ Some s → IsUncrossed high s.start s.size
  pub sound : (x : ℕ) → at ≤ x → x < high → is_at_fault m (strategy m start) have want x ≡ false

-- what is needed below `high` is erased
pub erased_here : (m : Parameters) (start : Start) (have want : List ℕ) (at end low high y : ℕ) → IsIn m at end → IsRunTo m start have want at low high
    → at ≤ y → y < high → is_needed m (is_due m have want) y ≡ true → (b : Block) × (erased_at m (strategy m start) (is_due m have want) y ≡ Some b)
erased_here m start have want at end low high y w r from upto needed =
    let c = needed_caused m (is_due m have want) y needed in
    let s = small m c.cause c.block w.accepted c.is in
    let in_high : c.block.start + c.block.size ≤ high = r.uncut c.cause c.block c.is_due c.is (omega (arith, c.low)) in
    let in_low : at ≤ c.block.start = elim (cases_lt c.block.start at) [
      | inl before ↦ let apart = w.low c.block s.is.legal_block before in absurd (omega (arith, apart, c.high))
      | inr fits ↦ fits
    ] in
    let sound = r.sound c.cause (omega (arith, in_low, s.is.low)) (omega (arith, in_high, s.is.high)) in
    let o = erased_where_due m start have want c.cause w.accepted c.inside sound c.is_due in
    let b = some_of (erased_at m (strategy m start) (is_due m have want) c.cause) o in
    let e = erased_is m (strategy m start) (is_due m have want) c.cause b.0 w.accepted b.1 in
    let lies = holds_smallest m c.cause b.0.kind b.0 c.block w.accepted (at_address m c.cause b.0 w.accepted e.reached.legal e.reached.here) c.is in
    (b.0, erased_all m (strategy m start) (is_due m have want) c.cause y b.0 w.accepted b.1 (omega (arith, lies.0, c.low)) (omega (arith, lies.1, c.high)))

abbrev pub Stops : Parameters → (ℕ → Bool) → ℕ → ℕ → Type 0
Stops m due high end = (high ≡ end) ⊎ (is_needed m due high ≡ false)

-- the erased block at the low end of a run
pub record IsFirst (m : Parameters) (start : Start) (have want : List ℕ) (low high : ℕ) (e : Block) : Type 0 where
  pub erased : erased_at m (strategy m start) (is_due m have want) low ≡ Some e
  pub is : IsErasedAt m (strategy m start) (is_due m have want) low e
  pub starts : e.start ≡ low
  pub fits : e.start + e.size ≤ high

pub first_erased : (m : Parameters) (start : Start) (have want : List ℕ) (at end low high : ℕ) → IsIn m at end → IsRunTo m start have want at low high
    → at ≤ low → low < high → high ≤ end → Stops m (is_due m have want) high end → (e : Block) × IsFirst m start have want low high e
first_erased m start have want at end low high w r from some upto stops =
    let e = erased_here m start have want at end low high low w r from some (r.needed low (omega arith) some) in
    let is = erased_is m (strategy m start) (is_due m have want) low e.0 w.accepted e.1 in
    let starts : e.0.start ≡ low = elim (cases_lt e.0.start low) [
      | inl before ↦ let apart = r.border low e.0 e.1 before in absurd (omega (arith, apart, is.reached.here.1))
      | inr fits ↦ omega (arith, is.reached.here.0)
    ] in
    let fits : e.0.start + e.0.size ≤ high = elim (cases_lt high (e.0.start + e.0.size)) [
      | inl past ↦ elim stops [
        | inl last ↦ let apart = w.high e.0 is.reached.legal (omega arith) in absurd (omega (arith, apart))
        | inr none ↦ absurd (both_ways (is_needed m (is_due m have want) high) none (is.needed high (omega arith) past))
      ]
      | inr fits ↦ fits
    ] in
    (e.0, record { erased = e.1; is = is; starts = starts; fits = fits })

abbrev made : ℕ → ℕ → ℕ → Block
made start size kind = record { start = start; size = size; kind = kind }

-- it is the largest that fits
pub tile_is : (m : Parameters) (start : Start) (have want : List ℕ) (at end low high : ℕ) (b : Block) → IsIn m at end → IsRunTo m start have want at low high
    → at ≤ low → low < high → high ≤ end → Stops m (is_due m have want) high end → IsLargestAt m (strategy m start) low high b
    → erased_at m (strategy m start) (is_due m have want) low ≡ Some b
unfolding lies_in_needed
tile_is m start have want at end low high b w r from some upto stops largest =
    let e = first_erased m start have want at end low high w r from some upto stops in
    let f = e.1 in
    let most : e.0.size ≤ b.size = largest.most e.0 f.is.reached f.starts f.fits in
    let needed : (x : ℕ) → b.start ≤ x → x < b.start + b.size → is_needed m (is_due m have want) x ≡ true =
    λ x low_x high_x. r.needed x (omega (arith, largest.start)) (omega (arith, largest.fits)) in
    let g = erases_largest m (strategy m start) (is_due m have want) b w.accepted largest.listed.is.legal largest.listed.is.reached (λ x held. needed x held.0 held.1) in
    let both : Some e.0 ≡ Some g.0 = sym f.erased ∙ ap (erased_at m (strategy m start) (is_due m have want)) (sym largest.start) ∙ g.1 in
    let same : e.0 ≡ g.0 = cc in
    let start_same : e.0.start ≡ g.0.start = ap (λ (d : Block). d.start) same in
    let size_same : e.0.size ≡ g.0.size = ap (λ (d : Block). d.size) same in
    let size : e.0.size ≡ b.size = omega (arith, most, g.2.0, g.2.1, largest.start, f.starts) in
    let low_kind : b.kind ≤ e.0.kind = largest.listed.lowest e.0 f.is.reached size in
    let lies = all_over (is_needed m (is_due m have want)) b.size b.start needed in
    let high_kind : e.0.kind ≤ b.kind = lowest_kind m (strategy m start) (is_due m have want) low e.0 b w.accepted f.erased largest.listed.is lies (omega arith) in
    let kind : e.0.kind ≡ b.kind = omega arith in
    let starts : e.0.start ≡ b.start = f.starts ∙ sym largest.start in
    let equal : e.0 ≡ b = ap (λ n. made n e.0.size e.0.kind) starts ∙ ap (λ n. made b.start n e.0.kind) size ∙ ap (made b.start b.size) kind in
    f.erased ∙ ap (λ (d : Block). Some d) equal

-- and the run goes on after it
pub tile_rest : (m : Parameters) (start : Start) (have want : List ℕ) (at low high : ℕ) (b : Block) → IsAccepted m → IsRunTo m start have want at low high
    → b.start ≡ low → erased_at m (strategy m start) (is_due m have want) low ≡ Some b → IsRunTo m start have want at (low + b.size) high
tile_rest m start have want at low high b accepted r starts erased = record {
  needed = λ x from upto. r.needed x (omega arith) upto;
  border = λ x c is before. elim (cases_lt c.start low) [
    | inl first ↦ let apart = r.border x c is first in omega (arith, apart)
    | inr later ↦
        let e = erased_is m (strategy m start) (is_due m have want) x c accepted is in
        let of_c = erased_all m (strategy m start) (is_due m have want) x c.start c accepted is (omega arith) (omega (arith, e.reached.here.0, e.reached.here.1)) in
        let of_b = erased_all m (strategy m start) (is_due m have want) low c.start b accepted erased (omega arith) (omega arith) in
        let both : Some b ≡ Some c = sym of_b ∙ of_c in
        let same : b ≡ c = cc in
        let start_same : b.start ≡ c.start = ap (λ (d : Block). d.start) same in
        let size_same : b.size ≡ c.size = ap (λ (d : Block). d.size) same in
        omega arith
  ];
  uncut = r.uncut;
  sound = r.sound;
}

-- the strategy's smallest block at an address that is due has the addresses of the smallest
pub record IsSame (m : Parameters) (a : ℕ) (b s : Block) : Type 0 where
  pub is : smallest m a ≡ Some s
  pub start : s.start ≡ b.start
  pub size : s.size ≡ b.size

abbrev just : ℕ → ℕ → Bool
just a x = x == a

-- the strategy has a block at such an address that lies in the smallest one
reached_within : (m : Parameters) (start : Start) (a : ℕ) (s : Block) → IsAccepted m → is_beyond (strategy m start) a ≡ false → smallest m a ≡ Some s
    → (h : Block) × IsReachedAt m (strategy m start) a h × (h.size ≤ s.size)
unfolding lies_in_needed
reached_within m start a s accepted near is =
    let u = small m a s accepted is in
    let inside : a < m.size = omega (arith, u.is.high, u.is.inside) in
    let here : a == a ≡ true = eq-eqb a a refl in
    let h = has_block m start (strategy m start) (just a) a s refl accepted inside here near is in
    let e = can_erase m (strategy m start) (just a) a h.kind h.block h.is in
    let t = there m a h.kind h.block accepted e.at in
    let last : ℕ = h.block.start + h.block.size - 1 in
    let c = needed_caused m (just a) h.block.start (all_at (is_needed m (just a)) h.block.size h.block.start h.block.start e.needed (omega arith) (omega (arith, t.some))) in
    let d = needed_caused m (just a) (h.block.start + h.block.size - 1)
    (all_at (is_needed m (just a)) h.block.size h.block.start (h.block.start + h.block.size - 1) e.needed (omega (arith, t.some)) (omega (arith, t.some))) in
    let c_at : c.cause ≡ a = eqb-true c.cause a c.is_due in
    let d_at : d.cause ≡ a = eqb-true d.cause a d.is_due in
    let c_is : Some c.block ≡ Some s = sym c.is ∙ ap (smallest m) c_at ∙ is in
    let d_is : Some d.block ≡ Some s = sym d.is ∙ ap (smallest m) d_at ∙ is in
    let c_same : c.block ≡ s = cc in
    let d_same : d.block ≡ s = cc in
    let c_start : c.block.start ≡ s.start = ap (λ (x : Block). x.start) c_same in
    let d_start : d.block.start ≡ s.start = ap (λ (x : Block). x.start) d_same in
    let d_size : d.block.size ≡ s.size = ap (λ (x : Block). x.size) d_same in (
      h.block,
      record { legal = t.legal_block; here = (t.low, t.high); reached = e.reached },
      omega (arith, t.some, c.low, d.high, c_start, d_start, d_size),
    )

pub none_smallest : (m : Parameters) (start : Start) (a : ℕ) → IsAccepted m → is_beyond (strategy m start) a ≡ false
    → ((b : Block) → IsReachedAt m (strategy m start) a b → ⊥) → smallest m a ≡ None
none_smallest m start a accepted near none = by_found (smallest m a) refl
  where
    by_found : (o : Option Block) → smallest m a ≡ o → smallest m a ≡ None
    by_found None is = is
    by_found (Some s) is = let h = reached_within m start a s accepted near is in absurd (none h.0 h.1)

pub smallest_same : (m : Parameters) (start : Start) (a : ℕ) (b : Block) → IsAccepted m → is_beyond (strategy m start) a ≡ false → IsSmallestAt m (strategy m start) a b
    → (s : Block) × IsSame m a b s
unfolding smallest
smallest_same m start a b accepted near h = by_found (smallest m a) refl
  where
    by_found : (o : Option Block) → smallest m a ≡ o → (s : Block) × IsSame m a b s
    by_found None is =
        let r = h.listed.is in
        absurd (none_small (block_at m a) kinds is b.kind b (four m b.kind accepted (legal_kind m b.kind b.start r.legal.legal)) (at_address m a b accepted r.legal r.here))
    by_found (Some s) is =
        let u = small m a s accepted is in
        let g = reached_within m start a s accepted near is in
        let fits : b.size ≤ g.0.size = h.least g.0 g.1 in
        let least : s.size ≤ b.size = u.least b.kind b (at_address m a b accepted h.listed.is.legal h.listed.is.here) in
        let size : s.size ≡ b.size = let more = g.2 in omega arith in
        let p = placed m b accepted h.listed.is.legal in
        let q = placed m s accepted u.is.legal_block in
        let starts : s.start ≡ b.start =
        floor_is s.size s.start a q.some q.aligned u.is.low u.is.high ∙ ap (λ n. a - a % n) size
        ∙ sym (floor_is b.size b.start a p.some p.aligned h.listed.is.here.0 h.listed.is.here.1) in
        (s, record { is = is; start = starts; size = size })
