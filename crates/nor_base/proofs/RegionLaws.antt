-- A block in one region, by the region's number.
use Rattle.std.proofs.Common.{◌≡◌, ℕ, zero, suc, ◌+◌, ◌≤◌, ◌%◌, ◌==◌, nat_le, Bool, true, false, ◌&&◌, ◌||◌, List, [], ◌∷◌, take, Option, Some, None, option_map, refl, ◌∙◌, ap, subst, arith, eq-eqb, leb-true, le-leb}
use Rattle.std.proofs.lemmas.Bool.{and_parts}
use Rattle.std.proofs.Math.Bool.{or-true}
use Rattle.std.specs.Prelude.{slice_get, sum_by}
use Rattle.std.specs.Option.{option_map_or}
use Rattle.std.proofs.lemmas.List.Sums.{sum_by-cons}
use Rattle.nor_base.specs.declared.meaning.Erase.{Erase}
use Rattle.nor_base.specs.declared.meaning.Region.{Region}
use Rattle.nor_base.specs.Parameters.{Parameters, erase_kind, allows}
use Rattle.nor_base.specs.Accepted.{IsAccepted}
use Rattle.nor_base.specs.Blocks.{Block, IsLegalBlock, is_legal, lies_in_one, LiesInRegion}

abbrev bytes_of : Region → ℕ
bytes_of region = region.size

-- the block lies in the region of a number, the first region beginning at base
record LiesFrom (base : ℕ) (regions : List Region) (kind start size : ℕ) : Type 0 where
  number : ℕ
  region : Region
  there : slice_get regions number ≡ Some region
  from : base + sum_by (λ r. r.size) (take number regions) ≤ start
  upto : start + size ≤ (base + sum_by (λ r. r.size) (take number regions)) + region.size
  allowed : allows region kind ≡ true

lies_here : (base : ℕ) (region : Region) (regions : List Region) (kind start size : ℕ)
    → nat_le base start && (nat_le (start + size) (base + region.size) && allows region kind) ≡ true → LiesFrom base (region ∷ regions) kind start size
lies_here base region regions kind start size h =
    let rest = (and_parts (nat_le base start) _ h).1 in record {
      number = 0;
      region = region;
      there = refl;
      from = omega (arith, leb-true base start (and_parts (nat_le base start) _ h).0);
      upto = omega (arith, leb-true (start + size) (base + region.size) (and_parts _ (allows region kind) rest).0);
      allowed = (and_parts (nat_le (start + size) (base + region.size)) _ rest).1;
    }

lies_later : (base : ℕ) (first : Region) (regions : List Region) (kind start size : ℕ)
    → LiesFrom (base + first.size) regions kind start size → LiesFrom base (first ∷ regions) kind start size
lies_later base first regions kind start size h =
    let sums : sum_by (λ (r : Region). r.size) (first ∷ take h.number regions) ≡ first.size + sum_by (λ (r : Region). r.size) (take h.number regions) =
    sum_by-cons (λ (r : Region). r.size) first (take h.number regions) in record {
      number = suc h.number;
      region = h.region;
      there = h.there;
      from = omega (arith, sums, h.from);
      upto = omega (arith, sums, h.upto);
      allowed = h.allowed;
    }

lies_step : (base : ℕ) (region : Region) (regions : List Region) (kind start size : ℕ) (b : Bool)
    → nat_le base start && (nat_le (start + size) (base + region.size) && allows region kind) ≡ b
    → (lies_in_one (base + region.size) regions kind start size ≡ true → LiesFrom (base + region.size) regions kind start size)
    → b || lies_in_one (base + region.size) regions kind start size ≡ true → LiesFrom base (region ∷ regions) kind start size
lies_step base region regions kind start size true is later h = lies_here base region regions kind start size is
lies_step base region regions kind start size false is later h = lies_later base region regions kind start size (later h)

lies_from : (base : ℕ) (regions : List Region) (kind start size : ℕ) → lies_in_one base regions kind start size ≡ true → LiesFrom base regions kind start size
lies_from base [] kind start size h = cc
lies_from base (region ∷ regions) kind start size h =
    lies_step base region regions kind start size _ refl (lies_from (base + region.size) regions kind start size) h

in_one : (base : ℕ) (regions : List Region) (kind start size number : ℕ) (region : Region) → slice_get regions number ≡ Some region
    → base + sum_by (λ r. r.size) (take number regions) ≤ start → start + size ≤ (base + sum_by (λ r. r.size) (take number regions)) + region.size
    → allows region kind ≡ true → lies_in_one base regions kind start size ≡ true
in_one base [] kind start size number region there from upto allowed = cc
in_one base (first ∷ regions) kind start size zero region there from upto allowed =
    let same : first ≡ region = cc in
    let allows_too : allows first kind ≡ true = ap (λ r. allows r kind) same ∙ allowed in
    let sizes : first.size ≡ region.size = ap bytes_of same in
    rw (le-leb base start (omega arith), le-leb (start + size) (base + first.size) (omega (arith, sizes)), allows_too) refl
in_one base (first ∷ regions) kind start size (suc number) region there from upto allowed =
    let sums : sum_by (λ (r : Region). r.size) (first ∷ take number regions) ≡ first.size + sum_by (λ (r : Region). r.size) (take number regions) =
    sum_by-cons (λ (r : Region). r.size) first (take number regions) in
    rw (in_one (base + first.size) regions kind start size number region there (omega (arith, sums)) (omega (arith, sums)) allowed) (or-true _)

legal_lies : (m : Parameters) (b : Block) (slot : Option Erase) → option_map (λ (erase : Erase). erase.size) slot ≡ Some b.size
    → option_map_or (λ (erase : Erase). (b.start % erase.size == 0) && lies_in_one 0 m.regions b.kind b.start erase.size) slot false ≡ true
    → lies_in_one 0 m.regions b.kind b.start b.size ≡ true
legal_lies m b None size legal = cc
legal_lies m b (Some erase) size legal =
    let same : erase.size ≡ b.size = cc in
    subst (λ n. lies_in_one 0 m.regions b.kind b.start n ≡ true) same (and_parts (b.start % erase.size == 0) _ legal).1

pub legal_in_region : (m : Parameters) (b : Block) → IsLegalBlock m b → LiesInRegion m b
unfolding is_legal
legal_in_region m b legal =
    let lies = lies_from 0 m.regions b.kind b.start b.size (legal_lies m b (erase_kind m b.kind) legal.size legal.legal) in record {
      number = lies.number;
      region = lies.region;
      there = lies.there;
      from = omega (arith, lies.from);
      upto = omega (arith, lies.upto);
      allowed = lies.allowed;
    }

legal_slot : (m : Parameters) (b : Block) (slot : Option Erase) → option_map (λ (erase : Erase). erase.size) slot ≡ Some b.size
    → b.start % b.size ≡ 0 → lies_in_one 0 m.regions b.kind b.start b.size ≡ true
    → option_map_or (λ (erase : Erase). (b.start % erase.size == 0) && lies_in_one 0 m.regions b.kind b.start erase.size) slot false ≡ true
legal_slot m b None size aligned lies = cc
legal_slot m b (Some erase) size aligned lies =
    let same : b.size ≡ erase.size = cc in
    subst (λ n. (b.start % n == 0) && lies_in_one 0 m.regions b.kind b.start n ≡ true) same
    (rw (eq-eqb (b.start % b.size) 0 aligned) lies)

pub region_legal : (m : Parameters) (b : Block) → option_map (λ (erase : Erase). erase.size) (erase_kind m b.kind) ≡ Some b.size → b.start % b.size ≡ 0
    → LiesInRegion m b → IsLegalBlock m b
unfolding is_legal
region_legal m b size aligned lies = record {
  size = size;
  legal = legal_slot m b (erase_kind m b.kind) size aligned
      (in_one 0 m.regions b.kind b.start b.size lies.number lies.region lies.there (omega (arith, lies.from)) (omega (arith, lies.upto)) lies.allowed);
}

-- a region ends within all of them
within_all : (regions : List Region) (number : ℕ) (region : Region) → slice_get regions number ≡ Some region
    → sum_by (λ r. r.size) (take number regions) + region.size ≤ sum_by (λ r. r.size) regions
within_all [] number region there = cc
within_all (first ∷ regions) zero region there =
    let sizes : first.size ≡ region.size = let same : first ≡ region = cc in ap bytes_of same in
    omega (arith, sizes, sum_by-cons (λ (r : Region). r.size) first regions)
within_all (first ∷ regions) (suc number) region there =
    omega (arith, within_all regions number region there, sum_by-cons (λ (r : Region). r.size) first (take number regions), sum_by-cons (λ (r : Region). r.size) first regions)

pub legal_on_chip : (m : Parameters) (b : Block) → IsAccepted m → IsLegalBlock m b → b.start + b.size ≤ m.size
legal_on_chip m b accepted legal =
    let lies = legal_in_region m b legal in
    omega (arith, lies.upto, within_all m.regions lies.number lies.region lies.there, accepted.regions_fill)
