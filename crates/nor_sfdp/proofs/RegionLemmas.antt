-- The regions of a map, one at a time.
use Rattle.std.proofs.Common.{◌≡◌, ◌≢◌, ℕ, zero, suc, ◌+◌, ◌-◌, ◌/◌, ◌^◌, ◌<◌, ◌≤◌, false, eqb, List, [], ◌∷◌, ◌++◌, map, Ok, Err, refl, sym, ap, subst, ◌∙◌, arith}
use Rattle.std.specs.List.{range_with_len, AllByRecursion}
use Rattle.std.proofs.Math.Nat.{mod-lt, mul-mod_right, le_refl}
use Rattle.std.proofs.lemmas.Bool.{eq-eqb}
use Rattle.std.proofs.lemmas.List.FromFn.{map-range_with_len_more, sum_by-map-range_with_len_more}
use Rattle.nor_base.specs.declared.meaning.Region.{Region}
use Rattle.nor_base.specs.Accepted.{IsRegion}
use Rattle.nor_sfdp.specs.declared.fault.SfdpFault.TheVariants.{MapSize}
use Rattle.nor_sfdp.specs.declared.map.SectorMap.{SectorMap}
use Rattle.nor_sfdp.specs.Bits.{bits, word}
use Rattle.nor_sfdp.specs.SectorMap.{region_of, bytes_of, map_regions, regions_at}

-- the region of DWORD k
abbrev pub region_at : List ℕ → ℕ → Region
region_at table k = region_of (word table k)

-- the first n regions that stand from a DWORD on
abbrev pub regions_from : List ℕ → ℕ → ℕ → List Region
regions_from table first n = map (region_at table) (range_with_len first n)

pub one_region_more : (table : List ℕ) (first n : ℕ) → regions_from table first (n + 1) ≡ regions_from table first n ++ region_at table (first + n) ∷ []
one_region_more table first n = map-range_with_len_more (region_at table) first n (first + n) refl

pub bytes_more : (table : List ℕ) (first n : ℕ) → bytes_of (regions_from table first (n + 1)) ≡ bytes_of (regions_from table first n) + (region_at table (first + n)).size
bytes_more table first n = sum_by-map-range_with_len_more (λ (region : Region). region.size) (region_at table) first n (first + n) refl

bytes_grow : (table : List ℕ) (first n more : ℕ) → bytes_of (regions_from table first n) ≤ bytes_of (regions_from table first (n + more))
bytes_grow table first n zero =
    let same : n ≡ n + 0 = omega arith in
    subst (λ (m : ℕ). bytes_of (regions_from table first n) ≤ bytes_of (regions_from table first m)) same (le_refl (bytes_of (regions_from table first n)))
bytes_grow table first n (suc more) =
    let before = bytes_grow table first n more in
    let one = bytes_more table first (n + more) in
    let same : n + more + 1 ≡ n + suc more = omega arith in
    subst (λ (m : ℕ). bytes_of (regions_from table first n) ≤ bytes_of (regions_from table first m)) same (omega (arith, before, one))

unequal : (a b : ℕ) → a ≢ b → eqb a b ≡ false
unequal a b h = grind (arith, h)

-- regions that don't add up
pub bytes_differ : (table : List ℕ) (m : SectorMap) (size : ℕ) → bytes_of (map_regions table m) ≢ size → Err MapSize ≡ regions_at table m size
unfolding regions_at
bytes_differ table m size h = rw (unequal (bytes_of (map_regions table m)) size h) refl

-- regions that pass the size before the last
pub bytes_pass : (table : List ℕ) (m : SectorMap) (size n : ℕ) → n ≤ m.count → size < bytes_of (regions_from table m.first n) → Err MapSize ≡ regions_at table m size
bytes_pass table m size n le past =
    let grown = bytes_grow table m.first n (m.count - n) in
    let all : n + (m.count - n) ≡ m.count = omega arith in
    let least : bytes_of (regions_from table m.first n) ≤ bytes_of (map_regions table m) =
    subst (λ (k : ℕ). bytes_of (regions_from table m.first n) ≤ bytes_of (regions_from table m.first k)) all grown in
    bytes_differ table m size (λ e. absurd (omega (arith, e, least, past)))

-- regions that do
pub bytes_agree : (table : List ℕ) (m : SectorMap) (size : ℕ) → bytes_of (map_regions table m) ≡ size → Ok (map_regions table m) ≡ regions_at table m size
unfolding regions_at
bytes_agree table m size h = rw (eq-eqb (bytes_of (map_regions table m)) size h) refl

is_region : (dword : ℕ) → IsRegion (region_of dword)
is_region dword = record {
  some = omega arith;
  whole = mul-mod_right 256 (bits dword 31 8 + 1);
  mask = mod-lt (dword / 2 ^ 0) (omega arith);
}

pub are_regions : (table : List ℕ) (ks : List ℕ) → AllByRecursion IsRegion (map (region_at table) ks)
are_regions table [] = tt
are_regions table (k ∷ ks) = (is_region (word table k), are_regions table ks)

-- a region by its fields
same_region : (size kinds : ℕ) (region : Region) → size ≡ region.size → kinds ≡ region.kinds → record { size = size; kinds = kinds } ≡ region
same_region size kinds region s k = rw (s, k) refl

-- a region more
pub region_pushed : (table : List ℕ) (first n size kinds : ℕ) (before after : List Region) → after ≡ before ++ record { size = size; kinds = kinds } ∷ []
    → before ≡ regions_from table first n → size ≡ (region_at table (first + n)).size → kinds ≡ (region_at table (first + n)).kinds
    → after ≡ regions_from table first (n + 1)
region_pushed table first n size kinds before after pushed is s k =
    pushed ∙ ap (λ (region : Region). before ++ region ∷ []) (same_region size kinds (region_at table (first + n)) s k)
    ∙ ap (λ (regions : List Region). regions ++ region_at table (first + n) ∷ []) is ∙ sym (one_region_more table first n)
