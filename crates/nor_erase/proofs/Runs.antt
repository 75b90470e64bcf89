-- Smallest blocks don't overlap in part, and what is erased of a run.
use Rattle.std.proofs.Common.{◌≡◌, ◌⊎◌, ℕ, zero, suc, ◌+◌, ◌-◌, ◌%◌, ◌<◌, ◌≤◌, Bool, true, false, ◌&&◌, List, [], ◌∷◌, take, Option, Some, sym, ◌∙◌, ap, arith, inl, inr}
use Rattle.std.specs.Prelude.{slice_get, sum_by}
use Rattle.std.specs.Option.{option_map_or}
use Rattle.std.proofs.Math.Nat.{mod-lt, mod-le, mod-add-mod}
use Rattle.std.proofs.lemmas.Bool.{cases_lt}
use Rattle.std.proofs.lemmas.List.Sums.{sum_by-cons}
use Rattle.nor_base.specs.declared.meaning.Region.{Region}
use Rattle.nor_base.specs.declared.meaning.Strategy.{Strategy}
use Rattle.nor_base.specs.Parameters.{Parameters, allows, block_size}
use Rattle.nor_base.specs.Accepted.{IsAccepted}
use Rattle.nor_base.specs.Blocks.{Block, Holds, AreDisjoint, LiesIn, IsLegalBlock, LiesInRegion, block_holds, block_at, is_legal, kinds, smallest}
use Rattle.nor_base.specs.Need.{is_due, is_needed, lies_in_needed, erasable, erased_at}
use Rattle.nor_base.proofs.RegionLaws.{legal_in_region, region_legal}
use Rattle.nor_laws.proofs.BlockLaws.{blocks_nest}
use Rattle.nor_geometry.specs.Legal.{IsReachedAt}
use Rattle.nor_geometry.proofs.KindLemmas.{placed, size_of, legal_kind}
use Rattle.nor_geometry.proofs.WindowLemmas.{divides, multiple_of}
use Rattle.nor_plan_laws.proofs.Erased.Best.{Best, best_is, picked, Among}
use Rattle.nor_plan_laws.proofs.Units.Ranges.{aligned_le}
use Rattle.nor_plan_laws.proofs.Erased.Erasing.{there, can_erase, erasable_is, is_block, floor_aligned, moved}
use Rattle.nor_base.proofs.StretchLaws.{any_at}
use Rattle.nor_plan_laws.proofs.Erased.Reached.{four, small, holds_true}
use Rattle.nor_plan_laws.proofs.Erased.Needed.{block_here, all_at}

regions_apart : (regions : List Region) (i j : ℕ) (region : Region) → slice_get regions i ≡ Some region → i < j
    → sum_by (λ (r : Region). r.size) (take i regions) + region.size ≤ sum_by (λ (r : Region). r.size) (take j regions)
regions_apart [] i j region there less = cc
regions_apart (first ∷ regions) zero zero region there less = absurd (omega arith)
regions_apart (first ∷ regions) zero (suc j) region there less =
    let same : first ≡ region = cc in
    let sizes : first.size ≡ region.size = ap (λ (r : Region). r.size) same in
    omega (arith, sizes, sum_by-cons (λ (r : Region). r.size) first (take j regions))
regions_apart (first ∷ regions) (suc i) zero region there less = absurd (omega arith)
regions_apart (first ∷ regions) (suc i) (suc j) region there less =
    omega (arith, regions_apart regions i j region there (omega arith), sum_by-cons (λ (r : Region). r.size) first (take i regions), sum_by-cons (λ (r : Region). r.size) first (take j regions))

one_region : (m : Parameters) (s t : Block) → 0 < s.size → (x : LiesInRegion m s) → (z : LiesInRegion m t) → LiesIn s t → x.number ≡ z.number
one_region m s t some x z within = elim (cases_lt x.number z.number) [
  | inl less ↦ let apart = regions_apart m.regions x.number z.number x.region x.there less in absurd (omega (arith, apart, x.from, x.upto, z.from, z.upto, within.0, within.1))
  | inr up ↦ elim (cases_lt z.number x.number) [
    | inl more ↦ let apart = regions_apart m.regions z.number x.number z.region z.there more in absurd (omega (arith, apart, x.from, x.upto, z.from, z.upto, within.0, within.1))
    | inr fits ↦ omega arith
  ]
]

-- round each address of a block that holds another there is one of the other's kind
round : (m : Parameters) (s t : Block) (y : ℕ) → IsAccepted m → IsLegalBlock m s → IsLegalBlock m t → LiesIn s t → t.start ≤ y → y < t.start + t.size
    → block_at m y s.kind ≡ Some (record { start = y - y % block_size m s.kind; size = block_size m s.kind; kind = s.kind })
round m s t y accepted s_legal t_legal within low high =
    let p = placed m s accepted s_legal in
    let q = placed m t accepted t_legal in
    let x = legal_in_region m s s_legal in
    let z = legal_in_region m t t_legal in
    let number = one_region m s t p.some x z within in
    let found : Some x.region ≡ Some z.region = sym x.there ∙ ap (slice_get m.regions) number ∙ z.there in
    let region : x.region ≡ z.region = cc in
    let fits : p.erase.size ≤ q.erase.size = omega (arith, p.size, q.size, within.0, within.1) in
    let divided : q.erase.size % p.erase.size ≡ 0 =
    divides 8 24 8 24 p.erase.size q.erase.size (accepted.kinds s.kind p.erase p.there).size (accepted.kinds t.kind q.erase q.there).size fits in
    let whole : t.size % s.size ≡ 0 = ap (λ n. n % s.size) q.size ∙ ap (λ n. q.erase.size % n) p.size ∙ divided in
    let t_start : t.start % s.size ≡ 0 = multiple_of t.start t.size s.size whole q.aligned in
    let none : 0 + t.size ≡ t.size = omega arith in
    let t_end : (t.start + t.size) % s.size ≡ 0 =
    sym (mod-add-mod t.start s.size t.size) ∙ ap (λ n. (n + t.size) % s.size) t_start ∙ ap (λ n. n % s.size) none ∙ whole in
    let rest : y % s.size < s.size = mod-lt y p.some in
    let below : y % s.size ≤ y = mod-le y s.size in
    let floor : (y - y % s.size) % s.size ≡ 0 = floor_aligned y s.size in
    let from : t.start ≤ y - y % s.size = aligned_le t.start (y - y % s.size) s.size p.some t_start floor (omega arith) in
    let next : (y - y % s.size + s.size) % s.size ≡ 0 =
    sym (mod-add-mod (y - y % s.size) s.size s.size) ∙ ap (λ n. (n + s.size) % s.size) floor ∙ own s.size in
    let upto : y - y % s.size + s.size ≤ t.start + t.size = aligned_le (y - y % s.size + s.size) (t.start + t.size) s.size p.some next t_end (omega arith) in
    let d = region_legal m (record { start = y - y % s.size; size = s.size; kind = s.kind }) s_legal.size floor (record {
      number = z.number;
      region = z.region;
      there = z.there;
      from = omega (arith, z.from);
      upto = omega (arith, z.upto);
      allowed = ap (λ (r : Region). allows r s.kind) (sym region) ∙ x.allowed;
    }) in
    let size : s.size ≡ block_size m s.kind = p.size ∙ sym (size_of m s.kind p.erase p.there) in
    is_block m y s.kind (ap (λ n. is_legal m s.kind (y - y % n)) (sym size) ∙ d.legal)
  where
    own : (n : ℕ) → (0 + n) % n ≡ 0
    own n = grind arith

-- two smallest blocks are apart, or have the same addresses
pub same_smallest : (m : Parameters) (x y : ℕ) (s t : Block) → IsAccepted m → smallest m x ≡ Some s → smallest m y ≡ Some t
    → AreDisjoint s t ⊎ ((s.start ≡ t.start) × (s.size ≡ t.size))
same_smallest m x y s t accepted s_is t_is =
    let u = small m x s accepted s_is in
    let v = small m y t accepted t_is in
    elim (blocks_nest m s t accepted u.is.legal_block v.is.legal_block) [
      | inl apart ↦ inl apart
      | inr nest ↦ elim nest [
        | inl within ↦
            let d = round m s t y accepted u.is.legal_block v.is.legal_block within v.is.low v.is.high in
            let least = v.least s.kind (record { start = y - y % block_size m s.kind; size = block_size m s.kind; kind = s.kind }) d in
            let p = placed m s accepted u.is.legal_block in
            let size : s.size ≡ block_size m s.kind = p.size ∙ sym (size_of m s.kind p.erase p.there) in
            let same : s.size ≡ t.size = omega (arith, within.0, within.1) in
            inr (omega (arith, within.0, within.1), same)
        | inr around ↦
            let d = round m t s x accepted v.is.legal_block u.is.legal_block around u.is.low u.is.high in
            let least = u.least t.kind (record { start = x - x % block_size m t.kind; size = block_size m t.kind; kind = t.kind }) d in
            let p = placed m t accepted v.is.legal_block in
            let size : t.size ≡ block_size m t.kind = p.size ∙ sym (size_of m t.kind p.erase p.there) in
            let same : s.size ≡ t.size = omega (arith, around.0, around.1) in
            inr (omega (arith, around.0, around.1), same)
      ]
    ]

pub needed_of : (m : Parameters) (due : ℕ → Bool) (a cause : ℕ) (s : Block) → cause < m.size → due cause ≡ true → smallest m cause ≡ Some s
    → s.start ≤ a → a < s.start + s.size → is_needed m due a ≡ true
unfolding is_needed
needed_of m due a cause s inside is_due is low high =
    any_at (λ c. due c && option_map_or (block_holds a) (smallest m c) false) m.size 0 cause (omega arith) (omega arith)
    (rw (is_due, is) (holds_true s a low high))

-- what is erased at an address, by words
pub record IsErasedAt (m : Parameters) (by : Strategy) (due : ℕ → Bool) (a : ℕ) (b : Block) : Type 0 where
  pub reached : IsReachedAt m by a b
  pub needed : (x : ℕ) → b.start ≤ x → x < b.start + b.size → is_needed m due x ≡ true

pub erased_is : (m : Parameters) (by : Strategy) (due : ℕ → Bool) (a : ℕ) (b : Block) → IsAccepted m → erased_at m by due a ≡ Some b → IsErasedAt m by due a b
unfolding erased_at lies_in_needed
erased_is m by due a b accepted h =
    let some = picked (erasable m by due a) kinds b (best_is (erasable m by due a) kinds b h) in
    let e = can_erase m by due a some.0 b some.1 in
    let t = there m a some.0 b accepted e.at in
    record {
      reached = record { legal = t.legal_block; here = (t.low, t.high); reached = e.reached };
      needed = λ x from upto. all_at (is_needed m due) b.size b.start x e.needed from upto;
    }

-- no kind before an erased block's has a block as large
abbrev Up : ℕ → List ℕ → Type 0
Up n [] = Unit {0}
Up n (k ∷ ks) = (n ≤ k) × Up k ks

up_among : (n : ℕ) (ks : List ℕ) (j : ℕ) → Up n ks → Among ks j → n ≤ j
up_among n [] j up among = absurd among
up_among n (k ∷ ks) j up (inl same) = omega (arith, up.0)
up_among n (k ∷ ks) j up (inr later) = let rest = up_among k ks j up.1 later in omega (arith, up.0, rest)

first_best : (of : ℕ → Option Block) (n : ℕ) (ks : List ℕ) (e c : Block) (j : ℕ) → Best of ks e → Up n ks → Among ks j → of j ≡ Some c → e.size ≤ c.size
    → (k : ℕ) × (of k ≡ Some e) × (k ≤ j)
first_best of n [] e c j h up among is size = absurd h
first_best of n (k ∷ ks) e c j (inl h) up (inl same) is size = (k, h.0, omega arith)
first_best of n (k ∷ ks) e c j (inl h) up (inr later) is size = (k, h.0, up_among k ks j up.1 later)
first_best of n (k ∷ ks) e c j (inr h) up (inl same) is size = let less = h.0 c (ap of same ∙ is) in absurd (omega (arith, less))
first_best of n (k ∷ ks) e c j (inr h) up (inr later) is size = first_best of k ks e c j h.1 up.1 later is size

-- a legal block is the one of its kind at each address that it holds
pub at_address : (m : Parameters) (a : ℕ) (c : Block) → IsAccepted m → IsLegalBlock m c → Holds c a → block_at m a c.kind ≡ Some c
at_address m a c accepted legal here = moved m c.start a c.kind c accepted (block_here m c accepted legal) here.0 here.1

pub lowest_kind : (m : Parameters) (by : Strategy) (due : ℕ → Bool) (a : ℕ) (e c : Block) → IsAccepted m → erased_at m by due a ≡ Some e → IsReachedAt m by a c
    → lies_in_needed m due c ≡ true → e.size ≤ c.size → e.kind ≤ c.kind
unfolding erased_at
lowest_kind m by due a e c accepted h r needed size =
    let kind = legal_kind m c.kind c.start r.legal.legal in
    let at = at_address m a c accepted r.legal r.here in
    let can = erasable_is m by due a c.kind c at r.reached needed in
    let f = first_best (erasable m by due a) 0 kinds e c c.kind (best_is (erasable m by due a) kinds e h) (omega arith, (omega arith, (omega arith, (omega arith, tt))))
    (four m c.kind accepted kind) can size in
    let t = there m a f.0 e accepted (can_erase m by due a f.0 e f.1).at in
    omega (arith, t.kind_is, f.2)
