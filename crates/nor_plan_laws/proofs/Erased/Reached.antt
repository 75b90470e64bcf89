-- Where an address is due and none is at fault, the strategy has a block to erase for it, inside the needed area.
use Rattle.std.proofs.Common.{◌≡◌, ◌⊎◌, ℕ, zero, suc, ◌+◌, ◌-◌, ◌*◌, ◌/◌, ◌%◌, ◌<◌, ◌≤◌, nat_le, nat_lt, Bool, true, false, not, ◌&&◌, ◌||◌, if◌then◌else◌, List, [], ◌∷◌, Option, Some, None, refl, sym, ◌∙◌, ap, arith, inl, inr, leb-true, le-leb}
use Rattle.std.specs.Prelude.{slice_get, is_some, option_and_then}
use Rattle.std.specs.List.{list_any, range_with_len}
use Rattle.std.specs.Option.{option_map_or}
use Rattle.std.proofs.Math.Nat.{mod-lt, div-add-mod, mod-add-mod}
use Rattle.std.proofs.Math.Bool.{or-true}
use Rattle.std.proofs.lemmas.Bool.{and_parts, or_parts, cases_Bool, cases_lt, both_ways, lt-leb, leb-false, not-true, or_cases}
use Rattle.nor_base.proofs.StretchLaws.{any_at, all_over}
use Rattle.nor_base.specs.declared.meaning.Erase.{Erase}
use Rattle.nor_base.specs.declared.meaning.Region.{Region}
use Rattle.nor_base.specs.declared.meaning.Start.{Start}
use Rattle.nor_base.specs.declared.meaning.Strategy.{Strategy}
use Rattle.nor_base.specs.declared.meaning.Strategy.TheVariants.{S1, S2, S3, S4, S5}
use Rattle.nor_base.specs.Parameters.{Parameters, erase_kind, allows, block_size}
use Rattle.nor_base.specs.Accepted.{IsAccepted}
use Rattle.nor_base.specs.Instructions.{dedicated, is_there}
use Rattle.nor_base.specs.Blocks.{Block, block_holds, block_at, kinds, is_legal, lies_in_one, smallest}
use Rattle.nor_base.specs.Chip.{begins4}
use Rattle.nor_base.specs.Strategies.{is_far, erases_in, is_least, is_dedicated, are_dedicated, strategy, reaches}
use Rattle.nor_base.specs.Need.{differs, is_due, is_needed, lies_in_needed, erasable, erased_at, is_beyond, is_unreachable, lacks_erase, is_at_fault}
use Rattle.nor_plan_laws.proofs.Units.Ranges.{aligned_le}
use Rattle.nor_plan_laws.proofs.Units.Walk.{next_aligned}
use Rattle.nor_plan_laws.proofs.Erased.Best.{Among, some_best, smallest_of}
use Rattle.nor_geometry.proofs.KindLemmas.{legal_kind, size_of, past_end, IsKind}
use Rattle.nor_geometry.proofs.WindowLemmas.{divides, multiple_of}
use Rattle.nor_plan_laws.proofs.Erased.Erasing.{IsThere, there, block_is, is_block, legal_parts, legal_of, some_size, floor_aligned, erasable_is}

-- a kind with a legal block is one of four
pub four : (m : Parameters) (k : ℕ) → IsAccepted m → IsKind m k → Among kinds k
four m zero accepted kind = let h = kind.there in cc
four m (suc zero) accepted kind = inl refl
four m (suc (suc zero)) accepted kind = inr (inl refl)
four m (suc (suc (suc zero))) accepted kind = inr (inr (inl refl))
four m (suc (suc (suc (suc zero)))) accepted kind = inr (inr (inr (inl refl)))
four m (suc (suc (suc (suc (suc k))))) accepted kind =
    let past : slice_get m.erases (suc (suc (suc (suc k)))) ≡ None = past_end m.erases (suc (suc (suc (suc k)))) (omega (arith, accepted.four_kinds)) in
    let h : option_and_then (λ slot. slot) (slice_get m.erases (suc (suc (suc (suc k))))) ≡ Some kind.erase = kind.there in
    let none : None ≡ Some kind.erase = ap (λ o. option_and_then (λ (slot : Option Erase). slot) o) (sym past) ∙ h in
    cc

-- the smallest legal block of an address, among the kinds
pub record IsSmall (m : Parameters) (a : ℕ) (b : Block) : Type 0 where
  pub kind : ℕ
  pub at : block_at m a kind ≡ Some b
  pub is : IsThere m a kind b
  pub least : (k : ℕ) (c : Block) → block_at m a k ≡ Some c → b.size ≤ c.size

pub small : (m : Parameters) (a : ℕ) (b : Block) → IsAccepted m → smallest m a ≡ Some b → IsSmall m a b
unfolding smallest
small m a b accepted h =
    let s = smallest_of (block_at m a) kinds b h in
    record {
      kind = s.kind;
      at = s.has;
      is = there m a s.kind b accepted s.has;
      least = λ k c is.
          let at = block_is m a k c is in
          s.least k c (four m k accepted (legal_kind m k (a - a % block_size m k) at.legal)) is;
    }

pub holds_true : (b : Block) (x : ℕ) → b.start ≤ x → x < b.start + b.size → block_holds x b ≡ true
holds_true b x from upto = rw (le-leb b.start x from) (le-leb (suc x) (b.start + b.size) upto)

-- the smallest block of an address that is due lies in the needed area, and so does each with the same addresses
needed_by : (m : Parameters) (due : ℕ → Bool) (a : ℕ) (b c : Block) → a < m.size → due a ≡ true → smallest m a ≡ Some b → c.start ≡ b.start → c.size ≡ b.size
    → lies_in_needed m due c ≡ true
unfolding lies_in_needed is_needed
needed_by m due a b c inside is_due is start size =
    all_over (λ x. list_any (λ cause. due cause && option_map_or (block_holds x) (smallest m cause) false) (range_with_len 0 m.size)) c.size c.start (λ x from upto.
    any_at (λ cause. due cause && option_map_or (block_holds x) (smallest m cause) false) m.size 0 a (omega arith) (omega arith)
    (rw (is_due, is) (holds_true b x (omega (arith, start, from)) (omega (arith, start, size, upto)))))

-- the region in which a block lies
record IsInRegion (m : Parameters) (base : ℕ) (regions : List Region) (kind start size : ℕ) : Type 0 where
  region : Region
  border : ℕ
  from : border ≤ start
  upto : start + size ≤ border + region.size
  allowed : allows region kind ≡ true
  dedicated_there : nat_le (border + region.size) 0x1000000 || is_dedicated m region ≡ true
  others : (k start' size' : ℕ) → border ≤ start' → start' + size' ≤ border + region.size → allows region k ≡ true → lies_in_one base regions k start' size' ≡ true

region_here : (m : Parameters) (base : ℕ) (region : Region) (regions : List Region) (kind start size : ℕ)
    → nat_le base start && (nat_le (start + size) (base + region.size) && allows region kind) ≡ true
    → nat_le (base + region.size) 0x1000000 || is_dedicated m region ≡ true → IsInRegion m base (region ∷ regions) kind start size
region_here m base region regions kind start size h dedicated_so =
    let first = and_parts (nat_le base start) (nat_le (start + size) (base + region.size) && allows region kind) h in
    let second = and_parts (nat_le (start + size) (base + region.size)) (allows region kind) first.1 in
    record {
      region = region;
      border = base;
      from = leb-true base start first.0;
      upto = leb-true (start + size) (base + region.size) second.0;
      allowed = second.1;
      dedicated_there = dedicated_so;
      others = λ k start' size' low high allowed. rw (le-leb base start' low, le-leb (start' + size') (base + region.size) high, allowed) refl;
    }

region_step : (m : Parameters) (base : ℕ) (region : Region) (regions : List Region) (kind start size : ℕ)
    → nat_le (base + region.size) 0x1000000 || is_dedicated m region ≡ true
    → (lies_in_one (base + region.size) regions kind start size ≡ true → IsInRegion m (base + region.size) regions kind start size)
    → (nat_le base start && (nat_le (start + size) (base + region.size) && allows region kind) ≡ true) ⊎ (lies_in_one (base + region.size) regions kind start size ≡ true)
    → IsInRegion m base (region ∷ regions) kind start size
region_step m base region regions kind start size dedicated_so later (inl here) = region_here m base region regions kind start size here dedicated_so
region_step m base region regions kind start size dedicated_so later (inr h) =
    let r = later h in record {
      region = r.region;
      border = r.border;
      from = r.from;
      upto = r.upto;
      allowed = r.allowed;
      dedicated_there = r.dedicated_there;
      others = λ k start' size' low high allowed.
          rw (r.others k start' size' low high allowed) (or-true (nat_le base start' && (nat_le (start' + size') (base + region.size) && allows region k)));
    }

region_of : (m : Parameters) (base : ℕ) (regions : List Region) (kind start size : ℕ) → lies_in_one base regions kind start size ≡ true
    → are_dedicated m base regions ≡ true → IsInRegion m base regions kind start size
region_of m base [] kind start size h are = cc
region_of m base (region ∷ regions) kind start size h are =
    let both = and_parts (nat_le (base + region.size) 0x1000000 || is_dedicated m region) (are_dedicated m (base + region.size) regions) are in
    region_step m base region regions kind start size both.0 (λ later. region_of m (base + region.size) regions kind start size later both.1)
    (or_cases (nat_le base start && (nat_le (start + size) (base + region.size) && allows region kind)) (lies_in_one (base + region.size) regions kind start size) h)

-- some kind passes a test
record Finds (test : ℕ → Bool) : Type 0 where
  k : ℕ
  passes : test k ≡ true

find_step : (test : ℕ → Bool) (k : ℕ) (ks : List ℕ) → (list_any test ks ≡ true → Finds test) → (test k ≡ true) ⊎ (list_any test ks ≡ true) → Finds test
find_step test k ks later (inl here) = record { k = k; passes = here }
find_step test k ks later (inr h) = later h

find_kind : (test : ℕ → Bool) (ks : List ℕ) → list_any test ks ≡ true → Finds test
find_kind test [] h = cc
find_kind test (k ∷ ks) h = find_step test k ks (find_kind test ks) (or_cases (test k) (list_any test ks) h)

any_kind : (test : ℕ → Bool) (ks : List ℕ) (k : ℕ) → Among ks k → test k ≡ true → list_any test ks ≡ true
any_kind test [] k among h = absurd among
any_kind test (j ∷ js) k (inl same) h = rw (ap test same ∙ h) refl
any_kind test (j ∷ js) k (inr later) h = rw (any_kind test js k later h) (or-true (test j))

-- what the strategy can erase for an address
pub record HasBlock (m : Parameters) (by : Strategy) (due : ℕ → Bool) (a : ℕ) : Type 0 where
  pub kind : ℕ
  pub block : Block
  pub among : Among kinds kind
  pub is : erasable m by due a kind ≡ Some block

smallest_reached : (m : Parameters) (by : Strategy) (due : ℕ → Bool) (a : ℕ) (b : Block) → IsAccepted m → a < m.size → due a ≡ true → smallest m a ≡ Some b
    → reaches by m b.kind b.start ≡ true → HasBlock m by due a
smallest_reached m by due a b accepted inside is_due is reached =
    let s = small m a b accepted is in
    let at = block_is m a s.kind b s.at in
    record {
      kind = s.kind;
      block = b;
      among = four m s.kind accepted (legal_kind m s.kind (a - a % block_size m s.kind) at.legal);
      is = erasable_is m by due a s.kind b s.at reached (needed_by m due a b b inside is_due is refl refl);
    }

kind_there : (m : Parameters) (k : ℕ) (o : Option Erase) → erase_kind m k ≡ o → is_some o ≡ true → IsKind m k
kind_there m k None is h = cc
kind_there m k (Some erase) is h = record { erase = erase; there = is }

erases_there : (m : Parameters) (region : Region) (k : ℕ) → IsKind m k → allows region k ≡ true → erases_in m region k ≡ true
erases_there m region k kind allowed = rw (kind.there, allowed) refl

-- of a region past three address bytes some kind of the least size has a dedicated opcode
dedicated_kind : (m : Parameters) (region : Region) (border a k : ℕ) → IsAccepted m → IsKind m k → allows region k ≡ true → 0x1000000 < border + region.size
    → nat_le (border + region.size) 0x1000000 || is_dedicated m region ≡ true
    → Finds (λ j. erases_in m region j && (is_least m region j && is_some (dedicated m j)))
dedicated_kind m region border a k accepted kind allowed past h =
    let beyond : nat_le (border + region.size) 0x1000000 ≡ false = lt-leb (border + region.size) 0x1000000 past in
    let its_region : is_dedicated m region ≡ true = ap (λ x. x || is_dedicated m region) (sym beyond) ∙ h in
    let in_region = erases_there m region k kind allowed in
    let some_kind : list_any (erases_in m region) kinds ≡ true = any_kind (erases_in m region) kinds k (four m k accepted kind) in_region in
    let rest : list_any (λ j. erases_in m region j && (is_least m region j && is_some (dedicated m j))) kinds ≡ true =
    ap (λ x. not x || list_any (λ j. erases_in m region j && (is_least m region j && is_some (dedicated m j))) kinds) (sym some_kind) ∙ its_region in
    find_kind (λ j. erases_in m region j && (is_least m region j && is_some (dedicated m j))) kinds rest

-- it isn't larger than another kind of the region
no_larger : (m : Parameters) (region : Region) (k other : ℕ) → is_least m region k ≡ true → Among kinds other → erases_in m region other ≡ true
    → block_size m k ≤ block_size m other
no_larger m region k other least among in_region =
    let none : list_any (λ j. erases_in m region j && nat_lt (block_size m j) (block_size m k)) kinds ≡ false =
    not-true (list_any (λ j. erases_in m region j && nat_lt (block_size m j) (block_size m k)) kinds) least in
    elim (cases_lt (block_size m other) (block_size m k)) [
      | inl less ↦
          let test : erases_in m region other && nat_lt (block_size m other) (block_size m k) ≡ true = rw in_region (le-leb (suc (block_size m other)) (block_size m k) less) in
          absurd (both_ways _ none (any_kind (λ j. erases_in m region j && nat_lt (block_size m j) (block_size m k)) kinds other among test))
      | inr more ↦ more
    ]

-- its block at the address is legal where the smallest is, and has the same addresses
same_block : (m : Parameters) (due : ℕ → Bool) (a k : ℕ) (b : Block) (region : Region) (border : ℕ) → IsAccepted m → a < m.size → due a ≡ true → smallest m a ≡ Some b
    → IsSmall m a b → border ≤ b.start → b.start + b.size ≤ border + region.size
    → ((j start size : ℕ) → border ≤ start → start + size ≤ border + region.size → allows region j ≡ true → lies_in_one 0 m.regions j start size ≡ true)
    → IsKind m k → allows region k ≡ true → block_size m k ≤ b.size → b.size % block_size m k ≡ 0 → is_some (dedicated m k) ≡ true → HasBlock m S3 due a
same_block m due a k b region border accepted inside is_due is s from upto others kind allowed fits divided has4 =
    let t = s.is in
    let some : 0 < block_size m k = some_size m k accepted kind in
    let rest : a % block_size m k < block_size m k = mod-lt a some in
    let all : block_size m k * (a / block_size m k) + a % block_size m k ≡ a = div-add-mod a (block_size m k) in
    let floor = floor_aligned a (block_size m k) in
    let b_start : b.start % block_size m k ≡ 0 = multiple_of b.start b.size (block_size m k) divided t.aligned in
    let none : 0 + b.size ≡ b.size = omega arith in
    let b_end : (b.start + b.size) % block_size m k ≡ 0 =
    sym (mod-add-mod b.start (block_size m k) b.size) ∙ ap (λ n. (n + b.size) % block_size m k) b_start ∙ ap (λ n. n % block_size m k) none ∙ divided in
    let low : b.start ≤ a - a % block_size m k =
    aligned_le b.start (a - a % block_size m k) (block_size m k) some b_start floor (omega (arith, t.low, rest, all)) in
    let high : (a - a % block_size m k) + block_size m k ≤ b.start + b.size =
    aligned_le ((a - a % block_size m k) + block_size m k) (b.start + b.size) (block_size m k) some (next_aligned (a - a % block_size m k) (block_size m k) floor) b_end (omega (arith, t.high)) in
    let lies = others k (a - a % block_size m k) (block_size m k) (omega (arith, from, low)) (omega (arith, upto, high)) allowed in
    let size = size_of m k kind.erase kind.there in
    let legal : is_legal m k (a - a % block_size m k) ≡ true =
    legal_of m k (a - a % block_size m k) kind.erase kind.there (ap (λ n. (a - a % block_size m k) % n) (sym size) ∙ floor)
    (ap (λ n. lies_in_one 0 m.regions k (a - a % block_size m k) n) (sym size) ∙ lies) in
    let at = is_block m a k legal in
    let larger : b.size ≤ block_size m k = s.least k (record { start = a - a % block_size m k; size = block_size m k; kind = k }) at in
    let reached : not (is_far (a - a % block_size m k)) || is_some (dedicated m k) ≡ true = rw has4 (or-true (not (is_far (a - a % block_size m k)))) in
    record {
      kind = k;
      block = record { start = a - a % block_size m k; size = block_size m k; kind = k };
      among = four m k accepted kind;
      is = erasable_is m S3 due a k (record { start = a - a % block_size m k; size = block_size m k; kind = k }) at reached
          (needed_by m due a b (record { start = a - a % block_size m k; size = block_size m k; kind = k }) inside is_due is (omega (arith, low, high, larger, fits)) (omega (arith, larger, fits)));
    }

far_reached : (m : Parameters) (due : ℕ → Bool) (a : ℕ) (b : Block) → IsAccepted m → a < m.size → due a ≡ true → smallest m a ≡ Some b
    → are_dedicated m 0 m.regions ≡ true → is_far a ≡ true → HasBlock m S3 due a
far_reached m due a b accepted inside is_due is are far =
    let s = small m a b accepted is in
    let t = s.is in
    let parts = legal_parts m b.kind b.start t.legal in
    let its_size : b.size ≡ block_size m b.kind = t.size_is ∙ ap (block_size m) (sym t.kind_is) in
    let lies : lies_in_one 0 m.regions b.kind b.start b.size ≡ true = ap (lies_in_one 0 m.regions b.kind b.start) its_size ∙ parts.1 in
    let r = region_of m 0 m.regions b.kind b.start b.size lies are in
    let kind = legal_kind m b.kind b.start t.legal in
    let found = dedicated_kind m r.region r.border a b.kind accepted kind r.allowed (omega (arith, leb-true 0x1000000 a far, t.high, r.upto)) r.dedicated_there in
    let first = and_parts (erases_in m r.region found.k) (is_least m r.region found.k && is_some (dedicated m found.k)) found.passes in
    let second = and_parts (is_least m r.region found.k) (is_some (dedicated m found.k)) first.1 in
    let third = and_parts (is_some (erase_kind m found.k)) (allows r.region found.k) first.0 in
    let kind_k = kind_there m found.k (erase_kind m found.k) refl third.0 in
    let in_region : erases_in m r.region b.kind ≡ true = erases_there m r.region b.kind kind r.allowed in
    let fits : block_size m found.k ≤ b.size = omega (arith, its_size, no_larger m r.region found.k b.kind second.0 (four m b.kind accepted kind) in_region) in
    let k_is = accepted.kinds found.k kind_k.erase kind_k.there in
    let b_is = accepted.kinds b.kind kind.erase kind.there in
    let k_size = size_of m found.k kind_k.erase kind_k.there in
    let b_size : b.size ≡ kind.erase.size = its_size ∙ size_of m b.kind kind.erase kind.there in
    let divided : b.size % block_size m found.k ≡ 0 =
    ap (λ n. n % block_size m found.k) b_size ∙ ap (λ n. kind.erase.size % n) k_size
    ∙ divides 8 24 8 24 kind_k.erase.size kind.erase.size k_is.size b_is.size (omega (arith, fits, k_size, b_size)) in
    same_block m due a found.k b r.region r.border accepted inside is_due is s r.from r.upto r.others kind_k third.1 fits divided second.1

not_far : (a x : ℕ) → is_far a ≡ false → x ≤ a → is_far x ≡ false
not_far a x near below = lt-leb 0x1000000 x (omega (arith, leb-false 0x1000000 a near, below))

dedicated_by : (m : Parameters) (a b c d e f : Bool) → (if a then S1 else if b then S2 else if c && (d && e) then S3 else if f then S4 else S5) ≡ S3 → e ≡ true
dedicated_by m true b c d e f h = cc
dedicated_by m false true c d e f h = cc
dedicated_by m false false true true true f h = refl
dedicated_by m false false true true false true h = cc
dedicated_by m false false true true false false h = cc
dedicated_by m false false true false e true h = cc
dedicated_by m false false true false e false h = cc
dedicated_by m false false false d e true h = cc
dedicated_by m false false false d e false h = cc

third : (m : Parameters) (start : Start) → strategy m start ≡ S3 → are_dedicated m 0 m.regions ≡ true
unfolding strategy
third m start h =
    dedicated_by m (begins4 m start) (nat_le m.size 0x1000000) m.program4 m.read4 (are_dedicated m 0 m.regions) (is_there m.enter && is_there m.leave) h

-- the strategy has a block for an address that it reaches, that is due and that has a legal block
pub has_block : (m : Parameters) (start : Start) (by : Strategy) (due : ℕ → Bool) (a : ℕ) (b : Block) → strategy m start ≡ by → IsAccepted m → a < m.size → due a ≡ true
    → is_beyond by a ≡ false → smallest m a ≡ Some b → HasBlock m by due a
has_block m start S1 due a b by accepted inside is_due near is = smallest_reached m S1 due a b accepted inside is_due is refl
has_block m start S2 due a b by accepted inside is_due near is = smallest_reached m S2 due a b accepted inside is_due is refl
has_block m start S3 due a b by accepted inside is_due near is = elim (cases_Bool (is_far a)) [
  | inl far ↦ far_reached m due a b accepted inside is_due is (third m start by) far
  | inr close ↦
      let s = small m a b accepted is in
      smallest_reached m S3 due a b accepted inside is_due is (ap (λ x. not x || is_some (dedicated m b.kind)) (not_far a b.start close s.is.low))
]
has_block m start S4 due a b by accepted inside is_due near is = smallest_reached m S4 due a b accepted inside is_due is refl
has_block m start S5 due a b by accepted inside is_due near is =
    let s = small m a b accepted is in
    smallest_reached m S5 due a b accepted inside is_due is (ap not (not_far a b.start near s.is.low))

some_of : {X : Type 0} (o : Option X) → is_some o ≡ true → (x : X) × (o ≡ Some x)
some_of None h = cc
some_of (Some x) h = (x, refl)

-- what is due and not at fault is erased
pub erased_where_due : (m : Parameters) (start : Start) (have want : List ℕ) (a : ℕ) → IsAccepted m → a < m.size → is_at_fault m (strategy m start) have want a ≡ false
    → is_due m have want a ≡ true → is_some (erased_at m (strategy m start) (is_due m have want) a) ≡ true
unfolding lacks_erase erased_at
erased_where_due m start have want a accepted inside sound due =
    let parts = or_parts (is_unreachable (strategy m start) have want a) (lacks_erase m (strategy m start) have want a) sound in
    let differs_so = (and_parts (differs have want a) _ due).0 in
    let near : is_beyond (strategy m start) a ≡ false = elim (cases_Bool (is_beyond (strategy m start) a)) [
      | inl beyond ↦ absurd (both_ways _ parts.0 (rw beyond differs_so))
      | inr close ↦ close
    ] in
    let has : is_some (smallest m a) ≡ true = elim (cases_Bool (is_some (smallest m a))) [
      | inl some ↦ some
      | inr none ↦
          let lacks : not (is_beyond (strategy m start) a) && (is_due m have want a && not (is_some (smallest m a))) ≡ true = rw (near, due, none) refl in
          absurd (both_ways _ parts.1 lacks)
    ] in
    let b = some_of (smallest m a) has in
    let h = has_block m start (strategy m start) (is_due m have want) a b.0 refl accepted inside due near b.1 in
    some_best (erasable m (strategy m start) (is_due m have want) a) kinds h.kind h.block h.among h.is
