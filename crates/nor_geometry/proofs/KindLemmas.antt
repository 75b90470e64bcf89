-- The strategy's block of a kind round an address.
use Rattle.std.proofs.Common.{◌≡◌, ℕ, zero, suc, ◌+◌, ◌-◌, ◌*◌, ◌/◌, ◌%◌, ◌<◌, ◌≤◌, ◌==◌, Bool, true, false, not, ◌&&◌, ◌||◌, if◌then◌else◌, List, [], ◌∷◌, length, Option, Some, None, option_map, refl, sym, ◌∙◌, ap, subst, arith, inl, inr, eqb-true}
use Rattle.std.specs.Prelude.{is_some, slice_get, option_and_then}
use Rattle.std.specs.Option.{option_map_or}
use Rattle.std.proofs.Math.Nat.{mod-lt, div-add-mod, mul-add-mod_self_left, mod-eq_of_lt, mod-le}
use Rattle.std.proofs.lemmas.Nat.{pow_pos}
use Rattle.std.proofs.lemmas.Bool.{and_parts, cases_lt}
use Rattle.nor_base.specs.declared.meaning.Erase.{Erase}
use Rattle.nor_base.specs.declared.meaning.Strategy.{Strategy}
use Rattle.nor_base.specs.declared.meaning.Strategy.TheVariants.{S1, S2, S3, S4, S5}
use Rattle.nor_base.specs.Parameters.{Parameters, erase_kind, block_size}
use Rattle.nor_base.specs.Accepted.{IsAccepted}
use Rattle.nor_base.specs.Blocks.{Block, IsLegalBlock, is_legal, lies_in_one, block_at}
use Rattle.nor_base.specs.Strategies.{is_far, reaches}
use Rattle.nor_base.specs.Need.{kept_if}
use Rattle.nor_geometry.specs.Legal.{IsReachedAt}
use Rattle.nor_geometry.specs.Takes.{takes, reached_at}

pub size_of : (m : Parameters) (k : ℕ) (erase : Erase) → erase_kind m k ≡ Some erase → block_size m k ≡ erase.size
size_of m k erase is = ap (λ o. option_map_or (λ (e : Erase). e.size) o 0) is

takes_is : (m : Parameters) (by : Strategy) (k s : ℕ) (erase : Erase) → erase_kind m k ≡ Some erase → reaches by m k s ≡ takes by (is_some erase.op4) s
takes_is m S1 k s erase is = refl
takes_is m S2 k s erase is = refl
takes_is m S3 k s erase is = ap (λ o. not (is_far s) || is_some (option_and_then (λ (e : Erase). e.op4) o)) is
takes_is m S4 k s erase is = refl
takes_is m S5 k s erase is = refl

-- the block of a size round an address, kept where it is legal and reached
abbrev kept : Parameters → Strategy → ℕ → ℕ → ℕ → Option Block
kept m by a k n =
    kept_if (λ b. reaches by m b.kind b.start) (if is_legal m k (a - a % n) then Some (record { start = a - a % n; size = n; kind = k }) else None)

by_size : (m : Parameters) (by : Strategy) (a k n : ℕ) → block_size m k ≡ n → reached_at m by a k ≡ kept m by a k n
unfolding block_at
by_size m by a k n size = ap (kept m by a k) size

pub reached_here : (m : Parameters) (by : Strategy) (a k : ℕ) (erase : Erase) → erase_kind m k ≡ Some erase → is_legal m k (a - a % erase.size) ≡ true
    → takes by (is_some erase.op4) (a - a % erase.size) ≡ true
    → reached_at m by a k ≡ Some (record { start = a - a % erase.size; size = erase.size; kind = k })
reached_here m by a k erase is legal taken =
    by_size m by a k erase.size (size_of m k erase is) ∙ rw (legal, takes_is m by k (a - a % erase.size) erase is, taken) refl

pub not_legal : (m : Parameters) (by : Strategy) (a k : ℕ) (erase : Erase) → erase_kind m k ≡ Some erase → is_legal m k (a - a % erase.size) ≡ false
    → reached_at m by a k ≡ None
not_legal m by a k erase is legal = by_size m by a k erase.size (size_of m k erase is) ∙ rw legal refl

pub not_taken : (m : Parameters) (by : Strategy) (a k : ℕ) (erase : Erase) → erase_kind m k ≡ Some erase → is_legal m k (a - a % erase.size) ≡ true
    → takes by (is_some erase.op4) (a - a % erase.size) ≡ false → reached_at m by a k ≡ None
not_taken m by a k erase is legal taken =
    by_size m by a k erase.size (size_of m k erase is) ∙ rw (legal, takes_is m by k (a - a % erase.size) erase is, taken) refl

no_kind : (m : Parameters) (k s : ℕ) (o : Option Erase) → o ≡ None
    → option_map_or (λ (erase : Erase). (s % erase.size == 0) && lies_in_one 0 m.regions k s erase.size) o false ≡ false
no_kind m k s o none = rw none refl

pub absent : (m : Parameters) (by : Strategy) (a k : ℕ) → erase_kind m k ≡ None → reached_at m by a k ≡ None
unfolding block_at is_legal
absent m by a k none = rw (no_kind m k (a - a % block_size m k) (erase_kind m k) none) refl

-- a kind with a legal block is there
pub record IsKind (m : Parameters) (k : ℕ) : Type 0 where
  pub erase : Erase
  pub there : erase_kind m k ≡ Some erase

kind_if : (m : Parameters) (k s : ℕ) (o : Option Erase) → erase_kind m k ≡ o
    → option_map_or (λ (erase : Erase). (s % erase.size == 0) && lies_in_one 0 m.regions k s erase.size) o false ≡ true → IsKind m k
kind_if m k s None is h = cc
kind_if m k s (Some erase) is h = record { erase = erase; there = is }

pub legal_kind : (m : Parameters) (k s : ℕ) → is_legal m k s ≡ true → IsKind m k
unfolding is_legal
legal_kind m k s h = kind_if m k s (erase_kind m k) refl h

legal_starts : (m : Parameters) (k s : ℕ) (erase : Erase) → erase_kind m k ≡ Some erase → is_legal m k s ≡ true → s % erase.size ≡ 0
unfolding is_legal
legal_starts m k s erase is h =
    let both : (s % erase.size == 0) && lies_in_one 0 m.regions k s erase.size ≡ true =
    ap (λ o. option_map_or (λ (e : Erase). (s % e.size == 0) && lies_in_one 0 m.regions k s e.size) o false) (sym is) ∙ h in
    eqb-true (s % erase.size) 0 (and_parts (s % erase.size == 0) (lies_in_one 0 m.regions k s erase.size) both).0

pub some_size : (m : Parameters) (k : ℕ) (erase : Erase) → IsAccepted m → erase_kind m k ≡ Some erase → 0 < erase.size
some_size m k erase accepted is =
    let power = (accepted.kinds k erase is).size in subst (λ n. 0 < n) (sym power.value) (pow_pos power.exponent)

-- a legal block's kind, size and place
pub record IsPlaced (m : Parameters) (b : Block) : Type 0 where
  pub erase : Erase
  pub there : erase_kind m b.kind ≡ Some erase
  pub size : b.size ≡ erase.size
  pub some : 0 < b.size
  pub aligned : b.start % b.size ≡ 0

pub placed : (m : Parameters) (b : Block) → IsAccepted m → IsLegalBlock m b → IsPlaced m b
placed m b accepted legal =
    let kind = legal_kind m b.kind b.start legal.legal in
    let found : Some kind.erase.size ≡ Some b.size = ap (option_map (λ (erase : Erase). erase.size)) (sym kind.there) ∙ legal.size in
    let same : kind.erase.size ≡ b.size = cc in
    record {
      erase = kind.erase;
      there = kind.there;
      size = sym same;
      some = subst (λ n. 0 < n) same (some_size m b.kind kind.erase accepted kind.there);
      aligned = subst (λ n. b.start % n ≡ 0) same (legal_starts m b.kind b.start kind.erase kind.there legal.legal);
    }

-- the block of a size round an address begins at the address less its rest
same_rest : (n q r : ℕ) → r < n → (n * q + r) % n ≡ r
same_rest n q r small = mul-add-mod_self_left n q r ∙ mod-eq_of_lt small

pub floor_is : (n s a : ℕ) → 0 < n → s % n ≡ 0 → s ≤ a → a < s + n → s ≡ a - a % n
floor_is n s a some aligned low high =
    let its : n * (s / n) + s % n ≡ s = div-add-mod s n in
    let split : a ≡ n * (s / n) + (a - s) = omega arith in
    let rest : a % n ≡ a - s = ap (λ x. x % n) split ∙ same_rest n (s / n) (a - s) (omega arith) in
    omega arith

pub none_some : (b : Block) (o : Option Block) → o ≡ None → o ≡ Some b → ⊥
none_some b o none is = let both : None ≡ Some b = sym none ∙ is in cc

kept_some : (test : Block → Bool) (x b : Block) → kept_if test (Some x) ≡ Some b → (test b ≡ true) × (x ≡ b)
kept_some test x b h = by_test (test x) refl h
  where
    by_test : (t : Bool) → test x ≡ t → (if t then Some x else None) ≡ Some b → (test b ≡ true) × (x ≡ b)
    by_test true is h = let same : x ≡ b = cc in (ap test (sym same) ∙ is, same)
    by_test false is h = cc

reached_if : (m : Parameters) (by : Strategy) (a k n : ℕ) (b : Block) (t : Bool) → is_legal m k (a - a % n) ≡ t
    → kept_if (λ b. reaches by m b.kind b.start) (if t then Some (record { start = a - a % n; size = n; kind = k }) else None) ≡ Some b
    → (is_legal m k (a - a % n) ≡ true) × (record { start = a - a % n; size = n; kind = k } ≡ b) × (reaches by m b.kind b.start ≡ true)
reached_if m by a k n b true legal h =
    let parts = kept_some (λ b. reaches by m b.kind b.start) (record { start = a - a % n; size = n; kind = k }) b h in
    (legal, parts.1, parts.0)
reached_if m by a k n b false legal h = cc

-- what the look-up finds is reached at the address
pub reached_is : (m : Parameters) (by : Strategy) (a k : ℕ) (b : Block) (slot : Option Erase) → IsAccepted m → erase_kind m k ≡ slot → reached_at m by a k ≡ Some b
    → IsReachedAt m by a b × (b.kind ≡ k)
reached_is m by a k b None accepted is h = absurd (none_some b (reached_at m by a k) (absent m by a k is) h)
reached_is m by a k b (Some erase) accepted is h =
    let parts = reached_if m by a k erase.size b (is_legal m k (a - a % erase.size)) refl (sym (by_size m by a k erase.size (size_of m k erase is)) ∙ h) in
    let kind : k ≡ b.kind = ap (λ (d : Block). d.kind) parts.1 in
    let start : a - a % erase.size ≡ b.start = ap (λ (d : Block). d.start) parts.1 in
    let size : erase.size ≡ b.size = ap (λ (d : Block). d.size) parts.1 in
    let some : 0 < erase.size = some_size m k erase accepted is in
    let rest : a % erase.size < erase.size = mod-lt a some in
    let below : a % erase.size ≤ a = mod-le a erase.size in (
      record {
        legal = record {
          size = ap (λ x. option_map (λ (e : Erase). e.size) (erase_kind m x)) (sym kind) ∙ ap (option_map (λ (e : Erase). e.size)) is ∙ ap (λ n. Some n) size;
          legal = ap (λ x. is_legal m x b.start) (sym kind) ∙ ap (is_legal m k) (sym start) ∙ parts.0;
        };
        here = (omega arith, omega arith);
        reached = parts.2;
      },
      sym kind,
    )

-- and what is reached at an address the look-up finds
pub is_reached : (m : Parameters) (by : Strategy) (a : ℕ) (b : Block) → IsAccepted m → IsReachedAt m by a b → reached_at m by a b.kind ≡ Some b
is_reached m by a b accepted r =
    let p = placed m b accepted r.legal in
    let start : b.start ≡ a - a % b.size = floor_is b.size b.start a p.some p.aligned r.here.0 r.here.1 in
    let start' : b.start ≡ a - a % p.erase.size = start ∙ ap (λ n. a - a % n) p.size in
    let legal : is_legal m b.kind (a - a % p.erase.size) ≡ true = ap (is_legal m b.kind) (sym start') ∙ r.legal.legal in
    let taken : takes by (is_some p.erase.op4) (a - a % p.erase.size) ≡ true =
    sym (takes_is m by b.kind (a - a % p.erase.size) p.erase p.there) ∙ ap (reaches by m b.kind) (sym start') ∙ r.reached in
    reached_here m by a b.kind p.erase p.there legal taken
    ∙ ap (λ s. Some (record { start = s; size = p.erase.size; kind = b.kind })) (sym start')
    ∙ ap (λ n. Some (record { start = b.start; size = n; kind = b.kind })) (sym p.size)

-- one address and one size make one place
pub same_place : (m : Parameters) (by : Strategy) (a : ℕ) (b c : Block) → IsAccepted m → IsReachedAt m by a b → IsReachedAt m by a c → b.size ≡ c.size → b.start ≡ c.start
same_place m by a b c accepted r s size =
    let p = placed m b accepted r.legal in
    let q = placed m c accepted s.legal in
    floor_is b.size b.start a p.some p.aligned r.here.0 r.here.1 ∙ ap (λ n. a - a % n) size
    ∙ sym (floor_is c.size c.start a q.some q.aligned s.here.0 s.here.1)

pub past_end : (xs : List (Option Erase)) (i : ℕ) → length xs ≤ i → slice_get xs i ≡ None
past_end [] i fits = refl
past_end (x ∷ xs) zero fits = absurd (omega arith)
past_end (x ∷ xs) (suc i) fits = past_end xs i (omega arith)

pub few_kinds : (m : Parameters) (kind : ℕ) (erase : Erase) → IsAccepted m → erase_kind m kind ≡ Some erase → kind < 5
few_kinds m zero erase accepted is = omega arith
few_kinds m (suc k) erase accepted is = elim (cases_lt k 4) [
  | inl less ↦ omega arith
  | inr far ↦
      let past : slice_get m.erases k ≡ None = past_end m.erases k (omega (arith, accepted.four_kinds)) in
      let none : None ≡ Some erase = ap (λ o. option_and_then (λ (slot : Option Erase). slot) o) (sym past) ∙ is in
      cc
]
