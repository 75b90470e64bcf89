-- Erased blocks: legal, of whole pages, each that of all addresses that it holds.
use Rattle.std.proofs.Common.{◌≡◌, ℕ, ◌+◌, ◌-◌, ◌*◌, ◌/◌, ◌%◌, ◌<◌, ◌≤◌, ◌==◌, Bool, true, false, ◌&&◌, if◌then◌else◌, Option, Some, None, option_map, refl, sym, ◌∙◌, ap, subst, arith, inl, inr, eq-eqb, eqb-true}
use Rattle.std.specs.Option.{option_map_or}
use Rattle.std.proofs.Math.Nat.{mod-lt, div-add-mod, mul-mod_right, mod-add-mod}
use Rattle.std.proofs.lemmas.Nat.{pow_pos}
use Rattle.std.proofs.lemmas.Bool.{and_parts}
use Rattle.nor_base.specs.declared.meaning.Erase.{Erase}
use Rattle.nor_base.specs.declared.meaning.Strategy.{Strategy}
use Rattle.nor_base.specs.Parameters.{Parameters, erase_kind, block_size}
use Rattle.nor_base.specs.Accepted.{IsAccepted}
use Rattle.nor_base.specs.Blocks.{Block, IsLegalBlock, is_legal, lies_in_one, block_at, kinds}
use Rattle.nor_base.specs.Need.{lies_in_needed, kept_if, erasable, erased_at}
use Rattle.nor_base.specs.Strategies.{reaches}
use Rattle.nor_base.proofs.RegionLaws.{legal_on_chip}
use Rattle.nor_laws.proofs.BlockLaws.{blocks_nest}
use Rattle.nor_geometry.proofs.KindLemmas.{IsKind, legal_kind, size_of}
use Rattle.nor_geometry.proofs.WindowLemmas.{divides, multiple_of}
use Rattle.nor_plan_laws.proofs.Units.Ranges.{aligned_le}
use Rattle.nor_plan_laws.proofs.Erased.Best.{picked, best_is, is_best, best_moves}
use Rattle.nor_plan_laws.proofs.Units.Walk.{IsErasedFor}

-- the legal block of a kind at an address
pub record IsBlockAt (m : Parameters) (a k : ℕ) (b : Block) : Type 0 where
  pub legal : is_legal m k (a - a % block_size m k) ≡ true
  pub is : b ≡ record { start = a - a % block_size m k; size = block_size m k; kind = k }

at_if : (t : Bool) (x b : Block) → (if t then Some x else None) ≡ Some b → (t ≡ true) × (b ≡ x)
at_if true x b h = let same : x ≡ b = cc in (refl, sym same)
at_if false x b h = cc

pub block_is : (m : Parameters) (a k : ℕ) (b : Block) → block_at m a k ≡ Some b → IsBlockAt m a k b
unfolding block_at
block_is m a k b h =
    let parts = at_if (is_legal m k (a - a % block_size m k)) (record { start = a - a % block_size m k; size = block_size m k; kind = k }) b h in
    record { legal = parts.0; is = parts.1 }

pub is_block : (m : Parameters) (a k : ℕ) → is_legal m k (a - a % block_size m k) ≡ true
    → block_at m a k ≡ Some (record { start = a - a % block_size m k; size = block_size m k; kind = k })
unfolding block_at
is_block m a k legal = rw legal refl

pub legal_parts : (m : Parameters) (k start : ℕ) → is_legal m k start ≡ true → (start % block_size m k ≡ 0) × (lies_in_one 0 m.regions k start (block_size m k) ≡ true)
unfolding is_legal
legal_parts m k start h =
    let kind = legal_kind m k start h in
    let size = size_of m k kind.erase kind.there in
    let both : (start % kind.erase.size == 0) && lies_in_one 0 m.regions k start kind.erase.size ≡ true =
    ap (λ o. option_map_or (λ (erase : Erase). (start % erase.size == 0) && lies_in_one 0 m.regions k start erase.size) o false) (sym kind.there) ∙ h in
    let parts = and_parts (start % kind.erase.size == 0) (lies_in_one 0 m.regions k start kind.erase.size) both in
    (ap (λ n. start % n) size ∙ eqb-true (start % kind.erase.size) 0 parts.0, ap (λ n. lies_in_one 0 m.regions k start n) size ∙ parts.1)

pub legal_of : (m : Parameters) (k start : ℕ) (erase : Erase) → erase_kind m k ≡ Some erase → start % erase.size ≡ 0
    → lies_in_one 0 m.regions k start erase.size ≡ true → is_legal m k start ≡ true
unfolding is_legal
legal_of m k start erase is whole lies = rw (is, eq-eqb (start % erase.size) 0 whole, lies) refl

pub some_size : (m : Parameters) (k : ℕ) → IsAccepted m → IsKind m k → 0 < block_size m k
some_size m k accepted kind =
    let power = (accepted.kinds k kind.erase kind.there).size in
    subst (λ n. 0 < n) (sym (size_of m k kind.erase kind.there ∙ power.value)) (pow_pos power.exponent)

-- what is true of the legal block of a kind at an address
pub record IsThere (m : Parameters) (a k : ℕ) (b : Block) : Type 0 where
  pub kind_is : b.kind ≡ k
  pub size_is : b.size ≡ block_size m k
  pub start_is : b.start ≡ a - a % block_size m k
  pub legal : is_legal m b.kind b.start ≡ true
  pub legal_block : IsLegalBlock m b
  pub some : 0 < b.size
  pub aligned : b.start % b.size ≡ 0
  pub low : b.start ≤ a
  pub high : a < b.start + b.size
  pub inside : b.start + b.size ≤ m.size

pub floor_aligned : (a n : ℕ) → (a - a % n) % n ≡ 0
floor_aligned a n =
    let all : n * (a / n) + a % n ≡ a = div-add-mod a n in
    let floor : a - a % n ≡ n * (a / n) = omega (arith, all) in
    ap (λ x. x % n) floor ∙ mul-mod_right n (a / n)

pub there : (m : Parameters) (a k : ℕ) (b : Block) → IsAccepted m → block_at m a k ≡ Some b → IsThere m a k b
there m a k b accepted h =
    let at = block_is m a k b h in
    let kind = legal_kind m k (a - a % block_size m k) at.legal in
    let size : b.size ≡ block_size m k = ap (λ (d : Block). d.size) at.is in
    let start : b.start ≡ a - a % block_size m k = ap (λ (d : Block). d.start) at.is in
    let its_kind : b.kind ≡ k = ap (λ (d : Block). d.kind) at.is in
    let some : 0 < block_size m k = some_size m k accepted kind in
    let rest : a % block_size m k < block_size m k = mod-lt a some in
    let all : block_size m k * (a / block_size m k) + a % block_size m k ≡ a = div-add-mod a (block_size m k) in
    let legal : is_legal m b.kind b.start ≡ true = ap (λ x. is_legal m x b.start) its_kind ∙ ap (is_legal m k) start ∙ at.legal in
    let its_size : option_map (λ (erase : Erase). erase.size) (erase_kind m b.kind) ≡ Some b.size =
    ap (λ x. option_map (λ (erase : Erase). erase.size) (erase_kind m x)) its_kind ∙ ap (option_map (λ (erase : Erase). erase.size)) kind.there
    ∙ ap (λ n. Some n) (sym (size_of m k kind.erase kind.there) ∙ sym size) in
    let block : IsLegalBlock m b = record { size = its_size; legal = legal } in
    record {
      kind_is = its_kind;
      size_is = size;
      start_is = start;
      legal = legal;
      legal_block = block;
      some = omega (arith, size, some);
      aligned = ap (λ x. x % b.size) start ∙ ap (λ n. (a - a % block_size m k) % n) size ∙ floor_aligned a (block_size m k);
      low = omega (arith, start);
      high = omega (arith, start, size, rest, all);
      inside = legal_on_chip m b accepted block;
    }

-- it is the block of each address that it holds
pub moved : (m : Parameters) (a x k : ℕ) (b : Block) → IsAccepted m → block_at m a k ≡ Some b → b.start ≤ x → x < b.start + b.size → block_at m x k ≡ Some b
moved m a x k b accepted h from upto =
    let at = block_is m a k b h in
    let t = there m a k b accepted h in
    let some : 0 < block_size m k = omega (arith, t.some, t.size_is) in
    let rest : x % block_size m k < block_size m k = mod-lt x some in
    let all : block_size m k * (x / block_size m k) + x % block_size m k ≡ x = div-add-mod x (block_size m k) in
    let b_aligned : b.start % block_size m k ≡ 0 = ap (λ s. b.start % s) (sym t.size_is) ∙ t.aligned in
    let one : x - x % block_size m k ≤ b.start = aligned_le (x - x % block_size m k) b.start (block_size m k) some (floor_aligned x (block_size m k)) b_aligned (omega (arith, upto, t.size_is)) in
    let two : b.start ≤ x - x % block_size m k = aligned_le b.start (x - x % block_size m k) (block_size m k) some b_aligned (floor_aligned x (block_size m k)) (omega (arith, from, rest, all)) in
    let same : x - x % block_size m k ≡ a - a % block_size m k = omega (arith, one, two, t.start_is) in
    is_block m x k (ap (is_legal m k) same ∙ at.legal)
    ∙ ap (λ start. Some (record { start = start; size = block_size m k; kind = k })) same ∙ ap (λ (d : Block). Some d) (sym at.is)

kept : (test : Block → Bool) (o : Option Block) (b : Block) → kept_if test o ≡ Some b → (o ≡ Some b) × (test b ≡ true)
kept test None b h = cc
kept test (Some c) b h = by_test (test c) refl h
  where
    by_test : (t : Bool) → test c ≡ t → (if t then Some c else None) ≡ Some b → (Some c ≡ Some b) × (test b ≡ true)
    by_test true is h = let same : c ≡ b = cc in (h, ap test (sym same) ∙ is)
    by_test false is h = cc

-- a kind's block that may be erased for an address
pub record IsErasable (m : Parameters) (by : Strategy) (due : ℕ → Bool) (a k : ℕ) (b : Block) : Type 0 where
  pub at : block_at m a k ≡ Some b
  pub reached : reaches by m b.kind b.start ≡ true
  pub needed : lies_in_needed m due b ≡ true

pub can_erase : (m : Parameters) (by : Strategy) (due : ℕ → Bool) (a k : ℕ) (b : Block) → erasable m by due a k ≡ Some b → IsErasable m by due a k b
can_erase m by due a k b h =
    let parts = kept (λ (d : Block). reaches by m d.kind d.start && lies_in_needed m due d) (block_at m a k) b h in
    let both = and_parts (reaches by m b.kind b.start) (lies_in_needed m due b) parts.1 in
    record { at = parts.0; reached = both.0; needed = both.1 }

pub erasable_is : (m : Parameters) (by : Strategy) (due : ℕ → Bool) (a k : ℕ) (b : Block) → block_at m a k ≡ Some b → reaches by m b.kind b.start ≡ true
    → lies_in_needed m due b ≡ true → erasable m by due a k ≡ Some b
erasable_is m by due a k b at reached needed = rw (at, reached, needed) refl

erasable_moves : (m : Parameters) (by : Strategy) (due : ℕ → Bool) (a x k : ℕ) (b : Block) → IsAccepted m → erasable m by due a k ≡ Some b
    → b.start ≤ x → x < b.start + b.size → erasable m by due x k ≡ Some b
erasable_moves m by due a x k b accepted h from upto =
    let e = can_erase m by due a k b h in
    erasable_is m by due x k b (moved m a x k b accepted e.at from upto) e.reached e.needed

-- of two blocks that hold an address the larger one holds all of the smaller
pub held : (m : Parameters) (a x : ℕ) (b c : Block) → IsAccepted m → IsLegalBlock m b → IsLegalBlock m c → b.start ≤ a → a < b.start + b.size → b.start ≤ x
    → x < b.start + b.size → c.start ≤ x → x < c.start + c.size → b.size ≤ c.size → (c.start ≤ a) × (a < c.start + c.size)
held m a x b c accepted b_legal c_legal a_low a_high x_low x_high low high larger = elim (blocks_nest m b c accepted b_legal c_legal) [
  | inl apart ↦ elim apart [ inl before ↦ absurd (omega arith) | inr after ↦ absurd (omega arith) ]
  | inr nest ↦ elim nest [
    | inl within ↦ (omega (arith, within.0, a_low), omega (arith, within.1, a_high))
    | inr around ↦ (omega (arith, around.0, around.1, larger, a_low), omega (arith, around.0, around.1, larger, a_high))
  ]
]

-- the erased block of an address is that of each address that it holds
pub erased_all : (m : Parameters) (by : Strategy) (due : ℕ → Bool) (a x : ℕ) (b : Block) → IsAccepted m → erased_at m by due a ≡ Some b → b.start ≤ x → x < b.start + b.size
    → erased_at m by due x ≡ Some b
unfolding erased_at
erased_all m by due a x b accepted h from upto =
    let best = best_is (erasable m by due a) kinds b h in
    let some = picked (erasable m by due a) kinds b best in
    let e = can_erase m by due a some.0 b some.1 in
    let t = there m a some.0 b accepted e.at in
    is_best (erasable m by due x) kinds b (best_moves (erasable m by due a) (erasable m by due x) b kinds
    (λ k is. erasable_moves m by due a x k b accepted is from upto)
    (λ k c is larger.
    let f = can_erase m by due x k c is in
    let u = there m x k c accepted f.at in
    let a_in = held m a x b c accepted t.legal_block u.legal_block t.low t.high from upto u.low u.high larger in
    erasable_moves m by due x a k c accepted is a_in.0 a_in.1)
    best)

-- an erased block is legal, of whole pages, and the block of each address that it holds
pub erased_for : (m : Parameters) (by : Strategy) (due : ℕ → Bool) (a : ℕ) (b : Block) → IsAccepted m → erased_at m by due a ≡ Some b
    → IsErasedFor m (erased_at m by due) a b
unfolding erased_at
erased_for m by due a b accepted h =
    let some = picked (erasable m by due a) kinds b (best_is (erasable m by due a) kinds b h) in
    let e = can_erase m by due a some.0 b some.1 in
    let t = there m a some.0 b accepted e.at in
    let at = block_is m a some.0 b e.at in
    let kind = legal_kind m some.0 (a - a % block_size m some.0) at.legal in
    let is = accepted.kinds some.0 kind.erase kind.there in
    let size : b.size ≡ kind.erase.size = t.size_is ∙ size_of m some.0 kind.erase kind.there in
    let whole : b.size % m.page ≡ 0 = ap (λ n. n % m.page) size ∙ divides 4 12 8 24 m.page kind.erase.size accepted.page is.size is.whole_pages in
    let start : b.start % m.page ≡ 0 = multiple_of b.start b.size m.page whole t.aligned in
    let none : 0 + b.size ≡ b.size = omega arith in
    record {
      can = record { legal = t.legal; size = t.size_is ∙ ap (block_size m) (sym t.kind_is); inside = omega (arith, t.some, t.inside) };
      low = t.low;
      high = t.high;
      inside = t.inside;
      aligned = start;
      ends_aligned = sym (mod-add-mod b.start m.page b.size) ∙ ap (λ n. (n + b.size) % m.page) start ∙ ap (λ n. n % m.page) none ∙ whole;
      whole = whole;
      all = λ x from upto. erased_all m by due a x b accepted h from upto;
    }
