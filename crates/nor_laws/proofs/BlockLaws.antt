-- Aligned blocks whose sizes are powers of two nest.
use Rattle.std.proofs.Common.{◌≡◌, ◌⊎◌, ℕ, ◌+◌, ◌-◌, ◌*◌, ◌/◌, ◌%◌, ◌^◌, ◌<◌, ◌≤◌, ◌==◌, true, false, ◌&&◌, Option, Some, None, option_map, refl, sym, ◌∙◌, ap, subst, arith, inl, inr, eqb-true}
use Rattle.std.specs.Option.{option_map_or}
use Rattle.std.proofs.lemmas.Bool.{and_parts, cases_lt}
use Rattle.std.proofs.Math.Nat.{mul-le-mul_left}
use Rattle.std.proofs.lemmas.Nat.{pow-add, pow_pos}
use Rattle.nor_base.specs.declared.meaning.Erase.{Erase}
use Rattle.nor_base.specs.Parameters.{Parameters, erase_kind}
use Rattle.nor_base.specs.Accepted.{IsAccepted}
use Rattle.nor_base.specs.Blocks.{Block, IsLegalBlock, is_legal, lies_in_one, AreDisjoint, LiesIn}

-- a block of n * p up to n * (p + 1), and one k times as large
nested : (n k p q : ℕ) → (n * p + n ≤ n * (k * q)) ⊎ ((n * (k * q) + n * k ≤ n * p) ⊎ ((n * (k * q) ≤ n * p) × (n * p + n ≤ n * (k * q) + n * k)))
nested n k p q = elim (cases_lt p (k * q)) [
  | inl low ↦ inl (let up : n * (p + 1) ≤ n * (k * q) = mul-le-mul_left n (omega arith) in omega (arith, up))
  | inr from ↦ elim (cases_lt p (k * q + k)) [
    | inl upto ↦
        let start : n * (k * q) ≤ n * p = mul-le-mul_left n from in
        let stop : n * (p + 1) ≤ n * (k * q + k) = mul-le-mul_left n (omega arith) in
        inr (inr (start, omega (arith, stop)))
    | inr past ↦ inr (inl (let up : n * (k * q + k) ≤ n * p = mul-le-mul_left n past in omega (arith, up)))
  ]
]

-- an aligned block of a power of two
record IsAligned (b : Block) : Type 0 where
  exponent : ℕ
  size : b.size ≡ 2 ^ exponent
  place : ℕ
  start : b.start ≡ b.size * place

legal_erase : (m : Parameters) (b : Block) (slot : Option Erase) → IsAccepted m → erase_kind m b.kind ≡ slot
    → option_map (λ (erase : Erase). erase.size) slot ≡ Some b.size
    → option_map_or (λ (erase : Erase). (b.start % erase.size == 0) && lies_in_one 0 m.regions b.kind b.start erase.size) slot false ≡ true → IsAligned b
legal_erase m b None accepted is size legal = cc
legal_erase m b (Some erase) accepted is size legal =
    let same : erase.size ≡ b.size = cc in
    let power = (accepted.kinds b.kind erase is).size in
    let aligned : b.start % erase.size ≡ 0 = eqb-true (b.start % erase.size) 0 (and_parts _ _ legal).0 in
    let aligned' : b.start % b.size ≡ 0 = subst (λ n. b.start % n ≡ 0) same aligned in
    let some : 0 < b.size = subst (λ n. 0 < n) (sym power.value ∙ same) (pow_pos power.exponent) in
    record {
      exponent = power.exponent;
      size = sym same ∙ power.value;
      place = b.start / b.size;
      start = omega (arith, aligned', some);
    }

legal_is_aligned : (m : Parameters) (b : Block) → IsAccepted m → IsLegalBlock m b → IsAligned b
unfolding is_legal
legal_is_aligned m b accepted legal = legal_erase m b (erase_kind m b.kind) accepted refl legal.size legal.legal

-- a block, and one that is no smaller
smaller_first : (b c : Block) → (x : IsAligned b) → (y : IsAligned c) → x.exponent ≤ y.exponent → AreDisjoint b c ⊎ LiesIn b c
smaller_first b c x y fits =
    let k = 2 ^ (y.exponent - x.exponent) in
    let whole : x.exponent + (y.exponent - x.exponent) ≡ y.exponent = omega arith in
    let times : c.size ≡ b.size * 2 ^ (y.exponent - x.exponent) =
    y.size ∙ ap (λ e. 2 ^ e) (sym whole) ∙ pow-add 2 x.exponent (y.exponent - x.exponent) ∙ ap (λ n. n * 2 ^ (y.exponent - x.exponent)) (sym x.size) in
    let start : c.start ≡ b.size * (2 ^ (y.exponent - x.exponent) * y.place) = y.start ∙ ap (λ n. n * y.place) times ∙ omega arith in
    elim (nested b.size (2 ^ (y.exponent - x.exponent)) x.place y.place) [
      | inl before ↦ inl (inl (omega (arith, before, start, x.start)))
      | inr other ↦ elim other [
        | inl after ↦ inl (inr (omega (arith, after, start, times, x.start)))
        | inr inside ↦ inr (omega (arith, inside.0, start, x.start), omega (arith, inside.1, start, times, x.start))
      ]
    ]

swap : (b c : Block) → AreDisjoint b c → AreDisjoint c b
swap b c disjoint = elim disjoint [ inl before ↦ inr before | inr after ↦ inl after ]

pub blocks_nest : (m : Parameters) (b c : Block) → IsAccepted m → IsLegalBlock m b → IsLegalBlock m c → AreDisjoint b c ⊎ (LiesIn b c ⊎ LiesIn c b)
blocks_nest m b c accepted p q =
    let x = legal_is_aligned m b accepted p in
    let y = legal_is_aligned m c accepted q in
    elim (cases_lt y.exponent x.exponent) [
      | inl smaller ↦ elim (smaller_first c b y x (omega arith)) [ inl disjoint ↦ inl (swap c b disjoint) | inr inside ↦ inr (inr inside) ]
      | inr larger ↦ elim (smaller_first b c x y larger) [ inl disjoint ↦ inl disjoint | inr inside ↦ inr (inl inside) ]
    ]
