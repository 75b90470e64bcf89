-- Windows: a size that the size of each block, and the page, divides.
use Rattle.std.proofs.Common.{◌≡◌, ◌⊎◌, ℕ, suc, ◌+◌, ◌-◌, ◌*◌, ◌/◌, ◌%◌, ◌^◌, ◌<◌, ◌≤◌, Bool, true, false, List, [], ◌∷◌, zero, Option, Some, None, refl, sym, ◌∙◌, ap, arith, inl, inr, max, if◌then◌else◌}
use Rattle.std.specs.Prelude.{is_some, slice_get}
use Rattle.std.specs.List.{list_any}
use Rattle.std.specs.Option.{option_map_or}
use Rattle.std.proofs.Math.Bool.{or-true}
use Rattle.std.proofs.Math.Nat.{div-add-mod, mul-le-mul_left, mul-suc, mul-mod_right, mod-mod_of_dvd, dvd_of_mod-eq-zero, zero-mod, pow-suc, pow-le-pow_right}
use Rattle.std.proofs.lemmas.Nat.{pow-add, pow_pos}
use Rattle.std.proofs.lemmas.Bool.{cases_lt, and_parts}
use Rattle.nor_base.specs.declared.meaning.Erase.{Erase}
use Rattle.nor_base.specs.declared.meaning.Region.{Region}
use Rattle.nor_base.specs.Parameters.{Parameters, erase_kind, allows, block_size, is_live}
use Rattle.nor_base.specs.Accepted.{IsAccepted, IsPowerOfTwo}
use Rattle.nor_base.specs.Blocks.{Block, IsLegalBlock}
use Rattle.nor_base.proofs.RegionLaws.{legal_in_region}
use Rattle.nor_geometry.specs.Window.{IsLiveSize, IsWindowSize, IsUncrossed, live_size}
use Rattle.nor_geometry.proofs.KindLemmas.{placed, size_of, few_kinds}

-- powers of two: the smaller divides the larger
power_divides : (i j : ℕ) → i ≤ j → 2 ^ j % 2 ^ i ≡ 0
power_divides i j rises =
    let sum : i + (j - i) ≡ j = omega arith in
    ap (λ n. n % 2 ^ i) (ap (λ n. 2 ^ n) (sym sum) ∙ pow-add 2 i (j - i)) ∙ mul-mod_right (2 ^ i) (2 ^ (j - i))

pub divides : (low high low' high' a b : ℕ) → IsPowerOfTwo low high a → IsPowerOfTwo low' high' b → a ≤ b → b % a ≡ 0
divides low high low' high' a b p q fits = elim (cases_lt q.exponent p.exponent) [
  | inl less ↦
      let more : 2 ^ suc q.exponent ≤ 2 ^ p.exponent = pow-le-pow_right (omega arith) less in
      let twice : 2 ^ suc q.exponent ≡ 2 ^ q.exponent * 2 = pow-suc 2 q.exponent in
      let some : 0 < 2 ^ q.exponent = pow_pos q.exponent in
      absurd (omega (arith, more, twice, some, p.value, q.value, fits))
  | inr more ↦ ap (λ n. n % a) q.value ∙ ap (λ n. 2 ^ q.exponent % n) p.value ∙ power_divides p.exponent q.exponent more
]

pub multiple_of : (x b a : ℕ) → b % a ≡ 0 → x % b ≡ 0 → x % a ≡ 0
multiple_of x b a divides whole = sym (mod-mod_of_dvd a x (dvd_of_mod-eq-zero a divides)) ∙ ap (λ n. n % a) whole ∙ zero-mod a

-- of two multiples of a number one is at least that number past the other
pub steps : (n a b : ℕ) → a % n ≡ 0 → b % n ≡ 0 → a < b → a + n ≤ b
steps n a b whole_a whole_b less =
    let at : n * (a / n) + a % n ≡ a = div-add-mod a n in
    let bt : n * (b / n) + b % n ≡ b = div-add-mod b n in
    elim (cases_lt (a / n) (b / n)) [
      | inl past ↦
          let far : n * suc (a / n) ≤ n * (b / n) = mul-le-mul_left n past in
          let step : n * suc (a / n) ≡ n * (a / n) + n = mul-suc n (a / n) in
          omega (arith, at, bt, far, step, whole_a, whole_b)
      | inr upto ↦
          let far : n * (b / n) ≤ n * (a / n) = mul-le-mul_left n upto in
          absurd (omega (arith, at, bt, far, whole_a, whole_b))
    ]

-- a kind that a region allows is live where it is present
any_allows : (regions : List Region) (number kind : ℕ) (region : Region) → slice_get regions number ≡ Some region → allows region kind ≡ true
    → list_any (λ r. allows r kind) regions ≡ true
any_allows [] number kind region there allowed = cc
any_allows (r ∷ rs) zero kind region there allowed =
    let same : r ≡ region = cc in
    rw (ap (λ (x : Region). allows x kind) same ∙ allowed) refl
any_allows (r ∷ rs) (suc number) kind region there allowed = rw (any_allows rs number kind region there allowed) (or-true (allows r kind))

pub legal_live : (m : Parameters) (b : Block) → IsAccepted m → IsLegalBlock m b → is_live m b.kind ≡ true
legal_live m b accepted legal =
    let p = placed m b accepted legal in
    let lies = legal_in_region m b legal in
    rw (p.there, any_allows m.regions lies.number b.kind lies.region lies.there lies.allowed) refl

pow_up : (i j : ℕ) → i ≤ j → 2 ^ i ≤ 2 ^ j
pow_up i j fits = pow-le-pow_right (omega arith) fits

-- the window's size is a power of two
power_by : (m : Parameters) (w : ℕ) (kind : ℕ) (slot : Option Erase) → IsAccepted m → 4096 ≤ w → erase_kind m kind ≡ slot → is_some slot ≡ true
    → option_map_or (λ (e : Erase). e.size) slot 0 ≡ w → IsPowerOfTwo 12 24 w
power_by m w kind None accepted least there is size = cc
power_by m w kind (Some erase) accepted least there is size =
    let p = (accepted.kinds kind erase there).size in
    record {
      exponent = p.exponent;
      at_least = elim (cases_lt p.exponent 12) [
        | inl less ↦
            let few : 2 ^ p.exponent ≤ 2 ^ 11 = pow_up p.exponent 11 (omega arith) in
            absurd (omega (arith, p.value, few))
        | inr fits ↦ fits
      ];
      at_most = p.at_most;
      value = sym size ∙ p.value;
    }

pub window_power : (m : Parameters) (w : ℕ) → IsAccepted m → IsWindowSize m w → IsPowerOfTwo 12 24 w
window_power m w accepted size = elim size.some [
  | inl least ↦ record { exponent = 12; at_least = omega arith; at_most = omega arith; value = least }
  | inr live ↦
      power_by m w live.kind (erase_kind m live.kind) accepted size.least refl
      (and_parts (is_some (erase_kind m live.kind)) (list_any (λ r. allows r live.kind) m.regions) live.live).0 live.its_size
]

pub blocks_uncrossed : (m : Parameters) (w border : ℕ) (b : Block) → IsAccepted m → IsWindowSize m w → border % w ≡ 0 → IsLegalBlock m b
    → IsUncrossed border b.start b.size
blocks_uncrossed m w border b accepted size whole legal = λ before.
    let p = placed m b accepted legal in
    let live = legal_live m b accepted legal in
    let its : block_size m b.kind ≡ b.size = size_of m b.kind p.erase p.there ∙ sym p.size in
    let fits : b.size ≤ w = let most = size.greatest b.kind live in omega arith in
    let power : IsPowerOfTwo 8 24 b.size = rw p.size (accepted.kinds b.kind p.erase p.there).size in
    steps b.size b.start border p.aligned (multiple_of border w b.size (divides 8 24 12 24 b.size w power (window_power m w accepted size) fits) whole) before

pub pages_uncrossed : (m : Parameters) (w border start : ℕ) → IsAccepted m → IsWindowSize m w → border % w ≡ 0 → start % m.page ≡ 0 → IsUncrossed border start m.page
pages_uncrossed m w border start accepted size whole aligned = λ before.
    let page = accepted.page in
    let few : 2 ^ page.exponent ≤ 2 ^ 12 = pow_up page.exponent 12 page.at_most in
    let fits : m.page ≤ w = omega (arith, page.value, few, size.least) in
    steps m.page start border aligned (multiple_of border w m.page (divides 4 12 12 24 m.page w page (window_power m w accepted size) fits) whole) before

-- the greatest of the kinds below one
pub record IsGreatestBelow (m : Parameters) (kind w : ℕ) : Type 0 where
  pub least : 4096 ≤ w
  pub greatest : (k : ℕ) → k < kind → is_live m k ≡ true → block_size m k ≤ w
  pub some : (w ≡ 4096) ⊎ IsLiveSize m w

pub one_more : (m : Parameters) (kind w n : ℕ) → IsGreatestBelow m kind w → n ≡ max w (live_size m kind) → IsGreatestBelow m (kind + 1) n
one_more m kind w n h is = by_live (is_live m kind) refl
  where
    by_live : (t : Bool) → is_live m kind ≡ t → IsGreatestBelow m (kind + 1) n
    by_live true live =
        let now : n ≡ max w (block_size m kind) = is ∙ ap (λ t. max w (if t then block_size m kind else 0)) live in
        record {
          least = omega (arith, h.least);
          greatest = λ k below its. elim (cases_lt k kind) [
            | inl less ↦ let most = h.greatest k less its in omega arith
            | inr here ↦ let same : k ≡ kind = omega arith in let size : block_size m k ≡ block_size m kind = ap (block_size m) same in omega arith
          ];
          some = elim (cases_lt w (block_size m kind)) [
            | inl larger ↦ let size : n ≡ block_size m kind = omega arith in inr (record { kind = kind; live = live; its_size = sym size })
            | inr fits ↦ let size : n ≡ w = omega arith in rw size h.some
          ];
        }
    by_live false dead =
        let now : n ≡ max w 0 = is ∙ ap (λ t. max w (if t then block_size m kind else 0)) dead in
        let size : n ≡ w = omega arith in
        record {
          least = omega (arith, h.least);
          greatest = λ k below its. elim (cases_lt k kind) [
            | inl less ↦ let most = h.greatest k less its in omega arith
            | inr here ↦
                let same : k ≡ kind = omega arith in
                let both : true ≡ false = sym its ∙ ap (is_live m) same ∙ dead in
                cc
          ];
          some = rw size h.some;
        }

pub none_yet : (m : Parameters) → IsGreatestBelow m 1 4096
none_yet m = record {
  least = omega arith;
  greatest = λ k below live. let none : k ≡ 0 = omega arith in let both : true ≡ false = sym live ∙ ap (is_live m) none in cc;
  some = inl refl;
}

absent_far : (m : Parameters) (kind : ℕ) (slot : Option Erase) → IsAccepted m → erase_kind m kind ≡ slot → is_some slot ≡ true → kind < 5
absent_far m kind None accepted there is = cc
absent_far m kind (Some erase) accepted there is = few_kinds m kind erase accepted there

pub all_kinds : (m : Parameters) (w : ℕ) → IsAccepted m → IsGreatestBelow m 5 w → IsWindowSize m w
all_kinds m w accepted h = record {
  least = h.least;
  greatest = λ kind live.
      h.greatest kind
      (absent_far m kind (erase_kind m kind) accepted refl (and_parts (is_some (erase_kind m kind)) (list_any (λ r. allows r kind) m.regions) live).0) live;
  some = h.some;
}
