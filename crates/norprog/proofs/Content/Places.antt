-- Where windows lie.
use Rattle.std.proofs.Common.{◌≡◌, ℕ, ◌+◌, ◌-◌, ◌%◌, ◌^◌, ◌<◌, ◌≤◌, refl, ◌∙◌, ap, arith, inl, inr, min}
use Rattle.std.proofs.Math.Nat.{add-mod_right, pow-le-pow_right}
use Rattle.std.proofs.lemmas.Bool.{cases_lt}
use Rattle.std.proofs.lemmas.Nat.{pow_pos}
use Rattle.nor_base.specs.Accepted.{IsAccepted}
use Rattle.nor_base.specs.Parameters.{Parameters}
use Rattle.nor_geometry.specs.Window.{IsWindowSize}
use Rattle.nor_geometry.proofs.WindowLemmas.{divides, multiple_of, window_power}

pub some_page : (m : Parameters) → IsAccepted m → 0 < m.page
some_page m accepted = let some : 0 < 2 ^ accepted.page.exponent = pow_pos accepted.page.exponent in omega (arith, some, accepted.page.value)

small_page : (m : Parameters) → IsAccepted m → m.page ≤ 4096
small_page m accepted =
    let few : 2 ^ accepted.page.exponent ≤ 2 ^ 12 = pow-le-pow_right (omega arith) accepted.page.at_most in
    omega (arith, few, accepted.page.value)

-- a window is whole pages, and so is the chip
pub window_pages : (m : Parameters) (w : ℕ) → IsAccepted m → IsWindowSize m w → w % m.page ≡ 0
window_pages m w accepted size =
    divides 4 12 12 24 m.page w accepted.page (window_power m w accepted size) (omega (arith, small_page m accepted, size.least))

pub chip_pages : (m : Parameters) → IsAccepted m → m.size % m.page ≡ 0
chip_pages m accepted =
    multiple_of m.size 4096 m.page
    (divides 4 12 12 24 m.page 4096 accepted.page (record { exponent = 12; at_least = omega arith; at_most = omega arith; value = refl }) (small_page m accepted))
    accepted.size_whole

-- the place of a window, and the one after it
pub record IsPlace (m : Parameters) (w at count : ℕ) : Type 0 where
  pub page : 0 < m.page
  pub window : IsWindowSize m w
  pub here : at % w ≡ 0
  pub pages : at % m.page ≡ 0
  pub inside : at + count ≤ m.size
  pub some : 0 < count
  pub few : count ≤ w
  pub whole : (at + count) % m.page ≡ 0
  pub aligned : at + count < m.size → (at + count) % w ≡ 0
  pub upto : at + count ≡ min (at + w) m.size

pub place_is : (m : Parameters) (w at count : ℕ) → IsAccepted m → IsWindowSize m w → at < m.size → at % w ≡ 0 → count ≡ min w (m.size - at) → IsPlace m w at count
place_is m w at count accepted size before aligned is =
    let next : count ≡ w → (at + count) % w ≡ 0 = λ all. ap (λ n. (at + n) % w) all ∙ add-mod_right at w ∙ aligned in
    record {
      page = some_page m accepted;
      window = size;
      here = aligned;
      pages = multiple_of at w m.page (window_pages m w accepted size) aligned;
      inside = omega (arith, is, before);
      some = omega (arith, is, before, size.least);
      few = omega (arith, is);
      whole = elim (cases_lt (m.size - at) w) [
        | inl rest ↦ let last : at + count ≡ m.size = omega (arith, rest, before, is) in ap (λ n. n % m.page) last ∙ chip_pages m accepted
        | inr full ↦ multiple_of (at + count) w m.page (window_pages m w accepted size) (next (omega (arith, full, is)))
      ];
      aligned = λ more. next (omega (arith, more, is));
      upto = omega (arith, is, before);
    }
