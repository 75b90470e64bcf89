-- Windows begin and end with pages.
use Rattle.std.proofs.Common.{◌≡◌, ◌⊎◌, ℕ, ◌+◌, ◌-◌, ◌*◌, ◌/◌, ◌%◌, ◌^◌, ◌<◌, ◌≤◌, ◌==◌, ◌&&◌, [], ◌++◌, refl, sym, ◌∙◌, ap, arith, inl, inr}
use Rattle.std.proofs.Math.Nat.{mod-add-mod, pow-le-pow_right}
use Rattle.nor_base.specs.declared.meaning.Strategy.{Strategy}
use Rattle.nor_base.specs.Parameters.{Parameters}
use Rattle.nor_base.specs.Accepted.{IsAccepted}
use Rattle.nor_geometry.specs.Window.{IsWindowSize}
use Rattle.nor_geometry.proofs.WindowLemmas.{divides, multiple_of, window_power}
use Rattle.nor_geometry.specs.Plan.{IsWindow}

-- what the window gives
page_size : (m : Parameters) → IsAccepted m → m.page ≤ 4096
page_size m accepted =
    let p = accepted.page in
    let few : 2 ^ p.exponent ≤ 2 ^ 12 = up p.exponent 12 p.at_most in
    omega (arith, p.value, few)
  where
    up : (i j : ℕ) → i ≤ j → 2 ^ i ≤ 2 ^ j
    up i j fits = pow-le-pow_right (omega arith) fits

page_divides : (m : Parameters) (size : ℕ) → IsAccepted m → IsWindowSize m size → size % m.page ≡ 0
page_divides m size accepted is =
    let few = page_size m accepted in
    divides 4 12 12 24 m.page size accepted.page (window_power m size accepted is) (omega (arith, is.least))

pub sum_whole : (a b n : ℕ) → a % n ≡ 0 → b % n ≡ 0 → (a + b) % n ≡ 0
sum_whole a b n first second =
    let none : 0 + b ≡ b = omega arith in
    sym (mod-add-mod a n b) ∙ ap (λ x. (x + b) % n) first ∙ ap (λ x. x % n) none ∙ second

pub starts_page : (m : Parameters) (by : Strategy) (at count : ℕ) → IsAccepted m → IsWindow m by at count → at % m.page ≡ 0
starts_page m by at count accepted w = multiple_of at w.size m.page (page_divides m w.size accepted w.its_size) w.whole

pub ends_page : (m : Parameters) (by : Strategy) (at count : ℕ) → IsAccepted m → IsWindow m by at count → (at + count) % m.page ≡ 0
ends_page m by at count accepted w = elim w.ends [
  | inl full ↦
      ap (λ n. (at + n) % m.page) full
      ∙ sum_whole at w.size m.page (starts_page m by at count accepted w) (page_divides m w.size accepted w.its_size)
  | inr last ↦
      let chip : m.size % m.page ≡ 0 = multiple_of m.size 4096 m.page (divides 4 12 12 12 m.page 4096 accepted.page (record { exponent = 12; at_least = omega arith; at_most = omega arith; value = refl }) (page_size m accepted)) accepted.size_whole in
      ap (λ n. n % m.page) last.1 ∙ chip
]
