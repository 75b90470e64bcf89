-- The pages that a chip may have: each page of the meaning lies in one of them.
use Rattle.std.proofs.Common.{◌≡◌, ◌⊎◌, ℕ, ◌+◌, ◌-◌, ◌*◌, ◌/◌, ◌%◌, ◌^◌, ◌<◌, ◌≤◌, ◌==◌, nat_le, true, ◌&&◌, List, [], ◌∷◌, refl, sym, ◌∙◌, ap, subst, arith, inl, inr, eqb-true, leb-true}
use Rattle.std.specs.List.{list_any, AllByRecursion}
use Rattle.std.proofs.Math.Nat.{mod-lt, div-add-mod, mod_self, pow-le-pow_right}
use Rattle.std.proofs.lemmas.Nat.{pow_pos}
use Rattle.std.proofs.lemmas.Bool.{and_parts, or_cases}
use Rattle.nor_base.specs.Parameters.{Parameters}
use Rattle.nor_base.specs.Accepted.{IsAccepted, IsPowerOfTwo}
use Rattle.nor_base.specs.Chip.{may_page, page_sizes}
use Rattle.nor_plan_laws.proofs.Units.Ranges.{aligned_le}
use Rattle.nor_plan_laws.proofs.Units.Pages.{IsInOne}
use Rattle.nor_geometry.proofs.WindowLemmas.{divides, multiple_of}
use Rattle.nor_plan_laws.proofs.Erased.Erasing.{floor_aligned}
use Rattle.nor_plan_laws.proofs.Units.Walk.{next_aligned}

one_step : (P : ℕ → Type 0) (page size : ℕ) (sizes : List ℕ) → AllByRecursion P (size ∷ sizes) → (list_any (λ s. page == s) sizes ≡ true → P page)
    → (page == size ≡ true) ⊎ (list_any (λ s. page == s) sizes ≡ true) → P page
one_step P page size sizes all later (inl here) = subst P (sym (eqb-true page size here)) all.0
one_step P page size sizes all later (inr h) = later h

one_of : (P : ℕ → Type 0) (page : ℕ) (sizes : List ℕ) → AllByRecursion P sizes → list_any (λ size. page == size) sizes ≡ true → P page
one_of P page [] all h = cc
one_of P page (size ∷ sizes) all h = one_step P page size sizes all (one_of P page sizes all.1) (or_cases (page == size) (list_any (λ s. page == s) sizes) h)

power : (e : ℕ) → 4 ≤ e → e ≤ 12 → IsPowerOfTwo 4 12 (2 ^ e)
power e low high = record { exponent = e; at_least = low; at_most = high; value = refl }

all_powers : AllByRecursion (IsPowerOfTwo 4 12) page_sizes
all_powers = (
  power 4 (omega arith) (omega arith),
  (
    power 5 (omega arith) (omega arith),
    (
      power 6 (omega arith) (omega arith),
      (
        power 7 (omega arith) (omega arith),
        (
          power 8 (omega arith) (omega arith),
          (
            power 9 (omega arith) (omega arith),
            (power 10 (omega arith) (omega arith), (power 11 (omega arith) (omega arith), (power 12 (omega arith) (omega arith), tt))),
          ),
        ),
      ),
    ),
  ),
)

-- a chip's page is the meaning's, or several of them
page_divides : (m : Parameters) (page : ℕ) → IsAccepted m → may_page m page ≡ true → (page % m.page ≡ 0) × (m.page ≤ page)
page_divides m page accepted may =
    elim (or_cases (page == m.page) (m.open_page && (nat_le m.page page && list_any (λ size. page == size) page_sizes)) may) [
      | inl same' ↦
          let same : page ≡ m.page = eqb-true page m.page same' in
          (ap (λ n. n % m.page) same ∙ mod_self m.page, omega arith)
      | inr wider ↦
          let first = and_parts m.open_page (nat_le m.page page && list_any (λ size. page == size) page_sizes) wider in
          let second = and_parts (nat_le m.page page) (list_any (λ size. page == size) page_sizes) first.1 in
          let fits = leb-true m.page page second.0 in
          (divides 4 12 4 12 m.page page accepted.page (one_of (IsPowerOfTwo 4 12) page page_sizes all_powers second.1) fits, fits)
    ]

pub some_page : (m : Parameters) → IsAccepted m → 0 < m.page
some_page m accepted = subst (λ n. 0 < n) (sym accepted.page.value) (pow_pos accepted.page.exponent)

pub in_chip_page : (m : Parameters) (page start : ℕ) → IsAccepted m → may_page m page ≡ true → start % m.page ≡ 0 → IsInOne page start (start + m.page)
in_chip_page m page start accepted may whole =
    let parts = page_divides m page accepted may in
    let some = some_page m accepted in
    let chip : 0 < page = omega (arith, some, parts.1) in
    let rest : start % page < page = mod-lt start chip in
    let all : page * (start / page) + start % page ≡ start = div-add-mod start page in
    let floor = floor_aligned start page in
    let next : ((start - start % page) + page) % page ≡ 0 = next_aligned (start - start % page) page floor in
    let border : ((start - start % page) + page) % m.page ≡ 0 = multiple_of ((start - start % page) + page) page m.page parts.0 next in
    record {
      page_start = start - start % page;
      whole = floor;
      from = omega arith;
      upto = aligned_le (start + m.page) ((start - start % page) + page) m.page some (next_aligned start m.page whole) border (omega (arith, rest, all));
    }

-- a chip has whole pages
pub whole_chip : (m : Parameters) → IsAccepted m → m.size % m.page ≡ 0
whole_chip m accepted =
    let four_kilobytes : IsPowerOfTwo 4 12 4096 = power 12 (omega arith) (omega arith) in
    let fits : m.page ≤ 4096 = small_page accepted.page.exponent accepted.page.at_most accepted.page.value in
    multiple_of m.size 4096 m.page (divides 4 12 4 12 m.page 4096 accepted.page four_kilobytes fits) accepted.size_whole
  where
    small_page : (e : ℕ) → e ≤ 12 → m.page ≡ 2 ^ e → m.page ≤ 4096
    small_page e small is = let power : 2 ^ e ≤ 2 ^ 12 = pow-le-pow_right (omega arith) small in omega (arith, is, power)
