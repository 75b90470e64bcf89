-- The sizes that are listed are powers of two.
use Rattle.std.proofs.Common.{◌≡◌, ℕ, ◌≤◌, ◌^◌, ◌==◌, Bool, true, false, ◌||◌, List, [], ◌∷◌, refl, sym, subst, arith}
use Rattle.std.specs.List.{list_any, AllByRecursion}
use Rattle.std.proofs.lemmas.Bool.{eqb-true}
use Rattle.nor_base.specs.Accepted.{IsPowerOfTwo}
use Rattle.nor_base.specs.Chip.{page_sizes}
use Rattle.nor_sheet.specs.Limits.{is_page, is_erase_size, erase_sizes}

by_first : (P : ℕ → Type 0) (n this : ℕ) (others : List ℕ) (b : Bool) → (n == this) ≡ b → P this → (list_any (λ this. n == this) others ≡ true → P n)
    → (b || list_any (λ this. n == this) others) ≡ true → P n
by_first P n this others true e has rest h = subst P (sym (eqb-true n this e)) has
by_first P n this others false e has rest h = rest h

-- what is one of some numbers has what they have
among : (P : ℕ → Type 0) (n : ℕ) (these : List ℕ) → AllByRecursion P these → list_any (λ this. n == this) these ≡ true → P n
among P n [] all h = cc
among P n (this ∷ others) all h = by_first P n this others (n == this) refl all.0 (among P n others all.1) h

power : (low high e : ℕ) → low ≤ e → e ≤ high → IsPowerOfTwo low high (2 ^ e)
power low high e at_least at_most = record { exponent = e; at_least = at_least; at_most = at_most; value = refl }

page : (e : ℕ) → 4 ≤ e → e ≤ 12 → IsPowerOfTwo 4 12 (2 ^ e)
page = power 4 12

block : (e : ℕ) → 8 ≤ e → e ≤ 24 → IsPowerOfTwo 8 24 (2 ^ e)
block = power 8 24

pub page_power : (n : ℕ) → is_page n ≡ true → IsPowerOfTwo 4 12 n
page_power n h =
    among (IsPowerOfTwo 4 12) n page_sizes (
      page 4 (omega arith) (omega arith),
      (
        page 5 (omega arith) (omega arith),
        (
          page 6 (omega arith) (omega arith),
          (
            page 7 (omega arith) (omega arith),
            (
              page 8 (omega arith) (omega arith),
              (
                page 9 (omega arith) (omega arith),
                (
                  page 10 (omega arith) (omega arith),
                  (
                    page 11 (omega arith) (omega arith),
                    (page 12 (omega arith) (omega arith), tt),
                  ),
                ),
              ),
            ),
          ),
        ),
      ),
    ) h

pub erase_power : (n : ℕ) → is_erase_size n ≡ true → IsPowerOfTwo 8 24 n
erase_power n h =
    among (IsPowerOfTwo 8 24) n erase_sizes (
      block 8 (omega arith) (omega arith),
      (
        block 9 (omega arith) (omega arith),
        (
          block 10 (omega arith) (omega arith),
          (
            block 11 (omega arith) (omega arith),
            (
              block 12 (omega arith) (omega arith),
              (
                block 13 (omega arith) (omega arith),
                (
                  block 14 (omega arith) (omega arith),
                  (
                    block 15 (omega arith) (omega arith),
                    (
                      block 16 (omega arith) (omega arith),
                      (
                        block 17 (omega arith) (omega arith),
                        (
                          block 18 (omega arith) (omega arith),
                          (
                            block 19 (omega arith) (omega arith),
                            (
                              block 20 (omega arith) (omega arith),
                              (
                                block 21 (omega arith) (omega arith),
                                (
                                  block 22 (omega arith) (omega arith),
                                  (
                                    block 23 (omega arith) (omega arith),
                                    (block 24 (omega arith) (omega arith), tt),
                                  ),
                                ),
                              ),
                            ),
                          ),
                        ),
                      ),
                    ),
                  ),
                ),
              ),
            ),
          ),
        ),
      ),
    ) h
