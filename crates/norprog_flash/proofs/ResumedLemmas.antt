-- The bytes of a piece, and how many a piece has.
use Rattle.std.proofs.Common.{◌≡◌, ℕ, ◌+◌, ◌-◌, ◌*◌, ◌<◌, ◌≤◌, ◌⊎◌, inl, inr, List, [], length, take, drop, take_all, refl, sym, ap, subst, ◌∙◌, arith, min, max, length-drop, mul-le-mul_right}
use Rattle.std.proofs.lemmas.Bool.{cases_lt}
use Rattle.std.proofs.lemmas.Grind.{div_ceil_times}
use Rattle.std.proofs.Math.ListN.{drop_of_length-le}
use Rattle.std.specs.Int.{div_ceil}
use Rattle.nor_base.specs.Blocks.{Block}
use Rattle.nor_base.specs.Parameters.{Parameters}
use Rattle.nor_base.specs.declared.meaning.Strategy.TheVariants.{S1}
use Rattle.nor_geometry.specs.Legal.{IsReachedAt, IsSmallestAt}
use Rattle.norprog_flash.specs.Resumed.{IsBlock, window}

-- a part up to where the bytes end is as good as one past there
same_part : (xs : List ℕ) (size place last : ℕ) → place ≤ length xs → last ≡ min (length xs) (place + size)
    → take (last - place) (drop place xs) ≡ take size (drop place xs)
same_part xs size place last within is = by (cases_lt (length xs) (place + size))
  where
    by : (length xs < place + size) ⊎ (place + size ≤ length xs) → take (last - place) (drop place xs) ≡ take size (drop place xs)
    by (inl short) =
        let fits : length (drop place xs) ≤ last - place = omega (arith, length-drop place xs) in
        let all : length (drop place xs) ≤ size = omega (arith, length-drop place xs) in
        take_all (last - place) (drop place xs) fits ∙ sym (take_all size (drop place xs) all)
    by (inr full) = let same : last - place ≡ size = omega arith in ap (λ n. take n (drop place xs)) same

no_part : (xs : List ℕ) (size place : ℕ) → length xs < place → [] ≡ take size (drop place xs)
no_part xs size place past =
    let le : length xs ≤ place = omega arith in
    let none : drop place xs ≡ [] = drop_of_length-le xs le in
    let empty : length (drop place xs) ≤ size = omega (arith, length-drop place xs) in
    sym (take_all size (drop place xs) empty ∙ none)

pub same_window : (size : ℕ) (xs : List ℕ) (k last : ℕ) → k * size ≤ length xs → last ≡ min (length xs) (k * size + size)
    → take (last - k * size) (drop (k * size) xs) ≡ window size xs k
unfolding window
same_window size xs k last within is = same_part xs size (k * size) last within is

pub no_window : (size : ℕ) (xs : List ℕ) (k : ℕ) → length xs < k * size → [] ≡ window size xs k
unfolding window
no_window size xs k past = no_part xs size (k * size) past

-- a piece that begins before the end is one of those that are looked at
pub piece_inside : (len size k n : ℕ) → 0 < size → n ≡ div_ceil len size → k * size < len → k < n
piece_inside len size k n some is below = by (cases_lt k n)
  where
    by : (k < n) ⊎ (n ≤ k) → k < n
    by (inl less) = less
    by (inr more) =
        let all : len ≤ div_ceil len size * size = (div_ceil_times len size some).0 in
        let upto : n * size ≤ k * size = mul-le-mul_right size more in
        omega (arith, below, subst (λ count. len ≤ count * size) (sym is) all, upto)

-- the widest block of the first so many cells
pub record FineBelow (m : Parameters) (cells size : ℕ) : Type 0 where
  pub page : 4096 ≤ size
  pub blocks : (cell : ℕ) → cell < cells → (b : Block) → IsSmallestAt m S1 (cell * 256) b → b.size ≤ size
  pub one : (size ≡ 4096) ⊎ ((b : Block) × IsBlock m b × (b.size ≡ size))

pub none_yet : (m : Parameters) → FineBelow m 0 4096
none_yet m = record { page = omega arith; blocks = λ cell less. absurd (omega (arith, less)); one = inl refl }

-- of one more, at which there is no block, or one
module _ (m : Parameters) (n size : ℕ) (fine : FineBelow m n size) where
  pub no_block : ((b : Block) → IsReachedAt m S1 (n * 256) b → ⊥) → FineBelow m (n + 1) size
  no_block none = record { page = fine.page; blocks = blocks; one = fine.one }
    where
      blocks : (cell : ℕ) → cell < n + 1 → (b : Block) → IsSmallestAt m S1 (cell * 256) b → b.size ≤ size
      blocks cell less b is = by (cases_lt cell n)
        where
          by : (cell < n) ⊎ (n ≤ cell) → b.size ≤ size
          by (inl before) = fine.blocks cell before b is
          by (inr past) = absurd (none b (subst (λ k. IsReachedAt m S1 (k * 256) b) (omega (arith, less, past)) is.listed.is))

  pub a_block : (b : Block) (more : ℕ) → n * 256 < m.size → IsSmallestAt m S1 (n * 256) b → more ≡ max size b.size → FineBelow m (n + 1) more
  a_block b more inside smallest is = record { page = omega (arith, fine.page, is); blocks = blocks; one = one (cases_lt size b.size) }
    where
      blocks : (cell : ℕ) → cell < n + 1 → (c : Block) → IsSmallestAt m S1 (cell * 256) c → c.size ≤ more
      blocks cell less c at = by (cases_lt cell n)
        where
          by : (cell < n) ⊎ (n ≤ cell) → c.size ≤ more
          by (inl before) = let le = fine.blocks cell before c at in omega (arith, le, is)
          by (inr past) =
              let same : n ≡ cell = omega (arith, less, past) in
              let le = at.least b (subst (λ k. IsReachedAt m S1 (k * 256) b) same smallest.listed.is) in omega (arith, le, is)

      one : (size < b.size) ⊎ (b.size ≤ size) → (more ≡ 4096) ⊎ ((c : Block) × IsBlock m c × (c.size ≡ more))
      one (inl larger) = let same : b.size ≡ more = omega (arith, larger, is) in inr (b, (n, inside, smallest), same)
      one (inr smaller) = let same : size ≡ more = omega (arith, smaller, is) in subst (λ k. (k ≡ 4096) ⊎ ((c : Block) × IsBlock m c × (c.size ≡ k))) same fine.one
