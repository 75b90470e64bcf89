-- Rows of cells, and how high they are.
use Rattle.std.proofs.Common.{◌≡◌, ℕ, Bool, true, false, suc, ◌+◌, ◌-◌, ◌*◌, ◌^◌, ◌<◌, ◌≤◌, ◌&&◌, not, if◌then◌else◌, List, length, map, get_or, drop, inl, inr, Result, Ok, Err, IfOk, refl, ap, sym, ◌∙◌, arith}
use Rattle.std.specs.Prelude.{sum}
use Rattle.std.specs.Int.{div_ceil}
use Rattle.std.specs.List.{list_any, range_with_len, slice_range}
use Rattle.std.proofs.Math.Nat.{suc-mul, mul-le-mul_left, mul-le-mul_right}
use Rattle.std.proofs.lemmas.Bool.{cases_lt, true≢false}
use Rattle.std.proofs.lemmas.Grind.{div_ceil_times}
use Rattle.std.proofs.lemmas.List.{get_or-drop, get_or-take, length-drop, length-take-le}
use Rattle.std.proofs.lemmas.List.Folds.{list_any_at}
use Rattle.std.proofs.lemmas.List.FromFn.{get_or-map-range_with_len, length-map-range_with_len, map-range_with_len_more}
use Rattle.std.proofs.lemmas.List.Sums.{sum_by_push}
use Rattle.nor_map.specs.declared.state.State.{State}
use Rattle.nor_map.specs.declared.state.State.TheVariants.{Kept, Erased, Restored, Changed}
use Rattle.nor_map.specs.Marks.{Marks, is_state, state_at}
use Rattle.nor_map.specs.Rows.{Cells, Grid, busy_of, columns_of, fold_height, goes_on, high_of, in_rows, is_plain, row_end, row_height, top_of, tops_of}

-- a row has a first cell
pub row_inside : (count n r : ℕ) → 0 < n → r < div_ceil count n → r * n < count
row_inside count n r some inside =
    let all : div_ceil count n * n < count + n = (div_ceil_times count n some).1 in
    let upto : (r + 1) * n ≤ div_ceil count n * n = mul-le-mul_right n (omega (arith, inside)) in
    let one : r + 1 ≡ suc r = omega arith in
    let next : (r + 1) * n ≡ r * n + n = ap (λ k. k * n) one ∙ suc-mul r n in
    omega (arith, all, upto, next)

-- rows of sixteen cells or more
pub few_rows : (count n : ℕ) → 16 ≤ n → count < 2 ^ 32 → div_ceil count n < 2 ^ 29
few_rows count n some few = elim (cases_lt 0 (div_ceil count n)) [
  | inl here ↦
      let last : (div_ceil count n - 1) * n < count = row_inside count n (div_ceil count n - 1) (omega (arith, some)) (omega (arith, here)) in
      let less : (div_ceil count n - 1) * 16 ≤ (div_ceil count n - 1) * n = mul-le-mul_left (div_ceil count n - 1) some in
      omega (arith, here, last, less, few)
  | inr none ↦ omega (arith, none)
]

-- one row more
pub top_more : (k : Cells) (n r : ℕ) → top_of k n (r + 1) ≡ top_of k n r + row_height k n r
top_more k n r = ap sum (map-range_with_len_more (row_height k n) 0 r r (omega arith)) ∙ sum_by_push (λ x. x) (map (row_height k n) (range_with_len 0 r)) (row_height k n r)

-- cells that were put in rows
pub rows_put : (k : Cells) (n high : ℕ) (tops : List ℕ) → n ≡ columns_of k → tops ≡ tops_of k n → high ≡ high_of k n
    → record { cells = k; columns = n; tops = tops; high = high } ≡ in_rows k
rows_put k n high tops wide each all =
    let grid : ℕ → List ℕ → ℕ → Grid = λ n tops high. record { cells = k; columns = n; tops = tops; high = high } in
    ap (λ l. grid n l high) each ∙ ap (grid n (tops_of k n)) all ∙ ap (λ n. grid n (tops_of k n) (high_of k n)) wide

-- two rows that are drawn apart, or as one line
pub rows_together : (k : Cells) (n r : ℕ) → goes_on k n r ≡ true → top_of k n (r + 1) ≡ top_of k n r
rows_together k n r is =
    let none : row_height k n r ≡ 0 = ap (λ b. if b then 0 else if is_plain k n r then fold_height n else 1) is in
    top_more k n r ∙ omega (arith, none)

some_height : (b : Bool) (n : ℕ) → 0 < (if b then fold_height n else 1)
some_height true n = omega arith
some_height false n = omega arith

pub rows_apart : (k : Cells) (n r : ℕ) → goes_on k n r ≡ false → top_of k n r < top_of k n (r + 1)
rows_apart k n r is =
    let same : row_height k n r ≡ (if is_plain k n r then fold_height n else 1) = ap (λ b. if b then 0 else if is_plain k n r then fold_height n else 1) is in
    omega (arith, top_more k n r, same, some_height (is_plain k n r) n)

-- no cell of a plain row is busy
not_both : (a b : Bool) → (not a && not b) ≡ true → a ≡ false
not_both false b is = refl
not_both true b is = absurd (true≢false (sym is))

kept_is : (s : State) → not (is_state s Kept) ≡ false → s ≡ Kept
kept_is Kept is = refl
kept_is Erased is = absurd (true≢false is)
kept_is Restored is = absurd (true≢false is)
kept_is Changed is = absurd (true≢false is)

none_set : (xs : List Bool) (i : ℕ) → i < length xs → list_any (λ b. b) xs ≡ false → get_or xs i true ≡ false
none_set xs i inside none = go (get_or xs i true) refl
  where
    go : (b : Bool) → get_or xs i true ≡ b → get_or xs i true ≡ false
    go false is = is
    go true is = absurd (true≢false (sym (list_any_at (λ b. b) xs i true inside is) ∙ none))

pub plain_kept : (m : Marks) (edges : List Bool) (n r c : ℕ) → is_plain (record { busy = busy_of m; edges = edges }) n r ≡ true
    → r * n ≤ c → c < row_end (record { busy = busy_of m; edges = edges }) n r → state_at m c ≡ Kept
plain_kept m edges n r c plain from upto =
    let busy = busy_of m in
    let end = row_end (record { busy = busy; edges = edges }) n r in
    let count : length busy ≡ div_ceil m.size m.cell = length-map-range_with_len (λ c. not (is_state (state_at m c) Kept)) 0 (div_ceil m.size m.cell) in
    let row = slice_range busy (r * n) end in
    let long : length row ≡ end - r * n = length-take-le (end - r * n) (drop (r * n) busy) (omega (arith, length-drop (r * n) busy)) in
    let clear : get_or row (c - r * n) true ≡ false =
    none_set row (c - r * n) (omega (arith, long, from, upto)) (not_both (list_any (λ b. b) row) _ plain) in
    let here : get_or row (c - r * n) true ≡ get_or busy (r * n + (c - r * n)) true = get_or-take (end - r * n) (drop (r * n) busy) (c - r * n) true (omega (arith, from, upto)) ∙ get_or-drop (r * n) busy (c - r * n) true in
    let there : r * n + (c - r * n) ≡ c = omega (arith, from) in
    kept_is (state_at m c)
    (sym (get_or-map-range_with_len (λ c. not (is_state (state_at m c) Kept)) 0 (div_ceil m.size m.cell) c c true (omega (arith, upto, count)) (omega arith))
    ∙ ap (λ i. get_or busy i true) (sym there) ∙ sym here ∙ clear)

-- cells of some edges, in rows
pub some_edges : {E : Type 0} (m : Marks) (busy edges : List Bool) (r : Result Grid E) → busy ≡ busy_of m
    → IfOk r (λ grid. grid ≡ in_rows (record { busy = busy; edges = edges })) → IfOk r (λ grid. (x : List Bool) × (grid ≡ in_rows (record { busy = busy_of m; edges = x })))
some_edges m busy edges (Err why) is of = tt
some_edges m busy edges (Ok grid) is of = (edges, of ∙ ap (λ b. in_rows (record { busy = b; edges = edges })) is)
