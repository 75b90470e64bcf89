-- How far the headers reach, header by header.
use Rattle.std.proofs.Common.{◌≡◌, ℕ, ◌+◌, ◌*◌, ◌≤◌, List, [], ◌∷◌, ◌++◌, length, map, max, min, cond, false, sym, ◌∙◌, ap, arith}
use Rattle.std.specs.Prelude.{nat_lt}
use Rattle.std.specs.List.{range_with_len}
use Rattle.std.proofs.lemmas.Bool.{le-ltb}
use Rattle.std.proofs.lemmas.List.FromFn.{map-range_with_len_more}
use Rattle.nor_reader.specs.Known.{greatest, ends, header_count, table_end, tables_reach}

greatest-snoc : (ns : List ℕ) (n : ℕ) → greatest (ns ++ n ∷ []) ≡ max (greatest ns) n
greatest-snoc [] n = omega arith
greatest-snoc (m ∷ ns) n = let e = greatest-snoc ns n in omega (arith, e)

-- the headers before one, and where they reach
abbrev pub ends_before : List ℕ → ℕ → List ℕ
ends_before bytes i = (8 + 8 * header_count bytes) ∷ map (table_end bytes) (range_with_len 0 i)

pub reach_more : (bytes : List ℕ) (i reach last further : ℕ) → reach ≡ greatest (ends_before bytes i) → last ≡ table_end bytes i → further ≡ max reach last
    → further ≡ greatest (ends_before bytes (i + 1))
reach_more bytes i reach last further so_far one is =
    let more : map (table_end bytes) (range_with_len 0 (i + 1)) ≡ map (table_end bytes) (range_with_len 0 i) ++ table_end bytes i ∷ [] =
    map-range_with_len_more (table_end bytes) 0 i i (omega arith) in
    let whole : ends_before bytes (i + 1) ≡ ends_before bytes i ++ table_end bytes i ∷ [] = ap (λ ns. (8 + 8 * header_count bytes) ∷ ns) more in
    let e : greatest (ends_before bytes (i + 1)) ≡ max (greatest (ends_before bytes i)) (table_end bytes i) =
    ap greatest whole ∙ greatest-snoc (ends_before bytes i) (table_end bytes i) in
    is ∙ ap (λ n. max n last) so_far ∙ ap (λ n. max (greatest (ends_before bytes i)) n) one ∙ sym e

whole_reach : (bytes : List ℕ) → 8 ≤ length bytes → tables_reach bytes ≡ min (length bytes) (greatest (ends bytes))
whole_reach bytes some =
    let not_few : nat_lt (length bytes) 8 ≡ false = le-ltb (length bytes) 8 some in
    ap (λ b. cond b 0 (min (length bytes) (greatest (ends bytes)))) not_few

pub reach_all : (bytes : List ℕ) (i reach result : ℕ) → 8 ≤ length bytes → i ≡ header_count bytes → reach ≡ greatest (ends_before bytes i)
    → result ≡ min reach (length bytes) → result ≡ tables_reach bytes
reach_all bytes i reach result some last so_far is =
    let e : reach ≡ greatest (ends bytes) = so_far ∙ ap (λ n. greatest (ends_before bytes n)) last in
    let w = whole_reach bytes some in omega (arith, e, w, is)
