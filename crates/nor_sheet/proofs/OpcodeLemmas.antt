-- The opcodes of the chip's own rows.
use Rattle.std.proofs.Common.{◌≡◌, ◌∙◌, ℕ, false, List, [], ◌∷◌, ◌++◌, length, Option, Some, None, sym, ap, arith, append-nil}
use Rattle.std.specs.Prelude.{is_some, slice_get, option_and_then, if◌then◌else◌}
use Rattle.std.specs.Option.{option_map_or}
use Rattle.nor_base.specs.declared.meaning.Erase.{Erase}
use Rattle.nor_base.specs.declared.meaning.Region.{Region}
use Rattle.nor_base.specs.declared.meaning.QuadRead.{QuadRead}
use Rattle.nor_base.specs.Parameters.{Parameters}
use Rattle.nor_base.specs.Instructions.{Row, offered_opcodes, own_rows, erase_rows}
use Rattle.nor_sfdp.specs.Opcodes.{is_allowed, kind_opcodes, live_opcodes}
use Rattle.nor_sfdp.proofs.AcceptedLemmas.{rows_of, kind_rows, offered-append}
use Rattle.nor_sfdp.specs.Opcodes.{read_opcodes}

joined : (xs ys : List Row) (a b : List ℕ) → offered_opcodes xs ≡ a → offered_opcodes ys ≡ b → offered_opcodes (xs ++ ys) ≡ a ++ b
joined xs ys a b first rest = offered-append xs ys ∙ ap (λ (l : List ℕ). l ++ offered_opcodes ys) first ∙ ap (λ (l : List ℕ). a ++ l) rest

-- the opcodes of the erase rows are those of the live kinds
erase_opcodes : (first second third fourth : Option Erase) (regions : List Region)
    → offered_opcodes (rows_of first (is_allowed regions 1) 1 ++ (rows_of second (is_allowed regions 2) 2 ++ (rows_of third (is_allowed regions 3) 3 ++ rows_of fourth (is_allowed regions 4) 4)))
    ≡ live_opcodes regions 1 (first ∷ second ∷ third ∷ fourth ∷ [])
erase_opcodes first second third fourth regions =
    let k4 = kind_rows fourth (is_allowed regions 4) 4 ∙ sym (append-nil (kind_opcodes fourth (is_allowed regions 4))) in
    let k3 = joined (rows_of third (is_allowed regions 3) 3) (rows_of fourth (is_allowed regions 4) 4) (kind_opcodes third (is_allowed regions 3)) (kind_opcodes fourth (is_allowed regions 4) ++ [])
    (kind_rows third (is_allowed regions 3) 3) k4 in
    let k2 = joined (rows_of second (is_allowed regions 2) 2) (rows_of third (is_allowed regions 3) 3 ++ rows_of fourth (is_allowed regions 4) 4)
    (kind_opcodes second (is_allowed regions 2)) (live_opcodes regions 3 (third ∷ fourth ∷ [])) (kind_rows second (is_allowed regions 2) 2) k3 in
    joined (rows_of first (is_allowed regions 1) 1) (rows_of second (is_allowed regions 2) 2 ++ (rows_of third (is_allowed regions 3) 3 ++ rows_of fourth (is_allowed regions 4) 4))
    (kind_opcodes first (is_allowed regions 1)) (live_opcodes regions 2 (second ∷ third ∷ fourth ∷ [])) (kind_rows first (is_allowed regions 1) 1) k2

read_first : (read : Option QuadRead) (rows : List Row) (live : List ℕ) → offered_opcodes rows ≡ live
    → (if is_some read then option_map_or (λ q. q.op) read 0 ∷ offered_opcodes rows else offered_opcodes rows) ≡ read_opcodes read ++ live
read_first None rows live same = same
read_first (Some q) rows live same = ap (λ l. q.op ∷ l) same

along : (regions : List Region) (slots : List (Option Erase)) → length slots ≡ 4
    → offered_opcodes (rows_of (option_and_then (λ slot. slot) (slice_get slots 0)) (is_allowed regions 1) 1 ++ (rows_of (option_and_then (λ slot. slot) (slice_get slots 1)) (is_allowed regions 2) 2
    ++ (rows_of (option_and_then (λ slot. slot) (slice_get slots 2)) (is_allowed regions 3) 3 ++ rows_of (option_and_then (λ slot. slot) (slice_get slots 3)) (is_allowed regions 4) 4))) ≡ live_opcodes regions 1 slots
along regions [] four = absurd (omega (arith, four))
along regions (a ∷ []) four = absurd (omega (arith, four))
along regions (a ∷ b ∷ []) four = absurd (omega (arith, four))
along regions (a ∷ b ∷ c ∷ []) four = absurd (omega (arith, four))
along regions (a ∷ b ∷ c ∷ d ∷ []) four = erase_opcodes a b c d regions
along regions (a ∷ b ∷ c ∷ d ∷ e ∷ more) four = absurd (omega (arith, four))

-- they are the quad read's and those of the live kinds
pub own_opcodes : (m : Parameters) → length m.erases ≡ 4 → offered_opcodes (own_rows m false) ≡ read_opcodes m.quad_read ++ live_opcodes m.regions 1 m.erases
own_opcodes m four =
    read_first m.quad_read (erase_rows m false 1 ++ (erase_rows m false 2 ++ (erase_rows m false 3 ++ erase_rows m false 4))) (live_opcodes m.regions 1 m.erases)
    (along m.regions m.erases four)
