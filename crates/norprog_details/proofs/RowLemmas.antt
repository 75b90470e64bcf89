-- Words against arguments in a row.
use Rattle.std.proofs.Common.{◌≡◌, ℕ, zero, suc, ◌+◌, ◌<◌, true, false, List, [], ◌∷◌, ◌++◌, length, get_or, drop, refl, sym, ◌∙◌, ap, arith, add-one, append-nil}
use Rattle.std.specs.Prelude.{nat_eq, ◌&&◌, if◌then◌else◌, Bool}
use Rattle.std.specs.List.{starts_with}
use Rattle.norprog_details.specs.Explained.{in_a_row}
use Rattle.norprog_details.specs.Matching.{Met, Whole, Part, Apart, meeting}

-- whether the words begin a row whose first argument they met so
abbrev pub goes_on : Met → List ℕ → Bool
goes_on Whole rest = true
goes_on (Part more) rest = starts_with nat_eq rest (more ++ 32 ∷ [])
goes_on Apart rest = false

pub met_row : (words argument rest : List ℕ) → starts_with nat_eq ((argument ++ 32 ∷ []) ++ rest) (words ++ 32 ∷ []) ≡ goes_on (meeting words argument) rest
met_row [] [] rest = refl
met_row [] (byte ∷ bytes) rest =
    elim (nat_eq 32 byte) as (λ t. (t && true) ≡ goes_on (if t then Whole else Apart) rest) [ true ↦ refl | false ↦ refl ]
met_row (word ∷ words) [] rest =
    elim (nat_eq word 32) as (λ t. (t && starts_with nat_eq rest (words ++ 32 ∷ [])) ≡ goes_on (if t then Part words else Apart) rest) [ true ↦ refl | false ↦ refl ]
met_row (word ∷ words) (byte ∷ bytes) rest =
    elim (nat_eq word byte) as (λ t. (t && starts_with nat_eq ((bytes ++ 32 ∷ []) ++ rest) (words ++ 32 ∷ [])) ≡ goes_on (if t then meeting words bytes else Apart) rest)
    [ true ↦ met_row words bytes rest | false ↦ refl ]

-- an argument of a row, and those behind it
pub row_at : (asked : List (List ℕ)) (i : ℕ) (d : List ℕ) → i < length asked
    → in_a_row (drop i asked) ≡ (get_or asked i d ++ 32 ∷ []) ++ in_a_row (drop (suc i) asked)
row_at [] i d fits = absurd (omega arith)
row_at (x ∷ xs) zero d fits = refl
row_at (x ∷ xs) (suc i) d fits = row_at xs i d (omega arith)

-- the words against what is left of a row, by how they meet its first argument
pub after_one : (asked : List (List ℕ)) (i : ℕ) (item argument left : List ℕ) (how : Met) → i < length asked → item ≡ get_or asked i item
    → argument ≡ item → meeting left argument ≡ how
    → starts_with nat_eq (in_a_row (drop i asked)) (left ++ 32 ∷ []) ≡ goes_on how (in_a_row (drop (i + 1) asked))
after_one asked i item argument left how fits is same met =
    let rest = in_a_row (drop (suc i) asked) in
    let parts : in_a_row (drop i asked) ≡ (argument ++ 32 ∷ []) ++ rest =
    row_at asked i item fits ∙ ap (λ (front : List ℕ). (front ++ 32 ∷ []) ++ rest) (sym is ∙ sym same) in
    ap (λ (row : List ℕ). starts_with nat_eq row (left ++ 32 ∷ [])) parts
    ∙ met_row left argument rest ∙ ap (λ (m : Met). goes_on m rest) met
    ∙ ap (λ (n : ℕ). goes_on how (in_a_row (drop n asked))) (sym (add-one i))

none_left : (more : List ℕ) → starts_with nat_eq [] (more ++ 32 ∷ []) ≡ false
none_left [] = refl
none_left (byte ∷ bytes) = refl

abbrev pub meets_whole : Met → Bool
meets_whole Whole = true
meets_whole (Part more) = false
meets_whole Apart = false

whole_only : (how : Met) → goes_on how [] ≡ meets_whole how
whole_only Whole = refl
whole_only (Part more) = none_left more
whole_only Apart = refl

-- a line alone is begun by the words where it meets all of them
pub met_line : (words line : List ℕ) (how : Met) → meeting words line ≡ how
    → starts_with nat_eq (line ++ 32 ∷ []) (words ++ 32 ∷ []) ≡ meets_whole how
met_line words line how met =
    ap (λ (row : List ℕ). starts_with nat_eq row (words ++ 32 ∷ [])) (sym (append-nil (line ++ 32 ∷ [])))
    ∙ met_row words line [] ∙ ap (λ (m : Met). goes_on m []) met ∙ whole_only how
