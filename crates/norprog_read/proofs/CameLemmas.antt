-- What came over the line.
use Rattle.std.proofs.Common.{◌≡◌, ℕ, List, ◌++◌, subst}
use Rattle.norprog_read.specs.declared.asked.Span.{Span}
use Rattle.norprog_read.specs.Span.{part_in}

-- by the slices of what was read
pub read_as : (P : List ℕ → Type 0) (part : Span) {tables content tables_in content_in : List ℕ} → tables ≡ tables_in → content ≡ content_in
    → P (tables ++ part_in part content) → P (tables_in ++ part_in part content_in)
read_as P part {tables} {content} {tables_in} {content_in} same alike p =
    subst (λ (xs : List ℕ). P (tables_in ++ part_in part xs)) alike (subst (λ (xs : List ℕ). P (xs ++ part_in part content)) same p)
