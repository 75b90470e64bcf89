-- Bytes with some of them changed.
use Rattle.std.specs.Prelude.{ℕ, List, slice_set}
use Rattle.std.specs.List.{fold}

-- each change, an address and the byte that stands there from then on, after the one before it; past the bytes it does nothing
abbrev pub patched : List ℕ → List (ℕ × ℕ) → List ℕ
patched bytes patches = fold (λ held patch. slice_set held patch.0 patch.1) bytes patches
