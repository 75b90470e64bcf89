-- Bytes that are there beside those that are wanted.
use Rattle.std.specs.Prelude.{◌≡◌, ℕ, Bool, true, false, ◌+◌, ◌-◌, ◌<◌, ◌≤◌, ◌==◌, not, ◌&&◌, List, length, bit_and}
use Rattle.std.specs.List.{list_any, zip}
use Rattle.nor_base.specs.Parameters.{Parameters}
use Rattle.nor_base.specs.Effect.{may_program}
use Rattle.nor_base.specs.declared.meaning.Strategy.{Strategy}
use Rattle.nor_base.specs.Need.{differs, is_due, is_beyond}

-- some bit is 0 in the first and 1 in the second
abbrev pub raises_bit : ℕ → ℕ → Bool
raises_bit old byte = not (bit_and old byte == byte)

-- they differ, and the first isn't FFh
abbrev pub is_kept : ℕ → ℕ → Bool
is_kept old byte = not (old == byte) && not (old == 255)

-- some bytes of a pair of lists, taken side by side, pass
abbrev pub any_pair : (ℕ → ℕ → Bool) → List ℕ × List ℕ → Bool
any_pair test lists = list_any (λ pair. test pair.0 pair.1) (zip lists.0 lists.1)

-- a byte over another is due
abbrev pub is_due_over : Parameters → ℕ → ℕ → Bool
is_due_over m old byte = not (old == byte) && not (may_program m old byte)

-- of bytes that begin at an address, with those that are wanted: the lowest address from one on whose byte is due
pub record IsFirstDue (m : Parameters) (lists : List ℕ × List ℕ) (at from a : ℕ) : Type 0 where
  pub low : from ≤ a
  pub high : a < at + length lists.0
  pub due : is_due m lists.0 lists.1 (a - at) ≡ true
  pub before : (x : ℕ) → from ≤ x → x < a → is_due m lists.0 lists.1 (x - at) ≡ false

-- none is, from there on
abbrev pub NoneDue : Parameters → List ℕ × List ℕ → ℕ → ℕ → Type 0
NoneDue m lists at from = (x : ℕ) → from ≤ x → x < at + length lists.0 → is_due m lists.0 lists.1 (x - at) ≡ false

-- of bytes that begin at an address: the lowest address that differs, where the strategy reaches none of them
pub record IsFirstBeyond (by : Strategy) (have want : List ℕ) (at a : ℕ) : Type 0 where
  pub low : at ≤ a
  pub high : a < at + length have
  pub far : (x : ℕ) → at ≤ x → is_beyond by x ≡ true
  pub apart : differs have want (a - at) ≡ true
  pub before : (x : ℕ) → at ≤ x → x < a → differs have want (x - at) ≡ false

-- none that differs is out of reach
abbrev pub NoneBeyond : Strategy → List ℕ → List ℕ → ℕ → Type 0
NoneBeyond by have want at = (x : ℕ) → at ≤ x → x < at + length have → is_beyond by x && differs have want (x - at) ≡ false
