-- Where two byte strings differ, as far as they were looked through.
use Rattle.std.proofs.Common.{◌≡◌, ℕ, ◌<◌, ◌≤◌, List, get_or}

-- nothing differs below the first number, nor from the second on
pub record SpansSoFar (one other : List ℕ) (low high done : ℕ) : Type 0 where
  pub reached : high ≤ done
  pub before : (a : ℕ) → a < done → a < low → get_or one a 0 ≡ get_or other a 0
  pub after : (a : ℕ) → a < done → high ≤ a → get_or one a 0 ≡ get_or other a 0

-- nothing differs below this number
abbrev pub AreAlikeBelow : List ℕ → List ℕ → ℕ → Type 0
AreAlikeBelow one other done = (a : ℕ) → a < done → get_or one a 0 ≡ get_or other a 0
