-- Parts of a chip (this project's).
use Rattle.std.specs.Prelude.{ℕ, List, length}
use Rattle.nor_geometry.specs.Plan.{HasPart}

-- a stretch: the address at which it begins, what it holds and what it must hold
pub record Stretch : Type 0 where
  pub at : ℕ
  pub have : List ℕ
  pub want : List ℕ

abbrev pub stretch : ℕ → List ℕ → List ℕ → Stretch
stretch at have want = record { at = at; have = have; want = want }

-- an extent: so many bytes from an address on, of a chip of which the whole content and the whole target are told
pub record Extent : Type 0 where
  pub at : ℕ
  pub count : ℕ
  pub content : List ℕ
  pub target : List ℕ

abbrev pub extent : ℕ → ℕ → List ℕ → List ℕ → Extent
extent at count content target = record { at = at; count = count; content = content; target = target }

-- so it is of a stretch, whatever the rest of the chip holds and must hold
abbrev pub OnEveryChip : Stretch → (Extent → Type 0) → Type 0
OnEveryChip p Is = (content target : List ℕ) → HasPart content p.have p.at → HasPart target p.want p.at → Is (extent p.at (length p.have) content target)
