-- Which chip work is resumed on (this project's).
use Rattle.std.specs.Prelude.{◌≡◌, ◌⊎◌, ℕ, Bool, true, false, ◌*◌, ◌<◌, ◌≤◌, List, length, take, drop, Some, slice_get}
use Rattle.nor_base.specs.Blocks.{Block}
use Rattle.nor_base.specs.Parameters.{Parameters}
use Rattle.nor_base.specs.declared.meaning.Strategy.TheVariants.{S1}
use Rattle.nor_geometry.specs.Legal.{IsSmallestAt}
use Rattle.norprog_flash.specs.declared.resumed.Grain.{Grain}
use Rattle.norprog_read.specs.Span.{IsWide}

-- the bytes from a multiple of a size on up to the next
unfoldable pub window : ℕ → List ℕ → ℕ → List ℕ
window size bytes k = take size (drop (k * size) bytes)

-- a byte is the dump's, or FFh where that is so of erased ones
abbrev pub IsKept : Bool → List ℕ → List ℕ → ℕ → Type 0
IsKept erased held old at = (slice_get held at ≡ slice_get old at) ⊎ ((erased ≡ true) × (slice_get held at ≡ Some 255))

-- some byte isn't
abbrev pub LosesAt : Bool → List ℕ → List ℕ → Type 0
LosesAt erased held old = (at : ℕ) × (at < length held) × (IsKept erased held old at → ⊥)

-- if the goal of work is the older dump in a whole piece, which no work to it touches, a chip that holds this keeps the dump there
abbrev pub Keeps : Grain → List ℕ → List ℕ → List ℕ → ℕ → Type 0
Keeps g held old goal k =
    window g.size goal k ≡ window g.size old k
    → (at : ℕ) → at < length (window g.size held k) → IsKept g.erased (window g.size held k) (window g.size old k) at

-- the goal is, and it doesn't
abbrev pub Loses : Grain → List ℕ → List ℕ → List ℕ → ℕ → Type 0
Loses g held old goal k = (window g.size goal k ≡ window g.size old k) × LosesAt g.erased (window g.size held k) (window g.size old k)

-- so it is in each piece, or not so in some
abbrev pub KeepsAll : Grain → List ℕ → List ℕ → List ℕ → Type 0
KeepsAll g held old goal = (k : ℕ) → k * g.size < length held → Keeps g held old goal k

abbrev pub LosesOne : Grain → List ℕ → List ℕ → List ℕ → Type 0
LosesOne g held old goal = (k : ℕ) × Loses g held old goal k

-- the smallest legal block at a multiple of 256, as one that each block begins at is; the first strategy takes all
abbrev pub IsBlock : Parameters → Block → Type 0
IsBlock m b = (cell : ℕ) × (cell * 256 < m.size) × IsSmallestAt m S1 (cell * 256) b

-- the largest page's size, or that of the widest of these blocks
pub record IsFine (m : Parameters) (size : ℕ) : Type 0 where
  pub page : 4096 ≤ size
  pub blocks : (b : Block) → IsBlock m b → b.size ≤ size
  pub one : (size ≡ 4096) ⊎ ((b : Block) × IsBlock m b × (b.size ≡ size))

abbrev pub grain : Bool → ℕ → Grain
grain erased size = record { size = size; erased = erased }

-- a chip of this meaning that holds this may be the one of the older dump, on which work to this goal stopped
pub record IsOfDump (m : Parameters) (held old goal : List ℕ) : Type 0 where
  pub windows : (size : ℕ) × IsWide m size × KeepsAll (grain false size) held old goal
  pub blocks : (size : ℕ) × IsFine m size × KeepsAll (grain true size) held old goal

-- it isn't
abbrev pub IsOfAnother : Parameters → List ℕ → List ℕ → List ℕ → Type 0
IsOfAnother m held old goal =
    ((size : ℕ) × IsWide m size × LosesOne (grain false size) held old goal) ⊎ ((size : ℕ) × IsFine m size × LosesOne (grain true size) held old goal)
