-- Legal blocks: where an erase of a kind may start (JESD216B, FF00h erase kinds and FF81h sector map; that a block may
-- not cross a region's border is this project's rule).
use Rattle.std.specs.Prelude.{◌≡◌, ◌⊎◌, ℕ, Bool, true, false, ◌+◌, ◌-◌, ◌%◌, ◌<◌, ◌≤◌, ◌==◌, nat_le, nat_lt, ◌&&◌, ◌||◌, if◌then◌else◌, List, [], ◌∷◌, option_map, Option, Some, None, slice_get, take, sum_by}
use Rattle.std.specs.Option.{option_map_or}
use Rattle.nor_base.specs.declared.meaning.Region.{Region}
use Rattle.nor_base.specs.Parameters.{Parameters, erase_kind, allows, block_size}

-- so many bytes from a start on, erased by a kind
pub record Block : Type 0 where
  pub start : ℕ
  pub size : ℕ
  pub kind : ℕ

abbrev pub Holds : Block → ℕ → Type 0
Holds b a = (b.start ≤ a) × (a < b.start + b.size)

-- all of `size` addresses from `start` on lie in one region that allows the kind; the first region begins at `base`
abbrev pub lies_in_one : ℕ → List Region → ℕ → ℕ → ℕ → Bool
lies_in_one base [] kind start size = false
lies_in_one base (region ∷ regions) kind start size =
    (nat_le base start && (nat_le (start + size) (base + region.size) && allows region kind))
    || lies_in_one (base + region.size) regions kind start size

-- a legal block of the kind begins there: the kind is present, the start is a multiple of its size, and the block lies
-- in one region that allows the kind
unfoldable pub is_legal : Parameters → ℕ → ℕ → Bool
is_legal m kind start =
    option_map_or (λ erase. (start % erase.size == 0) && lies_in_one 0 m.regions kind start erase.size) (erase_kind m kind) false

pub record IsLegalBlock (m : Parameters) (b : Block) : Type 0 where
  pub size : option_map (λ erase. erase.size) (erase_kind m b.kind) ≡ Some b.size
  pub legal : is_legal m b.kind b.start ≡ true

-- no address lies in both
abbrev pub AreDisjoint : Block → Block → Type 0
AreDisjoint b c = (b.start + b.size ≤ c.start) ⊎ (c.start + c.size ≤ b.start)

-- the second holds the first
abbrev pub LiesIn : Block → Block → Type 0
LiesIn b c = (c.start ≤ b.start) × (b.start + b.size ≤ c.start + c.size)

-- the first address of the region of a number
abbrev pub region_start : Parameters → ℕ → ℕ
region_start m number = sum_by (λ region. region.size) (take number m.regions)

-- the block lies in one region, which allows its kind
pub record LiesInRegion (m : Parameters) (b : Block) : Type 0 where
  pub number : ℕ
  pub region : Region
  pub there : slice_get m.regions number ≡ Some region
  pub from : region_start m number ≤ b.start
  pub upto : b.start + b.size ≤ region_start m number + region.size
  pub allowed : allows region b.kind ≡ true

abbrev pub block_holds : ℕ → Block → Bool
block_holds a b = nat_le b.start a && nat_lt a (b.start + b.size)

-- the numbers of the erase kinds
abbrev pub kinds : List ℕ
kinds = 1 ∷ 2 ∷ 3 ∷ 4 ∷ []

-- the legal block of a kind that holds an address, if there is one
unfoldable pub block_at : Parameters → ℕ → ℕ → Option Block
block_at m a kind =
    if is_legal m kind (a - a % block_size m kind) then Some (record { start = a - a % block_size m kind; size = block_size m kind; kind = kind })
    else None

-- of two blocks the first, unless the second is smaller
abbrev pub smaller_of : Option Block → Option Block → Option Block
smaller_of None other = other
smaller_of (Some b) None = Some b
smaller_of (Some b) (Some c) = if nat_lt c.size b.size then Some c else Some b

-- of two blocks the first, unless the second is larger
abbrev pub larger_of : Option Block → Option Block → Option Block
larger_of None other = other
larger_of (Some b) None = Some b
larger_of (Some b) (Some c) = if nat_lt b.size c.size then Some c else Some b

-- the best of the blocks that some kinds have, the first of them among equals
abbrev pub best_of : (Option Block → Option Block → Option Block) → (ℕ → Option Block) → List ℕ → Option Block
best_of better of [] = None
best_of better of (kind ∷ more) = better (of kind) (best_of better of more)

-- the smallest legal block at an address
unfoldable pub smallest : Parameters → ℕ → Option Block
smallest m a = best_of smaller_of (block_at m a) kinds
