-- The parts in which a chip's content is worked on (this project's).
use Rattle.std.specs.Prelude.{◌≡◌, ◌⊎◌, ℕ, true, ◌+◌, ◌<◌, ◌≤◌, if◌then◌else◌}
use Rattle.nor_base.specs.Parameters.{Parameters, is_live, block_size}

-- some live kind has blocks of this size
pub record IsLiveSize (m : Parameters) (size : ℕ) : Type 0 where
  pub kind : ℕ
  pub live : is_live m kind ≡ true
  pub its_size : block_size m kind ≡ size

-- the greatest size of a live kind, and at least 4096
pub record IsWindowSize (m : Parameters) (size : ℕ) : Type 0 where
  pub least : 4096 ≤ size
  pub greatest : (kind : ℕ) → is_live m kind ≡ true → block_size m kind ≤ size
  pub some : (size ≡ 4096) ⊎ IsLiveSize m size

-- so many bytes from a start on don't lie across a border
abbrev pub IsUncrossed : ℕ → ℕ → ℕ → Type 0
IsUncrossed border start size = start < border → start + size ≤ border

-- the bytes of a block of a live kind; 0 where the kind isn't live
abbrev pub live_size : Parameters → ℕ → ℕ
live_size m kind = if is_live m kind then block_size m kind else 0
