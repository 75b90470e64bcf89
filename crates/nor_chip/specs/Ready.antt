-- A chip before any transaction, as a device shows it.
use Rattle.std.specs.Prelude.{ℕ, List}
use Rattle.nor_base.specs.Chip.{Setting, ready}
use Rattle.nor_base.specs.Port.{Shown}

-- the same chip with a page of another size
abbrev pub paged : Setting → ℕ → Setting
paged s page = record s { page = page }

-- a ready chip with this content
abbrev pub ready_chip : Setting → List ℕ → Shown
ready_chip s content = record { setting = s; chip = ready s content }
