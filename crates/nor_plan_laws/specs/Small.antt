-- An instance with something to erase, of 8 KiB in sectors of 4 KiB.
use Rattle.std.specs.Prelude.{◌≡◌, ℕ, Bool, false, nat_lt, List, ◌∷◌, replicate}
use Rattle.nor_base.specs.declared.meaning.Start.{Start}
use Rattle.nor_base.specs.declared.step.Step.{Step}
use Rattle.nor_base.specs.Parameters.{Parameters}
use Rattle.nor_base.specs.Chip.{Setting, IsChipOf, ready}
use Rattle.nor_base.specs.Run.{DoesTask}
use Rattle.nor_base.specs.Planned.{ArePlanned, IsWorkable}
use Rattle.nor_base.specs.Events.{events, is_erased_by}
use Rattle.nor_base.specs.Uniform.{uniform_of}

abbrev pub small_chip : Parameters
small_chip = uniform_of 8192

abbrev pub small_start : Start
small_start = record { mode4 = false; quad = false }

-- 00h at 0, which must become 01h; 12h beside it, which stays; and FFh
unfoldable pub small_have : List ℕ
small_have = 0 ∷ 0x12 ∷ replicate 8190 255

unfoldable pub small_want : List ℕ
small_want = 1 ∷ 0x12 ∷ replicate 8190 255

abbrev pub SmallIsWorkable : Type 0
SmallIsWorkable = IsWorkable small_chip small_start small_have small_want

-- on every chip these steps do the task, and erase the first sector and no more
abbrev pub EraseFirstSector : List Step → Type 0
EraseFirstSector steps = (s : Setting) → IsChipOf small_chip small_start s
    → DoesTask s small_have small_want steps × ((a : ℕ) → is_erased_by s (events s (ready s small_have) steps) a ≡ nat_lt a 4096)

-- there is planned work, verified or not, and it does so
abbrev pub SmallWorkErases : Type 0
SmallWorkErases = (verify : Bool)
    → (steps : List Step) × ArePlanned small_chip small_start verify small_have small_want steps × EraseFirstSector steps
