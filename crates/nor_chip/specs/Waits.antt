-- Status reads that all say busy (this project's).
use Rattle.std.specs.Prelude.{◌≡◌, ℕ, ◌-◌, ◌≤◌}
use Rattle.nor_base.specs.Port.{Shown}

-- of at most so many status reads this many were done, each of a busy chip: it has as many fewer left
pub record WaitsBusy (before after : Shown) (most done : ℕ) : Type 0 where
  pub few : done ≤ most
  pub busy : done ≤ before.chip.left
  pub setting : after.setting ≡ before.setting
  pub chip : after.chip ≡ record before.chip { left = before.chip.left - done }
