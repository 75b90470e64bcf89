-- What a job wants of a chip, and how much it reads (this project's).
use Rattle.std.specs.Prelude.{ℕ, ◌≤◌, List, length}
use Rattle.nor_base.specs.Device.{Ahead, Gives}
use Rattle.nor_base.specs.Target.{target}
use Rattle.nor_hex.specs.Image.{Pairs, byte_at}
use Rattle.nor_layout.specs.Region.{Region}
use Rattle.nor_layout.specs.Chosen.{is_chosen}
use Rattle.nor_job.specs.Task.{Task}

-- what the chip must hold in the end
abbrev pub wanted : Task → Pairs → List Region → List ℕ → List ℕ
wanted t image regions content = target (byte_at image) t.base (is_chosen regions t.regions) content

-- no more than so many bytes were read
pub record ReadsWithin (len : ℕ) (before after : Ahead) : Type 0 where
  pub bytes : List ℕ
  pub few : length bytes ≤ len
  pub given : Gives before bytes after
