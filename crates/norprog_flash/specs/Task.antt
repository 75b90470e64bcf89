-- The task of a command that reads a chip itself (this project's).
use Rattle.std.specs.Prelude.{Bool, true, false, List, ℕ, length, replicate, Some, None, Option, option_map}
use Rattle.std.specs.List.{enumerate_from}
use Rattle.nor_hex.specs.Image.{Pairs}
use Rattle.nor_job.specs.Task.{Task}
use Rattle.nor_job.specs.Wanted.{wanted}
use Rattle.nor_layout.specs.Region.{Region}
use Rattle.norprog_common.specs.declared.given.Aim.{Aim}
use Rattle.norprog_common.specs.declared.given.Aim.TheVariants.{Work, Plan, Compare}
use Rattle.norprog_flash.specs.declared.dump.Dump.{Dump}
use Rattle.norprog_flash.specs.declared.job.Job.{Job}
use Rattle.norprog_flash.specs.Dump.{older}
use Rattle.norprog_read.specs.declared.asked.Reading.{Reading}
use Rattle.norprog_read.specs.Chip.{task_chip}

-- the image of a job that erases, on a chip of so many bytes: each is FFh
abbrev pub blank_image : Bool → ℕ → Option Pairs
blank_image true size = Some (enumerate_from 0 (replicate size 0xFF))
blank_image false size = None

-- the first image that there is
abbrev pub first_image : Option Pairs → Option Pairs → Option Pairs
first_image (Some image) other = Some image
first_image None other = other

-- the task of a job, with this image in place of its own, if there is one, on a chip that gave these tables
abbrev pub imaged_task : Job → List ℕ → Option Pairs → Task
imaged_task job tables image = record {
  hex = job.hex.now;
  image = first_image image (option_map (λ own. own.now) job.image);
  layout = option_map (λ text. text.now) job.layout;
  regions = job.regions.now;
  chip = task_chip job.ask.known job.ask.bits.now tables;
  part = job.ask.part;
  status = None;
  mode4 = job.ask.mode4;
  quad = false;
  base = job.base;
  verify = true;
  erased_only = job.ask.erased_only;
  page = job.ask.page;
}

-- its task, on a chip of so many bytes
abbrev pub flash_task : Job → List ℕ → ℕ → Task
flash_task job tables size = imaged_task job tables (blank_image job.blank size)

-- on a chip that gave this
abbrev pub task_on : Job → Reading → Task
task_on job r = flash_task job r.tables.items (length r.content.items)

-- the work is to be done
abbrev pub works : Aim → Bool
works Work = true
works Plan = false
works Compare = false

-- the older dump, where work is resumed
abbrev pub dump_of : Job → Option Dump
dump_of job = option_map (λ dump. dump.now) job.old

-- what the chip of a job held before work on it was begun, of what it gave
abbrev pub first_held : Job → Reading → List ℕ
first_held job r = older (dump_of job) r.content.items

-- the target of what a chip held before work on it was begun
abbrev pub goal_of : Task → Pairs → List Region → Option Dump → List ℕ → List ℕ
goal_of t image regions dump content = wanted t image regions (older dump content)
