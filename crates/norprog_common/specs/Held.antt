-- The task of a job, by what its files hold (this project's).
use Rattle.std.specs.Prelude.{ℕ, List, Option, option_map}
use Rattle.nor_hex.specs.Image.{Pairs}
use Rattle.nor_job.specs.Task.{Task}
use Rattle.norprog_common.specs.Chip.{origin_of, task_chip}
use Rattle.norprog_common.specs.declared.inputs.Texts.{Texts}
use Rattle.norprog_common.specs.declared.request.Request.{Request}

-- what the files of a job hold, the content aside: the text of the image's one file of Intel HEX, or in place of that the image of a raw file or of several files; the tables are those of SFDP bytes, or the sheet, and have no part in a chip of a size
pub record Held : Type 0 where
  pub hex : List ℕ
  pub image : Option Pairs
  pub layout : Option (List ℕ)
  pub sfdp : List ℕ

abbrev pub held_in : Texts → Held
held_in texts = record {
  hex = texts.hex.items;
  image = texts.image;
  layout = option_map (λ held. held.items) texts.layout;
  sfdp = texts.sfdp.items;
}

-- the task of a request whose files hold that
abbrev pub task_by : Request → Held → Task
task_by request held = record {
  hex = held.hex;
  image = held.image;
  layout = held.layout;
  regions = request.regions.items;
  chip = task_chip (origin_of request.chip) held.sfdp;
  part = request.part;
  status = request.status;
  mode4 = request.mode4;
  quad = request.quad;
  base = request.base;
  verify = request.verify;
  erased_only = request.erased_only;
  page = request.page;
}
