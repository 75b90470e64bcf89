-- The task of a request, part by part.
use Rattle.std.proofs.Common.{◌≡◌, ℕ, List, Option, refl}
use Rattle.nor_hex.specs.Image.{Pairs}
use Rattle.nor_job.specs.Task.{Task}
use Rattle.nor_job.specs.Task as job
use Rattle.norprog_common.specs.Chip.{origin_of, task_chip}
use Rattle.norprog_common.specs.Held.{task_by, Held}
use Rattle.norprog_common.specs.declared.request.Request.{Request}

-- a task with these values of the request is the request's
pub rebuilt_exactly : (request : Request) (held : Held) (hex : List ℕ) (image : Option Pairs) (layout : Option (List ℕ)) (regions : List (List ℕ)) (chip : job.Origin)
    → hex ≡ held.hex → image ≡ held.image → layout ≡ held.layout → regions ≡ request.regions.items → chip ≡ task_chip (origin_of request.chip) held.sfdp
    → Path Task (record {
      hex = hex;
      image = image;
      layout = layout;
      regions = regions;
      chip = chip;
      part = request.part;
      status = request.status;
      mode4 = request.mode4;
      quad = request.quad;
      base = request.base;
      verify = request.verify;
      erased_only = request.erased_only;
      page = request.page;
    }) (task_by request held)
rebuilt_exactly request held hex image layout regions chip h i l r is = rw (h, i, l, r, is) refl
