-- Which SFDP bytes the chip behind a device has to have (this project's; JESD216: an SFDP address has 24 bits).
use Rattle.std.specs.Prelude.{ℕ, min, ◌^◌, List, [], take}
use Rattle.nor_job.specs.Task.{Origin, Sfdp, Uniform, Sheet}
use Rattle.nor_reader.specs.Known.{tables_reach}

-- those that their headers reach; a chip that is known by its size or by a sheet has none
abbrev pub tables_of : Origin → List ℕ
tables_of (Sfdp bytes bits) = take (min (tables_reach bytes) (2 ^ 24)) bytes
tables_of (Uniform size) = []
tables_of (Sheet text) = []
