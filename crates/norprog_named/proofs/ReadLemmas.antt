-- A chip that was read, or wasn't.
use Rattle.std.proofs.Common.{ℕ, List, [], ◌∷◌, Result, Ok, Err, IfOk, IfErr}
use Rattle.nor_base.specs.Wire.{Wire}
use Rattle.norprog_files.specs.Files.{Unwired, Wired}
use Rattle.norprog_read.specs.Opened.{HasReadOpened, StopsOpened}
use Rattle.norprog_read.specs.declared.asked.Ask.{Ask}
use Rattle.norprog_read.specs.declared.asked.Reading.{Reading}
use Rattle.norprog_read.specs.declared.fault.Unread.{Unread}
use Rattle.norprog_named.specs.Read.{EndsReading, Read, Stopped}

pub ends_reading : (device : List ℕ) (ask : Ask) (first last : Wire) (result : Result Reading Unread)
    → IfOk result (λ reading. HasReadOpened first last ask reading)
    → IfErr result (StopsOpened first last ask)
    → EndsReading device ask (Wired device first ∷ Unwired device last ∷ []) result
ends_reading device ask first last (Ok reading) read stops = Read first last reading read
ends_reading device ask first last (Err why) read stops = Stopped first last why stops
