-- A chip's identification (JEDEC: Read Identification 9Fh, the manufacturer's byte and two of the device).
use Rattle.std.specs.Prelude.{◌≡◌, ℕ, List, [], ◌∷◌, length, Result, Ok, Err}
use Rattle.nor_base.specs.Wire.{Wire}
use Rattle.nor_serprog.specs.declared.fault.Fault.{Fault}
use Rattle.nor_serprog.specs.Exchange.{Answers, Asks}
use Rattle.nor_serprog.specs.Protocol.{request}
use Rattle.nor_loop.specs.Log.{HasLogged}

-- 9Fh went out, and three bytes came; or its exchange ended so
abbrev pub Identifies : Wire → Wire → Result (List ℕ) Fault → Type 0
Identifies before after (Ok id) =
    HasLogged before after (record { sent = 0x9F ∷ []; got = id } ∷ [])
Identifies before after (Err why) =
    (got : List ℕ) × (length got ≡ 3)
    × Asks before after (Err why) (request (0x9F ∷ []) 3) (Answers before.ahead after.ahead (Err why) got)
