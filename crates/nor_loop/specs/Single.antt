-- Instructions on one lane, as operations of a device (this project's).
use Rattle.std.specs.Prelude.{◌≡◌, ℕ, Bool, true, false, ◌==◌, ◌&&◌, List, ◌++◌}
use Rattle.std.specs.List.{AllByRecursion, list_all}
use Rattle.nor_base.specs.declared.meaning.Start.{Start}
use Rattle.nor_base.specs.Clocks.{head_bytes, clocks_of}
use Rattle.nor_base.specs.Instructions.{Form, nothing, sends, sends4, samples, samples4, form_of}
use Rattle.nor_base.specs.Parameters.{Parameters}
use Rattle.nor_base.specs.Planned.{planned}
use Rattle.nor_base.specs.Spelling.{Instr, bytes_to_send, count_to_read}
use Rattle.nor_serprog.specs.Carried.{operation_clocks}
use Rattle.nor_base.specs.Chip.{Setting, Chip}
use Rattle.nor_loop.specs.Log.{Operation, Explains}
use Rattle.nor_loop.specs.Loop.{EveryChipEnds, EveryChipHoldsPart, Work}
use Rattle.nor_loop.specs.Reads.{Chunk}

-- data clocks of this form use at most one lane
abbrev pub is_one_lane : Form → Bool
is_one_lane nothing = true
is_one_lane sends = true
is_one_lane sends4 = false
is_one_lane samples = true
is_one_lane samples4 = false

-- an instruction's data clocks are on one lane, and it has no dummy clocks
abbrev pub is_single : Instr → Bool
is_single i = is_one_lane (form_of i.what) && (i.dummies == 0)

-- such an instruction is an operation: opcode, address and data go out, and as many bytes come in as it reads
abbrev pub SingleIsOperation : Type 0
SingleIsOperation = (i : Instr) → is_single i ≡ true
    → clocks_of i ≡ operation_clocks (head_bytes i ++ bytes_to_send (form_of i.what) i.bytes) (count_to_read (form_of i.what) i.bytes)

-- without the quad setting all planned work is so
abbrev pub PlannedIsSingle : Type 0
PlannedIsSingle = (m : Parameters) (start : Start) (verify : Bool) (have want : List ℕ) → start.quad ≡ false
    → list_all is_single (planned m start verify have want) ≡ true

-- the chip with the quad setting, or without it
abbrev pub with_quad : Bool → Setting → Setting
with_quad q s = record s { start = record s.start { quad = q } }

-- a log doesn't show the quad setting, since its operations are on one lane
abbrev pub QuadUnseen : Type 0
QuadUnseen = (s : Setting) (c d : Chip) (q : Bool) (log : List Operation) → Explains s c log d → Explains (with_quad q s) c log d

-- so what is promised for one quad setting is promised for the other
abbrev pub WhateverQuad : Type 0
WhateverQuad = (m : Parameters) (start : Start) (goal : List ℕ → List ℕ) (log : List Operation) (p q : Bool)
    → EveryChipEnds m (record start { quad = p }) goal log → EveryChipEnds m (record start { quad = q }) goal log

-- clocks of operations of a device
abbrev pub AreOperations : List (List ℕ) → Type 0
AreOperations next = AllByRecursion (λ clocks. (sent : List ℕ) × (asked : ℕ) × (clocks ≡ operation_clocks sent asked)) next

-- work on a chip with the quad setting, or without it
abbrev pub with_start : Bool → Work → Work
with_start q w = record w { start = record w.start { quad = q } }

-- so too where work was broken off, and such operations may have come next
abbrev pub WhateverQuadPart : Type 0
WhateverQuadPart = (w : Work) (c : Chunk) (log : List Operation) (next : List (List ℕ)) (p q : Bool)
    → AreOperations next → EveryChipHoldsPart (with_start p w) c log next → EveryChipHoldsPart (with_start q w) c log next
