-- Operations that come in parts (this project's).
use Rattle.std.specs.Prelude.{◌≡◌, Bool, true, false, ◌||◌, if◌then◌else◌, List, [], ◌∷◌, ◌++◌, flat_map}
use Rattle.nor_base.specs.declared.meaning.Start.{Start}
use Rattle.nor_base.specs.declared.meaning.Strategy.{Strategy}
use Rattle.nor_base.specs.Parameters.{Parameters}
use Rattle.nor_base.specs.Spelling.{Instr}
use Rattle.nor_base.specs.Operations.{Op, instructions, entering, leaving, lowered}

-- how operations are done, and whether there was one
pub record Streaming : Type 0 where
  pub meaning : Parameters
  pub start : Start
  pub by : Strategy
  pub started : Bool

abbrev pub has_some : List Op → Bool
has_some [] = false
has_some (op ∷ ops) = true

-- what is entered before operations: nothing where there is none, or where there was one
abbrev pub entered : Streaming → List Op → List Instr
entered s [] = []
entered s (op ∷ ops) = if s.started then [] else entering s.meaning s.by

-- the instructions of the next operations
abbrev pub next : Streaming → List Op → List Instr
next s ops = entered s ops ++ flat_map (instructions s.meaning s.start s.by) ops

-- what follows the last of them
abbrev pub last : Streaming → List Instr
last s = if s.started then leaving s.meaning s.by else []

-- after some operations
abbrev pub onward : Streaming → List Op → Streaming
onward s ops = record s { started = s.started || has_some ops }

-- the instructions of operations that come in parts
abbrev pub streamed : Streaming → List (List Op) → List Instr
streamed s [] = last s
streamed s (ops ∷ more) = next s ops ++ streamed (onward s ops) more

-- they are those of all the operations at once
abbrev pub PartsJoin : Type 0
PartsJoin = (m : Parameters) (start : Start) (by : Strategy) (parts : List (List Op))
    → streamed (record { meaning = m; start = start; by = by; started = false }) parts ≡ lowered m start by (flat_map (λ part. part) parts)
