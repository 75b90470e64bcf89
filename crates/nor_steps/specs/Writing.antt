-- How the steps of operations are written (this project's).
use Rattle.std.specs.Prelude.{◌≡◌, ℕ, Bool, false, List, ◌++◌, Option, Result, Ok, Err}
use Rattle.std.specs.Io.KnownBytes.{Appends}
use Rattle.nor_base.specs.declared.meaning.Start.{Start}
use Rattle.nor_base.specs.declared.meaning.Strategy.{Strategy}
use Rattle.nor_base.specs.Parameters.{Parameters}
use Rattle.nor_base.specs.Script.{step_lines}
use Rattle.nor_base.specs.Spelling.{Instr}
use Rattle.nor_base.specs.Operations.{Op}
use Rattle.nor_select.specs.Streamed.{Streaming, next, onward}
use Rattle.nor_steps.specs.Lines.{steps_of}

-- some of a text was written, from its beginning on
pub record Begins (before after : Option (List ℕ)) (text : List ℕ) : Type 0 where
  pub front : List ℕ
  pub rest : List ℕ
  pub whole : text ≡ front ++ rest
  pub put : Appends before after front

-- a text was written, or, at a fault, some of it from its beginning on
abbrev pub Adds : {T F : Type 0} → Option (List ℕ) → Option (List ℕ) → Result T F → List ℕ → Type 0
Adds before after (Ok x) text = Appends before after text
Adds before after (Err why) text = Begins before after text

pub record Writing : Type 0 where
  -- how the chip is driven, and whether there was an operation
  pub streaming : Streaming
  -- what was written is read
  pub verify : Bool

-- the output of work: how far the work is, and what its writer holds
pub record Output : Type 0 where
  pub work : Writing
  pub held : Option (List ℕ)

abbrev pub output : Writing → Option (List ℕ) → Output
output work held = record { work = work; held = held }

-- the lines of the steps of instructions
abbrev pub lines_of : List Instr → List ℕ
lines_of these = step_lines (steps_of these)

-- the lines of the next operations
abbrev pub next_lines : Writing → List Op → List ℕ
next_lines w ops = lines_of (next w.streaming ops)

-- after some operations
abbrev pub written_on : Writing → List Op → Writing
written_on w ops = record w { streaming = onward w.streaming ops }

-- before the first operation
abbrev pub fresh : Parameters → Start → Strategy → Bool → Writing
fresh m start by verify = record { streaming = record { meaning = m; start = start; by = by; started = false }; verify = verify }
