-- Steps in few bytes (this project's).
use Rattle.std.specs.Prelude.{◌≡◌, ℕ, Bool, true, false, ◌+◌, ◌/◌, if◌then◌else◌, List, [], ◌∷◌, ◌++◌, length, take, drop, sum_by}
use Rattle.nor_base.specs.declared.step.Step.{Step}
use Rattle.nor_base.specs.declared.step.Step.TheVariants as step
use Rattle.nor_serprog.specs.Carried.{operation_clocks}
use Rattle.nor_flasher.specs.declared.kept.Kind.{Kind}
use Rattle.nor_flasher.specs.declared.kept.Kind.TheVariants.{Send, Poll, Verify}
use Rattle.nor_flasher.specs.declared.kept.Mark.{Mark}

-- a step of a kind, with these clocks, and of a Verify these bytes
abbrev pub step_with : Kind → List ℕ → List ℕ → Step
step_with Send clocks expect = step.Send clocks
step_with Poll clocks expect = step.Poll clocks
step_with Verify clocks expect = step.Verify clocks expect

-- whether a step of a kind expects bytes
abbrev pub expects : Kind → Bool
expects Send = false
expects Poll = false
expects Verify = true

-- how many bytes are kept of a step
abbrev pub kept_count : Mark → ℕ
kept_count mark = mark.clocks + (if expects mark.kind then mark.asked else 0)

-- the clocks of which these bytes are kept: if packed those of the operation that sends them, else they are its symbols
abbrev pub clocks_by : Mark → List ℕ → List ℕ
clocks_by mark kept = if mark.packed then operation_clocks kept mark.asked else kept

-- the step of which these bytes are kept: first those of its clocks, and then those that it expects
abbrev pub step_by : Mark → List ℕ → Step
step_by mark kept = step_with mark.kind (clocks_by mark (take mark.clocks kept)) (drop mark.clocks kept)

-- the steps of which these bytes are kept, one after the other
abbrev pub unpacked : List Mark → List ℕ → List Step
unpacked [] bytes = []
unpacked (mark ∷ marks) bytes = step_by mark (take (kept_count mark) bytes) ∷ unpacked marks (drop (kept_count mark) bytes)

-- there are just as many bytes as are kept of all
abbrev pub AreKept : List Mark → List ℕ → Type 0
AreKept marks bytes = length bytes ≡ sum_by kept_count marks

-- how many bytes of a step go over the bus
abbrev pub mark_bytes : Mark → ℕ
mark_bytes mark = if mark.packed then mark.clocks + mark.asked else mark.clocks / 8

-- the mark of an operation that sends these bytes, and of clocks of which the symbols are kept
abbrev pub packed_mark : Kind → List ℕ → ℕ → Mark
packed_mark kind sent asked = record { kind = kind; packed = true; clocks = length sent; asked = asked }

abbrev pub symbols_mark : Kind → List ℕ → ℕ → Mark
symbols_mark kind symbols asked = record { kind = kind; packed = false; clocks = length symbols; asked = asked }

-- these bytes are kept of a step
pub record Keeps (mark : Mark) (kept : List ℕ) (step : Step) : Type 0 where
  pub long : length kept ≡ kept_count mark
  pub is : step_by mark kept ≡ step

-- marks and bytes keep one step more
pub record KeepsMore (old new : List ℕ) (marks more : List Mark) (step : Step) : Type 0 where
  pub mark : Mark
  pub kept : List ℕ
  pub bytes : new ≡ old ++ kept
  pub marked : more ≡ marks ++ mark ∷ []
  pub keeps : Keeps mark kept step
