-- Laws of logs (this project's).
use Rattle.std.specs.Prelude.{◌≡◌, ◌≤◌, ◌<◌, ◌⊎◌, ℕ, ◌+◌, ◌^◌, true, false, List, ◌∷◌, ◌++◌, length, Option, Some}
use Rattle.nor_base.specs.declared.meaning.Start.{Start}
use Rattle.nor_base.specs.declared.step.Step.{Step}
use Rattle.nor_base.specs.Parameters.{Parameters}
use Rattle.nor_base.specs.Chip.{Setting, Chip, IsChipOf, begins4, ready}
use Rattle.nor_base.specs.Instructions.{is_there}
use Rattle.nor_base.specs.Run.{DoesTaskOnEvery}
use Rattle.nor_base.specs.Device.{Ahead, Finite}
use Rattle.nor_base.specs.Wire.{Wire, wire}
use Rattle.nor_serprog.specs.declared.halt.Halt.{Halt}
use Rattle.nor_serprog.specs.declared.limits.Limits.{Limits}
use Rattle.nor_serprog.specs.Done.{HasDoneAll}
use Rattle.nor_serprog.specs.Row.{HasHalted}
use Rattle.nor_loop.specs.Device.{ClosesLoop, BreaksLoop}
use Rattle.nor_loop.specs.Log.{Operation, Explains, HasLogged}
use Rattle.nor_loop.specs.Reads.{Chunk, EntersAndReads, ReadsAll, ReadsPart}
use Rattle.nor_loop.specs.Steps.{AreLogOf, AreBegun, next_clocks}
use Rattle.nor_loop.specs.Loop.{EndsAs, EveryChipEnds, EveryChipHoldsPart, Has, IsContent, IsDoneForAll, MayBe, Work}

-- a chip can be read whole from the mode that it begins in: its addresses fit three bytes, or that mode has four, or it has 13h
abbrev pub IsReadable : Parameters → Start → Type 0
IsReadable m start = (m.size ≤ 2 ^ 24) ⊎ ((begins4 m start ≡ true) ⊎ (m.read4 ≡ true))

-- a log reports a chunk: every chip that explains it held that, and is as it was
abbrev pub Tells : Parameters → Start → Chunk → List Operation → Type 0
Tells m start c log = (s : Setting) (held : List ℕ) (after : Chip) → MayBe m start log s held after → Has c held × (after ≡ ready s held)

-- and each chip that has it explains it
abbrev pub Shows : Parameters → Start → Chunk → List Operation → Type 0
Shows m start c log = (s : Setting) (held : List ℕ) → IsChipOf m start s → IsContent m held → Has c held → Explains s (ready s held) log (ready s held)

-- a log reads a chunk: it reports it, and leaves out no chip that has it
pub record IsReading (m : Parameters) (start : Start) (c : Chunk) (log : List Operation) : Type 0 where
  pub tells : Tells m start c log
  pub shows : Shows m start c log

-- reads of a chunk, or of all of the chip, read it
abbrev pub ReadsRead : Type 0
ReadsRead = (m : Parameters) (start : Start) (c : Chunk) (log : List Operation) → m.size ≤ 2 ^ 32 → IsReadable m start
    → c.at + length c.bytes ≤ m.size → ReadsPart (begins4 m start) c log → IsReading m start c log

-- and so do reads for which four-byte mode is entered, on a chip that begins in the other mode
abbrev pub EnteredReadsRead : Type 0
EnteredReadsRead = (m : Parameters) (start : Start) (c : Chunk) (log : List Operation) → m.size ≤ 2 ^ 32 → is_there m.enter ≡ true
    → is_there m.leave ≡ true → begins4 m start ≡ false → c.at + length c.bytes ≤ m.size → EntersAndReads m c log → IsReading m start c log

-- two logs that report a chunk, and then steps that do the task for each content that has it: every chip that explains them ends with the goal
abbrev pub ToldLoopCloses : Type 0
ToldLoopCloses = (m : Parameters) (start : Start) (c : Chunk) (goal : List ℕ → List ℕ) (steps : List Step) (first again work : List Operation)
    → Tells m start c first → Tells m start c again
    → ((held : List ℕ) → IsContent m held → Has c held → DoesTaskOnEvery m start held (goal held) steps) → AreLogOf steps work
    → EveryChipEnds m start goal (first ++ (again ++ work))

-- the same where the two logs are reads of the whole chip
abbrev pub LoopCloses : Type 0
LoopCloses = (m : Parameters) (start : Start) (content : List ℕ) (goal : List ℕ → List ℕ) (steps : List Step) (first again work : List Operation)
    → m.size ≤ 2 ^ 32 → IsReadable m start → length content ≡ m.size
    → ReadsAll (begins4 m start) content first → ReadsAll (begins4 m start) content again
    → DoesTaskOnEvery m start content (goal content) steps → AreLogOf steps work
    → EveryChipEnds m start goal (first ++ (again ++ work))

-- where the steps are planned work for each content that has the chunk, some chip with a given one of these explains the log
abbrev pub LoopIsExplained : Type 0
LoopIsExplained = (w : Work) (c : Chunk) (content : List ℕ) (first again work : List Operation)
    → IsDoneForAll w c → IsReading w.m w.start c first → IsReading w.m w.start c again → AreLogOf w.steps work
    → IsContent w.m content → Has c content → (s : Setting) × (after : Chip) × MayBe w.m w.start (first ++ (again ++ work)) s content after

-- the same where the goal is that of another content, such as an older dump
abbrev pub LoopResumes : Type 0
LoopResumes = (m : Parameters) (start : Start) (content dump : List ℕ) (goal : List ℕ → List ℕ) (steps : List Step) (first again work : List Operation)
    → m.size ≤ 2 ^ 32 → IsReadable m start → length content ≡ m.size
    → ReadsAll (begins4 m start) content first → ReadsAll (begins4 m start) content again
    → DoesTaskOnEvery m start content (goal dump) steps → AreLogOf steps work
    → EveryChipEnds m start (λ held. goal dump) (first ++ (again ++ work))

-- planned work was broken off: every chip that explains the log held what was read, and at most one unit is in the making
abbrev pub LoopBreaks : Type 0
LoopBreaks = (w : Work) (c : Chunk) (first again work : List Operation) (at : ℕ) (row : List Step) (reads : ℕ)
    → IsDoneForAll w c → IsReading w.m w.start c first → IsReading w.m w.start c again → AreBegun w.steps at row work
    → EveryChipHoldsPart w c (first ++ (again ++ work)) (next_clocks reads row)

-- a log begins with reads of the whole chip. Another log, on the chip with whatever it then held, ends with the goal of what these
-- reads gave. So the chip ends with the goal of what it held before the first log
abbrev pub LoopMends : Type 0
LoopMends = (m : Parameters) (start : Start) (dump : List ℕ) (goal : List ℕ → List ℕ) (first again begun log : List Operation)
    → m.size ≤ 2 ^ 32 → IsReadable m start → length dump ≡ m.size
    → ReadsAll (begins4 m start) dump first → EveryChipEnds m start (λ held. goal dump) log
    → (s t : Setting) (held between : List ℕ) (broken after : Chip) → MayBe m start (first ++ (again ++ begun)) s held broken
    → MayBe m start log t between after → EndsAs goal t held after

-- where writer and reader tell their bytes, they have one log
abbrev pub OneLog : Type 0
OneLog = (held_before held_after ahead_before ahead_after : List ℕ) (xs ys : List Operation)
    → HasLogged (wire (Some held_before) (Finite ahead_before)) (wire (Some held_after) (Finite ahead_after)) xs
    → HasLogged (wire (Some held_before) (Finite ahead_before)) (wire (Some held_after) (Finite ahead_after)) ys → xs ≡ ys

-- logs of two stretches, one after the other, are one log
abbrev pub LogsJoin : Type 0
LogsJoin = (held_before held held_after : Option (List ℕ)) (ahead_before ahead ahead_after : Ahead) (xs ys : List Operation)
    → HasLogged (wire held_before ahead_before) (wire held ahead) xs → HasLogged (wire held ahead) (wire held_after ahead_after) ys
    → HasLogged (wire held_before ahead_before) (wire held_after ahead_after) (xs ++ ys)

-- what a device did for steps is a log of them, over its wire
abbrev pub DoneIsLogged : Type 0
DoneIsLogged = (held_before held_after : Option (List ℕ)) (ahead_before ahead_after : Ahead) (limits : Limits) (turns : ℕ) (steps : List Step)
    → HasDoneAll (wire held_before ahead_before) (wire held_after ahead_after) limits turns steps
    → (log : List Operation) × HasLogged (wire held_before ahead_before) (wire held_after ahead_after) log × AreLogOf steps log

-- where it halted, a log of the steps before, and of the reads of a poll that were answered; what went out beyond is no part of it
abbrev pub HaltIsLogged : Type 0
HaltIsLogged = (held_before held_after : Option (List ℕ)) (ahead_before ahead_after : Ahead) (limits : Limits) (turns : ℕ) (steps : List Step)
    (halt : Halt) → (halted : HasHalted (wire held_before ahead_before) (wire held_after ahead_after) limits turns steps halt)
    → (held : Option (List ℕ)) × (ahead : Ahead) × (log : List Operation) × HasLogged (wire held_before ahead_before) (wire held ahead) log
    × AreBegun steps halt.step (halted.at ∷ halted.beyond) log

-- a device read a chunk twice
pub record ReadTwice (before after : Wire) (m : Parameters) (start : Start) (c : Chunk) : Type 0 where
  pub first : List Operation
  pub again : List Operation
  pub reads : IsReading m start c first
  pub rereads : IsReading m start c again
  pub wire : HasLogged before after (first ++ again)

-- a device read a chunk twice, and then did work that is planned for each content that has it: the loop is closed
abbrev pub DeviceCloses : Type 0
DeviceCloses = (held_before held held_after : Option (List ℕ)) (ahead_before ahead ahead_after : Ahead) (limits : Limits) (turns : ℕ)
    (w : Work) (c : Chunk) (content : List ℕ) → IsDoneForAll w c → IsContent w.m content → Has c content
    → ReadTwice (wire held_before ahead_before) (wire held ahead) w.m w.start c
    → HasDoneAll (wire held ahead) (wire held_after ahead_after) limits turns w.steps
    → ClosesLoop (wire held_before ahead_before) (wire held_after ahead_after) w.m w.start w.goal

-- or it halted in that work: the loop is broken off
abbrev pub DeviceBreaks : Type 0
DeviceBreaks = (held_before held held_after : Option (List ℕ)) (ahead_before ahead ahead_after : Ahead) (limits : Limits) (turns : ℕ)
    (w : Work) (c : Chunk) (halt : Halt) → IsDoneForAll w c
    → ReadTwice (wire held_before ahead_before) (wire held ahead) w.m w.start c
    → (halted : HasHalted (wire held ahead) (wire held_after ahead_after) limits turns w.steps halt)
    → BreaksLoop (wire held_before ahead_before) w c (halted.at ∷ halted.beyond)
