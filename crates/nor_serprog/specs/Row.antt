-- Steps whose requests go out in one write, before any of their answers is taken (this project's).
use Rattle.std.specs.Prelude.{◌≡◌, ◌≤◌, ◌<◌, ◌⊎◌, ℕ, ◌+◌, true, List, [], ◌∷◌, ◌++◌, length, codes, Option, Result, Ok, Err}
use Rattle.std.specs.List.{list_all}
use Rattle.std.specs.Io.KnownBytes.{Appends}
use Rattle.nor_base.specs.declared.step.Step.{Step}
use Rattle.nor_base.specs.declared.step.Step.TheVariants.{Send, Poll, Verify}
use Rattle.nor_base.specs.Device.{Ahead, Gives, Cuts}
use Rattle.nor_base.specs.Run.{poll_clocks}
use Rattle.nor_base.specs.Step.{expected, verifies}
use Rattle.nor_base.specs.Wire.{Wire, wire}
use Rattle.nor_serprog.specs.declared.fault.Fault.{Fault}
use Rattle.nor_serprog.specs.declared.fault.Fault.TheVariants as fault
use Rattle.nor_serprog.specs.declared.fault.Reason.{Reason}
use Rattle.nor_serprog.specs.declared.fault.Reason.TheVariants as reason
use Rattle.nor_serprog.specs.declared.halt.Halt.{Halt}
use Rattle.nor_serprog.specs.declared.limits.Limits.{Limits}
use Rattle.nor_serprog.specs.Carried.{IsOperation}
use Rattle.nor_serprog.specs.Done.{HasStopped, HasDoneAll}
use Rattle.nor_serprog.specs.Exchange.{AnswersKnown}
use Rattle.nor_serprog.specs.Follow.{status_requests, most_ahead, most_reads, CountsReason}
use Rattle.nor_serprog.specs.Protocol.{request, answer}

-- what goes out for a step that isn't a poll: the request of its operation
abbrev pub IsSent : Limits → Step → List ℕ → Type 0
IsSent limits (Send symbols) put = (sent : List ℕ) × IsOperation limits symbols sent 0 × (put ≡ request sent 0)
IsSent limits (Poll symbols) put = ⊥
IsSent limits (Verify symbols expect) put =
    (sent : List ℕ) × IsOperation limits symbols sent (length expect) × (put ≡ request sent (length expect))

-- and of a poll so many status reads
abbrev pub IsAsked : Limits → ℕ → Step → List ℕ → Type 0
IsAsked limits reads (Send symbols) put = IsSent limits (Send symbols) put
IsAsked limits reads (Poll symbols) put = (symbols ≡ poll_clocks) × (put ≡ status_requests reads)
IsAsked limits reads (Verify symbols expect) put = IsSent limits (Verify symbols expect) put

-- for steps, one after the other
abbrev pub AreAsked : Limits → ℕ → List Step → List ℕ → Type 0
AreAsked limits reads [] put = put ≡ []
AreAsked limits reads (x ∷ xs) put =
    (first : List ℕ) × (rest : List ℕ) × (put ≡ first ++ rest) × IsAsked limits reads x first × AreAsked limits reads xs rest

-- 06h alone
abbrev pub enable_clocks : List ℕ
enable_clocks = codes "00000110"

-- one step; a change and its poll; these after a write enable; or verifying reads
abbrev pub IsForm : List Step → Type 0
IsForm steps =
    ((x : Step) × (steps ≡ x ∷ []))
    ⊎ (((change : List ℕ) × (wait : List ℕ) × (steps ≡ Send change ∷ Poll wait ∷ []))
    ⊎ (((change : List ℕ) × (wait : List ℕ) × (steps ≡ Send enable_clocks ∷ Send change ∷ Poll wait ∷ []))
    ⊎ (list_all verifies steps ≡ true)))

-- the requests of steps, one status read for a poll, fit what may go out before an answer is taken
pub record FitAhead (limits : Limits) (steps : List Step) : Type 0 where
  pub put : List ℕ
  pub asked : AreAsked limits 1 steps put
  pub fits : length put ≤ most_ahead limits

-- some steps make a row: they are of one of the forms, and where they are more than one their requests fit
pub record IsRow (limits : Limits) (steps : List Step) : Type 0 where
  pub some : 0 < length steps
  pub form : IsForm steps
  pub fit : (length steps ≡ 1) ⊎ FitAhead limits steps

-- these bytes are the requests of steps, no more than may go out before an answer is taken; of a poll at most four status reads
pub record AreAhead (limits : Limits) (turns : ℕ) (steps : List Step) (put : List ℕ) : Type 0 where
  pub reads : ℕ
  pub few : reads ≤ most_reads
  pub within : reads ≤ turns
  pub asked : AreAsked limits reads steps put
  pub fits : length put ≤ most_ahead limits

-- a step stopped for this reason, and then just the requests of those after it went out
pub record StopsWithin (old new : Wire) (limits : Limits) (turns : ℕ) (why : Reason) (at : Step) (beyond : List Step) : Type 0 where
  pub held : Option (List ℕ)
  pub stopped : HasStopped old (wire held new.ahead) limits turns why at
  pub put : List ℕ
  pub ahead : AreAhead limits turns beyond put
  pub out : Appends held new.held put
  -- where the writer failed nothing goes out after it
  pub last : why ≡ reason.Exchange fault.Write → beyond ≡ []

-- or the writer failed in the requests of the step and of those after it, and no answer was taken
pub record CutsRow (before after : Wire) (limits : Limits) (turns : ℕ) (why : Reason) (row : List Step) : Type 0 where
  pub writer : why ≡ reason.Exchange fault.Write
  pub put : List ℕ
  pub ahead : AreAhead limits turns row put
  pub cut : Cuts before.held after.held put
  pub untaken : after.ahead ≡ before.ahead

-- of the steps a device did those before one, and stopped at that one for this reason; of what comes after it, nothing went out except
-- requests of its row
pub record HasHalted (old new : Wire) (limits : Limits) (turns : ℕ) (steps : List Step) (halt : Halt) : Type 0 where
  pub done : List Step
  pub at : Step
  pub beyond : List Step
  pub rest : List Step
  pub those : steps ≡ done ++ (at ∷ (beyond ++ rest))
  pub number : halt.step ≡ length done
  pub row : IsRow limits (at ∷ beyond)
  pub held : Option (List ℕ)
  pub ahead : Ahead
  pub before : HasDoneAll old (wire held ahead) limits turns done
  pub stopped : StopsWithin (wire held ahead) new limits turns halt.why at beyond
      ⊎ CutsRow (wire held ahead) new limits turns halt.why (at ∷ beyond)

-- a count of failures rises by one exactly where the device stopped by this fault
abbrev pub CountsHalt : Fault → ℕ → ℕ → Result (Unit {0}) Halt → Type 0
CountsHalt device before after (Ok u) = after ≡ before
CountsHalt device before after (Err halt) = CountsReason {T = Unit {0}} device before after (Err halt.why)

-- what a device did in two parts it did as a whole
abbrev pub DoneInParts : Type 0
DoneInParts = (h i j : Option (List ℕ)) (a b c : Ahead) (limits : Limits) (turns : ℕ) (xs ys : List Step)
    → HasDoneAll (wire h a) (wire i b) limits turns xs → HasDoneAll (wire i b) (wire j c) limits turns ys → HasDoneAll (wire h a) (wire j c) limits turns (xs ++ ys)

-- a row of steps that halted is a halt of all steps, where those before it were done
abbrev pub HaltInSteps : Type 0
HaltInSteps = (h i j : Option (List ℕ)) (a b c : Ahead) (limits : Limits) (turns : ℕ) (front row rest : List Step) (inner outer : Halt)
    → HasDoneAll (wire h a) (wire i b) limits turns front → HasHalted (wire i b) (wire j c) limits turns row inner → outer.step ≡ length front + inner.step
    → outer.why ≡ inner.why → HasHalted (wire h a) (wire j c) limits turns (front ++ (row ++ rest)) outer

-- the requests of steps that aren't polls, one after the other
abbrev pub AreSent : Limits → List Step → List ℕ → Type 0
AreSent limits [] put = put ≡ []
AreSent limits (x ∷ xs) put =
    (first : List ℕ) × (rest : List ℕ) × (put ≡ first ++ rest) × IsSent limits x first × AreSent limits xs rest

-- the steps of a row except for a poll that is the last, and their requests, no more than may go out before an answer is taken
pub record AreFront (limits : Limits) (row front : List Step) (put : List ℕ) : Type 0 where
  pub parts : (row ≡ front) ⊎ ((wait : List ℕ) × (row ≡ front ++ Poll wait ∷ []))
  pub sent : AreSent limits front put
  pub fits : length put ≤ most_ahead limits

-- the answers of steps that aren't polls were taken
abbrev pub TakesAnswers : Ahead → Ahead → List Step → Type 0
TakesAnswers before after [] = after ≡ before
TakesAnswers before after (x ∷ xs) = (between : Ahead) × Gives before (answer (expected x)) between × TakesAnswers between after xs

-- or those of the steps before one, and what came for that one stopped it
pub record StopsAnswers (before after : Ahead) (steps : List Step) (halt : Halt) : Type 0 where
  pub done : List Step
  pub at : Step
  pub rest : List Step
  pub those : steps ≡ done ++ (at ∷ rest)
  pub number : halt.step ≡ length done
  pub between : Ahead
  pub taken : TakesAnswers before between done
  pub stop : AnswersKnown between after (Err halt.why) (expected at)
