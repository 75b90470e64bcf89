-- The operations that steps are on a device (this project's).
use Rattle.std.specs.Prelude.{◌≡◌, ◌<◌, ℕ, true, List, [], ◌∷◌, ◌++◌, length, map, replicate}
use Rattle.nor_base.specs.declared.step.Step.{Step}
use Rattle.nor_base.specs.declared.step.Step.TheVariants.{Send, Poll, Verify}
use Rattle.nor_base.specs.Run.{poll_clocks}
use Rattle.nor_serprog.specs.Follow.{are_busy, are_idle}
use Rattle.nor_serprog.specs.Row.{IsForm}
use Rattle.nor_loop.specs.Log.{Operation, clocks}

-- a status read that gave this
abbrev pub status_read : ℕ → Operation
status_read status = record { sent = 0x05 ∷ []; got = status ∷ [] }

-- one operation of these clocks
abbrev pub IsOne : List ℕ → (Operation → Type 0) → List Operation → Type 0
IsOne symbols Holds log = (o : Operation) × (clocks o ≡ symbols) × Holds o × (log ≡ o ∷ [])

-- a status was read until it said idle, and later reads, if any, said so too
pub record HasWaited (log : List Operation) : Type 0 where
  pub busy : List ℕ
  pub idle : List ℕ
  pub some : 0 < length idle
  pub each : are_busy busy ≡ true
  pub last : are_idle idle ≡ true
  pub those : log ≡ map status_read (busy ++ idle)

-- or some reads said busy and then perhaps idle
pub record IsWaiting (log : List Operation) : Type 0 where
  pub busy : List ℕ
  pub idle : List ℕ
  pub each : are_busy busy ≡ true
  pub then_idle : are_idle idle ≡ true
  pub those : log ≡ map status_read (busy ++ idle)

-- the operations of a step that was done: what it sends, once, and nothing came back; a wait; what it reads, once, with just the bytes
-- expected
abbrev pub IsLogOf : Step → List Operation → Type 0
IsLogOf (Send symbols) log = IsOne symbols (λ o. o.got ≡ []) log
IsLogOf (Poll symbols) log = (symbols ≡ poll_clocks) × HasWaited log
IsLogOf (Verify symbols expect) log = IsOne symbols (λ o. o.got ≡ expect) log

-- of steps, one after the other
abbrev pub AreLogOf : List Step → List Operation → Type 0
AreLogOf [] log = log ≡ []
AreLogOf (x ∷ xs) log = (first : List Operation) × (rest : List Operation) × (log ≡ first ++ rest) × IsLogOf x first × AreLogOf xs rest

-- a step was begun: of a poll some reads were done; of every other step nothing was done yet
abbrev pub IsBegun : Step → List Operation → Type 0
IsBegun (Send symbols) log = log ≡ []
IsBegun (Poll symbols) log = (symbols ≡ poll_clocks) × IsWaiting log
IsBegun (Verify symbols expect) log = log ≡ []

-- the clocks of steps, of a poll so many times
abbrev pub next_clocks : ℕ → List Step → List (List ℕ)
next_clocks reads [] = []
next_clocks reads (Send symbols ∷ xs) = symbols ∷ next_clocks reads xs
next_clocks reads (Poll symbols ∷ xs) = replicate reads symbols ++ next_clocks reads xs
next_clocks reads (Verify symbols expect ∷ xs) = symbols ∷ next_clocks reads xs

-- the first step of a row was begun
abbrev pub IsFirstBegun : List Step → List Operation → Type 0
IsFirstBegun [] log = ⊥
IsFirstBegun (x ∷ xs) log = IsBegun x log

-- a log of the steps before this one, which begins this row of steps, and of the reads of this one where it is a poll
pub record AreBegun (steps : List Step) (at : ℕ) (row : List Step) (log : List Operation) : Type 0 where
  pub front : List Step
  pub rest : List Step
  pub those : steps ≡ front ++ (row ++ rest)
  pub number : at ≡ length front
  pub form : IsForm row
  pub done : List Operation
  pub begun : List Operation
  pub joined : log ≡ done ++ begun
  pub logged : AreLogOf front done
  pub last : IsFirstBegun row begun
