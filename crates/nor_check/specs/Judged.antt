-- The steps of a script, judged for all chips of one kind together and then for each kind (this project's).
use Rattle.std.specs.Prelude.{◌≡◌, ℕ, Bool, true, false, ◌+◌, ◌==◌, not, ◌&&◌, if◌then◌else◌, List, [], ◌∷◌, Option, Some, None, Result, Ok, Err}
use Rattle.std.specs.Str.{bytes_eq}
use Rattle.nor_base.specs.declared.instruction.What.{What}
use Rattle.nor_base.specs.declared.step.Step.{Step}
use Rattle.nor_base.specs.declared.step.Step.TheVariants.{Send, Poll, Verify}
use Rattle.nor_base.specs.declared.wrong.Wrong.{Wrong}
use Rattle.nor_base.specs.declared.wrong.Wrong.TheVariants as wrong
use Rattle.nor_base.specs.Parameters.{Parameters}
use Rattle.nor_base.specs.Chip.{Chip, may_page}
use Rattle.nor_base.specs.Decoding.{Instruction, decode}
use Rattle.nor_base.specs.Effect.{after, effect_of, wrong_of}
use Rattle.nor_base.specs.Run.{poll_clocks, is_verify}
use Rattle.nor_check.specs.declared.chips.Latches.TheVariants.{Clear}
use Rattle.nor_check.specs.declared.verdict.Verdict.{Verdict}
use Rattle.nor_check.specs.declared.verdict.Verdict.TheVariants.{Yes, No}
use Rattle.nor_check.specs.declared.verdict.Why.TheVariants as why
use Rattle.nor_check.specs.Outcome.{Trial, at_end}
use Rattle.nor_check.specs.Chips.{Kind, Chips, Together, one_like, least_able, last_settled, all_after, all_ready}

-- all of them after an instruction that the least able chip takes
abbrev pub all_does : Kind → Chips → Instruction → What → Chips
all_does k w i is = all_after w is (after (one_like k [] false) (least_able w) i is)

-- after an erase or a program that leaves this array
abbrev pub accepted : Chips → List ℕ → Chips
accepted w array = record { array = array; mode4 = w.mode4; busy = true; latches = Clear }

-- why some of them doesn't take it, if so
abbrev pub all_refusal : Kind → Chips → Instruction → Option Wrong
all_refusal k w i = wrong_of (effect_of (one_like k [] false) (least_able w) i)

-- what the least able chip takes all take
abbrev pub all_taken : Chips → What → Result (Chip × List ℕ) Wrong → Result (Chips × List ℕ) Wrong
all_taken w is (Err cause) = Err cause
all_taken w is (Ok after) = Ok (all_after w is after.0, after.1)

abbrev pub all_effect : Kind → Chips → Option Instruction → Result (Chips × List ℕ) Wrong
all_effect k w None = Err wrong.Unknown
all_effect k w (Some i) = all_taken w i.what (effect_of (one_like k [] false) (least_able w) i)

abbrev pub all_done : Result (Chips × List ℕ) Wrong → Result Chips Wrong
all_done (Err cause) = Err cause
all_done (Ok after) = Ok after.0

abbrev pub all_matched : List ℕ → Result (Chips × List ℕ) Wrong → Result Chips Wrong
all_matched expect (Err cause) = Err cause
all_matched expect (Ok after) = if bytes_eq after.1 expect then Ok after.0 else Err wrong.Mismatch

-- one step of all of them
unfoldable pub all_step : Kind → Chips → Step → Result Chips Wrong
all_step k w (Send clocks) = all_done (all_effect k w (decode k.meaning w.mode4 clocks))
all_step k w (Poll clocks) = if bytes_eq clocks poll_clocks then Ok (record w { busy = false }) else Err wrong.Unknown
all_step k w (Verify clocks expect) =
    if is_verify clocks then all_matched expect (all_effect k w (decode k.meaning w.mode4 clocks)) else Err wrong.Unknown

-- a verdict counted from one step earlier
abbrev pub later : Verdict → Verdict
later Yes = Yes
later (No n cause) = No (n + 1) cause

abbrev pub judge_on : Result Chips Wrong → (Chips → Verdict) → Verdict
judge_on (Err cause) rest = No 0 (why.Wrong cause)
judge_on (Ok after) rest = later (rest after)

-- the verdict on all chips of a kind, from a moment on
unfoldable pub judged : Kind → List ℕ → Chips → List Step → Verdict
judged k target w [] = at_end (one_like k [] true) target 0 (last_settled w)
judged k target w (x ∷ xs) = judge_on (all_step k w x) (λ after. judged k target after xs)

-- on all ready chips with a page of a size
abbrev pub judged_with : Trial → ℕ → Verdict
judged_with t page =
    let k : Kind = record { meaning = t.m; start = t.start; page = page } in judged k t.want (all_ready k t.have) t.steps

-- another page than the meaning's own that a chip may have
abbrev pub is_other_page : Parameters → ℕ → Bool
is_other_page m page = not (page == m.page) && may_page m page

-- what an answer of a step says of the chips before and after
abbrev pub StepsAll : Together → Together → Result (Unit {0}) Wrong → Step → Type 0
StepsAll before after (Ok u) x = (all_step before.kind before.chips x ≡ Ok after.chips) × (after.kind ≡ before.kind)
StepsAll before after (Err cause) x = (all_step before.kind before.chips x ≡ Err cause) × (after.kind ≡ before.kind)
