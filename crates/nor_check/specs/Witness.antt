-- One chip that shows a verdict (this project's).
use Rattle.std.specs.Prelude.{◌≡◌, ℕ, zero, suc, Bool, true, false, ◌+◌, ◌<◌, ◌≤◌, ◌==◌, if◌then◌else◌, List, [], ◌∷◌, length, replicate, codes, nat_eq}
use Rattle.std.specs.List.{starts_with}
use Rattle.nor_base.specs.declared.meaning.Start.{Start}
use Rattle.nor_base.specs.declared.step.Step.{Step}
use Rattle.nor_base.specs.declared.step.Step.TheVariants.{Send, Poll, Verify}
use Rattle.nor_base.specs.Parameters.{Parameters}
use Rattle.nor_base.specs.Chip.{Setting, may_page}
use Rattle.nor_check.specs.declared.verdict.Verdict.TheVariants.{No}
use Rattle.nor_check.specs.declared.verdict.Why.{Why}
use Rattle.nor_check.specs.Outcome.{Trial, outcome}
use Rattle.nor_check.specs.Worst.{IsWorst}

-- how such a chip is: how often each busy time says busy, whether a poll leaves it, and its page
pub record Even : Type 0 where
  pub each_busy : ℕ
  pub keeps : Bool
  pub page : ℕ

abbrev pub even : ℕ → Bool → ℕ → Even
even n keeps page = record { each_busy = n; keeps = keeps; page = page }

-- a chip whose first so many programs and erases are each busy for the same number of status reads
abbrev pub even_chip : Parameters → Start → ℕ → Even → Setting
even_chip m start many e = record { meaning = m; start = start; page = e.page; busy = replicate many e.each_busy; keeps = e.keeps }

-- on the chip of these numbers the steps go wrong at this step, so; as many busy times as steps are enough
pub record Witnesses (t : Trial) (step : ℕ) (why : Why) (e : Even) : Type 0 where
  pub may : may_page t.m e.page ≡ true
  pub shows : (many : ℕ) → length t.steps ≤ many → outcome (even_chip t.m t.start many e) t.have t.want t.steps ≡ No step why

-- a status read that is sent, and not polled
abbrev pub is_status_read : Step → Bool
is_status_read (Send clocks) = starts_with nat_eq clocks (codes "00000101")
is_status_read (Poll clocks) = false
is_status_read (Verify clocks expect) = false

-- one more of them in a row, or none
abbrev pub in_a_row : ℕ → Step → ℕ
in_a_row reads x = if is_status_read x then reads + 1 else 0

-- how many of them stand in a row right before the step of a number, with so many before the first
unfoldable pub reads_from : ℕ → ℕ → List Step → ℕ
reads_from reads zero steps = reads
reads_from reads (suc n) [] = reads
reads_from reads (suc n) (x ∷ xs) = reads_from (in_a_row reads x) n xs

abbrev pub reads_before : ℕ → List Step → ℕ
reads_before n steps = reads_from 0 n steps

-- some page shows a no with each number above that of the status reads that are sent right before; the latch is kept just where
-- it goes wrong at the end
abbrev pub EachNoIsShown : Type 0
EachNoIsShown = (t : Trial) (step : ℕ) (why : Why) → IsWorst t (No step why)
    → (page : ℕ) × ((n : ℕ) → reads_before step t.steps < n → Witnesses t step why (even n (step == length t.steps) page))

-- they are no more than the steps before
abbrev pub FewReads : Type 0
FewReads = (n : ℕ) (steps : List Step) → reads_before n steps ≤ n
