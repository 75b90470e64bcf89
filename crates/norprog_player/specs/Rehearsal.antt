-- How steps go in memory (this project's).
use Rattle.std.specs.Prelude.{◌≡◌, ℕ, ◌+◌, List, ◌++◌, length, Ok, Err}
use Rattle.nor_base.specs.declared.step.Step.{Step}
use Rattle.nor_base.specs.Chip.{Setting, Chip}
use Rattle.nor_base.specs.Run.{DoesTaskOnEvery}
use Rattle.nor_check.specs.Fed.{Fed, to_come}
use Rattle.nor_check.specs.declared.verdict.Verdict.TheVariants.{No as Says}
use Rattle.nor_check.specs.declared.verdict.Why.{Why}
use Rattle.nor_check.specs.Outcome.{trial}
use Rattle.nor_check.specs.Worst.{IsWorst}
use Rattle.nor_play.specs.Play.{play}
use Rattle.norprog_player.specs.declared.rehearsal.Rehearsal.{Rehearsal}
use Rattle.norprog_player.specs.declared.rehearsal.Rehearsal.TheVariants.{Well, Wrong, No}

-- the run of the steps, a poll one status read, leaves a chip; from the same bytes they leave its bytes on every chip of the meaning and start
pub record DoesSame (s : Setting) (c : Chip) (steps : List Step) : Type 0 where
  pub left : Chip
  pub ends : play s 1 c steps ≡ Ok left
  pub every : DoesTaskOnEvery s.meaning s.start c.array left.array steps

-- the run leaves a chip; of the chips of the meaning and start the worst comes out so where its bytes are wanted
pub record DoesOther (s : Setting) (c : Chip) (steps : List Step) (at : ℕ) (why : Why) : Type 0 where
  pub left : Chip
  pub ends : play s 1 c steps ≡ Ok left
  pub worst : IsWorst (trial s.meaning s.start c.array left.array steps) (Says at why)

-- how the steps go on a chip in memory and, where that is well, on every chip
abbrev pub Rehearses : Setting → Chip → List Step → Rehearsal → Type 0
Rehearses s c steps (Well left) = (same : DoesSame s c steps) × (left.items ≡ same.left.array)
Rehearses s c steps (Wrong at why) = (d : Chip) × (play s 1 c steps ≡ Err (record { at = at; why = why; chip = d }))
Rehearses s c steps (No at why) = DoesOther s c steps at why

-- a checker was fed with steps: what it says of others to come it said of these and those
pub record IsFed (before : Fed) (steps : List Step) (after : Fed) : Type 0 where
  pub says : (want : List ℕ) (more : List Step) → to_come after want more ≡ to_come before want (steps ++ more)
  pub number : after.number ≡ before.number + length steps
  pub size : after.size ≡ before.size
