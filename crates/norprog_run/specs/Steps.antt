-- What a step did on a chip, and how a play of the steps that came stands (this project's).
use Rattle.std.specs.Prelude.{◌≡◌, ℕ, Option, None, Some, Result, Ok, Err}
use Rattle.nor_base.specs.declared.step.Step.{Step}
use Rattle.nor_base.specs.Port.{Shown}
use Rattle.nor_play.specs.declared.fault.PlayFault.{PlayFault}
use Rattle.nor_play.specs.declared.fault.PlayFault.TheVariants as fault
use Rattle.nor_play.specs.Fed.{Player, past}
use Rattle.nor_play.specs.Numbered.{PlaysNumbered}
use Rattle.nor_script.specs.declared.fault.ReadFault.{ReadFault}
use Rattle.nor_script.specs.declared.fault.ReadFault.TheVariants.{Script}
use Rattle.nor_script.specs.declared.fault.ScriptFault.TheVariants.{Memory}
use Rattle.norprog_run.specs.declared.verdict.Verdict.{Verdict}
use Rattle.norprog_run.specs.declared.verdict.Verdict.TheVariants.{Done, Wrong}

-- a player, and the chip that it plays on
pub record Playing : Type 0 where
  pub player : Player
  pub chip : Shown

abbrev pub playing : Player → Shown → Playing
playing player chip = record { player = player; chip = chip }

-- a player was fed a step: it goes on, or the chip goes wrong, which is the verdict; or memory was refused
abbrev pub Steps : Playing → Playing → Step → Result (Option Verdict) ReadFault → Type 0
Steps before after x (Ok None) =
    (turns : ℕ) × PlaysNumbered before.chip after.chip before.player x (Ok turns) × (after.player ≡ past before.player (Ok turns))
Steps before after x (Ok (Some (Wrong at why))) = PlaysNumbered before.chip after.chip before.player x (Err (fault.Wrong at why))
Steps before after x (Ok (Some (Done transactions))) = ⊥
Steps before after x (Err why) = why ≡ Script Memory

-- what a player answers at the end is this verdict
abbrev pub Ends : Result ℕ PlayFault → Verdict → Type 0
Ends (Ok transactions) verdict = verdict ≡ Done transactions
Ends (Err (fault.Wrong at why)) verdict = verdict ≡ Wrong at why
Ends (Err other) verdict = ⊥
