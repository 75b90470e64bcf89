-- What the program answers to words (this project's).
use Rattle.std.specs.Prelude.{◌≡◌, ◌≢◌, ℕ, List, [], ◌++◌, string_bytes, Option, Some, Result, Ok, Err}
use Rattle.norprog_common.specs.Told.{Ends, Output, between}
use Rattle.norprog_common.specs.declared.faults.Refusal.{Refusal}
use Rattle.norprog_details.specs.Details.{LooksAgain}
use Rattle.norprog_details.specs.declared.typed.CommandLine.{CommandLine}
use Rattle.norprog_details.specs.Explained.{explained, EndsExplain}
use Rattle.norprog_details.specs.Topics.{topics}
use Rattle.norprog_files.specs.Files.{Event}
use Rattle.norprog_named.specs.Asked.{Prints, EndsBuildAsked, EndsCheckAsked, EndsDrawAsked, EndsHexAsked, EndsListAsked, EndsPlanAsked, EndsRunAsked, EndsScriptAsked, EndsSfdpAsked}
use Rattle.norprog_named.specs.AskedDevice.{EndsPlayAsked, EndsReadAsked, Reported, ReportsFlash, SaysPlay, SaysRead}
use Rattle.norprog_options.specs.declared.options.Asked.{Asked}
use Rattle.norprog_options.specs.declared.options.Asked.TheVariants as command
use Rattle.norprog_options.specs.declared.options.Line.{Line}
use Rattle.norprog_options.specs.declared.typed.TypedLine.{TypedLine}
use Rattle.norprog_options.specs.Spelled.{Refuses, Spells}
use Rattle.norprog_options.specs.Typed.{IsLineOf}

-- standard output and standard error
pub record Screen : Type 0 where
  pub out : Output
  pub err : Output

abbrev pub screen : Output → Output → Screen
screen out err = record { out = out; err = err }

-- there is such an answer, and it ends so
abbrev pub Answered : Output → ℕ → (Result ℕ Refusal → Type 0) → Type 0
Answered err status Is = Reported Is (Ends err status)

-- a command's help was printed, or a proper prefix of it, where standard output failed
abbrev pub EndsHelp : List ℕ → Output → Result ℕ Refusal → Type 0
EndsHelp text out = Prints (λ bytes. bytes) out (λ r. r ≡ Ok text)

-- each command ends in one of its ways, and says so. `Unread`: a reader of some file has failed
abbrev pub AnswersTo : Type 0 → Asked → Screen → ℕ → List Event → Type 0
AnswersTo Unread (command.Build given) s status log = Answered s.err status (EndsBuildAsked Unread given s.out log)
AnswersTo Unread (command.Plan given) s status log = Answered s.err status (EndsPlanAsked Unread given s.out log)
AnswersTo Unread (command.Check given) s status log = Answered s.err status (EndsCheckAsked Unread given s.out log)
AnswersTo Unread (command.Run given) s status log = Answered s.err status (EndsRunAsked Unread given s.out log)
AnswersTo Unread (command.List given) s status log = Answered s.err status (EndsListAsked Unread given s.out log)
AnswersTo Unread (command.Draw given) s status log = (s.out.after ≡ s.out.before) × Answered s.err status (EndsDrawAsked given log)
AnswersTo Unread (command.Play given) s status log = Reported (EndsPlayAsked Unread given log) (SaysPlay s.out s.err status)
AnswersTo Unread (command.Read given) s status log = Reported (EndsReadAsked given log) (SaysRead s.out s.err status)
AnswersTo Unread (command.Flash given) s status log = ReportsFlash given s.out s.err status log
AnswersTo Unread (command.Sfdp given) s status log = Answered s.err status (EndsSfdpAsked given s.out log)
AnswersTo Unread (command.Hex given) s status log = (s.out.after ≡ s.out.before) × Answered s.err status (EndsHexAsked Unread given log)
AnswersTo Unread (command.Script given) s status log = Answered s.err status (EndsScriptAsked given s.out log)
AnswersTo Unread (command.Explain words) s status log = (log ≡ []) × Answered s.err status (EndsExplain (explained topics words.items) s.out)
AnswersTo Unread (command.Help text) s status log = (log ≡ []) × Answered s.err status (EndsHelp (string_bytes text) s.out)

-- what a command line is answered
pub data AnswersLine (Unread : Type 0) (line : Line) (s : Screen) (status : ℕ) : List Event → Type 0 where
  -- what its command answers
  Plainly : (log : List Event) → AnswersTo Unread line.asked s status log → AnswersLine Unread line s status log
  -- and then more, where that is to be said and the command isn't done: only files of its options were looked at again
  InDetail : (typed : TypedLine) (handed : CommandLine) (middle : Option (List ℕ)) (failed : ℕ) (log looks : List Event) → line.details ≡ Some typed
      → IsLineOf typed handed → status ≢ 0 → AnswersTo Unread line.asked (screen s.out (between s.err.before middle s.err.failures failed)) status log
      → LooksAgain handed.typed.now looks → AnswersLine Unread line s status (log ++ looks)

-- what words are answered: as the command line that they spell; words that spell none are refused, and nothing else is done
pub data AnswersWords (Unread : Type 0) (words : List (List ℕ)) (s : Screen) (status : ℕ) : List Event → Type 0 where
  Spelled : (line : Line) (log : List Event) → Spells words line → AnswersLine Unread line s status log → AnswersWords Unread words s status log
  Unspelled : (why : Refusal) → Refuses words why → s.out.after ≡ s.out.before → Ends s.err status (Err why) → AnswersWords Unread words s status []
