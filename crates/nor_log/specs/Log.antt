-- What a log says (this project's). Its lines are cut as those of a HEX text are.
use Rattle.std.specs.Prelude.{◌≡◌, ℕ, Bool, true, false, ◌&&◌, not, if◌then◌else◌, ⊤, List, [], ◌∷◌, flat_map, Some, option_map}
use Rattle.std.specs.List.{list_all, find}
use Rattle.nor_base.specs.declared.step.Step.{Step}
use Rattle.nor_lines.specs.Lines.{filled_lines}
use Rattle.nor_log.specs.declared.fault.LogFault.{LogFault}
use Rattle.nor_log.specs.declared.fault.LogFault.TheVariants.{BadLine, Memory}
use Rattle.nor_log.specs.declared.line.Said.{Said}
use Rattle.nor_log.specs.declared.line.Said.TheVariants.{Nothing, Does, Strange}
use Rattle.nor_log.specs.Line.{line_says}

-- the line says nothing that a log says
abbrev pub is_strange : Said → Bool
is_strange Nothing = false
is_strange (Does step identity) = false
is_strange Strange = true

-- the step that a line gives, unless it is left out as a read of an identity
abbrev pub kept : Bool → Said → List Step
kept without Nothing = []
kept without (Does step identity) = if without && identity then [] else step ∷ []
kept without Strange = []

-- the step that is left out
abbrev pub dropped : Bool → Said → List Step
dropped without Nothing = []
dropped without (Does step identity) = if without && identity then step ∷ [] else []
dropped without Strange = []

-- the steps of a log's lines, one by one, and those left out
abbrev pub steps_of : Bool → List (ℕ × List ℕ) → List Step
steps_of without lines = flat_map (λ line. kept without (line_says line.1)) lines

abbrev pub left_out_of : Bool → List (ℕ × List ℕ) → List Step
left_out_of without lines = flat_map (λ line. dropped without (line_says line.1)) lines

-- each of the lines says something that a log says
abbrev pub are_said : List (ℕ × List ℕ) → Bool
are_said lines = list_all (λ line. not (is_strange (line_says line.1))) lines

-- what is read of a log
pub record Log : Type 0 where
  pub steps : List Step
  pub left_out : List Step

-- the text is a log, and these are its steps, and those left out
pub record IsLog (without : Bool) (text : List ℕ) (log : Log) : Type 0 where
  pub said : are_said (filled_lines text) ≡ true
  pub steps : log.steps ≡ steps_of without (filled_lines text)
  pub left_out : log.left_out ≡ left_out_of without (filled_lines text)

-- the first line that says nothing that a log says has this number
abbrev pub IsFirstStrange : List ℕ → ℕ → Type 0
IsFirstStrange text n = option_map (λ line. line.0) (find (λ line. is_strange (line_says line.1)) (filled_lines text)) ≡ Some n

-- what a refusal says of the text
abbrev pub Refuses : List ℕ → LogFault → Type 0
Refuses text (BadLine n) = IsFirstStrange text n
Refuses text Memory = ⊤
