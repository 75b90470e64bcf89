-- One line more of a log.
use Rattle.std.proofs.Common.{◌≡◌, ◌∙◌, ℕ, Bool, true, false, not, ◌&&◌, List, [], ◌∷◌, ◌++◌, map, Some, None, refl, sym, ap, append-nil}
use Rattle.std.specs.Prelude.{option_map, if◌then◌else◌}
use Rattle.std.specs.List.{find}
use Rattle.std.specs.Option.{option_or}
use Rattle.std.proofs.lemmas.Grind.{flat_map-append}
use Rattle.std.proofs.lemmas.List.{append_assoc, map_push}
use Rattle.std.proofs.lemmas.List.Folds.{list_all-append, find-append}
use Rattle.nor_base.specs.declared.step.Step.{Step}
use Rattle.nor_lines.specs.Lines.{filled_lines}
use Rattle.nor_log.specs.declared.line.Said.{Said}
use Rattle.nor_log.specs.declared.line.Said.TheVariants.{Strange}
use Rattle.nor_log.specs.Line.{line_says}
use Rattle.nor_log.specs.Log.{is_strange, kept, dropped, steps_of, left_out_of, are_said, IsLog, IsFirstStrange}

-- these lines were read, and the rest wasn't
pub record IsRead (without : Bool) (lines seen rest : List (ℕ × List ℕ)) (these others : List Step) : Type 0 where
  pub all : seen ++ rest ≡ lines
  pub said : are_said seen ≡ true
  pub steps : these ≡ steps_of without seen
  pub left : others ≡ left_out_of without seen

-- the next line says something that a log says
pub read_further : {X : Type 0} (without : Bool) (view : X → ℕ × List ℕ) (lines left rest : List (ℕ × List ℕ)) (given : List X) (item : X) (said : Said) (steps more out others : List Step)
    → IsRead without lines (map view given) left steps out → left ≡ view item ∷ rest → said ≡ line_says (view item).1 → is_strange said ≡ false
    → more ≡ steps ++ kept without said → others ≡ out ++ dropped without said
    → IsRead without lines (map view (given ++ item ∷ [])) rest more others
read_further without view lines left rest given item said steps more out others read next says plain keeps drops =
    let seen = map view given in
    let line = view item in
    let shown = map_push view given item in
    record {
      all = ap (λ s. s ++ rest) shown ∙ append_assoc seen (line ∷ []) rest ∙ ap (λ l. seen ++ l) (sym next) ∙ read.all;
      said = ap are_said shown ∙ list_all-append (λ l. not (is_strange (line_says l.1))) seen (line ∷ [])
          ∙ ap (λ b. b && (not (is_strange (line_says line.1)) && true)) read.said
          ∙ ap (λ s. not (is_strange s) && true) (sym says) ∙ ap (λ b. not b && true) plain;
      steps = keeps ∙ ap (λ s. steps ++ kept without s) says ∙ ap (λ s. s ++ kept without (line_says line.1)) read.steps
          ∙ ap (λ s. steps_of without seen ++ s) (sym (append-nil (kept without (line_says line.1))))
          ∙ sym (flat_map-append (λ l. kept without (line_says l.1)) seen (line ∷ [])) ∙ ap (steps_of without) (sym shown);
      left = drops ∙ ap (λ s. out ++ dropped without s) says ∙ ap (λ s. s ++ dropped without (line_says line.1)) read.left
          ∙ ap (λ s. left_out_of without seen ++ s) (sym (append-nil (dropped without (line_says line.1))))
          ∙ sym (flat_map-append (λ l. dropped without (line_says l.1)) seen (line ∷ [])) ∙ ap (left_out_of without) (sym shown);
    }

-- no line of these is found
none_on : (line : ℕ × List ℕ) (lines : List (ℕ × List ℕ)) (b : Bool) → is_strange (line_says line.1) ≡ b → (not b && are_said lines) ≡ true
    → (are_said lines ≡ true → find (λ (l : ℕ × List ℕ). is_strange (line_says l.1)) lines ≡ None) → find (λ (l : ℕ × List ℕ). is_strange (line_says l.1)) (line ∷ lines) ≡ None
none_on line lines true is said none = cc
none_on line lines false is said none = ap (λ b. if b then Some line else find (λ (l : ℕ × List ℕ). is_strange (line_says l.1)) lines) is ∙ none said

none_found : (lines : List (ℕ × List ℕ)) → are_said lines ≡ true → find (λ (l : ℕ × List ℕ). is_strange (line_says l.1)) lines ≡ None
none_found [] said = refl
none_found (line ∷ lines) said = none_on line lines (is_strange (line_says line.1)) refl said (none_found lines)

-- the next line is the first that doesn't
pub strange_here : {X : Type 0} (without : Bool) (view : X → ℕ × List ℕ) (text : List ℕ) (left rest : List (ℕ × List ℕ)) (given : List X) (item : X) (steps out : List Step)
    → IsRead without (filled_lines text) (map view given) left steps out → left ≡ view item ∷ rest → Strange ≡ line_says (view item).1 → IsFirstStrange text (view item).0
strange_here without view text left rest given item steps out read next says =
    let seen = map view given in
    let line = view item in
    ap (λ lines. option_map (λ (l : ℕ × List ℕ). l.0) (find (λ l. is_strange (line_says l.1)) lines)) (sym read.all ∙ ap (λ l. seen ++ l) next)
    ∙ ap (option_map (λ (l : ℕ × List ℕ). l.0)) (find-append (λ l. is_strange (line_says l.1)) seen (line ∷ rest))
    ∙ ap (λ o. option_map (λ (l : ℕ × List ℕ). l.0) (option_or o (find (λ l. is_strange (line_says l.1)) (line ∷ rest)))) (none_found seen read.said)
    ∙ ap (λ s. option_map (λ (l : ℕ × List ℕ). l.0) (if is_strange s then Some line else find (λ l. is_strange (line_says l.1)) rest)) (sym says)

-- all lines were read
pub all_read : (without : Bool) (text : List ℕ) (seen left : List (ℕ × List ℕ)) (steps out : List Step) → IsRead without (filled_lines text) seen left steps out → left ≡ []
    → IsLog without text (record { steps = steps; left_out = out })
all_read without text seen left steps out read end =
    let all : seen ≡ filled_lines text = sym (append-nil seen) ∙ ap (λ rest. seen ++ rest) (sym end) ∙ read.all in
    record {
      said = ap are_said (sym all) ∙ read.said;
      steps = read.steps ∙ ap (steps_of without) all;
      left_out = read.left ∙ ap (left_out_of without) all;
    }
