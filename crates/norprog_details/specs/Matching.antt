-- How the words of a topic stand to an argument (this project's).
use Rattle.std.specs.Prelude.{ℕ, nat_eq, if◌then◌else◌, List, [], ◌∷◌, ◌++◌}
use Rattle.norprog_details.specs.declared.matching.Meeting.{Meeting}
use Rattle.norprog_details.specs.declared.matching.Meeting.TheVariants as code
use Rattle.norprog_details.specs.declared.matching.Text.{Text}
use Rattle.norprog_details.specs.declared.matching.Text.TheVariants.{Arguments, Line}
use Rattle.norprog_details.specs.Explained.{in_a_row}

-- the text that a topic is asked for by, with a blank after it
abbrev pub row_of : Text → List ℕ
row_of (Arguments words) = in_a_row words.now
row_of (Line line) = line.now ++ 32 ∷ []

-- the argument begins with all of the words, or it is the first of them and these follow, or they differ
pub data Met : Type 0 where
  Whole : Met
  Part : List ℕ → Met
  Apart : Met

abbrev pub met : Meeting → Met
met code.Whole = Whole
met (code.Part more) = Part more.now
met code.Apart = Apart

-- they go on alike up to the end of one of them, where the other one ends or has a blank
abbrev pub meeting : List ℕ → List ℕ → Met
meeting [] [] = Whole
meeting [] (byte ∷ bytes) = if nat_eq 32 byte then Whole else Apart
meeting (word ∷ words) [] = if nat_eq word 32 then Part words else Apart
meeting (word ∷ words) (byte ∷ bytes) = if nat_eq word byte then meeting words bytes else Apart
