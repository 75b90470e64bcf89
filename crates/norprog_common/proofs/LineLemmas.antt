-- A line as parts.
use Rattle.std.proofs.Common.{◌≡◌, ℕ, List, [], ◌∷◌, ◌++◌, sym, ap, append_assoc}
use Rattle.std.specs.Prelude.{codes}
use Rattle.norprog_common.specs.Lines.{program_line}

-- words and digits behind them, in one line
pub words_then : (words digits : List ℕ) → codes "norprog: " ++ (words ++ (digits ++ (0x0A ∷ []))) ≡ program_line (words ++ digits)
words_then words digits = ap (λ l. codes "norprog: " ++ l) (sym (append_assoc words digits (0x0A ∷ [])))
