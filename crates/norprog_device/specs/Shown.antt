-- What lines show of a chip (this project's).
use Rattle.std.specs.Prelude.{ℕ, List, [], ◌∷◌, ◌++◌, ◌/◌, ◌%◌, codes}
use Rattle.nor_base.specs.declared.meaning.Part.{Part}
use Rattle.nor_base.specs.declared.meaning.Part.TheVariants.{Generic, W25q256jv}
use Rattle.nor_base.specs.Script.{hex_pair}
use Rattle.nor_reader.specs.declared.difference.Difference.{Difference}
use Rattle.nor_script.specs.Hexadecimal.{hex_number}

-- S23 to S16, S15 to S8 and S7 to S0
abbrev pub registers : ℕ → List ℕ
registers status = status / 65536 % 256 ∷ status / 256 % 256 ∷ status % 256 ∷ []

-- a text, three bytes in six digits, and LF
abbrev pub digits_line : List ℕ → List ℕ → List ℕ
digits_line front (a ∷ b ∷ c ∷ []) = front ++ (hex_pair a ++ (hex_pair b ++ (hex_pair c ++ codes "\n")))
digits_line front other = []

-- a text, S7 to S0, or of a part whose registers are known S23 to S0, and LF
abbrev pub status_line : List ℕ → Part → ℕ → List ℕ
status_line front Generic status = front ++ (hex_pair (status % 256) ++ codes "\n")
status_line front W25q256jv status = digits_line front (registers status)

-- the address of a byte that is another, the chip's and the one that was wanted, behind and between these texts, and LF
abbrev pub other_line : List ℕ → List ℕ → Difference → List ℕ
other_line front last d =
    front ++ (hex_number d.address ++ (codes " chip " ++ (hex_pair d.chip ++ (last ++ (hex_pair d.want ++ codes "\n")))))
