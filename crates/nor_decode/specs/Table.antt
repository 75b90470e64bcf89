-- The rows of an erase kind in the instruction table.
use Rattle.std.specs.Prelude.{ℕ, Bool, ◌&&◌, List, [], ◌∷◌, Option, is_some, option_and_then}
use Rattle.std.specs.Option.{option_map_or}
use Rattle.nor_base.specs.declared.instruction.What.TheVariants as what
use Rattle.nor_base.specs.declared.meaning.Erase.{Erase}
use Rattle.nor_base.specs.Instructions.{Row, row, by_mode}

-- by its legacy opcode and by its dedicated one, where the kind is live
abbrev pub rows_by : Bool → Option Erase → Bool → ℕ → List Row
rows_by live found mode4 kind =
    row (option_map_or (λ erase. erase.op) found 0) live (what.Erase kind) (by_mode mode4)
    ∷ row (option_map_or (λ op4. op4) (option_and_then (λ erase. erase.op4) found) 0) (live && is_some (option_and_then (λ erase. erase.op4) found)) (what.Erase kind) 4
    ∷ []
