-- What a sheet and the printed lines say of each other.
use Rattle.std.specs.Prelude.{false}
use Rattle.nor_base.specs.Parameters.{Parameters}
use Rattle.nor_base.specs.Accepted.{IsAccepted}
use Rattle.nor_sheet.specs.Text.{IsSheet}
use Rattle.norprog.specs.ChipText.{meaning_text}

-- the lines that are printed of a meaning are a sheet of it, but without what isn't printed
abbrev pub PrintedIsSheet : Type 0
PrintedIsSheet = (m : Parameters) → IsAccepted m → IsSheet (meaning_text m) (record m { quad3 = false; erased_only = false })
