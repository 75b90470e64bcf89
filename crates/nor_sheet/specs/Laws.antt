-- Laws of what a sheet is.
use Rattle.std.specs.Prelude.{◌≡◌, ℕ, List}
use Rattle.nor_base.specs.Parameters.{Parameters}
use Rattle.nor_sheet.specs.declared.fault.SheetFault.{SheetFault}
use Rattle.nor_sheet.specs.Text.{IsSheet, Refuses}

-- a sheet has one meaning
abbrev pub OneMeaning : Type 0
OneMeaning = (text : List ℕ) (m n : Parameters) → IsSheet text m → IsSheet text n → m ≡ n

-- a text is refused for one fault
abbrev pub OneFault : Type 0
OneFault = (text : List ℕ) (fault other : SheetFault) → Refuses text fault → Refuses text other → fault ≡ other

-- no sheet is refused
abbrev pub NotBoth : Type 0
NotBoth = (text : List ℕ) (m : Parameters) (fault : SheetFault) → IsSheet text m → Refuses text fault → ⊥
