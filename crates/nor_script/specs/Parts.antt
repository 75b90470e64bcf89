-- What the parts of a line are read as.
use Rattle.std.specs.Prelude.{◌≡◌, ℕ, ◌==◌, true, ⊤, List, count_by, position, flat_map, Option, Some, None, Result, Ok, Err}
use Rattle.std.specs.List.{list_all, before_first, after_first}
use Rattle.nor_base.specs.Array.{are_bytes}
use Rattle.nor_base.specs.Sample.{is_symbol}
use Rattle.nor_base.specs.Script.{hex_pair}
use Rattle.nor_script.specs.declared.fault.ScriptFault.{ScriptFault}
use Rattle.nor_script.specs.declared.fault.ScriptFault.TheVariants.{Memory}
use Rattle.nor_script.specs.Line.{is_blank, are_two_parts, are_pairs}

-- a refusal tells the fault that there is, if any, or that memory was refused
abbrev pub TellsFault : Option ScriptFault → ScriptFault → Type 0
TellsFault there Memory = ⊤
TellsFault there fault = there ≡ Some fault

-- where the only blank stands
pub record IsOnlyBlank (rest : List ℕ) (blank : ℕ) : Type 0 where
  pub one : (count_by is_blank rest == 1) ≡ true
  pub place : position is_blank rest ≡ Some blank

-- the two parts of what stands behind `v `
pub record AreParts (rest clocks digits : List ℕ) : Type 0 where
  pub two : are_two_parts rest ≡ true
  pub first : clocks ≡ before_first is_blank rest
  pub second : digits ≡ after_first is_blank rest

-- the parts of a verify's line, which is at no fault
pub record AreVerifyParts (rest clocks digits : List ℕ) : Type 0 where
  pub parts : AreParts rest clocks digits
  pub symbols : list_all is_symbol clocks ≡ true
  pub pairs : are_pairs digits ≡ true

-- the bytes are those that the digits spell
pub record SpellsBytes (digits bytes : List ℕ) : Type 0 where
  pub spelled : digits ≡ flat_map hex_pair bytes
  pub small : are_bytes bytes ≡ true

-- Ok where there is no fault
abbrev pub or_fault : Option ScriptFault → Result (Unit {0}) ScriptFault
or_fault None = Ok tt
or_fault (Some fault) = Err fault
