-- What is so of texts of scripts (this project's).
use Rattle.std.specs.Prelude.{ℕ, List}
use Rattle.nor_base.specs.declared.step.Step.{Step}
use Rattle.nor_base.specs.Script.{IsScript}
use Rattle.nor_script.specs.declared.fault.ScriptFault.{ScriptFault}
use Rattle.nor_script.specs.Faults.{IsFault}

-- the text of some steps has no fault
abbrev pub ScriptsAreFaultless : Type 0
ScriptsAreFaultless = (text : List ℕ) (steps : List Step) (fault : ScriptFault) → IsScript text steps → IsFault text fault → ⊥
