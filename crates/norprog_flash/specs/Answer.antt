-- What is written of how `flash` ends (this project's).
use Rattle.std.specs.Prelude.{ℕ, List, [], if◌then◌else◌, unwrap_or}
use Rattle.nor_base.specs.declared.meaning.Part.{Part}
use Rattle.nor_base.specs.declared.meaning.Part.TheVariants.{Generic}
use Rattle.norprog_common.specs.Setup.{family_asked}
use Rattle.norprog_common.specs.Values.{part_of}
use Rattle.norprog_common.specs.declared.given.FlashArgs.{FlashArgs}
use Rattle.norprog_flash.specs.declared.ending.Ending.{Ending}
use Rattle.norprog_flash.specs.Line.{is_partial}
use Rattle.norprog_flash.specs.State.{state_line}

-- the part that is named, else that of which nothing is known
abbrev pub family_of : FlashArgs → Part
family_of given = unwrap_or (part_of (family_asked given.chip)) Generic

-- what is written beside an ending
abbrev pub state_told : Ending → FlashArgs → List ℕ
state_told ending given = if is_partial ending then state_line given else []
