-- What the values of a command line of `script` ask for (this project's).
use Rattle.std.specs.Prelude.{◌≡◌, Bool, true, false, not, ◌&&◌, ◌||◌, Option, None, Some, is_some}
use Rattle.norprog_common.specs.Setup.{is_setup, AsksSetup}
use Rattle.norprog_common.specs.declared.given.ScriptArgs.{ScriptArgs}
use Rattle.norprog_common.specs.declared.given.SetupArgs.{SetupArgs}
use Rattle.norprog_common.specs.declared.setup.Setup.{Setup}
use Rattle.norprog_script.specs.declared.request.ScriptRequest.{ScriptRequest}

-- something is said of a chip
abbrev pub says_chip : SetupArgs → Bool
says_chip given =
    is_some given.chip.sfdp || (is_some given.chip.uniform || (is_some given.chip.sheet || (is_some given.chip.bits
    || (is_some given.chip.part || (is_some given.status || (given.mode4 || (given.quad || given.erased_only)))))))

-- both files are named; what is said of a chip, if anything, names one and is of its form
abbrev pub is_well_formed : ScriptArgs → Bool
is_well_formed given = (not (says_chip given.setup) || is_setup given.setup) && (is_some given.log && is_some given.out)

-- the chip is the one that is said, where something is said of one
abbrev pub AsksChip : SetupArgs → Option Setup → Type 0
AsksChip given None = says_chip given ≡ false
AsksChip given (Some setup) = (says_chip given ≡ true) × AsksSetup given setup

-- each value is the one that is there
pub record AsksFor (given : ScriptArgs) (request : ScriptRequest) : Type 0 where
  pub chip : AsksChip given.setup request.chip
  pub log : given.log ≡ Some request.log
  pub without : given.without_identity ≡ request.without_identity
  pub out : given.out ≡ Some request.out
