-- One word is another, or none is.
use Rattle.norprog_cli.specs.Sheets.{AsInstalled, AsTyped}
use Rattle.norprog_cli.proofs.sheets.name_sheet.Goals as goal

pub returns-in-Some : goal.returns-in-Some
returns-in-Some c = AsInstalled _ _

pub returns-in_default : goal.returns-in_default
returns-in_default c = AsTyped
