-- What the code's table of commands and options says of words (this project's).
use Rattle.std.specs.Prelude.{Bool, List, [], ◌++◌, if◌then◌else◌, map, flat_map, codes}
use Rattle.std.specs.Str.{bytes_eq}
use Rattle.clap.specs.Words.{App, Rule, Text}
use Rattle.norprog_options.specs.declared.arguments.Takes.{Takes}
use Rattle.norprog_options.specs.declared.arguments.Takes.TheVariants as takes
use Rattle.norprog_options.specs.declared.arguments.Group.{Group}
use Rattle.norprog_options.specs.declared.arguments.Group.TheVariants as group
use Rattle.norprog_options.specs.declared.arguments.Choice.{Choice}
use Rattle.norprog_options.specs.declared.arguments.Form.{Form}
use Rattle.norprog_options.specs.Program.{flag, valued, repeated, words, image, erased, image_rules, device, work, chip, content, start, behaviour, verify, script, details, command}

-- what the library reads for an option, by what is written after it
abbrev pub rule_for : Takes → Bool → Text → Rule
rule_for takes.Nothing required name = flag name
rule_for takes.File required name = valued required name
rule_for takes.Files required name = repeated required name
rule_for (takes.Value shown) required name = valued required name
rule_for (takes.Words shown) required name = words name

-- an option of the table
abbrev pub option_of : Choice → Rule
option_of choice = rule_for choice.takes choice.required choice.name.now

-- the options of a group
abbrev pub options_of : Group → List Rule
options_of group.Image = image
options_of group.Erased = erased
options_of group.Rules = image_rules
options_of group.Device = device
options_of group.Work = work
options_of group.Chip = chip
options_of group.Content = content
options_of group.Start = start
options_of group.ChipBehaviour = behaviour
options_of group.Verify = verify
options_of group.Script = script

-- the options of every command but explain
abbrev pub each_of : Text → List Rule
each_of name = if bytes_eq name (codes "explain") then [] else details

-- a command of the table
abbrev pub command_of : Form → Text × List Rule
command_of form = (
  form.name.now,
  flat_map options_of form.groups.now ++ map option_of form.choices.now ++ each_of form.name.now,
)

-- a command by itself
abbrev pub alone : Text × List Rule → App
alone named = record { top = command named; subs = [] }

-- a command with more options
abbrev pub with_options : App → List Rule → App
with_options app rules = record app { top = record app.top { rules = app.top.rules ++ rules } }
