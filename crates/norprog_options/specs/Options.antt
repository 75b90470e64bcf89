-- Which option's text goes to which value (this project's).
use Rattle.std.specs.Prelude.{◌≡◌, ⊤, ℕ, Bool, true, false, List, [], ◌∷◌, Option, Some, None, IfSome, map, option_map, unwrap_or, codes}
use Rattle.std.specs.Str.{bytes_eq}
use Rattle.clap.specs.Words.{first_value, matched_of, one_text, raw_values, rows_of, subcommand_rows_of}
use Rattle.clap.specs.declared.parser.matches.ArgMatches.{ArgMatches}
use Rattle.clap.specs.declared.parser.matches.Found.{Found}
use Rattle.norprog_common.specs.declared.given.Aim.{Aim}
use Rattle.norprog_common.specs.declared.given.Aim.TheVariants as aim
use Rattle.norprog_common.specs.declared.given.Given.{Given}
use Rattle.norprog_common.specs.declared.given.BuildArgs.{BuildArgs}
use Rattle.norprog_common.specs.declared.given.CheckArgs.{CheckArgs}
use Rattle.norprog_common.specs.declared.given.ChipArgs.{ChipArgs}
use Rattle.norprog_common.specs.declared.given.DrawArgs.{DrawArgs}
use Rattle.norprog_common.specs.declared.given.FlashArgs.{FlashArgs}
use Rattle.norprog_common.specs.declared.given.HexArgs.{HexArgs}
use Rattle.norprog_common.specs.declared.given.ImageArgs.{ImageArgs}
use Rattle.norprog_common.specs.declared.given.ListArgs.{ListArgs}
use Rattle.norprog_common.specs.declared.given.OutFile.{OutFile}
use Rattle.norprog_common.specs.declared.given.PlanArgs.{PlanArgs}
use Rattle.norprog_common.specs.declared.given.PlayArgs.{PlayArgs}
use Rattle.norprog_common.specs.declared.given.ReadArgs.{ReadArgs}
use Rattle.norprog_common.specs.declared.given.RunArgs.{RunArgs}
use Rattle.norprog_common.specs.declared.given.ScriptArgs.{ScriptArgs}
use Rattle.norprog_common.specs.declared.given.SetupArgs.{SetupArgs}
use Rattle.norprog_options.specs.declared.options.Asked.{Asked}
use Rattle.norprog_options.specs.declared.options.Asked.TheVariants as command

-- the option of this name has this text
abbrev pub Has : Found → List ℕ → Option (List ℕ) → Type 0
Has found name text = text ≡ first_value found name

-- the values of the argument of this name, of all its uses, in their order
abbrev pub texts_of : Found → List ℕ → List (List ℕ)
texts_of found name = unwrap_or (option_map raw_values (matched_of found name)) []

-- `explain` is asked about `help` and another word
abbrev pub asks_help : List (List ℕ) → Bool
asks_help (first ∷ other ∷ []) = bytes_eq first (codes "help")
asks_help words = false

-- a flag is set where its option is used, and isn't where it isn't
pub record Sets (found : Found) (name : List ℕ) (flag : Bool) : Type 0 where
  pub used : one_text found name ≡ Some (codes "true") → flag ≡ true
  pub unused : one_text found name ≡ Some (codes "false") → flag ≡ false
  pub absent : one_text found name ≡ None → flag ≡ false

-- the file of this option is to be made; `force` says that it may be written over
pub record IsOutIn (found : Found) (name : List ℕ) (out : Option OutFile) : Type 0 where
  pub path : Has found name (option_map (λ o. o.path.now) out)
  pub force : IfSome out (λ o. Sets found (codes "force") o.force)

pub record IsChipIn (found : Found) (given : ChipArgs) : Type 0 where
  pub sfdp : Has found (codes "sfdp") (option_map (λ t. t.now) given.sfdp)
  pub uniform : Has found (codes "uniform") (option_map (λ t. t.now) given.uniform)
  pub sheet : Has found (codes "sheet") (option_map (λ t. t.now) given.sheet)
  pub bits : Has found (codes "bits") (option_map (λ t. t.now) given.bits)
  pub part : Has found (codes "part") (option_map (λ t. t.now) given.part)

-- these files are named, each kind in its order
pub record IsImageIn (found : Found) (given : ImageArgs) : Type 0 where
  pub hex : map (λ t. t.now) given.hex.items ≡ texts_of found (codes "hex")
  pub bin : map (λ t. t.now) given.bin.items ≡ texts_of found (codes "bin")

pub record IsJobIn (found : Found) (given : Given) : Type 0 where
  pub image : IsImageIn found given.image
  pub layout : Has found (codes "layout") (option_map (λ t. t.now) given.layout)
  pub sfdp : Has found (codes "sfdp") (option_map (λ t. t.now) given.sfdp)
  pub uniform : Has found (codes "uniform") (option_map (λ t. t.now) given.uniform)
  pub sheet : Has found (codes "sheet") (option_map (λ t. t.now) given.sheet)
  pub bits : Has found (codes "bits") (option_map (λ t. t.now) given.bits)
  pub part : Has found (codes "part") (option_map (λ t. t.now) given.part)
  pub status : Has found (codes "status") (option_map (λ t. t.now) given.status)
  pub base : Has found (codes "base") (option_map (λ t. t.now) given.base)
  pub content : Has found (codes "content") (option_map (λ t. t.now) given.content)
  pub mode4 : Sets found (codes "mode4") given.mode4
  pub quad : Sets found (codes "quad") given.quad
  pub verify : Sets found (codes "verify") given.verify
  pub erased_only : Sets found (codes "erased-only") given.erased_only
  pub page : Has found (codes "page") (option_map (λ t. t.now) given.page)
  pub strict : Sets found (codes "strict") given.strict
  pub whole : Sets found (codes "whole") given.whole
  pub regions : given.regions.items ≡ texts_of found (codes "names")

pub record IsSetupIn (found : Found) (given : SetupArgs) : Type 0 where
  pub chip : IsChipIn found given.chip
  pub status : Has found (codes "status") (option_map (λ t. t.now) given.status)
  pub mode4 : Sets found (codes "mode4") given.mode4
  pub quad : Sets found (codes "quad") given.quad
  pub erased_only : Sets found (codes "erased-only") given.erased_only

pub record IsRunIn (found : Found) (given : RunArgs) : Type 0 where
  pub setup : IsSetupIn found given.setup
  pub content : Has found (codes "content") (option_map (λ t. t.now) given.content)
  pub script : Has found (codes "script") (option_map (λ t. t.now) given.script)
  pub busy : Has found (codes "busy") (option_map (λ t. t.now) given.busy)
  pub each_busy : Has found (codes "each-busy") (option_map (λ t. t.now) given.each_busy)
  pub limit : Has found (codes "limit") (option_map (λ t. t.now) given.limit)
  pub page : Has found (codes "page") (option_map (λ t. t.now) given.page)
  pub out : IsOutIn found (codes "out") given.out
  pub keep : Sets found (codes "keep") given.keep

pub record IsListIn (found : Found) (given : ListArgs) : Type 0 where
  pub setup : IsSetupIn found given.setup
  pub script : Has found (codes "script") (option_map (λ t. t.now) given.script)

pub record IsDrawIn (found : Found) (given : DrawArgs) : Type 0 where
  pub script : Has found (codes "script") (option_map (λ t. t.now) given.script)
  pub from : Has found (codes "from") (option_map (λ t. t.now) given.from)
  pub steps : Has found (codes "steps") (option_map (λ t. t.now) given.steps)
  pub out : IsOutIn found (codes "out") given.out

pub record IsHexIn (found : Found) (given : HexArgs) : Type 0 where
  pub bin : Has found (codes "bin") (option_map (λ t. t.now) given.bin)
  pub at : Has found (codes "at") (option_map (λ t. t.now) given.at)
  pub out : IsOutIn found (codes "out") given.out

pub record IsScriptIn (found : Found) (given : ScriptArgs) : Type 0 where
  pub setup : IsSetupIn found given.setup
  pub log : Has found (codes "log") (option_map (λ t. t.now) given.log)
  pub without : Sets found (codes "without-identity") given.without_identity
  pub out : IsOutIn found (codes "out") given.out

pub record IsPlayIn (found : Found) (given : PlayArgs) : Type 0 where
  pub setup : IsSetupIn found given.setup
  pub content : Has found (codes "content") (option_map (λ t. t.now) given.content)
  pub script : Has found (codes "script") (option_map (λ t. t.now) given.script)
  pub page : Has found (codes "page") (option_map (λ t. t.now) given.page)
  pub device : Has found (codes "device") (option_map (λ t. t.now) given.device)
  pub limit : Has found (codes "limit") (option_map (λ t. t.now) given.limit)
  pub trust : Sets found (codes "trust") given.trust

pub record IsReadIn (found : Found) (given : ReadArgs) : Type 0 where
  pub chip : IsChipIn found given.chip
  pub page : Has found (codes "page") (option_map (λ t. t.now) given.page)
  pub mode4 : Sets found (codes "mode4") given.mode4
  pub device : Has found (codes "device") (option_map (λ t. t.now) given.device)
  pub limit : Has found (codes "limit") (option_map (λ t. t.now) given.limit)
  pub tables : Has found (codes "tables") (option_map (λ t. t.now) given.tables)
  pub out : Has found (codes "out") (option_map (λ t. t.now) given.out)
  pub raw : Sets found (codes "raw") given.raw
  pub fresh : Sets found (codes "fresh") given.fresh
  pub any_size : Sets found (codes "any-size") given.any_size
  pub repeats : Sets found (codes "repeats") given.repeats
  pub expect_id : Has found (codes "expect-id") (option_map (λ t. t.now) given.expect_id)

-- --dry-run asks for the plan; compare has no such option
abbrev pub AimsIn : Found → Aim → Type 0
AimsIn found aim.Work = Sets found (codes "dry-run") false
AimsIn found aim.Plan = Sets found (codes "dry-run") true
AimsIn found aim.Compare = ⊤

pub record IsFlashIn (found : Found) (given : FlashArgs) : Type 0 where
  pub chip : IsChipIn found given.chip
  pub page : Has found (codes "page") (option_map (λ t. t.now) given.page)
  pub mode4 : Sets found (codes "mode4") given.mode4
  pub device : Has found (codes "device") (option_map (λ t. t.now) given.device)
  pub limit : Has found (codes "limit") (option_map (λ t. t.now) given.limit)
  pub image : IsImageIn found given.image
  pub layout : Has found (codes "layout") (option_map (λ t. t.now) given.layout)
  pub base : Has found (codes "base") (option_map (λ t. t.now) given.base)
  pub before : Has found (codes "before") (option_map (λ t. t.now) given.before)
  pub resume : Has found (codes "resume") (option_map (λ t. t.now) given.resume)
  pub erased_only : Sets found (codes "erased-only") given.erased_only
  pub strict : Sets found (codes "strict") given.strict
  pub partial : Sets found (codes "partial") given.partial
  pub beyond : Sets found (codes "beyond") given.beyond
  pub aim : AimsIn found given.aim
  pub all : Sets found (codes "all") given.all
  pub list : Sets found (codes "list") given.list
  pub near : Sets found (codes "near") given.near
  pub raw : Sets found (codes "raw") given.raw
  pub fresh : Sets found (codes "fresh") given.fresh
  pub any_size : Sets found (codes "any-size") given.any_size
  pub repeats : Sets found (codes "repeats") given.repeats
  pub expect_id : Has found (codes "expect-id") (option_map (λ t. t.now) given.expect_id)
  pub regions : given.regions.items ≡ texts_of found (codes "names")

pub record IsBuildIn (found : Found) (given : BuildArgs) : Type 0 where
  pub job : IsJobIn found given.job
  pub out : IsOutIn found (codes "out") given.out

pub record IsPlanIn (found : Found) (given : PlanArgs) : Type 0 where
  pub job : IsJobIn found given.job
  pub times : Sets found (codes "times") given.times
  pub regions : Sets found (codes "regions") given.regions
  pub map : IsOutIn found (codes "map") given.map

pub record IsCheckIn (found : Found) (given : CheckArgs) : Type 0 where
  pub job : IsJobIn found given.job
  pub script : Has found (codes "script") (option_map (λ t. t.now) given.script)
  pub witness : Sets found (codes "witness") given.witness

-- the command that has this aim, and a blank image or not
abbrev pub flash_name : Aim → Bool → List ℕ
flash_name aim.Compare blank = codes "compare"
flash_name aim.Work true = codes "erase"
flash_name aim.Plan true = codes "erase"
flash_name aim.Work false = codes "flash"
flash_name aim.Plan false = codes "flash"

-- the name of the command that is asked for
abbrev pub name_of : Asked → List ℕ
name_of (command.Build given) = codes "build"
name_of (command.Plan given) = codes "plan"
name_of (command.Check given) = codes "check"
name_of (command.Run given) = codes "run"
name_of (command.List given) = codes "list"
name_of (command.Draw given) = codes "draw"
name_of (command.Play given) = codes "play"
name_of (command.Read given) = codes "read"
name_of (command.Flash given) = flash_name given.aim given.blank
name_of (command.Sfdp given) = codes "sfdp"
name_of (command.Hex given) = codes "hex"
name_of (command.Script given) = codes "script"
name_of (command.Explain words) = codes "explain"
name_of (command.Help text) = codes "explain"

-- each value of what is asked for is that of the option of its name
abbrev pub IsAskedIn : Found → Asked → Type 0
IsAskedIn found (command.Build given) = IsBuildIn found given
IsAskedIn found (command.Plan given) = IsPlanIn found given
IsAskedIn found (command.Check given) = IsCheckIn found given
IsAskedIn found (command.Run given) = IsRunIn found given
IsAskedIn found (command.List given) = IsListIn found given
IsAskedIn found (command.Draw given) = IsDrawIn found given
IsAskedIn found (command.Play given) = IsPlayIn found given
IsAskedIn found (command.Read given) = IsReadIn found given
IsAskedIn found (command.Flash given) = IsFlashIn found given
IsAskedIn found (command.Sfdp given) = IsChipIn found given
IsAskedIn found (command.Hex given) = IsHexIn found given
IsAskedIn found (command.Script given) = IsScriptIn found given
IsAskedIn found (command.Explain words) = words.items ≡ texts_of found (codes "words")
IsAskedIn found (command.Help text) = asks_help (texts_of found (codes "words")) ≡ true

-- what is asked for is the command that was used, each value by the option of its name
pub record IsAsked (matches : ArgMatches) (asked : Asked) : Type 0 where
  pub found : Found
  pub used : subcommand_rows_of matches ≡ Some (name_of asked, rows_of found)
  pub so : IsAskedIn found asked
