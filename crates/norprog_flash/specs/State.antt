-- What is written of a chip that may hold a part of the work: how to go on (this project's).
use Rattle.std.specs.Prelude.{ℕ, Bool, true, false, List, [], ◌∷◌, ◌++◌, flat_map, codes, Option, Some, None, option_map, unwrap_or}
use Rattle.std.specs.List.{concat}
use Rattle.norprog_common.specs.declared.given.FlashArgs.{FlashArgs}
use Rattle.norprog_device.specs.Setting.{stty_command}
use Rattle.norprog_device.specs.Shell.{shell_word}
use Rattle.norprog_flash.specs.declared.options.Name.{Name}
use Rattle.norprog_flash.specs.declared.options.Name.TheVariants as name
use Rattle.norprog_flash.specs.declared.options.Given.{Given}
use Rattle.norprog_flash.specs.declared.options.Given.TheVariants.{Text, Each, Flag, Next}

-- an option's name
abbrev pub name_text : Name → List ℕ
name_text name.Sfdp = codes "sfdp"
name_text name.Uniform = codes "uniform"
name_text name.Sheet = codes "sheet"
name_text name.Bits = codes "bits"
name_text name.Part = codes "part"
name_text name.Page = codes "page"
name_text name.Mode4 = codes "mode4"
name_text name.Device = codes "device"
name_text name.Limit = codes "limit"
name_text name.Hex = codes "hex"
name_text name.Bin = codes "bin"
name_text name.Layout = codes "layout"
name_text name.Base = codes "base"
name_text name.All = codes "all"
name_text name.ErasedOnly = codes "erased-only"
name_text name.Strict = codes "strict"
name_text name.Partial = codes "partial"
name_text name.Beyond = codes "beyond"
name_text name.Near = codes "near"
name_text name.Raw = codes "raw"
name_text name.Fresh = codes "fresh"
name_text name.AnySize = codes "any-size"
name_text name.Repeats = codes "repeats"
name_text name.ExpectId = codes "expect-id"
name_text name.Resume = codes "resume"
name_text name.Before = codes "before"

abbrev pub option_front : Name → List ℕ
option_front name = codes " --" ++ (name_text name ++ codes "=")

-- an option as it is given, with something after its value; nothing where it isn't given
abbrev pub valued : Name → Option (List ℕ) → List ℕ → List ℕ
valued name (Some value) after = option_front name ++ (shell_word value ++ after)
valued name None after = []

abbrev pub flagged : Name → Bool → List ℕ
flagged name true = codes " --" ++ name_text name
flagged name false = []

abbrev pub given_text : Given → List ℕ
given_text (Text name value) = valued name (option_map (λ t. t.now) value) []
given_text (Each name values) = flat_map (λ value. valued name (Some value.now) []) values.now
given_text (Flag name is) = flagged name is
given_text (Next name value) = valued name (option_map (λ t. t.now) value) (codes ".2")

-- the file that has what the chip held before the first try: that of --resume, where one is named, else that of --before
abbrev pub first_name : FlashArgs → List ℕ
first_name given = unwrap_or (option_map (λ t. t.now) given.resume) (unwrap_or (option_map (λ t. t.now) given.before) [])

-- the options of the command that goes on: those that are given, --resume of that file, and --before of a new one, whose name is that of
-- the last one and `.2`
abbrev pub next_options : FlashArgs → List ℕ
next_options given = concat (
    valued name.Sfdp (option_map (λ t. t.now) given.chip.sfdp) []
    ∷ valued name.Uniform (option_map (λ t. t.now) given.chip.uniform) []
    ∷ valued name.Sheet (option_map (λ t. t.now) given.chip.sheet) []
    ∷ valued name.Bits (option_map (λ t. t.now) given.chip.bits) []
    ∷ valued name.Part (option_map (λ t. t.now) given.chip.part) []
    ∷ valued name.Page (option_map (λ t. t.now) given.page) []
    ∷ flagged name.Mode4 given.mode4
    ∷ valued name.Device (option_map (λ t. t.now) given.device) []
    ∷ valued name.Limit (option_map (λ t. t.now) given.limit) []
    ∷ flat_map (λ value. valued name.Hex (Some value.now) []) given.image.hex.items
    ∷ flat_map (λ value. valued name.Bin (Some value.now) []) given.image.bin.items
    ∷ valued name.Layout (option_map (λ t. t.now) given.layout) []
    ∷ valued name.Base (option_map (λ t. t.now) given.base) []
    ∷ flagged name.All given.all
    ∷ flagged name.ErasedOnly given.erased_only
    ∷ flagged name.Strict given.strict
    ∷ flagged name.Partial given.partial
    ∷ flagged name.Beyond given.beyond
    ∷ flagged name.Near given.near
    ∷ flagged name.Raw given.raw
    ∷ flagged name.Fresh given.fresh
    ∷ flagged name.AnySize given.any_size
    ∷ flagged name.Repeats given.repeats
    ∷ valued name.ExpectId (option_map (λ t. t.now) given.expect_id) []
    ∷ valued name.Resume (Some (first_name given)) []
    ∷ valued name.Before (option_map (λ t. t.now) given.before) (codes ".2")
    ∷ []
    )

-- the names of the regions after `--`; nothing where there are none
abbrev pub region_word : List ℕ → List ℕ
region_word region = codes " " ++ shell_word region

abbrev pub named_text : List (List ℕ) → List ℕ
named_text regions = codes " --" ++ flat_map region_word regions

abbrev pub regions_text : List (List ℕ) → List ℕ
regions_text [] = []
regions_text (region ∷ more) = named_text (region ∷ more)

-- the command that goes on
abbrev pub command_word : Bool → List ℕ
command_word true = codes "norprog erase"
command_word false = codes "norprog flash"

abbrev pub next_command : FlashArgs → List ℕ
next_command given = command_word given.blank ++ (next_options given ++ regions_text given.regions.items)

-- what sets the terminal of the device, where one is named
abbrev pub set_text : Option (List ℕ) → List ℕ
set_text (Some device) = stty_command device ++ codes " && "
set_text None = []

-- that, and the command
abbrev pub way_on : FlashArgs → List ℕ
way_on given = set_text (option_map (λ t. t.now) given.device) ++ next_command given

-- the file that has what the chip held, and how to go on
abbrev pub state_front : List ℕ → List ℕ
state_front first =
    codes "norprog: the chip is half done, and what it held is in "
    ++ (first ++ codes ". See: norprog explain the chip may hold. Switch its power off and on, and go on with: ")

abbrev pub state_line : FlashArgs → List ℕ
state_line given = state_front (first_name given) ++ (way_on given ++ codes "\n")
