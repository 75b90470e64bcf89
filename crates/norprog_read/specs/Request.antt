-- What the values of a command line of `read` ask for (this project's).
use Rattle.std.specs.Prelude.{◌≡◌, ℕ, Bool, false, not, ◌&&◌, ◌||◌, Option, Some, None, option_map, unwrap_or, is_some, is_none, if◌then◌else◌, List, [], codes}
use Rattle.std.specs.Str.{bytes_eq}
use Rattle.norprog_common.specs.Chip.{Origin, Sfdp, Sheet, Uniform, origin_of}
use Rattle.norprog_common.specs.Setup.{chip_asked, family_asked}
use Rattle.norprog_common.specs.Values.{limit_of, part_of, said_number, said_status}
use Rattle.norprog_common.specs.declared.given.ChipArgs.{ChipArgs}
use Rattle.norprog_common.specs.declared.given.ReadArgs.{ReadArgs}
use Rattle.norprog_read.specs.declared.asked.Ask.{Ask}
use Rattle.norprog_read.specs.declared.asked.Known.{Known}
use Rattle.norprog_read.specs.declared.asked.Known.TheVariants.{Own, Tables, Uniform as OfSize, Sheet as OfSheet}
use Rattle.norprog_read.specs.declared.request.ReadRequest.{ReadRequest}
use Rattle.norprog_device.specs.Shown.{registers}

-- the chip that is named, or that none is; None where it isn't of its form
abbrev pub named_chip : ChipArgs → Option (Option Origin)
named_chip given =
    if is_none given.sfdp && (is_none given.uniform && is_none given.sheet) then Some None
    else option_map (λ (origin : Origin). Some origin) (chip_asked given)

-- the configuration bits, and the limit's digits, `1000000` where none are given
abbrev pub asked_bits : ChipArgs → List ℕ
asked_bits given = unwrap_or (option_map (λ t. t.now) given.bits) []

abbrev pub asked_limit : ReadArgs → List ℕ
asked_limit given = unwrap_or (option_map (λ t. t.now) given.limit) (codes "1000000")

-- the identification that is expected, or that none is; None where it isn't of its form
abbrev pub expected_id : Option (List ℕ) → Option (Option (List ℕ))
expected_id text = option_map (λ value. option_map registers value) (said_status text)

-- two names are given, and are the same
abbrev pub are_same : Option (List ℕ) → Option (List ℕ) → Bool
are_same (Some one) (Some other) = bytes_eq one other
are_same one other = false

-- the outputs have different names, and no tables are saved of a chip of a size or a sheet
abbrev pub are_apart : ReadArgs → Bool
are_apart given =
    not (are_same (option_map (λ t. t.now) given.tables) (option_map (λ t. t.now) given.out))
    && not (is_some given.tables && (is_some given.chip.uniform || is_some given.chip.sheet))

-- so it is, a device is named, and each value is of its form
abbrev pub is_well_formed : ReadArgs → Bool
is_well_formed given =
    are_apart given && is_some (expected_id (option_map (λ t. t.now) given.expect_id)) && is_some (named_chip given.chip)
    && is_some (part_of (family_asked given.chip)) && is_some (said_number (option_map (λ t. t.now) given.page)) && is_some given.device && is_some (limit_of (asked_limit given))

-- each value is the one that its text spells
pub record AsksFor (given : ReadArgs) (request : ReadRequest) : Type 0 where
  pub chip : named_chip given.chip ≡ Some (option_map origin_of request.chip)
  pub bits : request.bits.now ≡ asked_bits given.chip
  pub part : part_of (family_asked given.chip) ≡ Some request.part
  pub page : said_number (option_map (λ t. t.now) given.page) ≡ Some request.page
  pub mode4 : request.mode4 ≡ given.mode4
  pub device : given.device ≡ Some request.device
  pub limit : limit_of (asked_limit given) ≡ Some request.limit
  pub tables : request.tables ≡ given.tables
  pub out : request.out ≡ given.out
  pub raw : request.raw ≡ given.raw
  pub fresh : request.fresh ≡ given.fresh
  pub any_size : request.any_size ≡ given.any_size
  pub repeats : request.repeats ≡ given.repeats
  pub expect_id : expected_id (option_map (λ t. t.now) given.expect_id) ≡ Some request.expect_id

-- the chip is known by its own tables, by those of a file, which are these bytes, by its size, or by its sheet, which is this text
abbrev pub IsKnownBy : Option Origin → List ℕ → Known → Type 0
IsKnownBy None file known = known ≡ Own
IsKnownBy (Some (Sfdp name bits)) file (Tables bytes) = bytes.now ≡ file
IsKnownBy (Some (Sfdp name bits)) file other = ⊥
IsKnownBy (Some (Uniform size)) file known = known ≡ OfSize size
IsKnownBy (Some (Sheet name)) file (OfSheet text) = text.now ≡ file
IsKnownBy (Some (Sheet name)) file other = ⊥

-- what is asked of a chip, each by the value of the request
pub record IsAskOf (request : ReadRequest) (file : List ℕ) (ask : Ask) : Type 0 where
  pub known : IsKnownBy (option_map origin_of request.chip) file ask.known
  pub bits : ask.bits.now ≡ request.bits.now
  pub part : ask.part ≡ request.part
  pub page : ask.page ≡ request.page
  pub mode4 : ask.mode4 ≡ request.mode4
  pub turns : ask.turns ≡ request.limit
  pub content : ask.content ≡ is_some request.out
  pub near : ask.near ≡ None
  pub raw : ask.raw ≡ request.raw
  pub fresh : ask.fresh ≡ request.fresh
  pub any_size : ask.any_size ≡ request.any_size
  pub repeats : ask.repeats ≡ request.repeats
  pub expect_id : ask.expect_id ≡ request.expect_id
