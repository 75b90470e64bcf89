-- What the values of a command line of `flash` ask for (this project's).
use Rattle.std.specs.Prelude.{◌≡◌, ℕ, Bool, ◌&&◌, ◌||◌, not, true, false, if◌then◌else◌, Option, Some, None, option_map, unwrap_or, is_some, is_none, List, [], slice_get, codes}
use Rattle.nor_base.specs.Array.{is_filled}
use Rattle.norprog_common.specs.Image.{Image, fills_chip, image_in, images_in}
use Rattle.norprog_common.specs.Values.{base_of}
use Rattle.norprog_common.specs.declared.given.Aim.{Aim}
use Rattle.norprog_common.specs.declared.given.Aim.TheVariants.{Work, Plan, Compare}
use Rattle.norprog_common.specs.declared.given.FlashArgs.{FlashArgs}
use Rattle.norprog_common.specs.declared.given.ReadArgs.{ReadArgs}
use Rattle.norprog_common.specs.declared.rules.ImageRules.{ImageRules}
use Rattle.norprog_flash.specs.declared.request.FlashRequest.{FlashRequest}
use Rattle.norprog_read.specs.Request as read

-- the chip is read as by a command line of `read`, and what it holds is saved
abbrev pub read_args : FlashArgs → ReadArgs
read_args given = record {
  chip = given.chip;
  page = given.page;
  mode4 = given.mode4;
  device = given.device;
  limit = given.limit;
  tables = None;
  out = given.before;
  raw = given.raw;
  fresh = given.fresh;
  any_size = given.any_size;
  repeats = given.repeats;
  expect_id = given.expect_id;
}

-- what the image has to give: as many bytes as the chip has, where that is asked for; all of each named region and nothing off the chip,
-- except where the values allow that, or it is blank
abbrev pub rules_of : FlashArgs → ImageRules
rules_of given = record {
  exact = fills_chip given.image;
  strict = given.strict;
  full = not given.partial && not given.blank;
  inside = not given.beyond && not given.blank;
  lands = not given.blank;
}

-- either regions are named, or all of the chip is
abbrev pub is_said : Bool → List (List ℕ) → Bool
is_said true regions = not (is_filled regions)
is_said false regions = is_filled regions

-- the first file of the image that they name; none where each byte is to be FFh
abbrev pub asked_by : Bool → FlashArgs → Option (Option Image)
asked_by true given = if is_said given.all given.regions.items then Some None else None
asked_by false given = option_map (λ image. Some image) (slice_get (images_in given.image) 0)

abbrev pub asked_image : FlashArgs → Option (Option Image)
asked_image given = asked_by given.blank given

-- the base's digits, `0` where none are given
abbrev pub asked_base : FlashArgs → List ℕ
asked_base given = unwrap_or (option_map (λ t. t.now) given.base) (codes "0")

-- the name of the file that the content is saved in; none has to be named where it is only compared
abbrev pub before_by : Aim → Option (List ℕ) → Option (List ℕ)
before_by Compare name = Some []
before_by Work name = name
before_by Plan name = name

abbrev pub asked_before : FlashArgs → Option (List ℕ)
asked_before given = before_by given.aim (option_map (λ t. t.now) given.before)

-- all of the chip is read, or its own tables tell how much an erase changes
abbrev pub tells_its_blocks : FlashArgs → Bool
tells_its_blocks given = not given.near || is_none given.chip.uniform && is_none given.chip.sheet

-- so it is, the files that have to be named are, and each value is of its form
abbrev pub is_well_formed : FlashArgs → Bool
is_well_formed given =
    tells_its_blocks given && read.is_well_formed (read_args given) && is_some (asked_image given) && is_some (base_of (asked_base given)) && is_some (asked_before given)

-- each value is the one that its text spells
pub record AsksFor (given : FlashArgs) (request : FlashRequest) : Type 0 where
  pub read : read.AsksFor (read_args given) request.read
  pub image : asked_image given ≡ Some (option_map image_in request.image)
  pub images : request.images.now ≡ given.image
  pub layout : request.layout ≡ given.layout
  pub base : base_of (asked_base given) ≡ Some request.base
  pub before : asked_before given ≡ Some request.before.now
  pub resume : request.resume ≡ given.resume
  pub erased_only : request.erased_only ≡ given.erased_only
  pub rules : request.rules ≡ rules_of given
  pub near : request.near ≡ given.near
  pub aim : request.aim ≡ given.aim
  pub regions : request.regions.now ≡ given.regions.items
  pub texts : request.texts.now ≡ given
