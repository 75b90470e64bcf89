-- What the values of a command line ask for (this project's).
use Rattle.std.specs.Prelude.{◌≡◌, ℕ, Bool, ◌&&◌, Option, Some, option_map, unwrap_or, is_some, List, slice_get, codes}
use Rattle.norprog_common.specs.declared.given.Given.{Given}
use Rattle.norprog_common.specs.declared.request.Request.{Request}
use Rattle.norprog_common.specs.Image.{Image, fills_chip, image_in, images_in}
use Rattle.norprog_common.specs.Rules.{job_rules}
use Rattle.norprog_common.specs.Values.{part_of, base_of, said_number, said_status}
use Rattle.norprog_common.specs.Chip.{origin_of, chosen_origin, Origin}

-- the chip that the options name
abbrev pub asked_chip : Given → Option Origin
asked_chip given =
    chosen_origin (option_map (λ t. t.now) given.sfdp) (option_map (λ t. t.now) given.uniform) (option_map (λ t. t.now) given.sheet)
    (option_map (λ t. t.now) given.bits)

-- the first file of the image that they name
abbrev pub asked_image : Given → Option Image
asked_image given = slice_get (images_in given.image) 0

-- the family's name, `generic` where none is given
abbrev pub asked_part : Given → List ℕ
asked_part given = unwrap_or (option_map (λ t. t.now) given.part) (codes "generic")

-- the base's digits, `0` where none are given
abbrev pub asked_base : Given → List ℕ
asked_base given = unwrap_or (option_map (λ t. t.now) given.base) (codes "0")

-- the files that have to be named are, and each value is of its form
abbrev pub is_well_formed : Given → Bool
is_well_formed given =
    is_some (asked_image given) && is_some (asked_chip given) && is_some (part_of (asked_part given))
    && is_some (said_status (option_map (λ t. t.now) given.status)) && is_some (base_of (asked_base given))
    && is_some (said_number (option_map (λ t. t.now) given.page)) && is_some given.content

-- each value is the one that its text spells
pub record AsksFor (given : Given) (request : Request) : Type 0 where
  pub image : asked_image given ≡ Some (image_in request.image)
  pub images : request.images ≡ given.image
  pub layout : request.layout ≡ given.layout
  pub chip : asked_chip given ≡ Some (origin_of request.chip)
  pub part : part_of (asked_part given) ≡ Some request.part
  pub status : said_status (option_map (λ t. t.now) given.status) ≡ Some request.status
  pub mode4 : request.mode4 ≡ given.mode4
  pub quad : request.quad ≡ given.quad
  pub base : base_of (asked_base given) ≡ Some request.base
  pub content : given.content ≡ Some request.content
  pub verify : request.verify ≡ given.verify
  pub erased_only : request.erased_only ≡ given.erased_only
  pub page : said_number (option_map (λ t. t.now) given.page) ≡ Some request.page
  pub rules : request.rules ≡ job_rules given.strict given.whole (fills_chip given.image)
  pub regions : request.regions ≡ given.regions
