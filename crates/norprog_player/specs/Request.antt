-- What the values of a command line of `play` ask for (this project's).
use Rattle.std.specs.Prelude.{◌≡◌, ℕ, Bool, ◌&&◌, None, Some, option_map, unwrap_or, is_some, List, codes}
use Rattle.norprog_common.specs.Setup.{is_setup, AsksSetup}
use Rattle.norprog_common.specs.Values.{limit_of, said_number}
use Rattle.norprog_common.specs.declared.given.PlayArgs.{PlayArgs}
use Rattle.norprog_player.specs.declared.request.PlayRequest.{PlayRequest}

-- the limit's digits, `1000000` where none are given
abbrev pub asked_limit : PlayArgs → List ℕ
asked_limit given = unwrap_or (option_map (λ t. t.now) given.limit) (codes "1000000")

-- the files that have to be named are, and each value is of its form
abbrev pub is_well_formed : PlayArgs → Bool
is_well_formed given =
    is_setup given.setup && is_some (said_number (option_map (λ t. t.now) given.page)) && is_some given.content && is_some given.script && is_some given.device && is_some (limit_of (asked_limit given))

-- each value is the one that its text spells
pub record AsksFor (given : PlayArgs) (request : PlayRequest) : Type 0 where
  pub setup : AsksSetup given.setup (record request.setup { page = None })
  pub page : said_number (option_map (λ t. t.now) given.page) ≡ Some request.setup.page
  pub content : given.content ≡ Some request.content
  pub script : given.script ≡ Some request.script
  pub device : given.device ≡ Some request.device
  pub limit : limit_of (asked_limit given) ≡ Some request.limit
  pub trust : request.trust ≡ given.trust
