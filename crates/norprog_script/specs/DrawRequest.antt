-- What the values of a command line of `draw` ask for (this project's).
use Rattle.std.specs.Prelude.{◌≡◌, ℕ, Bool, ◌&&◌, Option, Some, option_map, unwrap_or, is_some, codes}
use Rattle.norprog_common.specs.Values.{decimal_of, said_number}
use Rattle.norprog_common.specs.declared.given.DrawArgs.{DrawArgs}
use Rattle.norprog_script.specs.declared.draw_request.DrawRequest.{DrawRequest}

-- the number of the first step, `0` where none is given
abbrev pub asked_from : DrawArgs → Option ℕ
asked_from given = decimal_of (unwrap_or (option_map (λ t. t.now) given.from) (codes "0"))

abbrev pub asked_count : DrawArgs → Option (Option ℕ)
asked_count given = said_number (option_map (λ t. t.now) given.steps)

-- both files are named, and each value is of its form
abbrev pub is_well_formed : DrawArgs → Bool
is_well_formed given = is_some given.script && is_some given.out && is_some (asked_from given) && is_some (asked_count given)

-- each value is the one that its text spells
pub record AsksFor (given : DrawArgs) (request : DrawRequest) : Type 0 where
  pub script : given.script ≡ Some request.script
  pub out : given.out ≡ Some request.out
  pub from : asked_from given ≡ Some request.from
  pub count : asked_count given ≡ Some request.count
