-- What the values of a command line of `hex` ask for (this project's).
use Rattle.std.specs.Prelude.{◌≡◌, ℕ, Bool, ◌&&◌, List, Option, Some, None, option_map, is_some}
use Rattle.norprog_common.specs.Values.{base_of}
use Rattle.norprog_common.specs.declared.given.HexArgs.{HexArgs}
use Rattle.norprog_named.specs.declared.hex_request.HexRequest.{HexRequest}

-- the address that a text spells, if one is given
abbrev pub said_address : Option (List ℕ) → Option ℕ
said_address None = None
said_address (Some text) = base_of text

abbrev pub asked_at : HexArgs → Option ℕ
asked_at given = said_address (option_map (λ t. t.now) given.at)

-- both files are named, and the address is of its form
abbrev pub is_well_formed : HexArgs → Bool
is_well_formed given = is_some given.bin && is_some (asked_at given) && is_some given.out

-- each value is the one that its text spells
pub record AsksFor (given : HexArgs) (request : HexRequest) : Type 0 where
  pub bin : given.bin ≡ Some request.bin
  pub at : asked_at given ≡ Some request.at
  pub out : given.out ≡ Some request.out
