-- What a sheet means (this project's): what isn't said is absent.
use Rattle.std.specs.Prelude.{ℕ, ◌==◌, ◌&&◌, ◌||◌, nat_lt, not, Bool, true, false, if◌then◌else◌, Option, Some, None, is_some, Result, Ok, Err, ◌++◌, sum_by}
use Rattle.std.specs.List.{list_any}
use Rattle.std.specs.Option.{option_map_or}
use Rattle.nor_base.specs.declared.meaning.Width.{Width}
use Rattle.nor_base.specs.declared.meaning.Width.TheVariants.{Three, Both, Four}
use Rattle.nor_base.specs.declared.meaning.Switch.{Switch}
use Rattle.nor_base.specs.declared.meaning.Switch.TheVariants.{Absent}
use Rattle.nor_base.specs.declared.meaning.Erase.{Erase}
use Rattle.nor_base.specs.declared.meaning.QuadRead.{QuadRead}
use Rattle.nor_base.specs.Parameters.{Parameters}
use Rattle.nor_base.specs.Instructions.{is_there, offered_opcodes, own_rows}
use Rattle.nor_base.specs.Accepted.{are_distinct, fixed_opcodes}
use Rattle.nor_sheet.specs.declared.fault.Lack.{Lack}
use Rattle.nor_sheet.specs.declared.fault.Lack.TheVariants as lack
use Rattle.nor_sheet.specs.declared.said.Page.{Page}
use Rattle.nor_sheet.specs.declared.said.Dedicated.{Dedicated}
use Rattle.nor_sheet.specs.Sheet.{Sheet}

-- the four-byte address instructions that are offered: none, where nothing is said of them
abbrev pub offered : Option Dedicated → Dedicated
offered None = record { read4 = false; quad_read4 = false; program4 = false; quad4 = false }
offered (Some dedicated) = dedicated

abbrev pub switch_of : Option Switch → Switch
switch_of None = Absent
switch_of (Some switch) = switch

abbrev pub quad_read_of : Option (Option QuadRead) → Option QuadRead
quad_read_of None = None
quad_read_of (Some read) = read

-- of size, page and address bytes that are said, and of the rest
abbrev pub parameters_by : Sheet → ℕ → Page → Width → Parameters
parameters_by s size page width = record {
  size = size;
  page = page.size;
  open_page = page.open_page;
  width = width;
  erases = s.kinds;
  regions = s.regions;
  enter = switch_of s.enter;
  leave = switch_of s.leave;
  quad_read = quad_read_of s.quad_read;
  read4 = (offered s.dedicated).read4;
  quad_read4 = (offered s.dedicated).quad_read4;
  program4 = (offered s.dedicated).program4;
  quad4 = (offered s.dedicated).quad4;
  quad3 = false;
  erased_only = false;
}

-- an erase kind whose blocks are smaller than a page
abbrev pub is_below : ℕ → Option Erase → Bool
is_below page slot = option_map_or (λ erase. nat_lt erase.size page) slot false

abbrev pub is_both : Width → Bool
is_both Both = true
is_both Three = false
is_both Four = false

-- the first thing, in this order, that the whole lacks to be a chip's meaning (`IsAccepted`)
abbrev pub lack_of : Parameters → Option Lack
lack_of m =
    if list_any (is_below m.page) m.erases then Some lack.Kind
    else if not (sum_by (λ region. region.size) m.regions == m.size) then Some lack.Regions
    else if (is_there m.enter || is_there m.leave) && not (is_both m.width) then Some lack.Mode
    else if m.quad_read4 && not (is_some m.quad_read) then Some lack.QuadRead
    else if not (are_distinct (fixed_opcodes ++ offered_opcodes (own_rows m false))) then Some lack.Opcode
    else None

abbrev pub unless : Parameters → Option Lack → Result Parameters Lack
unless m None = Ok m
unless m (Some lack) = Err lack

abbrev pub meaning_by : Sheet → Option ℕ → Option Page → Option Width → Result Parameters Lack
meaning_by s None page width = Err lack.Size
meaning_by s (Some size) None width = Err lack.Page
meaning_by s (Some size) (Some page) None = Err lack.Address
meaning_by s (Some size) (Some page) (Some width) = unless (parameters_by s size page width) (lack_of (parameters_by s size page width))

abbrev pub meaning_of : Sheet → Result Parameters Lack
meaning_of s = meaning_by s s.size s.page s.width
