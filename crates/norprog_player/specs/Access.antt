-- By which instructions a chip is read (W25Q256JV datasheet: Read Data 03h, Read Data with 4-Byte Address 13h, Enter and Exit 4-Byte
-- Address Mode B7h and E9h).
use Rattle.std.specs.Prelude.{ℕ, true, false, ◌^◌, ◌&&◌, nat_lt, if◌then◌else◌, Option, Some, None}
use Rattle.nor_base.specs.declared.meaning.Start.{Start}
use Rattle.nor_base.specs.Chip.{begins4}
use Rattle.nor_base.specs.Instructions.{is_there}
use Rattle.nor_base.specs.Parameters.{Parameters}
use Rattle.nor_reader.specs.declared.by.ReadBy.{ReadBy}
use Rattle.nor_reader.specs.declared.by.ReadBy.TheVariants as by
use Rattle.norprog_player.specs.declared.access.Access.{Access}
use Rattle.norprog_player.specs.declared.access.Access.TheVariants.{Four, Dedicated, Entered, Near}

-- past 2^24 by 13h where the tables offer it, else in four-byte mode where that can be entered and left
abbrev pub access_of : Parameters → Start → Access
access_of m start =
    if begins4 m start then Four
    else (if m.read4 then Dedicated else (if is_there m.enter && is_there m.leave then Entered m.enter m.leave else Near))

-- where three address bytes don't reach
abbrev pub far_way : Access → Option ReadBy
far_way Dedicated = Some by.FourBytes
far_way (Entered enter leave) = Some (by.Entered enter leave)
far_way other = None

-- by which instruction a chip is read from an address on: by 03h with the address bytes of the mode that it begins in, as far as these reach
abbrev pub way_at : Access → ℕ → Option ReadBy
way_at Four address = Some (by.Content true)
way_at access address = if nat_lt address (2 ^ 24) then Some (by.Content false) else far_way access
