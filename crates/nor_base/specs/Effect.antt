-- What one instruction does to a chip, or which wrong it is (W25Q256JV datasheet: Write Enable 06h, Write Disable 04h, Page
-- Program 02h with its wrap, Sector and Block Erase, Read Data 03h, Read Status Register-1 05h; this project's: which wrong each misuse is, and that a set latch may stay or go where the address mode
-- is entered or left).
use Rattle.std.specs.Prelude.{ℕ, zero, suc, pred, Bool, true, false, ◌+◌, ◌-◌, ◌%◌, ◌==◌, nat_le, nat_lt, not, ◌&&◌, ◌||◌, if◌then◌else◌, List, [], length, replicate, Option, Some, None, Result, Ok, Err, slice_index, slice_range, bit_and, drop}
use Rattle.std.specs.Option.{option_map_or}
use Rattle.nor_base.specs.declared.meaning.Switch.{Switch}
use Rattle.nor_base.specs.declared.meaning.Switch.TheVariants.{Latched}
use Rattle.nor_base.specs.declared.instruction.What.{What}
use Rattle.nor_base.specs.declared.instruction.What.TheVariants as what
use Rattle.nor_base.specs.declared.wrong.Wrong.{Wrong}
use Rattle.nor_base.specs.declared.wrong.Wrong.TheVariants as wrong
use Rattle.nor_base.specs.Parameters.{Parameters, block_size}
use Rattle.nor_base.specs.Decoding.{Instruction, decode}
use Rattle.nor_base.specs.Blocks.{is_legal}
use Rattle.nor_base.specs.Array.{each, some}
use Rattle.nor_base.specs.Chip.{Setting, Chip, is_busy}

abbrev pub is_broken : What → Bool
is_broken what.Broken = true
is_broken other = false

abbrev pub is_status : What → Bool
is_status what.Status = true
is_status other = false

abbrev pub is_quad : What → Bool
is_quad what.QuadProgram = true
is_quad what.QuadRead = true
is_quad other = false

abbrev pub is_program : What → Bool
is_program what.Program = true
is_program what.QuadProgram = true
is_program other = false

abbrev pub is_read : What → Bool
is_read what.Read = true
is_read what.QuadRead = true
is_read other = false

abbrev pub has_address : What → Bool
has_address (what.Erase kind) = true
has_address other = is_program other || is_read other

-- a change of mode that is taken only after a write enable
abbrev pub is_latched : Switch → Bool
is_latched Latched = true
is_latched other = false

-- the chip takes it only with the latch set
abbrev pub needs_latch : Parameters → What → Bool
needs_latch m (what.Erase kind) = true
needs_latch m what.Enter = is_latched m.enter
needs_latch m what.Leave = is_latched m.leave
needs_latch m other = is_program other

-- an erase from an address where no legal block of its kind starts
abbrev pub starts_no_block : Parameters → What → ℕ → Bool
starts_no_block m (what.Erase kind) address = not (is_legal m kind address)
starts_no_block m other address = false

-- an address at or past the size, a byte read past the size, or an erase that starts no legal block of its kind
unfoldable pub is_out_of_range : Parameters → Instruction → Bool
is_out_of_range m i =
    (has_address i.what && nat_le m.size i.address)
    || ((is_read i.what && nat_lt m.size (i.address + i.asked))
    || starts_no_block m i.what i.address)

-- the first address of the page that holds an address
abbrev pub page_start : ℕ → ℕ → ℕ
page_start page address = address - address % page

-- where byte j of a program at an address goes: on from the address, and round within its page
abbrev pub place : ℕ → ℕ → ℕ → ℕ
place page address j = (address - address % page) + (address + j) % page

-- the last of the first n bytes that goes to x
unfoldable pub last_byte_for : ℕ → ℕ → List ℕ → ℕ → ℕ → Option ℕ
last_byte_for page address bytes zero x = None
last_byte_for page address bytes (suc j) x =
    if place page address j == x then Some (slice_index bytes j) else last_byte_for page address bytes j x

-- the byte that a program of these bytes writes at x, if any
abbrev pub written : ℕ → ℕ → List ℕ → ℕ → Option ℕ
written page address bytes x = last_byte_for page address bytes (length bytes) x

-- a byte may be programmed over the one that is there: a program only clears bits; where only erased bytes may be
-- programmed, it is done over FFh alone
abbrev pub may_program : Parameters → ℕ → ℕ → Bool
may_program m old byte = if m.erased_only then old == 255 else bit_and old byte == byte

-- a program of these bytes may not be done over this array: some byte that it writes may not be programmed there
unfoldable pub is_barred : Parameters → ℕ → ℕ → List ℕ → List ℕ → Bool
is_barred m page address bytes array = some (λ x old. option_map_or (λ byte. not (may_program m old byte)) (written page address bytes x) false) array

-- which wrong such a program is
abbrev pub barred : Parameters → Wrong
barred m = if m.erased_only then wrong.NotErased else wrong.Raised

-- the array after a program: each byte that it writes AND what was there
unfoldable pub programmed : ℕ → ℕ → List ℕ → List ℕ → List ℕ
programmed page address bytes array = each (λ x old. option_map_or (bit_and old) (written page address bytes x) old) array

-- the array after an erase: FFh over the block
unfoldable pub erased : ℕ → ℕ → List ℕ → List ℕ
erased start size array = each (λ x old. if nat_le start x && nat_lt x (start + size) then 255 else old) array

-- the chip after a program or an erase: latch clear, busy for the next of the busy times, 0 past their end
abbrev pub accepting : Chip → List ℕ → Chip
accepting c array = record c { array = array; latch = false; left = slice_index c.to_come 0; to_come = drop 1 c.to_come }

-- the chip after a change of the address mode: a set latch stays where the chip keeps it
abbrev pub switching : Setting → Chip → Bool → Chip
switching s c mode4 = record c { mode4 = mode4; latch = c.latch && s.keeps }

-- the chip after an instruction that it takes
unfoldable pub after : Setting → Chip → Instruction → What → Chip
after s c i what.Enable = record c { latch = true }
after s c i what.Disable = record c { latch = false }
after s c i what.Status = record c { left = pred c.left }
after s c i what.Enter = switching s c true
after s c i what.Leave = switching s c false
after s c i (what.Erase kind) = accepting c (erased i.address (block_size s.meaning kind) c.array)
after s c i what.Program = accepting c (programmed s.page i.address i.sent c.array)
after s c i what.QuadProgram = accepting c (programmed s.page i.address i.sent c.array)
after s c i other = c

-- the status byte: 03h while busy, else 02h with the latch set, else 00h
abbrev pub status : Chip → ℕ
status c = if is_busy c.left then 3 else (if c.latch then 2 else 0)

-- the bytes that an instruction gives
unfoldable pub answer : Chip → Instruction → What → List ℕ
answer c i what.Status = replicate i.asked (status c)
answer c i what.Read = slice_range c.array i.address (i.address + i.asked)
answer c i what.QuadRead = slice_range c.array i.address (i.address + i.asked)
answer c i other = []

-- the effect of an instruction, by the first line that applies: the chip after it and the bytes that it gives, or the
-- wrong, which changes nothing
unfoldable pub effect_of : Setting → Chip → Instruction → Result (Chip × List ℕ) Wrong
effect_of s c i =
    if is_broken i.what then Err wrong.Ignored
    else if not (is_status i.what) && is_busy c.left then Err wrong.Ignored
    else if is_quad i.what && not s.start.quad then Err wrong.Ignored
    else if needs_latch s.meaning i.what && not c.latch then Err wrong.Ignored
    else if is_out_of_range s.meaning i then Err wrong.OutOfRange
    else if is_program i.what && is_barred s.meaning s.page i.address i.sent c.array then Err (barred s.meaning)
    else Ok (after s c i i.what, answer c i i.what)

abbrev pub effect_if : Setting → Chip → Option Instruction → Result (Chip × List ℕ) Wrong
effect_if s c None = Err wrong.Unknown
effect_if s c (Some i) = effect_of s c i

-- the effect of a transaction
unfoldable pub effect : Setting → Chip → List ℕ → Result (Chip × List ℕ) Wrong
effect s c clocks = effect_if s c (decode s.meaning c.mode4 clocks)

-- which wrong it was, if any
abbrev pub wrong_of : Result (Chip × List ℕ) Wrong → Option Wrong
wrong_of (Ok after) = None
wrong_of (Err why) = Some why
