-- Operations that change nothing of what a chip holds (JEDEC: Read Identification 9Fh; JESD216B: Read SFDP 5Ah, and a register that moves all
-- addresses, C8h or 16h; W25Q256JV datasheet: Read Status Register-1 05h, -2 35h, -3 15h, Read Data 03h, Read Data with 4-Byte Address 13h,
-- Write Enable 06h, Write Disable 04h, Enter and Exit 4-Byte Address Mode B7h, E9h).
use Rattle.std.specs.Prelude.{◌≡◌, ◌⊎◌, ◌==◌, ℕ, Bool, true, false, List, [], ◌∷◌, length, flat_map, Option}
use Rattle.std.specs.Io.KnownBytes.{Appends}
use Rattle.std.specs.List.{AllByRecursion, list_any}
use Rattle.nor_base.specs.Device.{Cuts}
use Rattle.nor_serprog.specs.Protocol.{request}
use Rattle.nor_loop.specs.Log.{Operation, IsShort}

-- the opcodes that erase and program nothing
abbrev pub harmless_opcodes : List ℕ
harmless_opcodes = 0x9F ∷ 0x05 ∷ 0x35 ∷ 0x15 ∷ 0xC8 ∷ 0x16 ∷ 0x5A ∷ 0x03 ∷ 0x13 ∷ 0x06 ∷ 0x04 ∷ 0xB7 ∷ 0xE9 ∷ []

-- what is sent begins with one of them
abbrev pub is_harmless : List ℕ → Bool
is_harmless [] = false
is_harmless (opcode ∷ rest) = list_any (λ other. opcode == other) harmless_opcodes

-- so of an operation, and a request has room for it
pub record IsHarmless (o : Operation) : Type 0 where
  pub short : IsShort o
  pub begins : is_harmless o.sent ≡ true

-- the bytes that ask a device for operations
abbrev pub requests : List Operation → List ℕ
requests ops = flat_map (λ o. request o.sent (length o.got)) ops

-- just such operations were asked for
pub record HasSentHarmless (held_before held_after : Option (List ℕ)) : Type 0 where
  pub ops : List Operation
  pub each : AllByRecursion IsHarmless ops
  pub out : Appends held_before held_after (requests ops)

-- just such operations were asked for, or a part of that went out, from the beginning on
pub record SendsHarmless (held_before held_after : Option (List ℕ)) : Type 0 where
  pub ops : List Operation
  pub each : AllByRecursion IsHarmless ops
  pub out : Appends held_before held_after (requests ops) ⊎ Cuts held_before held_after (requests ops)
