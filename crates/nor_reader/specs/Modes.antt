-- What a chip gives to reads, in whichever address mode it is (W25Q256JV datasheet: Read Data 03h takes the address bytes of the current
-- address mode, Read Data with 4-Byte Address 13h four in either, the highest first; then the byte of that address comes out, and on).
use Rattle.std.specs.Prelude.{◌≡◌, ◌≤◌, ◌<◌, ℕ, zero, suc, Bool, true, ◌+◌, ◌-◌, ◌*◌, ◌^◌, ◌==◌, if◌then◌else◌, List, ◌++◌, length, slice_index, drop}
use Rattle.nor_base.specs.Array.{are_bytes}
use Rattle.nor_base.specs.Instructions.{by_mode}
use Rattle.nor_loop.specs.Log.{Operation}

-- the address that the first so many bytes are, the highest first
abbrev pub address_of : ℕ → List ℕ → ℕ
address_of zero bytes = 0
address_of (suc n) bytes = slice_index bytes 0 * 2 ^ (8 * n) + address_of n (drop 1 bytes)

-- how many bytes a chip takes as the address of a read, by its mode and the opcode
abbrev pub address_width : Bool → ℕ → ℕ
address_width mode4 op = if op == 0x13 then 4 else by_mode mode4

-- a chip in this mode, which has such a byte at each address, may give these in a read. On its input come the bytes that follow the opcode,
-- and then whatever the programmer drives while it samples. The first of all these are the address; what comes out before it is whole
-- means nothing; then byte after byte comes out, from that address on
pub record MayGive (holds : ℕ → ℕ) (mode4 : Bool) (o : Operation) : Type 0 where
  pub driven : List ℕ
  pub bytes : are_bytes driven ≡ true
  pub each : length driven ≡ length o.got
  pub gives : (j : ℕ) → j < length o.got → address_width mode4 (slice_index o.sent 0) ≤ length (drop 1 o.sent) + j
      → slice_index o.got j
      ≡ holds (address_of (address_width mode4 (slice_index o.sent 0)) (drop 1 o.sent ++ driven)
      + (length (drop 1 o.sent) + j - address_width mode4 (slice_index o.sent 0)))
