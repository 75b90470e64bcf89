-- Values of the definitions, worked out by hand, on chips of 16 bytes that have at each address its number.
use Rattle.std.specs.Prelude.{◌≡◌, ℕ, ◌%◌, true, false, List, [], ◌∷◌}
use Rattle.nor_loop.specs.Log.{Operation}
use Rattle.nor_reader.specs.Cut.{AreCut}
use Rattle.nor_reader.specs.Modes.{address_of, MayGive}
use Rattle.nor_reader.specs.Telling.{HasPeriod}

-- the first three and four of these bytes as an address
abbrev pub Addresses : Type 0
Addresses = address_of 3 (1 ∷ 2 ∷ 3 ∷ 4 ∷ []) ∷ address_of 4 (1 ∷ 2 ∷ 3 ∷ 4 ∷ []) ∷ [] ≡ 0x010203 ∷ 0x01020304 ∷ []

-- the chip goes on at 0 after its last byte
abbrev pub counted : ℕ → ℕ
counted x = x % 16

abbrev pub of : List ℕ → List ℕ → Operation
of sent got = record { sent = sent; got = got }

-- in the mode that is said it gives what it has; from address 14 on
abbrev pub RightMode : Type 0
RightMode = MayGive counted false (of (0x03 ∷ 0 ∷ 0 ∷ 14 ∷ []) (14 ∷ 15 ∷ 0 ∷ []))

-- asked from address 1 on by three address bytes in four-byte mode, with FFh driven, it takes the address 1FFh: a byte that means
-- nothing, then 15, and from 0 on
abbrev pub ThreeForFour : Type 0
ThreeForFour = MayGive counted true (of (0x03 ∷ 0 ∷ 0 ∷ 1 ∷ []) (0xAA ∷ 15 ∷ 0 ∷ 1 ∷ []))

-- asked from address 100h on by four address bytes in three-byte mode it takes the address 1, and gives its byte in the time of the fourth
abbrev pub FourForThree : Type 0
FourForThree = MayGive counted false (of (0x03 ∷ 0 ∷ 0 ∷ 1 ∷ 0 ∷ []) (2 ∷ 3 ∷ 4 ∷ []))

-- whatever is driven, it gives no two bytes that aren't one after the other
abbrev pub NoOther : Type 0
NoOther = MayGive counted true (of (0x03 ∷ 0 ∷ 0 ∷ 1 ∷ []) (0xAA ∷ 15 ∷ 1 ∷ [])) → ⊥

-- pieces that begin only one byte further on would tell nothing, where FFh is driven first and 00h then: these two reads from 0 and from 1
-- on are alike, and wrong
abbrev pub OneByteIsTooFew : Type 0
OneByteIsTooFew =
    MayGive counted true (of (0x03 ∷ 0 ∷ 0 ∷ 0 ∷ []) (9 ∷ 15 ∷ 0 ∷ 1 ∷ 2 ∷ 3 ∷ 4 ∷ 5 ∷ []))
    × MayGive counted true (of (0x03 ∷ 0 ∷ 0 ∷ 1 ∷ []) (15 ∷ 0 ∷ 1 ∷ 2 ∷ 3 ∷ 4 ∷ 5 ∷ 6 ∷ []))

-- six bytes, the first two by themselves and the others by three
abbrev pub SixCut : Type 0
SixCut = AreCut 2 3 (1 ∷ 2 ∷ 3 ∷ 4 ∷ 5 ∷ 6 ∷ []) ((1 ∷ 2 ∷ []) ∷ (3 ∷ 4 ∷ 5 ∷ []) ∷ (6 ∷ []) ∷ [])

-- a period, and none
abbrev pub PeriodOfTwo : Type 0
PeriodOfTwo = HasPeriod 2 (1 ∷ 2 ∷ 1 ∷ 2 ∷ 1 ∷ []) × (HasPeriod 2 (1 ∷ 2 ∷ 1 ∷ 3 ∷ []) → ⊥)
