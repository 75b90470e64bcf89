-- The bytes of an SPI operation (flashrom's Serial Flasher Protocol Specification, version 1, command 13h, O_SPIOP).
use Rattle.std.specs.Prelude.{ℕ, ◌/◌, ◌%◌, List, [], ◌∷◌, ◌++◌, length}

-- a command was done; it was refused
abbrev pub ACK : ℕ
ACK = 0x06

abbrev pub NAK : ℕ
NAK = 0x15

-- a number below 2^24, the lowest byte first
abbrev pub three_bytes : ℕ → List ℕ
three_bytes n = n % 256 ∷ n / 256 % 256 ∷ n / 65536 % 256 ∷ []

-- the command, how many bytes go out, how many come in
unfoldable pub head : ℕ → ℕ → List ℕ
head sent asked = 0x13 ∷ (three_bytes sent ++ three_bytes asked)

-- and the bytes that go out
abbrev pub request : List ℕ → ℕ → List ℕ
request sent asked = head (length sent) asked ++ sent

-- what a command that was done is answered by
abbrev pub answer : List ℕ → List ℕ
answer got = ACK ∷ got
