-- What two readings say of the chip (this project's).
use Rattle.std.specs.Prelude.{◌≡◌, ◌≤◌, ℕ, ◌+◌, ◌^◌, true, false, List, length, Option}
use Rattle.nor_base.specs.declared.meaning.Start.{Start}
use Rattle.nor_base.specs.Chip.{begins4}
use Rattle.nor_base.specs.Device.{Ahead}
use Rattle.nor_base.specs.Parameters.{Parameters}
use Rattle.nor_base.specs.Wire.{Wire, wire}
use Rattle.nor_loop.specs.Laws.{IsReadable, ReadTwice as KnowsTwice}
use Rattle.nor_loop.specs.Reads.{Chunk}
use Rattle.nor_reader.specs.declared.by.ReadBy.{ReadBy}
use Rattle.nor_reader.specs.declared.by.ReadBy.TheVariants.{Tables, Content, FourBytes, Entered}
use Rattle.nor_base.specs.Instructions.{is_there}
use Rattle.nor_reader.specs.Twice.{ReadTwice, Twice}

-- a chip of the meaning and the start gives its content by these reads
abbrev pub GivesBy : Parameters → Start → ReadBy → Type 0
GivesBy m start Tables = ⊥
GivesBy m start (Content mode4) = (mode4 ≡ begins4 m start) × IsReadable m start
GivesBy m start FourBytes = m.read4 ≡ true
GivesBy m start (Entered enter leave) =
    (enter ≡ m.enter) × (leave ≡ m.leave) × (is_there m.enter ≡ true) × (is_there m.leave ≡ true) × (begins4 m start ≡ false)

-- what went over the wire is two logs, each of which reads a chunk: every ready chip of the meaning and the start that explains one
-- held just its bytes there, and each that has them explains it
abbrev pub KnowsContent : Wire → Wire → Parameters → Start → Chunk → Type 0
KnowsContent before after m start c = KnowsTwice before after m start c

-- so it is where they came twice alike, however many bytes each read asked for
abbrev pub TwiceKnows : Type 0
TwiceKnows = (t : Twice) (held_before held_after : Option (List ℕ)) (ahead_before ahead_after : Ahead) (m : Parameters) (start : Start)
    (c : Chunk) → m.size ≤ 2 ^ 32 → c.at + length c.bytes ≤ m.size → GivesBy m start t.first.by → GivesBy m start t.again.by
    → ReadTwice t (wire held_before ahead_before) (wire held_after ahead_after) c
    → KnowsContent (wire held_before ahead_before) (wire held_after ahead_after) m start c
