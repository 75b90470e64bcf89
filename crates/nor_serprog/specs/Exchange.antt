-- What one command with its answer is to a device (this project's; the bytes are the Serial Flasher Protocol's).
use Rattle.std.specs.Prelude.{◌≡◌, ◌≢◌, ◌<◌, ℕ, ◌+◌, ◌==◌, ◌&&◌, if◌then◌else◌, List, [], ◌∷◌, ◌++◌, length, take, slice_index, Option, Result, Ok, Err}
use Rattle.std.specs.Io.KnownBytes.{Appends}
use Rattle.nor_base.specs.Device.{Ahead, Gives, IsAtEnd, Cuts, one_more}
use Rattle.nor_base.specs.Wire.{Wire}
use Rattle.nor_serprog.specs.declared.fault.Fault.{Fault}
use Rattle.nor_serprog.specs.declared.fault.Fault.TheVariants as fault
use Rattle.nor_serprog.specs.declared.fault.Reason.{Reason}
use Rattle.nor_serprog.specs.declared.fault.Reason.TheVariants as reason
use Rattle.nor_serprog.specs.Protocol.{ACK, NAK, answer}

-- bytes went out, and bytes came in
pub record Talked (before after : Wire) (put given : List ℕ) : Type 0 where
  pub out : Appends before.held after.held put
  pub back : Gives before.ahead given after.ahead

-- a buffer was filled, or so much of it before the reader ended or failed
abbrev pub Fills : Ahead → Ahead → Result (Unit {0}) Fault → List ℕ → Type 0
Fills before after (Ok u) got = Gives before got after
Fills before after (Err fault.Silent) got = (n : ℕ) × (n < length got) × Gives before (take n got) after × IsAtEnd after
Fills before after (Err fault.Read) got = (n : ℕ) × (n < length got) × Gives before (take n got) after
Fills before after (Err other) got = ⊥

-- in place of the bytes that were wanted NAK came; or another byte in place of one of them; or less before the reader ended or failed
abbrev pub Misses : Ahead → Ahead → Fault → List ℕ → Type 0
Misses before after fault.Nak want = (NAK ≢ slice_index want 0) × Gives before (NAK ∷ []) after
Misses before after fault.Differs want =
    (n : ℕ) × (byte : ℕ) × (n < length want) × (byte ≢ slice_index want n) × (n ≡ 0 → byte ≢ NAK)
    × Gives before (take n want ++ byte ∷ []) after
Misses before after fault.Silent want = (n : ℕ) × (n < length want) × Gives before (take n want) after × IsAtEnd after
Misses before after fault.Read want = (n : ℕ) × (n < length want) × Gives before (take n want) after
Misses before after fault.Write want = ⊥

-- just the bytes came that were wanted
abbrev pub Meets : Ahead → Ahead → Result (Unit {0}) Fault → List ℕ → Type 0
Meets before after (Ok u) want = Gives before want after
Meets before after (Err why) want = Misses before after why want

-- NAK in place of the first byte is a refusal
abbrev pub other_byte : ℕ → ℕ → Fault
other_byte place byte = if (place == 0) && (byte == NAK) then fault.Nak else fault.Differs

-- ACK came, and the bytes that fill a buffer; or NAK; or another byte in place of these; or less before the reader ended or failed
abbrev pub Answers : Ahead → Ahead → Result (Unit {0}) Fault → List ℕ → Type 0
Answers before after (Err fault.Nak) got = Gives before (NAK ∷ []) after
Answers before after (Err fault.Differs) got = (byte : ℕ) × (byte ≢ ACK) × (byte ≢ NAK) × Gives before (byte ∷ []) after
Answers before after result got = Fills before after result (answer got)

-- a command went out whole, and then came what is said of its answer; or its writer failed in it, and nothing was taken
abbrev pub Asks : Wire → Wire → Result (Unit {0}) Fault → List ℕ → Type 0 → Type 0
Asks before after (Err fault.Write) command Answered =
    Cuts before.held after.held command × (after.ahead ≡ before.ahead)
Asks before after result command Answered = Appends before.held after.held command × Answered

-- the reader's count of failures rises by one exactly at Read, the writer's exactly at Write
abbrev pub CountsReads : {T : Type 0} → ℕ → ℕ → Result T Fault → Type 0
CountsReads before after (Err fault.Read) = after ≡ one_more before
CountsReads before after other = after ≡ before

abbrev pub CountsWrites : {T : Type 0} → ℕ → ℕ → Result T Fault → Type 0
CountsWrites before after (Err fault.Write) = after ≡ one_more before
CountsWrites before after other = after ≡ before

-- of bytes that came this is the first that is another than what was wanted
pub record IsOther (got want : List ℕ) (place byte : ℕ) : Type 0 where
  pub within : place < length want
  pub alike : take place got ≡ take place want
  pub byte_is : byte ≡ slice_index got place
  pub other : byte ≢ slice_index want place

-- bytes are those that were wanted, or which of them is the first other, its place counted from a start
abbrev pub Compares : List ℕ → List ℕ → ℕ → Result (Unit {0}) Reason → Type 0
Compares got want start (Ok u) = got ≡ want
Compares got want start (Err (reason.Differs place byte)) = (n : ℕ) × (place ≡ start + n) × IsOther got want n byte
Compares got want start (Err other) = ⊥

-- as many bytes came as were wanted, and these are compared; or less before the reader ended or failed
abbrev pub TakesAsMany : Ahead → Ahead → Result (Unit {0}) Reason → List ℕ → Type 0
TakesAsMany before after (Err (reason.Exchange why)) want = (got : List ℕ) × (length got ≡ length want) × Fills before after (Err why) got
TakesAsMany before after result want = (got : List ℕ) × (length got ≡ length want) × Compares got want 0 result × Gives before got after

-- ACK came, then as many bytes as were wanted, of which this is the first that is another
pub record GivesOther (before after : Ahead) (want : List ℕ) (place byte : ℕ) : Type 0 where
  pub got : List ℕ
  pub as_many : length got ≡ length want
  pub within : place < length want
  pub alike : take place got ≡ take place want
  pub byte_is : byte ≡ slice_index got place
  pub other : byte ≢ slice_index want place
  pub gives : Gives before (answer got) after

-- what an answer that is known says
abbrev pub AnswersKnown : Ahead → Ahead → Result (Unit {0}) Reason → List ℕ → Type 0
AnswersKnown before after (Ok u) want = Gives before (answer want) after
AnswersKnown before after (Err (reason.Differs place byte)) want = GivesOther before after want place byte
AnswersKnown before after (Err (reason.Exchange why)) want =
    (got : List ℕ) × (length got ≡ length want) × Answers before after (Err why) got
AnswersKnown before after (Err reason.Busy) want = ⊥
AnswersKnown before after (Err reason.Carried) want = ⊥

-- what an operation whose answer is known says
abbrev pub Knows : Wire → Wire → Result (Unit {0}) Reason → List ℕ → List ℕ → Type 0
Knows before after (Ok u) command want =
    Appends before.held after.held command × Gives before.ahead (answer want) after.ahead
Knows before after (Err (reason.Differs place byte)) command want =
    Appends before.held after.held command × GivesOther before.ahead after.ahead want place byte
Knows before after (Err (reason.Exchange why)) command want =
    (got : List ℕ) × (length got ≡ length want)
    × Asks before after (Err why) command (Answers before.ahead after.ahead (Err why) got)
Knows before after (Err reason.Busy) command want = ⊥
Knows before after (Err reason.Carried) command want = ⊥
