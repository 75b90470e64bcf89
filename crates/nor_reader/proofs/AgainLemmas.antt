-- Pieces that are read again.
use Rattle.std.proofs.Common.{◌≡◌, ℕ, ◌+◌, ◌-◌, ◌<◌, ◌≤◌, List, ◌++◌, length, take, drop, length-drop, Option, sym, ◌∙◌, ap, arith}
use Rattle.std.specs.List.{slice_range}
use Rattle.std.proofs.Math.Seq.{take-add}
use Rattle.std.proofs.lemmas.List.{length-take-le}
use Rattle.nor_base.specs.Device.{Ahead}
use Rattle.nor_base.specs.Wire.{wire}
use Rattle.nor_reader.specs.declared.difference.Mismatch.{Mismatch}
use Rattle.nor_reader.specs.declared.difference.Mismatch.TheVariants.{Exchange, Differs}
use Rattle.nor_loop.specs.Reads.{chunk, Chunk}
use Rattle.nor_reader.specs.Reads.{reads, HasReadChunk, Reads}
use Rattle.nor_reader.specs.Again.{MissesPiece, MissesOn}
use Rattle.nor_reader.proofs.PassLemmas.{stops_within}

pub slice_long : (bytes : List ℕ) (start len : ℕ) → start + len ≤ length bytes → length (slice_range bytes start (start + len)) ≡ len
slice_long bytes start len within =
    let long : start + len - start ≡ len = omega arith in
    ap (λ n. length (take n (drop start bytes))) long
    ∙ length-take-le len (drop start bytes) (let left = length-drop start bytes in omega (arith, left, within))

pub take_on : (bytes : List ℕ) (done len : ℕ) → take (done + len) bytes ≡ take done bytes ++ slice_range bytes done (done + len)
take_on bytes done len =
    let count : done + len - done ≡ len = omega arith in
    take-add done len bytes ∙ ap (λ n. take done bytes ++ take n (drop done bytes)) (sym count)

-- a read of so many bytes, which are no more than the most, ended so
pub misses_within : (r : Reads) (len : ℕ) (h i : Option (List ℕ)) (a b : Ahead) (want : Chunk) (why : Mismatch) → len ≤ r.most
    → MissesPiece (reads len r.by) (wire h a) (wire i b) want why → MissesPiece r (wire h a) (wire i b) want why
misses_within r len h i a b want (Exchange why) few miss = (miss.0, miss.1, stops_within r len h i a b (chunk want.at miss.0) why few miss.2)
misses_within r len h i a b want (Differs d) few miss = record {
  short = miss.short;
  few = omega (arith, few, miss.few);
  out = miss.out;
  place = miss.place;
  other = miss.other;
  address = miss.address;
  wanted = miss.wanted;
}

-- one piece more didn't come again
pub again_not : (r : Reads) (h i j : Option (List ℕ)) (a b c : Ahead) (at : ℕ) (bytes : List ℕ) (done len : ℕ) (why : Mismatch)
    → done + len ≤ length bytes → 0 < len → len ≤ r.most → HasReadChunk r (wire h a) (wire i b) (chunk at (take done bytes))
    → MissesPiece (reads (length (slice_range bytes done (done + len))) r.by) (wire i b) (wire j c) (chunk (at + done) (slice_range bytes done (done + len))) why
    → MissesOn r (wire h a) (wire j c) (chunk at bytes) why
again_not r h i j a b c at bytes done len why within some few read stop =
    let piece = slice_range bytes done (done + len) in
    let long : length piece ≡ len = slice_long bytes done len within in
    record {
      at = done;
      len = len;
      some = some;
      within = within;
      held = i;
      ahead = b;
      alike = read;
      stop = misses_within r (length piece) i j b c (chunk (at + done) piece) why (omega (arith, long, few)) stop;
    }
