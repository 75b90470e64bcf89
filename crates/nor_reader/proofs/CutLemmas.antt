-- Pieces that are cut at known addresses.
use Rattle.std.proofs.Common.{inr, ◌≡◌, ◌<◌, ◌≤◌, ℕ, ◌+◌, ◌-◌, List, [], ◌∷◌, ◌++◌, length, take, drop, length-take, length-drop, append-nil, append_assoc, Option, Result, Ok, Err, refl, sym, ◌∙◌, ap, subst, arith}
use Rattle.std.specs.Prelude.{min, IfOk, MatchResult}
use Rattle.std.specs.List.{AllByRecursion, concat, slice_range}
use Rattle.std.proofs.lemmas.List.{take_all, take_at, take-append-drop, drop_at, nil_from_length, length-take-le, drop-append-le}
use Rattle.nor_base.specs.Device.{Ahead}
use Rattle.nor_base.specs.Wire.{wire}
use Rattle.nor_serprog.specs.declared.fault.Fault.{Fault}
use Rattle.nor_loop.specs.Log.{HasLogged}
use Rattle.nor_loop.specs.Reads.{chunk, Chunk}
use Rattle.nor_loop.proofs.DeviceLemmas.{logged_none, logged_both}
use Rattle.nor_reader.specs.declared.by.ReadBy.{ReadBy}
use Rattle.nor_reader.specs.declared.difference.Mismatch.{Mismatch}
use Rattle.nor_reader.specs.Cut.{shift, AreCut, HasReadCut, HasReadWholeCut, ReadApart}
use Rattle.nor_reader.specs.Reads.{read_op, reads, ops_from, HasReadChunk, HasReadOn, IsPiece, Reads}
use Rattle.nor_reader.specs.Switched.{enter_ops, leave_ops, Operates}
use Rattle.nor_reader.specs.Twice.{HasReadWhole, StopsFirst, Twice}
use Rattle.nor_reader.proofs.AgainLemmas.{slice_long, take_on}
use Rattle.nor_reader.proofs.PassLemmas.{ops_append, concat_append}
use Rattle.nor_reader.proofs.TwiceLemmas.{whole_logged}

-- bytes were read so far by such pieces, all of them whole, so that the next one has so many bytes
pub record IsCutSoFar (first most next : ℕ) (h i : Option (List ℕ)) (a b : Ahead) (by : ReadBy) (at : ℕ) (so_far : List ℕ) : Type 0 where
  pub pieces : List (List ℕ)
  pub whole : concat pieces ≡ so_far
  pub goes_on : (rest : List ℕ) (more : List (List ℕ)) → AreCut next most rest more → AreCut first most (so_far ++ rest) (pieces ++ more)
  pub wire : HasLogged (wire h a) (wire i b) (ops_from by at pieces)

-- none yet
pub none_cut : (first most : ℕ) (h : Option (List ℕ)) (a : Ahead) (by : ReadBy) (at : ℕ) → IsCutSoFar first most first h h a a by at []
none_cut first most h a by at = record { pieces = []; whole = refl; goes_on = λ rest more cut. cut; wire = logged_none h a }

-- one more in the log
more_logged : (h i j : Option (List ℕ)) (a b c : Ahead) (by : ReadBy) (at : ℕ) (pieces : List (List ℕ)) (so_far piece : List ℕ) → concat pieces ≡ so_far
    → HasLogged (wire h a) (wire i b) (ops_from by at pieces) → HasLogged (wire i b) (wire j c) (read_op by (at + length so_far) piece ∷ [])
    → HasLogged (wire h a) (wire j c) (ops_from by at (pieces ++ piece ∷ []))
more_logged h i j a b c by at pieces so_far piece whole logged more =
    subst (HasLogged (wire h a) (wire j c)) (sym (ops_append by at pieces (piece ∷ [])))
    (logged_both h i j a b c (ops_from by at pieces) (ops_from by (at + length (concat pieces)) (piece ∷ [])) logged
    (subst (λ (l : List ℕ). HasLogged (wire i b) (wire j c) (read_op by (at + length l) piece ∷ [])) (sym whole) more))

-- a whole piece more
pub cut_more : (first most next : ℕ) (h i j : Option (List ℕ)) (a b c : Ahead) (by : ReadBy) (at : ℕ) (so_far piece : List ℕ) → 0 < next
    → length piece ≡ next → IsCutSoFar first most next h i a b by at so_far → HasLogged (wire i b) (wire j c) (read_op by (at + length so_far) piece ∷ [])
    → IsCutSoFar first most most h j a c by at (so_far ++ piece)
cut_more first most next h i j a b c by at so_far piece some long cut more = record {
  pieces = cut.pieces ++ piece ∷ [];
  whole = concat_append cut.pieces (piece ∷ []) ∙ ap (λ (l : List ℕ). concat cut.pieces ++ l) (append-nil piece) ∙ ap (λ (l : List ℕ). l ++ piece) cut.whole;
  goes_on = λ rest others is.
      subst (λ (l : List ℕ). AreCut first most l ((cut.pieces ++ piece ∷ []) ++ others)) (sym (append_assoc so_far piece rest))
      (subst (AreCut first most (so_far ++ (piece ++ rest))) (sym (append_assoc cut.pieces (piece ∷ []) others))
      (cut.goes_on (piece ++ rest) (piece ∷ others)
      (omega (arith, some, long), sym (take_at piece rest next long), subst (λ (l : List ℕ). AreCut most most l others) (sym (drop_at piece rest next long)) is)));
  wire = more_logged h i j a b c by at cut.pieces so_far piece cut.whole cut.wire more;
}

-- the last piece
pub cut_last : (first most next : ℕ) (h i j : Option (List ℕ)) (a b c : Ahead) (by : ReadBy) (at : ℕ) (so_far piece : List ℕ) → 0 < length piece
    → length piece ≤ next → IsCutSoFar first most next h i a b by at so_far → HasLogged (wire i b) (wire j c) (read_op by (at + length so_far) piece ∷ [])
    → HasReadCut first (reads most by) (wire h a) (wire j c) (chunk at (so_far ++ piece))
cut_last first most next h i j a b c by at so_far piece some few cut more = record {
  pieces = cut.pieces ++ piece ∷ [];
  cut = cut.goes_on piece (piece ∷ []) (some, sym (take_all next piece few), nil_from_length (drop next piece) (omega (arith, length-drop next piece, few)));
  wire = more_logged h i j a b c by at cut.pieces so_far piece cut.whole cut.wire more;
}

-- so it is with bytes of which so many are read: they are cut so, and where more follow all pieces are whole
pub record IsCutTo (first most next size done : ℕ) (h i : Option (List ℕ)) (a b : Ahead) (by : ReadBy) (at : ℕ) (so_far : List ℕ) : Type 0 where
  pub some : 0 < next
  pub few : next ≤ most
  pub goes_on : done < size → IsCutSoFar first most next h i a b by at so_far
  pub cut : HasReadCut first (reads most by) (wire h a) (wire i b) (chunk at so_far)

pub cut_begins : (first most size : ℕ) (h : Option (List ℕ)) (a : Ahead) (by : ReadBy) (at start : ℕ) (so_far : List ℕ) → 0 < first → first ≤ most
    → so_far ≡ [] → IsCutTo first most first size start h h a a by at so_far
cut_begins first most size h a by at start so_far some few is = record {
  some = some;
  few = few;
  goes_on = λ more. subst (IsCutSoFar first most first h h a a by at) (sym is) (none_cut first most h a by at);
  cut = record { pieces = []; cut = is; wire = logged_none h a };
}

pub cut_on : (first most next size done len : ℕ) (h i j : Option (List ℕ)) (a b c : Ahead) (by : ReadBy) (at : ℕ) (so_far piece : List ℕ) → done < size
    → len ≡ min (size - done) next → length piece ≡ len → 0 < most → IsCutTo first most next size done h i a b by at so_far
    → HasLogged (wire i b) (wire j c) (read_op by (at + length so_far) piece ∷ []) → IsCutTo first most most size (done + len) h j a c by at (so_far ++ piece)
cut_on first most next size done len h i j a b c by at so_far piece within is long some cut more = record {
  some = some;
  few = omega arith;
  goes_on = λ left. cut_more first most next h i j a b c by at so_far piece cut.some (omega (arith, is, long, left)) (cut.goes_on within) more;
  cut = cut_last first most next h i j a b c by at so_far piece (omega (arith, is, long, within, cut.some)) (omega (arith, is, long)) (cut.goes_on within) more;
}

-- one piece more came again
pub again_cut : (first most next : ℕ) (h i j : Option (List ℕ)) (a b c : Ahead) (by : ReadBy) (at : ℕ) (bytes : List ℕ) (done len : ℕ) → done < length bytes
    → len ≡ min (length bytes - done) next → 0 < most → IsCutTo first most next (length bytes) done h i a b by at (take done bytes)
    → HasLogged (wire i b) (wire j c) (read_op by (at + done) (slice_range bytes done (done + len)) ∷ [])
    → IsCutTo first most most (length bytes) (done + len) h j a c by at (take (done + len) bytes)
again_cut first most next h i j a b c by at bytes done len within is some cut more =
    let piece = slice_range bytes done (done + len) in
    let long : length piece ≡ len = slice_long bytes done len (omega (arith, within, is)) in
    let front : done ≡ length (take done bytes) = sym (length-take-le done bytes (omega (arith, within))) in
    subst (λ (l : List ℕ). IsCutTo first most most (length bytes) (done + len) h j a c by at l) (sym (take_on bytes done len))
    (cut_on first most next (length bytes) done len h i j a b c by at (take done bytes) piece within is long some cut
    (subst (λ n. HasLogged (wire i b) (wire j c) (read_op by (at + n) piece ∷ [])) front more))

-- all came again
pub cut_all : (first most next : ℕ) (h i : Option (List ℕ)) (a b : Ahead) (by : ReadBy) (at : ℕ) (bytes : List ℕ) (done : ℕ) → length bytes ≤ done
    → IsCutTo first most next (length bytes) done h i a b by at (take done bytes) → HasReadCut first (reads most by) (wire h a) (wire i b) (chunk at bytes)
cut_all first most next h i a b by at bytes done ends cut = rw (take_all done bytes ends) at cut.cut

-- one piece more was read, after those from an address on
pub read_cut : (most size : ℕ) (h i j : Option (List ℕ)) (a b c : Ahead) (by : ReadBy) (start : ℕ) (old new piece : List ℕ) (done len : ℕ) → start ≤ done
    → done ≤ length old → done < size → len ≡ min (size - done) most → length piece ≡ len → 0 < most → take (done + len) new ≡ take done old ++ piece
    → IsCutTo most most most size done h i a b by start (drop start (take done old)) → HasLogged (wire i b) (wire j c) (read_op by done piece ∷ [])
    → IsCutTo most most most size (done + len) h j a c by start (drop start (take (done + len) new))
read_cut most size h i j a b c by start old new piece done len after within left is long some put cut more =
    let first : length (take done old) ≡ done = length-take-le done old within in
    let front : done ≡ start + length (drop start (take done old)) = omega (arith, length-drop start (take done old), first, after) in
    let joined : drop start (take done old) ++ piece ≡ drop start (take (done + len) new) =
    sym (drop-append-le start (take done old) piece (omega (arith, first, after))) ∙ ap (drop start) (sym put) in
    subst (λ (l : List ℕ). IsCutTo most most most size (done + len) h j a c by start l) joined
    (cut_on most most most size done len h i j a b c by start (drop start (take done old)) piece left is long some cut
    (subst (λ n. HasLogged (wire i b) (wire j c) (read_op by n piece ∷ [])) front more))

-- nothing after an address yet
pub nothing_cut : (start : ℕ) (bytes : List ℕ) → drop start (take start bytes) ≡ []
nothing_cut start bytes = nil_from_length (drop start (take start bytes)) (omega (arith, length-drop start (take start bytes), length-take start bytes))

-- bytes that are cut so are read
cut_filled : (first most : ℕ) (bytes : List ℕ) (pieces : List (List ℕ)) → first ≤ most → AreCut first most bytes pieces → AllByRecursion (IsPiece most) pieces
cut_filled first most bytes [] few cut = tt
cut_filled first most bytes (piece ∷ pieces) few cut =
    ((cut.0, omega (arith, ap length cut.1, length-take first bytes, few)), cut_filled most most (drop first bytes) pieces (omega arith) cut.2)

cut_whole : (first most : ℕ) (bytes : List ℕ) (pieces : List (List ℕ)) → AreCut first most bytes pieces → concat pieces ≡ bytes
cut_whole first most bytes [] cut = sym cut
cut_whole first most bytes (piece ∷ pieces) cut =
    ap (λ (l : List ℕ). l ++ concat pieces) cut.1 ∙ ap (λ (l : List ℕ). take first bytes ++ l) (cut_whole most most (drop first bytes) pieces cut.2)
    ∙ take-append-drop first bytes

pub cut_read : (first : ℕ) (r : Reads) (h i : Option (List ℕ)) (a b : Ahead) (x : Chunk) → first ≤ r.most → HasReadCut first r (wire h a) (wire i b) x
    → HasReadChunk r (wire h a) (wire i b) x
cut_read first r h i a b x few read = record {
  pieces = read.pieces;
  filled = cut_filled first r.most x.bytes read.pieces few read.cut;
  whole = cut_whole first r.most x.bytes read.pieces read.cut;
  wire = read.wire;
}

-- so are those that follow others
pub cut_reads_on : (r : Reads) (h i : Option (List ℕ)) (a b : Ahead) (start : ℕ) (old now : List ℕ) → start ≤ length old → take start now ≡ take start old
    → HasReadCut r.most r (wire h a) (wire i b) (chunk start (drop start now)) → HasReadOn r (wire h a) (wire i b) (take start old) now
cut_reads_on r h i a b start old now within kept cut =
    let read = cut_read r.most r h i a b (chunk start (drop start now)) (omega arith) cut in
    record {
      pieces = read.pieces;
      filled = read.filled;
      whole = ap (λ (l : List ℕ). l ++ concat read.pieces) (sym kept) ∙ ap (λ (l : List ℕ). take start now ++ l) read.whole ∙ take-append-drop start now;
      wire = subst (λ n. HasLogged (wire h a) (wire i b) (ops_from r.by n read.pieces)) (sym (length-take-le start old within)) read.wire;
    }

-- a reading by such pieces, in four-byte mode where that is the way
pub first_by : (r : Reads) (h i j k : Option (List ℕ)) (a b c d : Ahead) (x : Chunk) (left : Result (Unit {0}) Fault) → HasLogged (wire h a) (wire i b) (enter_ops r.by)
    → HasReadCut r.most r (wire i b) (wire j c) x → Operates (wire j c) (wire k d) left (leave_ops r.by)
    → MatchResult left (λ u. HasReadWhole r (wire h a) (wire k d) x) (StopsFirst r (wire h a) (wire k d) x)
first_by r h i j k a b c d x (Ok u) entered cut left =
    record { held = i; ahead = b; entered = entered; rest = record { held = j; ahead = c; first = cut_read r.most r i j b c x (omega arith) cut; rest = left } }
first_by r h i j k a b c d x (Err why) entered cut left =
    inr (inr (record { held = i; ahead = b; entered = entered; rest = record { held = j; ahead = c; first = cut_read r.most r i j b c x (omega arith) cut; rest = left } }))

-- and two are two
pub apart_by : (t : Twice) (h i j : Option (List ℕ)) (a b c : Ahead) (x : Chunk) (r : Result (Unit {0}) Mismatch)
    → HasReadWholeCut t.first.most t.first (wire h a) (wire i b) x
    → IfOk r (λ u. HasReadWholeCut (min shift t.again.most) t.again (wire i b) (wire j c) x)
    → IfOk r (λ u. ReadApart t (wire h a) (wire j c) x)
apart_by t h i j a b c x (Ok u) one two =
    let first = one.rest.first in
    let again = two.rest.first in
    let log = ops_from t.first.by x.at first.pieces in
    let log_again = ops_from t.again.by x.at again.pieces in
    record {
      first = enter_ops t.first.by ++ (log ++ leave_ops t.first.by);
      second = enter_ops t.again.by ++ (log_again ++ leave_ops t.again.by);
      reads = record { pieces = first.pieces; cut = first.cut; those = refl };
      rereads = record { pieces = again.pieces; cut = again.cut; those = refl };
      wire = logged_both h i j a b c _ _ (whole_logged t.first.by (λ u v. HasReadCut t.first.most t.first u v x) log h i a b one first.wire)
          (whole_logged t.again.by (λ u v. HasReadCut (min shift t.again.most) t.again u v x) log_again i j b c two again.wire);
    }
apart_by t h i j a b c x (Err why) one two = tt
