-- Pieces are reads one after the other.
use Rattle.std.proofs.Common.{◌≡◌, ℕ, ◌+◌, ◌-◌, ◌<◌, ◌≤◌, List, [], ◌∷◌, ◌++◌, length, take, drop, length-drop, Option, refl, sym, ◌∙◌, ap, subst, arith, append-nil, append_assoc, length-append}
use Rattle.std.proofs.lemmas.List.{length-take-le}
use Rattle.std.proofs.lemmas.Slice.{take-put_mid}
use borrow.Rule.Slice.PartMut.{put_mid, post_of}
use Rattle.std.specs.List.{concat}
use Rattle.nor_base.specs.Device.{Ahead}
use Rattle.nor_base.proofs.ListLaws.{all_append}
use Rattle.nor_base.specs.Wire.{wire}
use Rattle.nor_serprog.specs.declared.fault.Fault.{Fault}
use Rattle.nor_loop.specs.Log.{HasLogged}
use Rattle.nor_loop.specs.Reads.{chunk, Chunk}
use Rattle.nor_loop.proofs.DeviceLemmas.{logged_none, logged_both}
use Rattle.nor_reader.specs.declared.by.ReadBy.{ReadBy}
use Rattle.nor_reader.specs.Reads.{read_op, reads, ops_from, HasReadOn, IsPiece, Reads, StopsPiece, StopsOn}

-- pieces that follow other pieces
pub ops_append : (by : ReadBy) (at : ℕ) (xs ys : List (List ℕ)) → ops_from by at (xs ++ ys) ≡ ops_from by at xs ++ ops_from by (at + length (concat xs)) ys
ops_append by at [] ys = let same : at ≡ at + 0 = omega arith in ap (λ n. ops_from by n ys) same
ops_append by at (x ∷ xs) ys =
    let same : at + length x + length (concat xs) ≡ at + length (x ++ concat xs) = omega (arith, length-append x (concat xs)) in
    ap (λ log. read_op by at x ∷ log)
    (ops_append by (at + length x) xs ys ∙ ap (λ n. ops_from by (at + length x) xs ++ ops_from by n ys) same)

pub concat_append : (xs ys : List (List ℕ)) → concat (xs ++ ys) ≡ concat xs ++ concat ys
concat_append [] ys = refl
concat_append (x ∷ xs) ys = ap (λ rest. x ++ rest) (concat_append xs ys) ∙ sym (append_assoc x (concat xs) (concat ys))

-- nothing was read yet
pub nothing_read : (r : Reads) (h : Option (List ℕ)) (a : Ahead) (front : List ℕ) → HasReadOn r (wire h a) (wire h a) front front
nothing_read r h a front = record { pieces = []; filled = tt; whole = append-nil front; wire = logged_none h a }

-- bytes were read, and those that follow them
pub read_both : (r : Reads) (h i j : Option (List ℕ)) (a b c : Ahead) (front mid bytes : List ℕ) → HasReadOn r (wire h a) (wire i b) front mid
    → HasReadOn r (wire i b) (wire j c) mid bytes → HasReadOn r (wire h a) (wire j c) front bytes
read_both r h i j a b c front mid bytes one two =
    let long : length mid ≡ length front + length (concat one.pieces) = ap length (sym one.whole) ∙ length-append front (concat one.pieces) in
    record {
      pieces = one.pieces ++ two.pieces;
      filled = all_append (IsPiece r.most) one.pieces two.pieces one.filled two.filled;
      whole = ap (λ rest. front ++ rest) (concat_append one.pieces two.pieces) ∙ sym (append_assoc front (concat one.pieces) (concat two.pieces))
          ∙ ap (λ m. m ++ concat two.pieces) one.whole ∙ two.whole;
      wire = subst (HasLogged (wire h a) (wire j c))
          (ap (λ n. ops_from r.by (length front) one.pieces ++ ops_from r.by n two.pieces) long ∙ sym (ops_append r.by (length front) one.pieces two.pieces))
          (logged_both h i j a b c _ _ one.wire two.wire);
    }

-- one piece
pub one_piece : (r : Reads) (h i : Option (List ℕ)) (a b : Ahead) (front piece : List ℕ) → 0 < length piece → length piece ≤ r.most
    → HasLogged (wire h a) (wire i b) (read_op r.by (length front) piece ∷ []) → HasReadOn r (wire h a) (wire i b) front (front ++ piece)
one_piece r h i a b front piece some few wire =
    record { pieces = piece ∷ []; filled = ((some, few), tt); whole = ap (λ rest. front ++ rest) (append-nil piece); wire = wire }

-- the exchange of a read of so many bytes, which are no more than the most, is one of a read of no more than the most
pub stops_within : (r : Reads) (len : ℕ) (h i : Option (List ℕ)) (a b : Ahead) (got : Chunk) (why : Fault) → len ≤ r.most
    → StopsPiece (reads len r.by) (wire h a) (wire i b) got why → StopsPiece r (wire h a) (wire i b) got why
stops_within r len h i a b got why few stop = (stop.0, omega (arith, few, stop.1), stop.2)

-- its exchange ended so
pub piece_stops : (r : Reads) (h i j : Option (List ℕ)) (a b c : Ahead) (front old got : List ℕ) (done : ℕ) (why : Fault)
    → done ≤ length old → length got ≤ r.most → HasReadOn r (wire h a) (wire i b) front (take done old) → StopsPiece (reads (length got) r.by) (wire i b) (wire j c) (chunk done got) why
    → StopsOn r (wire h a) (wire j c) front why
piece_stops r h i j a b c front old got done why within few read stop =
    let long : length (take done old) ≡ done = length-take-le done old within in
    record {
      so_far = take done old;
      held = i;
      ahead = b;
      read = read;
      got = got;
      stop = subst (λ n. StopsPiece r (wire i b) (wire j c) (chunk n got) why) (sym long) (stops_within r (length got) i j b c (chunk done got) why few stop);
    }

-- what follows bytes that were read stopped
pub stops_after : (r : Reads) (h i j : Option (List ℕ)) (a b c : Ahead) (front mid : List ℕ) (why : Fault)
    → HasReadOn r (wire h a) (wire i b) front mid → StopsOn r (wire i b) (wire j c) mid why → StopsOn r (wire h a) (wire j c) front why
stops_after r h i j a b c front mid why one two = record {
  so_far = two.so_far;
  held = two.held;
  ahead = two.ahead;
  read = read_both r h i two.held a b two.ahead front mid two.so_far one two.read;
  got = two.got;
  stop = two.stop;
}

-- a piece is put into its place
pub record IsPut (old new piece : List ℕ) (done len : ℕ) : Type 0 where
  pub size : length new ≡ length old
  pub front : take (done + len) new ≡ take done old ++ piece

pub put_piece : (old piece : List ℕ) (done len : ℕ) → done + len ≤ length old → length piece ≡ len → IsPut old (put_mid done (done + len - done) old piece) piece done len
put_piece old piece done len fits long =
    let first : length (take done old) ≡ done = length-take-le done old (omega arith) in
    let last = length-drop (done + len - done) (drop done old) in
    record {
      size = omega (arith, length-append (take done old) (piece ++ post_of done (done + len - done) old), length-append piece (post_of done (done + len - done) old), first, last, length-drop done old, long, fits);
      front = take-put_mid done (done + len - done) old piece (done + len) (omega (arith, long)) (omega (arith, fits));
    }
