-- Pieces of the tables, read one after the other.
use Rattle.std.proofs.Common.{◌≡◌, ℕ, ◌+◌, ◌-◌, ◌<◌, ◌≤◌, ◌⊎◌, inl, inr, List, [], ◌∷◌, ◌++◌, take, drop, length, Option, Err, sym, ◌∙◌, ap, subst, arith, length-drop}
use Rattle.std.specs.List.{slice_range}
use Rattle.std.proofs.lemmas.Bool.{cases_lt}
use Rattle.std.proofs.lemmas.List.{length-take-le}
use Rattle.std.proofs.lemmas.List.Elements.{All-nil, All-push}
use Rattle.nor_base.specs.Device.{Ahead}
use Rattle.nor_base.specs.Wire.{wire}
use Rattle.nor_serprog.specs.declared.limits.Limits.{Limits}
use Rattle.nor_serprog.specs.Protocol.{answer}
use Rattle.nor_serprog.specs.Exchange.{Talked}
use Rattle.nor_reader.specs.declared.difference.Mismatch.{Mismatch}
use Rattle.nor_reader.specs.declared.difference.Mismatch.TheVariants.{Exchange, Differs}
use Rattle.nor_reader.specs.Pieces.{Piece, LiesIn, LiesInOne, AreInOrder, bytes_in}
use Rattle.nor_reader.specs.Known.{read_of, most_of, HasComparedTo, HasReached, HasAnother, Compares, ComparesPiece, piece_at}
use Rattle.nor_reader.proofs.StatusLemmas.{nothing_talked, talked_of}

in_one_more : (ps : List Piece) (p : Piece) (a : ℕ) → LiesInOne (ps ++ p ∷ []) a → LiesInOne ps a ⊎ LiesIn p a
in_one_more [] p a (inl h) = inr h
in_one_more [] p a (inr h) = absurd h
in_one_more (x ∷ xs) p a (inl h) = inl (inl h)
in_one_more (x ∷ xs) p a (inr h) = elim (in_one_more xs p a h) [ inl i ↦ inl (inr i) | inr i ↦ inr i ]

in_one_kept : (ps : List Piece) (p : Piece) (a : ℕ) → LiesInOne ps a → LiesInOne (ps ++ p ∷ []) a
in_one_kept [] p a h = absurd h
in_one_kept (x ∷ xs) p a (inl h) = inl h
in_one_kept (x ∷ xs) p a (inr h) = inr (in_one_kept xs p a h)

in_one_last : (ps : List Piece) (p : Piece) (a : ℕ) → LiesIn p a → LiesInOne (ps ++ p ∷ []) a
in_one_last [] p a h = inl h
in_one_last (x ∷ xs) p a h = inr (in_one_last xs p a h)

in_order_more : (low high higher : ℕ) (ps : List Piece) (p : Piece) → AreInOrder low high ps → high ≤ p.start → 0 < p.len → p.start + p.len ≤ higher
    → AreInOrder low higher (ps ++ p ∷ [])
in_order_more low high higher [] p order past some upto = (omega arith, some, upto)
in_order_more low high higher (x ∷ xs) p order past some upto = (order.0, order.1, in_order_more (x.start + x.len) high higher xs p order.2 past some upto)

-- nothing was read yet
pub none_compared : (held : Option (List ℕ)) (a : Ahead) (limits : Limits) (tables : List ℕ) → HasComparedTo (wire held a) (wire held a) limits tables 0
none_compared held a limits tables = record {
  pieces = [];
  in_order = omega arith;
  just = λ k. ((λ h. absurd h), (λ (h : k < 0). absurd (omega (arith, h))));
  few = All-nil (λ (p : Piece). p.len ≤ most_of limits);
  read = nothing_talked held a;
}

-- one piece more
pieces_more : {h m h' : Option (List ℕ)} {a b a' : Ahead} (limits : Limits) (tables : List ℕ) (p : Piece) → HasReached (wire h a) (wire m b) limits tables p
    → Talked (wire m b) (wire h' a') (read_of p) (answer (bytes_in tables p)) → HasComparedTo (wire h a) (wire h' a') limits tables (p.start + p.len)
pieces_more limits tables p reached talked =
    let so_far = reached.before in
    record {
      pieces = so_far.pieces ++ p ∷ [];
      in_order = in_order_more 0 p.start (p.start + p.len) so_far.pieces p so_far.in_order (omega arith) reached.some (omega arith);
      just = λ k. (
        (λ h. elim (in_one_more so_far.pieces p k h) [
          | inl before ↦ let below = (so_far.just k).0 before in omega (arith, below)
          | inr here ↦ here.1
        ]),
        (λ (h : k < p.start + p.len). elim (cases_lt k p.start) [
          | inl below ↦ in_one_kept so_far.pieces p k ((so_far.just k).1 below)
          | inr past ↦ in_one_last so_far.pieces p k (past, h)
        ]),
      );
      few = All-push (λ (x : Piece). x.len ≤ most_of limits) so_far.pieces p so_far.few reached.few;
      read = talked_of read_of (λ (x : Piece). answer (bytes_in tables x)) so_far.pieces p so_far.read talked;
    }

slice_of : (content : List ℕ) (start len : ℕ) → start + len ≤ length content → length (slice_range content start (start + len)) ≡ len
slice_of content start len within =
    let long : start + len - start ≡ len = omega arith in
    ap (λ n. length (take n (drop start content))) long
    ∙ length-take-le len (drop start content) (let left = length-drop start content in omega (arith, left, within))

-- a piece is the tables' bytes in its place
piece_is : (tables piece : List ℕ) (done len : ℕ) → done + len ≤ length tables → piece ≡ slice_range tables done (done + len) → piece ≡ bytes_in tables (piece_at done piece)
piece_is tables piece done len within is =
    let long : length piece ≡ len = ap length is ∙ slice_of tables done len within in
    is ∙ ap (λ n. slice_range tables done (done + n)) (sym long)

reached_by : {h m : Option (List ℕ)} {a b : Ahead} (limits : Limits) (tables piece : List ℕ) (done len : ℕ) → done + len ≤ length tables → piece ≡ slice_range tables done (done + len)
    → 0 < len → len ≤ most_of limits → HasComparedTo (wire h a) (wire m b) limits tables done → HasReached (wire h a) (wire m b) limits tables (piece_at done piece)
reached_by limits tables piece done len within is some few so_far =
    let long : length piece ≡ len = ap length is ∙ slice_of tables done len within in
    record { before = so_far; some = omega (arith, long, some); few = omega (arith, long, few); within = omega (arith, long, within) }

pub piece_more : {h m h' : Option (List ℕ)} {a b a' : Ahead} (limits : Limits) (tables piece : List ℕ) (done len : ℕ) → done + len ≤ length tables
    → piece ≡ slice_range tables done (done + len) → 0 < len → len ≤ most_of limits → HasComparedTo (wire h a) (wire m b) limits tables done
    → Talked (wire m b) (wire h' a') (read_of (piece_at done piece)) (answer piece) → HasComparedTo (wire h a) (wire h' a') limits tables (done + len)
piece_more {h} {m} {h'} {a} {b} {a'} limits tables piece done len within is some few so_far talked =
    let long : length piece ≡ len = ap length is ∙ slice_of tables done len within in
    let same : piece ≡ bytes_in tables (piece_at done piece) = piece_is tables piece done len within is in
    subst (λ n. HasComparedTo (wire h a) (wire h' a') limits tables (done + n)) long
    (pieces_more limits tables (piece_at done piece) (reached_by limits tables piece done len within is some few so_far)
    (subst (λ (bytes : List ℕ). Talked (wire m b) (wire h' a') (read_of (piece_at done piece)) (answer bytes)) same talked))

-- its exchange ended so, or a byte of it is another
pub piece_not : (h m h' : Option (List ℕ)) (a b a' : Ahead) (limits : Limits) (tables piece : List ℕ) (done len : ℕ) (why : Mismatch) → done + len ≤ length tables
    → piece ≡ slice_range tables done (done + len) → 0 < len → len ≤ most_of limits → HasComparedTo (wire h a) (wire m b) limits tables done
    → ComparesPiece (wire m b) (wire h' a') (Err why) done piece → Compares (wire h a) (wire h' a') (Err why) limits tables
piece_not h m h' a b a' limits tables piece done len (Exchange why) within is some few so_far stop = record {
  last = piece_at done piece;
  held = m;
  ahead = b;
  reached = reached_by limits tables piece done len within is some few so_far;
  stop = stop;
}
piece_not h m h' a b a' limits tables piece done len (Differs d) within is some few so_far another = record {
  last = piece_at done piece;
  held = m;
  ahead = b;
  reached = reached_by limits tables piece done len within is some few so_far;
  another = subst (λ bytes. HasAnother (wire m b) (wire h' a') (piece_at done piece) bytes d) (piece_is tables piece done len within is) another;
}
