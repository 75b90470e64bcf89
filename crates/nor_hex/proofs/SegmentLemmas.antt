-- Lemmas on segments to which runs are added.
use Prim.Native.Nat.{zero}
use Rattle.std.proofs.Common.{◌≡◌, ◌≢◌, ◌⊎◌, inl, inr, ℕ, suc, ◌+◌, ◌-◌, ◌^◌, ◌<◌, ◌≤◌, true, false, leb, List, [], ◌∷◌, ◌++◌, length, take, drop, slice_get, Option, Some, refl, sym, subst, ap, ◌∙◌, arith, length-append}
use Rattle.std.proofs.lemmas.Bool.Decides.{leb_tells}
use Rattle.nor_hex.specs.declared.pieces.Piece.{Piece}
use Rattle.nor_hex.specs.declared.segments.Segment.{Segment}
use Rattle.nor_hex.specs.Pieces.{Gives, IsPieces, IsNext, HasNoNext, LaysRun}
use Rattle.nor_hex.specs.Segments.{Holds, IsSegments, AreBelow, EndsAt, IsJoined, SameBytes, IsOnly, size, total}
use Rattle.nor_hex.proofs.ListLemmas.{some_same, get-below, get-left, get-left_back, get-right, get_part, get-part, length-part}
use Rattle.nor_hex.proofs.PutLemmas.{get-snoc, get-append_here}

total-snoc : (xs : List Segment) (last : Segment) → total (xs ++ last ∷ []) ≡ total xs + size last
total-snoc [] last = omega arith
total-snoc (x ∷ xs) last = omega (arith, total-snoc xs last)

-- the last of two lists that are the same
last_same : {X : Type 0} (xs ys : List X) (x y : X) → xs ++ x ∷ [] ≡ ys ++ y ∷ [] → x ≡ y
last_same [] [] x y e = cc
last_same [] (z ∷ []) x y e = absurd cc
last_same [] (z ∷ w ∷ ys) x y e = absurd cc
last_same (z ∷ []) [] x y e = absurd cc
last_same (z ∷ w ∷ xs) [] x y e = absurd cc
last_same (z ∷ xs) (w ∷ ys) x y e = last_same xs ys x y cc

-- what is said of each of some segments and of one more
module _ (xs : List Segment) (one : Segment) (P : Segment → Type 0) where
  pub each-snoc : ((i : ℕ) (s : Segment) → slice_get xs i ≡ Some s → P s) → P one → (i : ℕ) (s : Segment) → slice_get (xs ++ one ∷ []) i ≡ Some s → P s
  each-snoc each last i s e = by (get-snoc xs one i s e)
    where
      by : (slice_get xs i ≡ Some s) ⊎ ((i ≡ length xs) × (one ≡ s)) → P s
      by (inl f) = each i s f
      by (inr p) = subst P p.1 last

-- segments with one more past a gap
module _ (xs : List Segment) (bytes : List ℕ) (one : Segment) where
  pub right-snoc : ((i : ℕ) (s : Segment) → slice_get xs i ≡ Some s → s.first ≤ s.last) → ((i : ℕ) (s : Segment) → slice_get xs i ≡ Some s → s.last < 2 ^ 32) → ((i : ℕ) (s : Segment) → slice_get xs i ≡ Some s → s.place + (s.last - s.first) < length bytes) → ((i : ℕ) (s : Segment) (j : ℕ) (t : Segment) → slice_get xs i ≡ Some s → slice_get xs j ≡ Some t → i < j → s.last + 1 < t.first)
      → one.first ≤ one.last → one.last < 2 ^ 32 → one.place + (one.last - one.first) < length bytes → ((i : ℕ) (s : Segment) → slice_get xs i ≡ Some s → s.last + 1 < one.first) → IsSegments (xs ++ one ∷ []) bytes
  right-snoc rises fits inside apart one_rises one_fits one_inside one_apart = record {
    rises = each-snoc xs one (λ s. s.first ≤ s.last) rises one_rises;
    fits = each-snoc xs one (λ s. s.last < 2 ^ 32) fits one_fits;
    inside = each-snoc xs one (λ s. s.place + (s.last - s.first) < length bytes) inside one_inside;
    apart = λ i s j t e f h. by i s j t (get-snoc xs one i s e) (get-snoc xs one j t f) h;
  }
    where
      by : (i : ℕ) (s : Segment) (j : ℕ) (t : Segment) → (slice_get xs i ≡ Some s) ⊎ ((i ≡ length xs) × (one ≡ s)) → (slice_get xs j ≡ Some t) ⊎ ((j ≡ length xs) × (one ≡ t)) → i < j → s.last + 1 < t.first
      by i s j t (inl e) (inl f) h = apart i s j t e f h
      by i s j t (inl e) (inr f) h = subst (λ (t : Segment). s.last + 1 < t.first) f.1 (one_apart i s e)
      by i s j t (inr e) (inl f) h = let below = get-below xs j t f in let at = e.0 in absurd (omega arith)
      by i s j t (inr e) (inr f) h = let a = e.0 in let b = f.0 in absurd (omega arith)

-- ---- a run past all segments
module _ (xs : List Segment) (bytes run : List ℕ) (first : ℕ) (some : 0 < length run) (fits : first + length run ≤ 2 ^ 32) (right : IsSegments xs bytes) where
  longer : length (bytes ++ run) ≡ length bytes + length run
  longer = length-append bytes run

  inside_more : (i : ℕ) (s : Segment) → slice_get xs i ≡ Some s → s.place + (s.last - s.first) < length (bytes ++ run)
  inside_more i s e = let there = right.inside i s e in omega (arith, longer)

  -- ---- as a segment of its own
  pub appended : (fresh : Segment) → fresh.first ≡ first → fresh.place ≡ length bytes → fresh.last + 1 ≡ first + length run → ((i : ℕ) (s : Segment) → slice_get xs i ≡ Some s → s.last + 1 < first) → IsJoined xs bytes (xs ++ fresh ∷ []) first run
  appended fresh first_is place_is last_is gap = record {
    right = right-snoc xs (bytes ++ run) fresh right.rises right.fits inside_more right.apart (omega arith) (omega arith) (omega (arith, longer)) (λ i s e. let h = gap i s e in omega arith);
    below = each-snoc xs fresh (λ s. s.last < first + length run) (λ i s e. let h = gap i s e in omega arith) (omega arith);
    ends = λ before segment e. let same = last_same xs before fresh segment e in subst (λ (s : Segment). s.place + size s ≡ length (bytes ++ run)) same (omega (arith, longer));
    total_is = omega (arith, total-snoc xs fresh);
    added = record {
      given = λ at byte h. given at byte h (get-snoc xs fresh h.index h.segment h.here);
      kept = λ at byte h. record { index = h.index; segment = h.segment; here = get-left xs (fresh ∷ []) h.index h.segment h.here; from = h.from; to = h.to; byte_is = get-left bytes run (h.segment.place + (at - h.segment.first)) byte h.byte_is };
      laid = laid;
    };
  }
    where
      given : (at byte : ℕ) (h : Holds (xs ++ fresh ∷ []) (bytes ++ run) at byte) → (slice_get xs h.index ≡ Some h.segment) ⊎ ((h.index ≡ length xs) × (fresh ≡ h.segment)) → Holds xs bytes at byte ⊎ LaysRun first run at byte
      given at byte h (inl e) =
          let there = right.inside h.index h.segment e in
          let to = h.to in
          let place : h.segment.place + (at - h.segment.first) < length bytes = omega arith in
          inl (record { index = h.index; segment = h.segment; here = e; from = h.from; to = h.to; byte_is = get-left_back bytes run (h.segment.place + (at - h.segment.first)) byte place h.byte_is })
      given at byte h (inr p) =
          let start = ap (λ (s : Segment). s.first) p.1 in
          let where_to = ap (λ (s : Segment). s.place) p.1 in
          let from = h.from in
          let place : h.segment.place + (at - h.segment.first) ≡ length bytes + (at - first) = omega arith in
          inr (record { index = at - first; byte_is = sym (get-right bytes run (at - first) (h.segment.place + (at - h.segment.first)) place) ∙ h.byte_is; at_is = omega arith })

      laid : (at byte : ℕ) → LaysRun first run at byte → Holds (xs ++ fresh ∷ []) (bytes ++ run) at byte
      laid at byte l =
          let below = get-below run l.index byte l.byte_is in
          let at_is = l.at_is in
          record {
            index = length xs;
            segment = fresh;
            here = get-append_here xs [] fresh;
            from = omega arith;
            to = omega arith;
            byte_is = get-right bytes run l.index (fresh.place + (at - fresh.first)) (omega arith) ∙ l.byte_is;
          }

  -- ---- right after the last segment
  pub lengthened : (rest : List Segment) (before after : Segment) → xs ≡ rest ++ before ∷ [] → before.last + 1 ≡ first → before.place + size before ≡ length bytes → after.first ≡ before.first → after.place ≡ before.place → after.last + 1 ≡ first + length run → IsJoined xs bytes (rest ++ after ∷ []) first run
  lengthened rest before after xs_is touches ends first_is place_is last_is = record {
    right = right-snoc rest (bytes ++ run) after (λ i s e. right.rises i s (in_xs i s e)) (λ i s e. right.fits i s (in_xs i s e)) (λ i s e. inside_more i s (in_xs i s e)) (λ i s j t e f h. right.apart i s j t (in_xs i s e) (in_xs j t f) h) (omega (arith, rises)) (omega arith) (omega (arith, longer, rises)) (λ i s e. let h = gap i s e in omega arith);
    below = each-snoc rest after (λ s. s.last < first + length run) (λ i s e. let h = gap i s e in omega (arith, rises)) (omega arith);
    ends = λ others segment e. let same = last_same rest others after segment e in subst (λ (s : Segment). s.place + size s ≡ length (bytes ++ run)) same (omega (arith, longer, rises));
    total_is = omega (arith, total-snoc rest after, total-snoc rest before, ap total xs_is, rises);
    added = record {
      given = λ at byte h. given at byte h (get-snoc rest after h.index h.segment h.here);
      kept = λ at byte h. kept at byte h (get-snoc rest before h.index h.segment (ap (λ ys. slice_get ys h.index) (sym xs_is) ∙ h.here));
      laid = laid;
    };
  }
    where
      in_xs : (i : ℕ) (s : Segment) → slice_get rest i ≡ Some s → slice_get xs i ≡ Some s
      in_xs i s e = ap (λ ys. slice_get ys i) xs_is ∙ get-left rest (before ∷ []) i s e

      last_in_xs : slice_get xs (length rest) ≡ Some before
      last_in_xs = ap (λ ys. slice_get ys (length rest)) xs_is ∙ get-append_here rest [] before

      rises : before.first ≤ before.last
      rises = right.rises (length rest) before last_in_xs

      gap : (i : ℕ) (s : Segment) → slice_get rest i ≡ Some s → s.last + 1 < before.first
      gap i s e = right.apart i s (length rest) before (in_xs i s e) last_in_xs (get-below rest i s e)

      given : (at byte : ℕ) (h : Holds (rest ++ after ∷ []) (bytes ++ run) at byte) → (slice_get rest h.index ≡ Some h.segment) ⊎ ((h.index ≡ length rest) × (after ≡ h.segment)) → Holds xs bytes at byte ⊎ LaysRun first run at byte
      given at byte h (inl e) =
          let there = right.inside h.index h.segment (in_xs h.index h.segment e) in
          let to = h.to in
          let place : h.segment.place + (at - h.segment.first) < length bytes = omega arith in
          inl (record { index = h.index; segment = h.segment; here = in_xs h.index h.segment e; from = h.from; to = h.to; byte_is = get-left_back bytes run (h.segment.place + (at - h.segment.first)) byte place h.byte_is })
      given at byte h (inr p) = by (leb_tells first at)
        where
          start : after.first ≡ h.segment.first
          start = ap (λ (s : Segment). s.first) p.1

          where_to : after.place ≡ h.segment.place
          where_to = ap (λ (s : Segment). s.place) p.1

          by : ((leb first at ≡ true) × (first ≤ at)) ⊎ ((leb first at ≡ false) × (at < first)) → Holds xs bytes at byte ⊎ LaysRun first run at byte
          by (inl q) =
              let le = q.1 in
              let place : h.segment.place + (at - h.segment.first) ≡ length bytes + (at - first) = omega (arith, rises, start, where_to) in
              inr (record { index = at - first; byte_is = sym (get-right bytes run (at - first) (h.segment.place + (at - h.segment.first)) place) ∙ h.byte_is; at_is = omega arith })
          by (inr q) =
              let lt = q.1 in
              let from = h.from in
              let place : h.segment.place + (at - h.segment.first) < length bytes = omega (arith, rises, start, where_to) in
              let same : h.segment.place + (at - h.segment.first) ≡ before.place + (at - before.first) = omega (arith, start, where_to) in
              inl (record { index = length rest; segment = before; here = last_in_xs; from = omega (arith, start); to = omega arith; byte_is = ap (slice_get bytes) (sym same) ∙ get-left_back bytes run (h.segment.place + (at - h.segment.first)) byte place h.byte_is })

      kept : (at byte : ℕ) (h : Holds xs bytes at byte) → (slice_get rest h.index ≡ Some h.segment) ⊎ ((h.index ≡ length rest) × (before ≡ h.segment)) → Holds (rest ++ after ∷ []) (bytes ++ run) at byte
      kept at byte h (inl e) = record { index = h.index; segment = h.segment; here = get-left rest (after ∷ []) h.index h.segment e; from = h.from; to = h.to; byte_is = get-left bytes run (h.segment.place + (at - h.segment.first)) byte h.byte_is }
      kept at byte h (inr p) =
          let start = ap (λ (s : Segment). s.first) p.1 in
          let end = ap (λ (s : Segment). s.last) p.1 in
          let where_to = ap (λ (s : Segment). s.place) p.1 in
          let from = h.from in
          let to = h.to in
          let same : h.segment.place + (at - h.segment.first) ≡ after.place + (at - after.first) = omega arith in
          record { index = length rest; segment = after; here = get-append_here rest [] after; from = omega arith; to = omega arith; byte_is = ap (slice_get (bytes ++ run)) (sym same) ∙ get-left bytes run (h.segment.place + (at - h.segment.first)) byte h.byte_is }

      laid : (at byte : ℕ) → LaysRun first run at byte → Holds (rest ++ after ∷ []) (bytes ++ run) at byte
      laid at byte l =
          let below = get-below run l.index byte l.byte_is in
          let at_is = l.at_is in
          let up = rises in
          record {
            index = length rest;
            segment = after;
            here = get-append_here rest [] after;
            from = omega arith;
            to = omega arith;
            byte_is = get-right bytes run l.index (after.place + (at - after.first)) (omega arith) ∙ l.byte_is;
          }

  -- where the last segment doesn't touch the run, none does
  pub gap_before : (rest : List Segment) (before : Segment) → xs ≡ rest ++ before ∷ [] → before.last < first → before.last + 1 ≢ first → (i : ℕ) (s : Segment) → slice_get xs i ≡ Some s → s.last + 1 < first
  gap_before rest before xs_is below apart i s e = by (get-snoc rest before i s (ap (λ ys. slice_get ys i) (sym xs_is) ∙ e))
    where
      last_in_xs : slice_get xs (length rest) ≡ Some before
      last_in_xs = ap (λ ys. slice_get ys (length rest)) xs_is ∙ get-append_here rest [] before

      last_gap : before.last + 1 < first
      last_gap = omega arith

      by : (slice_get rest i ≡ Some s) ⊎ ((i ≡ length rest) × (before ≡ s)) → s.last + 1 < first
      by (inl f) = let h = right.apart i s (length rest) before e last_in_xs (get-below rest i s f) in let up = right.rises (length rest) before last_in_xs in omega arith
      by (inr p) = subst (λ (s : Segment). s.last + 1 < first) p.1 last_gap

-- ---- segments made of the pieces that end below an address
pub record IsMade (at_last : ℕ → Option Piece) (given : List ℕ) (list : List Segment) (made : List ℕ) (from : ℕ) : Type 0 where
  pub fits : from ≤ 2 ^ 32
  pub right : IsSegments list made
  pub below : AreBelow from list
  pub ends : EndsAt list (length made)
  pub whole : total list ≡ length made
  pub clear : (last : ℕ) (piece : Piece) → at_last last ≡ Some piece → from ≤ last → from ≤ piece.first
  pub of_pieces : (at byte : ℕ) → Holds list made at byte → Gives at_last given at byte
  pub all : (at byte : ℕ) (g : Gives at_last given at byte) → g.last < from → Holds list made at byte

pub made_more : (at_last : ℕ → Option Piece) (given : List ℕ) (list new : List Segment) (made : List ℕ) (from last n : ℕ) (piece : Piece) → IsPieces at_last given → IsNext at_last from last piece → n ≡ last - piece.first + 1 → IsMade at_last given list made from → IsJoined list made new piece.first (take n (drop piece.place given)) → IsMade at_last given new (made ++ take n (drop piece.place given)) (last + 1)
made_more at_last given list new made from last n piece pieces next n_is so_far joined = record {
  fits = let few = pieces.fits last piece next.found in omega arith;
  right = joined.right;
  below = λ i s e. let h = joined.below i s e in omega (arith, run_len);
  ends = joined.ends;
  whole = let t = joined.total_is in let l = length-append made (take n (drop piece.place given)) in let w = so_far.whole in omega arith;
  clear = λ k q e h. let past : last < k = omega arith in let apart = pieces.apart last piece k q next.found e past in omega arith;
  of_pieces = λ at byte h. of_pieces at byte (joined.added.given at byte h);
  all = λ at byte g h. all at byte g h (leb_tells from g.last);
}
  where
    rises : piece.first ≤ last
    rises = pieces.rises last piece next.found

    run_len : piece.first + length (take n (drop piece.place given)) ≡ last + 1
    run_len =
        let there = pieces.inside last piece next.found in
        let len = length-part given n piece.place (omega arith) in
        omega (arith, rises)

    of_pieces : (at byte : ℕ) → Holds list made at byte ⊎ LaysRun piece.first (take n (drop piece.place given)) at byte → Gives at_last given at byte
    of_pieces at byte (inl h) = so_far.of_pieces at byte h
    of_pieces at byte (inr l) =
        let at_is = l.at_is in
        let found = get_part given n piece.place l.index (piece.place + (at - piece.first)) byte (omega arith) l.byte_is in
        let below = found.0 in
        record { last = last; piece = piece; here = next.found; from = omega arith; to = omega (arith, rises); byte_is = found.1 }

    all : (at byte : ℕ) (g : Gives at_last given at byte) → g.last < last + 1 → ((leb from g.last ≡ true) × (from ≤ g.last)) ⊎ ((leb from g.last ≡ false) × (g.last < from)) → Holds new (made ++ take n (drop piece.place given)) at byte
    all at byte g h (inr p) = joined.added.kept at byte (so_far.all at byte g p.1)
    all at byte g h (inl p) =
        let least = next.least g.last g.piece g.here p.1 in
        let same : g.last ≡ last = omega arith in
        let piece_is : g.piece ≡ piece = some_same g.piece piece (at_last last) (ap at_last (sym same) ∙ g.here) next.found in
        let start = ap (λ (x : Piece). x.first) piece_is in
        let from = g.from in
        let to = g.to in
        joined.added.laid at byte (record {
          index = at - piece.first;
          byte_is = get-part given n piece.place (at - piece.first) (piece.place + (at - piece.first)) byte refl (omega arith) (subst (λ (x : Piece). slice_get given (x.place + (at - x.first)) ≡ Some byte) piece_is g.byte_is);
          at_is = omega arith;
        })

pub made_all : (at_last : ℕ → Option Piece) (given : List ℕ) (list : List Segment) (made : List ℕ) (from : ℕ) → HasNoNext at_last from → IsMade at_last given list made from → SameBytes (Gives at_last given) (Holds list made)
made_all at_last given list made from none so_far = record {
  given = so_far.of_pieces;
  kept = λ at byte g. so_far.all at byte g (none g.last g.piece g.here);
}

-- ---- one piece as it is
module _ (at_last : ℕ → Option Piece) (given : List ℕ) (segment : Segment) (pieces : IsPieces at_last given) (only : IsOnly at_last (length given) segment) where
  one : (i : ℕ) (s : Segment) → slice_get (segment ∷ []) i ≡ Some s → (i ≡ 0) × (segment ≡ s)
  one zero s e = (refl, cc)
  one (suc i) s e = absurd cc

  rises : segment.first ≤ segment.last
  rises = let up = pieces.rises segment.last only.piece only.next.found in let first = only.first_is in omega arith

  pub only_right : IsSegments (segment ∷ []) given
  only_right = record {
    rises = λ i s e. subst (λ (s : Segment). s.first ≤ s.last) (one i s e).1 rises;
    fits = λ i s e. subst (λ (s : Segment). s.last < 2 ^ 32) (one i s e).1 (pieces.fits segment.last only.piece only.next.found);
    inside = λ i s e. subst (λ (s : Segment). s.place + (s.last - s.first) < length given) (one i s e).1 (let all = only.all in let place = only.place_is in omega arith);
    apart = λ i s j t e f h. let a = (one i s e).0 in let b = (one j t f).0 in absurd (omega arith);
  }

  pub only_whole : total (segment ∷ []) ≡ length given
  only_whole = let all = only.all in let up = rises in omega arith

  pub only_same : SameBytes (Gives at_last given) (Holds (segment ∷ []) given)
  only_same = record { given = back; kept = kept }
    where
      back : (at byte : ℕ) → Holds (segment ∷ []) given at byte → Gives at_last given at byte
      back at byte h =
          let same = (one h.index h.segment h.here).1 in
          let first = only.first_is in
          let place = only.place_is in
          let piece_place = only.piece_place in
          let start = ap (λ (s : Segment). s.first) same in
          let end = ap (λ (s : Segment). s.last) same in
          let where_to = ap (λ (s : Segment). s.place) same in
          let from = h.from in
          let to = h.to in
          let index : h.segment.place + (at - h.segment.first) ≡ only.piece.place + (at - only.piece.first) = omega arith in
          record { last = segment.last; piece = only.piece; here = only.next.found; from = omega arith; to = omega arith; byte_is = ap (slice_get given) (sym index) ∙ h.byte_is }

      kept : (at byte : ℕ) → Gives at_last given at byte → Holds (segment ∷ []) given at byte
      kept at byte g =
          let under = only.none g.last g.piece g.here in
          let least = only.next.least g.last g.piece g.here (omega arith) in
          let same : g.last ≡ segment.last = omega arith in
          let piece_is : g.piece ≡ only.piece = some_same g.piece only.piece (at_last segment.last) (ap at_last (sym same) ∙ g.here) only.next.found in
          let start = ap (λ (x : Piece). x.first) piece_is in
          let where_to = ap (λ (x : Piece). x.place) piece_is in
          let first = only.first_is in
          let place = only.place_is in
          let piece_place = only.piece_place in
          let from = g.from in
          let to = g.to in
          let index : g.piece.place + (at - g.piece.first) ≡ segment.place + (at - segment.first) = omega arith in
          record { index = 0; segment = segment; here = refl; from = omega arith; to = omega arith; byte_is = ap (slice_get given) (sym index) ∙ g.byte_is }
