-- Lemmas on bytes that are added to pieces.
use Rattle.std.proofs.Common.{◌≡◌, ◌≢◌, ◌⊎◌, inl, inr, ℕ, ◌+◌, ◌-◌, ◌^◌, ◌<◌, ◌≤◌, true, false, nat_eq, leb, List, ◌++◌, length, take, drop, slice_get, Option, Some, refl, sym, subst, ap, ◌∙◌, arith, length-append}
use Rattle.std.proofs.lemmas.List.{length-take-le}
use Rattle.std.specs.Ordering.{nat_cmp}
use Rattle.std.specs.BTreeMap as tree
use Rattle.std.specs.Map.{lookup}
use Rattle.std.proofs.lemmas.Bool.{ne_eqb}
use Rattle.std.proofs.lemmas.Bool.Decides.{eqb_tells, leb_tells}
use Rattle.nor_hex.specs.declared.pieces.Piece.{Piece}
use Rattle.nor_hex.specs.Pieces.{Gives, IsPieces, IsFree, LaysRun, AddsRun, ClashesRun, DiffersIn, Opens}
use Rattle.nor_hex.proofs.ListLemmas.{some_same, none_some, get-below, get-left, get-left_back, get-right, get-take, get_taken, get-drop, get_part, get-part, length-part, differ_at}
use Rattle.nor_hex.proofs.ImageLemmas.{equal_keys}

-- two numbers are equal or not
abbrev pub Tells : ℕ → ℕ → Type 0
Tells a b = ((nat_eq a b ≡ true) × (a ≡ b)) ⊎ ((nat_eq a b ≡ false) × (a ≢ b))

-- an address has one byte
pub single : (at_last : ℕ → Option Piece) (bytes : List ℕ) → IsPieces at_last bytes → (address a b : ℕ) → Gives at_last bytes address a → Gives at_last bytes address b → a ≡ b
single at_last bytes pieces address a b first second = by (eqb_tells first.last second.last)
  where
    piece_is : first.last ≡ second.last → first.piece ≡ second.piece
    piece_is e = some_same first.piece second.piece (at_last second.last) (ap at_last (sym e) ∙ first.here) second.here

    order : first.last ≢ second.last → (first.last < second.last) ⊎ (second.last < first.last)
    order apart = grind (arith, apart)

    disjoint : (first.last < second.last) ⊎ (second.last < first.last) → ⊥
    disjoint (inl h) = let below = pieces.apart first.last first.piece second.last second.piece first.here second.here h in let to = first.to in let from = second.from in omega arith
    disjoint (inr h) = let below = pieces.apart second.last second.piece first.last first.piece second.here first.here h in let to = second.to in let from = first.from in omega arith

    by : Tells first.last second.last → a ≡ b
    by (inl same) = some_same a b (slice_get bytes (second.piece.place + (address - second.piece.first))) (subst (λ piece. slice_get bytes (piece.place + (address - piece.first)) ≡ Some a) (piece_is same.1) first.byte_is) second.byte_is
    by (inr apart) = absurd (disjoint (order apart.1))

-- ---- a run that is laid
-- new is old with a piece up to `last`, which has the one that the address continues in itself
pub record IsAdded (old new : ℕ → Option Piece) (len address last : ℕ) (piece : Piece) : Type 0 where
  pub before : piece.first ≤ address
  pub place_is : piece.place + (address - piece.first) ≡ len
  pub here : new last ≡ Some piece
  pub given : (k : ℕ) (q : Piece) → new k ≡ Some q → ((k ≡ last) × (q ≡ piece)) ⊎ ((old k ≡ Some q) × (piece.first < address → k + 1 ≢ address))
  pub kept : (k : ℕ) (q : Piece) → old k ≡ Some q → (new k ≡ Some q) ⊎ ((k + 1 ≡ address) × (q ≡ piece))
  pub was : piece.first < address → old (address - 1) ≡ Some piece

pub is_added : (m n p : tree.BTreeMap ℕ Piece) (bytes run : List ℕ) (len address last : ℕ) (piece : Piece) → IsPieces (tree.get nat_cmp m) bytes → IsFree (tree.get nat_cmp m) address (length run) → last + 1 ≡ address + length run → 0 < length run → Opens (tree.get nat_cmp m) (tree.get nat_cmp n) len address piece → tree.Updates nat_cmp n p last (Some piece) → IsAdded (tree.get nat_cmp m) (tree.get nat_cmp p) len address last piece
is_added m n p bytes run len address last piece pieces free last_is some opens updates = record {
  before = opens.before;
  place_is = opens.place_is;
  here = updates.1;
  given = λ k q e. given k q e (eqb_tells k last);
  kept = λ k q e. kept k q e (opens.kept k q e) (eqb_tells k last);
  was = λ h. (opens.was h).0;
}
  where
    other : (k : ℕ) → k ≢ last → tree.get nat_cmp p k ≡ tree.get nat_cmp n k
    other k apart = updates.2 k (equal_keys last k ∙ ne_eqb last k (λ e. apart (sym e)))

    given : (k : ℕ) (q : Piece) → tree.get nat_cmp p k ≡ Some q → Tells k last → ((k ≡ last) × (q ≡ piece)) ⊎ ((tree.get nat_cmp m k ≡ Some q) × (piece.first < address → k + 1 ≢ address))
    given k q e (inl same) = inl (same.1, some_same q piece (tree.get nat_cmp p last) (ap (tree.get nat_cmp p) (sym same.1) ∙ e) updates.1)
    given k q e (inr apart) =
        let there : tree.get nat_cmp n k ≡ Some q = sym (other k apart.1) ∙ e in
        inr (
          opens.given k q there,
          λ h after. let at : k ≡ address - 1 = omega arith in none_some q (tree.get nat_cmp n k) (ap (tree.get nat_cmp n) at ∙ (opens.was h).1) there,
        )

    no_last : (q : Piece) → tree.get nat_cmp m last ≡ Some q → ⊥
    no_last q e = by (free last q e)
      where
        by : (last < address) ⊎ (address + length run ≤ q.first) → ⊥
        by (inl h) = omega arith
        by (inr h) = let rises = pieces.rises last q e in omega arith

    kept : (k : ℕ) (q : Piece) → tree.get nat_cmp m k ≡ Some q → (tree.get nat_cmp n k ≡ Some q) ⊎ ((k + 1 ≡ address) × (q ≡ piece)) → Tells k last → (tree.get nat_cmp p k ≡ Some q) ⊎ ((k + 1 ≡ address) × (q ≡ piece))
    kept k q e (inr p) tells = inr p
    kept k q e (inl f) (inl same) = absurd (no_last q (ap (tree.get nat_cmp m) (sym same.1) ∙ e))
    kept k q e (inl f) (inr apart) = inl (other k apart.1 ∙ f)

module _ (old new : ℕ → Option Piece) (bytes run : List ℕ) (address last : ℕ) (piece : Piece) (pieces : IsPieces old bytes) (free : IsFree old address (length run)) (last_is : last + 1 ≡ address + length run) (some : 0 < length run) (fits : address + length run ≤ 2 ^ 32) (added : IsAdded old new (length bytes) address last piece) where
  longer : length (bytes ++ run) ≡ length bytes + length run
  longer = length-append bytes run

  abbrev Case : ℕ → Piece → Type 0
  Case k q = ((k ≡ last) × (q ≡ piece)) ⊎ ((old k ≡ Some q) × (piece.first < address → k + 1 ≢ address))

  rises : (k : ℕ) (q : Piece) → Case k q → q.first ≤ k
  rises k q (inl p) = let same = ap (λ (x : Piece). x.first) p.1 in let at = p.0 in let before = added.before in omega arith
  rises k q (inr p) = pieces.rises k q p.0

  few : (k : ℕ) (q : Piece) → Case k q → k < 2 ^ 32
  few k q (inl p) = let at = p.0 in omega arith
  few k q (inr p) = pieces.fits k q p.0

  inside : (k : ℕ) (q : Piece) → Case k q → q.place + (k - q.first) < length (bytes ++ run)
  inside k q (inl p) =
      let same = ap (λ (x : Piece). x.first) p.1 in
      let place = ap (λ (x : Piece). x.place) p.1 in
      let at = p.0 in
      let before = added.before in
      let there = added.place_is in
      omega (arith, longer)
  inside k q (inr p) = let there = pieces.inside k q p.0 in omega (arith, longer)

  -- an old piece that ends before the run ends before the new piece
  old_first : (k : ℕ) (q : Piece) → old k ≡ Some q → (piece.first < address → k + 1 ≢ address) → k < last → (k < address) ⊎ (address + length run ≤ q.first) → k < piece.first
  old_first k q e apart h (inr past) = let up = pieces.rises k q e in absurd (omega arith)
  old_first k q e apart h (inl below) = by (leb_tells address piece.first)
    where
      by : ((leb address piece.first ≡ true) × (address ≤ piece.first)) ⊎ ((leb address piece.first ≡ false) × (piece.first < address)) → k < piece.first
      by (inl p) = let le = p.1 in omega arith
      by (inr p) =
          let not_there : k + 1 ≢ address = apart p.1 in
          let lt : k < address - 1 = omega arith in
          pieces.apart k q (address - 1) piece e (added.was p.1) lt

  old_later : (k : ℕ) (q : Piece) → old k ≡ Some q → last < k → (k < address) ⊎ (address + length run ≤ q.first) → last < q.first
  old_later k q e h (inl below) = absurd (omega arith)
  old_later k q e h (inr past) = omega arith

  apart : (k : ℕ) (q : Piece) (j : ℕ) (r : Piece) → Case k q → Case j r → k < j → k < r.first
  apart k q j r (inl p) (inl o) h = let a = p.0 in let b = o.0 in absurd (omega arith)
  apart k q j r (inl p) (inr o) h = let a = p.0 in let lt : last < j = omega arith in let found = old_later j r o.0 lt (free j r o.0) in omega arith
  apart k q j r (inr p) (inl o) h = let b = o.0 in let lt : k < last = omega arith in let found = old_first k q p.0 p.1 lt (free k q p.0) in let same = ap (λ (x : Piece). x.first) o.1 in omega arith
  apart k q j r (inr p) (inr o) h = pieces.apart k q j r p.0 o.0 h

  pub pieces_added : IsPieces new (bytes ++ run)
  pieces_added = record {
    rises = λ k q e. rises k q (added.given k q e);
    fits = λ k q e. few k q (added.given k q e);
    inside = λ k q e. inside k q (added.given k q e);
    apart = λ k q j r e f h. apart k q j r (added.given k q e) (added.given j r f) h;
  }

  -- a byte of the new piece
  of_piece : (at byte : ℕ) → piece.first ≤ at → at ≤ last → slice_get (bytes ++ run) (piece.place + (at - piece.first)) ≡ Some byte → Gives old bytes at byte ⊎ LaysRun address run at byte
  of_piece at byte from to here = by (leb_tells address at)
    where
      by : ((leb address at ≡ true) × (address ≤ at)) ⊎ ((leb address at ≡ false) × (at < address)) → Gives old bytes at byte ⊎ LaysRun address run at byte
      by (inl p) =
          let le = p.1 in
          let before = added.before in
          let there = added.place_is in
          let place : piece.place + (at - piece.first) ≡ length bytes + (at - address) = omega arith in
          inr (record {
            index = at - address;
            byte_is = sym (get-right bytes run (at - address) (piece.place + (at - piece.first)) place) ∙ here;
            at_is = omega arith;
          })
      by (inr p) =
          let lt = p.1 in
          let there = added.place_is in
          let less : piece.first < address = omega arith in
          let place : piece.place + (at - piece.first) < length bytes = omega arith in
          inl (record {
            last = address - 1;
            piece = piece;
            here = added.was less;
            from = from;
            to = omega arith;
            byte_is = get-left_back bytes run (piece.place + (at - piece.first)) byte place here;
          })

  given : (at byte : ℕ) (g : Gives new (bytes ++ run) at byte) → Case g.last g.piece → Gives old bytes at byte ⊎ LaysRun address run at byte
  given at byte g (inl p) =
      let from = g.from in
      let to = g.to in
      let end = p.0 in
      let start = ap (λ (x : Piece). x.first) p.1 in
      of_piece at byte (omega arith) (omega arith) (subst (λ (x : Piece). slice_get (bytes ++ run) (x.place + (at - x.first)) ≡ Some byte) p.1 g.byte_is)
  given at byte g (inr p) =
      let there = pieces.inside g.last g.piece p.0 in
      let to = g.to in
      let place : g.piece.place + (at - g.piece.first) < length bytes = omega arith in
      inl (record {
        last = g.last;
        piece = g.piece;
        here = p.0;
        from = g.from;
        to = g.to;
        byte_is = get-left_back bytes run (g.piece.place + (at - g.piece.first)) byte place g.byte_is;
      })

  kept : (at byte : ℕ) (g : Gives old bytes at byte) → (new g.last ≡ Some g.piece) ⊎ ((g.last + 1 ≡ address) × (g.piece ≡ piece)) → Gives new (bytes ++ run) at byte
  kept at byte g (inl e) = record {
    last = g.last;
    piece = g.piece;
    here = e;
    from = g.from;
    to = g.to;
    byte_is = get-left bytes run (g.piece.place + (at - g.piece.first)) byte g.byte_is;
  }
  kept at byte g (inr p) =
      let from = g.from in
      let to = g.to in
      let end = p.0 in
      let start = ap (λ (x : Piece). x.first) p.1 in
      record {
        last = last;
        piece = piece;
        here = added.here;
        from = omega arith;
        to = omega arith;
        byte_is = get-left bytes run (piece.place + (at - piece.first)) byte (subst (λ (x : Piece). slice_get bytes (x.place + (at - x.first)) ≡ Some byte) p.1 g.byte_is);
      }

  laid : (at byte : ℕ) → LaysRun address run at byte → Gives new (bytes ++ run) at byte
  laid at byte l =
      let at_is = l.at_is in
      let below = get-below run l.index byte l.byte_is in
      let before = added.before in
      let there = added.place_is in
      record {
        last = last;
        piece = piece;
        here = added.here;
        from = omega arith;
        to = omega arith;
        byte_is = get-right bytes run l.index (piece.place + (at - piece.first)) (omega arith) ∙ l.byte_is;
      }

  pub run_added : AddsRun (Gives old bytes) (Gives new (bytes ++ run)) address run
  run_added = record {
    given = λ at byte g. given at byte g (added.given g.last g.piece g.here);
    kept = λ at byte g. kept at byte g (added.kept g.last g.piece g.here);
    laid = laid;
  }

-- ---- a run over a piece
pub repeats : (at_last : ℕ → Option Piece) (given run : List ℕ) (address last count : ℕ) (piece : Piece) → at_last last ≡ Some piece → piece.first ≤ address → address + count ≤ last + 1 → take count (drop (piece.place + (address - piece.first)) given) ≡ take count run → AddsRun (Gives at_last given) (Gives at_last given) address (take count run)
repeats at_last given run address last count piece here from to same = record {
  given = λ at byte g. inl g;
  kept = λ at byte g. g;
  laid = laid;
}
  where
    laid : (at byte : ℕ) → LaysRun address (take count run) at byte → Gives at_last given at byte
    laid at byte l =
        let at_is = l.at_is in
        let there : slice_get (take count (drop (piece.place + (address - piece.first)) given)) l.index ≡ Some byte = ap (λ xs. slice_get xs l.index) same ∙ l.byte_is in
        let found = get_part given count (piece.place + (address - piece.first)) l.index (piece.place + (at - piece.first)) byte (omega arith) there in
        let below = found.0 in
        record {
          last = last;
          piece = piece;
          here = here;
          from = omega arith;
          to = omega arith;
          byte_is = found.1;
        }

pub clashes_over : (at_last : ℕ → Option Piece) (given run : List ℕ) (address last : ℕ) (piece : Piece) → at_last last ≡ Some piece → piece.first ≤ address → DiffersIn (drop (piece.place + (address - piece.first)) given) run (last + 1 - address) → ClashesRun (Gives at_last given) address run
clashes_over at_last given run address last piece here from differs =
    let below = differs.below in
    record {
      at = address + differs.index;
      first = differs.first;
      second = differs.second;
      gives_first = record {
        last = last;
        piece = piece;
        here = here;
        from = omega arith;
        to = omega arith;
        byte_is = sym (get-drop given (piece.place + (address - piece.first)) differs.index (piece.place + (address + differs.index - piece.first)) (omega arith)) ∙ differs.first_is;
      };
      lays_second = record { index = differs.index; byte_is = differs.second_is; at_is = refl };
      differ = differs.differ;
    }

-- ---- parts of a run, one after the other
pub adds_none : (old : ℕ → ℕ → Type 0) (address : ℕ) (run : List ℕ) → AddsRun old old address (take 0 run)
adds_none old address run = record {
  given = λ at byte g. inl g;
  kept = λ at byte g. g;
  laid = λ at byte l. let none = (get_taken run 0 l.index byte l.byte_is).0 in absurd (omega arith);
}

pub adds_more : (old between new : ℕ → ℕ → Type 0) (address done count n : ℕ) (run : List ℕ) → count ≤ n → AddsRun old between address (take done run) → AddsRun between new (address + done) (take count (take n (drop done run))) → AddsRun old new address (take (done + count) run)
adds_more old between new address done count n run few first second = record {
  given = λ at byte g. given at byte (second.given at byte g);
  kept = λ at byte g. second.kept at byte (first.kept at byte g);
  laid = laid;
}
  where
    longer : (at byte : ℕ) → LaysRun address (take done run) at byte → LaysRun address (take (done + count) run) at byte
    longer at byte l =
        let found = get_taken run done l.index byte l.byte_is in
        let below = found.0 in
        record { index = l.index; byte_is = get-take run (done + count) l.index byte (omega arith) found.1; at_is = l.at_is }

    shifted : (at byte : ℕ) → LaysRun (address + done) (take count (take n (drop done run))) at byte → LaysRun address (take (done + count) run) at byte
    shifted at byte l =
        let found = get_taken (take n (drop done run)) count l.index byte l.byte_is in
        let there = get_part run n done l.index (done + l.index) byte refl found.1 in
        let below = found.0 in
        let at_is = l.at_is in
        record { index = done + l.index; byte_is = get-take run (done + count) (done + l.index) byte (omega arith) there.1; at_is = omega arith }

    of_first : (at byte : ℕ) → old at byte ⊎ LaysRun address (take done run) at byte → old at byte ⊎ LaysRun address (take (done + count) run) at byte
    of_first at byte (inl e) = inl e
    of_first at byte (inr l) = inr (longer at byte l)

    given : (at byte : ℕ) → between at byte ⊎ LaysRun (address + done) (take count (take n (drop done run))) at byte → old at byte ⊎ LaysRun address (take (done + count) run) at byte
    given at byte (inl e) = of_first at byte (first.given at byte e)
    given at byte (inr l) = inr (shifted at byte l)

    laid : (at byte : ℕ) → LaysRun address (take (done + count) run) at byte → new at byte
    laid at byte l = by (leb_tells done l.index)
      where
        found : (l.index < done + count) × (slice_get run l.index ≡ Some byte)
        found = get_taken run (done + count) l.index byte l.byte_is

        by : ((leb done l.index ≡ true) × (done ≤ l.index)) ⊎ ((leb done l.index ≡ false) × (l.index < done)) → new at byte
        by (inl p) =
            let le = p.1 in
            let below = found.0 in
            let at_is = l.at_is in
            second.laid at byte (record {
              index = l.index - done;
              byte_is = get-take (take n (drop done run)) count (l.index - done) byte (omega arith) (get-part run n done (l.index - done) l.index byte (omega arith) (omega arith) found.1);
              at_is = omega arith;
            })
        by (inr p) = second.kept at byte (first.laid at byte (record { index = l.index; byte_is = get-take run done l.index byte p.1 found.1; at_is = l.at_is }))

pub clashes_later : (old between : ℕ → ℕ → Type 0) (address done n : ℕ) (run : List ℕ) → AddsRun old between address (take done run) → ClashesRun between (address + done) (take n (drop done run)) → ClashesRun old address run
clashes_later old between address done n run first clash =
    let second = clash.lays_second in
    let there = get_part run n done second.index (done + second.index) clash.second refl second.byte_is in
    let at_is = second.at_is in
    record {
      at = clash.at;
      first = clash.first;
      second = clash.second;
      gives_first = by (first.given clash.at clash.first clash.gives_first);
      lays_second = record { index = done + second.index; byte_is = there.1; at_is = omega arith };
      differ = clash.differ;
    }
  where
    by : old clash.at clash.first ⊎ LaysRun address (take done run) clash.at clash.first → old clash.at clash.first
    by (inl e) = e
    by (inr l) =
        let below = (get_taken run done l.index clash.first l.byte_is).0 in
        let here = l.at_is in
        let there = clash.lays_second.at_is in
        absurd (omega arith)

-- two parts that are not the same differ at a place
pub differs : (given run : List ℕ) (d n m count limit : ℕ) → n ≡ count → m ≡ count → d + count ≤ length given → count ≤ length run → count ≤ limit → take n (drop d given) ≢ take m run → DiffersIn (drop d given) run limit
differs given run d n m count limit n_is m_is inside fits below apart =
    let left : length (take n (drop d given)) ≡ n = length-part given n d (omega arith) in
    let right : length (take m run) ≡ m = length-take-le m run (omega arith) in
    let found = differ_at (take n (drop d given)) (take m run) (omega arith) apart in
    let first = get_taken (drop d given) n found.0 found.1 found.3 in
    let second = get_taken run m found.0 found.2 found.4 in
    let under = first.0 in
    record {
      index = found.0;
      first = found.1;
      second = found.2;
      below = omega arith;
      first_is = first.1;
      second_is = second.1;
      differ = found.5;
    }

-- ---- an empty map
no_piece : (m : tree.BTreeMap ℕ Piece) → tree.IsEmpty m → (k : ℕ) (q : Piece) → tree.get nat_cmp m k ≡ Some q → ⊥
no_piece m empty k q e = none_some q (tree.get nat_cmp m k) (ap (λ entries. lookup (tree.is_at (nat_cmp k)) entries) empty) e

pub pieces_none : (m : tree.BTreeMap ℕ Piece) (bytes : List ℕ) → tree.IsEmpty m → IsPieces (tree.get nat_cmp m) bytes
pieces_none m bytes empty = record {
  rises = λ k q e. absurd (no_piece m empty k q e);
  fits = λ k q e. absurd (no_piece m empty k q e);
  inside = λ k q e. absurd (no_piece m empty k q e);
  apart = λ k q j r e f h. absurd (no_piece m empty k q e);
}

pub gives_none : (m : tree.BTreeMap ℕ Piece) (bytes : List ℕ) → tree.IsEmpty m → (address byte : ℕ) → Gives (tree.get nat_cmp m) bytes address byte → ⊥
gives_none m bytes empty address byte g = no_piece m empty g.last g.piece g.here
