-- Lemmas on one record that is added to the bytes given so far.
use Rattle.std.proofs.Common.{◌≡◌, ◌⊎◌, inl, inr, ℕ, ◌+◌, ◌-◌, ◌<◌, ◌≤◌, true, false, leb, min, List, length, take, drop, slice_get, Some, refl, sym, subst, ap, ◌∙◌, arith}
use Rattle.std.proofs.lemmas.Bool.Decides.{leb_tells}
use Rattle.nor_hex.proofs.ListLemmas.{get-below, get_taken, get-take, get-drop}
use Rattle.nor_hex.specs.declared.base.Base.{Base}
use Rattle.nor_hex.specs.Record.{Record}
use Rattle.nor_hex.specs.Image.{Lays, address_of}
use Rattle.nor_hex.specs.Pieces.{LaysRun, AddsRun, ClashesRun}
use Rattle.nor_hex.specs.Steps.{AddsRecord, Clashes}

-- two runs are the data of a record
pub record IsCut (base : Base) (line : Record) (start again : ℕ) (front rest : List ℕ) : Type 0 where
  pub is_data : line.kind ≡ 0
  pub in_front : (i byte : ℕ) → slice_get front i ≡ Some byte → Lays base line (start + i) byte
  pub in_rest : (i byte : ℕ) → slice_get rest i ≡ Some byte → Lays base line (again + i) byte
  pub all : (at byte : ℕ) → Lays base line at byte → LaysRun start front at byte ⊎ LaysRun again rest at byte

module _ (base : Base) (line : Record) (start again : ℕ) (front rest : List ℕ) (cut : IsCut base line start again front rest) where
  from_front : (at byte : ℕ) → LaysRun start front at byte → Lays base line at byte
  from_front at byte l = subst (λ a. Lays base line a byte) l.at_is (cut.in_front l.index byte l.byte_is)

  from_rest : (at byte : ℕ) → LaysRun again rest at byte → Lays base line at byte
  from_rest at byte l = subst (λ a. Lays base line a byte) l.at_is (cut.in_rest l.index byte l.byte_is)

  pub adds_both : (old between new : ℕ → ℕ → Type 0) → AddsRun old between start front → AddsRun between new again rest → AddsRecord base line old new
  adds_both old between new first second = record {
    given = λ a b e. given a b (second.given a b e);
    kept = λ a b e. second.kept a b (first.kept a b e);
    laid = λ a b l. laid a b (cut.all a b l);
  }
    where
      of_first : (a b : ℕ) → old a b ⊎ LaysRun start front a b → old a b ⊎ Lays base line a b
      of_first a b (inl e) = inl e
      of_first a b (inr l) = inr (from_front a b l)

      given : (a b : ℕ) → between a b ⊎ LaysRun again rest a b → old a b ⊎ Lays base line a b
      given a b (inl e) = of_first a b (first.given a b e)
      given a b (inr l) = inr (from_rest a b l)

      laid : (a b : ℕ) → LaysRun start front a b ⊎ LaysRun again rest a b → new a b
      laid a b (inl l) = second.kept a b (first.laid a b l)
      laid a b (inr l) = second.laid a b l

  pub clashes_first : (old : ℕ → ℕ → Type 0) → ClashesRun old start front → Clashes base line old
  clashes_first old clash = record {
    address = clash.at;
    first = clash.first;
    second = clash.second;
    gives_first = inl clash.gives_first;
    lays_second = from_front clash.at clash.second clash.lays_second;
    differ = clash.differ;
  }

  pub clashes_then : (old between : ℕ → ℕ → Type 0) → AddsRun old between start front → ClashesRun between again rest → Clashes base line old
  clashes_then old between first clash = record {
    address = clash.at;
    first = clash.first;
    second = clash.second;
    gives_first = by (first.given clash.at clash.first clash.gives_first);
    lays_second = from_rest clash.at clash.second clash.lays_second;
    differ = clash.differ;
  }
    where
      by : old clash.at clash.first ⊎ LaysRun start front clash.at clash.first → old clash.at clash.first ⊎ Lays base line clash.at clash.first
      by (inl e) = inl e
      by (inr l) = inr (from_front clash.at clash.first l)

-- a record cut where its addresses wrap
pub is_cut : (base : Base) (line : Record) (bytes front rest : List ℕ) (offset n room start again : ℕ) → line.kind ≡ 0 → bytes ≡ line.bytes → offset ≡ line.offset → length bytes ≤ 255 → n ≡ min (length bytes) room → front ≡ take n bytes → rest ≡ drop n bytes → start ≡ address_of base (offset + 0) → again ≡ address_of base (offset + n)
    → ((i : ℕ) → i < room → address_of base (offset + i) ≡ address_of base (offset + 0) + i) → ((i : ℕ) → i < 255 → address_of base (offset + (room + i)) ≡ address_of base (offset + room) + i) → IsCut base line start again front rest
is_cut base line bytes front rest offset n room start again is_data bytes_is offset_is few n_is front_is rest_is start_is again_is straight wrapped = record {
  is_data = is_data;
  in_front = in_front;
  in_rest = in_rest;
  all = λ at byte l. all at byte l (leb_tells n l.index);
}
  where
    lays : (i byte at : ℕ) → slice_get bytes i ≡ Some byte → address_of base (offset + i) ≡ at → Lays base line at byte
    lays i byte at e there = record { is_data = is_data; index = i; byte_is = ap (λ xs. slice_get xs i) (sym bytes_is) ∙ e; address_is = ap (λ o. address_of base (o + i)) (sym offset_is) ∙ there }

    in_front : (i byte : ℕ) → slice_get front i ≡ Some byte → Lays base line (start + i) byte
    in_front i byte e =
        let found = get_taken bytes n i byte (ap (λ xs. slice_get xs i) (sym front_is) ∙ e) in
        let below = found.0 in
        lays i byte (start + i) found.1 (straight i (omega arith) ∙ ap (λ s. s + i) (sym start_is))

    in_rest : (i byte : ℕ) → slice_get rest i ≡ Some byte → Lays base line (again + i) byte
    in_rest i byte e =
        let found : slice_get bytes (n + i) ≡ Some byte = sym (get-drop bytes n i (n + i) refl) ∙ ap (λ xs. slice_get xs i) (sym rest_is) ∙ e in
        let below = get-below bytes (n + i) byte found in
        let at_room : n ≡ room = omega arith in
        lays (n + i) byte (again + i) found (ap (λ m. address_of base (offset + (m + i))) at_room ∙ wrapped i (omega arith) ∙ ap (λ m. address_of base (offset + m) + i) (sym at_room) ∙ ap (λ s. s + i) (sym again_is))

    all : (at byte : ℕ) (l : Lays base line at byte) → ((leb n l.index ≡ true) × (n ≤ l.index)) ⊎ ((leb n l.index ≡ false) × (l.index < n)) → LaysRun start front at byte ⊎ LaysRun again rest at byte
    all at byte l (inr p) =
        let below = p.1 in
        let here : slice_get bytes l.index ≡ Some byte = ap (λ xs. slice_get xs l.index) bytes_is ∙ l.byte_is in
        inl (record {
          index = l.index;
          byte_is = ap (λ xs. slice_get xs l.index) front_is ∙ get-take bytes n l.index byte below here;
          at_is = ap (λ s. s + l.index) start_is ∙ sym (straight l.index (omega arith)) ∙ ap (λ o. address_of base (o + l.index)) offset_is ∙ l.address_is;
        })
    all at byte l (inl p) =
        let le = p.1 in
        let here : slice_get bytes l.index ≡ Some byte = ap (λ xs. slice_get xs l.index) bytes_is ∙ l.byte_is in
        let below = get-below bytes l.index byte here in
        let at_room : n ≡ room = omega arith in
        let index_is : room + (l.index - n) ≡ l.index = omega arith in
        inr (record {
          index = l.index - n;
          byte_is = ap (λ xs. slice_get xs (l.index - n)) rest_is ∙ get-drop bytes n (l.index - n) l.index (omega arith) ∙ here;
          at_is = ap (λ s. s + (l.index - n)) again_is ∙ ap (λ m. address_of base (offset + m) + (l.index - n)) at_room ∙ sym (wrapped (l.index - n) (omega arith)) ∙ ap (λ m. address_of base (offset + m)) index_is ∙ ap (λ o. address_of base (o + l.index)) offset_is ∙ l.address_is;
        })
