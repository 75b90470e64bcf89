-- Lemmas on images laid together.
use Prim.Native.Nat.{zero}
use Rattle.std.proofs.Common.{◌≡◌, ◌≢◌, ◌⊎◌, inl, inr, ℕ, suc, ◌+◌, ◌-◌, ◌^◌, ◌<◌, ◌≤◌, true, false, leb, List, [], ◌∷◌, ◌++◌, map, length, slice_get, slice_index, Option, Some, None, Contains, unwrap_or, refl, sym, subst, ap, ◌∙◌, arith}
use Rattle.std.specs.List.Sorted.{IsStrictlyIncreasing}
use Rattle.std.proofs.lemmas.Bool.Decides.{leb_tells}
use Rattle.nor_hex.specs.declared.segments.Segment.{Segment}
use Rattle.nor_hex.specs.Image.{Pairs, addresses, byte_at, IsRunFrom, HasNoneFrom}
use Rattle.nor_hex.specs.Pieces.{AddsRun, LaysRun}
use Rattle.nor_hex.specs.Segments.{Holds, IsSegments, SameBytes, pairs_of}
use Rattle.nor_hex.specs.Union.{AddsImage, AreAlike, HasJust, IsFirstClash, IsUnion}
use Rattle.nor_hex.proofs.ListLemmas.{get-below, get-left_back, get-right, none_some}
use Rattle.nor_hex.proofs.ImageLemmas.{contains_from_byte, get_from_index, index_from_get}
use Rattle.nor_hex.proofs.ViewLemmas.{rising, increasing, held_from_byte, byte_from_held}

-- ---- an image that is laid run after run: what lies below an address is laid
pub record LaysBelow (old new : ℕ → ℕ → Type 0) (image : Pairs) (from : ℕ) : Type 0 where
  pub fits : from ≤ 2 ^ 32
  pub given : (address byte : ℕ) → new address byte → old address byte ⊎ (byte_at image address ≡ Some byte)
  pub kept : (address byte : ℕ) → old address byte → new address byte
  pub laid : (address byte : ℕ) → address < from → byte_at image address ≡ Some byte → new address byte

pub lays_none : (old : ℕ → ℕ → Type 0) (image : Pairs) → LaysBelow old old image 0
lays_none old image = record {
  fits = omega arith;
  given = λ address byte h. inl h;
  kept = λ address byte h. h;
  laid = λ address byte h e. absurd (omega arith);
}

module _ (old mid new : ℕ → ℕ → Type 0) (image : Pairs) (from at : ℕ) (run : List ℕ) (so_far : LaysBelow old mid image from) (there : IsRunFrom image from at run) (added : AddsRun mid new at run) where
  of_run : (address byte : ℕ) → LaysRun at run address byte → byte_at image address ≡ Some byte
  of_run address byte lays = ap (byte_at image) (sym lays.at_is) ∙ there.bytes lays.index (get-below run lays.index byte lays.byte_is) ∙ lays.byte_is

  pub lays_more : LaysBelow old new image (at + length run)
  lays_more = record {
    fits = there.fits;
    given = λ address byte h. given address byte (added.given address byte h);
    kept = λ address byte h. added.kept address byte (so_far.kept address byte h);
    laid = λ address byte h e. laid address byte h e (leb_tells from address) (leb_tells at address);
  }
    where
      given : (address byte : ℕ) → mid address byte ⊎ LaysRun at run address byte → old address byte ⊎ (byte_at image address ≡ Some byte)
      given address byte (inl h) = so_far.given address byte h
      given address byte (inr lays) = inr (of_run address byte lays)

      laid : (address byte : ℕ) → address < at + length run → byte_at image address ≡ Some byte → ((leb from address ≡ true) × (from ≤ address)) ⊎ ((leb from address ≡ false) × (address < from))
          → ((leb at address ≡ true) × (at ≤ address)) ⊎ ((leb at address ≡ false) × (address < at)) → new address byte
      laid address byte h e (inr below) tells = added.kept address byte (so_far.laid address byte below.1 e)
      laid address byte h e (inl past) (inr before) = absurd (none_some byte (byte_at image address) (there.none_before address past.1 before.1) e)
      laid address byte h e (inl past) (inl inside) =
          let low = inside.1 in
          let i : at + (address - at) ≡ address = omega arith in
          added.laid address byte (record {
            index = address - at;
            byte_is = sym (there.bytes (address - at) (omega arith)) ∙ ap (byte_at image) i ∙ e;
            at_is = i;
          })

pub lays_all : (old new : ℕ → ℕ → Type 0) (image : Pairs) (from : ℕ) → LaysBelow old new image from → HasNoneFrom image from → AddsImage old new image
lays_all old new image from so_far none = record {
  given = so_far.given;
  kept = so_far.kept;
  laid = λ address byte e. laid address byte e (leb_tells from address);
}
  where
    laid : (address byte : ℕ) → byte_at image address ≡ Some byte → ((leb from address ≡ true) × (from ≤ address)) ⊎ ((leb from address ≡ false) × (address < from)) → new address byte
    laid address byte e (inr below) = so_far.laid address byte below.1 e
    laid address byte e (inl past) = absurd (none_some byte (byte_at image address) (none address past.1) e)

-- ---- what segments of such bytes give
module _ (list : List Segment) (bytes : List ℕ) (right : IsSegments list bytes) where
  pub rises : IsStrictlyIncreasing (addresses (pairs_of list bytes))
  rises = increasing 0 (pairs_of list bytes) (rising 0 list bytes right (λ s e. omega arith))

  pub union_made : (none first both : ℕ → ℕ → Type 0) (one other : Pairs) → ((address byte : ℕ) → none address byte → ⊥) → AddsImage none first one → AddsImage first both other → SameBytes both (Holds list bytes) → IsUnion one other (pairs_of list bytes)
  union_made none first both one other nothing adds_one adds_other same = record {
    rising = rises;
    given = λ address byte e. of_both address byte (adds_other.given address byte (same.given address byte (held_from_byte list bytes address byte right e)));
    of_one = λ address byte e. byte_from_held list bytes address byte right (same.kept address byte (adds_other.kept address byte (adds_one.laid address byte e)));
    of_other = λ address byte e. byte_from_held list bytes address byte right (same.kept address byte (adds_other.laid address byte e));
  }
    where
      of_first : (address byte : ℕ) → none address byte ⊎ (byte_at one address ≡ Some byte) → byte_at one address ≡ Some byte
      of_first address byte (inl h) = absurd (nothing address byte h)
      of_first address byte (inr e) = e

      of_both : (address byte : ℕ) → first address byte ⊎ (byte_at other address ≡ Some byte) → (byte_at one address ≡ Some byte) ⊎ (byte_at other address ≡ Some byte)
      of_both address byte (inl h) = inl (of_first address byte (adds_one.given address byte h))
      of_both address byte (inr e) = inr e

  pub just_made : (none all : ℕ → ℕ → Type 0) (at : ℕ) (run : List ℕ) → ((address byte : ℕ) → none address byte → ⊥) → AddsRun none all at run → SameBytes all (Holds list bytes) → HasJust at run (pairs_of list bytes)
  just_made none all at run nothing adds same = record {
    rising = rises;
    given = λ address byte e. of_run address byte (adds.given address byte (same.given address byte (held_from_byte list bytes address byte right e)));
    laid = λ address byte lays. byte_from_held list bytes address byte right (same.kept address byte (adds.laid address byte lays));
  }
    where
      of_run : (address byte : ℕ) → none address byte ⊎ LaysRun at run address byte → LaysRun at run address byte
      of_run address byte (inl h) = absurd (nothing address byte h)
      of_run address byte (inr lays) = lays

-- ---- the first clash
-- each of these pairs is alike in the other image
abbrev pub AreAlikeIn : Pairs → Pairs → Type 0
AreAlikeIn pairs other = (i address first second : ℕ) → slice_get pairs i ≡ Some (address, first) → byte_at other address ≡ Some second → first ≡ second

get_of : (image : Pairs) (address byte : ℕ) → byte_at image address ≡ Some byte → (i : ℕ) × (slice_get image i ≡ Some (address, byte))
get_of image address byte e =
    let found = contains_from_byte image address byte e in
    (found.0, get_from_index image found.0 (address, byte) found.1 ∙ ap Some found.2)

pub alike_all : (one other : Pairs) → AreAlikeIn one other → AreAlike one other
alike_all one other alike = λ address first second e f. let found = get_of one address first e in alike found.0 address first second found.1 f

-- a number of a list that rises is at most each later one
no_later : (xs : List ℕ) (i d : ℕ) → IsStrictlyIncreasing xs → i + d < length xs → slice_index xs i ≤ slice_index xs (i + d)
no_later xs i zero up h = let e : i + 0 ≡ i = omega arith in rw e (omega arith)
no_later xs i (suc d) up h =
    let earlier = no_later xs i d up (omega arith) in
    let step = up (i + d) (omega arith) in
    let e : i + suc d ≡ i + d + 1 = omega arith in
    rw e (omega arith)

get-addresses : (image : Pairs) (i address byte : ℕ) → slice_get image i ≡ Some (address, byte) → (i < length (addresses image)) × (slice_index (addresses image) i ≡ address)
get-addresses [] i address byte e = absurd cc
get-addresses (pair ∷ later) zero address byte e = let same : pair.0 ≡ address = cc in (omega arith, same)
get-addresses (pair ∷ later) (suc i) address byte e = let more = get-addresses later i address byte e in (omega (arith, more.0), more.1)

pub clash_at : (one other seen rest : Pairs) (address first second : ℕ) → IsStrictlyIncreasing (addresses one) → seen ++ (address, first) ∷ rest ≡ one → ((at byte : ℕ) → Contains one (at, byte) → byte_at one at ≡ Some byte) → AreAlikeIn seen other → byte_at other address ≡ Some second → second ≢ first → IsFirstClash one other address
clash_at one other seen rest address first second up split given alike f differ = record {
  first = first;
  second = second;
  first_is = let there = index_from_get one (length seen) (address, first) (address, first) here in given address first (length seen, there.0, there.1);
  second_is = f;
  differ = λ same. differ (sym same);
  before = λ low a b below ga gb. before low a b below (get_of one low a ga) gb;
}
  where
    here : slice_get one (length seen) ≡ Some (address, first)
    here = ap (λ xs. slice_get xs (length seen)) (sym split) ∙ get-right seen ((address, first) ∷ rest) 0 (length seen) (omega arith)

    before : (low a b : ℕ) → low < address → (i : ℕ) × (slice_get one i ≡ Some (low, a)) → byte_at other low ≡ Some b → a ≡ b
    before low a b below (i, got) gb = by (leb_tells (length seen) i)
      where
        by : ((leb (length seen) i ≡ true) × (length seen ≤ i)) ⊎ ((leb (length seen) i ≡ false) × (i < length seen)) → a ≡ b
        by (inr h) = alike i low a b (get-left_back seen ((address, first) ∷ rest) i (low, a) h.1 (ap (λ xs. slice_get xs i) split ∙ got)) gb
        by (inl h) =
            let past = h.1 in
            let its = get-addresses one i low a got in
            let at = get-addresses one (length seen) address first here in
            let e : length seen + (i - length seen) ≡ i = omega arith in
            let order = no_later (addresses one) (length seen) (i - length seen) up (omega (arith, its.0)) in
            let last : slice_index (addresses one) (length seen) ≤ slice_index (addresses one) i = subst (λ k. slice_index (addresses one) (length seen) ≤ slice_index (addresses one) k) e order in
            absurd (omega (arith, its.1, at.1))

pub another : (x : Option ℕ) (byte : ℕ) → unwrap_or x byte ≢ byte → (second : ℕ) × (x ≡ Some second) × (second ≢ byte)
another None byte differ = absurd (differ refl)
another (Some second) byte differ = (second, refl, differ)

pub no_other : (x : Option ℕ) (byte : ℕ) → unwrap_or x byte ≡ byte → (second : ℕ) → x ≡ Some second → byte ≡ second
no_other None byte e second f = absurd cc
no_other (Some given) byte e second f = let same : given ≡ second = cc in sym e ∙ same

pub alike_more : (seen : Pairs) (other : Pairs) (address first : ℕ) → AreAlikeIn seen other → ((second : ℕ) → byte_at other address ≡ Some second → first ≡ second) → AreAlikeIn (seen ++ (address, first) ∷ []) other
alike_more [] other address first alike last zero low a b e f =
    let pair : ◌≡◌ {A = ℕ × ℕ} (address, first) (low, a) = cc in
    let at : address ≡ low = ap (λ (p : ℕ × ℕ). p.0) pair in
    let byte : first ≡ a = ap (λ (p : ℕ × ℕ). p.1) pair in
    sym byte ∙ last b (ap (byte_at other) at ∙ f)
alike_more [] other address first alike last (suc i) low a b e f = absurd cc
alike_more (pair ∷ seen) other address first alike last zero low a b e f = alike 0 low a b e f
alike_more (pair ∷ seen) other address first alike last (suc i) low a b e f = alike_more seen other address first (λ j l x y g h. alike (suc j) l x y g h) last i low a b e f
