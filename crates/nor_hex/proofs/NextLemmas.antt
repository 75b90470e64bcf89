-- Lemmas on the first segment at an address or past it, and its run.
use Prim.Native.Nat.{zero}
use Rattle.std.proofs.Common.{◌≡◌, ◌≢◌, ◌⊎◌, inl, inr, ℕ, suc, ◌+◌, ◌-◌, ◌<◌, ◌≤◌, true, false, nat_eq, nat_lt, max, leb, List, [], ◌∷◌, length, take, drop, slice_get, slice_index_or, Bor, Option, Some, None, refl, sym, subst, ap, ◌∙◌, arith}
use Rattle.std.proofs.lemmas.Bool.Decides.{eqb_tells, leb_tells}
use Rattle.std.specs.Option.{MatchOption, IfSome, is_some, option_copied}
use Rattle.std.proofs.lemmas.Option.{slice_get_past, slice_get_read}
use Rattle.std.specs.List.Sorted.{IsPartitionPoint, IsPartitionedBy}
use Rattle.std.proofs.lemmas.Bool.{ltb-true, ltb-false, lt-ltb}
use Rattle.nor_hex.proofs.ImageLemmas.{get_from_index, index_from_get}
use Rattle.nor_hex.specs.declared.segments.Segment.{Segment}
use Rattle.nor_hex.specs.Segments.{Holds, IsSegments, AreBelow, IsNextSegment, HoldsNoneFrom, IsRunIn}
use Rattle.nor_hex.proofs.ListLemmas.{some_same, get-below, get_part, length-part}

-- ---- the first segment that ends at an address or past it
get_index : (xs : List Segment) (i : ℕ) (d : Segment) → i < length xs → slice_get xs i ≡ Some (slice_index_or xs i d)
get_index xs i d h = get_from_index xs i d h

pub parted : (list : List Segment) (from : ℕ) → ((i : ℕ) (s : Segment) (j : ℕ) (t : Segment) → slice_get list i ≡ Some s → slice_get list j ≡ Some t → i ≤ j → s.last ≤ t.last) → IsPartitionedBy (λ s. nat_lt s.last from) list
parted list from rise = λ i j d le below e.
    let h = ltb-true (slice_index_or list j d).last from e in
    let up = rise i (slice_index_or list i d) j (slice_index_or list j d) (get_index list i d (omega arith)) (get_index list j d below) le in
    lt-ltb (slice_index_or list i d).last from (omega arith)

pub next_at : (list : List Segment) (from at : ℕ) (segment : Segment) → IsPartitionPoint (λ s. nat_lt s.last from ≡ true) (λ s. nat_lt s.last from ≡ false) list at → slice_get list at ≡ Some segment → IsNextSegment list from segment
next_at list from at segment point here = record {
  index = at;
  here = here;
  past = ltb-false segment.last from (subst (λ (s : Segment). nat_lt s.last from ≡ false) (index_from_get list at segment segment here).1 (point.1 at segment (omega arith) (get-below list at segment here)));
  before = λ i s e h. ltb-true s.last from (subst (λ (s : Segment). nat_lt s.last from ≡ true) (index_from_get list i s s e).1 (point.0 i s (omega arith) h));
}

pub all_below : (list : List Segment) (from at : ℕ) → at ≤ length list → IsPartitionPoint (λ s. nat_lt s.last from ≡ true) (λ s. nat_lt s.last from ≡ false) list at → slice_get list at ≡ None → AreBelow from list
all_below list from at bound point none i s e =
    let below = get-below list i s e in
    let past : length list ≤ at = no_element list at none in
    ltb-true s.last from (subst (λ (s : Segment). nat_lt s.last from ≡ true) (index_from_get list i s s e).1 (point.0 i s (omega arith) (omega arith)))
  where
    no_element : (xs : List Segment) (k : ℕ) → slice_get xs k ≡ None → length xs ≤ k
    no_element [] k e = omega arith
    no_element (x ∷ xs) zero e = absurd cc
    no_element (x ∷ xs) (suc k) e = omega (arith, no_element xs k e)

-- the segments rise
pub rising_last : (list : List Segment) (bytes : List ℕ) → IsSegments list bytes → (i : ℕ) (s : Segment) (j : ℕ) (t : Segment) → slice_get list i ≡ Some s → slice_get list j ≡ Some t → i ≤ j → s.last ≤ t.last
rising_last list bytes right i s j t e f h = by (eqb_tells i j)
  where
    by : ((nat_eq i j ≡ true) × (i ≡ j)) ⊎ ((nat_eq i j ≡ false) × (i ≢ j)) → s.last ≤ t.last
    by (inl same) = let end = ap (λ (s : Segment). s.last) (some_same s t (slice_get list j) (ap (slice_get list) (sym same.1) ∙ e) f) in omega arith
    by (inr apart) =
        let other = apart.1 in
        let lt : i < j = omega arith in
        let gap = right.apart i s j t e f lt in
        let up = right.rises j t f in
        omega arith

pub none_from : (list : List Segment) (bytes : List ℕ) (from : ℕ) → AreBelow from list → HoldsNoneFrom list bytes from
none_from list bytes from below address byte h held = let end = below held.index held.segment held.here in let to = held.to in omega arith

-- ---- the run there
module _ (list : List Segment) (bytes : List ℕ) (from at n : ℕ) (segment : Segment) (right : IsSegments list bytes) (next : IsNextSegment list from segment) (at_is : at ≡ max segment.first from) (n_is : n ≡ segment.last - at + 1) where
  upward : segment.first ≤ segment.last
  upward = right.rises next.index segment next.here

  within : segment.place + (segment.last - segment.first) < length bytes
  within = right.inside next.index segment next.here

  first_at : (at ≡ segment.first) ⊎ (at ≡ from)
  first_at = by (leb_tells from segment.first)
    where
      by : ((leb from segment.first ≡ true) × (from ≤ segment.first)) ⊎ ((leb from segment.first ≡ false) × (segment.first < from)) → (at ≡ segment.first) ⊎ (at ≡ from)
      by (inl p) = let h = p.1 in inl (omega arith)
      by (inr p) = let h = p.1 in inr (omega arith)

  bounds : (segment.first ≤ at) × (at ≤ segment.last) × (from ≤ at)
  bounds = let past = next.past in (omega arith, omega (arith, upward), omega arith)

  pub run_there : IsRunIn list bytes from at (take n (drop (segment.place + (at - segment.first)) bytes))
  run_there = record {
    past = bounds.2;
    some = omega (arith, len);
    fits = let few = right.fits next.index segment next.here in let to = bounds.1 in omega (arith, len);
    none = λ address byte from_it below held. none address byte from_it below held (cases held.index);
    given = given_there;
    ends = λ byte held. ends byte held (cases held.index);
  }
    where
      len : length (take n (drop (segment.place + (at - segment.first)) bytes)) ≡ n
      len = let there = within in let from_first = bounds.0 in let to = bounds.1 in length-part bytes n (segment.place + (at - segment.first)) (omega arith)

      cases : (k : ℕ) → (k < next.index) ⊎ ((k ≡ next.index) ⊎ (next.index < k))
      cases k = by (leb_tells next.index k) (eqb_tells k next.index)
        where
          by : ((leb next.index k ≡ true) × (next.index ≤ k)) ⊎ ((leb next.index k ≡ false) × (k < next.index)) → ((nat_eq k next.index ≡ true) × (k ≡ next.index)) ⊎ ((nat_eq k next.index ≡ false) × (k ≢ next.index)) → (k < next.index) ⊎ ((k ≡ next.index) ⊎ (next.index < k))
          by (inr p) tells = inl p.1
          by (inl p) (inl same) = inr (inl same.1)
          by (inl p) (inr apart) = let le = p.1 in let other = apart.1 in inr (inr (omega arith))

      none : (address byte : ℕ) → from ≤ address → address < at → (held : Holds list bytes address byte) → (held.index < next.index) ⊎ ((held.index ≡ next.index) ⊎ (next.index < held.index)) → ⊥
      none address byte low high held (inl h) = let end = next.before held.index held.segment held.here h in let to = held.to in omega arith
      none address byte low high held (inr (inl same)) =
          let start = ap (λ (s : Segment). s.first) (some_same held.segment segment (slice_get list next.index) (ap (slice_get list) (sym same) ∙ held.here) next.here) in
          let from_it = held.from in
          omega arith
      none address byte low high held (inr (inr h)) =
          let gap = right.apart next.index segment held.index held.segment next.here held.here h in
          let from_it = held.from in
          let to = bounds.1 in
          omega arith

      given_there : (i byte : ℕ) → slice_get (take n (drop (segment.place + (at - segment.first)) bytes)) i ≡ Some byte → Holds list bytes (at + i) byte
      given_there i byte e =
          let from_first = bounds.0 in
          let to = bounds.1 in
          let found = get_part bytes n (segment.place + (at - segment.first)) i (segment.place + (at + i - segment.first)) byte (omega arith) e in
          let below = found.0 in
          record { index = next.index; segment = segment; here = next.here; from = omega arith; to = omega arith; byte_is = found.1 }

      ends : (byte : ℕ) (held : Holds list bytes (at + length (take n (drop (segment.place + (at - segment.first)) bytes))) byte) → (held.index < next.index) ⊎ ((held.index ≡ next.index) ⊎ (next.index < held.index)) → ⊥
      ends byte held (inl h) =
          let end = next.before held.index held.segment held.here h in
          let to = held.to in
          let past = bounds.2 in
          omega arith
      ends byte held (inr (inl same)) =
          let end = ap (λ (s : Segment). s.last) (some_same held.segment segment (slice_get list next.index) (ap (slice_get list) (sym same) ∙ held.here) next.here) in
          let to = held.to in
          let at_end = bounds.1 in
          omega (arith, len)
      ends byte held (inr (inr h)) =
          let gap = right.apart next.index segment held.index held.segment next.here held.here h in
          let from_it = held.from in
          let to = bounds.1 in
          omega (arith, len)

pub next_found : (list : List Segment) (from at : ℕ) (found : Option Segment) → at ≤ length list → IsPartitionPoint (λ s. nat_lt s.last from ≡ true) (λ s. nat_lt s.last from ≡ false) list at → slice_get list at ≡ found → MatchOption found (AreBelow from list) (λ segment. IsNextSegment list from segment)
next_found list from at (Some segment) bound point e = next_at list from at segment point e
next_found list from at None bound point e = all_below list from at bound point e

-- what `get` answers is the element at the place
pub got : (list : List Segment) (at : ℕ) (found : Option (Bor Segment)) → is_some found ≡ nat_lt at (length list) → IfSome found (λ x. x.now ≡ slice_index_or list at x.now) → slice_get list at ≡ option_copied found
got list at None there item = slice_get_past list at (ltb-false at (length list) (sym there))
got list at (Some x) there item = slice_get_read list (length list) at x.now refl (ltb-true at (length list) (sym there)) item
