-- Lemmas on segments as the list of their addresses with the bytes.
use Prim.Native.Nat.{zero}
use Rattle.std.proofs.Common.{◌≡◌, ◌≢◌, ◌⊎◌, inl, inr, ℕ, suc, ◌+◌, ◌-◌, ◌^◌, ◌<◌, ◌≤◌, true, false, nat_eq, List, [], ◌∷◌, ◌++◌, length, drop, slice_get, slice_index, Option, Some, None, Contains, refl, sym, subst, ap, ◌∙◌, arith, length-append}
use Rattle.std.specs.List.{enumerate_from}
use Rattle.std.specs.List.Sorted.{IsStrictlyIncreasing}
use Rattle.std.proofs.lemmas.List.FromFn.{length-enumerate_from}
use Rattle.std.proofs.lemmas.Bool.{ne_eqb, eq-eqb}
use Rattle.std.proofs.lemmas.Bool.Decides.{eqb_tells}
use Rattle.std.proofs.lemmas.Option.{get_or_from_slice_get}
use Rattle.nor_hex.specs.declared.segments.Segment.{Segment}
use Rattle.nor_hex.specs.Image.{GivesBytes, Pairs, addresses, byte_at, IsRunFrom, HasNoneFrom}
use Rattle.nor_hex.specs.Segments.{Holds, IsSegments, HoldsNoneFrom, IsRunIn, HasLeft, pairs_of, bytes_of, size, total}
use Rattle.nor_hex.proofs.ListLemmas.{get_there, get-left, get-right, get_part, get-part, length-part, drop-here, drop-left, none_some, some_same}
use Rattle.nor_hex.proofs.ImageLemmas.{get_from_index}

-- ---- pairs whose addresses rise from `low` on
pub RisesFrom : ℕ → Pairs → Type 0
RisesFrom low [] = Unit {0}
RisesFrom low (pair ∷ pairs) = (low ≤ pair.0) × RisesFrom (pair.0 + 1) pairs

weaker : (low lower : ℕ) (pairs : Pairs) → lower ≤ low → RisesFrom low pairs → RisesFrom lower pairs
unfolding RisesFrom
weaker low lower [] h r = tt
weaker low lower (pair ∷ pairs) h r = let first = r.0 in (omega arith, r.1)

-- a run, and pairs that rise from its end on
rises_enumerated : (low at end : ℕ) (run : List ℕ) (later : Pairs) → low ≤ at → end ≡ at + length run → RisesFrom end later → RisesFrom low (enumerate_from at run ++ later)
unfolding RisesFrom
rises_enumerated low at end [] later h e r = weaker end low later (omega arith) r
rises_enumerated low at end (byte ∷ run) later h e r = (h, rises_enumerated (at + 1) (at + 1) end run later (omega arith) (omega arith) r)

-- the address at each place is past `low`, and the image gives it the byte there
pub listed : (low : ℕ) (pairs : Pairs) (i address byte : ℕ) → RisesFrom low pairs → slice_get pairs i ≡ Some (address, byte) → (low ≤ address) × (byte_at pairs address ≡ Some byte)
unfolding RisesFrom
listed low [] i address byte r e = absurd cc
listed low (pair ∷ pairs) zero address byte r e =
    let first : pair.0 ≡ address = cc in
    let second : pair.1 ≡ byte = cc in
    let low_first = r.0 in
    (omega arith, rw (first, eq-eqb address address refl, second) refl)
listed low (pair ∷ pairs) (suc i) address byte r e =
    let more = listed (pair.0 + 1) pairs i address byte r.1 e in
    let above = more.0 in
    let low_first = r.0 in
    let other : nat_eq address pair.0 ≡ false = ne_eqb address pair.0 (λ same. omega arith) in
    (omega arith, rw other more.1)

pub increasing : (low : ℕ) (pairs : Pairs) → RisesFrom low pairs → IsStrictlyIncreasing (addresses pairs)
unfolding RisesFrom
increasing low [] r = λ k h. absurd (omega arith)
increasing low (pair ∷ []) r = λ k h. absurd (omega arith)
increasing low (pair ∷ next ∷ pairs) r = by (increasing (pair.0 + 1) (next ∷ pairs) r.1)
  where
    by : IsStrictlyIncreasing (addresses (next ∷ pairs)) → (k : ℕ) → k + 1 < length (addresses (pair ∷ next ∷ pairs)) → slice_index (addresses (pair ∷ next ∷ pairs)) k < slice_index (addresses (pair ∷ next ∷ pairs)) (k + 1)
    by later zero h = let second = r.1.0 in omega arith
    by later (suc k) h =
        let e : suc k + 1 ≡ suc (k + 1) = omega arith in
        rw e (later k (omega arith))

-- ---- a run with its addresses
get-enumerated : (at : ℕ) (run : List ℕ) (i byte : ℕ) → slice_get run i ≡ Some byte → slice_get (enumerate_from at run) i ≡ Some (at + i, byte)
get-enumerated at [] i byte e = absurd cc
get-enumerated at (x ∷ run) zero byte e = let same : x ≡ byte = cc in let f : at + 0 ≡ at = omega arith in rw (f, same) refl
get-enumerated at (x ∷ run) (suc i) byte e =
    let f : at + suc i ≡ at + 1 + i = omega arith in
    rw f (get-enumerated (at + 1) run i byte e)

-- what a run and more pairs give, the run gives or the others
run_or_later : (at : ℕ) (run : List ℕ) (later : Pairs) (address byte : ℕ) → byte_at (enumerate_from at run ++ later) address ≡ Some byte → ((i : ℕ) × (slice_get run i ≡ Some byte) × (at + i ≡ address)) ⊎ (byte_at later address ≡ Some byte)
run_or_later at [] later address byte e = inr e
run_or_later at (x ∷ run) later address byte e = by (eqb_tells address at) e (run_or_later (at + 1) run later address byte)
  where
    more : ((i : ℕ) × (slice_get run i ≡ Some byte) × (at + 1 + i ≡ address)) ⊎ (byte_at later address ≡ Some byte) → ((i : ℕ) × (slice_get (x ∷ run) i ≡ Some byte) × (at + i ≡ address)) ⊎ (byte_at later address ≡ Some byte)
    more (inl p) = let sum = p.2 in inl (suc p.0, p.1, omega arith)
    more (inr f) = inr f

    by : ((nat_eq address at ≡ true) × (address ≡ at)) ⊎ ((nat_eq address at ≡ false) × (address ≢ at)) → byte_at ((at, x) ∷ (enumerate_from (at + 1) run ++ later)) address ≡ Some byte → (byte_at (enumerate_from (at + 1) run ++ later) address ≡ Some byte → ((i : ℕ) × (slice_get run i ≡ Some byte) × (at + 1 + i ≡ address)) ⊎ (byte_at later address ≡ Some byte)) → ((i : ℕ) × (slice_get (x ∷ run) i ≡ Some byte) × (at + i ≡ address)) ⊎ (byte_at later address ≡ Some byte)
    by (inl same) f further = let here = same.1 in let value : Some x ≡ Some byte = rw same.0 at f in inl (0, value, omega arith)
    by (inr apart) f further = let rest : byte_at (enumerate_from (at + 1) run ++ later) address ≡ Some byte = rw apart.0 at f in more (further rest)

-- ---- segments
-- what is left without the first
pub tail_right : (segment : Segment) (later : List Segment) (bytes : List ℕ) → IsSegments (segment ∷ later) bytes → IsSegments later bytes
tail_right segment later bytes right = record {
  rises = λ i s e. right.rises (suc i) s e;
  fits = λ i s e. right.fits (suc i) s e;
  inside = λ i s e. right.inside (suc i) s e;
  apart = λ i s j t e f h. right.apart (suc i) s (suc j) t e f (omega arith);
}

run_length : (segment : Segment) (bytes : List ℕ) → segment.first ≤ segment.last → segment.place + (segment.last - segment.first) < length bytes → length (bytes_of segment bytes) ≡ size segment
run_length segment bytes rises inside = length-part bytes (size segment) segment.place (omega arith)

pub rising : (low : ℕ) (segments : List Segment) (bytes : List ℕ) → IsSegments segments bytes → ((s : Segment) → slice_get segments 0 ≡ Some s → low ≤ s.first) → RisesFrom low (pairs_of segments bytes)
unfolding RisesFrom
rising low [] bytes right from = tt
rising low (segment ∷ later) bytes right from =
    let up = right.rises 0 segment refl in
    let len = run_length segment bytes up (right.inside 0 segment refl) in
    rises_enumerated low segment.first (segment.last + 1) (bytes_of segment bytes) (pairs_of later bytes) (from segment refl) (omega arith)
    (rising (segment.last + 1) later bytes (tail_right segment later bytes right) (λ s e. let gap = right.apart 0 segment 1 s refl e (omega arith) in omega arith))

pub whole_length : (segments : List Segment) (bytes : List ℕ) → IsSegments segments bytes → length (pairs_of segments bytes) ≡ total segments
whole_length [] bytes right = refl
whole_length (segment ∷ later) bytes right =
    let len = run_length segment bytes (right.rises 0 segment refl) (right.inside 0 segment refl) in
    omega (arith, length-append (enumerate_from segment.first (bytes_of segment bytes)) (pairs_of later bytes), length-enumerate_from segment.first (bytes_of segment bytes), whole_length later bytes (tail_right segment later bytes right))

-- what a segment has stands in the list
held_listed : (segments : List Segment) (bytes : List ℕ) (address byte index : ℕ) (segment : Segment) → slice_get segments index ≡ Some segment → segment.first ≤ address → address ≤ segment.last → slice_get bytes (segment.place + (address - segment.first)) ≡ Some byte → (i : ℕ) × (slice_get (pairs_of segments bytes) i ≡ Some (address, byte))
held_listed [] bytes address byte index segment here from to e = absurd cc
held_listed (one ∷ later) bytes address byte zero segment here from to e =
    let same : one ≡ segment = cc in
    let at : segment.first + (address - segment.first) ≡ address = omega arith in
    let inside = get-part bytes (size segment) segment.place (address - segment.first) (segment.place + (address - segment.first)) byte refl (omega arith) e in
    let there : slice_get (enumerate_from segment.first (bytes_of segment bytes)) (address - segment.first) ≡ Some (address, byte) = get-enumerated segment.first (bytes_of segment bytes) (address - segment.first) byte inside ∙ ap (λ a. Some (a, byte)) at in
    (address - segment.first, subst (λ (s : Segment). slice_get (enumerate_from s.first (bytes_of s bytes) ++ pairs_of later bytes) (address - segment.first) ≡ Some (address, byte)) (sym same) (get-left (enumerate_from segment.first (bytes_of segment bytes)) (pairs_of later bytes) (address - segment.first) (address, byte) there))
held_listed (one ∷ later) bytes address byte (suc index) segment here from to e =
    let found = held_listed later bytes address byte index segment here from to e in
    (length (enumerate_from one.first (bytes_of one bytes)) + found.0, get-right (enumerate_from one.first (bytes_of one bytes)) (pairs_of later bytes) found.0 (length (enumerate_from one.first (bytes_of one bytes)) + found.0) refl ∙ found.1)

pub byte_from_held : (segments : List Segment) (bytes : List ℕ) (address byte : ℕ) → IsSegments segments bytes → Holds segments bytes address byte → byte_at (pairs_of segments bytes) address ≡ Some byte
byte_from_held segments bytes address byte right held =
    let found = held_listed segments bytes address byte held.index held.segment held.here held.from held.to held.byte_is in
    (listed 0 (pairs_of segments bytes) found.0 address byte (rising 0 segments bytes right (λ s e. omega arith)) found.1).1

pub held_from_byte : (segments : List Segment) (bytes : List ℕ) (address byte : ℕ) → IsSegments segments bytes → byte_at (pairs_of segments bytes) address ≡ Some byte → Holds segments bytes address byte
held_from_byte [] bytes address byte right e = absurd cc
held_from_byte (one ∷ later) bytes address byte right e = by (run_or_later one.first (bytes_of one bytes) (pairs_of later bytes) address byte e) (held_from_byte later bytes address byte (tail_right one later bytes right))
  where
    further : Holds later bytes address byte → Holds (one ∷ later) bytes address byte
    further held = record { index = suc held.index; segment = held.segment; here = held.here; from = held.from; to = held.to; byte_is = held.byte_is }

    by : ((i : ℕ) × (slice_get (bytes_of one bytes) i ≡ Some byte) × (one.first + i ≡ address)) ⊎ (byte_at (pairs_of later bytes) address ≡ Some byte) → (byte_at (pairs_of later bytes) address ≡ Some byte → Holds later bytes address byte) → Holds (one ∷ later) bytes address byte
    by (inl p) rest =
        let sum = p.2 in
        let found = get_part bytes (size one) one.place p.0 (one.place + (address - one.first)) byte (omega arith) p.1 in
        let below = found.0 in
        record { index = 0; segment = one; here = refl; from = omega arith; to = omega arith; byte_is = found.1 }
    by (inr f) rest = further (rest f)

-- ---- runs
none_or_some : (x : Option ℕ) → (x ≡ None) ⊎ ((byte : ℕ) × (x ≡ Some byte))
none_or_some None = inl refl
none_or_some (Some byte) = inr (byte, refl)

module _ (segments : List Segment) (bytes : List ℕ) (right : IsSegments segments bytes) where
  none_at : (address : ℕ) → ((byte : ℕ) → Holds segments bytes address byte → ⊥) → byte_at (pairs_of segments bytes) address ≡ None
  none_at address none = by (none_or_some (byte_at (pairs_of segments bytes) address))
    where
      by : (byte_at (pairs_of segments bytes) address ≡ None) ⊎ ((byte : ℕ) × (byte_at (pairs_of segments bytes) address ≡ Some byte)) → byte_at (pairs_of segments bytes) address ≡ None
      by (inl e) = e
      by (inr p) = absurd (none p.0 (held_from_byte segments bytes address p.0 right p.1))

  pub has_none : (from : ℕ) → HoldsNoneFrom segments bytes from → HasNoneFrom (pairs_of segments bytes) from
  has_none from none address h = none_at address (λ byte held. none address byte h held)

  pub run_from : (from at : ℕ) (run : List ℕ) → IsRunIn segments bytes from at run → IsRunFrom (pairs_of segments bytes) from at run
  run_from from at run there = record {
    past = there.past;
    some = there.some;
    fits = there.fits;
    none_before = λ address low high. none_at address (λ byte held. there.none address byte low high held);
    bytes = λ i h. let found = get_there run i h in byte_from_held segments bytes (at + i) found.0 right (there.given i found.0 found.1) ∙ sym found.1;
    none_after = none_at (at + length run) there.ends;
  }

-- ---- one element of an iteration
pub left_step : (segment : Segment) (later : List Segment) (bytes : List ℕ) (done address byte : ℕ) → address ≡ segment.first + done → address ≤ segment.last → segment.place + (segment.last - segment.first) < length bytes → byte ≡ slice_index bytes (segment.place + done) → drop done (pairs_of (segment ∷ later) bytes) ≡ (address, byte) ∷ drop (done + 1) (pairs_of (segment ∷ later) bytes)
left_step segment later bytes done address byte at to inside which =
    let there : slice_get bytes (segment.place + done) ≡ Some byte = get_from_index bytes (segment.place + done) 0 (omega arith) ∙ ap Some (sym which) in
    let part = get-part bytes (size segment) segment.place done (segment.place + done) byte refl (omega arith) there in
    let here : slice_get (enumerate_from segment.first (bytes_of segment bytes)) done ≡ Some (address, byte) = get-enumerated segment.first (bytes_of segment bytes) done byte part ∙ ap (λ a. Some (a, byte)) (sym at) in
    drop-here (pairs_of (segment ∷ later) bytes) done (address, byte) (get-left (enumerate_from segment.first (bytes_of segment bytes)) (pairs_of later bytes) done (address, byte) here)

pub left_last : (segment : Segment) (later : List Segment) (bytes : List ℕ) (done : ℕ) → segment.first + done ≡ segment.last → segment.place + (segment.last - segment.first) < length bytes → drop (done + 1) (pairs_of (segment ∷ later) bytes) ≡ pairs_of later bytes
left_last segment later bytes done at inside =
    let len = run_length segment bytes (omega arith) inside in
    drop-left (enumerate_from segment.first (bytes_of segment bytes)) (pairs_of later bytes) (done + 1) (omega (arith, length-enumerate_from segment.first (bytes_of segment bytes)))

-- the image gives just what stands in its list
pub byte_from_contains : (segments : List Segment) (bytes : List ℕ) (address byte : ℕ) → IsSegments segments bytes → Contains (pairs_of segments bytes) (address, byte) → byte_at (pairs_of segments bytes) address ≡ Some byte
byte_from_contains segments bytes address byte right found =
    (listed 0 (pairs_of segments bytes) found.0 address byte (rising 0 segments bytes right (λ s e. omega arith)) (get_from_index (pairs_of segments bytes) found.0 (address, byte) found.1 ∙ ap Some found.2)).1

-- ---- what is left of an iteration
module _ (segments later : List Segment) (segment : Segment) (bytes : List ℕ) (done : ℕ) (left : HasLeft segments bytes done) (first_is : segments ≡ segment ∷ later) where
  here : slice_get segments 0 ≡ Some segment
  here = ap (λ xs. slice_get xs 0) first_is

  after : (i : ℕ) (s : Segment) → slice_get later i ≡ Some s → slice_get segments (suc i) ≡ Some s
  after i s e = ap (λ xs. slice_get xs (suc i)) first_is ∙ e

  pub left_more : segment.first + done ≤ segment.last
  left_more = left.more segment here

  pub left_fits : segment.last < 2 ^ 32
  left_fits = left.fits 0 segment here

  pub left_inside : segment.place + (segment.last - segment.first) < length bytes
  left_inside = left.inside 0 segment here

  pub left_later : HasLeft later bytes 0
  left_later = record {
    rises = λ i s e. left.rises (suc i) s (after i s e);
    fits = λ i s e. left.fits (suc i) s (after i s e);
    inside = λ i s e. left.inside (suc i) s (after i s e);
    more = λ s e. let up = left.rises 1 s (after 0 s e) in omega arith;
    none = λ e. refl;
  }

  pub left_next : (segment.first + done ≡ segment.last → ⊥) → HasLeft segments bytes (done + 1)
  left_next apart = record {
    rises = left.rises;
    fits = left.fits;
    inside = left.inside;
    more = λ s e.
        let same : segment ≡ s = some_same segment s (slice_get segments 0) here e in
        subst (λ (s : Segment). s.first + (done + 1) ≤ s.last) same (let le = left_more in omega arith);
    none = λ e. absurd (none_some segment (slice_get segments 0) (ap (λ xs. slice_get xs 0) e) here);
  }

  pub step_on : (address byte : ℕ) → address ≡ segment.first + done → byte ≡ slice_index bytes (segment.place + done) → drop done (pairs_of segments bytes) ≡ (address, byte) ∷ drop (done + 1) (pairs_of segments bytes)
  step_on address byte at which =
      let le = left_more in
      subst (λ (xs : List Segment). drop done (pairs_of xs bytes) ≡ (address, byte) ∷ drop (done + 1) (pairs_of xs bytes)) (sym first_is) (left_step segment later bytes done address byte at (omega arith) left_inside which)

  pub step_over : (address byte : ℕ) → address ≡ segment.first + done → segment.first + done ≡ segment.last → byte ≡ slice_index bytes (segment.place + done) → drop done (pairs_of segments bytes) ≡ (address, byte) ∷ pairs_of later bytes
  step_over address byte at last which =
      subst (λ (xs : List Segment). drop done (pairs_of xs bytes) ≡ (address, byte) ∷ pairs_of later bytes) (sym first_is)
      (left_step segment later bytes done address byte at (omega arith) left_inside which ∙ ap (λ more. (address, byte) ∷ more) (left_last segment later bytes done last left_inside))

-- what they give are bytes
pub gives_bytes : (segments : List Segment) (bytes : List ℕ) → IsSegments segments bytes → ((k : ℕ) → slice_index bytes k < 256) → GivesBytes (pairs_of segments bytes)
gives_bytes segments bytes right small address byte e =
    let held = held_from_byte segments bytes address byte right e in
    let place = held.segment.place + (address - held.segment.first) in
    let value : slice_index bytes place ≡ byte = get_or_from_slice_get bytes place byte 0 held.byte_is in
    let bound = small place in
    omega (arith, value, bound)
