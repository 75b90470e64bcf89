-- Parts of a list, and the first line of the bytes held.
use Rattle.std.proofs.Common.{◌≡◌, ℕ, zero, suc, ◌+◌, ◌-◌, ◌<◌, ◌≤◌, Bool, true, false, ◌||◌, List, [], ◌∷◌, ◌++◌, length, take, drop, Some, None, Result, Ok, Err, refl, sym, ◌∙◌, ap, subst, arith, append_assoc, append-nil, length-append, length-drop}
use Rattle.std.specs.Prelude.{position}
use Rattle.std.specs.List.{list_any, slice_range}
use Rattle.std.proofs.Math.Seq.{take-add}
use Rattle.std.proofs.lemmas.List.{drop-take, length-take-le, take-append-drop, take-append-le, take_all}
use Rattle.std.proofs.lemmas.List.Folds.{list_any-append}
use borrow.Rule.Slice.PartMut.{put_mid, post_of}
use Rattle.nor_base.specs.declared.device.Failed.{Failed}
use Rattle.nor_base.specs.Device.{Ahead, Takes}
use Rattle.nor_base.specs.Script.{closed, header}
use Rattle.nor_base.proofs.ListLaws.{front_and_part}
use Rattle.nor_script.specs.Faults.{is_line_feed, BeginsWith}
use Rattle.nor_script.specs.Stream.{reading}
use Rattle.nor_script.specs.Lines.{FillsPast, FillsBy, Comes}
use Rattle.nor_script.proofs.ReadLemmas.{begins, unclosed, found_below}

-- a part as what is left of the front
pub part_of_front : (xs : List ℕ) (f u : ℕ) → f ≤ u → slice_range xs f u ≡ drop f (take u xs)
part_of_front xs f u fits =
    let whole : f + (u - f) ≡ u = omega (arith, fits) in
    sym (ap (λ n. drop f (take n xs)) (sym whole) ∙ drop-take f (u - f) xs)

pub length_part : (xs : List ℕ) (f u : ℕ) → f ≤ u → u ≤ length xs → length (slice_range xs f u) ≡ u - f
length_part xs f u fits inside = length-take-le (u - f) (drop f xs) (omega (arith, fits, inside, length-drop f xs))

drop_none : (n : ℕ) → drop {A = ℕ} n [] ≡ []
drop_none zero = refl
drop_none (suc n) = refl

drop_drop : (n f : ℕ) (xs : List ℕ) → drop n (drop f xs) ≡ drop (f + n) xs
drop_drop n zero xs = let same : n ≡ 0 + n = omega arith in ap (λ k. drop k xs) same
drop_drop n (suc f) [] = drop_none n ∙ sym (drop_none (suc f + n))
drop_drop n (suc f) (x ∷ xs) = drop_drop n f xs ∙ (let same : suc f + n ≡ suc (f + n) = omega arith in ap (λ k. drop k (x ∷ xs)) (sym same))

-- what follows the first so many of a part
pub part_past : (xs : List ℕ) (f u n : ℕ) → n ≤ u - f → slice_range xs (f + n) u ≡ drop n (slice_range xs f u)
part_past xs f u n fits =
    let whole : n + (u - (f + n)) ≡ u - f = omega (arith, fits) in
    sym (ap (λ k. drop n (take k (drop f xs))) (sym whole) ∙ drop-take n (u - (f + n)) (drop f xs) ∙ ap (take (u - (f + n))) (drop_drop n f xs))

take_less : (i n : ℕ) (xs : List ℕ) → i ≤ n → take i (take n xs) ≡ take i xs
take_less zero n xs h = refl
take_less (suc i) zero xs h = absurd (omega (arith, h))
take_less (suc i) (suc n) [] h = refl
take_less (suc i) (suc n) (x ∷ xs) h = ap (λ l. x ∷ l) (take_less i n xs (omega (arith, h)))

-- the first so many of a part
pub part_front : (xs : List ℕ) (f u n : ℕ) → n ≤ u - f → slice_range xs f (f + n) ≡ take n (slice_range xs f u)
part_front xs f u n fits =
    let ends : f + n - f ≡ n = omega arith in
    ap (λ k. take k (drop f xs)) ends ∙ sym (take_less n (u - f) (drop f xs) fits)

drop_append : (xs ys : List ℕ) (n : ℕ) → n ≤ length xs → drop n (xs ++ ys) ≡ drop n xs ++ ys
drop_append xs ys zero h = refl
drop_append [] ys (suc n) h = absurd (omega (arith, h))
drop_append (x ∷ xs) ys (suc n) h = drop_append xs ys n (omega (arith, h))

-- more bytes behind a part
pub part_more : (old new more : List ℕ) (f u n : ℕ) → f ≤ u → u ≤ length old → take (u + n) new ≡ take u old ++ more
    → slice_range new f (u + n) ≡ slice_range old f u ++ more
part_more old new more f u n fits inside whole =
    let size : length (take u old) ≡ u = length-take-le u old inside in
    part_of_front new f (u + n) (omega (arith, fits)) ∙ ap (drop f) whole ∙ drop_append (take u old) more f (omega (arith, fits, size))
    ∙ ap (λ l. l ++ more) (sym (part_of_front old f u fits))

pub part_kept : (old new : List ℕ) (f u : ℕ) → f ≤ u → take u new ≡ take u old → slice_range new f u ≡ slice_range old f u
part_kept old new f u fits same = part_of_front new f u fits ∙ ap (drop f) same ∙ sym (part_of_front old f u fits)

none_in_both : (xs ys : List ℕ) → list_any is_line_feed xs ≡ false → list_any is_line_feed ys ≡ false → list_any is_line_feed (xs ++ ys) ≡ false
none_in_both xs ys p q = list_any-append is_line_feed xs ys ∙ either (list_any is_line_feed xs) (list_any is_line_feed ys) p q
  where
    either : (a b : Bool) → a ≡ false → b ≡ false → (a || b) ≡ false
    either false false p q = refl
    either true b p q = cc
    either false true p q = cc

-- no LF in the front, and none behind it
pub none_searched : (xs : List ℕ) (n : ℕ) → list_any is_line_feed (take n xs) ≡ false → position is_line_feed (drop n xs) ≡ None → list_any is_line_feed xs ≡ false
none_searched xs n front back =
    ap (list_any is_line_feed) (sym (take-append-drop n xs)) ∙ none_in_both (take n xs) (drop n xs) front (unclosed (drop n xs) back)

-- the first line, of which the front holds no LF
pub first_past : (xs : List ℕ) (n p : ℕ) → list_any is_line_feed (take n xs) ≡ false → position is_line_feed (drop n xs) ≡ Some p
    → (rest : List ℕ) × BeginsWith xs (take (n + p) xs) rest
first_past xs n p front found =
    let first = begins (drop n xs) p found in
    let rest = take (length (drop n xs) - (p + 1)) (drop (p + 1) (drop n xs)) in
    let line : take n xs ++ take p (drop n xs) ≡ take (n + p) xs = sym (take-add n p xs) in (
      rest,
      record {
        whole = sym (take-append-drop n xs) ∙ ap (λ l. take n xs ++ l) first.whole ∙ sym (append_assoc (take n xs) (closed (take p (drop n xs))) rest)
            ∙ ap (λ l. l ++ rest) (sym (append_assoc (take n xs) (take p (drop n xs)) (10 ∷ []))) ∙ ap (λ l. closed l ++ rest) line;
        one = ap (list_any is_line_feed) (sym line) ∙ none_in_both (take n xs) (take p (drop n xs)) front first.one;
      },
    )

pub found_inside : (xs : List ℕ) (n p : ℕ) → n ≤ length xs → position is_line_feed (drop n xs) ≡ Some p → n + p < length xs
found_inside xs n p fits found = omega (arith, fits, length-drop n xs, found_below (drop n xs) p found)

-- what is read of a buffer that holds these bytes from f to u
pub record IsHeld (buffer held : List ℕ) (f u : ℕ) : Type 0 where
  pub is : slice_range buffer f u ≡ held
  pub order : f ≤ u
  pub within : u ≤ length buffer

pub held_size : (buffer held : List ℕ) (f u : ℕ) → IsHeld buffer held f u → length held ≡ u - f
held_size buffer held f u p = sym (ap length p.is) ∙ length_part buffer f u p.order p.within

pub held_past : (buffer held : List ℕ) (f u n : ℕ) → IsHeld buffer held f u → n ≤ length held → slice_range buffer (f + n) u ≡ drop n held
held_past buffer held f u n p fits = part_past buffer f u n (omega (arith, fits, held_size buffer held f u p)) ∙ ap (drop n) p.is

pub read_on : (buffer held line : List ℕ) (f u l e : ℕ) → IsHeld buffer held f u → IsHeld buffer line l e → length line < length held
    → slice_range buffer (f + (e - l + 1)) u ≡ drop (length line + 1) held
read_on buffer held line f u l e p q fits =
    let size : e - l + 1 ≡ length line + 1 = ap (λ n. n + 1) (sym (held_size buffer line l e q)) in
    ap (λ n. slice_range buffer (f + n) u) size ∙ held_past buffer held f u (length line + 1) p (omega (arith, fits))

pub marked_none : (buffer held : List ℕ) (f u n : ℕ) → IsHeld buffer held f u → n ≤ length held → list_any is_line_feed (take n held) ≡ false
    → None ≡ position is_line_feed (slice_range buffer (f + n) u) → list_any is_line_feed held ≡ false
marked_none buffer held f u n p fits front found =
    none_searched held n front (sym (found ∙ ap (position is_line_feed) (held_past buffer held f u n p fits)))

pub marked_line : (buffer held : List ℕ) (f u n i : ℕ) → IsHeld buffer held f u → n ≤ length held → list_any is_line_feed (take n held) ≡ false
    → Some i ≡ position is_line_feed (slice_range buffer (f + n) u)
    → (rest : List ℕ) × BeginsWith (slice_range buffer f u) (slice_range buffer f (f + n + i)) rest
marked_line buffer held f u n i p fits front found =
    let place : position is_line_feed (drop n held) ≡ Some i = sym (found ∙ ap (position is_line_feed) (held_past buffer held f u n p fits)) in
    let first = first_past held n i front place in
    let inside : n + i ≤ u - f = omega (arith, found_inside held n i fits place, held_size buffer held f u p) in
    let ends : f + n + i ≡ f + (n + i) = omega arith in
    let line : slice_range buffer f (f + n + i) ≡ take (n + i) held =
    ap (slice_range buffer f) ends ∙ part_front buffer f u (n + i) inside ∙ ap (take (n + i)) p.is in
    (first.0, subst (λ l. BeginsWith l (slice_range buffer f (f + n + i)) first.0) (sym p.is) (subst (λ l. BeginsWith held l first.0) (sym line) first.1))

pub header_skipped : (buffer held rest : List ℕ) (f u : ℕ) → IsHeld buffer held f u → held ≡ header ++ rest → held ≡ header ++ slice_range buffer (f + 12) u
unfolding header
header_skipped buffer held rest f u p is =
    let fits : 12 ≤ length held = omega (arith, ap length is, length-append header rest) in
    is ∙ ap (λ l. header ++ l) (sym (held_past buffer held f u 12 p fits ∙ ap (drop 12) is))

pub header_inside : (buffer held rest : List ℕ) (f u : ℕ) → IsHeld buffer held f u → held ≡ header ++ rest → f + 12 ≤ u
unfolding header
header_inside buffer held rest f u p is = omega (arith, ap length is, length-append header rest, held_size buffer held f u p, p.order)

-- bytes that were put into a buffer from a place on
pub filled_past : (before after : Ahead) (xs ys : List ℕ) (a k : ℕ) (r : Result ℕ Failed) → a ≤ length xs → length ys ≡ length xs - a → Takes before after r ys
    → FillsPast (reading before xs) (reading after (put_mid a k xs ys)) a r
filled_past before after xs ys a k (Ok n) fits size takes = record {
  pulled = take n ys;
  number = length-take-le n ys takes.0;
  within =
      let whole : length (take a xs) ≡ a = length-take-le a xs fits in
      omega (arith, takes.0, length-append (take a xs) (ys ++ post_of a k xs), length-append ys (post_of a k xs));
  whole = front_and_part xs ys a k n fits takes.0;
  given = takes.1;
  over = λ none room. takes.2 none (omega (arith, size, room));
}
filled_past before after xs ys a k (Err failed) fits size takes =
    let none : a ≡ a + 0 = omega arith in
    (takes, ap (λ n. take n (put_mid a k xs ys)) none ∙ front_and_part xs ys a k 0 fits (omega arith) ∙ append-nil (take a xs))

-- a buffer that was lent, and is back
pub put_back : (items new : List ℕ) (n : ℕ) → n ≡ length items → length new ≡ length items → take n (new ++ drop (length new) items) ≡ new
put_back items new n whole size =
    take-append-le n new (drop (length new) items) (omega (arith, whole, size)) ∙ take_all n new (omega (arith, whole, size))

pub came : (before after : Ahead) (old new held : List ℕ) (f u n : ℕ) → IsHeld old held f u → u < length old → FillsBy (reading before old) (reading after new) u n
    → Comes (reading before held) (reading after (slice_range new f (u + n))) n
came before after old new held f u n p room fills = record {
  pulled = fills.pulled;
  given = fills.given;
  whole = part_more old new fills.pulled f u n p.order p.within fills.whole ∙ ap (λ l. l ++ fills.pulled) p.is;
  number = fills.number;
  over = λ none. fills.over none room;
}
