-- A written text is accepted, and its image gives just the bytes.
use Rattle.std.proofs.Common.{◌≡◌, ◌⊎◌, inl, inr, ℕ, zero, suc, ◌+◌, ◌-◌, ◌*◌, ◌<◌, ◌≤◌, ◌^◌, true, List, [], ◌∷◌, ◌++◌, length, take, map, slice_get, Option, Some, Result, Ok, refl, sym, ap, subst, ◌∙◌, arith}
use Rattle.std.specs.List.{AllByRecursion, list_any}
use Rattle.std.proofs.lemmas.Bool.{cases_lt}
use Rattle.std.proofs.lemmas.Option.{slice_get_within}
use Rattle.nor_base.specs.Array.{are_bytes}
use Rattle.nor_base.proofs.ListLaws.{all_append}
use Rattle.nor_hex.specs.declared.fault.HexFault.{HexFault}
use Rattle.nor_hex.specs.Record.{Record}
use Rattle.nor_hex.specs.Image.{Pairs, Puts}
use Rattle.nor_hex.specs.Faults.{is_end, IsAccepted, IsImage}
use Rattle.nor_hex.specs.WrittenRecords.{Entry, end_record}
use Rattle.nor_hex.specs.WrittenSegments.{bytes_in, segment_records, first_segments, image_records, text_of, hex_text}
use Rattle.nor_hex.specs.Laws.{GivesJust}
use Rattle.nor_hex.proofs.WrittenSegmentLemmas.{no_segment, one_segment_more}
use Rattle.nor_hex.proofs.WrittenRecordLemmas.{IsGood, SaysRecords, numbered, records_back}
use Rattle.nor_hex.proofs.GiveLemmas.{Gives, GivesSomewhere, Stands, get_taken, get-take, get-drop, gives_split, gives_first, gives_second, part_stands, stands_in_part, puts_gives, gives_puts}
use Rattle.nor_hex.proofs.GoodLemmas.{all_good, good_segments, good_end, no_end, some_end, all_but_last, fits_below}

module _ (at : ℕ) (bytes : List ℕ) (fits : at + length bytes ≤ 2 ^ 32) where
  -- a byte of a segment is one of all bytes
  out_of_segment : (n a b : ℕ) → Stands (at + (n * 65536 - at)) (bytes_in at bytes n) a b → Stands at bytes a b × (n * 65536 ≤ a) × (a < (n + 1) * 65536)
  out_of_segment n a b s =
      let d = n * 65536 - at in
      let t = (n + 1) * 65536 - at in
      let i = a - (at + d) in
      let reached : at + d ≤ a = s.past in
      let found = get_taken bytes t (d + i) b (sym (get-drop (take t bytes) d i (d + i) refl) ∙ s.is) in
      let place : a - at ≡ d + i = omega (arith, reached) in (
        record { past = omega (arith, reached); is = ap (slice_get bytes) place ∙ found.1 },
        omega (arith, reached),
        omega (arith, reached, found.0),
      )

  into_segment : (n a b : ℕ) → Stands at bytes a b → n * 65536 ≤ a → a < (n + 1) * 65536 → Stands (at + (n * 65536 - at)) (bytes_in at bytes n) a b
  into_segment n a b s from to =
      let d = n * 65536 - at in
      let t = (n + 1) * 65536 - at in
      let past : at ≤ a = s.past in
      let reached : at + (n * 65536 - at) ≤ a = omega (arith, past, from) in
      let place : a - at ≡ (n * 65536 - at) + (a - (at + (n * 65536 - at))) = omega (arith, reached) in
      let within : a - at < (n + 1) * 65536 - at = omega (arith, past, to) in
      record {
        past = reached;
        is = get-drop (take t bytes) d (a - (at + d)) (a - at) place ∙ get-take bytes t (a - at) b within s.is;
      }

  segments_stand : (n m : ℕ) (xs : List Record) (a b : ℕ) → Gives m xs (first_segments n at bytes) a b → Stands at bytes a b × (a < n * 65536)
  segments_stand zero m xs a b g = absurd (subst (λ es. Gives m xs es a b) (no_segment at bytes) g)
  segments_stand (suc n) m xs a b g =
      by (gives_split m xs (first_segments n at bytes) (segment_records at bytes n) a b (subst (λ es. Gives m xs es a b) (one_segment_more n at bytes) g))
      (segments_stand n m xs a b)
    where
      by : Gives m xs (first_segments n at bytes) a b ⊎ GivesSomewhere (segment_records at bytes n) a b
          → (Gives m xs (first_segments n at bytes) a b → Stands at bytes a b × (a < n * 65536)) → Stands at bytes a b × (a < suc n * 65536)
      by (inl first) earlier = let so = earlier first in let low = so.1 in (so.0, omega (arith, low))
      by (inr second) earlier =
          let so = out_of_segment n a b (part_stands second.0 (at + (n * 65536 - at)) second.1 (bytes_in at bytes n) a b (fits_below at bytes n fits) second.2) in
          let low = so.2 in
          (so.0, omega (arith, low))

  stand_in_segments : (n m : ℕ) (xs : List Record) (a b : ℕ) → Stands at bytes a b → a < n * 65536 → Gives m xs (first_segments n at bytes) a b
  stand_in_segments zero m xs a b s below = absurd (omega (arith, below))
  stand_in_segments (suc n) m xs a b s below = subst (λ es. Gives m xs es a b) (sym (one_segment_more n at bytes)) (by (cases_lt a (n * 65536)) (stand_in_segments n m xs a b s))
    where
      by : (a < n * 65536) ⊎ (n * 65536 ≤ a) → (a < n * 65536 → Gives m xs (first_segments n at bytes) a b) → Gives m xs (first_segments n at bytes ++ segment_records at bytes n) a b
      by (inl early) earlier = gives_first m xs (first_segments n at bytes) (segment_records at bytes n) a b (earlier early)
      by (inr late) earlier =
          let next : a < (n + 1) * 65536 = omega (arith, below) in
          gives_second m xs (first_segments n at bytes) (segment_records at bytes n) a b
          (λ k ys. stands_in_part k (at + (n * 65536 - at)) ys (bytes_in at bytes n) a b (fits_below at bytes n fits) (into_segment n a b s late next))

  -- all records, the end record last
  abbrev entries : ℕ → List Entry
  entries n = first_segments n at bytes ++ end_record ∷ []

  puts_stand : (n a b : ℕ) → Puts (numbered 1 (entries n)) a b → Stands at bytes a b
  puts_stand n a b puts = by (gives_split 1 [] (first_segments n at bytes) (end_record ∷ []) a b (puts_gives (entries n) a b puts))
    where
      none : (m : ℕ) (xs : List Record) → Gives m xs (end_record ∷ []) a b → Stands at bytes a b
      none m xs (inl l) = let no : 1 ≡ 0 = l.is_data in absurd (omega (arith, no))
      none m xs (inr nothing) = absurd nothing

      by : Gives 1 [] (first_segments n at bytes) a b ⊎ GivesSomewhere (end_record ∷ []) a b → Stands at bytes a b
      by (inl first) = (segments_stand n 1 [] a b first).0
      by (inr second) = none second.0 second.1 second.2

  stand_put : (n a b : ℕ) → 2 ^ 32 ≤ n * 65536 → Stands at bytes a b → Puts (numbered 1 (entries n)) a b
  stand_put n a b many s =
      let past : at ≤ a = s.past in
      let within : a - at < length bytes = slice_get_within bytes (a - at) b s.is in
      let below : a < n * 65536 = omega (arith, past, within, fits, many) in
      gives_puts (entries n) a b (gives_first 1 [] (first_segments n at bytes) (end_record ∷ []) a b (stand_in_segments n 1 [] a b s below))

  some_same : (x y : ℕ) (o : Option ℕ) → o ≡ Some x → o ≡ Some y → x ≡ y
  some_same x y o e f = cc

  consistent : (n address a b : ℕ) → Puts (numbered 1 (entries n)) address a → Puts (numbered 1 (entries n)) address b → a ≡ b
  consistent n address a b first second =
      some_same a b (slice_get bytes (address - at)) (puts_stand n address a first).is (puts_stand n address b second).is

  module _ (all : are_bytes bytes ≡ true) (says : SaysRecords) where
    each_good : (n : ℕ) → AllByRecursion IsGood (entries n)
    each_good n = all_append IsGood (first_segments n at bytes) (end_record ∷ []) (all_good (first_segments n at bytes) (good_segments n at bytes all fits)) (good_end, tt)

    accepted : (n : ℕ) → IsAccepted (text_of (entries n)) (numbered 1 (entries n))
    accepted n = record {
      each = records_back says (entries n) (each_good n);
      faultless = record {
        end_is_last = ap (list_any is_end) (all_but_last 1 (first_segments n at bytes)) ∙ no_end 1 (first_segments n at bytes) (good_segments n at bytes all fits);
        consistent = consistent n;
      };
      has_end = some_end 1 (first_segments n at bytes);
    }

    abbrev item_of : Record → Result Record HexFault
    item_of line = Ok line

    same_oks : (xs ys : List Record) → map item_of xs ≡ map item_of ys → xs ≡ ys
    same_oks [] [] e = refl
    same_oks [] (y ∷ ys) e = absurd cc
    same_oks (x ∷ xs) [] e = absurd cc
    same_oks (x ∷ xs) (y ∷ ys) e =
        let head : x ≡ y = cc in
        let tail : map item_of xs ≡ map item_of ys = cc in
        let rest = same_oks xs ys tail in cc

    gives : (n : ℕ) (image : Pairs) → 2 ^ 32 ≤ n * 65536 → IsImage (text_of (entries n)) image → GivesJust at bytes image
    gives n image many is address byte =
        let same = same_oks is.records (numbered 1 (entries n)) (sym is.accepted.each ∙ (accepted n).each) in (
          λ given. let s = puts_stand n address byte (subst (λ rs. Puts rs address byte) same (is.given address byte given)) in (s.past, s.is),
          λ stands. is.put address byte (subst (λ rs. Puts rs address byte) (sym same) (stand_put n address byte many (record { past = stands.0; is = stands.1 }))),
        )

    pub just_back : (text : List ℕ) (image : Pairs) → text ≡ hex_text at bytes → IsImage text image → GivesJust at bytes image
    just_back text image is of = gives 65536 image (omega arith) (subst (λ t. IsImage t image) is of)

    pub accepted_back : (text : List ℕ) → text ≡ hex_text at bytes → IsAccepted text (numbered 1 (image_records at bytes ++ end_record ∷ []))
    accepted_back text is = subst (λ t. IsAccepted t (numbered 1 (image_records at bytes ++ end_record ∷ []))) (sym is) (accepted 65536)
