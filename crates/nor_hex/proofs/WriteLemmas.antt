-- The parts of a text in their order.
use Rattle.std.proofs.Common.{◌≡◌, ◌⊎◌, inl, inr, ℕ, ◌+◌, ◌-◌, ◌*◌, ◌/◌, ◌%◌, ◌<◌, ◌≤◌, ◌^◌, List, [], ◌∷◌, ◌++◌, length, take, drop, Option, Result, refl, sym, ap, subst, ◌∙◌, append_assoc, append-nil, arith, min}
use Rattle.std.specs.Io.KnownBytes.{Appends}
use Rattle.std.proofs.Math.Seq.{take-add}
use Rattle.std.proofs.lemmas.Bool.{cases_lt}
use Rattle.std.proofs.lemmas.Grind.{flat_map-append}
use Rattle.std.proofs.lemmas.List.{take-append-drop, length-take-le, take_all}
use Rattle.nor_base.specs.Device.{Cuts, Writes}
use Rattle.nor_base.proofs.DeviceLaws.{Appends-append, Appends-none, Cuts-then, Cuts-more, Writes-then}
use Rattle.nor_hex.specs.WrittenRecords.{Entry, linear, end_record, record_text}
use Rattle.nor_hex.specs.WrittenSegments.{rows, part_records, image_records, text_of, hex_text}
use Rattle.nor_hex.proofs.WrittenSegmentLemmas.{joined, one_part, no_segment_of_none}

-- ---- bytes of one segment
module _ (at : ℕ) (bytes : List ℕ) (low : at < 2 ^ 32) (inside : at % 65536 + length bytes ≤ 65536) where
  one : image_records at bytes ≡ part_records at bytes
  one = one_part at bytes inside 65536 (omega (arith, low))

  split : (bytes : List ℕ) → 0 < length bytes → text_of (part_records at bytes) ≡ record_text (linear (at / 65536)) ++ text_of (rows (at % 65536) bytes)
  split [] some = absurd (omega (arith, some))
  split (x ∷ xs) some = refl

  pub part_text : 0 < length bytes → record_text (linear (at / 65536)) ++ text_of (rows (at % 65536) bytes) ≡ text_of (image_records at bytes)
  part_text some = sym (ap text_of one ∙ split bytes some)

  pub nothing : length bytes ≡ 0 → text_of (image_records at bytes) ≡ []
  nothing is = ap text_of one ∙ none bytes is
    where
      none : (bytes : List ℕ) → length bytes ≡ 0 → text_of (part_records at bytes) ≡ []
      none [] is = refl
      none (x ∷ xs) is = absurd (omega (arith, is))

-- ---- all bytes, in parts
text_append : (xs ys : List Entry) → text_of (xs ++ ys) ≡ text_of xs ++ text_of ys
text_append xs ys = flat_map-append record_text xs ys

-- the next part begins a segment, or is the first
abbrev pub IsSeam : ℕ → ℕ → Type 0
IsSeam at done = (done ≡ 0) ⊎ ((at + done) % 65536 ≡ 0)

pub parts_of : (at : ℕ) (front rest : List ℕ) → IsSeam at (length front) → image_records at (front ++ rest) ≡ image_records at front ++ image_records (at + length front) rest
parts_of at front rest (inr seam) =
    let whole : at + length front ≡ (at + length front) / 65536 * 65536 = omega (arith, seam) in
    joined at front rest ((at + length front) / 65536) whole 65536
parts_of at [] rest (inl none) =
    let same : at ≡ at + 0 = omega arith in
    ap (λ a. image_records a rest) same ∙ ap (λ es. es ++ image_records (at + 0) rest) (sym (no_segment_of_none 65536 at))
parts_of at (x ∷ xs) rest (inl none) = absurd (omega (arith, none))

module _ (at : ℕ) (bytes : List ℕ) (done n : ℕ) (seam : IsSeam at done) (within : done + n ≤ length bytes) where
  front_len : length (take done bytes) ≡ done
  front_len = length-take-le done bytes (omega (arith, within))

  seam_here : IsSeam at (length (take done bytes))
  seam_here = subst (IsSeam at) (sym front_len) seam

  more : text_of (image_records at (take (done + n) bytes)) ≡ text_of (image_records at (take done bytes)) ++ text_of (image_records (at + done) (take n (drop done bytes)))
  more =
      ap (λ xs. text_of (image_records at xs)) (take-add done n bytes)
      ∙ ap text_of (parts_of at (take done bytes) (take n (drop done bytes)) seam_here)
      ∙ text_append (image_records at (take done bytes)) (image_records (at + length (take done bytes)) (take n (drop done bytes)))
      ∙ ap (λ k. text_of (image_records at (take done bytes)) ++ text_of (image_records (at + k) (take n (drop done bytes)))) front_len

  pub part_put : (a b c : Option (List ℕ)) → Appends a b (text_of (image_records at (take done bytes)))
      → Appends b c (text_of (image_records (at + done) (take n (drop done bytes)))) → Appends a c (text_of (image_records at (take (done + n) bytes)))
  part_put a b c before this = subst (Appends a c) (sym more) (Appends-append a b c _ _ before this)

  whole : (done + n ≡ length bytes) ⊎ ((at + (done + n)) % 65536 ≡ 0) → (rest : List ℕ) × (hex_text at bytes ≡ text_of (image_records at (take (done + n) bytes)) ++ rest)
  whole (inl all) =
      let every : take (done + n) bytes ≡ bytes = take_all (done + n) bytes (omega (arith, all)) in
      (text_of (end_record ∷ []), text_append (image_records at bytes) (end_record ∷ []) ∙ ap (λ xs. text_of (image_records at xs) ++ text_of (end_record ∷ [])) (sym every))
  whole (inr next) =
      let k = done + n in
      let long : length (take (done + n) bytes) ≡ done + n = length-take-le (done + n) bytes within in
      let again : IsSeam at (length (take (done + n) bytes)) = subst (IsSeam at) (sym long) (inr next) in
      let after = image_records (at + length (take (done + n) bytes)) (drop (done + n) bytes) in (
        text_of (after ++ end_record ∷ []),
        ap (λ xs. text_of (image_records at xs ++ end_record ∷ [])) (sym (take-append-drop (done + n) bytes))
            ∙ ap (λ es. text_of (es ++ end_record ∷ [])) (parts_of at (take (done + n) bytes) (drop (done + n) bytes) again)
            ∙ ap text_of (append_assoc (image_records at (take (done + n) bytes)) (image_records (at + length (take (done + n) bytes)) (drop (done + n) bytes)) (end_record ∷ []))
            ∙ text_append (image_records at (take (done + n) bytes)) (image_records (at + length (take (done + n) bytes)) (drop (done + n) bytes) ++ end_record ∷ []),
      )

  -- what follows the part begins a segment too, if it is anything
  pub part_cut : (a b c : Option (List ℕ)) → ((done + n ≡ length bytes) ⊎ ((at + (done + n)) % 65536 ≡ 0)) → Appends a b (text_of (image_records at (take done bytes)))
      → Cuts b c (text_of (image_records (at + done) (take n (drop done bytes)))) → Cuts a c (hex_text at bytes)
  part_cut a b c next before cut =
      let all = whole next in
      subst (Cuts a c) (sym all.1) (Cuts-more a c _ all.0 (subst (Cuts a c) (sym more) (Cuts-then a b c _ _ before cut)))

-- the same of a part that is given by its end
module _ (at : ℕ) (bytes : List ℕ) (done last : ℕ) (seam : IsSeam at done) (rises : done ≤ last) (within : last ≤ length bytes) where
  exact : done + (last - done) ≡ last
  exact = omega (arith, rises)

  fits : done + (last - done) ≤ length bytes
  fits = omega (arith, rises, within)

  pub up_to_put : (a b c : Option (List ℕ)) → Appends a b (text_of (image_records at (take done bytes)))
      → Appends b c (text_of (image_records (at + done) (take (last - done) (drop done bytes)))) → Appends a c (text_of (image_records at (take last bytes)))
  up_to_put a b c before this = subst (λ k. Appends a c (text_of (image_records at (take k bytes)))) exact (part_put at bytes done (last - done) seam fits a b c before this)

  pub up_to_cut : (a b c : Option (List ℕ)) → ((last ≡ length bytes) ⊎ ((at + last) % 65536 ≡ 0)) → Appends a b (text_of (image_records at (take done bytes)))
      → Cuts b c (text_of (image_records (at + done) (take (last - done) (drop done bytes)))) → Cuts a c (hex_text at bytes)
  up_to_cut a b c next before cut =
      part_cut at bytes done (last - done) seam fits a b c
      (subst (λ k. (k ≡ length bytes) ⊎ ((at + k) % 65536 ≡ 0)) (sym exact) next) before cut

-- a part ends where the bytes or a segment end
pub next_seam : (at done room len last : ℕ) → room ≡ 65536 - (at + done) % 65536 → last ≡ min len (done + room) → (last ≡ len) ⊎ ((at + last) % 65536 ≡ 0)
next_seam at done room len last is end = by (cases_lt len (done + room))
  where
    by : (len < done + room) ⊎ (done + room ≤ len) → (last ≡ len) ⊎ ((at + last) % 65536 ≡ 0)
    by (inl short) = inl (omega (arith, end, short))
    by (inr full) =
        let here : last ≡ done + room = omega (arith, end, full) in
        inr (omega (arith, here, is))

pub still_seam : (at len last : ℕ) → (last ≡ len) ⊎ ((at + last) % 65536 ≡ 0) → last < len → IsSeam at last
still_seam at len last (inl all) below = absurd (omega (arith, all, below))
still_seam at len last (inr seam) below = inr seam

-- the end record after all
pub end_put : {T F : Type 0} (at : ℕ) (bytes : List ℕ) (done : ℕ) (a b c : Option (List ℕ)) (r : Result T F) → length bytes ≤ done
    → Appends a b (text_of (image_records at (take done bytes))) → Writes b c r (record_text end_record) → Writes a c r (hex_text at bytes)
end_put at bytes done a b c r all before last =
    subst (Writes a c r) (ap (λ text. text_of (image_records at bytes) ++ text) (sym (append-nil (record_text end_record))) ∙ sym (text_append (image_records at bytes) (end_record ∷ [])))
    (Writes-then a b c r (text_of (image_records at bytes)) (record_text end_record)
    (subst (λ xs. Appends a b (text_of (image_records at xs))) (take_all done bytes all) before) last)

pub none_put : (at : ℕ) (bytes : List ℕ) (a : Option (List ℕ)) → Appends a a (text_of (image_records at (take 0 bytes)))
none_put at bytes a = subst (Appends a a) (sym (ap text_of (no_segment_of_none 65536 at))) (Appends-none a)
