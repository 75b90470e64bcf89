-- One part of a raw image after another.
use Rattle.std.proofs.Common.{◌≡◌, ◌⊎◌, inl, inr, ℕ, ◌+◌, ◌-◌, ◌%◌, ◌<◌, ◌≤◌, List, [], ◌∷◌, ◌++◌, length, take, Option, min, refl, sym, ap, subst, ◌∙◌, append-nil, arith, length-append, length-take-le}
use Rattle.std.specs.Io.KnownBytes.{Appends}
use Rattle.std.proofs.lemmas.Bool.{cases_lt}
use Rattle.std.proofs.lemmas.Grind.{flat_map-append}
use Rattle.nor_base.specs.Device.{Ahead, Gives, IsAtEnd, Cuts, Unknown, Finite, Endless}
use Rattle.nor_base.proofs.DeviceLaws.{Appends-append, Appends-none, Cuts-more, Cuts-then, Gives-append}
use Rattle.nor_hex.specs.WrittenRecords.{Entry, end_record, record_text}
use Rattle.nor_hex.specs.WrittenSegments.{image_records, text_of, hex_text}
use Rattle.nor_hex.specs.Laws.{PartsJoin, NoneHaveNone}
use Rattle.nor_hex.specs.declared.converted.Unconverted.{Unconverted}
use Rattle.nor_hex.specs.declared.converted.Unconverted.TheVariants.{Image}
use Rattle.nor_hex.specs.Converted.{IsConverted, IsCutPart, IsShort, IsLong, IsUnended, HasMore, Stops, Unreadable, Unwritable, Unallotted, WasRead}
use Rattle.nor_base.specs.Wire.{wire}

abbrev pub IsSeam : ℕ → ℕ → Type 0
IsSeam at done = (done ≡ 0) ⊎ ((at + done) % 65536 ≡ 0)

text_append : (xs ys : List Entry) → text_of (xs ++ ys) ≡ text_of xs ++ text_of ys
text_append xs ys = flat_map-append record_text xs ys

whole_text : (at : ℕ) (bytes : List ℕ) → hex_text at bytes ≡ text_of (image_records at bytes) ++ record_text end_record
whole_text at bytes = text_append (image_records at bytes) (end_record ∷ []) ∙ ap (λ text. text_of (image_records at bytes) ++ text) (append-nil (record_text end_record))

-- a record has a colon at least
some : (entry : Entry) → 0 < length (record_text entry)
unfolding record_text
some entry = omega arith

-- no byte of the end record is put
pub none_put : (held : Option (List ℕ)) → Cuts held held (record_text end_record)
none_put held = (0, some end_record, Appends-none held)

gives_none : (ahead : Ahead) → Gives ahead [] ahead
gives_none Unknown = tt
gives_none (Finite bytes) = refl
gives_none (Endless byte_at) = ((λ k inside. absurd (omega (arith, inside))), (λ k. ap byte_at (omega arith)))

-- nothing is read yet
pub none_read : (at : ℕ) (ahead : Ahead) (held : Option (List ℕ)) → NoneHaveNone → WasRead at 0 (wire held ahead) (wire held ahead)
none_read at ahead held none = record {
  bytes = [];
  long = refl;
  given = gives_none ahead;
  put = subst (Appends held held) (sym (ap text_of (none at))) (Appends-none held);
}

module _ (at done n : ℕ) (a b c : Ahead) (h i j : Option (List ℕ)) (before : WasRead at done (wire h a) (wire i b)) where
  both : PartsJoin → IsSeam at done → (part : List ℕ) → text_of (image_records at (before.bytes ++ part)) ≡ text_of (image_records at before.bytes) ++ text_of (image_records (at + done) part)
  both joins seam part =
      ap text_of (joins at before.bytes part (subst (IsSeam at) (sym before.long) seam))
      ∙ text_append (image_records at before.bytes) (image_records (at + length before.bytes) part)
      ∙ ap (λ k. text_of (image_records at before.bytes) ++ text_of (image_records (at + k) part)) before.long

  pub more_read : PartsJoin → IsSeam at done → WasRead (at + done) n (wire i b) (wire j c) → WasRead at (done + n) (wire h a) (wire j c)
  more_read joins seam this = record {
    bytes = before.bytes ++ this.bytes;
    long = length-append before.bytes this.bytes ∙ ap (λ k. k + length this.bytes) before.long ∙ ap (λ k. done + k) this.long;
    given = Gives-append a b c before.bytes this.bytes before.given this.given;
    put = subst (Appends h j) (sym (both joins seam this.bytes)) (Appends-append h i j _ _ before.put this.put);
  }

  -- too few bytes in a part are too few in all; more than all are too many
  pub still_short : (len : ℕ) → done + n ≤ len → IsShort n b → IsShort len a
  still_short len within short =
      let so_far = before.long in
      let fewer = short.1 in (
        before.bytes ++ short.0,
        omega (arith, fewer, so_far, within, length-append before.bytes short.0),
        (short.2.0, Gives-append a b short.2.0 before.bytes short.0 before.given short.2.1, short.2.2),
      )

  pub still_more : HasMore b → IsLong done a
  still_more more =
      let so_far = before.long in
      let some = more.2 in
      (before.bytes ++ more.0, more.1, omega (arith, some, so_far, length-append before.bytes more.0), Gives-append a b more.1 before.bytes more.0 before.given more.3)

  -- the end record after all of them, or a proper prefix of it
  pub all_written : Gives b [] c → IsAtEnd c → Appends i j (record_text end_record) → IsConverted at done a h j
  all_written none end put = record {
    bytes = before.bytes;
    long = before.long;
    whole = (c, subst (λ bytes. Gives a bytes c) (append-nil before.bytes) (Gives-append a b c before.bytes [] before.given none), end);
    put = subst (Appends h j) (sym (whole_text at before.bytes)) (Appends-append h i j _ _ before.put put);
  }

  pub end_cut : Cuts i j (record_text end_record) → IsUnended at h j
  end_cut cut = (before.bytes, subst (Cuts h j) (sym (whole_text at before.bytes)) (Cuts-then h i j _ _ before.put cut))

  -- a part of which nothing more is put
  pub part_cut : PartsJoin → IsSeam at done → IsCutPart (at + done) i j → IsUnended at h j
  part_cut joins seam (inl same) = end_cut (subst (λ held. Cuts i held (record_text end_record)) (sym same) (none_put i))
  part_cut joins seam (inr (part, cut)) = (
    before.bytes ++ part,
    subst (Cuts h j) (sym (whole_text at (before.bytes ++ part)))
        (Cuts-more h j _ _ (subst (Cuts h j) (sym (both joins seam part)) (Cuts-then h i j _ _ before.put cut))),
  )

pub unreadable : {A B : Type 0} (why : Unconverted) → (why ≡ Image) × A → Stops A B why
unreadable {A} {B} why is = subst (Stops A B) (sym is.0) (Unreadable is.1)

pub stops_wider : {A B C D : Type 0} (why : Unconverted) → (A → B) → (C → D) → Stops A C why → Stops B D why
stops_wider why f g (Unreadable a) = Unreadable (f a)
stops_wider why f g (Unwritable c) = Unwritable (g c)
stops_wider why f g Unallotted = Unallotted

-- a part ends where the bytes or a segment end
pub next_seam : (at done room len last : ℕ) → room ≡ 65536 - (at + done) % 65536 → last ≡ min len (done + room) → last < len → IsSeam at last
next_seam at done room len last is end below = by (cases_lt len (done + room))
  where
    by : (len < done + room) ⊎ (done + room ≤ len) → IsSeam at last
    by (inl short) = absurd (omega (arith, end, short, below))
    by (inr full) =
        let here : last ≡ done + room = omega (arith, end, full) in
        inr (omega (arith, here, is))

-- the front of a buffer
pub of_length : (buffer : List ℕ) (n : ℕ) → n ≤ length buffer → length (take n buffer) ≡ n
of_length buffer n fits = length-take-le n buffer fits
