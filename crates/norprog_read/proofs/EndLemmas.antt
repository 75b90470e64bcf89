-- The first byte of a part that isn't FFh, and the addresses half a chip away.
use Rattle.std.proofs.Common.{◌≡◌, ◌⊎◌, ◌<◌, ◌≤◌, ◌+◌, ◌-◌, ◌/◌, ◌==◌, ◌∙◌, ℕ, suc, Bool, true, false, cond, not, ◌||◌, List, [], ◌∷◌, length, drop, Option, None, Some, ap, refl, sym, arith, inl, inr, length-drop, length-take}
use Rattle.std.specs.Prelude.{is_some, position, slice_index}
use Rattle.std.specs.List.{position_or_len, slice_range}
use Rattle.std.proofs.lemmas.Bool.{cases_lt, eqb-true, lt-ltb}
use Rattle.std.proofs.lemmas.List.{get_or-drop, get_or-take}
use Rattle.std.proofs.lemmas.List.Folds.{list_any_at}
use Rattle.std.proofs.lemmas.List.Quantifiers.{position-Some}
use Rattle.nor_loop.specs.Reads.{chunk}
use Rattle.norprog_read.specs.declared.asked.Span.{Span}
use Rattle.norprog_read.specs.End.{has_some, IsAway}
use Rattle.norprog_read.specs.Span.{part_in}

-- nothing is given
pub none_of : {A : Type 0} (o : Option A) → is_some o ≡ false → o ≡ None
none_of None e = refl
none_of (Some x) e = cc

-- a byte isn't FFh
abbrev some : ℕ → Bool
some byte = not (byte == 0xFF)

is_erased : (byte : ℕ) → some byte ≡ false → byte ≡ 0xFF
is_erased byte e = by (byte == 0xFF) refl e
  where
    by : (b : Bool) → (byte == 0xFF) ≡ b → not b ≡ false → byte ≡ 0xFF
    by true is e = eqb-true byte 0xFF is
    by false is e = cc

-- none is such a byte
no_more : (b rest : Bool) (size at : ℕ) → suc size ≤ cond (not b) (1 + at) 0 → (size ≤ at → rest ≡ false) → (b || rest) ≡ false
no_more true rest size at e again = absurd (omega (arith, e))
no_more false rest size at e again = again (omega (arith, e))

none_some : (bytes : List ℕ) → length bytes ≤ position_or_len some bytes → has_some bytes ≡ false
none_some [] e = refl
none_some (byte ∷ bytes) e = no_more (some byte) (has_some bytes) (length bytes) (position_or_len some bytes) e (none_some bytes)

pub blank : (bytes : List ℕ) → None ≡ position some bytes → has_some bytes ≡ false
blank bytes e = elim (cases_lt (position_or_len some bytes) (length bytes)) [
  | inl below ↦
      let both : None ≡ Some (position_or_len some bytes) =
      e ∙ ap (λ b. cond b (Some (position_or_len some bytes)) None) (lt-ltb (position_or_len some bytes) (length bytes) below) in
      cc
  | inr past ↦ none_some bytes past
]

-- a byte of a part
in_part : (part : Span) (content : List ℕ) (k : ℕ) → k < part.high - part.low → slice_index (part_in part content) k ≡ slice_index content (part.low + k)
in_part part content k below = get_or-take (part.high - part.low) (drop part.low content) k 0 below ∙ get_or-drop part.low content k 0

module _ (content : List ℕ) (part : Span) (place : ℕ) (order : part.low ≤ part.high) (within : part.high ≤ length content)
    (first : Some place ≡ position some (part_in part content)) where
  size : length (part_in part content) ≡ part.high - part.low
  size = omega (arith, order, within, length-take (part.high - part.low) (drop part.low content), length-drop part.low content)

  -- there is one
  pub found : part.low + place < part.high
  found = let is = position-Some some (part_in part content) place 0 (sym first) in omega (arith, size, is.0)

  -- the bytes from there on, up to an end
  pub is_away : (end at : ℕ) → part.low + place < end → end ≤ part.high → (end ≡ part.high) ⊎ (end ≡ length content / 2)
      → (at ≡ part.low + place + length content / 2) ⊎ (part.low + place ≡ at + length content / 2)
      → at + (end - (part.low + place)) ≤ length content → IsAway content part (chunk at (slice_range content (part.low + place) end))
  is_away end at more upto all away inside =
      let from = part.low + place in
      let is = position-Some some (part_in part content) place 0 (sym first) in
      let bytes = slice_range content from end in
      let long : length bytes ≡ end - from =
      omega (arith, more, upto, within, length-take (end - from) (drop from content), length-drop from content) in
      let ends : from + length bytes ≡ end = omega (arith, long, more) in
      let here : slice_index bytes 0 ≡ slice_index (part_in part content) place =
      get_or-take (end - from) (drop from content) 0 0 (omega (arith, more)) ∙ get_or-drop from content 0 0
      ∙ ap (slice_index content) (omega arith) ∙ sym (in_part part content place (omega (arith, size, is.0))) in
      record {
        from = from;
        low = omega arith;
        high = omega (arith, ends, upto);
        bytes = ap (slice_range content from) (sym ends);
        blank = λ a low below.
            is_erased (slice_index content a)
            (ap some (ap (slice_index content) (omega (arith, low)) ∙ sym (in_part part content (a - part.low) (omega (arith, low, below, found))))
            ∙ is.2 (a - part.low) (omega (arith, low, below)));
        some = list_any_at some bytes 0 0 (omega (arith, long, more)) (ap some here ∙ is.1);
        all = elim all [ inl e ↦ inl (ends ∙ e) | inr e ↦ inr (ends ∙ e) ];
        away = away;
        within = omega (arith, long, inside);
      }
