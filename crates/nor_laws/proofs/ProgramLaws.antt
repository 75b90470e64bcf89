-- What a program puts where, and when it is barred.
use Rattle.std.proofs.Common.{◌≡◌, ◌≢◌, ℕ, zero, suc, ◌+◌, ◌<◌, ◌==◌, Bool, true, false, not, ◌&&◌, if◌then◌else◌, List, length, Option, Some, None, Result, Ok, Err, refl, sym, ◌∙◌, ap, subst, arith, inl, inr, eqb-true, eq-eqb}
use Rattle.std.proofs.lemmas.Bool.{and_parts, ne_eqb, not-false, not-true}
use Rattle.std.specs.Prelude.{bit_and}
use Rattle.std.specs.List.{slice_index}
use Rattle.std.specs.Option.{option_map_or}
use Rattle.std.proofs.lemmas.Bool.Decides.{eqb_tells}
use Rattle.nor_base.specs.declared.instruction.What.{What}
use Rattle.nor_base.specs.declared.instruction.What.TheVariants as what
use Rattle.nor_base.specs.declared.wrong.Wrong.{Wrong}
use Rattle.nor_base.specs.declared.wrong.Wrong.TheVariants as wrong
use Rattle.nor_base.specs.Parameters.{Parameters}
use Rattle.nor_base.specs.Decoding.{Instruction}
use Rattle.nor_base.specs.Chip.{Setting, Chip, is_busy}
use Rattle.nor_base.specs.Effect.{is_broken, is_status, is_quad, is_program, needs_latch, is_out_of_range, place, last_byte_for, written, may_program, is_barred, barred, programmed, after, effect_of}
use Rattle.nor_laws.specs.Laws.{IsLastFor, HasBar}
use Rattle.nor_base.proofs.ArrayLaws.{slice_index-each, some-false, some-true}
use Rattle.nor_laws.proofs.EffectLaws.{taken}

-- of the first n bytes of a program, byte j is the last that goes to x
pub record IsLastOf (page address n x j : ℕ) : Type 0 where
  pub sent : j < n
  pub here : place page address j ≡ x
  pub last : (k : ℕ) → j < k → k < n → place page address k ≢ x

last_is_written : (page address : ℕ) (bytes : List ℕ) (n x j : ℕ) → IsLastOf page address n x j → last_byte_for page address bytes n x ≡ Some (slice_index bytes j)
unfolding last_byte_for
last_is_written page address bytes zero x j h = absurd (omega (arith, h.sent))
last_is_written page address bytes (suc n) x j h = elim (eqb_tells j n) [
  | inl same ↦
      let goes : (place page address n == x) ≡ true = eq-eqb (place page address n) x (ap (place page address) (sym same.1) ∙ h.here) in
      rw goes (ap (λ k. Some (slice_index bytes k)) (sym same.1))
  | inr other ↦
      let apart = other.1 in
      let earlier : j < n = omega (arith, h.sent) in
      rw (ne_eqb (place page address n) x (h.last n earlier (omega arith)))
      (last_is_written page address bytes n x j (record { sent = earlier; here = h.here; last = λ k later fits. h.last k later (omega arith) }))
]

-- what is written is some last byte
pub record IsWritten (page address : ℕ) (bytes : List ℕ) (n x byte : ℕ) : Type 0 where
  pub j : ℕ
  pub is_last : IsLastOf page address n x j
  pub byte_is : byte ≡ slice_index bytes j

written_step : (page address : ℕ) (bytes : List ℕ) (n x byte : ℕ) (b : Bool) → (place page address n == x) ≡ b
    → (last_byte_for page address bytes n x ≡ Some byte → IsWritten page address bytes n x byte)
    → (if b then Some (slice_index bytes n) else last_byte_for page address bytes n x) ≡ Some byte → IsWritten page address bytes (suc n) x byte
written_step page address bytes n x byte true is later h = record {
  j = n;
  is_last = record { sent = omega arith; here = eqb-true (place page address n) x is; last = λ k after before. absurd (omega arith) };
  byte_is = let same : slice_index bytes n ≡ byte = cc in sym same;
}
written_step page address bytes n x byte false is later h = let found = later h in record {
  j = found.j;
  is_last = record {
    sent = omega (arith, found.is_last.sent);
    here = found.is_last.here;
    last = λ k after before. elim (eqb_tells k n) [
      | inl same ↦ λ goes.
          let passes : (place page address n == x) ≡ true = eq-eqb (place page address n) x (ap (place page address) (sym same.1) ∙ goes) in
          let both : true ≡ false = sym passes ∙ is in cc
      | inr other ↦ let apart = other.1 in found.is_last.last k after (omega arith)
    ];
  };
  byte_is = found.byte_is;
}

pub is_written : (page address : ℕ) (bytes : List ℕ) (n x byte : ℕ) → last_byte_for page address bytes n x ≡ Some byte → IsWritten page address bytes n x byte
unfolding last_byte_for
is_written page address bytes zero x byte h = cc
is_written page address bytes (suc n) x byte h =
    written_step page address bytes n x byte (place page address n == x) refl (is_written page address bytes n x byte) h

for_whole : (page address : ℕ) (bytes : List ℕ) (x j : ℕ) → IsLastFor page address bytes x j → IsLastOf page address (length bytes) x j
for_whole page address bytes x j h = record { sent = h.sent; here = h.here; last = h.last }

programmed_puts : (page address : ℕ) (bytes array : List ℕ) (x j : ℕ) → x < length array → IsLastFor page address bytes x j
    → slice_index (programmed page address bytes array) x ≡ bit_and (slice_index array x) (slice_index bytes j)
unfolding programmed
programmed_puts page address bytes array x j inside h =
    slice_index-each _ array x inside
    ∙ ap (λ o. option_map_or (bit_and (slice_index array x)) o (slice_index array x)) (last_is_written page address bytes (length bytes) x j (for_whole page address bytes x j h))

-- what isn't barred may be programmed
pub may_at : (m : Parameters) (page address : ℕ) (bytes array : List ℕ) (x j : ℕ) → x < length array → IsLastFor page address bytes x j
    → is_barred m page address bytes array ≡ false → may_program m (slice_index array x) (slice_index bytes j) ≡ true
unfolding is_barred
may_at m page address bytes array x j inside h free =
    let here = some-false (λ y old. option_map_or (λ byte. not (may_program m old byte)) (written page address bytes y) false) array x free inside in
    not-false _
    (ap (λ o. option_map_or (λ byte. not (may_program m (slice_index array x) byte)) o false) (sym (last_is_written page address bytes (length bytes) x j (for_whole page address bytes x j h))) ∙ here)

after_program : (s : Setting) (c : Chip) (i : Instruction) (w : What) → is_program w ≡ true → (after s c i w).array ≡ programmed s.page i.address i.sent c.array
unfolding after
after_program s c i what.Program h = refl
after_program s c i what.QuadProgram h = refl
after_program s c i other h = cc

pub program_puts_byte : (s : Setting) (c d : Chip) (i : Instruction) (bytes : List ℕ) (x j : ℕ) → is_program i.what ≡ true
    → effect_of s c i ≡ Ok (d, bytes) → x < length c.array → IsLastFor s.page i.address i.sent x j
    → (slice_index d.array x ≡ bit_and (slice_index c.array x) (slice_index i.sent j))
    × (may_program s.meaning (slice_index c.array x) (slice_index i.sent j) ≡ true)
program_puts_byte s c d i bytes x j program h inside goes =
    let t = taken s c i d bytes h in
    let free : is_barred s.meaning s.page i.address i.sent c.array ≡ false =
    ap (λ b. b && is_barred s.meaning s.page i.address i.sent c.array) (sym program) ∙ t.may in
    let put : slice_index d.array x ≡ bit_and (slice_index c.array x) (slice_index i.sent j) =
    ap (λ (e : Chip). slice_index e.array x) t.chip ∙ ap (λ array. slice_index array x) (after_program s c i i.what program)
    ∙ programmed_puts s.page i.address i.sent c.array x j inside goes in
    (put, may_at s.meaning s.page i.address i.sent c.array x j inside goes free)

-- past a line that isn't the wrong that was said
past_other : {A : Type 0} (b : Bool) (why said : Wrong) (rest : Result A Wrong) → why ≢ said → (if b then Err why else rest) ≡ Err said → rest ≡ Err said
past_other true why said rest apart h = let same : why ≡ said = cc in absurd (apart same)
past_other false why said rest apart h = h

said_here : {A : Type 0} (b : Bool) (why said : Wrong) (x : A) → (if b then Err why else Ok x) ≡ Err said → (b ≡ true) × (why ≡ said)
said_here true why said x h = (refl, cc)
said_here false why said x h = cc

-- a program is refused by the last line
last_line : (s : Setting) (c : Chip) (i : Instruction) (said : Wrong) → wrong.Ignored ≢ said → wrong.OutOfRange ≢ said → effect_of s c i ≡ Err said
    → (is_barred s.meaning s.page i.address i.sent c.array ≡ true) × (barred s.meaning ≡ said)
unfolding effect_of
last_line s c i said not_ignored not_outside h =
    let a = past_other (is_broken i.what) wrong.Ignored said _ not_ignored h in
    let b = past_other (not (is_status i.what) && is_busy c.left) wrong.Ignored said _ not_ignored a in
    let e = past_other (is_quad i.what && not s.start.quad) wrong.Ignored said _ not_ignored b in
    let f = past_other (needs_latch s.meaning i.what && not c.latch) wrong.Ignored said _ not_ignored e in
    let g = past_other (is_out_of_range s.meaning i) wrong.OutOfRange said _ not_outside f in
    let last = said_here (is_program i.what && is_barred s.meaning s.page i.address i.sent c.array) (barred s.meaning) said _ g in
    ((and_parts (is_program i.what) _ last.0).1, last.1)

bar_found : (s : Setting) (c : Chip) (i : Instruction) (x : ℕ) (o : Option ℕ) → x < length c.array → written s.page i.address i.sent x ≡ o
    → option_map_or (λ byte. not (may_program s.meaning (slice_index c.array x) byte)) o false ≡ true → HasBar s c i
bar_found s c i x None inside is h = cc
bar_found s c i x (Some byte) inside is h =
    let found = is_written s.page i.address i.sent (length i.sent) x byte is in record {
      at = x;
      byte = found.j;
      inside = inside;
      goes = record { sent = found.is_last.sent; here = found.is_last.here; last = found.is_last.last };
      bars = ap (may_program s.meaning (slice_index c.array x)) (sym found.byte_is) ∙ not-true _ h;
    }

bar_for_byte : (s : Setting) (c : Chip) (i : Instruction) → is_barred s.meaning s.page i.address i.sent c.array ≡ true → HasBar s c i
unfolding is_barred
bar_for_byte s c i h =
    let found = some-true (λ y old. option_map_or (λ byte. not (may_program s.meaning old byte)) (written s.page i.address i.sent y) false) c.array h in
    let start : 0 + found.at ≡ found.at = omega arith in
    bar_found s c i found.at (written s.page i.address i.sent found.at) found.inside refl
    (subst (λ x. option_map_or (λ byte. not (may_program s.meaning (slice_index c.array found.at) byte)) (written s.page i.address i.sent x) false ≡ true) start found.passes)

-- which wrong a barred program is tells the profile
says_raised : (b : Bool) → (if b then wrong.NotErased else wrong.Raised) ≡ wrong.Raised → b ≡ false
says_raised true h = cc
says_raised false h = refl

says_not_erased : (b : Bool) → (if b then wrong.NotErased else wrong.Raised) ≡ wrong.NotErased → b ≡ true
says_not_erased true h = refl
says_not_erased false h = cc

pub raised_for_byte : (s : Setting) (c : Chip) (i : Instruction) → effect_of s c i ≡ Err wrong.Raised → HasBar s c i × (s.meaning.erased_only ≡ false)
raised_for_byte s c i h =
    let last = last_line s c i wrong.Raised (λ e. cc) (λ e. cc) h in
    (bar_for_byte s c i last.0, says_raised s.meaning.erased_only last.1)

pub not_erased_for_byte : (s : Setting) (c : Chip) (i : Instruction) → effect_of s c i ≡ Err wrong.NotErased → HasBar s c i × (s.meaning.erased_only ≡ true)
not_erased_for_byte s c i h =
    let last = last_line s c i wrong.NotErased (λ e. cc) (λ e. cc) h in
    (bar_for_byte s c i last.0, says_not_erased s.meaning.erased_only last.1)
