-- What an effect changes, and what it is judged by.
use Rattle.std.proofs.Common.{◌≡◌, ◌≢◌, ℕ, zero, suc, ◌+◌, ◌%◌, ◌<◌, ◌≤◌, Bool, true, false, not, ◌&&◌, if◌then◌else◌, List, length, Option, Some, None, Result, Ok, Err, refl, sym, ◌∙◌, ap, subst, arith, inl, inr}
use Rattle.std.specs.List.{slice_index}
use Rattle.std.specs.Option.{option_map_or}
use Rattle.std.proofs.Math.Nat.{mod-lt}
use Rattle.std.proofs.lemmas.Bool.{cases_lt, ne_eqb}
use Rattle.nor_base.specs.declared.instruction.What.{What}
use Rattle.nor_base.specs.declared.instruction.What.TheVariants as what
use Rattle.nor_base.specs.declared.wrong.Wrong.{Wrong}
use Rattle.nor_base.specs.declared.wrong.Wrong.TheVariants as wrong
use Rattle.nor_base.specs.Parameters.{Parameters, block_size}
use Rattle.nor_base.specs.Decoding.{Instruction, decode}
use Rattle.nor_base.specs.Chip.{Setting, Chip, is_busy}
use Rattle.nor_base.specs.Effect.{is_broken, is_status, is_quad, is_program, needs_latch, is_out_of_range, place, last_byte_for, written, may_program, is_barred, barred, programmed, erased, after, answer, effect_of, effect_if, effect, wrong_of, page_start}
use Rattle.nor_laws.specs.Laws.{SameWithin}
use Rattle.nor_base.specs.Array.{IsOutside}
use Rattle.nor_base.proofs.ArrayLaws.{length-each, each_keeps, some_same, erased_fills, erased_keeps}

-- an instruction that the chip takes
pub record IsTaken (s : Setting) (c : Chip) (i : Instruction) (d : Chip) (bytes : List ℕ) : Type 0 where
  pub known : is_broken i.what ≡ false
  pub idle : not (is_status i.what) && is_busy c.left ≡ false
  pub quad : is_quad i.what && not s.start.quad ≡ false
  pub latched : needs_latch s.meaning i.what && not c.latch ≡ false
  pub in_range : is_out_of_range s.meaning i ≡ false
  pub may : is_program i.what && is_barred s.meaning s.page i.address i.sent c.array ≡ false
  pub chip : d ≡ after s c i i.what
  pub answer : bytes ≡ answer c i i.what

-- past a line that doesn't apply
past_line : {A : Type 0} (b : Bool) (why : Wrong) (rest : Result A Wrong) (x : A) → (if b then Err why else rest) ≡ Ok x → (b ≡ false) × (rest ≡ Ok x)
past_line true why rest x h = cc
past_line false why rest x h = (refl, h)

pub taken : (s : Setting) (c : Chip) (i : Instruction) (d : Chip) (bytes : List ℕ) → effect_of s c i ≡ Ok (d, bytes) → IsTaken s c i d bytes
unfolding effect_of
taken s c i d bytes h =
    let a = past_line (is_broken i.what) wrong.Ignored _ (d, bytes) h in
    let b = past_line (not (is_status i.what) && is_busy c.left) wrong.Ignored _ (d, bytes) a.1 in
    let e = past_line (is_quad i.what && not s.start.quad) wrong.Ignored _ (d, bytes) b.1 in
    let f = past_line (needs_latch s.meaning i.what && not c.latch) wrong.Ignored _ (d, bytes) e.1 in
    let g = past_line (is_out_of_range s.meaning i) wrong.OutOfRange _ (d, bytes) f.1 in
    let r = past_line (is_program i.what && is_barred s.meaning s.page i.address i.sent c.array) (barred s.meaning) _ (d, bytes) g.1 in
    let last : (after s c i i.what, answer c i i.what) ≡ (d, bytes) = cc in
    record {
      known = a.0;
      idle = b.0;
      quad = e.0;
      latched = f.0;
      in_range = g.0;
      may = r.0;
      chip = sym (ap (λ (p : Chip × List ℕ). p.0) last);
      answer = sym (ap (λ (p : Chip × List ℕ). p.1) last);
    }

length-after : (s : Setting) (c : Chip) (i : Instruction) (w : What) → length (after s c i w).array ≡ length c.array
unfolding after erased programmed
length-after s c i what.Enable = refl
length-after s c i what.Disable = refl
length-after s c i what.Status = refl
length-after s c i what.Enter = refl
length-after s c i what.Leave = refl
length-after s c i (what.Erase kind) = length-each _ c.array
length-after s c i what.Program = length-each _ c.array
length-after s c i what.QuadProgram = length-each _ c.array
length-after s c i what.Read = refl
length-after s c i what.QuadRead = refl
length-after s c i what.Broken = refl

decoded_keeps_size : (s : Setting) (c d : Chip) (seen : Option Instruction) (bytes : List ℕ) → effect_if s c seen ≡ Ok (d, bytes) → length d.array ≡ length c.array
decoded_keeps_size s c d None bytes h = cc
decoded_keeps_size s c d (Some i) bytes h = ap (λ (e : Chip). length e.array) (taken s c i d bytes h).chip ∙ length-after s c i i.what

pub keeps_size : (s : Setting) (c d : Chip) (clocks bytes : List ℕ) → effect s c clocks ≡ Ok (d, bytes) → length d.array ≡ length c.array
unfolding effect
keeps_size s c d clocks bytes h = decoded_keeps_size s c d (decode s.meaning c.mode4 clocks) bytes h

-- no byte of a program goes outside its page
none_outside : (page address : ℕ) (bytes : List ℕ) (n x : ℕ) → 0 < page → IsOutside (page_start page address) (page_start page address + page) x
    → last_byte_for page address bytes n x ≡ None
unfolding last_byte_for
none_outside page address bytes zero x some_page outside = refl
none_outside page address bytes (suc j) x some_page outside =
    let in_page : (address + j) % page < page = mod-lt (address + j) some_page in
    let apart : place page address j ≢ x = λ same. elim outside [ inl low ↦ omega arith | inr high ↦ omega arith ] in
    rw (ne_eqb (place page address j) x apart) (none_outside page address bytes j x some_page outside)

programmed_keeps : (page address : ℕ) (bytes array : List ℕ) (x : ℕ) → 0 < page → IsOutside (page_start page address) (page_start page address + page) x
    → slice_index (programmed page address bytes array) x ≡ slice_index array x
unfolding programmed
programmed_keeps page address bytes array x some_page outside =
    each_keeps _ array x (λ old. rw (none_outside page address bytes (length bytes) x some_page outside) refl)

after_program_keeps : (s : Setting) (c : Chip) (i : Instruction) (w : What) (x : ℕ) → is_program w ≡ true → 0 < s.page
    → IsOutside (page_start s.page i.address) (page_start s.page i.address + s.page) x → slice_index (after s c i w).array x ≡ slice_index c.array x
unfolding after
after_program_keeps s c i what.Program x program some_page outside = programmed_keeps s.page i.address i.sent c.array x some_page outside
after_program_keeps s c i what.QuadProgram x program some_page outside = programmed_keeps s.page i.address i.sent c.array x some_page outside
after_program_keeps s c i other x program some_page outside = cc

pub program_keeps_others : (s : Setting) (c d : Chip) (i : Instruction) (bytes : List ℕ) (x : ℕ) → 0 < s.page → is_program i.what ≡ true
    → effect_of s c i ≡ Ok (d, bytes) → IsOutside (page_start s.page i.address) (page_start s.page i.address + s.page) x
    → slice_index d.array x ≡ slice_index c.array x
program_keeps_others s c d i bytes x some_page program h outside =
    ap (λ (e : Chip). slice_index e.array x) (taken s c i d bytes h).chip ∙ after_program_keeps s c i i.what x program some_page outside

pub erase_keeps_others : (s : Setting) (c d : Chip) (i : Instruction) (kind : ℕ) (bytes : List ℕ) (x : ℕ) → i.what ≡ what.Erase kind
    → effect_of s c i ≡ Ok (d, bytes) → IsOutside i.address (i.address + block_size s.meaning kind) x
    → slice_index d.array x ≡ slice_index c.array x
unfolding after
erase_keeps_others s c d i kind bytes x is h outside =
    let done : d ≡ after s c i (what.Erase kind) = (taken s c i d bytes h).chip ∙ ap (after s c i) is in
    ap (λ (e : Chip). slice_index e.array x) done ∙ erased_keeps i.address (block_size s.meaning kind) c.array x outside

-- six tests that tell the same refuse the same, whatever is left in the end
judged_alike : (a b c d e f : Bool) (w : Wrong) (x y : Chip × List ℕ)
    → wrong_of (if a then Err wrong.Ignored else if b then Err wrong.Ignored else if c then Err wrong.Ignored else if d then Err wrong.Ignored
    else if e then Err wrong.OutOfRange else if f then Err w else Ok x)
    ≡ wrong_of (if a then Err wrong.Ignored else if b then Err wrong.Ignored else if c then Err wrong.Ignored else if d then Err wrong.Ignored
    else if e then Err wrong.OutOfRange else if f then Err w else Ok y)
judged_alike true b c d e f w x y = refl
judged_alike false true c d e f w x y = refl
judged_alike false false true d e f w x y = refl
judged_alike false false false true e f w x y = refl
judged_alike false false false false true f w x y = refl
judged_alike false false false false false true w x y = refl
judged_alike false false false false false false w x y = refl

-- an instruction is judged by the array alone where it is a program that may raise a bit
judged_by : (s : Setting) (c : Chip) (array : List ℕ) (i : Instruction)
    → is_program i.what && is_barred s.meaning s.page i.address i.sent array ≡ is_program i.what && is_barred s.meaning s.page i.address i.sent c.array
    → wrong_of (effect_of s (record c { array = array }) i) ≡ wrong_of (effect_of s c i)
unfolding effect_of
judged_by s c array i same = rw same
    (judged_alike (is_broken i.what) (not (is_status i.what) && is_busy c.left) (is_quad i.what && not s.start.quad)
    (needs_latch s.meaning i.what && not c.latch) (is_out_of_range s.meaning i)
    (is_program i.what && is_barred s.meaning s.page i.address i.sent c.array) (barred s.meaning)
    (after s (record c { array = array }) i i.what, answer (record c { array = array }) i i.what) (after s c i i.what, answer c i i.what))

pub erase_never_judged : (s : Setting) (c : Chip) (array : List ℕ) (i : Instruction) (kind : ℕ) → i.what ≡ what.Erase kind
    → wrong_of (effect_of s (record c { array = array }) i) ≡ wrong_of (effect_of s c i)
erase_never_judged s c array i kind is =
    let no_program : is_program i.what ≡ false = ap is_program is in
    judged_by s c array i (rw no_program refl)

-- a byte outside the page bars nothing
barred_same_at : (m : Parameters) (page address : ℕ) (bytes xs ys : List ℕ) (x : ℕ) → 0 < page
    → SameWithin (page_start page address) (page_start page address + page) xs ys
    → option_map_or (λ byte. not (may_program m (slice_index xs x) byte)) (written page address bytes x) false
    ≡ option_map_or (λ byte. not (may_program m (slice_index ys x) byte)) (written page address bytes x) false
barred_same_at m page address bytes xs ys x some_page same =
    let outside : IsOutside (page_start page address) (page_start page address + page) x
    → option_map_or (λ byte. not (may_program m (slice_index xs x) byte)) (written page address bytes x) false
    ≡ option_map_or (λ byte. not (may_program m (slice_index ys x) byte)) (written page address bytes x) false
    = λ out. rw (none_outside page address bytes (length bytes) x some_page out) refl in
    elim (cases_lt x (page_start page address)) [
      | inl low ↦ outside (inl low)
      | inr from ↦ elim (cases_lt x (page_start page address + page)) [
        | inl upto ↦ ap (λ old. option_map_or (λ byte. not (may_program m old byte)) (written page address bytes x) false) (same.bytes x from upto)
        | inr high ↦ outside (inr high)
      ]
    ]

barred_same : (m : Parameters) (page address : ℕ) (bytes xs ys : List ℕ) → 0 < page → SameWithin (page_start page address) (page_start page address + page) xs ys
    → is_barred m page address bytes xs ≡ is_barred m page address bytes ys
unfolding is_barred
barred_same m page address bytes xs ys some_page same =
    some_same (λ x old. option_map_or (λ byte. not (may_program m old byte)) (written page address bytes x) false) 0 xs ys same.length
    (λ k fits.
    let start : k ≡ 0 + k = omega arith in
    subst (λ x. option_map_or (λ byte. not (may_program m (slice_index xs k) byte)) (written page address bytes x) false
    ≡ option_map_or (λ byte. not (may_program m (slice_index ys k) byte)) (written page address bytes x) false) start
    (barred_same_at m page address bytes xs ys k some_page same))

pub program_judged_by_page : (s : Setting) (c : Chip) (array : List ℕ) (i : Instruction) → 0 < s.page → is_program i.what ≡ true
    → SameWithin (page_start s.page i.address) (page_start s.page i.address + s.page) c.array array
    → wrong_of (effect_of s (record c { array = array }) i) ≡ wrong_of (effect_of s c i)
program_judged_by_page s c array i some_page program same =
    judged_by s c array i (ap (λ b. is_program i.what && b) (sym (barred_same s.meaning s.page i.address i.sent c.array array some_page same)))

pub erase_fills : (s : Setting) (c d : Chip) (i : Instruction) (kind : ℕ) (bytes : List ℕ) (x : ℕ) → i.what ≡ what.Erase kind
    → effect_of s c i ≡ Ok (d, bytes) → x < length c.array → i.address ≤ x → x < i.address + block_size s.meaning kind
    → slice_index d.array x ≡ 255
unfolding after
erase_fills s c d i kind bytes x is h inside from upto =
    let done : d ≡ after s c i (what.Erase kind) = (taken s c i d bytes h).chip ∙ ap (after s c i) is in
    ap (λ (e : Chip). slice_index e.array x) done ∙ erased_fills i.address (block_size s.meaning kind) c.array x inside from upto
