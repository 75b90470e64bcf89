-- A verifying read leaves the chip as it was: what samples, and isn't a status read, is a read of the array.
use Rattle.std.proofs.Common.{◌≡◌, ℕ, ◌*◌, ◌==◌, not, ◌&&◌, ◌||◌, Bool, true, false, if◌then◌else◌, List, [], ◌∷◌, ◌++◌, length, take, drop, Option, Some, None, Result, Ok, Err, refl, sym, ◌∙◌, ap, arith, eqb-true, codes, length-take}
use Rattle.std.proofs.Math.Bool.{and-false}
use Rattle.std.specs.Prelude.{nat_eq, option_map}
use Rattle.std.specs.List.{list_all, starts_with}
use Rattle.std.specs.Option.{option_map_or}
use Rattle.std.specs.Str.{bytes_eq}
use Rattle.std.proofs.lemmas.Bool.{and_parts, or_parts, not-true}
use Rattle.std.proofs.lemmas.List.{take-append-drop, nil_from_length}
use Rattle.nor_base.specs.declared.clock.Sample.{Sample}
use Rattle.nor_base.specs.declared.instruction.What.{What}
use Rattle.nor_base.specs.declared.instruction.What.TheVariants as what
use Rattle.nor_base.specs.declared.step.Step.TheVariants.{Verify}
use Rattle.nor_base.specs.declared.wrong.Wrong.{Wrong}
use Rattle.nor_base.specs.declared.wrong.Wrong.TheVariants as wrong
use Rattle.nor_base.specs.Parameters.{Parameters}
use Rattle.nor_base.specs.Sample.{sample_at}
use Rattle.nor_base.specs.Instructions.{Form, nothing, sends, sends4, samples4, form_of, Row, row_of, table}
use Rattle.nor_base.specs.Instructions as form
use Rattle.nor_base.specs.Decoding.{Instruction, instruction, decode, transaction, by_row, broken, has_opcode, is_form, is_data, are_groups, is_bit_sent, is_nibble_sent, is_bit_sampled, is_nibble_sampled, is_idle, has_lanes, bit, number, opcode, address_clocks, data_clocks}
use Rattle.nor_base.specs.Chip.{Setting, Chip}
use Rattle.nor_base.specs.Effect.{is_broken, is_status, after, effect_if, effect}
use Rattle.nor_base.specs.Run.{samples_some, is_verify, matched, step}
use Rattle.nor_base.specs.Clocks.{bits}
use Rattle.nor_base.proofs.ListLaws.{found_passes}
use Rattle.nor_laws.proofs.EffectLaws.{taken}
use Rattle.nor_laws.proofs.SymbolLemmas.{implied}
use Rattle.nor_laws.proofs.SingleLaws.{same_number, HasForm, form_parts, HasOpcode, opcode_parts}

-- a clock that samples lanes of one mask samples none of another
apart_by : (driven sampled other other' : ℕ) (o : Option Sample) → (sampled == other') ≡ false
    → option_map_or (λ (s : Sample). (s.driven == driven) && (s.sampled == sampled)) o false ≡ true
    → option_map_or (λ (s : Sample). (s.driven == other) && (s.sampled == other')) o false ≡ false
apart_by driven sampled other other' None apart h = cc
apart_by driven sampled other other' (Some s) apart h =
    let same : s.sampled ≡ sampled = eqb-true s.sampled sampled (and_parts (s.driven == driven) (s.sampled == sampled) h).1 in
    let differs : (s.sampled == other') ≡ false = ap (λ n. n == other') same ∙ apart in
    ap (λ b. (s.driven == other) && b) differs ∙ and-false (s.driven == other)

abbrev samples : ℕ → Bool
samples byte = is_bit_sampled byte || is_nibble_sampled byte

silent : (driven byte : ℕ) → has_lanes driven 0 byte ≡ true → samples byte ≡ false
unfolding is_bit_sampled is_nibble_sampled
silent driven byte h = rw (apart_by driven 0 12 2 (sample_at byte) refl h, apart_by driven 0 0 15 (sample_at byte) refl h) refl

bit_silent : (byte : ℕ) → is_bit_sent byte ≡ true → samples byte ≡ false
unfolding is_bit_sent
bit_silent byte h = silent 13 byte h

nibble_silent : (byte : ℕ) → is_nibble_sent byte ≡ true → samples byte ≡ false
unfolding is_nibble_sent
nibble_silent byte h = silent 15 byte h

idle_silent : (byte : ℕ) → is_idle byte ≡ true → samples byte ≡ false
unfolding is_idle
idle_silent byte h = silent 0 byte h

none_of : (p : ℕ → Bool) → ((byte : ℕ) → p byte ≡ true → samples byte ≡ false) → (xs : List ℕ) → list_all p xs ≡ true → samples_some xs ≡ false
none_of p quiet [] h = refl
none_of p quiet (x ∷ xs) h = let parts = and_parts (p x) (list_all p xs) h in rw (quiet x parts.0, none_of p quiet xs parts.1) refl

none_in : (xs ys : List ℕ) → samples_some xs ≡ false → samples_some ys ≡ false → samples_some (xs ++ ys) ≡ false
none_in [] ys first second = second
none_in (x ∷ xs) ys first second = let parts = or_parts (samples x) (samples_some xs) first in rw (parts.0, none_in xs ys parts.1 second) refl

-- data clocks of a form that samples nothing
abbrev is_quiet : Form → Bool
is_quiet nothing = true
is_quiet sends = true
is_quiet sends4 = true
is_quiet form.samples = false
is_quiet samples4 = false

quiet_data : (form : Form) (body : List ℕ) → is_quiet form ≡ true → is_data form body ≡ true → samples_some body ≡ false
unfolding is_data
quiet_data nothing body quiet h = ap samples_some (nil_from_length body (eqb-true (length body) 0 h))
quiet_data sends body quiet h = none_of is_bit_sent bit_silent body (and_parts (are_groups 8 body) (list_all is_bit_sent body) h).1
quiet_data sends4 body quiet h = none_of is_nibble_sent nibble_silent body (and_parts (are_groups 2 body) (list_all is_nibble_sent body) h).1
quiet_data form.samples body quiet h = cc
quiet_data samples4 body quiet h = cc

-- clocks of a row whose data are quiet sample nothing
quiet_row : (r : Row) (clocks : List ℕ) → is_quiet (form_of r.what) ≡ true → HasOpcode clocks → HasForm r (drop 8 clocks) → samples_some clocks ≡ false
quiet_row r clocks quiet has its =
    let rest = drop 8 clocks in
    let back = drop (8 * r.width) rest in
    let its_data = quiet_data (form_of r.what) (data_clocks r rest) quiet its.good in
    let last = none_in (take r.dummies back) (drop r.dummies back) (none_of is_idle idle_silent (take r.dummies back) its.idle) its_data in
    let middle = none_in (take (8 * r.width) rest) back (none_of is_bit_sent bit_silent (take (8 * r.width) rest) its.sent)
    (ap samples_some (sym (take-append-drop r.dummies back)) ∙ last) in
    ap samples_some (sym (take-append-drop 8 clocks))
    ∙ none_in (take 8 clocks) rest (none_of is_bit_sent bit_silent (take 8 clocks) has.sent) (ap samples_some (sym (take-append-drop (8 * r.width) rest)) ∙ middle)

-- what a chip sees in clocks, where it isn't broken, is by a row of the table
record IsByRow (m : Parameters) (mode4 : Bool) (clocks : List ℕ) (i : Instruction) : Type 0 where
  r : Row
  found : row_of m mode4 (opcode clocks) ≡ Some r
  has : HasOpcode clocks
  form : HasForm r (drop 8 clocks)
  its_what : i.what ≡ r.what

by_form : (m : Parameters) (mode4 : Bool) (clocks : List ℕ) (i : Instruction) (r : Row) (b : Bool) → row_of m mode4 (opcode clocks) ≡ Some r → HasOpcode clocks
    → is_form r (drop 8 clocks) ≡ b → is_broken i.what ≡ false
    → instruction (if b then record { what = r.what; address = number (address_clocks r (drop 8 clocks)); body = data_clocks r (drop 8 clocks) } else broken) ≡ i
    → IsByRow m mode4 clocks i
by_form m mode4 clocks i r true found has is known h =
    record { r = r; found = found; has = has; form = form_parts r (drop 8 clocks) is; its_what = sym (ap (λ (j : Instruction). j.what) h) }
by_form m mode4 clocks i r false found has is known h =
    let same : is_broken what.Broken ≡ is_broken i.what = ap (λ (j : Instruction). is_broken j.what) h in cc

by_rows : (m : Parameters) (mode4 : Bool) (clocks : List ℕ) (i : Instruction) (b : Bool) (o : Option Row) → has_opcode clocks ≡ b → row_of m mode4 (opcode clocks) ≡ o
    → is_broken i.what ≡ false → option_map instruction (if b then option_map (by_row (drop 8 clocks)) o else None) ≡ Some i → IsByRow m mode4 clocks i
unfolding by_row
by_rows m mode4 clocks i false o has found known h = cc
by_rows m mode4 clocks i true None has found known h = cc
by_rows m mode4 clocks i true (Some r) has found known h =
    by_form m mode4 clocks i r (is_form r (drop 8 clocks)) found (opcode_parts clocks has) refl known (some_is h)
  where
    some_is : {a b : Instruction} → Some a ≡ Some b → a ≡ b
    some_is h = cc

seen_by : (m : Parameters) (mode4 : Bool) (clocks : List ℕ) (i : Instruction) → is_broken i.what ≡ false → decode m mode4 clocks ≡ Some i → IsByRow m mode4 clocks i
unfolding decode transaction
seen_by m mode4 clocks i known h = by_rows m mode4 clocks i (has_opcode clocks) (row_of m mode4 (opcode clocks)) refl refl known h

-- a status read has the opcode 05h, so it begins with its eight clocks
status_opcode : (m : Parameters) (mode4 : Bool) (op : ℕ) (r : Row) → row_of m mode4 op ≡ Some r → is_status r.what ≡ true → op ≡ 0x05
unfolding row_of
status_opcode m mode4 op r h is =
    let passes = found_passes (λ (r : Row). (op == r.opcode) && r.offered) (λ (r : Row). not (is_status r.what) || (r.opcode == 0x05)) (table m mode4) r refl h in
    eqb-true op r.opcode (and_parts (op == r.opcode) r.offered passes.its).0 ∙ eqb-true r.opcode 0x05 (implied (is_status r.what) (r.opcode == 0x05) passes.all is)

bits_of_05 : bits 0x05 ≡ codes "00000101"
unfolding bits
bits_of_05 = refl

number_of_05 : number (codes "00000101") ≡ 0x05
unfolding bit
number_of_05 = refl

sent_05 : list_all is_bit_sent (codes "00000101") ≡ true
unfolding is_bit_sent
sent_05 = refl

starts_05 : (rest : List ℕ) → starts_with nat_eq (codes "00000101" ++ rest) (codes "00000101") ≡ true
starts_05 rest = refl

begins_05 : (clocks : List ℕ) → HasOpcode clocks → opcode clocks ≡ 0x05 → starts_with nat_eq clocks (codes "00000101") ≡ true
begins_05 clocks has is =
    let front : take 8 clocks ≡ codes "00000101" =
    same_number (take 8 clocks) (codes "00000101") (omega (arith, length-take 8 clocks, has.enough)) has.sent sent_05 (is ∙ sym number_of_05) in
    let whole : clocks ≡ codes "00000101" ++ drop 8 clocks = sym (take-append-drop 8 clocks) ∙ ap (λ xs. xs ++ drop 8 clocks) front in
    ap (λ xs. starts_with nat_eq xs (codes "00000101")) whole ∙ starts_05 (drop 8 clocks)

-- clocks that are a status read begin with these eight
pub status_begins : (m : Parameters) (mode4 : Bool) (clocks : List ℕ) (i : Instruction) → decode m mode4 clocks ≡ Some i → is_status i.what ≡ true
    → starts_with nat_eq clocks (codes "00000101") ≡ true
status_begins m mode4 clocks i h status =
    let by = seen_by m mode4 clocks i (known i.what status) h in
    begins_05 clocks by.has (status_opcode m mode4 (opcode clocks) by.r by.found (ap is_status (sym by.its_what) ∙ status))
  where
    known : (w : What) → is_status w ≡ true → is_broken w ≡ false
    known what.Broken is = cc
    known other is = refl

-- so what verifies is a read of the array, or can't be
record Verifies (clocks : List ℕ) : Type 0 where
  some : samples_some clocks ≡ true
  other : starts_with nat_eq clocks (codes "00000101") ≡ false

verifies : (clocks : List ℕ) → is_verify clocks ≡ true → Verifies clocks
unfolding is_verify
verifies clocks h =
    let parts = and_parts (samples_some clocks) (not (starts_with nat_eq clocks (codes "00000101"))) h in
    record { some = parts.0; other = not-true (starts_with nat_eq clocks (codes "00000101")) parts.1 }

keeps_by : (s : Setting) (c : Chip) (i : Instruction) (w : What) → (is_quiet (form_of w) ≡ true → ⊥) → (is_status w ≡ true → ⊥) → after s c i w ≡ c
unfolding after
keeps_by s c i what.Enable loud other = absurd (loud refl)
keeps_by s c i what.Disable loud other = absurd (loud refl)
keeps_by s c i what.Status loud other = absurd (other refl)
keeps_by s c i what.Enter loud other = absurd (loud refl)
keeps_by s c i what.Leave loud other = absurd (loud refl)
keeps_by s c i (what.Erase kind) loud other = absurd (loud refl)
keeps_by s c i what.Program loud other = absurd (loud refl)
keeps_by s c i what.QuadProgram loud other = absurd (loud refl)
keeps_by s c i what.Read loud other = refl
keeps_by s c i what.QuadRead loud other = refl
keeps_by s c i what.Broken loud other = refl

seen_keeps : (s : Setting) (c e : Chip) (clocks bytes : List ℕ) (o : Option Instruction) → Verifies clocks → decode s.meaning c.mode4 clocks ≡ o
    → effect_if s c o ≡ Ok (e, bytes) → e ≡ c
seen_keeps s c e clocks bytes None v is h = cc
seen_keeps s c e clocks bytes (Some i) v is h =
    let took = taken s c i e bytes h in
    let by = seen_by s.meaning c.mode4 clocks i took.known is in
    let loud : is_quiet (form_of i.what) ≡ true → ⊥ = λ quiet.
    clash v.some (quiet_row by.r clocks (ap (λ w. is_quiet (form_of w)) (sym by.its_what) ∙ quiet) by.has by.form) in
    let other : is_status i.what ≡ true → ⊥ = λ status.
    clash (begins_05 clocks by.has (status_opcode s.meaning c.mode4 (opcode clocks) by.r by.found (ap is_status (sym by.its_what) ∙ status))) v.other in
    took.chip ∙ keeps_by s c i i.what loud other
  where
    clash : {b : Bool} → b ≡ true → b ≡ false → ⊥
    clash h is = cc

matched_keeps : (s : Setting) (c d : Chip) (clocks expect : List ℕ) (r : Result (Chip × List ℕ) Wrong) → Verifies clocks → effect s c clocks ≡ r → matched expect r ≡ Ok d → d ≡ c
unfolding effect
matched_keeps s c d clocks expect (Err why) v is h = cc
matched_keeps s c d clocks expect (Ok (e, bytes)) v is h =
    sym (is_it e (bytes_eq bytes expect) h) ∙ seen_keeps s c e clocks bytes (decode s.meaning c.mode4 clocks) v refl is
  where
    is_it : {d : Chip} (e : Chip) (b : Bool) → (if b then Ok e else Err wrong.Mismatch) ≡ Ok d → e ≡ d
    is_it e true h = cc
    is_it e false h = cc

keeps_if : (s : Setting) (c d : Chip) (clocks expect : List ℕ) (b : Bool) → is_verify clocks ≡ b
    → (if b then matched expect (effect s c clocks) else Err wrong.Unknown) ≡ Ok d → d ≡ c
keeps_if s c d clocks expect true is h = matched_keeps s c d clocks expect (effect s c clocks) (verifies clocks is) refl h
keeps_if s c d clocks expect false is h = cc

pub verify_keeps : (s : Setting) (c d : Chip) (clocks expect : List ℕ) → step s c (Verify clocks expect) ≡ Ok d → d ≡ c
unfolding step
verify_keeps s c d clocks expect h = keeps_if s c d clocks expect (is_verify clocks) refl h
