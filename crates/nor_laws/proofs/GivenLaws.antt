-- A transaction gives as many bytes as its clocks sample.
use Rattle.std.proofs.Common.{◌≡◌, ℕ, ◌+◌, ◌-◌, ◌/◌, ◌≤◌, nat_le, nat_lt, false, List, length, take, drop, Option, Some, None, Ok, refl, sym, ◌∙◌, ap, arith, length-drop}
use Rattle.std.specs.List.{slice_range}
use Rattle.std.proofs.lemmas.Bool.{ltb-false, or_parts}
use Rattle.std.proofs.lemmas.List.{length-replicate, length-take-le}
use Rattle.nor_base.specs.declared.instruction.What.{What}
use Rattle.nor_base.specs.declared.instruction.What.TheVariants as what
use Rattle.nor_base.specs.Sample.{clocks, sampled_count}
use Rattle.nor_base.specs.Parameters.{Parameters}
use Rattle.nor_base.specs.Decoding.{Instruction, instruction, decode}
use Rattle.nor_base.specs.Chip.{Setting, Chip}
use Rattle.nor_base.specs.Effect.{is_out_of_range, answer, effect, effect_if}
use Rattle.nor_laws.proofs.EffectLaws.{taken}
use Rattle.nor_base.proofs.SampledLaws.{decoded}

length-read : (array : List ℕ) (size address n : ℕ) → length array ≡ size → nat_lt size (address + n) ≡ false → length (slice_range array address (address + n)) ≡ n
length-read array size address n whole fits =
    let inside : address + n ≤ size = ltb-false size (address + n) fits in
    let count : (address + n) - address ≡ n = omega arith in
    let enough : n ≤ length (drop address array) = omega (arith, length-drop address array) in
    ap (λ k. length (take k (drop address array))) count ∙ length-take-le n (drop address array) enough

-- what an instruction gives is as long as what it asks for
answered : (m : Parameters) (c : Chip) (w : What) (address : ℕ) (body : List ℕ) → length c.array ≡ m.size
    → is_out_of_range m (instruction (record { what = w; address = address; body = body })) ≡ false
    → length (answer c (instruction (record { what = w; address = address; body = body })) w) ≡ (instruction (record { what = w; address = address; body = body })).asked
unfolding answer is_out_of_range
answered m c what.Status address body whole fits = length-replicate (length body / 8) _
answered m c what.Read address body whole fits =
    length-read c.array m.size address (length body / 8) whole (or_parts _ _ (or_parts (nat_le m.size address) _ fits).1).0
answered m c what.QuadRead address body whole fits =
    length-read c.array m.size address (length body / 2) whole (or_parts _ _ (or_parts (nat_le m.size address) _ fits).1).0
answered m c other address body whole fits = refl

gives_if : (s : Setting) (c d : Chip) (clocks : List ℕ) (seen : Option Instruction) (bytes : List ℕ) → decode s.meaning c.mode4 clocks ≡ seen
    → length c.array ≡ s.meaning.size → effect_if s c seen ≡ Ok (d, bytes) → length bytes ≡ sampled_count clocks
gives_if s c d clocks None bytes is whole h = cc
gives_if s c d clocks (Some i) bytes is whole h =
    let t = taken s c i d bytes h in
    let see = decoded s.meaning c.mode4 clocks i is in
    let range : is_out_of_range s.meaning (instruction see.seen) ≡ false = ap (is_out_of_range s.meaning) (sym see.seen_is) ∙ t.in_range in
    let given : length (answer c (instruction see.seen) see.seen.what) ≡ (instruction see.seen).asked =
    answered s.meaning c see.seen.what see.seen.address see.seen.body whole range in
    ap length t.answer ∙ ap (λ (j : Instruction). length (answer c j j.what)) see.seen_is ∙ given
    ∙ ap (λ (j : Instruction). j.asked) (sym see.seen_is) ∙ sym (see.asks t.known)

pub gives_sampled : (s : Setting) (c d : Chip) (clocks bytes : List ℕ) → length c.array ≡ s.meaning.size → effect s c clocks ≡ Ok (d, bytes)
    → length bytes ≡ sampled_count clocks
unfolding effect
gives_sampled s c d clocks bytes whole h = gives_if s c d clocks (decode s.meaning c.mode4 clocks) bytes refl whole h
