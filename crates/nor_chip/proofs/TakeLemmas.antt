-- What an instruction that is taken does.
use Rattle.std.proofs.Common.{◌≡◌, ℕ, Bool, true, false, not, ◌&&◌, if◌then◌else◌, List, [], ◌∷◌, length, Option, Some, None, option_map, Result, Ok, Err, refl, sym, ◌∙◌, ap}
use Rattle.nor_base.specs.declared.instruction.What.{What}
use Rattle.nor_base.specs.declared.instruction.What.TheVariants as what
use Rattle.nor_base.specs.declared.wrong.Wrong.{Wrong}
use Rattle.nor_base.specs.declared.wrong.Wrong.TheVariants as wrong
use Rattle.nor_base.specs.Parameters.{Parameters}
use Rattle.nor_base.specs.Instructions.{form_of}
use Rattle.nor_base.specs.Decoding.{Instruction, bytes_asked, decode, instruction, transaction}
use Rattle.nor_base.specs.Chip.{Setting, Chip, is_busy}
use Rattle.nor_base.specs.Effect.{after, answer, effect, effect_if, effect_of, is_broken, is_out_of_range, is_program, is_quad, is_status, needs_latch, is_barred, barred, wrong_of}
use Rattle.nor_decode.specs.declared.seen.Seen.{Seen}
use Rattle.nor_decode.specs.Seen.{transaction_of}
use Rattle.nor_chip.specs.Sent.{instruction_of}

abbrev pub chain : (b1 b2 b3 b4 b5 b6 : Bool) → Wrong → Chip × List ℕ → Result (Chip × List ℕ) Wrong
chain b1 b2 b3 b4 b5 b6 why a =
    if b1 then Err wrong.Ignored
    else if b2 then Err wrong.Ignored
    else if b3 then Err wrong.Ignored
    else if b4 then Err wrong.Ignored
    else if b5 then Err wrong.OutOfRange
    else if b6 then Err why
    else Ok a

pub record IsTaken (s : Setting) (c : Chip) (i : Instruction) : Type 0 where
  pub known : is_broken i.what ≡ false
  pub in_range : is_out_of_range s.meaning i ≡ false
  pub effect : effect_of s c i ≡ Ok (after s c i i.what, answer c i i.what)

through : (b1 b2 b3 b4 b5 b6 : Bool) (why : Wrong) (a : Chip × List ℕ) → wrong_of (chain b1 b2 b3 b4 b5 b6 why a) ≡ None
    → (b1 ≡ false) × ((b5 ≡ false) × (chain b1 b2 b3 b4 b5 b6 why a ≡ Ok a))
through true b2 b3 b4 b5 b6 why a h = cc
through false true b3 b4 b5 b6 why a h = cc
through false false true b4 b5 b6 why a h = cc
through false false false true b5 b6 why a h = cc
through false false false false true b6 why a h = cc
through false false false false false true why a h = cc
through false false false false false false why a h = (refl, (refl, refl))

pub taken : (s : Setting) (c : Chip) (i : Instruction) → wrong_of (effect_of s c i) ≡ None → IsTaken s c i
unfolding effect_of
taken s c i h =
    let way = through (is_broken i.what) (not (is_status i.what) && is_busy c.left) (is_quad i.what && not s.start.quad) (needs_latch s.meaning i.what && not c.latch)
    (is_out_of_range s.meaning i) (is_program i.what && is_barred s.meaning s.page i.address i.sent c.array) (barred s.meaning) (after s c i i.what, answer c i i.what) h in
    record { known = way.0; in_range = way.1.0; effect = way.1.1 }

-- it is done where the chip and the bytes are those of its kind
pub done : (s : Setting) (c d : Chip) (i : Instruction) (w : What) (out : List ℕ) → wrong_of (effect_of s c i) ≡ None → i.what ≡ w
    → d ≡ after s c i w → out ≡ answer c i w → effect_of s c i ≡ Ok (d, out)
done s c d i w out h is chip bytes =
    (taken s c i h).effect ∙ ap (λ v. Ok (after s c i v, answer c i v)) is ∙ ap (λ e. Ok (e, answer c i w)) (sym chip) ∙ ap (λ xs. Ok (d, xs)) (sym bytes)

abbrev pub gives_bytes : What → Bool
gives_bytes what.Status = true
gives_bytes what.Read = true
gives_bytes what.QuadRead = true
gives_bytes other = false

no_answer : (c : Chip) (i : Instruction) (w : What) → gives_bytes w ≡ false → answer c i w ≡ []
unfolding answer
no_answer c i what.Status h = cc
no_answer c i what.Read h = cc
no_answer c i what.QuadRead h = cc
no_answer c i other h = refl

none_asked : (w : What) (body : List ℕ) → gives_bytes w ≡ false → bytes_asked (form_of w) body ≡ 0
none_asked what.Status body h = cc
none_asked what.Read body h = cc
none_asked what.QuadRead body h = cc
none_asked what.Program body h = refl
none_asked what.QuadProgram body h = refl
none_asked other body h = refl

none_there : (xs : List ℕ) → length xs ≡ 0 → xs ≡ []
none_there [] h = refl
none_there (x ∷ xs) h = cc

pub nothing_given : (c : Chip) (seen : Seen) (w : What) (out : List ℕ) → gives_bytes w ≡ false → seen.what ≡ w → length out ≡ (instruction_of seen).asked
    → out ≡ answer c (instruction_of seen) w
nothing_given c seen w out quiet is room =
    none_there out (room ∙ ap (λ v. bytes_asked (form_of v) seen.body.now) is ∙ none_asked w seen.body.now quiet) ∙ sym (no_answer c (instruction_of seen) w quiet)

-- what the clocks are, from what was seen
pub unknown : (s : Setting) (c : Chip) (m : Parameters) (mode4 : Bool) (clocks : List ℕ) (found : Option Seen) → m ≡ s.meaning → mode4 ≡ c.mode4
    → option_map transaction_of found ≡ transaction m mode4 clocks → found ≡ None → effect s c clocks ≡ Err wrong.Unknown
unfolding effect decode
unknown s c m mode4 clocks found meaning mode h none =
    ap (λ t. effect_if s c (option_map instruction t))
    (ap (λ n. transaction n c.mode4 clocks) (sym meaning) ∙ ap (λ b. transaction m b clocks) (sym mode) ∙ sym h ∙ ap (option_map transaction_of) none)

pub decoded : (m : Parameters) (mode4 : Bool) (clocks : List ℕ) (found : Option Seen) (seen : Seen)
    → option_map transaction_of found ≡ transaction m mode4 clocks → found ≡ Some seen → decode m mode4 clocks ≡ Some (instruction_of seen)
unfolding decode
decoded m mode4 clocks found seen h some = ap (option_map instruction) (sym h ∙ ap (option_map transaction_of) some)

pub known : (s : Setting) (c : Chip) (m : Parameters) (mode4 : Bool) (clocks : List ℕ) (found : Option Seen) (seen : Seen) → m ≡ s.meaning → mode4 ≡ c.mode4
    → option_map transaction_of found ≡ transaction m mode4 clocks → found ≡ Some seen → effect s c clocks ≡ effect_of s c (instruction_of seen)
unfolding effect
known s c m mode4 clocks found seen meaning mode h some =
    ap (effect_if s c)
    (ap (λ n. decode n c.mode4 clocks) (sym meaning) ∙ ap (λ b. decode m b clocks) (sym mode) ∙ decoded m mode4 clocks found seen h some)

pub refused : (r : Result (Chip × List ℕ) Wrong) (why : Wrong) → wrong_of r ≡ Some why → r ≡ Err why
refused (Ok a) why h = cc
refused (Err other) why h = cc
