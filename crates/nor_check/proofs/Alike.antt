-- Programs that lie within one least page act alike on every page.
use Rattle.std.proofs.Common.{◌≡◌, ℕ, zero, suc, ◌+◌, ◌*◌, ◌/◌, ◌%◌, ◌==◌, ◌<◌, ◌≤◌, Bool, false, not, ◌&&◌, ◌||◌, if◌then◌else◌, List, [], ◌∷◌, length, map, Option, Some, None, Result, Ok, Err, refl, sym, ◌∙◌, ap, arith, inl, inr}
use Rattle.std.specs.List.{slice_index, list_any, enumerate_from}
use Rattle.std.specs.Option.{option_map_or}
use Rattle.std.specs.Prelude.{bit_and}
use Rattle.std.proofs.Math.Nat.{div-add-mod, mod-mod_of_dvd, dvd_of_mod-eq-zero, mul-le-mul_left, mul-suc, add-mul-mod_self_left, mod-eq_of_lt}
use Rattle.std.proofs.lemmas.Nat.{mod_below}
use Rattle.std.proofs.lemmas.Bool.{cases_lt, leb-true, not-false}
use Rattle.nor_base.specs.declared.instruction.What.{What}
use Rattle.nor_base.specs.declared.instruction.What.TheVariants as what
use Rattle.nor_base.specs.declared.meaning.Start.{Start}
use Rattle.nor_base.specs.declared.step.Step.{Step}
use Rattle.nor_base.specs.declared.step.Step.TheVariants.{Send, Poll, Verify}
use Rattle.nor_base.specs.declared.wrong.Wrong.{Wrong}
use Rattle.nor_base.specs.declared.wrong.Wrong.TheVariants as wrong
use Rattle.nor_base.specs.Parameters.{Parameters}
use Rattle.nor_base.specs.Decoding.{Instruction, decode}
use Rattle.nor_base.specs.Chip.{Setting, Chip, is_busy}
use Rattle.nor_base.specs.Effect.{after, accepting, answer, barred, effect_of, is_program, is_quad, is_status, is_barred, is_out_of_range, needs_latch, programmed, place, last_byte_for, may_program, written}
use Rattle.nor_base.specs.Run.{is_verify}
use Rattle.nor_check.specs.Apart.{lies_in_page, leaves_page, tells_apart}
use Rattle.nor_check.specs.Chips.{Kind, Chips, least_able}
use Rattle.nor_check.specs.Judged.{all_taken, all_effect, all_done, all_matched, all_step}

-- a place within the least page is one within a larger
in_larger : (p q a j : ℕ) → 0 < p → 0 < q → q % p ≡ 0 → a % p + j < p → a % q + j < q
in_larger p q a j some other divides near =
    let low : a % q % p ≡ a % p = mod-mod_of_dvd p a (dvd_of_mod-eq-zero p divides) in
    let cut : p * (a % q / p) + a % q % p ≡ a % q = div-add-mod (a % q) p in
    let whole : p * (q / p) + q % p ≡ q = div-add-mod q p in
    let below : a % q < q = mod_below a q other in
    elim (cases_lt (a % q / p) (q / p)) [
      | inl less ↦
          let more : p * suc (a % q / p) ≤ p * (q / p) = mul-le-mul_left p less in
          let next : p * suc (a % q / p) ≡ p * (a % q / p) + p = mul-suc p (a % q / p) in
          omega (arith, low, cut, whole, divides, near, more, next)
      | inr upto ↦
          let more : p * (q / p) ≤ p * (a % q / p) = mul-le-mul_left p upto in
          absurd (omega (arith, cut, whole, divides, below, more))
    ]

straight_on : (q a j : ℕ) → a % q + j < q → place q a j ≡ a + j
straight_on q a j near =
    let cut : q * (a / q) + a % q ≡ a = div-add-mod a q in
    let sum : a + j ≡ (a % q + j) + q * (a / q) = omega (arith, cut) in
    let rest : (a + j) % q ≡ a % q + j = ap (λ n. n % q) sum ∙ add-mul-mod_self_left (a % q + j) q (a / q) ∙ mod-eq_of_lt near in
    omega (arith, cut, rest)

same_place : (p q a j : ℕ) → 0 < p → 0 < q → q % p ≡ 0 → a % p + j < p → place q a j ≡ place p a j
same_place p q a j some other divides near = straight_on q a j (in_larger p q a j some other divides near) ∙ sym (straight_on p a j near)

last_same : (p q a : ℕ) (bytes : List ℕ) (n x : ℕ) → ((j : ℕ) → j < n → place q a j ≡ place p a j) → last_byte_for q a bytes n x ≡ last_byte_for p a bytes n x
unfolding last_byte_for
last_same p q a bytes zero x same = refl
last_same p q a bytes (suc n) x same =
    ap (λ at. if at == x then Some (slice_index bytes n) else last_byte_for q a bytes n x) (same n (omega arith))
    ∙ ap (λ o. if place p a n == x then Some (slice_index bytes n) else o) (last_same p q a bytes n x (λ j below. same j (omega arith)))

map_same : (f g : ℕ × ℕ → ℕ) (ps : List (ℕ × ℕ)) → ((p : ℕ × ℕ) → f p ≡ g p) → map f ps ≡ map g ps
map_same f g [] same = refl
map_same f g (p ∷ ps) same = ap (λ y. y ∷ map f ps) (same p) ∙ ap (λ l. g p ∷ l) (map_same f g ps same)

any_same : (f g : ℕ × ℕ → Bool) (ps : List (ℕ × ℕ)) → ((p : ℕ × ℕ) → f p ≡ g p) → list_any f ps ≡ list_any g ps
any_same f g [] same = refl
any_same f g (p ∷ ps) same = ap (λ b. b || list_any f ps) (same p) ∙ ap (λ b. g p || b) (any_same f g ps same)

module _ (p q a : ℕ) (bytes : List ℕ) (some : 0 < p) (other : 0 < q) (divides : q % p ≡ 0) (fits : a % p + length bytes ≤ p) where
  written_same : (x : ℕ) → written q a bytes x ≡ written p a bytes x
  written_same x = last_same p q a bytes (length bytes) x (λ j below. same_place p q a j some other divides (omega (arith, fits, below)))

  programmed_same : (array : List ℕ) → programmed q a bytes array ≡ programmed p a bytes array
  unfolding programmed
  programmed_same array =
      map_same (λ e. option_map_or (bit_and e.1) (written q a bytes e.0) e.1) (λ e. option_map_or (bit_and e.1) (written p a bytes e.0) e.1) (enumerate_from 0 array)
      (λ e. ap (λ o. option_map_or (bit_and e.1) o e.1) (written_same e.0))

  barred_same : (m : Parameters) (array : List ℕ) → is_barred m q a bytes array ≡ is_barred m p a bytes array
  unfolding is_barred
  barred_same m array =
      any_same (λ e. option_map_or (λ byte. not (may_program m e.1 byte)) (written q a bytes e.0) false)
      (λ e. option_map_or (λ byte. not (may_program m e.1 byte)) (written p a bytes e.0) false) (enumerate_from 0 array)
      (λ e. ap (λ o. option_map_or (λ byte. not (may_program m e.1 byte)) o false) (written_same e.0))

-- the chips of a meaning and start with a page
abbrev with_page : Parameters → Start → ℕ → Setting
with_page m start page = record { meaning = m; start = start; page = page; busy = []; keeps = false }

effect_same : (m : Parameters) (start : Start) (q address asked : ℕ) (bytes : List ℕ) (c : Chip) (is : What) → 0 < m.page → 0 < q → q % m.page ≡ 0
    → is_program is && not (lies_in_page m.page address bytes) ≡ false
    → effect_of (with_page m start q) c (record { what = is; address = address; sent = bytes; asked = asked })
    ≡ effect_of (with_page m start m.page) c (record { what = is; address = address; sent = bytes; asked = asked })
unfolding effect_of after answer
effect_same m start q address asked bytes c what.Program some other divides fits =
    let near : address % m.page + length bytes ≤ m.page = leb-true (address % m.page + length bytes) m.page (not-false _ fits) in
    ap (λ b. programs q b (programmed q address bytes c.array)) (barred_same m.page q address bytes some other divides near m c.array)
    ∙ ap (programs q (is_barred m m.page address bytes c.array)) (programmed_same m.page q address bytes some other divides near c.array)
  where
    programs : ℕ → Bool → List ℕ → Result (Chip × List ℕ) Wrong
    programs q b array =
        if not (is_status what.Program) && is_busy c.left then Err wrong.Ignored
        else if needs_latch m what.Program && not c.latch then Err wrong.Ignored
        else if is_out_of_range m (record { what = what.Program; address = address; sent = bytes; asked = asked }) then Err wrong.OutOfRange
        else if b then Err (barred m)
        else Ok (accepting c array, [])
effect_same m start q address asked bytes c what.QuadProgram some other divides fits =
    let near : address % m.page + length bytes ≤ m.page = leb-true (address % m.page + length bytes) m.page (not-false _ fits) in
    ap (λ b. programs q b (programmed q address bytes c.array)) (barred_same m.page q address bytes some other divides near m c.array)
    ∙ ap (programs q (is_barred m m.page address bytes c.array)) (programmed_same m.page q address bytes some other divides near c.array)
  where
    programs : ℕ → Bool → List ℕ → Result (Chip × List ℕ) Wrong
    programs q b array =
        if not (is_status what.QuadProgram) && is_busy c.left then Err wrong.Ignored
        else if is_quad what.QuadProgram && not start.quad then Err wrong.Ignored
        else if needs_latch m what.QuadProgram && not c.latch then Err wrong.Ignored
        else if is_out_of_range m (record { what = what.QuadProgram; address = address; sent = bytes; asked = asked }) then Err wrong.OutOfRange
        else if b then Err (barred m)
        else Ok (accepting c array, [])
effect_same m start q address asked bytes c other_what some other divides fits = refl

-- the chips of a kind, with another page
abbrev pub kind_with : Parameters → Start → ℕ → Kind
kind_with m start page = record { meaning = m; start = start; page = page }

all_effect_same : (m : Parameters) (start : Start) (q : ℕ) (w : Chips) (o : Option Instruction) → 0 < m.page → 0 < q → q % m.page ≡ 0 → leaves_page m.page o ≡ false
    → all_effect (kind_with m start q) w o ≡ all_effect (kind_with m start m.page) w o
all_effect_same m start q w None some other divides stays = refl
all_effect_same m start q w (Some i) some other divides stays =
    ap (all_taken w i.what) (effect_same m start q i.address i.asked i.sent (least_able w) i.what some other divides stays)

-- a step that doesn't tell pages apart does the same on each
pub alike : (m : Parameters) (start : Start) (q : ℕ) (w : Chips) (x : Step) → 0 < m.page → 0 < q → q % m.page ≡ 0 → tells_apart m w.mode4 x ≡ false
    → all_step (kind_with m start q) w x ≡ all_step (kind_with m start m.page) w x
unfolding all_step
alike m start q w (Send clocks) some other divides stays = ap all_done (all_effect_same m start q w (decode m w.mode4 clocks) some other divides stays)
alike m start q w (Poll clocks) some other divides stays = refl
alike m start q w (Verify clocks expect) some other divides stays =
    ap (λ r. if is_verify clocks then all_matched expect r else Err wrong.Unknown) (all_effect_same m start q w (decode m w.mode4 clocks) some other divides stays)
