-- What the lanes do at a symbol is what they do at its clock.
use Rattle.std.proofs.Common.{◌≡◌, ℕ, ◌<◌, ◌≤◌, ◌==◌, nat_le, Bool, true, false, ◌&&◌, Option, Some, None, option_map, refl, sym, ◌∙◌, ap, arith, eqb-true, inl, inr}
use Rattle.std.specs.Prelude.{nat_lt, is_some}
use Rattle.std.proofs.Math.Bool.{and-false}
use Rattle.std.proofs.lemmas.Bool.{agree_below_at, and_parts, false_from_ne_true, ltb-true, lt-leb, cases_lt}
use Rattle.nor_base.specs.declared.clock.Clock.{Clock}
use Rattle.nor_base.specs.declared.clock.Sample.{Sample}
use Rattle.nor_base.specs.Sample.{symbol, sample, clocks, clock_at, sample_at, is_symbol}
use Rattle.nor_base.proofs.ListLaws.{found_passes}

-- two samples, or none twice, are the same
abbrev is_same : Option Sample → Option Sample → Bool
is_same (Some s) (Some r) = (s.driven == r.driven) && ((s.level == r.level) && (s.sampled == r.sampled))
is_same None None = true
is_same other others = false

same_parts : (s r : Sample) → s.driven ≡ r.driven → s.level ≡ r.level → s.sampled ≡ r.sampled → s ≡ r
same_parts s r driven level sampled = rw (driven, level, sampled) refl

same_sample : (a b : Option Sample) → is_same a b ≡ true → a ≡ b
same_sample (Some s) (Some r) h =
    let first = and_parts (s.driven == r.driven) ((s.level == r.level) && (s.sampled == r.sampled)) h in
    let rest = and_parts (s.level == r.level) (s.sampled == r.sampled) first.1 in
    ap Some (same_parts s r (eqb-true s.driven r.driven first.0) (eqb-true s.level r.level rest.0) (eqb-true s.sampled r.sampled rest.1))
same_sample (Some s) None h = cc
same_sample None (Some r) h = cc
same_sample None None h = refl

-- past 127 there is no clock
no_clock : (byte : ℕ) (o : Option Clock) → clock_at byte ≡ o → 128 ≤ byte → o ≡ None
no_clock byte None is past = refl
no_clock byte (Some clock) is past =
    let passes = found_passes (λ c. symbol c == byte) (λ c. nat_lt (symbol c) 128) clocks clock refl is in
    absurd (omega (arith, past, eqb-true (symbol clock) byte passes.its, ltb-true (symbol clock) 128 passes.all))

not_this : (byte k : ℕ) → k < byte → (byte == k) ≡ false
not_this byte k less = false_from_ne_true (byte == k) (λ is. omega (arith, less, eqb-true byte k is))

no_sample : (byte : ℕ) → 128 ≤ byte → sample_at byte ≡ None
no_sample byte past =
    let high : nat_le byte 0x70 ≡ false = lt-leb byte 0x70 (omega (arith, past)) in
    rw (
      not_this byte 0x30 (omega (arith, past)),
      not_this byte 0x31 (omega (arith, past)),
      high,
      and-false (nat_le 0x61 byte),
      not_this byte 0x2E (omega (arith, past)),
      not_this byte 0x3D (omega (arith, past)),
      not_this byte 0x2D (omega (arith, past)),
    )
    refl

pub by_clock : (byte : ℕ) → sample_at byte ≡ option_map sample (clock_at byte)
by_clock byte = elim (cases_lt byte 128) [
  | inl small ↦ same_sample (sample_at byte) (option_map sample (clock_at byte))
      (agree_below_at (λ n. is_same (sample_at n) (option_map sample (clock_at n))) (λ n. true) 128 byte refl small)
  | inr past ↦ no_sample byte past ∙ sym (ap (option_map sample) (no_clock byte (clock_at byte) refl past))
]

some_mapped : (o : Option Clock) → is_some (option_map sample o) ≡ is_some o
some_mapped None = refl
some_mapped (Some clock) = refl

pub known_by_clock : (byte : ℕ) → is_symbol byte ≡ is_some (clock_at byte)
known_by_clock byte = ap is_some (by_clock byte) ∙ some_mapped (clock_at byte)
