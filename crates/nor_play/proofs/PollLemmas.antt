-- The turns of a poll.
use Rattle.std.proofs.Common.{◌≡◌, ◌≢◌, get_or, ℕ, zero, suc, ◌+◌, ◌-◌, ◌%◌, ◌<◌, ◌≤◌, ◌∷◌, Bool, true, false, if◌then◌else◌, List, [], length, Result, Ok, Err, refl, sym, ◌∙◌, ap, subst, arith}
use Rattle.std.proofs.lemmas.Bool.Decides.{nat_tests}
use Rattle.std.specs.Str.{bytes_eq}
use Rattle.nor_base.specs.declared.step.Step.TheVariants.{Poll}
use Rattle.nor_base.specs.declared.wrong.Wrong.{Wrong}
use Rattle.nor_base.specs.declared.wrong.Wrong.TheVariants as wrong
use Rattle.nor_base.specs.declared.wrong.PortFault.{PortFault}
use Rattle.nor_base.specs.declared.wrong.PortFault.TheVariants as port
use Rattle.nor_base.specs.Chip.{Setting, Chip}
use Rattle.nor_base.specs.Effect.{effect}
use Rattle.nor_base.specs.Port.{Shown, Transacts}
use Rattle.nor_chip.specs.Waits.{WaitsBusy}
use Rattle.nor_base.specs.Run.{poll_clocks, says_busy, polled, poll_or_halt, polled_for, step, step_for, polled_trail, step_trail}
use Rattle.nor_base.proofs.OutcomeLaws.{ok_is}
use Rattle.nor_laws.proofs.PollLaws.{left_with, says_idle, read_busy, read_idle, poll_ends, poll_count}
use Rattle.nor_play.specs.Halt.{halt_of}
use Rattle.nor_play.specs.Turns.{EndsStep, StopsStep, PlaysStep}

same_pair : (c d : Chip) (xs ys : List ℕ) (r : Result (Chip × List ℕ) Wrong) → r ≡ Ok (c, xs) → r ≡ Ok (d, ys) → (c ≡ d) × (xs ≡ ys)
same_pair c d xs ys r first second =
    let pair : (c, xs) ≡ (d, ys) = ok_is (c, xs) (d, ys) r first second in
    (ap (λ (p : Chip × List ℕ). p.0) pair, ap (λ (p : Chip × List ℕ). p.1) pair)

-- a turn that says busy, and one that doesn't
turn_busy : (s : Setting) (c d : Chip) (rest : ℕ) (out : List ℕ) → effect s (left_with c rest) poll_clocks ≡ Ok (d, out) → says_busy out ≡ true
    → (n : ℕ) × (rest ≡ suc n) × (d ≡ left_with c n)
turn_busy s c d zero out h busy =
    let same = same_pair _ _ _ _ _ (read_idle s c) h in
    let idle : says_busy out ≡ false = subst (λ (l : List ℕ). says_busy l ≡ false) same.1 (says_idle c.latch) in
    let both : true ≡ false = sym busy ∙ idle in cc
turn_busy s c d (suc n) out h busy = (n, refl, sym (same_pair _ _ _ _ _ (read_busy s c n) h).0)

turn_idle : (s : Setting) (c d : Chip) (rest : ℕ) (out : List ℕ) → effect s (left_with c rest) poll_clocks ≡ Ok (d, out) → says_busy out ≡ false
    → (rest ≡ 0) × (d ≡ left_with c 0)
turn_idle s c d zero out h idle = (refl, sym (same_pair _ _ _ _ _ (read_idle s c) h).0)
turn_idle s c d (suc n) out h idle =
    let same = same_pair _ _ _ _ _ (read_busy s c n) h in
    let busy : says_busy out ≡ true = subst (λ (l : List ℕ). says_busy l ≡ true) same.1 refl in
    let both : true ≡ false = sym busy ∙ idle in cc

-- so many turns said busy
pub record IsPolling (before now : Shown) (limit turn : ℕ) : Type 0 where
  pub setting : now.setting ≡ before.setting
  pub rest : ℕ
  pub chip : now.chip ≡ record before.chip { left = rest }
  pub turns : rest + turn ≡ before.chip.left
  pub goes : polled_for before.setting limit before.chip ≡ polled_for before.setting (limit - turn) now.chip

one_turn : (s : Setting) (turns : ℕ) (c d : Chip) (out : List ℕ) (b : Bool) → effect s c poll_clocks ≡ Ok (d, out) → says_busy out ≡ b
    → polled_for s (suc turns) c ≡ (if b then polled_for s turns d else Ok d)
unfolding polled_for
one_turn s turns c d out b e is = ap (λ r. poll_or_halt c r (polled_for s turns)) e ∙ ap (λ b. if b then polled_for s turns d else Ok d) is

-- turns of a chip that is busy for as many and more
polled_past : (s : Setting) (c : Chip) (limit turns rest : ℕ) → turns ≤ limit → polled_for s limit (left_with c (rest + turns)) ≡ polled_for s (limit - turns) (left_with c rest)
polled_past s c limit zero rest few =
    let none : rest + 0 ≡ rest = omega arith in
    let all : limit ≡ limit - 0 = omega arith in
    ap (λ n. polled_for s limit (left_with c n)) none ∙ ap (λ n. polled_for s n (left_with c rest)) all
polled_past s c zero (suc turns) rest few = absurd (omega arith)
polled_past s c (suc limit) (suc turns) rest few =
    let one : rest + suc turns ≡ suc (rest + turns) = omega arith in
    let less : limit - turns ≡ suc limit - suc turns = omega arith in
    ap (λ n. polled_for s (suc limit) (left_with c n)) one
    ∙ one_turn s limit (left_with c (suc (rest + turns))) (left_with c (rest + turns)) (3 ∷ []) true (read_busy s c (rest + turns)) refl
    ∙ polled_past s c limit turns rest (omega arith) ∙ ap (λ n. polled_for s n (left_with c rest)) less

-- as many turns as were waited for said busy
pub waits : (before now : Shown) (limit turns : ℕ) → WaitsBusy before now limit turns → IsPolling before now limit turns
waits before now limit turns waited =
    let c = before.chip in
    let rest = c.left - turns in
    let few = waited.few in
    let busy = waited.busy in
    let whole : c.left ≡ rest + turns = omega arith in
    record {
      setting = waited.setting;
      rest = rest;
      chip = waited.chip;
      turns = sym whole;
      goes = ap (λ n. polled_for before.setting limit (left_with c n)) whole ∙ polled_past before.setting c limit turns rest few
          ∙ ap (λ (d : Chip). polled_for before.setting (limit - turns) d) (sym waited.chip);
    }

module _ (before now after : Shown) (limit turn : ℕ) (polling : IsPolling before now limit turn) (within : turn < limit) where
  further : polled_for before.setting limit before.chip ≡ polled_for before.setting (suc (limit - (turn + 1))) now.chip
  further =
      let count : limit - turn ≡ suc (limit - (turn + 1)) = omega arith in
      polling.goes ∙ ap (λ n. polled_for before.setting n now.chip) count

  module _ (out : List ℕ) (same : after.setting ≡ now.setting) (e : effect now.setting now.chip poll_clocks ≡ Ok (after.chip, out)) where
    here : effect before.setting now.chip poll_clocks ≡ Ok (after.chip, out)
    here = ap (λ (s : Setting). effect s now.chip poll_clocks) (sym polling.setting) ∙ e

    from_left : effect before.setting (left_with before.chip polling.rest) poll_clocks ≡ Ok (after.chip, out)
    from_left = ap (λ (c : Chip). effect before.setting c poll_clocks) (sym polling.chip) ∙ here

    pub goes_on : says_busy out ≡ true → IsPolling before after limit (turn + 1)
    goes_on busy =
        let last = turn_busy before.setting before.chip after.chip polling.rest out from_left busy in
        let left = last.1 in
        let turns = polling.turns in
        record {
          setting = same ∙ polling.setting;
          rest = last.0;
          chip = last.2;
          turns = omega arith;
          goes = further ∙ one_turn before.setting (limit - (turn + 1)) now.chip after.chip out true here busy;
        }

    pub ends : (clocks : List ℕ) → bytes_eq clocks poll_clocks ≡ true → says_busy out ≡ false → EndsStep before after limit (Poll clocks) (turn + 1)
    unfolding step step_for step_trail
    ends clocks is idle =
        let last = turn_idle before.setting before.chip after.chip polling.rest out from_left idle in
        let none = last.0 in
        let turns = polling.turns in
        let count : turn + 1 ≡ before.chip.left + 1 = omega arith in
        record {
          setting = same ∙ polling.setting;
          bounded = ap (λ b. if b then polled_for before.setting limit before.chip else Err (record { why = wrong.Unknown; chip = before.chip })) is
              ∙ further ∙ one_turn before.setting (limit - (turn + 1)) now.chip after.chip out false here idle;
          whole = ap (λ b. if b then polled before.setting (suc before.chip.left) before.chip else Err wrong.Unknown) is
              ∙ poll_ends before.setting before.chip before.chip.left ∙ ap (λ (c : Chip). Ok c) (sym last.1);
          counted = sym (ap (λ b. length (if b then polled_trail before.setting (suc before.chip.left) before.chip else [])) is
              ∙ poll_count before.setting before.chip before.chip.left ∙ sym count);
          few = omega arith;
        }

  pub halts : (clocks out : List ℕ) (fault : PortFault) → bytes_eq clocks poll_clocks ≡ true → Transacts now after (Err fault) poll_clocks out
      → PlaysStep before after limit (Poll clocks) (Err (halt_of fault))
  unfolding step_for polled_for
  halts clocks out (port.Wrong why) is told =
      let here : effect before.setting now.chip poll_clocks ≡ Err why = ap (λ (s : Setting). effect s now.chip poll_clocks) (sym polling.setting) ∙ told.0 in
      record {
        setting = ap (λ (shown : Shown). shown.setting) told.1 ∙ polling.setting;
        stops = ap (λ b. if b then polled_for before.setting limit before.chip else Err (record { why = wrong.Unknown; chip = before.chip })) is
            ∙ further ∙ ap (λ r. poll_or_halt now.chip r (polled_for before.setting (limit - (turn + 1)))) here
            ∙ ap (λ (shown : Shown). Err (record { why = why; chip = shown.chip })) (sym told.1);
      }
  halts clocks out port.Failed is told = tt

-- each turn said busy
pub never : (before now : Shown) (limit : ℕ) (clocks : List ℕ) → IsPolling before now limit limit → bytes_eq clocks poll_clocks ≡ true
    → StopsStep before now limit (Poll clocks) wrong.PollNever
unfolding step_for polled_for
never before now limit clocks polling is =
    let none : limit - limit ≡ 0 = omega arith in
    record {
      setting = polling.setting;
      stops = ap (λ b. if b then polled_for before.setting limit before.chip else Err (record { why = wrong.Unknown; chip = before.chip })) is
          ∙ polling.goes ∙ ap (λ n. polled_for before.setting n now.chip) none;
    }

pub idle_says : (out : List ℕ) → get_or out 0 0 % 2 ≡ 0 → says_busy out ≡ false
idle_says out h = grind (arith, nat_tests)

pub busy_says : (out : List ℕ) → get_or out 0 0 % 2 ≢ 0 → says_busy out ≡ true
busy_says out h = grind (arith, nat_tests)
