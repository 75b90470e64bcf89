-- How often the port is asked.
use Rattle.std.proofs.Common.{◌≡◌, ℕ, zero, suc, ◌+◌, ◌-◌, ◌<◌, ◌≤◌, Bool, true, false, if◌then◌else◌, List, [], ◌∷◌, ◌++◌, take, drop, length, get_or, Result, Ok, Err, refl, sym, ◌∙◌, ap, subst, arith}
use Rattle.std.specs.Str.{bytes_eq}
use Rattle.nor_base.specs.declared.step.Step.{Step}
use Rattle.nor_base.specs.declared.step.Step.TheVariants.{Send, Poll, Verify}
use Rattle.nor_base.specs.declared.wrong.Wrong.{Wrong}
use Rattle.nor_base.specs.declared.wrong.PortFault.{PortFault}
use Rattle.nor_base.specs.declared.wrong.PortFault.TheVariants as port
use Rattle.nor_base.specs.Chip.{Setting, Chip}
use Rattle.nor_base.specs.Effect.{effect}
use Rattle.nor_base.specs.Port.{Shown, Transacts}
use Rattle.nor_base.specs.Run.{Stop, Halt, poll_clocks, says_busy, is_verify, step_for, play_on, played}
use Rattle.nor_base.proofs.OutcomeLaws.{later_ok}
use Rattle.nor_chip.specs.Asked.{AsksMore}
use Rattle.nor_chip.specs.Waits.{WaitsBusy}
use Rattle.nor_laws.proofs.PollLaws.{left_with, read_busy}
use Rattle.nor_play.specs.declared.fault.Halt.{Halt as Stopped}
use Rattle.nor_play.specs.declared.fault.Halt.TheVariants as halt
use Rattle.nor_play.specs.declared.fault.PlayFault.{PlayFault}
use Rattle.nor_play.specs.declared.fault.PlayFault.TheVariants as fault
use Rattle.nor_play.specs.Halt.{halt_of}
use Rattle.nor_play.specs.Fed.{Player}
use Rattle.nor_play.specs.Numbered.{PlaysNumbered}
use Rattle.nor_play.specs.Turns.{StopsStep}
use Rattle.nor_play.specs.Asks.{turns_on, turns_for, asks_of, asks_after, asks, AsksPart, AsksOnce, AsksStep, AsksNumbered, AsksPlay}
use Rattle.nor_play.proofs.PollLemmas.{IsPolling}
use Rattle.nor_play.proofs.PlayLemmas.{HasPlayed, at_one}

pub never_asked : (P : ℕ → Type 0) → AsksMore P P 0
never_asked P n h = let same : n ≡ n + 0 = omega arith in subst P same h

pub more_asked : (P Q R : ℕ → Type 0) (m n : ℕ) → AsksMore P Q m → AsksMore Q R n → AsksMore P R (m + n)
more_asked P Q R m n f g k h = let same : k + m + n ≡ k + (m + n) = omega arith in subst R same (g (k + m) (f k h))

pub as_many : (P Q : ℕ → Type 0) (m n : ℕ) → m ≡ n → AsksMore P Q m → AsksMore P Q n
as_many P Q m n same = subst (AsksMore P Q) same

-- one transaction that failed, the first of some
one_failed : (P Q : ℕ → Type 0) (all : ℕ) → all ≡ 1 → AsksMore P Q 1 → AsksPart (AsksMore P Q) 0 all
one_failed P Q all one asked = (0, omega (arith, one), as_many P Q 1 (0 + 0 + 1) refl asked)

-- a step of one transaction
pub of_one : (A : Type 0) (before : Shown) (P Q : ℕ → Type 0) (limit : ℕ) (x : Step) (h : Stopped) → asks_of before.setting limit before.chip x ≡ 1
    → AsksOnce {A = A} (AsksMore P Q) (Err h) → AsksStep before (AsksMore P Q) limit x (Err h)
of_one A before P Q limit x (halt.Wrong why) one asked = as_many P Q 1 _ (sym one) asked
of_one A before P Q limit x halt.Failed one asked = one_failed P Q _ one asked
of_one A before P Q limit x halt.Memory one asked = asked

pub send_one : (before : Shown) (limit : ℕ) (clocks : List ℕ) → asks_of before.setting limit before.chip (Send clocks) ≡ 1
unfolding asks_of
send_one before limit clocks = refl

pub verify_one : (before : Shown) (limit : ℕ) (clocks expect : List ℕ) → is_verify clocks ≡ true → asks_of before.setting limit before.chip (Verify clocks expect) ≡ 1
unfolding asks_of
verify_one before limit clocks expect is = ap (λ b. if b then 1 else 0) is

pub verify_none : (before : Shown) (limit : ℕ) (clocks expect : List ℕ) → is_verify clocks ≡ false → asks_of before.setting limit before.chip (Verify clocks expect) ≡ 0
unfolding asks_of
verify_none before limit clocks expect is = ap (λ b. if b then 1 else 0) is

pub poll_none : (before : Shown) (limit : ℕ) (clocks : List ℕ) → bytes_eq clocks poll_clocks ≡ false → asks_of before.setting limit before.chip (Poll clocks) ≡ 0
unfolding asks_of
poll_none before limit clocks is = ap (λ b. if b then turns_for before.setting limit before.chip else 0) is

pub poll_all : (before : Shown) (limit : ℕ) (clocks : List ℕ) → bytes_eq clocks poll_clocks ≡ true
    → asks_of before.setting limit before.chip (Poll clocks) ≡ turns_for before.setting limit before.chip
unfolding asks_of
poll_all before limit clocks is = ap (λ b. if b then turns_for before.setting limit before.chip else 0) is

-- so many turns of a poll were asked for, and said busy
pub record IsAsking (before now : Shown) (P Q : ℕ → Type 0) (limit turn : ℕ) : Type 0 where
  pub asked : AsksMore P Q turn
  pub turns : turns_for before.setting limit before.chip ≡ turn + turns_for before.setting (limit - turn) now.chip

one_turn : (s : Setting) (turns : ℕ) (c : Chip) (r : Result (Chip × List ℕ) Wrong) → effect s c poll_clocks ≡ r
    → turns_for s (suc turns) c ≡ suc (turns_on r (turns_for s turns))
unfolding turns_for
one_turn s turns c r e = ap (λ r. suc (turns_on r (turns_for s turns))) e

-- turns of a chip that is busy for as many and more
turns_past : (s : Setting) (c : Chip) (limit turns rest : ℕ) → turns ≤ limit
    → turns_for s limit (left_with c (rest + turns)) ≡ turns + turns_for s (limit - turns) (left_with c rest)
turns_past s c limit zero rest few =
    let none : rest + 0 ≡ rest = omega arith in
    let all : limit ≡ limit - 0 = omega arith in
    let same : turns_for s limit (left_with c (rest + 0)) ≡ turns_for s (limit - 0) (left_with c rest) =
    ap (λ n. turns_for s limit (left_with c n)) none ∙ ap (λ n. turns_for s n (left_with c rest)) all in
    omega (arith, same)
turns_past s c zero (suc turns) rest few = absurd (omega arith)
turns_past s c (suc limit) (suc turns) rest few =
    let one : rest + suc turns ≡ suc (rest + turns) = omega arith in
    let less : limit - turns ≡ suc limit - suc turns = omega arith in
    let here : turns_for s (suc limit) (left_with c (rest + suc turns)) ≡ suc (turns_for s limit (left_with c (rest + turns))) =
    ap (λ n. turns_for s (suc limit) (left_with c n)) one ∙ one_turn s limit (left_with c (suc (rest + turns))) _ (read_busy s c (rest + turns)) in
    let more : turns_for s limit (left_with c (rest + turns)) ≡ turns + turns_for s (suc limit - suc turns) (left_with c rest) =
    turns_past s c limit turns rest (omega arith) ∙ ap (λ n. turns + turns_for s n (left_with c rest)) less in
    omega (arith, here, more)

-- as many turns as were waited for were asked for
pub waits_asking : (before now : Shown) (P Q : ℕ → Type 0) (limit turns : ℕ) → WaitsBusy before now limit turns → AsksMore P Q turns
    → IsAsking before now P Q limit turns
waits_asking before now P Q limit turns waited asked =
    let c = before.chip in
    let rest = c.left - turns in
    let few = waited.few in
    let busy = waited.busy in
    let whole : c.left ≡ rest + turns = omega arith in
    record {
      asked = asked;
      turns = ap (λ n. turns_for before.setting limit (left_with c n)) whole ∙ turns_past before.setting c limit turns rest few
          ∙ ap (λ (d : Chip). turns + turns_for before.setting (limit - turns) d) (sym waited.chip);
    }

module _ (before now after : Shown) (P Q R : ℕ → Type 0) (limit turn : ℕ) (polling : IsPolling before now limit turn) (asking : IsAsking before now P Q limit turn) (within : turn < limit)
  where
    next : (r : Result (Chip × List ℕ) Wrong) → effect now.setting now.chip poll_clocks ≡ r
        → turns_for before.setting limit before.chip ≡ turn + suc (turns_on r (turns_for before.setting (limit - (turn + 1))))
    next r e =
        let count : limit - turn ≡ suc (limit - (turn + 1)) = omega arith in
        let here : effect before.setting now.chip poll_clocks ≡ r = ap (λ (s : Setting). effect s now.chip poll_clocks) (sym polling.setting) ∙ e in
        asking.turns ∙ ap (λ n. turn + turns_for before.setting n now.chip) count ∙ ap (λ n. turn + n) (one_turn before.setting (limit - (turn + 1)) now.chip r here)

    further : AsksMore Q R 1 → AsksMore P R (turn + 1)
    further one = more_asked P Q R turn 1 asking.asked one

    module _ (out : List ℕ) (e : effect now.setting now.chip poll_clocks ≡ Ok (after.chip, out)) (one : AsksMore Q R 1) where
      turned : (b : Bool) → says_busy out ≡ b
          → turns_for before.setting limit before.chip ≡ turn + suc (if b then turns_for before.setting (limit - (turn + 1)) after.chip else 0)
      turned b is = next _ e ∙ ap (λ b. turn + suc (if b then turns_for before.setting (limit - (turn + 1)) after.chip else 0)) is

      pub asks_on : says_busy out ≡ true → IsAsking before after P R limit (turn + 1)
      asks_on busy = let all = turned true busy in record { asked = further one; turns = omega (arith, all) }

      pub asks_enough : (clocks : List ℕ) → bytes_eq clocks poll_clocks ≡ true → says_busy out ≡ false → AsksStep before (AsksMore P R) limit (Poll clocks) (Ok (turn + 1))
      asks_enough clocks is idle =
          let all = turned false idle in
          let whole = poll_all before limit clocks is in
          (omega (arith, all, whole), further one)

    pub asks_halts : (clocks out : List ℕ) (why : PortFault) → bytes_eq clocks poll_clocks ≡ true → Transacts now after (Err why) poll_clocks out → AsksMore Q R 1
        → AsksStep before (AsksMore P R) limit (Poll clocks) (Err (halt_of why))
    asks_halts clocks out (port.Wrong why) is told one =
        let all = next (Err why) told.0 in
        let whole = poll_all before limit clocks is in
        as_many P R (turn + 1) _ (omega (arith, all, whole)) (further one)
    asks_halts clocks out port.Failed is told one =
        let all = next _ refl in
        let whole = poll_all before limit clocks is in
        (turn, omega (arith, all, whole), as_many P R (turn + 1) (0 + turn + 1) (omega arith) (further one))

pub asks_all : (before now : Shown) (P Q : ℕ → Type 0) (limit : ℕ) (clocks : List ℕ) → IsAsking before now P Q limit limit → bytes_eq clocks poll_clocks ≡ true
    → AsksMore P Q (asks_of before.setting limit before.chip (Poll clocks))
unfolding turns_for
asks_all before now P Q limit clocks asking is =
    let none : limit - limit ≡ 0 = omega arith in
    let last : turns_for before.setting (limit - limit) now.chip ≡ 0 = ap (λ n. turns_for before.setting n now.chip) none in
    let turns = asking.turns in
    let whole = poll_all before limit clocks is in
    as_many P Q limit _ (omega (arith, turns, last, whole)) asking.asked

-- what follows steps that were played
asks_then : (s : Setting) (limit : ℕ) (c d : Chip) (xs ys : List Step) → played s limit c xs ≡ Ok d
    → asks s limit c (xs ++ ys) ≡ asks s limit c xs + asks s limit d ys
unfolding played asks
asks_then s limit c d [] ys h =
    let same : c ≡ d = cc in
    let here : asks s limit c ys ≡ asks s limit d ys = ap (λ (c : Chip). asks s limit c ys) same in omega (arith, here)
asks_then s limit c d (x ∷ xs) ys h =
    let rest = by (step_for s limit c x) (λ e. played s limit e xs) (λ e. asks s limit e (xs ++ ys)) (λ e. asks s limit e xs) (asks s limit d ys) d h (λ e is. asks_then s limit e d xs ys is) in
    omega (arith, rest)
  where
    by : (r : Result Chip Halt) (f : Chip → Result Chip Stop) (g k : Chip → ℕ) (more : ℕ) (d : Chip) → play_on r f ≡ Ok d
        → ((e : Chip) → f e ≡ Ok d → g e ≡ k e + more) → asks_after r g ≡ asks_after r k + more
    by (Ok e) f g k more d h same = same e (later_ok (f e) d h)
    by (Err stop) f g k more d h same = cc

last_asks : (s : Setting) (limit : ℕ) (c : Chip) (x : Step) → asks s limit c (x ∷ []) ≡ asks_of s limit c x
unfolding asks
last_asks s limit c x = let none = by (step_for s limit c x) in omega (arith, none)
  where
    by : (r : Result Chip Halt) → asks_after r (λ d. 0) ≡ 0
    by (Ok d) = refl
    by (Err stop) = refl

stop_asks : (s : Setting) (limit : ℕ) (c : Chip) (x : Step) (rest : List Step) (stop : Halt) → step_for s limit c x ≡ Err stop
    → asks s limit c (x ∷ rest) ≡ asks_of s limit c x
unfolding asks
stop_asks s limit c x rest stop is =
    let none : asks_after (step_for s limit c x) (λ d. asks s limit d rest) ≡ 0 = ap (λ r. asks_after r (λ d. asks s limit d rest)) is in
    omega (arith, none)

-- the steps so far, with so many transactions
pub record HasAsked (before : Shown) (P Q : ℕ → Type 0) (limit : ℕ) (steps : List Step) (count : ℕ) : Type 0 where
  pub asked : AsksMore P Q count
  pub sum : count ≡ asks before.setting limit before.chip steps

pub nothing_asked : (before : Shown) (P : ℕ → Type 0) (limit : ℕ) → HasAsked before P P limit [] 0
unfolding asks
nothing_asked before P limit = record { asked = never_asked P; sum = refl }

module _ (before now : Shown) (P Q R : ℕ → Type 0) (limit : ℕ) (steps : List Step) (x : Step) (count : ℕ) (has : HasPlayed before now limit steps count)
    (asked : HasAsked before P Q limit steps count) where
  in_setting : asks_of now.setting limit now.chip x ≡ asks_of before.setting limit now.chip x
  in_setting = ap (λ (s : Setting). asks_of s limit now.chip x) has.setting

  pub one_more_asked : (turns : ℕ) → AsksNumbered now (AsksMore Q R) limit x (Ok turns) → HasAsked before P R limit (steps ++ x ∷ []) (count + turns)
  one_more_asked turns told =
      let first = told.0 in
      let sum = asked.sum in
      let all = asks_then before.setting limit before.chip now.chip steps (x ∷ []) has.bounded in
      let last = last_asks before.setting limit now.chip x in
      let here = in_setting in
      record { asked = more_asked P Q R count turns asked.asked told.1; sum = omega (arith, first, sum, all, last, here) }

  pub wrong_asked : (at : ℕ) (after : Shown) (why : Wrong) (rest : List Step) → StopsStep now after limit x why
      → AsksNumbered now (AsksMore Q R) limit x (Err (fault.Wrong at why)) → AsksMore P R (asks before.setting limit before.chip (steps ++ x ∷ rest))
  wrong_asked at after why rest stops told =
      let stop : step_for before.setting limit now.chip x ≡ Err (record { why = why; chip = after.chip }) =
      ap (λ (s : Setting). step_for s limit now.chip x) (sym has.setting) ∙ stops.stops in
      let sum = asked.sum in
      let all = asks_then before.setting limit before.chip now.chip steps (x ∷ rest) has.bounded in
      let last = stop_asks before.setting limit now.chip x rest _ stop in
      let here = in_setting in
      as_many P R (count + asks_of now.setting limit now.chip x) _ (omega (arith, sum, all, last, here)) (more_asked P Q R count _ asked.asked told)

  pub failed_asked : AsksPart (AsksMore Q R) 0 (asks_of now.setting limit now.chip x)
      → AsksPart (AsksMore P R) (asks before.setting limit before.chip steps) (asks_of before.setting limit now.chip x)
  failed_asked told =
      let turns = told.0 in
      let within = told.1 in
      let here = in_setting in
      let sum = asked.sum in
      (turns, omega (arith, within, here), as_many P R (count + (0 + turns + 1)) _ (omega (arith, sum)) (more_asked P Q R count (0 + turns + 1) asked.asked told.2))

  pub left_asked : AsksMore Q R 0 → AsksMore P R (asks before.setting limit before.chip steps)
  left_asked told = let sum = asked.sum in as_many P R (count + 0) _ (omega (arith, sum)) (more_asked P Q R count 0 asked.asked told)

-- a step's halt ends the play
pub halt_asks : (before now after : Shown) (P Q R : ℕ → Type 0) (player : Player) (steps : List Step) (x : Step) (count : ℕ) (f : PlayFault)
    → HasPlayed before now player.limit (take player.number steps) count → HasAsked before P Q player.limit (take player.number steps) count
    → player.number < length steps → x ≡ get_or steps player.number x → PlaysNumbered now after player x (Err f) → AsksNumbered now (AsksMore Q R) player.limit x (Err f)
    → AsksPlay before (AsksMore P R) player.limit steps (Err f)
halt_asks before now after P Q R player steps x count (fault.Wrong at why) has asked within is played told =
    subst (λ (l : List Step). AsksMore P R (asks before.setting player.limit before.chip l)) (at_one steps player.number x within is)
    (wrong_asked before now P Q R player.limit (take player.number steps) x count has asked at after why (drop (player.number + 1) steps) played.1 told)
halt_asks before now after P Q R player steps x count (fault.PortFailed at) has asked within is played told =
    subst (λ n. AsksPlay before (AsksMore P R) player.limit steps (Err (fault.PortFailed n))) (sym played)
    (record {
      within = within;
      chip = now.chip;
      reached = has.bounded;
      failed = x;
      is = is;
      asks_so = failed_asked before now P Q R player.limit (take player.number steps) x count has asked told;
    })
halt_asks before now after P Q R player steps x count fault.Memory has asked within is played told =
    record { at = player.number; within = within; asks_so = left_asked before now P Q R player.limit (take player.number steps) x count has asked told }
