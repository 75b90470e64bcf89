-- Steps played one after another.
use Rattle.std.proofs.Common.{◌≡◌, ℕ, suc, ◌+◌, ◌*◌, ◌<◌, ◌≤◌, true, false, if◌then◌else◌, List, [], ◌∷◌, ◌++◌, length, take, drop, Result, Ok, Err, refl, sym, ◌∙◌, ap, subst, arith, append_assoc, append-nil, length-append, get_or}
use Rattle.std.proofs.lemmas.List.{drop_more, take-append-drop, length-take-le}
use Rattle.nor_base.specs.declared.step.Step.{Step}
use Rattle.nor_base.specs.declared.wrong.Wrong.{Wrong}
use Rattle.nor_base.specs.declared.wrong.Wrong.TheVariants as wrong
use Rattle.nor_base.specs.Chip.{Setting, Chip, is_settled}
use Rattle.nor_base.specs.Port.{Shown}
use Rattle.nor_base.specs.Run.{Stop, Halt, one_later, play_on, played, go_on, run, step, step_for, step_trail, trail_after, trail}
use Rattle.nor_base.proofs.OutcomeLaws.{later_ok}
use Rattle.nor_play.specs.declared.fault.PlayFault.{PlayFault}
use Rattle.nor_play.specs.declared.fault.PlayFault.TheVariants as fault
use Rattle.nor_play.specs.Turns.{EndsStep, StopsStep}
use Rattle.nor_play.specs.Fed.{Player}
use Rattle.nor_play.specs.Numbered.{PlaysNumbered}
use Rattle.nor_play.specs.Play.{at_end, EndsPlay, FailsPlay, LeavesPlay, Plays}

-- a stop counted from so many steps earlier
abbrev later : ℕ → Result Chip Stop → Result Chip Stop
later n (Ok c) = Ok c
later n (Err stop) = Err (record stop { at = stop.at + n })

later_none : (r : Result Chip Stop) → r ≡ later 0 r
later_none (Ok c) = refl
later_none (Err stop) = let same : stop.at ≡ stop.at + 0 = omega arith in ap (λ n. Err (record stop { at = n })) same

later_one : (n : ℕ) (r : Result Chip Stop) → one_later (later n r) ≡ later (suc n) r
later_one n (Ok c) = refl
later_one n (Err stop) = let same : stop.at + n + 1 ≡ stop.at + suc n = omega arith in ap (λ n. Err (record stop { at = n })) same

-- what follows steps that were played
played_then : (s : Setting) (limit : ℕ) (c d : Chip) (xs ys : List Step) → played s limit c xs ≡ Ok d
    → played s limit c (xs ++ ys) ≡ later (length xs) (played s limit d ys)
unfolding played
played_then s limit c d [] ys h = let same : c ≡ d = cc in ap (λ (c : Chip). played s limit c ys) same ∙ later_none (played s limit d ys)
played_then s limit c d (x ∷ xs) ys h =
    by (length xs) (step_for s limit c x) (λ e. played s limit e xs) (λ e. played s limit e (xs ++ ys)) (played s limit d ys) d h (λ e is. played_then s limit e d xs ys is)
  where
    by : (n : ℕ) (r : Result Chip Halt) (f g : Chip → Result Chip Stop) (rest : Result Chip Stop) (d : Chip) → play_on r f ≡ Ok d
        → ((e : Chip) → f e ≡ Ok d → g e ≡ later n rest) → play_on r g ≡ later (suc n) rest
    by n (Ok e) f g rest d h more = ap one_later (more e (later_ok (f e) d h)) ∙ later_one n rest
    by n (Err stop) f g rest d h more = cc

run_then : (s : Setting) (c d e : Chip) (xs ys : List Step) → run s c xs ≡ Ok d → run s d ys ≡ Ok e → run s c (xs ++ ys) ≡ Ok e
unfolding run
run_then s c d e [] ys h k = let same : c ≡ d = cc in ap (λ (c : Chip). run s c ys) same ∙ k
run_then s c d e (x ∷ xs) ys h k =
    by c (step s c x) (λ f. run s f xs) (λ f. run s f (xs ++ ys)) d e h (λ f is. run_then s f d e xs ys is k)
  where
    by : (c : Chip) (r : Result Chip Wrong) (f g : Chip → Result Chip Stop) (d e : Chip) → go_on c r f ≡ Ok d → ((x : Chip) → f x ≡ Ok d → g x ≡ Ok e) → go_on c r g ≡ Ok e
    by c (Ok x) f g d e h more = ap one_later (more x (later_ok (f x) d h))
    by c (Err why) f g d e h more = cc

trail_then : (s : Setting) (c d : Chip) (xs ys : List Step) → run s c xs ≡ Ok d → trail s c (xs ++ ys) ≡ trail s c xs ++ trail s d ys
unfolding run trail
trail_then s c d [] ys h = let same : c ≡ d = cc in ap (λ (c : Chip). trail s c ys) same
trail_then s c d (x ∷ xs) ys h =
    ap (λ l. step_trail s c x ++ l) (by c (step s c x) (λ f. run s f xs) (λ f. trail s f xs) (λ f. trail s f (xs ++ ys)) (trail s d ys) d h (λ f is. trail_then s f d xs ys is))
    ∙ sym (append_assoc (step_trail s c x) (trail_after (step s c x) (λ f. trail s f xs)) (trail s d ys))
  where
    by : (c : Chip) (r : Result Chip Wrong) (f : Chip → Result Chip Stop) (g k : Chip → List Chip) (rest : List Chip) (d : Chip) → go_on c r f ≡ Ok d
        → ((x : Chip) → f x ≡ Ok d → k x ≡ g x ++ rest) → trail_after r k ≡ trail_after r g ++ rest
    by c (Ok x) f g k rest d h more = more x (later_ok (f x) d h)
    by c (Err why) f g k rest d h more = cc

-- these steps were played, by so many transactions
pub record HasPlayed (before now : Shown) (limit : ℕ) (steps : List Step) (count : ℕ) : Type 0 where
  pub setting : now.setting ≡ before.setting
  pub bounded : played before.setting limit before.chip steps ≡ Ok now.chip
  pub whole : run before.setting before.chip steps ≡ Ok now.chip
  pub counted : count ≡ length (trail before.setting before.chip steps)
  pub few : count ≤ length steps * limit

pub nothing_played : (before : Shown) (limit : ℕ) → HasPlayed before before limit [] 0
unfolding played run trail
nothing_played before limit = record { setting = refl; bounded = refl; whole = refl; counted = refl; few = omega arith }

-- one step more
module _ (before now after : Shown) (limit : ℕ) (steps : List Step) (x : Step) (count : ℕ) (has : HasPlayed before now limit steps count) where
  one_trail : trail before.setting now.chip (x ∷ []) ≡ step_trail before.setting now.chip x ++ trail_after (step before.setting now.chip x) (λ d. [])
  unfolding trail
  one_trail = refl

  pub one_more : (turns : ℕ) → EndsStep now after limit x turns → HasPlayed before after limit (steps ++ x ∷ []) (count + turns)
  unfolding played run
  one_more turns ends =
      let bounded : step_for before.setting limit now.chip x ≡ Ok after.chip = ap (λ (s : Setting). step_for s limit now.chip x) (sym has.setting) ∙ ends.bounded in
      let whole : step before.setting now.chip x ≡ Ok after.chip = ap (λ (s : Setting). step s now.chip x) (sym has.setting) ∙ ends.whole in
      let turned : turns ≡ length (step_trail before.setting now.chip x) = ends.counted ∙ ap (λ (s : Setting). length (step_trail s now.chip x)) has.setting in
      let last : trail before.setting now.chip (x ∷ []) ≡ step_trail before.setting now.chip x =
      one_trail ∙ ap (λ r. step_trail before.setting now.chip x ++ trail_after r (λ d. [])) whole ∙ append-nil (step_trail before.setting now.chip x) in
      let all : length (trail before.setting before.chip (steps ++ x ∷ [])) ≡ length (trail before.setting before.chip steps) + length (step_trail before.setting now.chip x) =
      ap length (trail_then before.setting before.chip now.chip steps (x ∷ []) has.whole ∙ ap (λ l. trail before.setting before.chip steps ++ l) last)
      ∙ length-append (trail before.setting before.chip steps) (step_trail before.setting now.chip x) in
      let counted = has.counted in
      let few = has.few in
      let within = ends.few in
      let long : length (steps ++ x ∷ []) ≡ length steps + 1 = length-append steps (x ∷ []) in
      record {
        setting = ends.setting ∙ has.setting;
        bounded = played_then before.setting limit before.chip now.chip steps (x ∷ []) has.bounded
            ∙ ap (λ r. later (length steps) (play_on r (λ d. Ok d))) bounded;
        whole = run_then before.setting before.chip now.chip after.chip steps (x ∷ []) has.whole (ap (λ r. go_on now.chip r (λ d. Ok d)) whole);
        counted = omega (arith, all, turned, counted);
        few = rw long (omega (arith, few, within));
      }

  -- a step that goes wrong, with any that follow
  pub stops_at : (why : Wrong) (rest : List Step) → StopsStep now after limit x why
      → Plays before after limit (steps ++ x ∷ rest) (Err (fault.Wrong (length steps) why))
  unfolding played
  stops_at why rest stop =
      let here : step_for before.setting limit now.chip x ≡ Err (record { why = why; chip = after.chip }) =
      ap (λ (s : Setting). step_for s limit now.chip x) (sym has.setting) ∙ stop.stops in
      let number : 0 + length steps ≡ length steps = omega arith in
      let stopped : played before.setting limit before.chip (steps ++ x ∷ rest) ≡ Err (record { at = length steps; why = why; chip = after.chip }) =
      played_then before.setting limit before.chip now.chip steps (x ∷ rest) has.bounded
      ∙ ap (λ r. later (length steps) (play_on r (λ d. played before.setting limit d rest))) here
      ∙ ap (λ n. Err (record { at = n; why = why; chip = after.chip })) number in
      (stop.setting ∙ has.setting, ap (at_end before.setting (length (steps ++ x ∷ rest))) stopped)

-- the end
pub play_ends : (before now : Shown) (limit : ℕ) (steps : List Step) (count : ℕ) → HasPlayed before now limit steps count → is_settled now.setting now.chip ≡ true
    → EndsPlay before now limit steps count
play_ends before now limit steps count has settled = record {
  setting = has.setting;
  ends = ap (at_end before.setting (length steps)) has.bounded
      ∙ ap (λ b. if b then Ok now.chip else Err (record { at = length steps; why = wrong.NotIdleAtEnd; chip = now.chip }))
      (ap (λ (s : Setting). is_settled s now.chip) (sym has.setting) ∙ settled);
  counted = has.counted;
}

pub play_unsettled : (before now : Shown) (limit : ℕ) (steps : List Step) (count : ℕ) → HasPlayed before now limit steps count → is_settled now.setting now.chip ≡ false
    → Plays before now limit steps (Err (fault.Wrong (length steps) wrong.NotIdleAtEnd))
play_unsettled before now limit steps count has settled = (
  has.setting,
  ap (at_end before.setting (length steps)) has.bounded
      ∙ ap (λ b. if b then Ok now.chip else Err (record { at = length steps; why = wrong.NotIdleAtEnd; chip = now.chip }))
      (ap (λ (s : Setting). is_settled s now.chip) (sym has.setting) ∙ settled),
)

-- all steps by one of them
pub at_one : (steps : List Step) (at : ℕ) (x : Step) → at < length steps → x ≡ get_or steps at x → take at steps ++ x ∷ drop (at + 1) steps ≡ steps
at_one steps at x within is =
    ap (λ (y : Step). take at steps ++ y ∷ drop (at + 1) steps) is ∙ sym (ap (λ l. take at steps ++ l) (drop_more steps at x within)) ∙ take-append-drop at steps

-- a step's halt ends the play
pub halts_at : (before now after : Shown) (player : Player) (steps : List Step) (x : Step) (count : ℕ) (f : PlayFault)
    → HasPlayed before now player.limit (take player.number steps) count → player.number < length steps → x ≡ get_or steps player.number x
    → PlaysNumbered now after player x (Err f) → Plays before after player.limit steps (Err f)
halts_at before now after player steps x count (fault.Wrong at why) has within is told =
    let long : length (take player.number steps) ≡ player.number = length-take-le player.number steps (omega arith) in
    let stops = stops_at before now after player.limit (take player.number steps) x count has why (drop (player.number + 1) steps) told.1 in
    subst (λ (l : List Step). Plays before after player.limit l (Err (fault.Wrong at why))) (at_one steps player.number x within is)
    (subst (λ n. Plays before after player.limit (take player.number steps ++ x ∷ drop (player.number + 1) steps) (Err (fault.Wrong n why))) (long ∙ sym told.0) stops)
halts_at before now after player steps x count (fault.PortFailed at) has within is told =
    subst (FailsPlay before player.limit steps) (sym told) (record { within = within; chip = now.chip; reached = has.bounded })
halts_at before now after player steps x count fault.Memory has within is told =
    subst (λ (shown : Shown). LeavesPlay before shown player.limit steps) (sym told)
    (record { at = player.number; within = within; setting = has.setting; reached = has.bounded })
