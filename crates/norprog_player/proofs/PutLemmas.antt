-- Steps that go well on a chip in memory, as a device does them.
use Rattle.std.proofs.Common.{◌≡◌, ℕ, ◌+◌, ◌<◌, ◌≤◌, ◌==◌, Bool, true, false, if◌then◌else◌, List, [], ◌∷◌, ◌++◌, take, drop, length, get_or, Result, Ok, Err, refl, sym, ◌∙◌, ap, subst, eqb-true}
use Rattle.std.proofs.lemmas.List.{take_all}
use Rattle.std.proofs.lemmas.List.Elements.{All-nil, All-cons, All-append}
use Rattle.std.proofs.lemmas.Slice.Eq.{bytes_eq-Decides}
use Rattle.std.specs.Prelude.{All}
use Rattle.std.specs.Str.{bytes_eq}
use Rattle.nor_base.specs.declared.step.Step.{Step}
use Rattle.nor_base.specs.declared.step.Step.TheVariants.{Send, Poll, Verify}
use Rattle.nor_base.specs.declared.wrong.Wrong.{Wrong}
use Rattle.nor_base.specs.declared.wrong.Wrong.TheVariants as wrong
use Rattle.nor_base.specs.Chip.{Setting, Chip}
use Rattle.nor_base.specs.Effect.{effect}
use Rattle.nor_base.specs.Port.{Shown, Transacts}
use Rattle.nor_base.specs.Run.{Halt, poll_clocks, is_verify, matched, halt_on, polled_for, step_for, play_on, played}
use Rattle.nor_base.specs.Sample.{sampled_count}
use Rattle.nor_base.specs.Step.{step_clocks}
use Rattle.nor_base.proofs.ListLaws.{first_left, one_taken}
use Rattle.nor_base.proofs.OutcomeLaws.{ok_is}
use Rattle.nor_serprog.specs.Done.{IsDoable}
use Rattle.norprog_player.specs.Put.{AreAnswered, Goes, IsTaken, put_as}
use Rattle.norprog_player.proofs.TakenLemmas.{goes_on}

-- a verify that goes well in memory gives what is expected
gives : (expect : List ℕ) (c d : Chip) (after : Chip × List ℕ) → halt_on c (matched expect (Ok after)) ≡ Ok d → after.1 ≡ expect
gives expect c d after h = by (bytes_eq after.1 expect) refl h
  where
    by : (same : Bool) → bytes_eq after.1 expect ≡ same → halt_on c (if same then Ok after.0 else Err wrong.Mismatch) ≡ Ok d → after.1 ≡ expect
    by true is h = (bytes_eq-Decides after.1 expect).0 is
    by false is h = cc

verify_gives : (s : Setting) (c d e : Chip) (clocks expect given : List ℕ) → step_for s 1 c (Verify clocks expect) ≡ Ok d
    → effect s c clocks ≡ Ok (e, given) → given ≡ expect
unfolding step_for
verify_gives s c d e clocks expect given h done = by (is_verify clocks) h
  where
    by : (is : Bool) → halt_on c (if is then matched expect (effect s c clocks) else Err wrong.Unknown) ≡ Ok d → given ≡ expect
    by true h = gives expect c d (e, given) (subst (λ (r : Result (Chip × List ℕ) Wrong). halt_on c (matched expect r) ≡ Ok d) done h)
    by false h = cc

-- a poll that goes well has the clocks of a status read
poll_is : (s : Setting) (c d : Chip) (clocks : List ℕ) → step_for s 1 c (Poll clocks) ≡ Ok d → clocks ≡ poll_clocks
unfolding step_for
poll_is s c d clocks h = by (bytes_eq clocks poll_clocks) refl h
  where
    by : (same : Bool) → bytes_eq clocks poll_clocks ≡ same → (if same then polled_for s 1 c else Err (record { why = wrong.Unknown; chip = c })) ≡ Ok d
        → clocks ≡ poll_clocks
    by true is h = (bytes_eq-Decides clocks poll_clocks).0 is
    by false is h = cc

goes_step : (s : Setting) (c d : Chip) (x : Step) (xs : List Step) → played s 1 c (x ∷ xs) ≡ Ok d → (e : Chip) × (step_for s 1 c x ≡ Ok e)
unfolding played
goes_step s c d x xs h = by (step_for s 1 c x) refl h
  where
    by : (r : Result Chip Halt) → step_for s 1 c x ≡ r → play_on r (λ e. played s 1 e xs) ≡ Ok d → (e : Chip) × (step_for s 1 c x ≡ Ok e)
    by (Ok e) is h = (e, is)
    by (Err halt) is h = cc

-- of a Send what it samples is wanted, or waited for
sampling : (clocks given : List ℕ) → length given ≡ sampled_count clocks → (same : Bool) → bytes_eq clocks poll_clocks ≡ same
    → IsDoable (if same then Poll clocks else Verify clocks given)
sampling clocks given as_many true is = (bytes_eq-Decides clocks poll_clocks).0 is
sampling clocks given as_many false is = as_many

sending : (clocks given : List ℕ) → length given ≡ sampled_count clocks → (none : Bool) → (length given == 0) ≡ none
    → IsDoable (if none then Send clocks else (if bytes_eq clocks poll_clocks then Poll clocks else Verify clocks given))
sending clocks given as_many true is = sym as_many ∙ eqb-true (length given) 0 is
sending clocks given as_many false is = sampling clocks given as_many (bytes_eq clocks poll_clocks) refl

-- a step that goes well is one that a device does, where it is to give what the chip in memory gave
doable : (s : Setting) (c d e : Chip) (x : Step) (xs : List Step) (given : List ℕ) → played s 1 c (x ∷ xs) ≡ Ok d
    → length given ≡ sampled_count (step_clocks x) → effect s c (step_clocks x) ≡ Ok (e, given) → IsDoable (put_as x given)
doable s c d e (Send clocks) xs given goes as_many done = sending clocks given as_many (length given == 0) refl
doable s c d e (Poll clocks) xs given goes as_many done =
    let next = goes_step s c d (Poll clocks) xs goes in poll_is s c next.0 clocks next.1
doable s c d e (Verify clocks expect) xs given goes as_many done =
    let next = goes_step s c d (Verify clocks expect) xs goes in
    ap length (sym (verify_gives s c next.0 e clocks expect given next.1 done)) ∙ as_many

-- what is left of a run that goes well goes well from here
abbrev pub GoesOn : Shown → List Step → Shown → List Step → Type 0
GoesOn before all now rest = (d : Chip) → played before.setting 1 before.chip all ≡ Ok d → played now.setting 1 now.chip rest ≡ Ok d

-- at a step of a run that goes well
module _ (before now : Shown) (steps : List Step) (i : ℕ) (x : Step) (within : i < length steps) (is : x ≡ get_or steps i x)
    (on : GoesOn before steps now (drop i steps)) where
  left : (d : Chip) → played before.setting 1 before.chip steps ≡ Ok d → played now.setting 1 now.chip (x ∷ drop (i + 1) steps) ≡ Ok d
  left d goes = subst (λ (l : List Step). played now.setting 1 now.chip l ≡ Ok d) (first_left steps i x is within) (on d goes)

  pub takes_next : Goes before steps → IsTaken now (step_clocks x)
  takes_next goes = let next = goes_on now.setting now.chip goes.0 x (drop (i + 1) steps) (left goes.0 goes.1) in (next.0, next.1.0, next.1.1)

  pub doable_next : (next : Shown) (given : List ℕ) → Goes before steps → length given ≡ sampled_count (step_clocks x)
      → Transacts now next (Ok tt) (step_clocks x) given → IsDoable (put_as x given)
  doable_next next given goes as_many one =
      doable now.setting now.chip goes.0 next.chip x (drop (i + 1) steps) given (left goes.0 goes.1) as_many one.0

  -- after it the others are left
  pub goes_next : (next : Shown) (given : List ℕ) → Transacts now next (Ok tt) (step_clocks x) given → GoesOn before steps next (drop (i + 1) steps)
  goes_next next given one d goes =
      let more = goes_on now.setting now.chip d x (drop (i + 1) steps) (left d goes) in
      let same : (more.0, more.1.0) ≡ (next.chip, given) = ok_is (more.0, more.1.0) (next.chip, given) (effect now.setting now.chip (step_clocks x)) more.1.1 one.0 in
      let chip : more.0 ≡ next.chip = ap (λ (p : Chip × List ℕ). p.0) same in
      subst (λ (s : Setting). played s 1 next.chip (drop (i + 1) steps) ≡ Ok d) (sym one.1)
      (subst (λ (e : Chip). played now.setting 1 e (drop (i + 1) steps) ≡ Ok d) chip more.2)

-- one step more
answered_more : (a b c : Shown) (xs put : List Step) (x : Step) (given : List ℕ) → AreAnswered a xs put b → Transacts b c (Ok tt) (step_clocks x) given
    → AreAnswered a (xs ++ x ∷ []) (put ++ put_as x given ∷ []) c
answered_more a b c [] put x given all one = (
  given,
  c,
  [],
  subst (λ (s : Shown). Transacts s c (Ok tt) (step_clocks x) given) all.1 one,
  ap (λ (l : List Step). l ++ put_as x given ∷ []) all.0,
  (refl, refl),
)
answered_more a b c (y ∷ ys) put x given all one = (
  all.0,
  all.1,
  all.2 ++ put_as x given ∷ [],
  all.3,
  ap (λ (l : List Step). l ++ put_as x given ∷ []) all.4,
  answered_more all.1 b c ys all.2 x given all.5 one,
)

pub answered_next : (a b c : Shown) (steps put : List Step) (i : ℕ) (x : Step) (given : List ℕ) → i < length steps → x ≡ get_or steps i x
    → AreAnswered a (take i steps) put b → Transacts b c (Ok tt) (step_clocks x) given → AreAnswered a (take (i + 1) steps) (put ++ put_as x given ∷ []) c
answered_next a b c steps put i x given within is all one =
    subst (λ (l : List Step). AreAnswered a l (put ++ put_as x given ∷ []) c) (sym (one_taken steps i x within is))
    (answered_more a b c (take i steps) put x given all one)

pub answered_all : (a b : Shown) (steps put : List Step) (i : ℕ) → length steps ≤ i → AreAnswered a (take i steps) put b → AreAnswered a steps put b
answered_all a b steps put i all so_far = subst (λ (l : List Step). AreAnswered a l put b) (take_all i steps all) so_far

pub form_more : (put : List Step) (y : Step) → All IsDoable put → IsDoable y → All IsDoable (put ++ y ∷ [])
form_more put y all one = All-append IsDoable put (y ∷ []) all (All-cons IsDoable y [] one (All-nil IsDoable))
