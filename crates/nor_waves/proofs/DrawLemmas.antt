-- Ticks that are drawn one list after another.
use Rattle.std.proofs.Common.{◌≡◌, ℕ, ◌+◌, ◌<◌, ◌≤◌, List, [], ◌∷◌, ◌++◌, length, drop, get_or, Option, Result, Ok, Err, IfOk, refl, sym, ◌∙◌, ap, subst, append_assoc, append-nil}
use Rattle.std.specs.Prelude.{flat_map}
use Rattle.std.specs.Io.KnownBytes.{Appends}
use Rattle.std.proofs.lemmas.List.{drop_more, drop_all}
use Rattle.nor_base.specs.Device.{Cuts, Writes}
use Rattle.nor_base.proofs.DeviceLaws.{Appends-none, Appends-append, Cuts-then, Cuts-more, Writes-then}
use Rattle.nor_base.specs.declared.device.Failed.{Failed}
use Rattle.nor_base.specs.declared.step.Step.{Step}
use Rattle.nor_waves.specs.declared.drawing.Drawing.{Drawing}
use Rattle.nor_waves.specs.declared.wires.Level.TheVariants.{Low}
use Rattle.nor_waves.specs.declared.wires.Levels.{Levels}
use Rattle.nor_waves.specs.Wires.{changes}
use Rattle.nor_base.specs.Step.{expected, step_clocks}
use Rattle.nor_waves.specs.Ticks.{clock_ticks, clocks_ticks, lanes_in, sample_at, step_ticks, gap}
use Rattle.nor_waves.specs.Waves.{stamped}
use Rattle.nor_waves.specs.Drawing.{past, after, drawn}
use Rattle.nor_base.proofs.ListLaws.{first_left}

pub drawn_append : (at : Drawing) (xs ys : List Levels) → drawn at (xs ++ ys) ≡ drawn at xs ++ drawn (after at xs) ys
unfolding drawn after
drawn_append at [] ys = refl
drawn_append at (x ∷ xs) ys =
    ap (λ t. stamped at.tick (changes at.levels x) ++ t) (drawn_append (past at x) xs ys)
    ∙ sym (append_assoc (stamped at.tick (changes at.levels x)) (drawn (past at x) xs) (drawn (after (past at x) xs) ys))

pub after_append : (at : Drawing) (xs ys : List Levels) → after at (xs ++ ys) ≡ after (after at xs) ys
unfolding after
after_append at [] ys = refl
after_append at (x ∷ xs) ys = after_append (past at x) xs ys

-- of these ticks the first were drawn, up to here; the rest is to come
pub record AreDrawn (from : Drawing) (all : List Levels) (before now : Option (List ℕ)) (at : Drawing) (rest : List Levels) : Type 0 where
  pub done : List Levels
  pub put : Appends before now (drawn from done)
  pub place : at ≡ after from done
  pub whole : done ++ rest ≡ all

pub none_drawn : (from : Drawing) (all : List Levels) (a : Option (List ℕ)) → AreDrawn from all a a from all
unfolding drawn after
none_drawn from all a = record { done = []; put = Appends-none a; place = refl; whole = refl }

module _ (from : Drawing) (all : List Levels) (a b : Option (List ℕ)) (at : Drawing) (rest : List Levels) (d : AreDrawn from all a b at rest) where
  pub more_drawn : (c : Option (List ℕ)) (next : Drawing) (xs ys : List Levels) → rest ≡ xs ++ ys → Appends b c (drawn at xs) → next ≡ after at xs
      → AreDrawn from all a c next ys
  more_drawn c next xs ys parts put is = record {
    done = d.done ++ xs;
    put = subst (Appends a c) (ap (λ p. drawn from d.done ++ drawn p xs) d.place ∙ sym (drawn_append from d.done xs))
        (Appends-append a b c (drawn from d.done) (drawn at xs) d.put put);
    place = is ∙ ap (λ p. after p xs) d.place ∙ sym (after_append from d.done xs);
    whole = append_assoc d.done xs ys ∙ ap (λ l. d.done ++ l) (sym parts) ∙ d.whole;
  }

  pub cut_drawn : (c : Option (List ℕ)) (xs ys : List Levels) → rest ≡ xs ++ ys → Cuts b c (drawn at xs) → Cuts a c (drawn from all)
  cut_drawn c xs ys parts cut =
      let later : drawn at xs ++ drawn (after at xs) ys ≡ drawn (after from d.done) rest =
      sym (drawn_append at xs ys) ∙ ap (drawn at) (sym parts) ∙ ap (λ p. drawn p rest) d.place in
      subst (Cuts a c) (ap (λ t. drawn from d.done ++ t) later ∙ sym (drawn_append from d.done rest) ∙ ap (drawn from) d.whole)
      (Cuts-then a b c (drawn from d.done) _ d.put (Cuts-more b c (drawn at xs) (drawn (after at xs) ys) cut))

  pub done_is_all : rest ≡ [] → d.done ≡ all
  done_is_all none = sym (append-nil d.done) ∙ ap (λ l. d.done ++ l) (sym none) ∙ d.whole

  pub all_drawn : rest ≡ [] → Appends a b (drawn from all)
  all_drawn none = subst (Appends a b) (ap (drawn from) (done_is_all none)) d.put

  pub all_after : rest ≡ [] → at ≡ after from all
  all_after none = d.place ∙ ap (after from) (done_is_all none)

-- what stands for a tick past the end of a list
abbrev pub unset : Levels
unset = record { select = Low; clock = Low; io0 = Low; io1 = Low; io2 = Low; io3 = Low; sampling = Low }

pub tick_left : (ticks : List Levels) (n : ℕ) (d : Levels) → n < length ticks → drop n ticks ≡ (get_or ticks n d ∷ []) ++ drop (n + 1) ticks
tick_left ticks n d inside = drop_more ticks n d inside

-- one tick
one_text : (at : Drawing) (x : Levels) → stamped at.tick (changes at.levels x) ≡ drawn at (x ∷ [])
unfolding drawn
one_text at x = sym (append-nil (stamped at.tick (changes at.levels x)))

pub one_put : (at : Drawing) (x : Levels) (lines : List ℕ) (a b : Option (List ℕ)) → lines ≡ changes at.levels x → Appends a b (stamped at.tick lines) → Appends a b (drawn at (x ∷ []))
one_put at x lines a b is put = subst (Appends a b) (ap (stamped at.tick) is ∙ one_text at x) put

pub one_cut : (at : Drawing) (x : Levels) (lines : List ℕ) (a b : Option (List ℕ)) → lines ≡ changes at.levels x → Cuts a b (stamped at.tick lines) → Cuts a b (drawn at (x ∷ []))
one_cut at x lines a b is cut = subst (Cuts a b) (ap (stamped at.tick) is ∙ one_text at x) cut

pub one_after : (at : Drawing) (x : Levels) → past at x ≡ after at (x ∷ [])
unfolding after
one_after at x = refl

-- one clock of those that are left
pub clock_left : (bytes : List ℕ) (k : ℕ) (clocks : List ℕ) (n : ℕ) → n < length clocks
    → clocks_ticks bytes k (drop n clocks)
    ≡ clock_ticks bytes k (sample_at (get_or clocks n 0)) ++ clocks_ticks bytes (k + lanes_in (sample_at (get_or clocks n 0)).sampled) (drop (n + 1) clocks)
unfolding clocks_ticks
clock_left bytes k clocks n inside = ap (clocks_ticks bytes k) (drop_more clocks n 0 inside)

pub no_clock_left : (bytes : List ℕ) (k : ℕ) (clocks : List ℕ) (n : ℕ) → length clocks ≤ n → clocks_ticks bytes k (drop n clocks) ≡ []
unfolding clocks_ticks
no_clock_left bytes k clocks n past_all = ap (clocks_ticks bytes k) (drop_all n clocks past_all)

-- one step of those that are left
pub step_left : (steps : List Step) (n : ℕ) (x : Step) → x ≡ get_or steps n x → n < length steps
    → flat_map step_ticks (drop n steps) ≡ step_ticks x ++ flat_map step_ticks (drop (n + 1) steps)
step_left steps n x is inside = ap (flat_map step_ticks) (first_left steps n x is inside)

-- two lists of ticks
pub first_cut : (at : Drawing) (xs ys : List Levels) (a b : Option (List ℕ)) → Cuts a b (drawn at xs) → Cuts a b (drawn at (xs ++ ys))
first_cut at xs ys a b cut = subst (Cuts a b) (sym (drawn_append at xs ys)) (Cuts-more a b (drawn at xs) (drawn (after at xs) ys) cut)

pub second_put : {T : Type 0} (at next : Drawing) (xs ys : List Levels) (a b c : Option (List ℕ)) (r : Result T Failed) → Appends a b (drawn at xs) → next ≡ after at xs
    → Writes b c r (drawn next ys) → Writes a c r (drawn at (xs ++ ys))
second_put at next xs ys a b c r front is back =
    subst (Writes a c r) (ap (λ p. drawn at xs ++ drawn p ys) is ∙ sym (drawn_append at xs ys))
    (Writes-then a b c r (drawn at xs) (drawn next ys) front back)

-- a step
pub gap_cut : (at : Drawing) (x : Step) (a b : Option (List ℕ)) → Cuts a b (drawn at gap) → Cuts a b (drawn at (step_ticks x))
unfolding step_ticks
gap_cut at x a b cut = first_cut at gap (clocks_ticks (expected x) 0 (step_clocks x)) a b cut

pub clocks_put : {T : Type 0} (at next : Drawing) (x : Step) (clocks bytes : List ℕ) (a b c : Option (List ℕ)) (r : Result T Failed) → clocks ≡ step_clocks x → bytes ≡ expected x
    → Appends a b (drawn at gap) → next ≡ after at gap → Writes b c r (drawn next (clocks_ticks bytes 0 clocks)) → Writes a c r (drawn at (step_ticks x))
unfolding step_ticks
clocks_put at next x clocks bytes a b c r same expects front is back =
    second_put at next gap (clocks_ticks (expected x) 0 (step_clocks x)) a b c r front is
    (subst (Writes b c r) (ap (λ l. drawn next (clocks_ticks bytes 0 l)) same ∙ ap (λ l. drawn next (clocks_ticks l 0 (step_clocks x))) expects) back)

pub clocks_after : (at next : Drawing) (x : Step) (clocks bytes : List ℕ) (r : Result Drawing Failed) → clocks ≡ step_clocks x → bytes ≡ expected x → next ≡ after at gap
    → IfOk r (λ end. end ≡ after next (clocks_ticks bytes 0 clocks)) → IfOk r (λ end. end ≡ after at (step_ticks x))
unfolding step_ticks
clocks_after at next x clocks bytes (Err e) same expects is ends = tt
clocks_after at next x clocks bytes (Ok end) same expects is ends =
    ends ∙ ap (λ l. after next (clocks_ticks bytes 0 l)) same ∙ ap (λ l. after next (clocks_ticks l 0 (step_clocks x))) expects
    ∙ ap (λ p. after p (clocks_ticks (expected x) 0 (step_clocks x))) is ∙ sym (after_append at gap (clocks_ticks (expected x) 0 (step_clocks x)))
