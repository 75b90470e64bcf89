-- The parts of a waveform's text.
use Rattle.std.proofs.Common.{◌≡◌, ℕ, ◌+◌, ◌%◌, ◌^◌, suc, List, [], ◌∷◌, ◌++◌, length, Option, Result, refl, sym, ◌∙◌, ap, subst, append_assoc, append-nil, zero-add, add-zero, arith}
use Rattle.std.specs.Prelude.{codes, decimal, flat_map}
use Rattle.std.specs.Io.KnownBytes.{Appends}
use Rattle.std.proofs.Math.Nat.{mod-add-mod}
use Rattle.nor_base.specs.Device.{Cuts, Writes}
use Rattle.nor_base.proofs.DeviceLaws.{Cuts-then, Cuts-more, Writes-then}
use Rattle.nor_base.specs.declared.device.Failed.{Failed}
use Rattle.nor_base.specs.Script.{closed}
use Rattle.nor_base.specs.declared.step.Step.{Step}
use Rattle.nor_waves.specs.declared.drawing.Drawing.{Drawing}
use Rattle.nor_waves.specs.declared.wires.Levels.{Levels}
use Rattle.nor_waves.specs.Wires.{changes, idle}
use Rattle.nor_waves.specs.Ticks.{step_ticks, gap, ticks}
use Rattle.nor_waves.specs.Waves.{header, stamp, stamped, changes_from, waves}
use Rattle.nor_waves.specs.Drawing.{past, after, drawn}
use Rattle.nor_waves.proofs.DrawLemmas.{drawn_append, after_append}

-- one tick more, in 64 bits
next_tick : (s t : ℕ) → s % 2 ^ 64 ≡ t % 2 ^ 64 → ((s + 1) % 2 ^ 64) % 2 ^ 64 ≡ (t + 1) % 2 ^ 64
next_tick s t same =
    let once : ((s + 1) % 2 ^ 64) % 2 ^ 64 ≡ (s + 1) % 2 ^ 64 = omega arith in
    once ∙ sym (mod-add-mod s (2 ^ 64) 1) ∙ ap (λ k. (k + 1) % 2 ^ 64) same ∙ mod-add-mod t (2 ^ 64) 1

same_stamp : (s t : ℕ) (lines : List ℕ) → s % 2 ^ 64 ≡ t % 2 ^ 64 → stamped s lines ≡ stamped t lines
unfolding stamp
same_stamp s t [] same = refl
same_stamp s t (x ∷ xs) same = ap (λ k. closed (codes "#" ++ decimal k) ++ (x ∷ xs)) same

-- the ticks of a drawing are counted as those of the text
counted : (at : Drawing) (t : ℕ) (xs : List Levels) → at.tick % 2 ^ 64 ≡ t % 2 ^ 64 → drawn at xs ≡ changes_from t at.levels xs
unfolding drawn changes_from
counted at t [] same = refl
counted at t (x ∷ xs) same =
    ap (λ l. l ++ drawn (past at x) xs) (same_stamp at.tick t (changes at.levels x) same)
    ∙ ap (λ l. stamped t (changes at.levels x) ++ l) (counted (past at x) (t + 1) xs (next_tick at.tick t same))

one_more : (t n : ℕ) → t + 1 + n ≡ t + suc n
one_more t n = omega arith

last_tick : (at : Drawing) (t : ℕ) (xs : List Levels) → at.tick % 2 ^ 64 ≡ t % 2 ^ 64 → (after at xs).tick % 2 ^ 64 ≡ (t + length xs) % 2 ^ 64
unfolding after
last_tick at t [] same = same ∙ ap (λ k. k % 2 ^ 64) (sym (add-zero t))
last_tick at t (x ∷ xs) same = last_tick (past at x) (t + 1) xs (next_tick at.tick t same) ∙ ap (λ k. k % 2 ^ 64) (one_more t (length xs))

abbrev start : Drawing
start = record { tick = 0; levels = idle }

-- the stamp of the end
ends_at : (xs : List Levels) → stamp (after (after start xs) gap).tick ≡ stamp (length (xs ++ gap))
unfolding stamp
ends_at xs =
    ap (λ p. stamp p.tick) (sym (after_append start xs gap))
    ∙ ap (λ k. closed (codes "#" ++ decimal k)) (last_tick start 0 (xs ++ gap) refl ∙ ap (λ k. k % 2 ^ 64) (zero-add (length (xs ++ gap))))

lines_are : (xs : List Levels) → drawn start xs ++ drawn (after start xs) gap ≡ changes_from 0 idle (xs ++ gap)
lines_are xs = sym (drawn_append start xs gap) ∙ counted start 0 (xs ++ gap) refl

module _ (steps : List Step) where
  body : drawn start (flat_map step_ticks steps) ++ (drawn (after start (flat_map step_ticks steps)) gap ++ stamp (after (after start (flat_map step_ticks steps)) gap).tick)
      ≡ changes_from 0 idle (ticks steps) ++ stamp (length (ticks steps))
  unfolding ticks
  body =
      let xs = flat_map step_ticks steps in
      let end = stamp (after (after start xs) gap).tick in
      sym (append_assoc (drawn start xs) (drawn (after start xs) gap) end) ∙ ap (λ l. l ++ end) (lines_are xs) ∙ ap (λ l. changes_from 0 idle (xs ++ gap) ++ l) (ends_at xs)

  whole : header ++ (drawn start (flat_map step_ticks steps) ++ (drawn (after start (flat_map step_ticks steps)) gap ++ stamp (after (after start (flat_map step_ticks steps)) gap).tick))
      ≡ waves steps
  unfolding waves
  whole = ap (λ l. header ++ l) body

  pub header_cut : (a b : Option (List ℕ)) → Cuts a b header → Cuts a b (waves steps)
  header_cut a b cut = subst (Cuts a b) whole (Cuts-more a b header _ cut)

  pub steps_cut : (a b c : Option (List ℕ)) → Appends a b header → Cuts b c (drawn start (flat_map step_ticks steps)) → Cuts a c (waves steps)
  steps_cut a b c put cut = subst (Cuts a c) whole (Cuts-then a b c header _ put (Cuts-more b c (drawn start (flat_map step_ticks steps)) _ cut))

  pub last_cut : (at : Drawing) (a b c d : Option (List ℕ)) → Appends a b header → Appends b c (drawn start (flat_map step_ticks steps)) → at ≡ after start (flat_map step_ticks steps)
      → Cuts c d (drawn at gap) → Cuts a d (waves steps)
  last_cut at a b c d put lines is cut =
      subst (Cuts a d) whole (Cuts-then a b d header _ put (Cuts-then b c d (drawn start (flat_map step_ticks steps)) _ lines
      (Cuts-more c d (drawn (after start (flat_map step_ticks steps)) gap) _ (subst (λ p. Cuts c d (drawn p gap)) is cut))))

  pub all_put : {T : Type 0} (at end : Drawing) (a b c d e : Option (List ℕ)) (r : Result T Failed) → Appends a b header → Appends b c (drawn start (flat_map step_ticks steps))
      → at ≡ after start (flat_map step_ticks steps) → Appends c d (drawn at gap) → end ≡ after at gap → Writes d e r (stamp end.tick ++ []) → Writes a e r (waves steps)
  all_put at end a b c d e r put lines is gapped ends stamped_end =
      let at_gap = subst (λ p. Appends c d (drawn p gap)) is gapped in
      let at_end = subst (Writes d e r) (append-nil (stamp end.tick) ∙ ap (λ p. stamp p.tick) (ends ∙ ap (λ p. after p gap) is)) stamped_end in
      subst (Writes a e r) whole (Writes-then a b e r header _ put (Writes-then b c e r (drawn start (flat_map step_ticks steps)) _ lines
      (Writes-then c d e r (drawn (after start (flat_map step_ticks steps)) gap) _ at_gap at_end)))
