-- An instruction on all chips: what the least able takes each takes, and none has an earlier cause.
use Rattle.std.proofs.Common.{◌≡◌, ℕ, ◌≤◌, Bool, not, false, ◌&&◌, List, [], Ok, Err, sym, ◌∙◌, ap, subst}
use Rattle.nor_base.specs.declared.wrong.Wrong.{Wrong}
use Rattle.nor_base.specs.Decoding.{Instruction}
use Rattle.nor_base.specs.Chip.{Chip, is_busy}
use Rattle.nor_base.specs.Effect.{after, answer, effect_of, is_broken, is_status, is_quad, needs_latch, is_out_of_range, is_program, is_barred, barred}
use Rattle.nor_laws.proofs.EffectLaws.{taken}
use Rattle.nor_check.specs.Order.{rank_of}
use Rattle.nor_check.specs.Chips.{Kind, Chips, one_like, MayBeLeft, one_of, some_left, least_able, all_after, latch_of}
use Rattle.nor_check.proofs.Lines.{NotBelow, chain, chain_takes, chain_same, chain_rank, chain_refuses}
use Rattle.nor_check.proofs.Members.{busy_only, latch_only, next_left, next_come, after_is, barred_rank}

module _ (k : Kind) (w : Chips) (i : Instruction) where
  each_takes : (busy : List ℕ) (keeps : Bool) (left : ℕ) (to_come : List ℕ) (r : Chip × List ℕ) → MayBeLeft w.busy left
      → effect_of (one_like k [] false) (least_able w) i ≡ Ok r
      → effect_of (one_like k busy keeps) (one_of w keeps left to_come) i
      ≡ Ok (after (one_like k busy keeps) (one_of w keeps left to_come) i i.what, answer (one_of w keeps left to_come) i i.what)
  unfolding effect_of
  each_takes busy keeps left to_come r may h =
      chain_takes (is_broken i.what) (not (is_status i.what) && is_busy (some_left w.busy)) (is_quad i.what && not k.start.quad)
      (needs_latch k.meaning i.what && not (latch_of w.latches false)) (is_out_of_range k.meaning i)
      (is_program i.what && is_barred k.meaning k.page i.address i.sent w.array)
      (not (is_status i.what) && is_busy left) (needs_latch k.meaning i.what && not (latch_of w.latches keeps)) (barred k.meaning)
      (after (one_like k [] false) (least_able w) i i.what, answer (least_able w) i i.what)
      (after (one_like k busy keeps) (one_of w keeps left to_come) i i.what, answer (one_of w keeps left to_come) i i.what) r
      (busy_only (not (is_status i.what)) w.busy left may) (latch_only (needs_latch k.meaning i.what) w.latches keeps) h

  -- each is after it one of all after it
  pub each_moves : (busy : List ℕ) (keeps : Bool) (left : ℕ) (to_come : List ℕ) (r : Chip × List ℕ) → MayBeLeft w.busy left
      → effect_of (one_like k [] false) (least_able w) i ≡ Ok r
      → effect_of (one_like k busy keeps) (one_of w keeps left to_come) i
      ≡ Ok (one_of (all_after w i.what r.0) keeps (next_left i.what left to_come) (next_come i.what to_come), answer (one_of w keeps left to_come) i i.what)
  each_moves busy keeps left to_come r may h =
      each_takes busy keeps left to_come r may h
      ∙ ap (λ (d : Chip). Ok (d, answer (one_of w keeps left to_come) i i.what))
      (after_is k w i busy keeps left to_come i.what
      ∙ ap (λ (d : Chip). one_of (all_after w i.what d) keeps (next_left i.what left to_come) (next_come i.what to_come))
      (sym (taken (one_like k [] false) (least_able w) i r.0 r.1 h).chip))

  -- another that lacks the latch, and is busy just where the least able is, doesn't take it either
  pub same_refusal : (busy : List ℕ) (left : ℕ) (to_come : List ℕ) (cause : Wrong) → is_busy left ≡ is_busy (some_left w.busy)
      → effect_of (one_like k [] false) (least_able w) i ≡ Err cause → effect_of (one_like k busy false) (one_of w false left to_come) i ≡ Err cause
  unfolding effect_of
  same_refusal busy left to_come cause same h =
      chain_same (is_broken i.what) (not (is_status i.what) && is_busy left) (is_quad i.what && not k.start.quad)
      (needs_latch k.meaning i.what && not (latch_of w.latches false)) (is_out_of_range k.meaning i)
      (is_program i.what && is_barred k.meaning k.page i.address i.sent w.array) (barred k.meaning) cause
      (after (one_like k [] false) (least_able w) i i.what, answer (least_able w) i i.what)
      (after (one_like k busy false) (one_of w false left to_come) i i.what, answer (one_of w false left to_come) i i.what)
      (subst (λ b. chain {A = Chip × List ℕ} (is_broken i.what) (not (is_status i.what) && b) (is_quad i.what && not k.start.quad)
      (needs_latch k.meaning i.what && not (latch_of w.latches false)) (is_out_of_range k.meaning i)
      (is_program i.what && is_barred k.meaning k.page i.address i.sent w.array) (barred k.meaning)
      (after (one_like k [] false) (least_able w) i i.what, answer (least_able w) i i.what) ≡ Err cause) (sym same) h)

  pub refusal_rank : (cause : Wrong) → effect_of (one_like k [] false) (least_able w) i ≡ Err cause → rank_of cause ≤ 4
  unfolding effect_of
  refusal_rank cause h =
      chain_rank (is_broken i.what) (not (is_status i.what) && is_busy (some_left w.busy)) (is_quad i.what && not k.start.quad)
      (needs_latch k.meaning i.what && not (latch_of w.latches false)) (is_out_of_range k.meaning i)
      (is_program i.what && is_barred k.meaning k.page i.address i.sent w.array) (barred k.meaning) cause
      (after (one_like k [] false) (least_able w) i i.what, answer (least_able w) i i.what) (barred_rank k.meaning).1 h

  pub none_earlier : (busy : List ℕ) (keeps : Bool) (left : ℕ) (to_come : List ℕ) (cause : Wrong) → MayBeLeft w.busy left
      → effect_of (one_like k [] false) (least_able w) i ≡ Err cause
      → NotBelow (rank_of cause) (effect_of (one_like k busy keeps) (one_of w keeps left to_come) i)
  unfolding effect_of
  none_earlier busy keeps left to_come cause may h =
      chain_refuses (is_broken i.what) (not (is_status i.what) && is_busy (some_left w.busy)) (is_quad i.what && not k.start.quad)
      (needs_latch k.meaning i.what && not (latch_of w.latches false)) (is_out_of_range k.meaning i)
      (is_program i.what && is_barred k.meaning k.page i.address i.sent w.array)
      (not (is_status i.what) && is_busy left) (needs_latch k.meaning i.what && not (latch_of w.latches keeps)) (barred k.meaning) cause
      (after (one_like k [] false) (least_able w) i i.what, answer (least_able w) i i.what)
      (after (one_like k busy keeps) (one_of w keeps left to_come) i i.what, answer (one_of w keeps left to_come) i i.what)
      (barred_rank k.meaning).0 (busy_only (not (is_status i.what)) w.busy left may) (latch_only (needs_latch k.meaning i.what) w.latches keeps) h
