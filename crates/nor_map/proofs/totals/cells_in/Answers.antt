-- One cell more.
use Rattle.std.proofs.Common.{◌≡◌, ℕ, ◌∙◌, sym, ap, arith, cond}
use Rattle.nor_map.specs.Marks.{is_state, state_at}
use Rattle.std.proofs.lemmas.List.FromFn.{sum_by-map-range_with_len_more}
use Rattle.nor_map.proofs.totals.cells_in.Goals as goal
use Rattle.nor_map.proofs.totals.cells_in.Goals.{then-is, else-is}

pub loop-c-preserved : goal.loop-c-preserved
loop-c-preserved c =
    let m = c.args.marks.now in
    let more = sum_by-map-range_with_len_more (λ t. cond (is_state t c.args.state) 1 0) (state_at m) 0 c.loop-c.c c.loop-c.c (omega arith) in
    let is : c.is.result ≡ is_state (state_at m c.loop-c.c) c.args.state = c.is.ensures ∙ ap (λ s. is_state s c.args.state) c.state.ensures in
    elim c.if-is.branch [
      | then-is w ↦
          let one : ◌≡◌ {A = ℕ} (cond (is_state (state_at m c.loop-c.c) c.args.state) 1 0) 1 = ap (λ b. cond {A = ℕ} b 1 0) (sym is ∙ w.if-is.true) in
          record { counted = omega (arith, w.count-is, more, one, c.loop-c.invariant.counted); few = omega (arith, w.count-is, c.loop-c.invariant.few) }
      | else-is w ↦
          let none : ◌≡◌ {A = ℕ} (cond (is_state (state_at m c.loop-c.c) c.args.state) 1 0) 0 = ap (λ b. cond {A = ℕ} b 1 0) (sym is ∙ w.if-is.false) in
          record { counted = omega (arith, w.count-is, more, none, c.loop-c.invariant.counted); few = omega (arith, w.count-is, c.loop-c.invariant.few) }
    ]
