-- One cell more.
use Rattle.std.proofs.Common.{[], ◌∷◌, ◌++◌, not, map, sym, ◌∙◌, ap, arith}
use Rattle.std.proofs.lemmas.List.FromFn.{map-range_with_len_more}
use Rattle.std.specs.List.{range_with_len}
use Rattle.nor_map.specs.declared.state.State.TheVariants.{Kept}
use Rattle.nor_map.specs.Marks.{is_state, state_at}
use Rattle.nor_map.proofs.rows.busy_of.Goals as goal

pub loop-c-preserved : goal.loop-c-preserved
loop-c-preserved c =
    let m = c.args.marks.now in
    c.in_ok-push.ensures.items
    ∙ ap (λ l. l ++ not c.is.result ∷ []) c.loop-c.invariant
    ∙ ap (λ b. map (λ i. not (is_state (state_at m i) Kept)) (range_with_len 0 c.loop-c.c) ++ not b ∷ []) (c.is.ensures ∙ ap (λ s. is_state s Kept) c.state.ensures)
    ∙ sym (map-range_with_len_more (λ i. not (is_state (state_at m i) Kept)) 0 c.loop-c.c c.loop-c.c (omega arith))
