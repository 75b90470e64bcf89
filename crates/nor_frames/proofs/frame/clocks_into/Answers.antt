-- What is put before the data, then the data; it spells by the law of spelling.
use Rattle.std.proofs.Common.{◌≡◌, ℕ, List, ◌++◌, length, take, drop, length-append, refl, ◌∙◌, ap, arith, rules}
use Rattle.std.proofs.lemmas.Grind.{common_steps}
use Rattle.std.specs.Prelude.{flat_map, replicate}
use Rattle.nor_base.specs.Clocks.{bits}
use Rattle.nor_select.specs.View.{coded_of, load_in}
use Rattle.nor_frames.specs.Frames.{load_clocks, load_len, head_of, frame}
use Rattle.nor_frames.proofs.FrameLemmas.{held_before, framed}
use Rattle.nor_frames.proofs.SpellLemmas.{spells_coded}
use Rattle.nor_frames.proofs.frame.clocks_into.Goals as goal
use Rattle.nor_frames.proofs.frame.clocks_into.Goals.{After-fill}

pub returns-in_err-end-clause-spells : goal.returns-in_err-end-clause-spells
returns-in_err-end-clause-spells c = spells_coded c.spelling.ensures.has (coded_of c.args.instr.now)

pub returns-in_err-resize-clause-spells : goal.returns-in_err-resize-clause-spells
returns-in_err-resize-clause-spells c = spells_coded c.spelling.ensures.has (coded_of c.args.instr.now)

pub returns-clause-spells : goal.returns-clause-spells
returns-clause-spells c = spells_coded c.spelling.ensures.has (coded_of c.args.instr.now)

-- the clocks that are left for the data are as many as it has
data_len : (c : After-fill) → length c.split_at_mut-middle.result.1.now ≡ load_len (load_in c.args.instr.now.body)
data_len c = grind (arith, common_steps)

-- opcode, address and dummies are put: with the data's clocks it is the frame
with_data : (c : After-fill) (last : List ℕ) → length last ≡ length c.split_at_mut-middle.result.1.now → last ≡ load_clocks (load_in c.args.instr.now.body)
    → take c.resize.new.self.len ((c.split_at_mut-before.result.0.now ++ (c.spread1.new.clocks ++ (c.fill.new.self ++ last)))
    ++ drop (length (c.split_at_mut-before.result.0.now ++ (c.spread1.new.clocks ++ (c.fill.new.self ++ last)))) c.resize.new.self.items)
    ≡ c.args.clocks.now.items ++ frame (coded_of c.args.instr.now)
with_data c last long is =
    let before : c.split_at_mut-before.result.0.now ≡ c.args.clocks.now.items =
    held_before c.args.clocks.now.items _ c.resize.new.self.items _ c.len-start.result c.in_ok-end.end c.in_ok-resize.ensures.items (search rules) (search rules)
    (c.split_at_mut-before.ensures.front ∙ ap (take c.len-start.result) c.deref_mut.ensures.value) in
    let first = c.split_at_mut-before.ensures in
    let second = c.split_at_mut-front.ensures in
    let third = c.split_at_mut-middle.ensures in
    let head : c.spread1.new.clocks ≡ flat_map bits (head_of (coded_of c.args.instr.now)) =
    c.spread1.ensures ∙ ap (flat_map bits) (c.as_slice.ensures.value ∙ c.head-head.ensures) in
    let dummies : c.fill.new.self ≡ replicate c.args.instr.now.dummies 0x2D =
    c.fill.ensures.after (λ y same. same) ∙ ap (λ n. replicate n 0x2D) (c.split_at_mut-middle.ensures.front_len ∙ c.from-dummies.ensures) in
    framed c.args.clocks.now.items c.split_at_mut-before.result.0.now (c.spread1.new.clocks ++ (c.fill.new.self ++ last)) _ (frame (coded_of c.args.instr.now)) c.resize.new.self.len
    before (rw (head, dummies, is) refl)
    (omega (arith, length-append {A = ℕ}, c.deref_mut.ensures.len, first.front_len, first.back_len, second.front_len, second.back_len, third.front_len, third.back_len, c.spread1.auto.clocks, c.fill.ensures.len, long))

pub returns-clause-clocks : goal.returns-clause-clocks
returns-clause-clocks c = with_data (goal.at.returns-clause-clocks c).After-fill c.put_data.new.place c.put_data.auto.place c.put_data.ensures
