-- What came stands behind the bytes held.
use Rattle.std.proofs.Common.{◌≡◌, ◌<◌, ◌+◌, length, take, [], append-nil, sym, ◌∙◌, ap, subst, rules, arith}
use Rattle.std.specs.List.{slice_range}
use Rattle.nor_script.specs.Stream.{reading}
use Rattle.nor_script.specs.Lines.{Lines, Pulls, Comes, FillsBy}
use Rattle.nor_script.proofs.SliceLemmas.{IsHeld, put_back, part_kept, came}
use Rattle.nor_script.proofs.ReaderLemmas.{pull_failed}
use Rattle.nor_script.proofs.lines.LineBuffer.take.Goals as goal

pub returns-clause-bytes : goal.returns-clause-bytes
returns-clause-bytes g c =
    let i = c.self.inside in
    let held : IsHeld i.buffer.items c.args.self.now.held i.from i.upto = record { is = ap (λ (l : Lines). l.held) c.self.view_is; order = c.self.invariant.0; within = c.self.invariant.1 } in
    let value : c.as_mut_slice.result.now ≡ i.buffer.items = c.as_mut_slice.ensures.value in
    let size : length c.fill_past.new.buffer ≡ length c.as_mut_slice.result.now = search rules in
    let back = put_back i.buffer.items c.fill_past.new.buffer i.buffer.len (search rules) (size ∙ ap length value) in
    let room : i.upto < length i.buffer.items = omega (arith, c.requires.room, ap (λ (l : Lines). l.room) c.self.view_is) in
    subst (λ b. Comes (reading (g.R.ByteIn.ahead c.args.source.now) c.args.self.now.held) (reading (g.R.ByteIn.ahead c.fill_past.new.source) (slice_range b i.from (i.upto + c.in_ok-given.given))) c.in_ok-given.given) (sym back)
    (came (g.R.ByteIn.ahead c.args.source.now) (g.R.ByteIn.ahead c.fill_past.new.source) i.buffer.items c.fill_past.new.buffer c.args.self.now.held i.from i.upto c.in_ok-given.given held room
    (subst (λ old. FillsBy (reading (g.R.ByteIn.ahead c.args.source.now) old) (reading (g.R.ByteIn.ahead c.fill_past.new.source) c.fill_past.new.buffer) i.upto c.in_ok-given.given) value c.in_ok-given.ensures.bytes))

pub returns-in_err-given-clause-bytes : goal.returns-in_err-given-clause-bytes
returns-in_err-given-clause-bytes g c =
    let i = c.self.inside in
    let held : slice_range i.buffer.items i.from i.upto ≡ c.args.self.now.held = ap (λ (l : Lines). l.held) c.self.view_is in
    let value : c.as_mut_slice.result.now ≡ i.buffer.items = c.as_mut_slice.ensures.value in
    let size : length c.fill_past.new.buffer ≡ length c.as_mut_slice.result.now = search rules in
    let back = put_back i.buffer.items c.fill_past.new.buffer i.buffer.len (search rules) (size ∙ ap length value) in
    let kept : take i.upto c.fill_past.new.buffer ≡ take i.upto i.buffer.items = c.in_err-given.ensures.bytes.1 ∙ ap (take i.upto) value in
    let same = part_kept i.buffer.items c.fill_past.new.buffer i.from i.upto c.self.invariant.0 kept ∙ held in
    subst (λ b. Pulls (reading (g.R.ByteIn.ahead c.args.source.now) c.args.self.now.held) (reading (g.R.ByteIn.ahead c.fill_past.new.source) (slice_range b i.from i.upto)) c.from_residual.result) (sym back)
    (pull_failed (reading (g.R.ByteIn.ahead c.args.source.now) c.args.self.now.held) (reading (g.R.ByteIn.ahead c.fill_past.new.source) (slice_range c.fill_past.new.buffer i.from i.upto)) c.from_residual.result _ c.from_residual.ensures.1 (record { pulled = []; given = c.in_err-given.ensures.bytes.0; whole = append-nil c.args.self.now.held ∙ sym same }) tt)
