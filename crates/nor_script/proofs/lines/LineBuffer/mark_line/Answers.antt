-- The first LF that is held.
use Rattle.std.proofs.Common.{refl, ◌∙◌, ap, ◌+◌, ◌≡◌, Some, None}
use Rattle.std.specs.Prelude.{position}
use Rattle.std.specs.List.{slice_range}
use Rattle.nor_script.specs.Faults.{is_line_feed}
use Rattle.nor_script.specs.Lines.{Lines}
use Rattle.nor_script.proofs.SliceLemmas.{IsHeld, marked_none, marked_line}
use Rattle.nor_script.proofs.lines.LineBuffer.mark_line.Goals as goal

pub returns-in_default : goal.returns-in_default
returns-in_default c =
    let i = c.self.inside in
    let held : IsHeld i.buffer.items c.args.self.now.held i.from i.upto = record { is = ap (λ (l : Lines). l.held) c.self.view_is; order = c.self.invariant.0; within = c.self.invariant.1 } in
    let found : None ≡ position is_line_feed (slice_range i.buffer.items (i.from + c.args.searched) i.upto) =
    c.in_default.ensures ∙ ap (λ b. position is_line_feed (slice_range b (i.from + c.args.searched) i.upto)) c.deref.ensures.value in
    (refl, marked_none i.buffer.items c.args.self.now.held i.from i.upto c.args.searched held c.requires.within c.requires.none found)

pub returns : goal.returns
returns c =
    let i = c.self.inside in
    let held : IsHeld i.buffer.items c.args.self.now.held i.from i.upto = record { is = ap (λ (l : Lines). l.held) c.self.view_is; order = c.self.invariant.0; within = c.self.invariant.1 } in
    let found : Some c.in-Some.place ≡ position is_line_feed (slice_range i.buffer.items (i.from + c.args.searched) i.upto) =
    c.in-Some.ensures ∙ ap (λ b. position is_line_feed (slice_range b (i.from + c.args.searched) i.upto)) c.deref.ensures.value in
    let first = marked_line i.buffer.items c.args.self.now.held i.from i.upto c.args.searched c.in-Some.place held c.requires.within c.requires.none found in
    (held.is, record { rest = first.0; first = first.1 })
