-- The next window is at its place.
use Rattle.std.proofs.Common.{◌≡◌, ◌+◌, ◌-◌, ◌<◌, length, min, ◌∙◌, ap, subst, arith}
use Rattle.nor_job.specs.declared.job.Job.{Job}
use Rattle.nor_steps.specs.Tally.{sum_of}
use Rattle.nor_steps.specs.declared.tally.Tally.{Tally}
use Rattle.norprog.specs.Planner.{Planning, IsPlannedPart, outlined, StopsPlanning}
use Rattle.nor_base.proofs.FaultLaws.{handed_on}
use Rattle.norprog.proofs.Content.Plans.{kept_room, next_place, goes_on, no_window}
use Rattle.norprog.proofs.planner.Planner.next_window.Goals as goal
use Rattle.norprog.specs.Windows.{window_of}

pub returns-in_err-more-clause-stopped : goal.returns-in_err-more-clause-stopped
returns-in_err-more-clause-stopped g c =
    let p = c.args.self.now in
    let n = c.min-count.result in
    let size = ap (λ (v : Job). v.meaning.size) c.job.view_is in
    let own = ap (λ (q : Planning). q.job.meaning.size) c.self.view_is in
    let at = ap (λ (q : Planning). q.at) c.self.view_is in
    let window = ap (λ (q : Planning). q.window) c.self.view_is in
    let before : p.at < p.job.meaning.size = omega (arith, c.if-self-size.false, size, own, at) in
    let count : n ≡ min p.window (p.job.meaning.size - p.at) = omega (arith, c.min-count.ensures, c.len.ensures, size, own, at, window) in
    handed_on _ _ _ c.from_residual.ensures.1
    (no_window p n _ _ c.in_err-more.field-0.0 (next_place p n c.requires.ready before count)
    (subst (λ (q : Planning). StopsPlanning (window_of q.job q.at n) q.work (g.R.ByteIn.ahead c.args.content.now) (g.R.ByteIn.ahead c.part_plan.new.content) c.in_err-more.field-0.0)
    c.self.view_is c.in_err-more.ensures.stopped))

pub returns-clause-told : goal.returns-clause-told
returns-clause-told g c =
    let p = c.args.self.now in
    let n = c.min-count.result in
    let size = ap (λ (v : Job). v.meaning.size) c.job.view_is in
    let own = ap (λ (q : Planning). q.job.meaning.size) c.self.view_is in
    let at = ap (λ (q : Planning). q.at) c.self.view_is in
    let window = ap (λ (q : Planning). q.window) c.self.view_is in
    let before : p.at < p.job.meaning.size = omega (arith, c.if-self-size.false, size, own, at) in
    let count : n ≡ min p.window (p.job.meaning.size - p.at) = omega (arith, c.min-count.ensures, c.len.ensures, size, own, at, window) in
    let its = subst (λ (q : Planning). IsPlannedPart (window_of q.job q.at n) q.work (g.R.ByteIn.ahead c.args.content.now) (g.R.ByteIn.ahead c.part_plan.new.content) (outlined c.part_plan.new.writer c.in_ok-more.more c.in_ok-more.lines.items))
    c.self.view_is c.in_ok-more.ensures.planned in
    goes_on p c.self.inside.job.now c.part_plan.new.writer _ _ (c.self.inside.at + n) n _ _
    c.in_ok-more.more c.plus-self-inside.result c.in_ok-more.lines.items c.requires.ready (next_place p n c.requires.ready before count) its
    (ap (λ (q : Planning). q.job) c.self.view_is)
    (kept_room c.part_plan.new.have c.self.inside.have.items c.self.inside.have.len p.window (omega (arith, c.self.inside.have.ok))
    (c.part_plan.auto.have ∙ ap length c.as_mut_slice.ensures.value) window)
    (kept_room c.part_plan.new.want c.self.inside.want.items c.self.inside.want.len p.room (omega (arith, c.self.inside.want.ok))
    (c.part_plan.auto.want ∙ ap length c.as_mut_slice-2.ensures.value) (ap (λ (q : Planning). q.room) c.self.view_is))
    (ap (λ k. k + n) at)
    (c.plus-self-inside.ensures ∙ ap (λ (t : Tally). sum_of t c.in_ok-more.more) (ap (λ (q : Planning). q.told) c.self.view_is))
