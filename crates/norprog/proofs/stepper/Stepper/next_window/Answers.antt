-- The next window's steps are kept.
use Rattle.std.proofs.Common.{◌+◌, ◌<◌, length, sym, subst}
use Rattle.norprog.specs.Stepper.{Stepping, IsAtWindow, MakesMore}
use Rattle.norprog.proofs.Promise.Made.{kept_wrote, makes}
use Rattle.norprog.proofs.stepper.Stepper.next_window.Goals as goal

pub returns : goal.returns
returns c =
    let s : Stepping = record { work = c.self.inside.writer; have = c.self.inside.have.now; want = c.self.inside.want.now; at = c.self.inside.at; window = c.self.inside.window } in
    let n = c.min-count.result in
    let t : Stepping = record { work = c.more.new.self; have = s.have; want = s.want; at = s.at + n; window = s.window } in
    let xs = c.into_inner.result.items in
    record {
      made = subst (λ (x : Stepping). MakesMore x t xs) c.self.view_is
          (makes c.script_texts.ensures.lines c.there_is_planned_work.ensures.spelled c.spelling.ensures.has s n c.more.new.self xs c.in-Ok.field-0
          (subst IsAtWindow (sym c.self.view_is) c.requires.ready)
          (subst (λ (x : Stepping). x.at < length x.have) (sym c.self.view_is) c.requires.more) c.min-count.ensures c.into_inner.ensures.spelled
          (kept_wrote s.work c.more.new.self _ c.in-Ok.field-0 _ _ xs c.new-steps.ensures c.into_inner.ensures.steps c.in-Ok.ensures.written));
    }
