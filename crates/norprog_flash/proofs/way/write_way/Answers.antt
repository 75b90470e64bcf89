-- There is a step, and more than the plan is wanted.
use Rattle.std.proofs.Common.{◌≡◌, ◌<◌, ◌∙◌, ℕ, zero, suc, Bool, true, false, List, refl, sym, subst, arith}
use Rattle.nor_base.specs.Device.{Writes}
use Rattle.norprog_common.specs.declared.given.FlashArgs.{FlashArgs}
use Rattle.norprog_flash.specs.Task.{works}
use Rattle.norprog_flash.specs.Way.{way_line, way_text}
use Rattle.norprog_flash.proofs.way.write_way.Goals as goal

there : (works : Bool) (steps : ℕ) (texts : FlashArgs) → works ≡ true → 0 < steps → way_text works steps texts ≡ way_line texts
there false steps texts wet some = absurd cc
there true zero texts wet some = absurd (omega (arith, some))
there true (suc more) texts wet some = refl

pub returns-then-steps-gt0-clause-bytes : goal.returns-then-steps-gt0-clause-bytes
returns-then-steps-gt0-clause-bytes g c =
    let job = c.args.job.now in
    subst (λ (text : List ℕ). Writes (g.O.ByteOut.held c.args.out.now) (g.O.ByteOut.held c.write_line.new.writer) c.write_line.result text)
    (sym (there (works job.aim) c.args.steps job.texts.now (sym c.works.ensures ∙ c.if-works.true) (omega (arith, c.if-steps-gt0.true)))) c.write_line.ensures.bytes
