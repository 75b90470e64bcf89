-- Line after line.
use Rattle.std.proofs.Common.{rules, subst}
use Rattle.norprog_files.specs.Terminal.{FirstLine, HasLine, IsDriverOf, LaterLine, Lists, minor_of}
use Rattle.norprog_files.proofs.terminal.is_listed.Goals as goal

pub returns-then-has_device : goal.returns-then-has_device
returns-then-has_device c =
    let line = c.in-Some.driver.now in
    Lists line (c.loop-driver.invariant.lines line (FirstLine c.loop-driver.drivers.now c.in-Some.ensures.0 c.in-Some.ensures.1))
    (subst (λ major. IsDriverOf major (minor_of c.args.device) line) c.major.ensures
    (subst (λ minor. IsDriverOf c.major.result minor line) c.minor.ensures c.if-has_device.ensures))

pub loop-driver-preserved : goal.loop-driver-preserved
loop-driver-preserved c = record {
  text = search rules;
  lines = λ line has. c.loop-driver.invariant.lines line (LaterLine c.loop-driver.drivers.now c.in-Some.ensures.0 (subst (HasLine line) c.in-Some.ensures.2 has));
}
