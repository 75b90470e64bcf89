-- Its third field and its fourth.
use Rattle.std.proofs.Common.{◌≡◌, ◌∙◌, Some, ap, sym}
use Rattle.norprog_common.specs.Values.{decimal_of}
use Rattle.norprog_files.proofs.TerminalLemmas.{driver, on_true}
use Rattle.norprog_files.proofs.terminal.has_device.Goals as goal

pub returns-in-Some-decimal : goal.returns-in-Some-decimal
returns-in-Some-decimal c =
    let said : decimal_of c.in-Some-field-2.number.now ≡ Some c.args.major = sym c.in-Some-decimal.ensures ∙ ap Some c.if-number-major.true in
    on_true c.has_minor.result
    (driver c.args.major c.args.minor c.args.driver.now c.in-Some.nodes.now c.in-Some-field.numbers.now c.in-Some-field-2.number.now c.in-Some-field-2.more.now
    c.in-Some-field-3.minors.now c.in-Some.ensures.1 c.in-Some-field.ensures.1 c.in-Some-field-2.ensures.0 c.in-Some-field-2.ensures.1 c.in-Some-field-3.ensures.0 said)
    c.has_minor.ensures
