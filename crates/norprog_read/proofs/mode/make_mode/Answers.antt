-- It is so already, or made so, or not.
use Rattle.std.proofs.Common.{◌∙◌, refl, sym}
use Rattle.nor_base.proofs.FaultLaws.{handed_on}
use Rattle.nor_base.specs.Wire.{wire}
use Rattle.norprog_read.specs.Modes.{Made, Otherwise, Sent, Shown, StopsMode, Unasked, Unsent}
use Rattle.norprog_read.proofs.mode.make_mode.Goals as goal

pub returns-then-not-is_otherwise-clause-made : goal.returns-then-not-is_otherwise-clause-made
returns-then-not-is_otherwise-clause-made g c =
    Shown (sym c.shows_mode-shows.ensures ∙ c.if-shows.true) (sym c.is_otherwise.ensures ∙ c.if-not-is_otherwise.true) refl

pub returns-in-Err-clause-stops : goal.returns-in-Err-clause-stops
returns-in-Err-clause-stops g c = Unsent c.in-Err.why c.in-Err.ensures.sends

pub returns-then-not-shows-clause-made : goal.returns-then-not-shows-clause-made
returns-then-not-shows-clause-made g c = Sent (sym c.shows_mode-shows.ensures ∙ c.if-not-shows.true) c.in_default.ensures.sends

pub returns-in_err-after-clause-stops : goal.returns-in_err-after-clause-stops
returns-in_err-after-clause-stops g c =
    handed_on (StopsMode _ _ _ _) _ c.in_err-after.field-0.0 c.from_residual.ensures.1
    (Unasked (wire (g.W.ByteOut.held c.send_switch.new.to) (g.R.ByteIn.ahead c.send_switch.new.from)) c.in_err-after.field-0.0
    c.in_default.ensures.sends c.in_err-after.ensures.stops)

pub returns-then-is_otherwise-clause-stops : goal.returns-then-is_otherwise-clause-stops
returns-then-is_otherwise-clause-stops g c =
    Otherwise (wire (g.W.ByteOut.held c.send_switch.new.to) (g.R.ByteIn.ahead c.send_switch.new.from)) c.in_ok-after.after
    c.in_default.ensures.sends c.in_ok-after.ensures.status (sym c.is_otherwise-2.ensures ∙ c.if-is_otherwise.true)

pub returns-clause-made : goal.returns-clause-made
returns-clause-made g c =
    Made (wire (g.W.ByteOut.held c.send_switch.new.to) (g.R.ByteIn.ahead c.send_switch.new.from)) c.in_ok-after.after
    c.in_default.ensures.sends c.in_ok-after.ensures.status (sym c.is_otherwise-2.ensures ∙ c.if-is_otherwise.false)
