-- The mode was entered, the part read, and the mode left.
use Rattle.nor_base.proofs.FaultLaws.{answered}
use Rattle.nor_base.specs.Wire.{wire}
use Rattle.nor_loop.proofs.DeviceLemmas.{logged_both}
use Rattle.nor_reader.specs.declared.difference.Mismatch.TheVariants.{Exchange}
use Rattle.nor_reader.specs.Part.{AllCame, Differed, NotEntered, NotLeft, NotLeftOther, NotRead, ReadsPart}
use Rattle.nor_loop.specs.Reads.{chunk}
use Rattle.nor_reader.proofs.part.compare_part.Goals as goal

pub returns-in_err-switch_mode : goal.returns-in_err-switch_mode
returns-in_err-switch_mode g c =
    let before = wire (g.W.ByteOut.held c.args.to.now) (g.R.ByteIn.ahead c.args.from.now) in
    let after = wire (g.W.ByteOut.held c.switch_mode.new.to) (g.R.ByteIn.ahead c.switch_mode.new.from) in
    let why = c.in_err-switch_mode.field-0.0 in
    answered _ (ReadsPart c.args.by (chunk c.args.address c.args.part.now) before after) (Exchange why)
    (NotEntered why (rw c.enter_of.ensures at c.in_err-switch_mode.ensures.switches)) c.from_residual.ensures.1

pub returns-in_err-switch_mode-in-Ok : goal.returns-in_err-switch_mode-in-Ok
returns-in_err-switch_mode-in-Ok g c =
    let before = wire (g.W.ByteOut.held c.args.to.now) (g.R.ByteIn.ahead c.args.from.now) in
    let after = wire (g.W.ByteOut.held c.switch_mode-in-Ok.new.to) (g.R.ByteIn.ahead c.switch_mode-in-Ok.new.from) in
    let why = c.in_err-switch_mode-in-Ok.field-0.0 in
    answered _ (ReadsPart c.args.by (chunk c.args.address c.args.part.now) before after) (Exchange why)
    (NotLeft why (record {
      held = _;
      ahead = _;
      entered = rw c.enter_of.ensures at c.in_ok-switch_mode.ensures.switches;
      rest = record { held = _; ahead = _; first = c.in-Ok.ensures.read; rest = rw c.leave_of.ensures at c.in_err-switch_mode-in-Ok.ensures.switches };
    })) c.from_residual-in_err-switch_mode-in-Ok.ensures.1

pub returns-in_err-switch_mode-in-Err-Differs : goal.returns-in_err-switch_mode-in-Err-Differs
returns-in_err-switch_mode-in-Err-Differs g c =
    let before = wire (g.W.ByteOut.held c.args.to.now) (g.R.ByteIn.ahead c.args.from.now) in
    let after = wire (g.W.ByteOut.held c.switch_mode-in-Err-Differs.new.to) (g.R.ByteIn.ahead c.switch_mode-in-Err-Differs.new.from) in
    let why = c.in_err-switch_mode-in-Err-Differs.field-0.0 in
    answered _ (ReadsPart c.args.by (chunk c.args.address c.args.part.now) before after) (Exchange why)
    (NotLeftOther c.in-Err-Differs.difference why (record {
      held = _;
      ahead = _;
      entered = rw c.enter_of.ensures at c.in_ok-switch_mode.ensures.switches;
      rest = record {
        held = _;
        ahead = _;
        first = rw c.in-Err-Differs.field-0-is at c.in-Err-Differs.ensures.read;
        rest = rw c.leave_of-in-Err-Differs.ensures at c.in_err-switch_mode-in-Err-Differs.ensures.switches;
      };
    })) c.from_residual-in_err-switch_mode-in-Err-Differs.ensures.1

pub returns-in_ok-switch_mode-in-Ok : goal.returns-in_ok-switch_mode-in-Ok
returns-in_ok-switch_mode-in-Ok g c =
    let entered = rw c.enter_of.ensures at c.in_ok-switch_mode.ensures.switches in
    let left = rw c.leave_of.ensures at c.in_ok-switch_mode-in-Ok.ensures.switches in
    AllCame (logged_both _ _ _ _ _ _ _ _ entered (logged_both _ _ _ _ _ _ _ _ c.in-Ok.ensures.read left))

pub returns-in-Err-Exchange : goal.returns-in-Err-Exchange
returns-in-Err-Exchange g c =
    NotRead c.in-Err-Exchange.why (record {
      held = _;
      ahead = _;
      entered = rw c.enter_of.ensures at c.in_ok-switch_mode.ensures.switches;
      rest = rw c.in-Err-Exchange.field-0-is at c.in-Err-Exchange.ensures.read;
    })

pub returns-in_ok-switch_mode-in-Err-Differs : goal.returns-in_ok-switch_mode-in-Err-Differs
returns-in_ok-switch_mode-in-Err-Differs g c =
    Differed c.in-Err-Differs.difference (record {
      held = _;
      ahead = _;
      entered = rw c.enter_of.ensures at c.in_ok-switch_mode.ensures.switches;
      rest = record {
        held = _;
        ahead = _;
        first = rw c.in-Err-Differs.field-0-is at c.in-Err-Differs.ensures.read;
        rest = rw c.leave_of-in-Err-Differs.ensures at c.in_ok-switch_mode-in-Err-Differs.ensures.switches;
      };
    })
