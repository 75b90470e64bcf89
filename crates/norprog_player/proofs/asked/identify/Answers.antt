-- The status, the tables, and the register that moves addresses.
use Rattle.std.proofs.Common.{Option, Result, Ok, Err, inr, subst}
use Rattle.std.specs.Prelude.{MatchResult}
use Rattle.nor_base.proofs.FaultLaws.{answered}
use Rattle.nor_base.specs.Wire.{Wire, wire}
use Rattle.nor_reader.specs.declared.own.AddressRegister.{AddressRegister}
use Rattle.nor_reader.specs.Own.{register_of}
use Rattle.norprog_player.specs.declared.ending.Unlike.{Unlike}
use Rattle.norprog_player.specs.declared.ending.Unlike.TheVariants as unlike
use Rattle.norprog_player.specs.Asked.{HasTables, Inquiry, IsIdentified, IsUnmoved, StopsAsking, StopsMoved, inquiry}
use Rattle.norprog_player.specs.Expected.{expectation_of}
use Rattle.norprog_player.proofs.asked.identify.Goals as goal

registered : (q : Inquiry) (u v w : Wire) (r : Result (Unit {0}) Unlike) → HasTables q u v
    → MatchResult r (λ _. IsUnmoved (register_of q.x.tables) v w) (StopsMoved (register_of q.x.tables) v w)
    → MatchResult r (λ _. IsIdentified q u w) (StopsAsking q u w)
registered q u v w (Ok tt) known unmoved = record { between = v; known = known; unmoved = unmoved }
registered q u v w (Err (unlike.Moved value)) known stops = record { between = v; known = known; stops = stops }
registered q u v w (Err (unlike.Asking why)) known stops = inr (record { between = v; known = known; stops = stops })
registered q u v w (Err unlike.Busy) known stops = absurd stops
registered q u v w (Err (unlike.Status status)) known stops = absurd stops
registered q u v w (Err (unlike.Registers status)) known stops = absurd stops
registered q u v w (Err (unlike.Tables why)) known stops = absurd stops
registered q u v w (Err (unlike.Content why)) known stops = absurd stops

pub returns-in_err-ask_status : goal.returns-in_err-ask_status
returns-in_err-ask_status g c =
    let q = inquiry (expectation_of c.args.expected) c.args.limits.now c.args.turns in
    let before = wire (g.W.ByteOut.held c.args.to.now) (g.R.ByteIn.ahead c.args.from.now) in
    let after = wire (g.W.ByteOut.held c.ask_status.new.to) (g.R.ByteIn.ahead c.ask_status.new.from) in
    answered _ (λ r. MatchResult r (λ _. IsIdentified q before after) (StopsAsking q before after)) c.in_err-ask_status.field-0.0
    (c.in_err-ask_status.ensures c.args.limits.now) c.from_residual.ensures.1

pub returns : goal.returns
returns g c =
    let q = inquiry (expectation_of c.args.expected) c.args.limits.now c.args.turns in
    let before = wire (g.W.ByteOut.held c.args.to.now) (g.R.ByteIn.ahead c.args.from.now) in
    let between = wire (g.W.ByteOut.held c.compare_tables.new.to) (g.R.ByteIn.ahead c.compare_tables.new.from) in
    let after = wire (g.W.ByteOut.held c.ask_register.new.to) (g.R.ByteIn.ahead c.ask_register.new.from) in
    registered q before between after c.ask_register.result (record { between = _; suited = c.in_ok-ask_status.ensures c.args.limits.now; tables = c.in_default.ensures.compared })
    (subst (λ (o : Option AddressRegister). MatchResult c.ask_register.result (λ _. IsUnmoved o between after) (StopsMoved o between after))
    c.address_register.ensures c.ask_register.ensures)
