-- What was read shows that it doesn't do.
use Rattle.std.proofs.Common.{inr, refl, sym}
use Rattle.std.specs.Prelude.{MatchResult}
use Rattle.nor_reader.specs.AtOnce.{at_once}
use Rattle.nor_reader.specs.Harmless.{HasSentHarmless, SendsHarmless}
use Rattle.nor_reader.proofs.HarmlessLemmas.{none_sent, whole_sent}
use Rattle.nor_base.proofs.FaultLaws.{answered, handed_on}
use Rattle.norprog_flash.specs.declared.ending.Unflashed.TheVariants.{Refused}
use Rattle.norprog_flash.specs.Stops.{NoSpan, NotRead, StopsBefore, of_reading}
use Rattle.norprog_flash.proofs.StopsLemmas.{closed, part_there, unruled, way_there}
use Rattle.norprog_flash.proofs.begun.read_suited.Goals as goal

pub returns-in_err-near-clause-stops : goal.returns-in_err-near-clause-stops
returns-in_err-near-clause-stops g c =
    handed_on (StopsBefore (at_once c.args.limits.now) _ _ c.args.job.now) _ (Refused c.in_err-near.field-0.0) c.from_residual.ensures.1
    (NoSpan c.in_err-near.field-0.0 c.in_err-near.ensures.refused refl)

pub returns-in_err-near-clause-harmless : goal.returns-in_err-near-clause-harmless
returns-in_err-near-clause-harmless g c =
    let held = g.W.ByteOut.held c.args.to.now in
    answered _ (λ result. MatchResult result (λ _. HasSentHarmless held held) (λ _. SendsHarmless held held)) (Refused c.in_err-near.field-0.0)
    (whole_sent held held (none_sent held)) c.from_residual.ensures.1

pub returns-in_err-reading-clause-stops : goal.returns-in_err-reading-clause-stops
returns-in_err-reading-clause-stops g c =
    let stop = c.in_err-reading.field-0.0 in
    handed_on (StopsBefore (at_once c.args.limits.now) _ _ c.args.job.now) _ (of_reading stop) c.from_residual-in_err-reading.ensures.1
    (NotRead c.in_ok-near.near (of_reading stop) c.in_ok-near.ensures.near
    (record { stop = stop; stops = rw c.ask_of.ensures at c.in_err-reading.ensures.stops; is = refl }))

pub returns-then-is_closed-clause-stops : goal.returns-then-is_closed-clause-stops
returns-then-is_closed-clause-stops g c =
    closed (at_once c.args.limits.now) _ _ c.args.job.now _ c.in_ok-reading.reading c.in_ok-near.ensures.near (rw c.ask_of.ensures at c.in_ok-reading.ensures.read) c.start_at-start.result
    c.start_at-start.ensures (sym c.if-is_closed.ensures)

pub returns-in_err-refuse_unruled-clause-stops : goal.returns-in_err-refuse_unruled-clause-stops
returns-in_err-refuse_unruled-clause-stops g c =
    handed_on (StopsBefore (at_once c.args.limits.now) _ _ c.args.job.now) _ (Refused c.in_err-refuse_unruled.field-0.0)
    c.from_residual-in_err-refuse_unruled.ensures.1
    (unruled (at_once c.args.limits.now) _ _ c.args.job.now _ c.in_ok-reading.reading c.in_ok-near.ensures.near (rw c.ask_of.ensures at c.in_ok-reading.ensures.read) c.in_err-refuse_unruled.field-0.0
    c.in_err-refuse_unruled.ensures.breaks)

pub copy_of-requires-clause-part : goal.copy_of-requires-clause-part
copy_of-requires-clause-part g c =
    part_there (at_once c.args.limits.now) _ _ c.args.job.now _ c.in_ok-reading.reading c.in_ok-near.ensures.near (rw c.ask_of.ensures at c.in_ok-reading.ensures.read)
    c.requires.asked

pub returns-in_err-copy-clause-stops : goal.returns-in_err-copy-clause-stops
returns-in_err-copy-clause-stops g c =
    handed_on (StopsBefore (at_once c.args.limits.now) _ _ c.args.job.now) _ (Refused c.in_err-copy.field-0.0) c.from_residual-in_err-copy.ensures.1
    (unruled (at_once c.args.limits.now) _ _ c.args.job.now _ c.in_ok-reading.reading c.in_ok-near.ensures.near (rw c.ask_of.ensures at c.in_ok-reading.ensures.read) c.in_err-copy.field-0.0
    (inr c.in_err-copy.ensures.memory))

pub returns-clause-way : goal.returns-clause-way
returns-clause-way g c =
    way_there (at_once c.args.limits.now) _ _ c.args.job.now _ c.in_ok-reading.reading c.in_ok-near.ensures.near (rw c.ask_of.ensures at c.in_ok-reading.ensures.read) c.said_start.result c.said_start.ensures
    c.requires.asked c.first_by-by.result c.first_by-by.ensures

pub returns-clause-read : goal.returns-clause-read
returns-clause-read g c = record {
  near = c.in_ok-near.near;
  goes_near = c.in_ok-near.ensures.near;
  read = rw c.ask_of.ensures at c.in_ok-reading.ensures.read;
  suited = rw c.start_at-start.ensures at (sym c.if-is_closed.ensures);
  meets = c.in_ok-refuse_unruled.ensures.meets;
}
