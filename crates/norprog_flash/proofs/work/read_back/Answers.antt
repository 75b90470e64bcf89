-- The part of the chip, and what comes past its end.
use Rattle.std.proofs.Common.{◌≡◌, ℕ, false, Result, Ok, Err, inr, refl, subst, sym}
use Rattle.nor_reader.specs.declared.difference.Mismatch.{Mismatch}
use Rattle.nor_reader.specs.Twice.{ReadsWhole}
use Rattle.nor_base.specs.Wire.{Wire, wire}
use Rattle.norprog_flash.specs.Worked.{Back, ReadsBack}
use Rattle.norprog_read.specs.End.{past, EndsPast, GivesPast}
use Rattle.norprog_read.specs.Span.{came}
use Rattle.norprog_flash.proofs.work.read_back.Goals as goal

ended : (most : ℕ) (b : Back) (before all after : Wire) (result : Result (Unit {0}) Mismatch) → b.larger ≡ false
    → ReadsWhole (past most b.by b.bytes).reads before all (Ok tt) (came b.part b.bytes) → EndsPast all after (past most b.by b.bytes) result → ReadsBack most b before after result
ended most b before all after (Ok u) is first second = (all, first, subst (GivesPast all after (past most b.by b.bytes)) (sym is) second)
ended most b before all after (Err why) is first second = inr (all, first, second)

pub returns-then-back : goal.returns-then-back
returns-then-back g c = record {
  back =
      let b = c.back.inside in
      let all = wire (g.W.ByteOut.held c.read_again.new.to) (g.R.ByteIn.ahead c.read_again.new.from) in
      subst (λ (x : Back). ReadsBack c.args.limits.now.asked x (wire (g.W.ByteOut.held c.args.to.now) (g.R.ByteIn.ahead c.args.from.now)) all (Ok tt)) c.back.view_is
      (all, c.in_ok-read_again.ensures.again, subst (GivesPast all all (past c.args.limits.now.asked b.by b.bytes.now)) (sym c.if-back.true) refl);
}

pub returns : goal.returns
returns g c = record {
  back =
      let all = wire (g.W.ByteOut.held c.read_again.new.to) (g.R.ByteIn.ahead c.read_again.new.from) in
      subst (λ (x : Back). ReadsBack c.args.limits.now.asked x (wire (g.W.ByteOut.held c.args.to.now) (g.R.ByteIn.ahead c.args.from.now))
      (wire (g.W.ByteOut.held c.read_past.new.to) (g.R.ByteIn.ahead c.read_past.new.from)) c.read_past.result) c.back.view_is
      (ended c.args.limits.now.asked _ _ all _ c.read_past.result c.if-back.false c.in_ok-read_again.ensures.again c.read_past.ensures.past);
}
