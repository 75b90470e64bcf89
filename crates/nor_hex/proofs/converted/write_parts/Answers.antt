-- One part more, and one that isn't read or written.
use Rattle.std.proofs.Common.{◌≡◌, ◌∙◌, ◌⊎◌, ◌+◌, ◌-◌, ◌<◌, ◌≤◌, length-append, length-drop, drop, IfErr, inl, inr, refl, subst, arith}
use Rattle.nor_base.specs.Device.{one_more}
use Rattle.nor_hex.specs.Converted.{IsShort, IsUnended, Stops, WasRead}
use Rattle.nor_hex.proofs.ConvertLemmas.{none_read, more_read, part_cut, still_short, stops_wider, next_seam, of_length}
use Rattle.nor_base.proofs.FaultLaws.{answered}
use Rattle.nor_hex.proofs.converted.write_parts.Goals as goal
use Rattle.nor_base.specs.Wire.{wire}

pub loop-done-init : goal.loop-done-init
loop-done-init g c = record {
  within = omega arith;
  seam = λ some. inl refl;
  buffer = c.requires.buffer.1;
  read = none_read c.args.at (g.R.ByteIn.ahead c.args.bin.now) (g.W.ByteOut.held c.args.out.now) c.parts_join.ensures.none;
  reader = refl;
  writer = refl;
}

pub returns-in_err-write_part-clause-stopped : goal.returns-in_err-write_part-clause-stopped
returns-in_err-write_part-clause-stopped g c =
    let at = c.args.at in
    let done = c.loop-done.done in
    let last = c.min-end.result in
    let rises : done ≤ last = omega (arith, c.min-end.ensures, c.loop-done-test.true, c.room.ensures) in
    let most : last ≤ done + 65536 = omega (arith, c.min-end.ensures, c.room.ensures) in
    let within : done + (last - done) ≤ c.args.len = omega (arith, rises, c.min-end.ensures) in
    let long = of_length c.loop-done.buffer (last - done) (omega (arith, most, c.loop-done.invariant.buffer)) in
    let reader = c.loop-done.invariant.reader in
    let writer = c.loop-done.invariant.writer in
    answered _ (λ r. IfErr r (Stops ((g.R.ByteIn.count c.write_part.new.bin ≡ one_more (g.R.ByteIn.count c.args.bin.now)) ⊎ IsShort c.args.len (g.R.ByteIn.ahead c.args.bin.now)) (g.W.ByteOut.count c.write_part.new.out ≡ one_more (g.W.ByteOut.count c.args.out.now)))) _
    (stops_wider c.in_err-write_part.field-0.0
    (λ (w : (g.R.ByteIn.count c.write_part.new.bin ≡ one_more (g.R.ByteIn.count c.loop-done.bin)) ⊎ IsShort _ (g.R.ByteIn.ahead c.loop-done.bin)).
    elim w [
      | inl rose ↦ inl (subst (λ k. g.R.ByteIn.count c.write_part.new.bin ≡ one_more k) reader rose)
      | inr short ↦ inr (still_short at done (last - done) (g.R.ByteIn.ahead c.args.bin.now) (g.R.ByteIn.ahead c.loop-done.bin) (g.R.ByteIn.ahead c.write_part.new.bin) (g.W.ByteOut.held c.args.out.now) (g.W.ByteOut.held c.loop-done.out) (g.W.ByteOut.held c.write_part.new.out) c.loop-done.invariant.read c.args.len within (subst (λ n. IsShort n (g.R.ByteIn.ahead c.loop-done.bin)) long short))
    ])
    (λ rose. subst (λ k. g.W.ByteOut.count c.write_part.new.out ≡ one_more k) writer rose)
    c.in_err-write_part.ensures.stopped)
    c.from_residual.ensures.1

pub returns-in_err-write_part-clause-unended : goal.returns-in_err-write_part-clause-unended
returns-in_err-write_part-clause-unended g c =
    answered _ (λ r. IfErr r (λ x. IsUnended c.args.at (g.W.ByteOut.held c.args.out.now) (g.W.ByteOut.held c.write_part.new.out))) _
    (part_cut c.args.at c.loop-done.done 0 _ _ (g.R.ByteIn.ahead c.loop-done.bin) _ _ (g.W.ByteOut.held c.write_part.new.out) c.loop-done.invariant.read
    c.parts_join.ensures.join (c.loop-done.invariant.seam c.loop-done-test.true) c.in_err-write_part.ensures.cut)
    c.from_residual.ensures.1

pub loop-done-preserved : goal.loop-done-preserved
loop-done-preserved g c =
    let at = c.args.at in
    let done = c.loop-done.done in
    let last = c.min-end.result in
    let rises : done ≤ last = omega (arith, c.min-end.ensures, c.loop-done-test.true, c.room.ensures) in
    let most : last ≤ done + 65536 = omega (arith, c.min-end.ensures, c.room.ensures) in
    let exact : done + (last - done) ≡ last = omega (arith, rises) in
    let long = of_length c.loop-done.buffer (last - done) (omega (arith, most, c.loop-done.invariant.buffer)) in
    record {
      within = omega (arith, c.min-end.ensures);
      seam = next_seam at done c.room.result c.args.len last c.room.ensures c.min-end.ensures;
      buffer = omega (arith, length-append c.write_part.new.part (drop (last - done) c.loop-done.buffer), length-drop (last - done) c.loop-done.buffer, long, most, rises, c.loop-done.invariant.buffer);
      read = subst (λ n. WasRead at n (wire (g.W.ByteOut.held c.args.out.now) (g.R.ByteIn.ahead c.args.bin.now)) (wire (g.W.ByteOut.held c.write_part.new.out) (g.R.ByteIn.ahead c.write_part.new.bin))) exact
          (more_read at done (last - done) _ _ _ _ _ _ c.loop-done.invariant.read c.parts_join.ensures.join (c.loop-done.invariant.seam c.loop-done-test.true)
          (subst (λ n. WasRead (at + done) n (wire (g.W.ByteOut.held c.loop-done.out) (g.R.ByteIn.ahead c.loop-done.bin)) (wire (g.W.ByteOut.held c.write_part.new.out) (g.R.ByteIn.ahead c.write_part.new.bin))) long c.in_ok-write_part.ensures.read));
      reader = c.in_ok-write_part.ensures.counts.0 ∙ c.loop-done.invariant.reader;
      writer = c.in_ok-write_part.ensures.counts.1 ∙ c.loop-done.invariant.writer;
    }

pub returns-clause-read : goal.returns-clause-read
returns-clause-read g c =
    let all : c.loop-done.done ≡ c.args.len = omega (arith, c.loop-done.invariant.within, c.loop-done-test.false) in
    subst (λ n. WasRead c.args.at n (wire (g.W.ByteOut.held c.args.out.now) (g.R.ByteIn.ahead c.args.bin.now)) (wire (g.W.ByteOut.held c.loop-done.out) (g.R.ByteIn.ahead c.loop-done.bin))) all c.loop-done.invariant.read
