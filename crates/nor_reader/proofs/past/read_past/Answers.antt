-- Piece by piece.
use Rattle.std.proofs.Common.{◌≡◌, ◌≤◌, ◌<◌, ◌+◌, length, refl, ◌∙◌, arith}
use Rattle.nor_reader.specs.Past.{past_end}
use Rattle.nor_reader.specs.Reads.{reads}
use Rattle.nor_reader.proofs.PastLemmas.{past_few, none_past, past_all, past_more, past_not}
use Rattle.nor_reader.proofs.HarmlessLemmas.{past_sent, past_sends}
use Rattle.nor_reader.proofs.past.read_past.Goals as goal

pub loop-done-init : goal.loop-done-init
loop-done-init g c = record {
  within = omega arith;
  alike = none_past (reads c.args.limits.now.asked c.args.by) (g.W.ByteOut.held c.args.to.now) (g.R.ByteIn.ahead c.args.from.now) c.args.content.now;
  reads = refl;
  writes = refl;
}

pub loop-done-preserved : goal.loop-done-preserved
loop-done-preserved g c =
    let content = c.args.content.now in
    let past : c.past_end-past.result ≡ past_end c.args.by (length content) = c.past_end-past.ensures in
    let before : c.loop-done.done + c.min-len.result ≤ past_end c.args.by (length content) = omega arith in
    let within : c.loop-done.done + c.min-len.result ≤ length content = omega (arith, before, past_few c.args.by (length content)) in
    let some : 0 < c.min-len.result = omega (arith, c.args.limits.now.some_asked) in
    let few : c.min-len.result ≤ c.args.limits.now.asked = omega arith in
    let ok = c.in_default.ensures in
    record {
      within = before;
      alike = past_more (reads c.args.limits.now.asked c.args.by) _ _ _ _ _ _ content c.loop-done.done c.min-len.result within some few
          c.loop-done.invariant.alike ok.read;
      reads = ok.counts.0 ∙ c.loop-done.invariant.reads;
      writes = ok.counts.1 ∙ c.loop-done.invariant.writes;
    }

pub returns-in-Err-clause-past : goal.returns-in-Err-clause-past
returns-in-Err-clause-past g c =
    let content = c.args.content.now in
    let before : c.loop-done.done + c.min-len.result ≤ past_end c.args.by (length content) = omega arith in
    let within : c.loop-done.done + c.min-len.result ≤ length content = omega (arith, before, past_few c.args.by (length content)) in
    let some : 0 < c.min-len.result = omega (arith, c.args.limits.now.some_asked) in
    let few : c.min-len.result ≤ c.args.limits.now.asked = omega arith in
    past_not (reads c.args.limits.now.asked c.args.by) _ _ _ _ _ _ content c.loop-done.done c.min-len.result c.in-Err.why within before some few
    c.loop-done.invariant.alike c.in-Err.ensures.read

pub returns-in-Err-clause-harmless : goal.returns-in-Err-clause-harmless
returns-in-Err-clause-harmless g c =
    past_sends (reads c.args.limits.now.asked c.args.by) _ _ _ _ c.args.content.now c.in-Err.why (returns-in-Err-clause-past g c)

pub returns-clause-past : goal.returns-clause-past
returns-clause-past g c =
    past_all (reads c.args.limits.now.asked c.args.by) _ _ _ _ c.args.content.now c.loop-done.done (omega (arith, c.past_end-past.ensures))
    c.loop-done.invariant.alike

pub returns-clause-harmless : goal.returns-clause-harmless
returns-clause-harmless g c =
    past_sent (reads c.args.limits.now.asked c.args.by) _ _ _ _ c.args.content.now (returns-clause-past g c)
