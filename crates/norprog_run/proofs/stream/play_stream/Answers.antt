-- The script is read once, after the content.
use Rattle.std.proofs.Common.{◌≡◌, refl, sym, ◌∙◌, ap, subst}
use Rattle.nor_job.specs.Written.{passed}
use Rattle.norprog_run.specs.Play.{play_of}
use Rattle.nor_base.proofs.FaultLaws.{handed_on}
use Rattle.norprog_common.specs.Content.{StopsReading}
use Rattle.norprog_run.specs.declared.kind.Kind.{Kind}
use Rattle.norprog_run.specs.Stream.{Blames, NoChip, Unplayed}
use Rattle.norprog_run.proofs.StreamLemmas.{all_blames, content_blames, content_refused, paged_blames, plays_all, refuses_all, script_blames, script_refused}
use Rattle.norprog_run.proofs.stream.play_stream.Goals as goal

pub returns-in_err-kind-clause-unplayed : goal.returns-in_err-kind-clause-unplayed
returns-in_err-kind-clause-unplayed g c =
    let before = g.R.ByteIn.ahead c.args.content.now in
    let held = g.W.ByteOut.held c.args.out.now in
    let script = g.A.ByteIn.ahead c.args.script.now in
    handed_on (Unplayed (play_of c.args.inputs.now c.args.bench c.args.len (passed before before held held)) script script) _ _ c.from_residual.ensures.1
    (NoChip _ c.in_err-kind.ensures.refused refl refl)

pub returns-in_err-kind-clause-blamed : goal.returns-in_err-kind-clause-blamed
returns-in_err-kind-clause-blamed g c = handed_on _ _ _ c.from_residual.ensures.1 (paged_blames _ _ _ _ _ _ _ c.in_err-kind.ensures.refused)

-- the content was read
pub returns-in-Ok-clause-played : goal.returns-in-Ok-clause-played
returns-in-Ok-clause-played g c =
    let size = ap (λ (v : Kind). v.meaning.size) c.kind.view_is in
    let sized = c.in_ok-kind.ensures.sized in
    plays_all c.args.inputs.now c.args.bench c.in_ok-kind.kind c.args.len sized c.in_ok-kind.ensures.start c.in_ok-kind.ensures.page
    (g.A.ByteIn.ahead c.args.script.now) (g.A.ByteIn.ahead c.play_on.new.script) (g.R.ByteIn.ahead c.args.content.now) (g.R.ByteIn.ahead c.read_content.new.content)
    (g.W.ByteOut.held c.args.out.now) (g.W.ByteOut.held c.play_on.new.out) c.in-Ok.array.items (c.in-Ok.ensures.length ∙ size ∙ sym sized.size) c.in-Ok.ensures.given
    c.play_on.result c.play_on.ensures.played

pub returns-in-Ok-clause-unplayed : goal.returns-in-Ok-clause-unplayed
returns-in-Ok-clause-unplayed g c =
    let size = ap (λ (v : Kind). v.meaning.size) c.kind.view_is in
    let sized = c.in_ok-kind.ensures.sized in
    refuses_all c.args.inputs.now c.args.bench c.in_ok-kind.kind c.args.len sized c.in_ok-kind.ensures.start c.in_ok-kind.ensures.page
    (g.A.ByteIn.ahead c.args.script.now) (g.A.ByteIn.ahead c.play_on.new.script) (g.R.ByteIn.ahead c.args.content.now) (g.R.ByteIn.ahead c.read_content.new.content)
    (g.W.ByteOut.held c.args.out.now) (g.W.ByteOut.held c.play_on.new.out) c.in-Ok.array.items (c.in-Ok.ensures.length ∙ size ∙ sym sized.size) c.in-Ok.ensures.given
    c.play_on.result c.play_on.ensures.stopped

pub returns-in-Ok-clause-blamed : goal.returns-in-Ok-clause-blamed
returns-in-Ok-clause-blamed g c =
    all_blames _ _ _ _ _ _ _ c.play_on.result c.play_on.ensures.stopped c.play_on.ensures.counts.0 c.play_on.ensures.counts.1

-- it wasn't, and the script has a fault
pub returns-in_err-check_script-in-Err-clause-unplayed : goal.returns-in_err-check_script-in-Err-clause-unplayed
returns-in_err-check_script-in-Err-clause-unplayed g c =
    handed_on _ _ _ c.from_residual-in_err-check_script-in-Err.ensures.1
    (script_refused c.args.inputs.now c.args.bench c.in_ok-kind.kind c.args.len c.in_ok-kind.ensures.sized c.in_ok-kind.ensures.start c.in_ok-kind.ensures.page
    (g.A.ByteIn.ahead c.args.script.now) (g.A.ByteIn.ahead c.check_script.new.script) (g.R.ByteIn.ahead c.args.content.now) (g.R.ByteIn.ahead c.read_content.new.content)
    (g.W.ByteOut.held c.args.out.now) (g.W.ByteOut.held c.args.out.now) _ c.in_err-check_script-in-Err.ensures.refused)

pub returns-in_err-check_script-in-Err-clause-blamed : goal.returns-in_err-check_script-in-Err-clause-blamed
returns-in_err-check_script-in-Err-clause-blamed g c =
    handed_on _ _ _ c.from_residual-in_err-check_script-in-Err.ensures.1
    (script_blames _ _ _ _ _ _ _ c.in_err-check_script-in-Err.ensures.refused c.in_err-check_script-in-Err.ensures.count)

-- it wasn't, and the script has none
pub returns-in_ok-check_script-in-Err-clause-unplayed : goal.returns-in_ok-check_script-in-Err-clause-unplayed
returns-in_ok-check_script-in-Err-clause-unplayed g c =
    let size = ap (λ (v : Kind). v.meaning.size) c.kind.view_is in
    let sized = c.in_ok-kind.ensures.sized in
    let before = g.R.ByteIn.ahead c.args.content.now in
    let after = g.R.ByteIn.ahead c.read_content.new.content in
    let stops = subst (λ n. StopsReading n before after c.in-Err.refusal) (size ∙ sym sized.size) c.in-Err.ensures.stopped in
    content_refused c.args.inputs.now c.args.bench c.in_ok-kind.kind c.args.len sized c.in_ok-kind.ensures.start c.in_ok-kind.ensures.page
    (g.A.ByteIn.ahead c.args.script.now) (g.A.ByteIn.ahead c.check_script.new.script) before after (g.W.ByteOut.held c.args.out.now) (g.W.ByteOut.held c.args.out.now)
    c.in-Err.refusal c.in_ok-check_script-in-Err.ensures.text stops

pub returns-in_ok-check_script-in-Err-clause-blamed : goal.returns-in_ok-check_script-in-Err-clause-blamed
returns-in_ok-check_script-in-Err-clause-blamed g c = content_blames _ _ _ _ _ _ _ c.in-Err.refusal c.in-Err.ensures.stopped c.in-Err.ensures.count
