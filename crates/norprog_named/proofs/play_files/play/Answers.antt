-- The files, and then the play of them.
use Rattle.std.proofs.Common.{◌≡◌, ◌∙◌, [], ◌∷◌, ◌++◌, ap, refl, sym}
use Rattle.nor_base.proofs.FaultLaws.{answered}
use Rattle.nor_job.specs.Task.{Task}
use Rattle.norprog_common.specs.Setup.{setup_task}
use Rattle.norprog_common.specs.declared.faults.FileName.TheVariants as file
use Rattle.norprog_files.specs.Files.{Denied, Here, IsOpened, Later, Opened}
use Rattle.norprog_files.proofs.FilesLemmas.{adds_both, stops_after, stops_before}
use Rattle.norprog_named.specs.Play.{EndsPlay, NoInput, NoPlay, Opens_all, Played}
use Rattle.norprog_named.proofs.JobLemmas.{tables_used}
use Rattle.norprog_named.proofs.PlayLemmas.{content_failed, expected_so, script_failed}
use Rattle.norprog_player.specs.Expected.{play_of}
use Rattle.norprog_player.specs.Job.{source, sources}
use Rattle.norprog_player.specs.declared.unplayed.Unplayed.TheVariants.{Refused}
use Rattle.norprog_named.proofs.play_files.play.Goals as goal

pub returns-in_err-tables : goal.returns-in_err-tables
returns-in_err-tables g c =
    let did = c.in_err-tables.ensures in (
      did.0,
      did.1,
      answered _ (EndsPlay (g.F.Files.unread c.args.files.now) c.args.request did.0) (Refused c.in_err-tables.field-0.0) (NoInput did.0 _ (stops_before _ did.2))
          c.from_residual.ensures.1,
    )

pub returns-in_err-content : goal.returns-in_err-content
returns-in_err-content g c =
    let tables = c.in_ok-tables.ensures in
    let path = c.args.request.content.now in (
      _,
      adds_both tables.1 c.in_err-content.ensures.did,
      answered _ (EndsPlay (g.F.Files.unread c.args.files.now) c.args.request (tables.0 ++ (Denied path ∷ []))) (Refused c.in_err-content.field-0.0)
          (NoInput _ _ (stops_after (tables_used tables.2) (Here file.Content path _ _ c.in_err-content.ensures.refused))) c.from_residual-in_err-content.ensures.1,
    )

pub returns-in_err-script : goal.returns-in_err-script
returns-in_err-script g c =
    let tables = c.in_ok-tables.ensures in
    let content = g.F.Input.ByteIn.ahead c.in_ok-content.content in
    let len = c.in_ok-content.len in
    let path = c.args.request.content.now in
    let script = c.args.request.script.now in (
      _,
      adds_both tables.1 (adds_both c.in_ok-content.ensures.did c.in_err-script.ensures.did),
      answered _ (EndsPlay (g.F.Files.unread c.args.files.now) c.args.request (tables.0 ++ (Opened path content len ∷ Denied script ∷ []))) (Refused c.in_err-script.field-0.0)
          (NoInput _ _ (stops_after (tables_used tables.2)
          (Later file.Content path _ (Opened path content len) _ _ (IsOpened content len) (Here file.Script script [] _ c.in_err-script.ensures.refused))))
          c.from_residual-in_err-script.ensures.1,
    )

pub returns-in_err-job : goal.returns-in_err-job
returns-in_err-job g c =
    let r = c.args.request in
    let tables = c.in_ok-tables.ensures in
    let ahead = g.F.Input.ByteIn.ahead in
    let is = c.setup_inputs-inputs.ensures ∙ ap (setup_task r.setup) c.as_slice.ensures.value in
    let s = sources c.setup_inputs-inputs.result c.in_ok-content.len (source (ahead c.in_ok-script.script) (ahead c.job_of.new.script))
    (source (ahead c.in_ok-content.content) (ahead c.job_of.new.content)) in
    let log = tables.0 ++ (Opened r.content.now s.content.ahead s.len ∷ Opened r.script.now s.script.ahead c.in_ok-script._len ∷ []) in (
      log,
      adds_both tables.1 (adds_both c.in_ok-content.ensures.did c.in_ok-script.ensures.did),
      answered _ (EndsPlay (g.F.Files.unread c.args.files.now) r log) (Refused c.in_err-job.field-0.0)
          (NoPlay s log _ (Opens_all _ _ tables.0 tables.2 is) c.in_err-job.ensures.refused
          (λ told. g.met.F.Files.failing c.args.files.now c.job_of.new.script (script_failed _ _ c.in_err-job.field-0.0 c.in_err-job.ensures.counts.1 told))
          (λ told. g.met.F.Files.failing c.args.files.now c.job_of.new.content (content_failed _ _ c.in_err-job.field-0.0 c.in_err-job.ensures.counts.0 told)))
          c.from_residual-in_err-job.ensures.1,
    )

pub returns : goal.returns
returns g c =
    let r = c.args.request in
    let tables = c.in_ok-tables.ensures in
    let ahead = g.F.Input.ByteIn.ahead in
    let t = c.setup_inputs-inputs.result in
    let job = c.in_ok-job.job in
    let is = c.setup_inputs-inputs.ensures ∙ ap (setup_task r.setup) c.as_slice.ensures.value in
    let s = sources t c.in_ok-content.len (source (ahead c.in_ok-script.script) (ahead c.job_of.new.script))
    (source (ahead c.in_ok-content.content) (ahead c.job_of.new.content)) in
    let family : r.setup.part ≡ t.part = sym (ap (λ (u : Task). u.part) c.setup_inputs-inputs.ensures) in
    let same = expected_so t r.setup.part job.start c.known_tables.result.now r.trust family c.in_ok-job.ensures.ready.0 c.known_tables.ensures.tables in
    let did = c.play_job.ensures in (
      _,
      adds_both (adds_both tables.1 (adds_both c.in_ok-content.ensures.did c.in_ok-script.ensures.did)) did.1,
      Played (play_of job.steps _ job.meaning job.content.items r.limit) _ did.0 c.play_job.result (record {
        sources = s;
        opens = Opens_all _ _ tables.0 tables.2 is;
        ready = c.in_ok-job.ensures.ready.1;
        expected = same;
        limit = refl;
      }) did.2,
    )
