-- Where the inputs give no such chip no reader failed.
use Rattle.std.proofs.Common.{◌≡◌, ℕ, ◌+◌, [], Result, Ok, Err, refl, ap, subst, sym, arith}
use Rattle.std.specs.Prelude.{IsErrAnd}
use Rattle.nor_base.specs.Device.{Ahead, Endless, Finite, Unknown, raised}
use Rattle.nor_job.specs.Task.{Task}
use Rattle.nor_job.specs.declared.fault.BuildFault.TheVariants as fault
use Rattle.nor_base.specs.Parameters.{Parameters}
use Rattle.nor_script.specs.Stream.{HadText, IsSpelled}
use Rattle.norprog_common.specs.Content.{CountsReader, ReadsLess, StopsReading, of_reader}
use Rattle.norprog_common.specs.Reading.{GivesSome}
use Rattle.norprog_common.specs.declared.faults.Refusal.{Refusal}
use Rattle.norprog_common.specs.declared.faults.Refusal.TheVariants as refusal
use Rattle.norprog_player.specs.Job.{CountsScript, IsSized, RefusesJob, RefusesSize, Sources, of_script}

unread : (t : Task) (len : ℕ) (why : Refusal) → RefusesSize t len why → (of_reader why ≡ 0) × (of_script why ≡ 0)
unread t len (refusal.Build fault.ContentSize) r = (refl, refl)
unread t len (refusal.Build (fault.Contradiction number)) r = (refl, refl)
unread t len (refusal.Build (fault.Sfdp why)) r = (refl, refl)
unread t len (refusal.Build (fault.Sheet why)) r = (refl, refl)
unread t len (refusal.Build (fault.Status number)) r = (refl, refl)
unread t len (refusal.Build fault.ModeImpossible) r = (refl, refl)
unread t len (refusal.Build (fault.Hex why)) r = absurd r
unread t len (refusal.Build (fault.Layout why)) r = absurd r
unread t len (refusal.Build (fault.Plan why)) r = absurd r
unread t len (refusal.Build fault.ContentShort) r = absurd r
unread t len (refusal.Build fault.Read) r = absurd r
unread t len (refusal.Build fault.Write) r = absurd r
unread t len (refusal.Build fault.Memory) r = absurd r
unread t len (refusal.Text text) r = absurd r
unread t len refusal.Usage r = absurd r
unread t len (refusal.File name) r = absurd r
unread t len refusal.Page r = absurd r
unread t len (refusal.Script why) r = absurd r
unread t len refusal.BinSize r = absurd r
unread t len (refusal.BinLength length) r = absurd r
unread t len refusal.BinRegion r = absurd r
unread t len (refusal.Conflict at) r = absurd r
unread t len (refusal.Steps number) r = absurd r
unread t len (refusal.EmptyRegion index) r = absurd r
unread t len (refusal.Partial gap) r = absurd r
unread t len (refusal.Beyond stray) r = absurd r
unread t len refusal.Nowhere r = absurd r
unread t len (refusal.Log line) r = absurd r

pub counts_size : {T : Type 0} (t : Task) (len m n : ℕ) (result : Result T Refusal) (why : Refusal) → IsErrAnd result (λ told. told ≡ why) → RefusesSize t len why
    → CountsReader m m result × CountsScript n n result
counts_size t len m n (Ok x) why is refused = absurd is
counts_size t len m n (Err told) why is refused =
    let none = unread t len why refused in
    subst (λ (w : Refusal). (m ≡ raised m (of_reader w)) × (n ≡ raised n (of_script w))) (sym is)
    (subst (λ k. m ≡ raised m k) (sym none.0) refl, subst (λ k. n ≡ raised n k) (sym none.1) refl)

pub gives_none : (ahead : Ahead) → GivesSome ahead ahead
gives_none Unknown = ([], tt)
gives_none (Finite bytes) = ([], refl)
gives_none (Endless byte) = ([], (λ k below. absurd (omega arith), λ k. let same : k ≡ 0 + k = omega arith in ap byte same))

-- the content wasn't read, of a chip of its size, after the script was
module _ (s : Sources) (m : Parameters) (sized : IsSized s.task s.len m) (spelled : HadText s.script.ahead s.script.rest IsSpelled) where
  less : ReadsLess m.size s.content.ahead s.content.rest → ReadsLess s.len s.content.ahead s.content.rest
  less = subst (λ n. ReadsLess n s.content.ahead s.content.rest) (sym sized.size)

  pub stops_content : (why : Refusal) → StopsReading m.size s.content.ahead s.content.rest why → RefusesJob s why
  stops_content (refusal.Build fault.ContentShort) r = ((m, sized), spelled, less r.0, r.1)
  stops_content (refusal.Build fault.Read) r = ((m, sized), spelled, less r)
  stops_content (refusal.Build fault.Memory) r = (m, sized)
  stops_content (refusal.Build (fault.Contradiction number)) r = absurd r
  stops_content (refusal.Build (fault.Sfdp other)) r = absurd r
  stops_content (refusal.Build (fault.Sheet other)) r = absurd r
  stops_content (refusal.Build (fault.Status number)) r = absurd r
  stops_content (refusal.Build fault.ModeImpossible) r = absurd r
  stops_content (refusal.Build fault.ContentSize) r = absurd r
  stops_content (refusal.Build (fault.Hex other)) r = absurd r
  stops_content (refusal.Build (fault.Layout other)) r = absurd r
  stops_content (refusal.Build (fault.Plan other)) r = absurd r
  stops_content (refusal.Build fault.Write) r = absurd r
  stops_content (refusal.Text text) r = absurd r
  stops_content refusal.Usage r = absurd r
  stops_content (refusal.File name) r = absurd r
  stops_content refusal.Page r = absurd r
  stops_content (refusal.Script other) r = absurd r
  stops_content refusal.BinSize r = absurd r
  stops_content (refusal.BinLength length) r = absurd r
  stops_content refusal.BinRegion r = absurd r
  stops_content (refusal.Conflict at) r = absurd r
  stops_content (refusal.Steps number) r = absurd r
  stops_content (refusal.EmptyRegion index) r = absurd r
  stops_content (refusal.Partial gap) r = absurd r
  stops_content (refusal.Beyond stray) r = absurd r
  stops_content refusal.Nowhere r = absurd r
  stops_content (refusal.Log line) r = absurd r
