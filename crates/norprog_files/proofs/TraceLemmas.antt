-- What is done, by its calls.
use Rattle.std.proofs.Common.{◌≡◌, ◌&&◌, ℕ, List, [], ◌∷◌, ◌++◌, Option, Result, Ok, Err, IfErr, IfOk, is_ok, nat_eq, refl, subst, sym}
use Rattle.std.specs.Prelude.{IsErrAnd}
use Rattle.std.specs.Io.Buffered.{writer_contents}
use Rattle.std.specs.Io.KnownBytes.{Keeps}
use Rattle.std.specs.declared.alloc.Global.{Global}
use Rattle.std.specs.declared.io.BufWriter.{BufWriter}
use Rattle.std.specs.declared.io.Error.{Error}
use Rattle.nor_base.specs.declared.device.Failed.{Failed}
use Rattle.nor_job.specs.declared.fault.BuildFault.TheVariants as fault
use Rattle.norprog_common.specs.declared.faults.FileName.{FileName}
use Rattle.norprog_common.specs.declared.faults.Refusal.{Refusal}
use Rattle.norprog_common.specs.declared.faults.Refusal.TheVariants.{Build}
use Rattle.norprog_common.specs.declared.given.OutFile.{OutFile}
use Rattle.norprog_files.specs.declared.disk.FileId.{FileId}
use Rattle.norprog_files.specs.declared.replaced.OutKind.{OutKind}
use Rattle.norprog_files.specs.Disk.{Call}
use Rattle.norprog_files.specs.Files.{Adds, Denies, Event, Unallotted, came, closing}
use Rattle.norprog_files.specs.Guards.{EndsOutput, GoesOut}
use Rattle.norprog_files.specs.Trace.{ComesTo, GoesOn, Reports, Told, ToLost, ToSent, Traces}

-- calls that come to an event, as it is shown, add it
pub traced : {F : Type 0} {files : Reports F} {a b : List (Call F) → Type 0} {before after now : List FileId} {more : List (Call F)} {event shown : Event}
    → Adds a b more → now ≡ after → shown ≡ event → ComesTo files before more event after → Adds (Told files a before) (Told files b now) (shown ∷ [])
traced {files = files} {before = before} {after = after} {more = more} {shown = shown} adds is same comes = record {
  then = λ past was. (
    was.0 ++ more,
    adds.then was.0 was.1,
    subst (λ opened. Traces files (was.0 ++ more) (past ++ (shown ∷ [])) opened) (sym is)
        (GoesOn was.0 more past shown before after was.2 (subst (λ e. ComesTo files before more e after) (sym same) comes)),
  );
}

-- a fault that is handed on, and any result
pub denied : {T E : Type 0} {a b : List Event → Type 0} {event : Event} (done : T → Event) (result : Result T E) (fault : E) → IsErrAnd result (λ told. told ≡ fault)
    → Adds a b (event ∷ []) → Adds a b (came result done event)
denied done (Ok x) fault is adds = absurd is
denied done (Err told) fault is adds = adds

pub came_if : {T E : Type 0} {a b : List Event → Type 0} {done : T → Event} {event : Event} (result : Result T E) (P : T → Type 0) → IfOk result P
    → ((x : T) → P x → Adds a b (done x ∷ [])) → Adds a b (event ∷ []) → Adds a b (came result done event)
came_if (Ok x) P is good bad = good x is
came_if (Err told) P is good bad = bad

pub starved : {T : Type 0} (name : FileName) (result : Result T Refusal) → IfErr result (λ why. why ≡ Build fault.Memory) → IfErr result (Denies name)
starved name (Ok x) is = tt
starved name (Err why) is = subst (Denies name) (sym is) Unallotted

pub closed_by : {F : Type 0} {files : Reports F} {a b : List (Call F) → Type 0} {opened : List FileId} {calls : List (Call F)} (path : List ℕ) (held : Option (List ℕ))
    (file : BufWriter F Global) (flushed : Result Unit Error) (result : Result Unit Failed) (failed : ℕ) → is_ok result ≡ (is_ok flushed && nat_eq failed 0)
    → Keeps held (writer_contents files.contents file) → Adds a b calls → GoesOut file calls flushed
    → Adds (Told files a opened) (Told files b opened) (closing result path held ∷ [])
closed_by path held file (Ok x) (Ok y) failed is kept adds ends = traced adds refl refl (ToSent path held file _ kept ends)
closed_by path held file (Err error) (Ok y) failed is kept adds ends = absurd cc
closed_by path held file flushed (Err broken) failed is kept adds ends = traced adds refl refl (ToLost path held file flushed _ kept ends)

-- files that were opened, as a slice
pub over : {F : Type 0} {remaining : F → Option (List ℕ)} {o : OutFile} {kind : OutKind} {opened items : List FileId} {log : List (Call F)} {result : Result F Refusal}
    → opened ≡ items → EndsOutput remaining o kind opened log result → EndsOutput remaining o kind items log result
over {remaining = remaining} {o = o} {kind = kind} {log = log} {result = result} is ends = subst (λ places. EndsOutput remaining o kind places log result) is ends
