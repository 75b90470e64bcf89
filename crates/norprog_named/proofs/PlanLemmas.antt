-- The plan of a job that is told, and the file of its picture, from the making on.
use Rattle.std.proofs.Common.{ℕ, List, [], ◌∷◌, ◌++◌, Option, Some, None, Result, Ok, Err}
use Rattle.std.specs.Prelude.{MatchResult}
use Rattle.std.specs.Io.KnownBytes.{Appends}
use Rattle.nor_base.specs.Device.{Ahead}
use Rattle.nor_base.specs.declared.device.Failed.{Failed}
use Rattle.nor_base.proofs.DeviceLaws.{Appends-none}
use Rattle.nor_job.specs.Task.{Task}
use Rattle.norprog_common.specs.Rules.{MeetsRules}
use Rattle.norprog_common.specs.declared.given.OutFile.{OutFile}
use Rattle.norprog_files.specs.Files.{Event, IsClosed, Leaves_it, Lost, Sends_all, closing}
use Rattle.norprog_named.specs.Opening.{IsJobOf}
use Rattle.norprog_named.specs.Plan.{LeavesMap, LosesMap, MakesMap, MapLost, MapMade, MapNamed, NoneMade, NoneNamed, SendsMap, TellsJob, shows_of}
use Rattle.norprog_named.specs.declared.plan_files.MapFile.{MapFile}
use Rattle.norprog_named.specs.declared.plan_files.PlanRequest.{PlanRequest}
use Rattle.norprog_plan.specs.Outline.{IsOutline, Outline}

pub tells_job : {r : PlanRequest} {t : Task} {content : Ahead} {o : Outline} {job : List Event} (len : ℕ) → IsJobOf r.job t content len job
    → MeetsRules r.job.rules t len → IsOutline (shows_of r) t len content o → TellsJob r o job
tells_job {r} {t} {content} {o} {job} len opens meets tells = record { task = t; content = content; len = len; opens = opens; meets = meets; tells = tells }

pub none_sent : {O : Type 0} {held : O → Option (List ℕ)} {named : Option OutFile} {made : List Event} (picture : List ℕ) → MakesMap held named None made
    → SendsMap picture named (made ++ [])
none_sent picture NoneMade = NoneNamed

pub none_left : {O : Type 0} {held : O → Option (List ℕ)} {named : Option OutFile} {made : List Event} → MakesMap held named None made → LeavesMap named (made ++ [])
none_left NoneMade = NoneNamed

pub left : {O : Type 0} {held : O → Option (List ℕ)} {named : Option OutFile} {made : List Event} {map : MapFile O} (last : Event) → MakesMap held named (Some map) made
    → IsClosed map.out.path.now (held map.file) last → LeavesMap named (made ++ (last ∷ []))
left {held = held} last (MapMade map) closed = MapNamed map.out _ (Leaves_it (held map.file) (held map.file) last (Appends-none (held map.file)) closed)

pub loses : {O : Type 0} {held : O → Option (List ℕ)} {named : Option OutFile} {made : List Event} {map : MapFile O} (ended : Option (List ℕ))
    → MakesMap held named (Some map) made → LosesMap named (made ++ (Lost map.out.path.now ended ∷ []))
loses {held = held} ended (MapMade map) = MapLost map.out (held map.file) ended

-- it took the picture, whatever came of its closing
pub sends : {O : Type 0} {held : O → Option (List ℕ)} {named : Option OutFile} {made : List Event} {map : MapFile O} (picture : List ℕ) (ended : Option (List ℕ))
    (r : Result (Unit {0}) Failed) → MakesMap held named (Some map) made → Appends (held map.file) ended picture
    → MatchResult r (λ _. SendsMap picture named (made ++ (closing r map.out.path.now ended ∷ []))) (λ _. LosesMap named (made ++ (closing r map.out.path.now ended ∷ [])))
sends {held = held} picture ended (Ok x) (MapMade map) put = MapNamed map.out _ (Sends_all (held map.file) ended put)
sends {held = held} picture ended (Err why) (MapMade map) put = MapLost map.out (held map.file) ended
