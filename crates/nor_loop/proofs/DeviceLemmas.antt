-- What a device did for steps is a log of them.
use Rattle.std.proofs.Common.{◌≡◌, ◌⊎◌, inl, inr, ℕ, true, ◌+◌, List, [], ◌∷◌, ◌++◌, length, map, Option, Err, refl, sym, ap, subst, arith, append-nil, append_assoc}
use Rattle.std.specs.Prelude.{flat_map}
use Rattle.std.specs.Io.KnownBytes.{Appends}
use Rattle.std.specs.List.{AllByRecursion}
use Rattle.std.proofs.lemmas.Grind.{flat_map-append}
use Rattle.std.proofs.lemmas.List.Folds.{flat_map-map}
use Rattle.nor_base.specs.declared.step.Step.{Step}
use Rattle.nor_base.specs.declared.step.Step.TheVariants.{Send, Poll, Verify}
use Rattle.nor_base.specs.Device.{Ahead, Unknown, Finite, Endless, Gives}
use Rattle.nor_base.proofs.ListLaws.{all_append}
use Rattle.nor_base.proofs.DeviceLaws.{Appends-none, Appends-append, Gives-append}
use Rattle.nor_base.specs.Wire.{wire}
use Rattle.nor_serprog.specs.declared.limits.Limits.{Limits}
use Rattle.nor_serprog.specs.declared.halt.Halt.{Halt}
use Rattle.nor_serprog.specs.declared.fault.Reason.{Reason}
use Rattle.nor_serprog.specs.declared.fault.Reason.TheVariants as reason
use Rattle.nor_plan_laws.specs.Laws.{PlannedDoesTask}
use Rattle.nor_serprog.specs.Follow.{HasOperated, are_busy, are_idle}
use Rattle.nor_serprog.specs.Follow as follow
use Rattle.nor_serprog.specs.Protocol.{request, answer}
use Rattle.nor_serprog.specs.Done.{HasDone, HasStopped, HasDoneAll}
use Rattle.nor_serprog.specs.Row.{IsAsked, StopsWithin, CutsRow, HasHalted}
use Rattle.nor_loop.specs.Laws.{DoneIsLogged, HaltIsLogged, ToldLoopCloses, LoopBreaks, LoopIsExplained, DeviceCloses, DeviceBreaks}
use Rattle.nor_loop.specs.Log.{Operation, IsShort, HasLogged}
use Rattle.nor_loop.specs.Steps.{status_read, IsOne, IsWaiting, IsLogOf, IsBegun, AreLogOf, AreBegun}

-- what goes out, and what comes back
abbrev outs : List Operation → List ℕ
outs log = flat_map (λ (o : Operation). request o.sent (length o.got)) log

abbrev backs : List Operation → List ℕ
backs log = flat_map (λ (o : Operation). answer o.got) log

gives_none : (a : Ahead) → Gives a [] a
gives_none Unknown = tt
gives_none (Finite bytes) = refl
gives_none (Endless f) = (λ k fits. absurd (omega arith), λ k. let same : k ≡ 0 + k = omega arith in ap f same)

pub logged_none : (held : Option (List ℕ)) (ahead : Ahead) → HasLogged (wire held ahead) (wire held ahead) []
logged_none held ahead = record { short = tt; talked = record { out = Appends-none held; back = gives_none ahead } }

pub logged_both : (h i j : Option (List ℕ)) (a b c : Ahead) (xs ys : List Operation) → HasLogged (wire h a) (wire i b) xs → HasLogged (wire i b) (wire j c) ys → HasLogged (wire h a) (wire j c) (xs ++ ys)
logged_both h i j a b c xs ys p q = record {
  short = all_append IsShort xs ys p.short q.short;
  talked = record {
    out = subst (Appends h j) (sym (flat_map-append (λ (o : Operation). request o.sent (length o.got)) xs ys))
        (Appends-append h i j (outs xs) (outs ys) p.talked.out q.talked.out);
    back = subst (λ bytes. Gives a bytes c) (sym (flat_map-append (λ (o : Operation). answer o.got) xs ys))
        (Gives-append a b c (backs xs) (backs ys) p.talked.back q.talked.back);
  };
}

record Logged (h i : Option (List ℕ)) (a b : Ahead) (Is : List Operation → Type 0) : Type 0 where
  log : List Operation
  wire : HasLogged (wire h a) (wire i b) log
  is : Is log

statuses_short : (statuses : List ℕ) → AllByRecursion IsShort (map status_read statuses)
statuses_short [] = tt
statuses_short (x ∷ xs) = ((omega arith, omega arith), statuses_short xs)

statuses_logged : (h i : Option (List ℕ)) (a b : Ahead) (statuses : List ℕ) → follow.HasRead (wire h a) (wire i b) statuses → HasLogged (wire h a) (wire i b) (map status_read statuses)
statuses_logged h i a b statuses read = record {
  short = statuses_short statuses;
  talked = record {
    out = subst (Appends h i) (sym (flat_map-map (λ (o : Operation). request o.sent (length o.got)) status_read statuses)) read.out;
    back = subst (λ bytes. Gives a bytes b) (sym (flat_map-map (λ (o : Operation). answer o.got) status_read statuses)) read.back;
  };
}

operated : (h i : Option (List ℕ)) (a b : Ahead) (limits : Limits) (symbols want : List ℕ) (Holds : Operation → Type 0)
    → ((o : Operation) → o.got ≡ want → Holds o) → HasOperated (wire h a) (wire i b) limits symbols want → Logged h i a b (IsOne symbols Holds)
operated h i a b limits symbols want Holds holds did =
    let o : Operation = record { sent = did.sent; got = want } in
    let few_sent = did.spelled.few_sent in
    let few_asked = did.spelled.few_asked in
    let most_sent = limits.few_sent in
    let most_asked = limits.few_asked in record {
      log = o ∷ [];
      wire = record {
        short = ((omega (arith, few_sent, most_sent), omega (arith, few_asked, most_asked)), tt);
        talked = record {
          out = subst (Appends h i) (sym (append-nil (request did.sent (length want)))) did.talked.out;
          back = subst (λ bytes. Gives a bytes b) (sym (append-nil (answer want))) did.talked.back;
        };
      };
      is = (o, sym did.spelled.spelled, holds o refl, refl);
    }

done_logged : (h i : Option (List ℕ)) (a b : Ahead) (limits : Limits) (turns : ℕ) (x : Step) → HasDone (wire h a) (wire i b) limits turns x → Logged h i a b (IsLogOf x)
done_logged h i a b limits turns (Send symbols) did = operated h i a b limits symbols [] _ (λ o is. is) did
done_logged h i a b limits turns (Poll symbols) (same, waited) =
    let statuses = waited.busy ++ waited.idle in record {
      log = map status_read statuses;
      wire = statuses_logged h i a b statuses waited.read;
      is = (same, record { busy = waited.busy; idle = waited.idle; some = waited.some; each = waited.each; last = waited.last; those = refl });
    }
done_logged h i a b limits turns (Verify symbols expect) did = operated h i a b limits symbols expect _ (λ o is. is) did

all_logged : (h i : Option (List ℕ)) (a b : Ahead) (limits : Limits) (turns : ℕ) (steps : List Step) → HasDoneAll (wire h a) (wire i b) limits turns steps
    → Logged h i a b (AreLogOf steps)
all_logged h i a b limits turns [] (held, ahead) = record {
  log = [];
  wire = subst (λ (j : Option (List ℕ)). HasLogged (wire h a) (wire j b) []) (sym held) (subst (λ (c : Ahead). HasLogged (wire h a) (wire h c) []) (sym ahead) (logged_none h a));
  is = refl;
}
all_logged h i a b limits turns (x ∷ xs) (j, c, did, more) =
    let first = done_logged h j a c limits turns x did in
    let rest = all_logged j i c b limits turns xs more in record {
      log = first.log ++ rest.log;
      wire = logged_both h j i a c b first.log rest.log first.wire rest.wire;
      is = (first.log, rest.log, refl, first.is, rest.is);
    }

pub done_is_logged : DoneIsLogged
done_is_logged h i a b limits turns steps did = let all = all_logged h i a b limits turns steps did in (all.log, all.wire, all.is)

-- up to where it stopped
record StoppedAt (h : Option (List ℕ)) (a : Ahead) (Is : List Operation → Type 0) : Type 0 where
  held : Option (List ℕ)
  ahead : Ahead
  upto : Logged h held a ahead Is

at_once : (h : Option (List ℕ)) (a : Ahead) (Is : List Operation → Type 0) → Is [] → StoppedAt h a Is
at_once h a Is is = record { held = h; ahead = a; upto = record { log = []; wire = logged_none h a; is = is } }

statuses_waiting : (h i : Option (List ℕ)) (a b : Ahead) (busy idle : List ℕ) → are_busy busy ≡ true → are_idle idle ≡ true → follow.HasRead (wire h a) (wire i b) (busy ++ idle)
    → StoppedAt h a IsWaiting
statuses_waiting h i a b busy idle each then_idle read = record {
  held = i;
  ahead = b;
  upto = record {
    log = map status_read (busy ++ idle);
    wire = statuses_logged h i a b (busy ++ idle) read;
    is = record { busy = busy; idle = idle; each = each; then_idle = then_idle; those = refl };
  };
}

waiting : (h i : Option (List ℕ)) (a b : Ahead) (limits : Limits) (turns : ℕ) (why : Reason) → follow.Waits (wire h a) (wire i b) (Err why) limits turns
    → StoppedAt h a IsWaiting
waiting h i a b limits turns reason.Busy (inl stays) =
    statuses_waiting h i a b stays.busy [] stays.each refl
    (subst (follow.HasRead (wire h a) (wire i b)) (sym (append-nil stays.busy)) stays.read)
waiting h i a b limits turns reason.Busy (inr again) =
    statuses_waiting h again.held a again.ahead again.busy again.idle again.each again.then_idle again.read
waiting h i a b limits turns (reason.Exchange fault) stops =
    statuses_waiting h stops.held a stops.ahead stops.busy stops.idle stops.each stops.then_idle stops.read
waiting h i a b limits turns reason.Carried none = absurd none
waiting h i a b limits turns (reason.Differs place byte) none = absurd none

stopped_logged : (h i : Option (List ℕ)) (a b : Ahead) (limits : Limits) (turns : ℕ) (why : Reason) (x : Step) → HasStopped (wire h a) (wire i b) limits turns why x
    → StoppedAt h a (IsBegun x)
stopped_logged h i a b limits turns why (Send symbols) did = at_once h a (IsBegun (Send symbols)) refl
stopped_logged h i a b limits turns why (Poll symbols) (same, stops) =
    let w = waiting h i a b limits turns why stops in record {
      held = w.held;
      ahead = w.ahead;
      upto = record { log = w.upto.log; wire = w.upto.wire; is = (same, w.upto.is) };
    }
stopped_logged h i a b limits turns why (Verify symbols expect) did = at_once h a (IsBegun (Verify symbols expect)) refl

-- nothing of a step was done yet
not_yet : (limits : Limits) (reads : ℕ) (x : Step) (put : List ℕ) → IsAsked limits reads x put → IsBegun x []
not_yet limits reads (Send symbols) put asked = refl
not_yet limits reads (Poll symbols) put asked = (asked.0, record { busy = []; idle = []; each = refl; then_idle = refl; those = refl })
not_yet limits reads (Verify symbols expect) put asked = refl

-- up to a halt
record HaltedAt (h : Option (List ℕ)) (a : Ahead) (steps : List Step) (at : ℕ) (row : List Step) : Type 0 where
  held : Option (List ℕ)
  ahead : Ahead
  log : List Operation
  wire : HasLogged (wire h a) (wire held ahead) log
  begun : AreBegun steps at row log

halt_logged : (h i : Option (List ℕ)) (a b : Ahead) (limits : Limits) (turns : ℕ) (steps : List Step) (halt : Halt)
    → (halted : HasHalted (wire h a) (wire i b) limits turns steps halt) → HaltedAt h a steps halt.step (halted.at ∷ halted.beyond)
halt_logged h i a b limits turns steps halt halted = by halted.stopped
  where
    before : Logged h halted.held a halted.ahead (AreLogOf halted.done)
    before = all_logged h halted.held a halted.ahead limits turns halted.done halted.before

    on : (at : StoppedAt halted.held halted.ahead (IsBegun halted.at)) → HaltedAt h a steps halt.step (halted.at ∷ halted.beyond)
    on at = record {
      held = at.held;
      ahead = at.ahead;
      log = before.log ++ at.upto.log;
      wire = logged_both h halted.held at.held a halted.ahead at.ahead before.log at.upto.log before.wire at.upto.wire;
      begun = record {
        front = halted.done;
        rest = halted.rest;
        those = halted.those;
        number = halted.number;
        form = halted.row.form;
        done = before.log;
        begun = at.upto.log;
        joined = refl;
        logged = before.is;
        last = at.upto.is;
      };
    }

    by : StopsWithin (wire halted.held halted.ahead) (wire i b) limits turns halt.why halted.at halted.beyond
        ⊎ CutsRow (wire halted.held halted.ahead) (wire i b) limits turns halt.why (halted.at ∷ halted.beyond)
        → HaltedAt h a steps halt.step (halted.at ∷ halted.beyond)
    by (inl within) = on (stopped_logged halted.held within.held halted.ahead b limits turns halt.why halted.at within.stopped)
    by (inr cut) =
        let first = cut.ahead.asked in
        on (at_once halted.held halted.ahead (IsBegun halted.at) (not_yet limits cut.ahead.reads halted.at first.0 first.3))

pub halt_is_logged : HaltIsLogged
halt_is_logged h i a b limits turns steps halt halted =
    let at = halt_logged h i a b limits turns steps halt halted in (at.held, at.ahead, at.log, at.wire, at.begun)

-- planned work does the task, so the loop closes
pub device_closes : PlannedDoesTask → ToldLoopCloses → LoopIsExplained → DeviceCloses
device_closes does closes shown h i j a b c limits turns w k content doing whole there twice did =
    let all = all_logged i j b c limits turns w.steps did in
    let joined = append_assoc twice.first twice.again all.log in record {
      log = twice.first ++ (twice.again ++ all.log);
      wire = subst (HasLogged (wire h a) (wire j c)) joined (logged_both h i j a b c (twice.first ++ twice.again) all.log twice.wire all.wire);
      every = closes w.m w.start k w.goal w.steps twice.first twice.again all.log twice.reads.tells twice.rereads.tells
          (λ held its has.
          let by = doing held its has in does w.m w.start w.verify held (w.goal held) w.steps by.workable by.planned) all.is;
      some =
          let one = shown w k content twice.first twice.again all.log doing twice.reads twice.rereads all.is whole there in
          (one.0, content, one.1, one.2);
    }

pub device_breaks : LoopBreaks → DeviceBreaks
device_breaks breaks h i j a b c limits turns w k halt doing twice halted =
    let at = halt_logged i j b c limits turns w.steps halt halted in
    let joined = append_assoc twice.first twice.again at.log in record {
      held = at.held;
      ahead = at.ahead;
      log = twice.first ++ (twice.again ++ at.log);
      wire = subst (HasLogged (wire h a) (wire at.held at.ahead)) joined (logged_both h i at.held a b at.ahead (twice.first ++ twice.again) at.log twice.wire at.wire);
      every = λ reads.
          breaks w k twice.first twice.again at.log halt.step (halted.at ∷ halted.beyond) reads doing twice.reads twice.rereads at.begun;
    }
