-- The windows of a content, one after another.
use Rattle.std.proofs.Common.{◌≡◌, ℕ, ◌+◌, ◌%◌, ◌<◌, ◌≤◌, List, [], ◌++◌, length, take, Option, refl, sym, ◌∙◌, ap, subst, arith, inl, inr, length-append}
use Rattle.std.specs.Io.KnownBytes.{Appends}
use Rattle.std.proofs.lemmas.List.{append-nil, take_all}
use Rattle.std.proofs.Math.Nat.{zero-mod}
use Rattle.std.proofs.Math.Seq.{take-append_seam}
use Rattle.std.proofs.lemmas.List.Sums.{sum_by-append}
use Rattle.nor_base.specs.Device.{Ahead, Gives}
use Rattle.nor_base.specs.Operations.{Op}
use Rattle.nor_base.specs.Strategies.{strategy}
use Rattle.nor_base.proofs.DeviceLaws.{Appends-append, Appends-none, Gives-append}
use Rattle.nor_geometry.specs.Plan.{IsFault}
use Rattle.nor_geometry.specs.Window.{IsWindowSize}
use Rattle.nor_job.specs.declared.fault.BuildFault.{BuildFault}
use Rattle.nor_job.specs.declared.fault.BuildFault.TheVariants as fault
use Rattle.nor_job.specs.declared.job.Job.{Job}
use Rattle.nor_select.specs.Streamed.{Streaming, onward}
use Rattle.nor_steps.specs.Stretch.{stretch}
use Rattle.nor_steps.specs.declared.fault.StepsFault.{StepsFault}
use Rattle.nor_steps.specs.declared.fault.StepsFault.TheVariants as steps
use Rattle.nor_steps.specs.declared.tally.Tally.{Tally}
use Rattle.nor_steps.specs.Faults.{IsOfWriting}
use Rattle.nor_steps.specs.Tally.{tally_of, sum_of, nothing_told, IsFew, erases_of, erased_of, programs_of}
use Rattle.nor_steps.specs.Texts.{UnitText, IsTold, WroteText, HasText}
use Rattle.nor_steps.specs.Writing.{Writing, written_on, output}
use Rattle.nor_steps.proofs.OpLemmas.{more_steps, more_on}
use Rattle.nor_steps.proofs.TallyLemmas.{same_tally}
use Rattle.nor_job.specs.Filled.{target_from}
use Rattle.nor_base.specs.Wire.{wire}
use Rattle.norprog.specs.Update.{Update, WorkCause}
use Rattle.norprog.specs.Windows.{first_writing, lifted_steps, progress, window_of, job_update, StopsWindow, IsUndone, IsDone, IsAllDone, AreRecent, BeginsText, IsKnown, IsCut}
use Rattle.nor_job.specs.Written.{AreBytes}
use Rattle.norprog.proofs.Content.Joined.{none_text, text_join, begun_join, text_begins, begun_begins}
use Rattle.norprog.proofs.Content.Places.{IsPlace}
use Rattle.norprog.proofs.Content.Stretches.{work_join, fault_join, work_none}
use Rattle.nor_job.proofs.TargetLemmas.{gives_none, length-target}
use Rattle.norprog.proofs.Content.Targets.{target_of_parts, bytes_of_parts}

-- at the beginning nothing has been read or written
pub none_done : (unit_text : UnitText) (job : Job) (v : Writing) (before : Ahead) (held : Option (List ℕ)) → v ≡ first_writing job
    → IsDone unit_text (window_of job 0 0) (progress (first_writing job) held before) (progress v held before) nothing_told
none_done unit_text job v before held is = record {
  part = [];
  size = refl;
  given = gives_none before;
  bytes = λ k. omega arith;
  wrote = record {
    steps = record {
      ops = [];
      work = work_none (first_writing job);
      state = is;
      its_tally = refl;
      few = record { steps = omega arith; erases = omega arith; erased = omega arith; programs = omega arith };
    };
    these = [];
    is = none_text unit_text (first_writing job);
    put = Appends-none held;
  };
}

-- what two parts tell together
tally_join : (s : Streaming) (p q : List Op) (one other : Tally) → one ≡ tally_of s p → other ≡ tally_of (onward s p) q → sum_of one other ≡ tally_of s (p ++ q)
tally_join s p q one other first second =
    ap (λ (t : Tally). sum_of t other) first ∙ ap (λ (t : Tally). sum_of (tally_of s p) t) second
    ∙ same_tally _ _ _ _ _ _ _ _ (sym (more_steps s p q)) (sym (sum_by-append erases_of p q)) (sym (sum_by-append erased_of p q)) (sym (sum_by-append programs_of p q))

pub few_join : (n k : ℕ) (one other : Tally) → IsFew n one → IsFew k other → IsFew (n + k) (sum_of one other)
few_join n k one other first second = record {
  steps = omega (arith, first.steps, second.steps);
  erases = omega (arith, first.erases, second.erases);
  erased = omega (arith, first.erased, second.erased);
  programs = omega (arith, first.programs, second.programs);
}

-- the steps of two parts
pub steps_join : (w v u : Writing) (at : ℕ) (xs ys txs tys : List ℕ) (told more : Tally) → 0 < w.streaming.meaning.page → at % w.streaming.meaning.page ≡ 0
    → length xs ≡ at → length txs ≡ at → IsTold w v (stretch 0 xs txs) told → IsTold v u (stretch at ys tys) more
    → IsTold w u (stretch 0 (xs ++ ys) (txs ++ tys)) (sum_of told more)
steps_join w v u at xs ys txs tys told more some whole upto upto' first second = record {
  ops = first.ops ++ second.ops;
  work = work_join w v at xs ys txs tys first.ops second.ops some whole upto upto' first.state first.work second.work;
  state = second.state ∙ ap (λ (t : Writing). written_on t second.ops) first.state ∙ more_on w first.ops second.ops;
  its_tally = tally_join w.streaming first.ops second.ops told more first.its_tally (second.its_tally ∙ ap (λ (t : Writing). tally_of t.streaming second.ops) first.state);
  few = subst (λ n. IsFew n (sum_of told more)) (sym (length-append xs ys)) (few_join (length xs) (length ys) told more first.few second.few);
}

-- what was done up to an address, and then a window
pub done_then : (unit_text : UnitText) (job : Job) (v u : Writing) (at n window : ℕ) (a b c : Ahead) (x y z : Option (List ℕ)) (told more : Tally) → IsPlace job.meaning window at n
    → IsDone unit_text (window_of job 0 at) (progress (first_writing job) x a) (progress v y b) told → IsDone unit_text (window_of job at n) (progress v y b) (progress u z c) more
    → IsDone unit_text (window_of job 0 (at + n)) (progress (first_writing job) x a) (progress u z c) (sum_of told more)
unfolding steps_join
done_then unit_text job v u at n window a b c x y z told more place done next =
    let w = first_writing job in
    let xs = done.part in
    let ys = next.part in
    let txs = target_from job 0 xs in
    let tys = target_from job at ys in
    let first = done.wrote in
    let second = next.wrote in
    let goal = target_of_parts job 0 at xs ys (omega (arith, done.size)) in
    let upto' : length txs ≡ at = length-target job 0 xs ∙ done.size in
    record {
      part = xs ++ ys;
      size = omega (arith, length-append xs ys, done.size, next.size);
      given = Gives-append a b c xs ys done.given next.given;
      bytes = subst AreBytes (sym goal) (bytes_of_parts txs tys done.bytes next.bytes);
      wrote = subst (λ (goal : List ℕ). WroteText unit_text (output w x) (output u z) (stretch 0 (xs ++ ys) goal) (sum_of told more)) (sym goal) (record {
        steps = steps_join w v u at xs ys txs tys told more place.page place.pages done.size upto' first.steps second.steps;
        these = first.these ++ second.these;
        is = text_join unit_text w v at xs ys txs tys first.steps.ops first.these second.these place.page place.pages done.size upto' first.steps.state first.steps.work first.is second.is;
        put = Appends-append x y z first.these second.these first.put second.put;
      });
    }

-- what was done, and then nothing more was written
cut_between : (unit_text : UnitText) (job : Job) (v : Writing) (at n window : ℕ) (a b c : Ahead) (x y z : Option (List ℕ)) (told : Tally) (ys : List ℕ) (why : BuildFault)
    → IsPlace job.meaning window at n → length ys ≤ n → (done : IsDone unit_text (window_of job 0 at) (progress (first_writing job) x a) (progress v y b) told) → Gives b ys c × Appends y z []
    → WorkCause (job_update job (done.part ++ ys)) c why → AreRecent job.meaning.size window at (at + length ys) why → IsCut (IsKnown unit_text job) job (wire x a) (wire z c) why
cut_between unit_text job v at n window a b c x y z told ys why place size done next cause recent =
    let w = first_writing job in
    let xs = done.part in
    let first = done.wrote in
    let count : at + length ys ≡ length (xs ++ ys) = omega (arith, length-append xs ys, done.size) in
    let front : take at (xs ++ ys) ≡ xs = ap (λ k. take k (xs ++ ys)) (sym done.size) ∙ take-append_seam xs ys in
    record {
      part = xs ++ ys;
      within = omega (arith, count, size, place.inside);
      given = Gives-append a b c xs ys done.given next.0;
      cause = cause;
      window = window;
      its_size = place.window;
      known = at;
      windows = record { within = omega (arith, count); whole = λ less. place.here; recent = subst (λ k. AreRecent job.meaning.size window at k why) count recent };
      bytes = first.these;
      front = subst (λ (part : List ℕ). IsKnown unit_text job part first.these why) (sym front)
          (record { bytes = done.bytes; begun = text_begins unit_text w xs (target_from job 0 xs) first.these why first.is });
      put = subst (Appends x z) (append-nil first.these) (Appends-append x y z first.these [] first.put next.1);
    }

-- or some of the window's text was
cut_within : (unit_text : UnitText) (job : Job) (v : Writing) (at n window : ℕ) (a b c : Ahead) (x y z : Option (List ℕ)) (told : Tally) (ys : List ℕ) (why : StepsFault)
    → IsPlace job.meaning window at n → length ys ≡ n → AreBytes (target_from job at ys) → (done : IsDone unit_text (window_of job 0 at) (progress (first_writing job) x a) (progress v y b) told) → Gives b ys c
    → HasText unit_text v y z (stretch at ys (target_from job at ys)) → IsOfWriting why → WorkCause (job_update job (done.part ++ ys)) c (lifted_steps why)
    → AreRecent job.meaning.size window (at + n) (at + n) (lifted_steps why) → IsCut (IsKnown unit_text job) job (wire x a) (wire z c) (lifted_steps why)
cut_within unit_text job v at n window a b c x y z told ys why place size small done given has of cause recent =
    let w = first_writing job in
    let xs = done.part in
    let txs = target_from job 0 xs in
    let tys = target_from job at ys in
    let first = done.wrote in
    let text = first.these ++ has.front in
    let count : at + n ≡ length (xs ++ ys) = omega (arith, length-append xs ys, done.size, size) in
    let goal = target_of_parts job 0 at xs ys (omega (arith, done.size)) in
    let all : take (at + n) (xs ++ ys) ≡ xs ++ ys = take_all (at + n) (xs ++ ys) (omega (arith, count)) in
    let begun = begun_join unit_text w v at xs ys txs tys first.steps.ops first.these has.front place.page place.pages done.size (length-target job 0 xs ∙ done.size) first.steps.state
    first.steps.work first.is has.begun in
    record {
      part = xs ++ ys;
      within = omega (arith, count, place.inside);
      given = Gives-append a b c xs ys done.given given;
      cause = cause;
      window = window;
      its_size = place.window;
      known = at + n;
      windows = record {
        within = omega (arith, count);
        whole = place.aligned;
        recent = subst (λ k. AreRecent job.meaning.size window (at + n) k (lifted_steps why)) count recent;
      };
      bytes = text;
      front = subst (λ (part : List ℕ). IsKnown unit_text job part text (lifted_steps why)) (sym all) (record {
        bytes = subst AreBytes (sym goal) (bytes_of_parts txs tys done.bytes small);
        begun = subst (λ (goal : List ℕ). BeginsText unit_text w (stretch 0 (xs ++ ys) goal) text (lifted_steps why)) (sym goal)
            (begun_begins unit_text w (xs ++ ys) (txs ++ tys) text why of begun);
      });
      put = Appends-append x y z first.these has.front first.put has.put;
    }

-- a window that was read, and ended early
pub ended : (unit_text : UnitText) (job : Job) (w : Writing) (at count : ℕ) (before after : Ahead) (x y : Option (List ℕ)) (why : StepsFault)
    → IsUndone unit_text (window_of job at count) (progress w x before) (wire y after) why → StopsWindow unit_text (window_of job at count) (progress w x before) (wire y after) (lifted_steps why)
ended unit_text job w at count before after x y (steps.Plan why) is = is
ended unit_text job w at count before after x y steps.Write is = is
ended unit_text job w at count before after x y steps.Memory is = is

-- what was done up to an address, and then it ended early
pub done_then_cut : (unit_text : UnitText) (job : Job) (v : Writing) (at n window : ℕ) (a b c : Ahead) (x y z : Option (List ℕ)) (told : Tally) (why : BuildFault)
    → IsPlace job.meaning window at n → IsDone unit_text (window_of job 0 at) (progress (first_writing job) x a) (progress v y b) told → StopsWindow unit_text (window_of job at n) (progress v y b) (wire z c) why
    → IsCut (IsKnown unit_text job) job (wire x a) (wire z c) why
done_then_cut unit_text job v at n window a b c x y z told fault.ContentShort place done stops =
    let unread = stops.0 in
    cut_between unit_text job v at n window a b c x y z told unread.part fault.ContentShort place (omega (arith, unread.few)) done (unread.given, unread.put)
    (omega (arith, length-append done.part unread.part, done.size, unread.few, place.inside), stops.1) (omega (arith, unread.few, place.upto))
done_then_cut unit_text job v at n window a b c x y z told fault.Read place done unread =
    cut_between unit_text job v at n window a b c x y z told unread.part fault.Read place (omega (arith, unread.few)) done (unread.given, unread.put) tt
    (omega (arith, unread.few, place.upto))
done_then_cut unit_text job v at n window a b c x y z told (fault.Plan why) place done stops =
    let w = first_writing job in
    let xs = done.part in
    let ys = stops.part in
    let first = done.wrote.steps in
    let goal = target_of_parts job 0 at xs ys (omega (arith, done.size)) in
    cut_between unit_text job v at n window a b c x y z told ys (fault.Plan why) place (omega (arith, stops.size)) done (stops.given, stops.stops.1)
    (subst (λ (goal : List ℕ). IsFault job.meaning (strategy job.meaning job.start) 0 (xs ++ ys) goal why) (sym goal)
    (fault_join w v at xs ys (target_from job 0 xs) (target_from job at ys) first.ops why done.size (length-target job 0 xs ∙ done.size) first.state first.work stops.stops.0))
    (omega (arith, stops.size, place.some), omega (arith, stops.size, place.upto))
done_then_cut unit_text job v at n window a b c x y z told fault.Write place done stops =
    cut_within unit_text job v at n window a b c x y z told stops.part steps.Write place stops.size stops.bytes done stops.given stops.stops tt tt refl
done_then_cut unit_text job v at n window a b c x y z told fault.Memory place done stops = elim stops.stops [
  | inl has ↦ cut_within unit_text job v at n window a b c x y z told stops.part steps.Memory place stops.size stops.bytes done stops.given has tt tt (inl refl)
  | inr put ↦ cut_between unit_text job v at n window a b c x y z told stops.part fault.Memory place (omega (arith, stops.size)) done (stops.given, put) tt
      (inr (omega (arith, stops.size, place.upto)))
]
done_then_cut unit_text job v at n window a b c x y z told other place done stops = absurd stops

of_writing : (u : Update) (after : Ahead) (why : StepsFault) → IsOfWriting why → WorkCause u after (lifted_steps why)
of_writing u after steps.Write is = tt
of_writing u after steps.Memory is = tt
of_writing u after (steps.Plan why) is = absurd is

recent_none : (size window read : ℕ) (why : StepsFault) → IsOfWriting why → AreRecent size window read read (lifted_steps why)
recent_none size window read steps.Write is = refl
recent_none size window read steps.Memory is = inl refl
recent_none size window read (steps.Plan why) is = absurd is

-- it ended before anything was read
pub cut_before : (IsFront : List ℕ → List ℕ → BuildFault → Type 0) (job : Job) (window : ℕ) (a : Ahead) (x y : Option (List ℕ)) (bytes : List ℕ) (why : StepsFault)
    → IsWindowSize job.meaning window → IsOfWriting why → IsFront [] bytes (lifted_steps why) → Appends x y bytes → IsCut IsFront job (wire x a) (wire y a) (lifted_steps why)
cut_before IsFront job window a x y bytes why size of front put = record {
  part = [];
  within = omega arith;
  given = gives_none a;
  cause = of_writing (job_update job []) a why of;
  window = window;
  its_size = size;
  known = 0;
  windows = record { within = omega arith; whole = λ some. zero-mod window; recent = recent_none job.meaning.size window 0 why of };
  bytes = bytes;
  front = front;
  put = put;
}

-- nor was anything written
pub none_cut : (unit_text : UnitText) (job : Job) (window : ℕ) (a : Ahead) (x : Option (List ℕ)) → IsWindowSize job.meaning window → IsCut (IsKnown unit_text job) job (wire x a) (wire x a) fault.Memory
none_cut unit_text job window a x size =
    let w = first_writing job in
    cut_before (IsKnown unit_text job) job window a x x [] steps.Memory size tt
    (record { bytes = λ k. omega arith; begun = text_begins unit_text w [] [] [] fault.Memory (none_text unit_text w) }) (Appends-none x)

-- it ended after all windows
pub cut_after : (IsFront : List ℕ → List ℕ → BuildFault → Type 0) (unit_text : UnitText) (job : Job) (v : Writing) (window : ℕ) (a b : Ahead) (x y s t : Option (List ℕ)) (told : Tally)
    (bytes : List ℕ) (why : StepsFault) → IsWindowSize job.meaning window → (done : IsAllDone unit_text job (wire x a) (progress v y b) told) → IsOfWriting why
    → IsFront done.part bytes (lifted_steps why) → Appends s t bytes → IsCut IsFront job (wire s a) (wire t b) (lifted_steps why)
cut_after IsFront unit_text job v window a b x y s t told bytes why size done of front put =
    let read = length done.part in
    record {
      part = done.part;
      within = omega (arith, done.size);
      given = done.given;
      cause = of_writing (job_update job done.part) b why of;
      window = window;
      its_size = size;
      known = read;
      windows = record { within = omega arith; whole = λ less. absurd (omega (arith, less, done.size)); recent = recent_none job.meaning.size window read why of };
      bytes = bytes;
      front = subst (λ (known : List ℕ). IsFront known bytes (lifted_steps why)) (sym (take_all read done.part (omega arith))) front;
      put = put;
    }
