-- A play with any limit on polls does what the run does, or waits in vain.
use Rattle.std.proofs.Common.{◌≡◌, ℕ, zero, suc, Bool, true, false, if◌then◌else◌, List, [], ◌∷◌, length, Result, Ok, Err, refl, sym, ◌∙◌, ap, subst}
use Rattle.std.specs.Str.{bytes_eq}
use Rattle.nor_base.specs.declared.step.Step.{Step}
use Rattle.nor_base.specs.declared.step.Step.TheVariants.{Send, Poll, Verify}
use Rattle.nor_base.specs.declared.wrong.Wrong.{Wrong}
use Rattle.nor_base.specs.declared.wrong.Wrong.TheVariants as wrong
use Rattle.nor_base.specs.Chip.{Setting, Chip, is_settled, ready}
use Rattle.nor_base.specs.Effect.{effect}
use Rattle.nor_base.specs.Run.{Stop, Halt, poll_clocks, says_busy, poll_on, polled, done, matched, is_verify, step, one_later, go_on, run, halt_on, poll_or_halt, polled_for, step_for, play_on, played}
use Rattle.nor_laws.specs.Laws.{OneList}
use Rattle.nor_play.specs.Play.{at_end, play}
use Rattle.nor_job.specs.Wanted.{wanted}
use Rattle.norprog_laws.specs.Played.{EndsOrWaits, BuiltPlays}

-- a poll or a step leaves this chip, or a poll runs out of turns
abbrev LeavesOrWaits : Chip → Result Chip Halt → Type 0
LeavesOrWaits d (Ok e) = e ≡ d
LeavesOrWaits d (Err halt) = halt.why ≡ wrong.PollNever

-- so a run
abbrev RunsOrWaits : Chip → Result Chip Stop → Type 0
RunsOrWaits d (Ok e) = e ≡ d
RunsOrWaits d (Err stop) = stop.why ≡ wrong.PollNever

turn_of : (b : Bool) (e d : Chip) (again : Chip → Result Chip Wrong) (again' : Chip → Result Chip Halt)
    → ((f : Chip) → again f ≡ Ok d → LeavesOrWaits d (again' f))
    → (if b then again e else Ok e) ≡ Ok d → LeavesOrWaits d (if b then again' e else Ok e)
turn_of true e d again again' next h = next e h
turn_of false e d again again' next h = cc

turn : (c d : Chip) (r : Result (Chip × List ℕ) Wrong) (again : Chip → Result Chip Wrong) (again' : Chip → Result Chip Halt)
    → ((f : Chip) → again f ≡ Ok d → LeavesOrWaits d (again' f))
    → poll_on r again ≡ Ok d → LeavesOrWaits d (poll_or_halt c r again')
turn c d (Err why) again again' next h = cc
turn c d (Ok after) again again' next h = turn_of (says_busy after.1) after.0 d again again' next h

poll_same : (s : Setting) (turns limit : ℕ) (c d : Chip) → polled s turns c ≡ Ok d → LeavesOrWaits d (polled_for s limit c)
unfolding polled polled_for
poll_same s turns zero c d h = refl
poll_same s zero (suc limit) c d h = cc
poll_same s (suc turns) (suc limit) c d h =
    turn c d (effect s c poll_clocks) (polled s turns) (polled_for s limit) (λ f same. poll_same s turns limit f d same) h

halt_same : (c d : Chip) (r : Result Chip Wrong) → r ≡ Ok d → LeavesOrWaits d (halt_on c r)
halt_same c d (Ok e) h = cc
halt_same c d (Err why) h = cc

poll_step : (s : Setting) (limit : ℕ) (c d : Chip) (b : Bool) → (if b then polled s (suc c.left) c else Err wrong.Unknown) ≡ Ok d
    → LeavesOrWaits d (if b then polled_for s limit c else Err (record { why = wrong.Unknown; chip = c }))
poll_step s limit c d true h = poll_same s (suc c.left) limit c d h
poll_step s limit c d false h = cc

step_same : (s : Setting) (limit : ℕ) (c d : Chip) (x : Step) → step s c x ≡ Ok d → LeavesOrWaits d (step_for s limit c x)
unfolding step step_for
step_same s limit c d (Send clocks) h = halt_same c d (done (effect s c clocks)) h
step_same s limit c d (Poll clocks) h = poll_step s limit c d (bytes_eq clocks poll_clocks) h
step_same s limit c d (Verify clocks expect) h =
    halt_same c d (if is_verify clocks then matched expect (effect s c clocks) else Err wrong.Unknown) h

was_ok : (r : Result Chip Stop) (d : Chip) → one_later r ≡ Ok d → r ≡ Ok d
was_ok (Ok e) d h = h
was_ok (Err stop) d h = cc

later : (d : Chip) (r : Result Chip Stop) → RunsOrWaits d r → RunsOrWaits d (one_later r)
later d (Ok e) p = p
later d (Err stop) p = p

goes_on : (e d : Chip) (r : Result Chip Halt) (rest : Chip → Result Chip Stop) → LeavesOrWaits e r → RunsOrWaits d (rest e) → RunsOrWaits d (play_on r rest)
goes_on e d (Ok f) rest same p = later d (rest f) (subst (λ (g : Chip). RunsOrWaits d (rest g)) (sym same) p)
goes_on e d (Err halt) rest same p = same

first_then : (s : Setting) (limit : ℕ) (c d : Chip) (x : Step) (xs : List Step) (r : Result Chip Wrong) → step s c x ≡ r
    → ((e : Chip) → run s e xs ≡ Ok d → RunsOrWaits d (played s limit e xs))
    → go_on c r (λ e. run s e xs) ≡ Ok d → RunsOrWaits d (play_on (step_for s limit c x) (λ e. played s limit e xs))
first_then s limit c d x xs (Ok e) is next h =
    goes_on e d (step_for s limit c x) (λ e. played s limit e xs) (step_same s limit c e x is) (next e (was_ok (run s e xs) d h))
first_then s limit c d x xs (Err why) is next h = cc

run_same : (s : Setting) (limit : ℕ) (c d : Chip) (steps : List Step) → run s c steps ≡ Ok d → RunsOrWaits d (played s limit c steps)
unfolding run played
run_same s limit c d [] h = cc
run_same s limit c d (x ∷ xs) h = first_then s limit c d x xs (step s c x) refl (λ e same. run_same s limit e d xs same) h

end_same : (s : Setting) (n : ℕ) (d : Chip) (goal : List ℕ) (r : Result Chip Stop) → RunsOrWaits d r → is_settled s d ≡ true → d.array ≡ goal
    → EndsOrWaits goal (at_end s n r)
end_same s n d goal (Ok e) same settled array =
    subst (λ (b : Bool). EndsOrWaits goal (if b then Ok e else Err (record { at = n; why = wrong.NotIdleAtEnd; chip = e })))
    (sym (ap (is_settled s) same ∙ settled)) (ap (λ (f : Chip). f.array) same ∙ array)
end_same s n d goal (Err stop) same settled array = same

pub built_plays : OneList → BuiltPlays
built_plays one t len before after x y wrote steps script =
    let same : steps ≡ wrote.steps = one wrote.text steps wrote.steps script wrote.script in
    let goal = wanted t wrote.image wrote.regions wrote.content in (
      same,
      λ s limit is.
          let task = wrote.task s is in
          subst (λ (l : List Step). EndsOrWaits goal (play s limit (ready s wrote.content) l)) (sym same)
          (end_same s (length wrote.steps) task.final goal (played s limit (ready s wrote.content) wrote.steps)
          (run_same s limit (ready s wrote.content) task.final wrote.steps task.good.runs) task.good.settled task.array),
    )
