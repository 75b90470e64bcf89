-- A run with a bound on polls above what is left busy is the run.
use Rattle.std.proofs.Common.{◌≡◌, ℕ, zero, suc, pred, ◌+◌, ◌<◌, Bool, true, false, if◌then◌else◌, List, [], ◌∷◌, drop, Option, Some, None, Result, Ok, Err, refl, sym, ◌∙◌, ap, subst, arith, get_or-drop}
use Rattle.std.specs.List.{slice_index}
use Rattle.std.specs.Str.{bytes_eq}
use Rattle.nor_base.specs.declared.instruction.What.{What}
use Rattle.nor_base.specs.declared.instruction.What.TheVariants as what
use Rattle.nor_base.specs.declared.step.Step.{Step}
use Rattle.nor_base.specs.declared.step.Step.TheVariants.{Send, Poll, Verify}
use Rattle.nor_base.specs.declared.wrong.Wrong.{Wrong}
use Rattle.nor_base.specs.declared.wrong.Wrong.TheVariants as wrong
use Rattle.nor_base.specs.Decoding.{Instruction, decode}
use Rattle.nor_base.specs.Chip.{Setting, Chip}
use Rattle.nor_base.specs.Effect.{after, effect_if, effect}
use Rattle.nor_base.specs.Run.{poll_clocks, polled, is_verify, done, matched, step, go_on, one_later, run, Halt, halt_on, poll_or_halt, polled_for, step_for, play_on, played}
use Rattle.nor_laws.specs.Laws.{IsBelow}
use Rattle.nor_laws.proofs.EffectLaws.{taken}
use Rattle.nor_laws.proofs.PollLaws.{read_busy, read_idle, poll_ends, left_with}

-- what the next of the busy times is below, so are the others
later_below : (times : List ℕ) (limit n : ℕ) → ((k : ℕ) → slice_index times k < limit) → slice_index (drop 1 times) n < limit
later_below times limit n below = subst (λ t. t < limit) (sym (get_or-drop 1 times n 0)) (below (1 + n))

after_below : (s : Setting) (c : Chip) (i : Instruction) (w : What) (limit : ℕ) → IsBelow limit c → IsBelow limit (after s c i w)
unfolding after
after_below s c i what.Enable limit below = record { left = below.left; to_come = below.to_come }
after_below s c i what.Disable limit below = record { left = below.left; to_come = below.to_come }
after_below s c i what.Status limit below = record { left = one_fewer c.left limit below.left; to_come = below.to_come }
  where
    one_fewer : (n limit : ℕ) → n < limit → pred n < limit
    one_fewer zero limit h = h
    one_fewer (suc n) limit h = omega arith
after_below s c i what.Enter limit below = record { left = below.left; to_come = below.to_come }
after_below s c i what.Leave limit below = record { left = below.left; to_come = below.to_come }
after_below s c i (what.Erase kind) limit below = record { left = below.to_come 0; to_come = λ n. later_below c.to_come limit n below.to_come }
after_below s c i what.Program limit below = record { left = below.to_come 0; to_come = λ n. later_below c.to_come limit n below.to_come }
after_below s c i what.QuadProgram limit below = record { left = below.to_come 0; to_come = λ n. later_below c.to_come limit n below.to_come }
after_below s c i what.Read limit below = below
after_below s c i what.QuadRead limit below = below
after_below s c i what.Broken limit below = below

seen_below : (s : Setting) (c d : Chip) (bytes : List ℕ) (seen : Option Instruction) (limit : ℕ) → IsBelow limit c → effect_if s c seen ≡ Ok (d, bytes) → IsBelow limit d
seen_below s c d bytes None limit below h = cc
seen_below s c d bytes (Some i) limit below h = subst (IsBelow limit) (sym (taken s c i d bytes h).chip) (after_below s c i i.what limit below)

effect_below : (s : Setting) (c d : Chip) (clocks bytes : List ℕ) (limit : ℕ) → IsBelow limit c → effect s c clocks ≡ Ok (d, bytes) → IsBelow limit d
unfolding effect
effect_below s c d clocks bytes limit below h = seen_below s c d bytes (decode s.meaning c.mode4 clocks) limit below h

done_below : (s : Setting) (c d : Chip) (clocks : List ℕ) (limit : ℕ) (r : Result (Chip × List ℕ) Wrong) → IsBelow limit c → effect s c clocks ≡ r → done r ≡ Ok d → IsBelow limit d
done_below s c d clocks limit (Err why) below is h = cc
done_below s c d clocks limit (Ok (e, bytes)) below is h = let same : e ≡ d = cc in subst (IsBelow limit) same (effect_below s c e clocks bytes limit below is)

matched_below : (s : Setting) (c d : Chip) (clocks expect : List ℕ) (limit : ℕ) (r : Result (Chip × List ℕ) Wrong) → IsBelow limit c → effect s c clocks ≡ r
    → matched expect r ≡ Ok d → IsBelow limit d
matched_below s c d clocks expect limit (Err why) below is h = cc
matched_below s c d clocks expect limit (Ok (e, bytes)) below is h =
    subst (IsBelow limit) (is_it e (bytes_eq bytes expect) h) (effect_below s c e clocks bytes limit below is)
  where
    is_it : {d : Chip} (e : Chip) (b : Bool) → (if b then Ok e else Err wrong.Mismatch) ≡ Ok d → e ≡ d
    is_it e true h = cc
    is_it e false h = cc

-- a poll with enough turns ends as it would
idle_halts : (c d : Chip) (latch : Bool) (again : Chip → Result Chip Halt) → poll_or_halt c (Ok (d, (if latch then 2 else 0) ∷ [])) again ≡ Ok d
idle_halts c d true again = refl
idle_halts c d false again = refl

ends_for : (s : Setting) (c : Chip) (turns n : ℕ) → n < turns → polled_for s turns (left_with c n) ≡ Ok (left_with c 0)
unfolding polled_for
ends_for s c zero n fits = absurd (omega arith)
ends_for s c (suc turns) zero fits = rw (read_idle s c) (idle_halts (left_with c 0) (left_with c 0) c.latch (polled_for s turns))
ends_for s c (suc turns) (suc n) fits = rw (read_busy s c n) (ends_for s c turns n (omega arith))

poll_same : (s : Setting) (c : Chip) (limit : ℕ) (b : Bool) → c.left < limit
    → (if b then polled_for s limit c else Err (record { why = wrong.Unknown; chip = c })) ≡ halt_on c (if b then polled s (suc c.left) c else Err wrong.Unknown)
poll_same s c limit true fits = ends_for s c limit c.left fits ∙ sym (ap (halt_on c) (poll_ends s c c.left))
poll_same s c limit false fits = refl

step_same : (s : Setting) (c : Chip) (limit : ℕ) (x : Step) → c.left < limit → step_for s limit c x ≡ halt_on c (step s c x)
unfolding step step_for
step_same s c limit (Send clocks) fits = refl
step_same s c limit (Poll clocks) fits = poll_same s c limit (bytes_eq clocks poll_clocks) fits
step_same s c limit (Verify clocks expect) fits = refl

poll_below : (s : Setting) (c d : Chip) (limit : ℕ) (b : Bool) → IsBelow limit c → (if b then polled s (suc c.left) c else Err wrong.Unknown) ≡ Ok d → IsBelow limit d
poll_below s c d limit true below h =
    let ends = poll_ends s c c.left in
    let both : Ok (left_with c 0) ≡ Ok d = sym ends ∙ h in
    let same : left_with c 0 ≡ d = cc in
    let left = below.left in
    subst (IsBelow limit) same (record { left = omega (arith, left); to_come = below.to_come })
poll_below s c d limit false below h = cc

verify_below : (s : Setting) (c d : Chip) (clocks expect : List ℕ) (limit : ℕ) (b : Bool) → IsBelow limit c
    → (if b then matched expect (effect s c clocks) else Err wrong.Unknown) ≡ Ok d → IsBelow limit d
verify_below s c d clocks expect limit true below h = matched_below s c d clocks expect limit (effect s c clocks) below refl h
verify_below s c d clocks expect limit false below h = cc

step_below : (s : Setting) (c d : Chip) (limit : ℕ) (x : Step) → IsBelow limit c → step s c x ≡ Ok d → IsBelow limit d
unfolding step
step_below s c d limit (Send clocks) below h = done_below s c d clocks limit (effect s c clocks) below refl h
step_below s c d limit (Poll clocks) below h = poll_below s c d limit (bytes_eq clocks poll_clocks) below h
step_below s c d limit (Verify clocks expect) below h = verify_below s c d clocks expect limit (is_verify clocks) below h

going_on : (s : Setting) (c : Chip) (limit : ℕ) (xs : List Step) (r : Result Chip Wrong) → ((d : Chip) → r ≡ Ok d → played s limit d xs ≡ run s d xs)
    → play_on (halt_on c r) (λ d. played s limit d xs) ≡ go_on c r (λ d. run s d xs)
going_on s c limit xs (Ok d) later = ap one_later (later d refl)
going_on s c limit xs (Err why) later = refl

pub bounded_is_run : (s : Setting) (limit : ℕ) (c : Chip) (steps : List Step) → IsBelow limit c → played s limit c steps ≡ run s c steps
unfolding played run
bounded_is_run s limit c [] below = refl
bounded_is_run s limit c (x ∷ xs) below =
    ap (λ r. play_on r (λ d. played s limit d xs)) (step_same s c limit x below.left)
    ∙ going_on s c limit xs (step s c x) (λ d is. bounded_is_run s limit d xs (step_below s c d limit x below is))
