-- Steps that a chip takes one after another, and what holds of its array all along.
use Rattle.std.proofs.Common.{◌≡◌, ℕ, Bool, List, [], ◌∷◌, ◌++◌, Ok, Some, refl, sym, ◌∙◌, ap, subst, append_assoc, append-nil}
use Rattle.std.specs.List.{AllByRecursion}
use Rattle.nor_base.specs.declared.step.Step.{Step}
use Rattle.nor_base.specs.declared.step.Step.TheVariants.{Send, Poll}
use Rattle.nor_base.specs.Decoding.{decode}
use Rattle.nor_base.specs.Chip.{Setting, Chip, resting}
use Rattle.nor_base.specs.Effect.{effect}
use Rattle.nor_base.specs.Run.{poll_clocks, done, step, step_trail, go_on, one_later, run, trail}
use Rattle.nor_base.specs.Spelling.{Instr, seen, IsSentBy, IsStepOf, AreStepsOf, mode_after}
use Rattle.nor_laws.proofs.PollLaws.{poll_ends, poll_keeps_array}
use Rattle.nor_base.proofs.ListLaws.{all_append}

-- a chip takes a step, and what holds of the array holds after each of its transactions
pub record Takes (P : List ℕ → Type 0) (s : Setting) (c : Chip) (x : Step) (d : Chip) : Type 0 where
  pub takes : step s c x ≡ Ok d
  pub along : AllByRecursion (λ (e : Chip). P e.array) (step_trail s c x)

-- the same of steps
pub record Runs (P : List ℕ → Type 0) (s : Setting) (c : Chip) (steps : List Step) (d : Chip) : Type 0 where
  pub runs : run s c steps ≡ Ok d
  pub along : AllByRecursion (λ (e : Chip). P e.array) (trail s c steps)

pub runs_none : (P : List ℕ → Type 0) (s : Setting) (c : Chip) → Runs P s c [] c
unfolding run trail
runs_none P s c = record { runs = refl; along = tt }

pub runs_then : (P : List ℕ → Type 0) (s : Setting) (c d e : Chip) (x : Step) (xs : List Step) → Takes P s c x d → Runs P s d xs e → Runs P s c (x ∷ xs) e
unfolding run trail
runs_then P s c d e x xs first later = record {
  runs = ap (λ r. go_on c r (λ y. run s y xs)) first.takes ∙ ap one_later later.runs;
  along = all_append (λ (y : Chip). P y.array) (step_trail s c x) _ first.along (rw first.takes later.along);
}

-- instructions lead from a chip to another, whatever steps spell them and whatever follows
abbrev pub Leads : (List ℕ → Type 0) → Setting → Chip → List Instr → Chip → Type 0
Leads P s c these d = (rest : List Instr) (steps : List Step) (e : Chip) → AreStepsOf s.meaning c.mode4 (these ++ rest) steps
    → ((ys : List Step) → AreStepsOf s.meaning d.mode4 rest ys → Runs P s d ys e) → Runs P s c steps e

pub leads_none : (P : List ℕ → Type 0) (s : Setting) (c : Chip) → Leads P s c [] c
leads_none P s c rest steps e are more = more steps are

pub leads_one : (P : List ℕ → Type 0) (s : Setting) (c d : Chip) (i : Instr) → mode_after i.what c.mode4 ≡ d.mode4
    → ((x : Step) → IsStepOf s.meaning c.mode4 i x → Takes P s c x d) → Leads P s c (i ∷ []) d
leads_one P s c d i mode each rest [] e are more = absurd are
leads_one P s c d i mode each rest (x ∷ xs) e are more =
    runs_then P s c d e x xs (each x are.0) (more xs (subst (λ mode4. AreStepsOf s.meaning mode4 rest xs) mode are.1))

pub leads_then : (P : List ℕ → Type 0) (s : Setting) (c d e : Chip) (these those : List Instr) → Leads P s c these d → Leads P s d those e
    → Leads P s c (these ++ those) e
leads_then P s c d e these those first second rest steps f are more =
    first (those ++ rest) steps f (subst (λ all. AreStepsOf s.meaning c.mode4 all steps) (append_assoc these those rest) are)
    (λ ys are'. second rest ys f are' more)

ends_there : (P : List ℕ → Type 0) (s : Setting) (d : Chip) (ys : List Step) → AreStepsOf s.meaning d.mode4 [] ys → Runs P s d ys d
ends_there P s d [] are = runs_none P s d
ends_there P s d (y ∷ ys) are = absurd are

-- the steps of instructions that lead somewhere run there
pub leads_runs : (P : List ℕ → Type 0) (s : Setting) (c d : Chip) (these : List Instr) (steps : List Step) → Leads P s c these d
    → AreStepsOf s.meaning c.mode4 these steps → Runs P s c steps d
leads_runs P s c d these steps leads are =
    leads [] steps d (subst (λ all. AreStepsOf s.meaning c.mode4 all steps) (sym (append-nil these)) are) (ends_there P s d)

-- from an array to another, with any busy times to come, in an address mode
pub record Moves (P : List ℕ → Type 0) (s : Setting) (mode4 : Bool) (a : List ℕ) (these : List Instr) (b : List ℕ) : Type 0 where
  pub after : List ℕ → List ℕ
  pub leads : (t : List ℕ) → Leads P s (resting mode4 a t) these (resting mode4 b (after t))

pub moves_none : (P : List ℕ → Type 0) (s : Setting) (mode4 : Bool) (a : List ℕ) → Moves P s mode4 a [] a
moves_none P s mode4 a = record { after = λ t. t; leads = λ t. leads_none P s (resting mode4 a t) }

pub moves_then : (P : List ℕ → Type 0) (s : Setting) (mode4 : Bool) (a b c : List ℕ) (these those : List Instr) → Moves P s mode4 a these b
    → Moves P s mode4 b those c → Moves P s mode4 a (these ++ those) c
moves_then P s mode4 a b c these those first second = record {
  after = λ t. second.after (first.after t);
  leads = λ t. leads_then P s _ _ _ these those (first.leads t) (second.leads (first.after t));
}

-- a transaction that is sent
takes_sent : (P : List ℕ → Type 0) (s : Setting) (c d : Chip) (clocks bytes : List ℕ) → effect s c clocks ≡ Ok (d, bytes) → P d.array → Takes P s c (Send clocks) d
unfolding step step_trail
takes_sent P s c d clocks bytes sent here = record { takes = ap done sent; along = rw sent (here, tt) }

pub leads_sent : (P : List ℕ → Type 0) (s : Setting) (c d : Chip) (i : Instr) → mode_after i.what c.mode4 ≡ d.mode4
    → ((x : Step) → IsStepOf s.meaning c.mode4 i x → IsSentBy s.meaning c.mode4 i x)
    → ((clocks : List ℕ) → decode s.meaning c.mode4 clocks ≡ Some (seen i) → effect s c clocks ≡ Ok (d, [])) → P d.array → Leads P s c (i ∷ []) d
leads_sent P s c d i mode is_sent taken here = leads_one P s c d i mode (λ x is.
    let sent = is_sent x is in
    subst (λ (y : Step). Takes P s c y d) (sym sent.sent) (takes_sent P s c d sent.clocks [] (taken sent.clocks sent.spelled.decodes) here))

takes_poll : (P : List ℕ → Type 0) (s : Setting) (c : Chip) (n : ℕ) → P c.array → Takes P s (record c { left = n }) (Poll poll_clocks) (record c { left = 0 })
unfolding step step_trail
takes_poll P s c n here = record { takes = poll_ends s c n; along = poll_keeps_array P s c n here }

pub leads_polled : (P : List ℕ → Type 0) (s : Setting) (c : Chip) (n : ℕ) (i : Instr) → ((x : Step) → IsStepOf s.meaning c.mode4 i x → x ≡ Poll poll_clocks)
    → mode_after i.what c.mode4 ≡ c.mode4 → P c.array → Leads P s (record c { left = n }) (i ∷ []) (record c { left = 0 })
leads_polled P s c n i is_poll mode here =
    leads_one P s (record c { left = n }) (record c { left = 0 }) i mode
    (λ x is. subst (λ (y : Step). Takes P s (record c { left = n }) y (record c { left = 0 })) (sym (is_poll x is)) (takes_poll P s c n here))
