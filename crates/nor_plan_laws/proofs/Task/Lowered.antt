-- The instructions of operations, whatever the strategy: the mode that it needs is entered before them and left after.
use Rattle.std.proofs.Common.{◌≡◌, ℕ, Bool, true, false, ◌&&◌, if◌then◌else◌, List, [], ◌∷◌, ◌++◌, refl, sym, subst, append-nil}
use Rattle.std.specs.Prelude.{nat_le, flat_map}
use Rattle.std.specs.List.{AllByRecursion}
use Rattle.std.proofs.lemmas.Bool.{and_parts}
use Rattle.nor_base.specs.declared.meaning.Start.{Start}
use Rattle.nor_base.specs.declared.meaning.Strategy.{Strategy}
use Rattle.nor_base.specs.declared.meaning.Strategy.TheVariants.{S1, S2, S3, S4, S5}
use Rattle.nor_base.specs.declared.step.Step.{Step}
use Rattle.nor_base.specs.Parameters.{Parameters}
use Rattle.nor_base.specs.Instructions.{is_there}
use Rattle.nor_base.specs.Chip.{Setting, Chip, begins4, first_mode4, is_mode, is_settled, resting, ready}
use Rattle.nor_base.specs.Run.{trail, DoesTask}
use Rattle.nor_base.specs.Strategies.{strategy, are_dedicated}
use Rattle.nor_base.specs.Spelling.{Instr, AreStepsOf}
use Rattle.nor_base.specs.Operations.{Op, instructions, entering, leaving, lowered}
use Rattle.nor_plan_laws.proofs.Task.Steps.{Leads, leads_none, leads_then, leads_runs}
use Rattle.nor_plan_laws.proofs.Task.Taken.{enters, leaves}
use Rattle.nor_plan_laws.proofs.Task.Ops.{Chain, ops_move}

-- a chip that is driven by entering four-byte mode doesn't begin in it, and can enter and leave it
pub record Switches (m : Parameters) (start : Start) : Type 0 where
  pub begins : begins4 m start ≡ false
  pub enters : is_there m.enter ≡ true
  pub leaves : is_there m.leave ≡ true

switches_by : (m : Parameters) (start : Start) (a b c d : Bool) → begins4 m start ≡ a → is_there m.enter && is_there m.leave ≡ d
    → (if a then S1 else if b then S2 else if c then S3 else if d then S4 else S5) ≡ S4 → Switches m start
switches_by m start true b c d begins there is = cc
switches_by m start false true c d begins there is = cc
switches_by m start false false true d begins there is = cc
switches_by m start false false false true begins there is = let both = and_parts (is_there m.enter) (is_there m.leave) there in
    record { begins = begins; enters = both.0; leaves = both.1 }
switches_by m start false false false false begins there is = cc

pub switches : (m : Parameters) (start : Start) → strategy m start ≡ S4 → Switches m start
unfolding strategy
switches m start is = switches_by m start (begins4 m start) (nat_le m.size 0x1000000) (m.program4 && (m.read4 && are_dedicated m 0 m.regions))
    (is_there m.enter && is_there m.leave) refl refl is

-- from the first mode back to it
record Returns (P : List ℕ → Type 0) (s : Setting) (a : List ℕ) (these : List Instr) (b : List ℕ) : Type 0 where
  after : List ℕ
  leads : Leads P s (ready s a) these (resting (first_mode4 s) b after)

-- in the first mode all along
stays : (P : List ℕ → Type 0) (s : Setting) (by : Strategy) (a b : List ℕ) (ops : List Op) → Chain P s.meaning s.page a ops b
    → Returns P s a (flat_map (instructions s.meaning s.start by) ops ++ []) b
stays P s by a b ops chain =
    let moves = ops_move P s by (first_mode4 s) a b ops chain in record {
      after = moves.after s.busy;
      leads = subst (λ these. Leads P s (ready s a) these (resting (first_mode4 s) b (moves.after s.busy))) (sym (append-nil (flat_map (instructions s.meaning s.start by) ops)))
          (moves.leads s.busy);
    }

-- there and back
goes_and_returns : (P : List ℕ → Type 0) (s : Setting) (a b : List ℕ) (ops : List Op) → Switches s.meaning s.start → P a → P b → Chain P s.meaning s.page a ops b
    → Returns P s a (entering s.meaning S4 ++ (flat_map (instructions s.meaning s.start S4) ops ++ leaving s.meaning S4)) b
goes_and_returns P s a b ops can before after chain =
    let moves = ops_move P s S4 true a b ops chain in
    let out = enters P s s.meaning.enter (first_mode4 s) a s.busy refl can.enters before in
    let back = leaves P s s.meaning.leave true b (moves.after s.busy) refl can.leaves after in
    let first : false ≡ first_mode4 s = sym can.begins in
    record {
      after = moves.after s.busy;
      leads = leads_then P s (ready s a) (resting true a s.busy) (resting (first_mode4 s) b (moves.after s.busy)) (entering s.meaning S4)
          (flat_map (instructions s.meaning s.start S4) ops ++ leaving s.meaning S4) out
          (leads_then P s (resting true a s.busy) (resting true b (moves.after s.busy)) (resting (first_mode4 s) b (moves.after s.busy))
          (flat_map (instructions s.meaning s.start S4) ops) (leaving s.meaning S4) (moves.leads s.busy)
          (subst (λ mode4. Leads P s (resting true b (moves.after s.busy)) (leaving s.meaning S4) (resting mode4 b (moves.after s.busy))) first back));
    }

returns_by : (P : List ℕ → Type 0) (s : Setting) (by : Strategy) (a b : List ℕ) (op : Op) (ops : List Op) → strategy s.meaning s.start ≡ by → P a → P b
    → Chain P s.meaning s.page a (op ∷ ops) b → Returns P s a (lowered s.meaning s.start by (op ∷ ops)) b
returns_by P s S1 a b op ops is before after chain = stays P s S1 a b (op ∷ ops) chain
returns_by P s S2 a b op ops is before after chain = stays P s S2 a b (op ∷ ops) chain
returns_by P s S3 a b op ops is before after chain = stays P s S3 a b (op ∷ ops) chain
returns_by P s S4 a b op ops is before after chain = goes_and_returns P s a b (op ∷ ops) (switches s.meaning s.start is) before after chain
returns_by P s S5 a b op ops is before after chain = stays P s S5 a b (op ∷ ops) chain

returns : (P : List ℕ → Type 0) (s : Setting) (a b : List ℕ) (ops : List Op) → P a → P b → Chain P s.meaning s.page a ops b
    → Returns P s a (lowered s.meaning s.start (strategy s.meaning s.start) ops) b
returns P s a b [] before after chain = record {
  after = s.busy;
  leads = subst (λ (d : List ℕ). Leads P s (ready s a) [] (resting (first_mode4 s) d s.busy)) chain (leads_none P s (ready s a));
}
returns P s a b (op ∷ ops) before after chain = returns_by P s (strategy s.meaning s.start) a b op ops refl before after chain

-- the steps do the task, and what holds of the array holds after each transaction
pub record Works (P : List ℕ → Type 0) (s : Setting) (a b : List ℕ) (steps : List Step) : Type 0 where
  pub task : DoesTask s a b steps
  pub along : AllByRecursion (λ (e : Chip). P e.array) (trail s (ready s a) steps)

is_mode_same : (b : Bool) → is_mode b b ≡ true
is_mode_same true = refl
is_mode_same false = refl

settled_at_rest : (s : Setting) (array to_come : List ℕ) → is_settled s (resting (first_mode4 s) array to_come) ≡ true
unfolding is_settled
settled_at_rest s array to_come = is_mode_same (first_mode4 s)

pub lowered_works : (P : List ℕ → Type 0) (s : Setting) (a b : List ℕ) (ops : List Op) (steps : List Step) → P a → P b → Chain P s.meaning s.page a ops b
    → AreStepsOf s.meaning (first_mode4 s) (lowered s.meaning s.start (strategy s.meaning s.start) ops) steps → Works P s a b steps
lowered_works P s a b ops steps before after chain are =
    let back = returns P s a b ops before after chain in
    let run = leads_runs P s (ready s a) (resting (first_mode4 s) b back.after) _ steps back.leads are in
    record {
      task = record { final = resting (first_mode4 s) b back.after; good = record { runs = run.runs; settled = settled_at_rest s b back.after }; array = refl };
      along = run.along;
    }
