-- Steps of planned work fit their kind.
use Rattle.std.proofs.Common.{◌≡◌, ℕ, not, ◌&&◌, Bool, true, false, if◌then◌else◌, List, [], ◌∷◌, ◌++◌, length, refl, sym, ◌∙◌, ap, subst}
use Rattle.std.specs.Prelude.{All, flat_map, is_some}
use Rattle.std.specs.List.{list_all}
use Rattle.std.specs.Option.{option_map_or}
use Rattle.std.proofs.lemmas.Bool.{and_parts}
use Rattle.std.proofs.lemmas.List.Elements.{All-nil, All-cons}
use Rattle.std.proofs.lemmas.List.Folds.{list_all-append}
use Rattle.nor_base.specs.declared.instruction.What.{What}
use Rattle.nor_base.specs.declared.instruction.What.TheVariants as what
use Rattle.nor_base.specs.declared.meaning.Start.{Start}
use Rattle.nor_base.specs.declared.meaning.Strategy.{Strategy}
use Rattle.nor_base.specs.declared.meaning.Strategy.TheVariants.{S4}
use Rattle.nor_base.specs.declared.meaning.Switch.{Switch}
use Rattle.nor_base.specs.declared.meaning.Switch.TheVariants.{Absent, Plain, Latched}
use Rattle.nor_base.specs.declared.step.Step.{Step}
use Rattle.nor_base.specs.Chip.{begins4}
use Rattle.nor_base.specs.Effect.{is_broken}
use Rattle.nor_base.specs.Instructions.{form_of, quad_read_dummies}
use Rattle.nor_base.specs.Operations.{Op, erases, writes, reads, at_address, instructions, programming, reading, switching_by, entering, leaving, lowered, takes_dedicated}
use Rattle.nor_base.specs.Parameters.{Parameters}
use Rattle.nor_base.specs.Planned.{planned, planned_ops}
use Rattle.nor_base.specs.Programs.{Program}
use Rattle.nor_base.specs.Sample.{sampled_count}
use Rattle.nor_base.specs.Spelling.{Instr, Spells, count_to_read, seen, IsSentBy, IsReadBy, IsStepBy, AreStepsOf, mode_after}
use Rattle.nor_base.specs.Strategies.{strategy}
use Rattle.nor_laws.specs.Laws.{AsksSampled}
use Rattle.nor_serprog.specs.Done.{IsDoable}
use Rattle.nor_flasher.specs.Laws.{PlannedIsDoable}

-- an instruction that a chip sees whole
abbrev is_whole : Instr → Bool
is_whole i = not (is_broken i.what)

either : (b : Bool) (x y : Instr) → is_whole x ≡ true → is_whole y ≡ true → is_whole (if b then x else y) ≡ true
either true x y first second = first
either false x y first second = second

program_whole : (m : Parameters) (start : Start) (by : Strategy) (p : Program) → is_whole (programming m start by p) ≡ true
program_whole m start by p =
    either (start.quad && m.quad4) (record { what = what.QuadProgram; op = 0x34; address = p.at; width = 4; dummies = 0; bytes = p.bytes })
    (if start.quad && (m.quad3 && not (takes_dedicated by p.at)) then at_address by what.QuadProgram 0x32 0x34 0 p.at p.bytes
    else at_address by what.Program 0x02 0x12 0 p.at p.bytes) refl
    (either (start.quad && (m.quad3 && not (takes_dedicated by p.at))) (at_address by what.QuadProgram 0x32 0x34 0 p.at p.bytes)
    (at_address by what.Program 0x02 0x12 0 p.at p.bytes) refl refl)

read_whole : (m : Parameters) (start : Start) (by : Strategy) (p : Program) → is_whole (reading m start by p) ≡ true
read_whole m start by p =
    either (start.quad && m.quad_read4) (record { what = what.QuadRead; op = 0x6C; address = p.at; width = 4; dummies = quad_read_dummies m; bytes = p.bytes })
    (if start.quad && (is_some m.quad_read && not (takes_dedicated by p.at))
    then at_address by what.QuadRead (option_map_or (λ q. q.op) m.quad_read 0) 0x6C (quad_read_dummies m) p.at p.bytes
    else at_address by what.Read 0x03 0x13 0 p.at p.bytes) refl
    (either (start.quad && (is_some m.quad_read && not (takes_dedicated by p.at)))
    (at_address by what.QuadRead (option_map_or (λ q. q.op) m.quad_read 0) 0x6C (quad_read_dummies m) p.at p.bytes)
    (at_address by what.Read 0x03 0x13 0 p.at p.bytes) refl refl)

op_whole : (m : Parameters) (start : Start) (by : Strategy) (op : Op) → list_all is_whole (instructions m start by op) ≡ true
op_whole m start by (erases b) = refl
op_whole m start by (writes p) = rw (program_whole m start by p) refl
op_whole m start by (reads p) = rw (read_whole m start by p) refl

both_whole : (xs ys : List Instr) → list_all is_whole xs ≡ true → list_all is_whole ys ≡ true → list_all is_whole (xs ++ ys) ≡ true
both_whole xs ys first second = list_all-append is_whole xs ys ∙ (rw (first, second))

ops_whole : (m : Parameters) (start : Start) (by : Strategy) (ops : List Op) → list_all is_whole (flat_map (instructions m start by) ops) ≡ true
ops_whole m start by [] = refl
ops_whole m start by (op ∷ ops) =
    both_whole (instructions m start by op) (flat_map (instructions m start by) ops) (op_whole m start by op) (ops_whole m start by ops)

enter_whole : (w : Switch) → list_all is_whole (switching_by w what.Enter 0xB7) ≡ true
enter_whole Absent = refl
enter_whole Plain = refl
enter_whole Latched = refl

leave_whole : (w : Switch) → list_all is_whole (switching_by w what.Leave 0xE9) ≡ true
leave_whole Absent = refl
leave_whole Plain = refl
leave_whole Latched = refl

entering_whole : (m : Parameters) (by : Strategy) → list_all is_whole (entering m by) ≡ true
entering_whole m S4 = enter_whole m.enter
entering_whole m other = refl

leaving_whole : (m : Parameters) (by : Strategy) → list_all is_whole (leaving m by) ≡ true
leaving_whole m S4 = leave_whole m.leave
leaving_whole m other = refl

lowered_whole : (m : Parameters) (start : Start) (by : Strategy) (ops : List Op) → list_all is_whole (lowered m start by ops) ≡ true
lowered_whole m start by [] = refl
lowered_whole m start by (op ∷ ops) =
    both_whole (entering m by) (flat_map (instructions m start by) (op ∷ ops) ++ leaving m by) (entering_whole m by)
    (both_whole (flat_map (instructions m start by) (op ∷ ops)) (leaving m by) (ops_whole m start by (op ∷ ops)) (leaving_whole m by))

-- the clocks sample as many bytes as the instruction reads
samples_as : AsksSampled → (m : Parameters) (mode4 : Bool) (i : Instr) (clocks : List ℕ) (w : What) → i.what ≡ w → is_broken w ≡ false
    → Spells m mode4 i clocks → count_to_read (form_of w) i.bytes ≡ sampled_count clocks
samples_as asks m mode4 i clocks w is whole spelled =
    sym (ap (λ (v : What). count_to_read (form_of v) i.bytes) is) ∙ asks m mode4 clocks (seen i) spelled.decodes (ap is_broken is ∙ whole)

sent_doable : AsksSampled → (m : Parameters) (mode4 : Bool) (i : Instr) (w : What) (x : Step) → i.what ≡ w → is_broken w ≡ false
    → count_to_read (form_of w) i.bytes ≡ 0 → IsSentBy m mode4 i x → IsDoable x
sent_doable asks m mode4 i w x is whole none by =
    subst IsDoable (sym by.sent) (sym (samples_as asks m mode4 i by.clocks w is whole by.spelled) ∙ none)

read_doable : AsksSampled → (m : Parameters) (mode4 : Bool) (i : Instr) (w : What) (x : Step) → i.what ≡ w → is_broken w ≡ false
    → count_to_read (form_of w) i.bytes ≡ length i.bytes → IsReadBy m mode4 i x → IsDoable x
read_doable asks m mode4 i w x is whole all by =
    subst IsDoable (sym by.read) (sym all ∙ samples_as asks m mode4 i by.clocks w is whole by.spelled)

step_doable : AsksSampled → (m : Parameters) (mode4 : Bool) (i : Instr) (w : What) (x : Step) → i.what ≡ w → is_broken w ≡ false
    → IsStepBy m mode4 i w x → IsDoable x
step_doable asks m mode4 i what.Status x is whole by = subst IsDoable (sym by) refl
step_doable asks m mode4 i what.Read x is whole by = read_doable asks m mode4 i what.Read x is whole refl by
step_doable asks m mode4 i what.QuadRead x is whole by = read_doable asks m mode4 i what.QuadRead x is whole refl by
step_doable asks m mode4 i what.Enable x is whole by = sent_doable asks m mode4 i what.Enable x is whole refl by
step_doable asks m mode4 i what.Disable x is whole by = sent_doable asks m mode4 i what.Disable x is whole refl by
step_doable asks m mode4 i what.Enter x is whole by = sent_doable asks m mode4 i what.Enter x is whole refl by
step_doable asks m mode4 i what.Leave x is whole by = sent_doable asks m mode4 i what.Leave x is whole refl by
step_doable asks m mode4 i (what.Erase kind) x is whole by = sent_doable asks m mode4 i (what.Erase kind) x is whole refl by
step_doable asks m mode4 i what.Program x is whole by = sent_doable asks m mode4 i what.Program x is whole refl by
step_doable asks m mode4 i what.QuadProgram x is whole by = sent_doable asks m mode4 i what.QuadProgram x is whole refl by
step_doable asks m mode4 i what.Broken x is whole by = sent_doable asks m mode4 i what.Broken x is whole refl by

not_true : (b : Bool) → not b ≡ true → b ≡ false
not_true true h = cc
not_true false h = refl

steps_doable : AsksSampled → (m : Parameters) (mode4 : Bool) (is : List Instr) (steps : List Step) → list_all is_whole is ≡ true → AreStepsOf m mode4 is steps
    → All IsDoable steps
steps_doable asks m mode4 [] [] whole those = All-nil IsDoable
steps_doable asks m mode4 [] (x ∷ xs) whole those = absurd those
steps_doable asks m mode4 (i ∷ more) [] whole those = absurd those
steps_doable asks m mode4 (i ∷ more) (x ∷ xs) whole those =
    let parts = and_parts (is_whole i) (list_all is_whole more) whole in
    All-cons IsDoable x xs (step_doable asks m mode4 i i.what x refl (not_true (is_broken i.what) parts.0) those.0)
    (steps_doable asks m (mode_after i.what mode4) more xs parts.1 those.1)

pub planned_is_doable : AsksSampled → PlannedIsDoable
planned_is_doable asks m start verify have want steps those =
    steps_doable asks m (begins4 m start) (planned m start verify have want) steps
    (lowered_whole m start (strategy m start) (planned_ops m start verify have want)) those
