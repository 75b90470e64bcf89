-- The clocks of a script: those of its operations, and of the mode where there is one.
use Rattle.std.proofs.Common.{◌≡◌, ℕ, ◌+◌, ◌/◌, ◌||◌, Bool, true, false, if◌then◌else◌, List, [], ◌∷◌, ◌++◌, map, Option, Some, None, refl, sym, ◌∙◌, ap, arith}
use Rattle.std.specs.Prelude.{flat_map, sum_by}
use Rattle.std.specs.List.{list_any}
use Rattle.std.proofs.lemmas.List.Folds.{list_any-append}
use Rattle.std.proofs.lemmas.List.Sums.{sum_by-cons, sum_by-append}
use Rattle.nor_base.specs.declared.instruction.What.{What}
use Rattle.nor_base.specs.declared.instruction.What.TheVariants as what
use Rattle.nor_base.specs.declared.meaning.Strategy.{Strategy}
use Rattle.nor_base.specs.declared.meaning.Strategy.TheVariants.{S1, S2, S3, S4, S5}
use Rattle.nor_base.specs.declared.meaning.Switch.{Switch}
use Rattle.nor_base.specs.declared.meaning.Switch.TheVariants.{Absent, Plain, Latched}
use Rattle.nor_base.specs.Parameters.{Parameters}
use Rattle.nor_base.specs.Blocks.{Block}
use Rattle.nor_base.specs.Need.{is_due, levelled}
use Rattle.nor_base.specs.Programs.{Program}
use Rattle.nor_base.specs.Strategies.{strategy}
use Rattle.nor_base.specs.Units.{WorkUnit, units, units_over}
use Rattle.nor_base.specs.Operations.{Op, writes, reads, bare, enable, disable, switching_by, entering, leaving, instructions, lowered, unit_erases, unit_reads, unit_ops}
use Rattle.nor_base.specs.Planned.{planned_units, planned_ops}
use Rattle.nor_select.specs.Streamed.{has_some}
use Rattle.nor_steps.specs.Lines.{steps_of}
use Rattle.nor_plan_laws.specs.Able.{BlocksStay}
use Rattle.nor_plan_laws.specs.Least.{ErasesBlocks}
use Rattle.nor_plan_laws.proofs.Units.Wider.{some_page}
use Rattle.nor_times.specs.Bus.{Doing, steps_clocks, switch_clocks, mode_clocks, is_work, lines_clocks, bus_of}
use Rattle.nor_outline.specs.Outline.{erase_lines, program_line, unit_plan}
use Rattle.nor_times.specs.Law.{BusIsOfScript}
use Rattle.nor_times.proofs.ClockLemmas.{instr_clocks, clocks_are, clocks_steps, op_clocks}
use Rattle.nor_times.proofs.UnitLemmas.{ops_clocks, IsPlan, stretch_clocks}

-- a change of the mode
switch_sum : (w : Switch) (is : What) (op : ℕ) → instr_clocks (bare is op) ≡ 8 → sum_by instr_clocks (switching_by w is op) ≡ switch_clocks w
switch_sum Absent is op one = refl
switch_sum Plain is op one = sum_by-cons instr_clocks (bare is op) [] ∙ ap (λ n. n + 0) one
switch_sum Latched is op one =
    let first = clocks_are enable in
    let last = clocks_are disable in
    let sum = sum_by-cons instr_clocks enable (bare is op ∷ disable ∷ []) in
    let sum' = sum_by-cons instr_clocks (bare is op) (disable ∷ []) in
    let sum'' = sum_by-cons instr_clocks disable [] in
    omega (arith, first, last, one, sum, sum', sum'')

mode_sum : (m : Parameters) (by : Strategy) → sum_by instr_clocks (entering m by) + sum_by instr_clocks (leaving m by) ≡ mode_clocks m by
mode_sum m S1 = refl
mode_sum m S2 = refl
mode_sum m S3 = refl
mode_sum m S4 =
    let enter = switch_sum m.enter what.Enter 0xB7 (clocks_are (bare what.Enter 0xB7)) in
    let leave = switch_sum m.leave what.Leave 0xE9 (clocks_are (bare what.Leave 0xE9)) in
    ap (λ n. n + sum_by instr_clocks (switching_by m.leave what.Leave 0xE9)) enter ∙ ap (λ n. switch_clocks m.enter + n) leave
mode_sum m S5 = refl

-- operations, one after another
flat_sum : (d : Doing) (ops : List Op) → sum_by instr_clocks (flat_map (instructions d.meaning d.start d.by) ops) ≡ ops_clocks d ops
flat_sum d [] = refl
flat_sum d (op ∷ ops) =
    sum_by-append instr_clocks (instructions d.meaning d.start d.by op) (flat_map (instructions d.meaning d.start d.by) ops)
    ∙ ap (λ n. op_clocks d.meaning d.start d.by op + n) (flat_sum d ops) ∙ sym (sum_by-cons (op_clocks d.meaning d.start d.by) op ops)

lowered_clocks : (d : Doing) (ops : List Op)
    → steps_clocks (steps_of (lowered d.meaning d.start d.by ops)) ≡ (if has_some ops then mode_clocks d.meaning d.by else 0) + ops_clocks d ops
lowered_clocks d [] = refl
lowered_clocks d (op ∷ ops) =
    let middle = flat_map (instructions d.meaning d.start d.by) (op ∷ ops) in
    let steps = clocks_steps (lowered d.meaning d.start d.by (op ∷ ops)) in
    let sum = sum_by-append instr_clocks (entering d.meaning d.by) (middle ++ leaving d.meaning d.by) in
    let sum' = sum_by-append instr_clocks middle (leaving d.meaning d.by) in
    let all = flat_sum d (op ∷ ops) in
    let mode = mode_sum d.meaning d.by in
    steps ∙ sum ∙ ap (λ n. sum_by instr_clocks (entering d.meaning d.by) + n) sum'
    ∙ turned (sum_by instr_clocks (entering d.meaning d.by)) (sum_by instr_clocks middle) (sum_by instr_clocks (leaving d.meaning d.by))
    ∙ ap (λ n. n + sum_by instr_clocks middle) mode ∙ ap (λ n. mode_clocks d.meaning d.by + n) all
  where
    turned : (a b c : ℕ) → a + (b + c) ≡ a + c + b
    turned a b c = omega arith

-- a unit's lines report an instruction just where it has an operation
none_read : (v : Bool) (ps : List Program) → ps ≡ [] → has_some (if v then map reads ps else []) ≡ false
none_read true ps none = ap (λ qs. has_some (map reads qs)) none
none_read false ps none = refl

unit_any : (d : Doing) (due : ℕ → Bool) (want : List ℕ) (u : WorkUnit) (e : Option Block) (ps : List Program) → u.programs ≡ ps
    → list_any is_work (erase_lines d.meaning d.by due e ++ map program_line ps)
    ≡ has_some (unit_erases e ++ (map writes ps ++ (if d.verify then unit_reads d.meaning want u e else [])))
unit_any d due want u (Some b) ps are = refl
unit_any d due want u None [] are = sym (none_read d.verify u.programs are)
unit_any d due want u None (p ∷ ps) are = refl

some_append : (xs ys : List Op) → has_some (xs ++ ys) ≡ (has_some xs || has_some ys)
some_append [] ys = refl
some_append (x ∷ xs) ys = refl

units_any : (d : Doing) (due : ℕ → Bool) (want : List ℕ) (us : List WorkUnit)
    → list_any is_work (flat_map (unit_plan d.meaning d.by due) us) ≡ has_some (flat_map (unit_ops d.meaning d.verify want) us)
units_any d due want [] = refl
units_any d due want (u ∷ us) =
    list_any-append is_work (unit_plan d.meaning d.by due u) (flat_map (unit_plan d.meaning d.by due) us)
    ∙ ap (λ b. b || list_any is_work (flat_map (unit_plan d.meaning d.by due) us)) (unit_any d due want u u.erase u.programs refl)
    ∙ ap (λ b. has_some (unit_ops d.meaning d.verify want u) || b) (units_any d due want us)
    ∙ sym (some_append (unit_ops d.meaning d.verify want u) (flat_map (unit_ops d.meaning d.verify want) us))

pub bus_is_of_script : BlocksStay → ErasesBlocks → BusIsOfScript
unfolding bus_of units units_over
bus_is_of_script stay law m start verify have want w =
    let by = strategy m start in
    let due = is_due m have want in
    let d : Doing = record { meaning = m; start = start; by = by; verify = verify } in
    let p : IsPlan d want = record { accepted = w.accepted; some_page = some_page m w.accepted; size = w.want_size; stay = stay; law = law } in
    let us = planned_units m start have want in
    let lines = flat_map (unit_plan m by due) us in
    let walked = stretch_clocks d due (levelled m by due have) want p (m.size / m.page) 0 0 (λ x from upto. absurd (omega (arith, upto))) in
    ap (λ b. (if b then mode_clocks m by else 0) + lines_clocks d 0 lines) (units_any d due want us)
    ∙ ap (λ n. (if has_some (planned_ops m start verify have want) then mode_clocks m by else 0) + n) walked
    ∙ sym (lowered_clocks d (planned_ops m start verify have want))
