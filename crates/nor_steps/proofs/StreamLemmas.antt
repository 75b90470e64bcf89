-- Instructions of operations that come in parts.
use Rattle.std.proofs.Common.{◌≡◌, ℕ, ◌+◌, ◌*◌, ◌≤◌, Bool, true, false, ◌&&◌, not, if◌then◌else◌, List, [], ◌∷◌, ◌++◌, length, refl, sym, ◌∙◌, ap, arith, length-append}
use Rattle.std.specs.Prelude.{flat_map, is_some}
use Rattle.std.specs.List.{AllByRecursion}
use Rattle.std.proofs.lemmas.List.{append_assoc}
use Rattle.std.proofs.lemmas.Grind.{flat_map-append}
use Rattle.nor_base.specs.declared.instruction.What.{What}
use Rattle.nor_base.specs.declared.instruction.What.TheVariants as what
use Rattle.nor_base.specs.declared.meaning.Start.{Start}
use Rattle.nor_base.specs.declared.meaning.Strategy.{Strategy}
use Rattle.nor_base.specs.declared.meaning.Strategy.TheVariants.{S1, S2, S3, S4, S5}
use Rattle.nor_base.specs.declared.meaning.Switch.{Switch}
use Rattle.nor_base.specs.declared.meaning.Switch.TheVariants.{Absent, Plain, Latched}
use Rattle.nor_base.specs.Parameters.{Parameters}
use Rattle.nor_base.specs.Spelling.{Instr}
use Rattle.nor_base.specs.Programs.{Program}
use Rattle.nor_base.specs.Operations.{Op, erases, writes, reads, takes_dedicated, legacy_width, programming, reading, instructions, switching_by, entering, leaving}
use Rattle.nor_select.specs.Streamed.{Streaming, entered, next, last, onward}
use Rattle.nor_base.proofs.ListLaws.{all_append}

abbrev IsThin : Instr → Type 0
IsThin i = i.width ≤ 4

thin_width : (by : Strategy) → legacy_width by ≤ 4
thin_width S1 = omega arith
thin_width S2 = omega arith
thin_width S3 = omega arith
thin_width S4 = omega arith
thin_width S5 = omega arith

thin_by : (b : Bool) (by : Strategy) → (if b then 4 else legacy_width by) ≤ 4
thin_by true by = omega arith
thin_by false by = thin_width by

thin_if : (b : Bool) (x y : Instr) → IsThin x → IsThin y → IsThin (if b then x else y)
thin_if true x y p q = p
thin_if false x y p q = q

thin_programming : (m : Parameters) (start : Start) (by : Strategy) (p : Program) → IsThin (programming m start by p)
thin_programming m start by p =
    thin_if (start.quad && m.quad4) _ _ (omega arith)
    (thin_if (start.quad && (m.quad3 && not (takes_dedicated by p.at))) _ _ (thin_by (takes_dedicated by p.at) by) (thin_by (takes_dedicated by p.at) by))

thin_reading : (m : Parameters) (start : Start) (by : Strategy) (p : Program) → IsThin (reading m start by p)
thin_reading m start by p =
    thin_if (start.quad && m.quad_read4) _ _ (omega arith)
    (thin_if (start.quad && (is_some m.quad_read && not (takes_dedicated by p.at))) _ _ (thin_by (takes_dedicated by p.at) by) (thin_by (takes_dedicated by p.at) by))

thin_op : (m : Parameters) (start : Start) (by : Strategy) (op : Op) → AllByRecursion IsThin (instructions m start by op)
thin_op m start by (erases b) = (omega arith, (thin_by (takes_dedicated by b.start) by, (omega arith, tt)))
thin_op m start by (writes p) = (omega arith, (thin_programming m start by p, (omega arith, tt)))
thin_op m start by (reads p) = (thin_reading m start by p, tt)

thin_ops : (m : Parameters) (start : Start) (by : Strategy) (ops : List Op) → AllByRecursion IsThin (flat_map (instructions m start by) ops)
thin_ops m start by [] = tt
thin_ops m start by (op ∷ ops) = all_append IsThin (instructions m start by op) _ (thin_op m start by op) (thin_ops m start by ops)

thin_switch : (s : Switch) (is : What) (op : ℕ) → AllByRecursion IsThin (switching_by s is op)
thin_switch Absent is op = tt
thin_switch Plain is op = (omega arith, tt)
thin_switch Latched is op = (omega arith, (omega arith, (omega arith, tt)))

thin_entering : (m : Parameters) (by : Strategy) → AllByRecursion IsThin (entering m by)
thin_entering m S1 = tt
thin_entering m S2 = tt
thin_entering m S3 = tt
thin_entering m S4 = thin_switch m.enter what.Enter 0xB7
thin_entering m S5 = tt

thin_leaving : (m : Parameters) (by : Strategy) → AllByRecursion IsThin (leaving m by)
thin_leaving m S1 = tt
thin_leaving m S2 = tt
thin_leaving m S3 = tt
thin_leaving m S4 = thin_switch m.leave what.Leave 0xE9
thin_leaving m S5 = tt

thin_unless : (b : Bool) (these : List Instr) → AllByRecursion IsThin these → AllByRecursion IsThin (if b then [] else these)
thin_unless true these all = tt
thin_unless false these all = all

thin_where : (b : Bool) (these : List Instr) → AllByRecursion IsThin these → AllByRecursion IsThin (if b then these else [])
thin_where true these all = all
thin_where false these all = tt

thin_entered : (s : Streaming) (ops : List Op) → AllByRecursion IsThin (entered s ops)
thin_entered s [] = tt
thin_entered s (op ∷ ops) = thin_unless s.started (entering s.meaning s.by) (thin_entering s.meaning s.by)

-- the instructions of operations have at most four address bytes
pub thin_next : (s : Streaming) (ops : List Op) → AllByRecursion (λ i. i.width ≤ 4) (next s ops)
thin_next s ops = all_append IsThin (entered s ops) _ (thin_entered s ops) (thin_ops s.meaning s.start s.by ops)

pub thin_last : (s : Streaming) → AllByRecursion (λ i. i.width ≤ 4) (last s)
thin_last s = thin_where s.started (leaving s.meaning s.by) (thin_leaving s.meaning s.by)

-- how many they are
few_op : (m : Parameters) (start : Start) (by : Strategy) (op : Op) → length (instructions m start by op) ≤ 3
few_op m start by (erases b) = omega arith
few_op m start by (writes p) = omega arith
few_op m start by (reads p) = omega arith

few_ops : (m : Parameters) (start : Start) (by : Strategy) (ops : List Op) → length (flat_map (instructions m start by) ops) ≤ 3 * length ops
few_ops m start by [] = omega arith
few_ops m start by (op ∷ ops) =
    omega (arith, few_op m start by op, few_ops m start by ops, length-append (instructions m start by op) (flat_map (instructions m start by) ops))

few_switch : (s : Switch) (is : What) (op : ℕ) → length (switching_by s is op) ≤ 3
few_switch Absent is op = omega arith
few_switch Plain is op = omega arith
few_switch Latched is op = omega arith

few_entering : (m : Parameters) (by : Strategy) → length (entering m by) ≤ 3
few_entering m S1 = omega arith
few_entering m S2 = omega arith
few_entering m S3 = omega arith
few_entering m S4 = few_switch m.enter what.Enter 0xB7
few_entering m S5 = omega arith

few_leaving : (m : Parameters) (by : Strategy) → length (leaving m by) ≤ 3
few_leaving m S1 = omega arith
few_leaving m S2 = omega arith
few_leaving m S3 = omega arith
few_leaving m S4 = few_switch m.leave what.Leave 0xE9
few_leaving m S5 = omega arith

few_unless : (b : Bool) (these : List Instr) → length these ≤ 3 → length (if b then [] else these) ≤ 3
few_unless true these few = omega arith
few_unless false these few = few

few_where : (b : Bool) (these : List Instr) → length these ≤ 3 → length (if b then these else []) ≤ 3
few_where true these few = few
few_where false these few = omega arith

few_entered : (s : Streaming) (ops : List Op) → length (entered s ops) ≤ 3
few_entered s [] = omega arith
few_entered s (op ∷ ops) = few_unless s.started (entering s.meaning s.by) (few_entering s.meaning s.by)

pub few_next : (s : Streaming) (ops : List Op) → length (next s ops) ≤ 3 + 3 * length ops
few_next s ops =
    omega (arith, few_entered s ops, few_ops s.meaning s.start s.by ops, length-append (entered s ops) (flat_map (instructions s.meaning s.start s.by) ops))

pub few_last : (s : Streaming) → length (last s) ≤ 3
few_last s = few_where s.started (leaving s.meaning s.by) (few_leaving s.meaning s.by)

-- two parts
abbrev with_started : Parameters → Start → Strategy → Bool → Streaming
with_started m start by started = record { meaning = m; start = start; by = by; started = started }

after_some : (m : Parameters) (start : Start) (by : Strategy) (bs : List Op) → next (with_started m start by true) bs ≡ flat_map (instructions m start by) bs
after_some m start by [] = refl
after_some m start by (b ∷ bs) = refl

joined : (f : Op → List Instr) (front : List Instr) (xs ys : List Op) → front ++ flat_map f (xs ++ ys) ≡ (front ++ flat_map f xs) ++ flat_map f ys
joined f front xs ys = ap (λ these. front ++ these) (flat_map-append f xs ys) ∙ sym (append_assoc front (flat_map f xs) (flat_map f ys))

joins : (m : Parameters) (start : Start) (by : Strategy) (started : Bool) (xs ys : List Op)
    → next (with_started m start by started) (xs ++ ys) ≡ next (with_started m start by started) xs ++ next (onward (with_started m start by started) xs) ys
joins m start by true [] ys = refl
joins m start by false [] ys = refl
joins m start by true (x ∷ xs) ys =
    joined (instructions m start by) [] (x ∷ xs) ys ∙ ap (λ these. flat_map (instructions m start by) (x ∷ xs) ++ these) (sym (after_some m start by ys))
joins m start by false (x ∷ xs) ys =
    joined (instructions m start by) (entering m by) (x ∷ xs) ys
    ∙ ap (λ these. (entering m by ++ flat_map (instructions m start by) (x ∷ xs)) ++ these) (sym (after_some m start by ys))

pub next_joins : (s : Streaming) (xs ys : List Op) → next s (xs ++ ys) ≡ next s xs ++ next (onward s xs) ys
next_joins s xs ys = joins s.meaning s.start s.by s.started xs ys

onward_by : (m : Parameters) (start : Start) (by : Strategy) (started : Bool) (xs ys : List Op)
    → onward (onward (with_started m start by started) xs) ys ≡ onward (with_started m start by started) (xs ++ ys)
onward_by m start by true [] ys = refl
onward_by m start by false [] ys = refl
onward_by m start by true (x ∷ xs) ys = refl
onward_by m start by false (x ∷ xs) ys = refl

pub onward_joins : (s : Streaming) (xs ys : List Op) → onward (onward s xs) ys ≡ onward s (xs ++ ys)
onward_joins s xs ys = onward_by s.meaning s.start s.by s.started xs ys
