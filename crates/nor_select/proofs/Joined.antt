-- The instructions of operations that come in parts are those of all of them.
use Rattle.std.proofs.Common.{◌≡◌, Bool, true, false, List, [], ◌∷◌, ◌++◌, refl, sym, ◌∙◌, ap}
use Rattle.std.specs.Prelude.{flat_map}
use Rattle.std.proofs.lemmas.Grind.{flat_map-append}
use Rattle.std.proofs.lemmas.List.{append_assoc}
use Rattle.nor_base.specs.declared.meaning.Start.{Start}
use Rattle.nor_base.specs.declared.meaning.Strategy.{Strategy}
use Rattle.nor_base.specs.Parameters.{Parameters}
use Rattle.nor_base.specs.Spelling.{Instr}
use Rattle.nor_base.specs.Operations.{Op, instructions, entering, leaving, lowered}
use Rattle.nor_select.specs.Streamed.{Streaming, streamed}

abbrev with_started : Parameters → Start → Strategy → Bool → Streaming
with_started m start by started = record { meaning = m; start = start; by = by; started = started }

abbrev all_of : List (List Op) → List Op
all_of parts = flat_map (λ part. part) parts

split : (f : Op → List Instr) (ops more : List Op) (end : List Instr) → flat_map f ops ++ (flat_map f more ++ end) ≡ flat_map f (ops ++ more) ++ end
split f ops more end = sym (append_assoc (flat_map f ops) (flat_map f more) end) ∙ ap (λ these. these ++ end) (sym (flat_map-append f ops more))

-- after an operation
going_on : (m : Parameters) (start : Start) (by : Strategy) (parts : List (List Op))
    → streamed (with_started m start by true) parts ≡ flat_map (instructions m start by) (all_of parts) ++ leaving m by
going_on m start by [] = refl
going_on m start by ([] ∷ more) = going_on m start by more
going_on m start by ((op ∷ ops) ∷ more) =
    ap (λ rest. flat_map (instructions m start by) (op ∷ ops) ++ rest) (going_on m start by more)
    ∙ split (instructions m start by) (op ∷ ops) (all_of more) (leaving m by)

pub parts_join : (m : Parameters) (start : Start) (by : Strategy) (parts : List (List Op)) → streamed (with_started m start by false) parts ≡ lowered m start by (all_of parts)
parts_join m start by [] = refl
parts_join m start by ([] ∷ more) = parts_join m start by more
parts_join m start by ((op ∷ ops) ∷ more) =
    let these = flat_map (instructions m start by) (op ∷ ops) in
    append_assoc (entering m by) these (streamed (with_started m start by true) more)
    ∙ ap (λ rest. entering m by ++ (these ++ rest)) (going_on m start by more)
    ∙ ap (λ rest. entering m by ++ rest) (split (instructions m start by) (op ∷ ops) (all_of more) (leaving m by))
