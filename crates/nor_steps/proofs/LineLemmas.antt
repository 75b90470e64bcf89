-- The lines of instructions as they go out are those of the planned ones.
use Rattle.std.proofs.Common.{◌≡◌, ℕ, ◌≤◌, List, [], ◌∷◌, ◌++◌, length, map, take, drop, Option, Result, Ok, Err, refl, sym, ◌∙◌, ap, subst}
use Rattle.std.specs.Prelude.{flat_map, IsErr}
use Rattle.std.specs.List.{AllByRecursion}
use Rattle.std.specs.Io.KnownBytes.{Appends}
use Rattle.std.proofs.lemmas.List.{map-append, append_assoc, length-map, take-append-drop}
use Rattle.std.proofs.lemmas.Grind.{flat_map-append}
use Rattle.nor_base.specs.declared.instruction.What.{What}
use Rattle.nor_base.specs.declared.instruction.What.TheVariants as what
use Rattle.nor_base.specs.Device.{Cuts}
use Rattle.nor_base.specs.Script.{closed, step_line, step_lines}
use Rattle.nor_base.specs.Spelling.{Instr}
use Rattle.nor_base.proofs.DeviceLaws.{Appends-append, Appends-none}
use Rattle.nor_select.specs.Coded.{coded}
use Rattle.nor_select.specs.declared.instr.Instr.{Instr as DeclaredInstr}
use Rattle.nor_select.specs.View.{coded_of, AreCoded}
use Rattle.nor_steps.specs.Lines.{step_of, steps_of, coded_line, lines_out, IsNarrow, AreNarrow}
use Rattle.nor_steps.specs.Writing.{Begins, Adds, lines_of}

-- an instruction's step is the same, as it is planned and as it goes out
same_by : (is : What) (op address width dummies : ℕ) (bytes : List ℕ)
    → coded_line (coded (record { what = is; op = op; address = address; width = width; dummies = dummies; bytes = bytes }))
    ≡ closed (step_line (step_of (record { what = is; op = op; address = address; width = width; dummies = dummies; bytes = bytes })))
same_by what.Enable op address width dummies bytes = refl
same_by what.Disable op address width dummies bytes = refl
same_by what.Status op address width dummies bytes = refl
same_by what.Enter op address width dummies bytes = refl
same_by what.Leave op address width dummies bytes = refl
same_by (what.Erase kind) op address width dummies bytes = refl
same_by what.Program op address width dummies bytes = refl
same_by what.QuadProgram op address width dummies bytes = refl
same_by what.Read op address width dummies bytes = refl
same_by what.QuadRead op address width dummies bytes = refl
same_by what.Broken op address width dummies bytes = refl

same_line : (i : Instr) → coded_line (coded i) ≡ closed (step_line (step_of i))
same_line i = same_by i.what i.op i.address i.width i.dummies i.bytes

lines_by : (instrs : List DeclaredInstr) → lines_out instrs ≡ flat_map coded_line (map coded_of instrs)
lines_by [] = refl
lines_by (i ∷ more) = ap (λ rest. coded_line (coded_of i) ++ rest) (lines_by more)

lines_planned : (these : List Instr) → flat_map coded_line (map coded these) ≡ lines_of these
unfolding step_lines
lines_planned [] = refl
lines_planned (i ∷ more) = ap (λ line. line ++ flat_map coded_line (map coded more)) (same_line i) ∙ ap (λ rest. closed (step_line (step_of i)) ++ rest) (lines_planned more)

pub lines_are : (instrs : List DeclaredInstr) (these : List Instr) → AreCoded instrs these → lines_out instrs ≡ lines_of these
lines_are instrs these are = lines_by instrs ∙ ap (flat_map coded_line) are ∙ lines_planned these

pub count_is : (instrs : List DeclaredInstr) (these : List Instr) → AreCoded instrs these → length instrs ≡ length these
count_is instrs these are = sym (length-map instrs coded_of) ∙ ap length are ∙ length-map these coded

-- lines of two lists
pub lines_append : (xs ys : List Instr) → lines_of (xs ++ ys) ≡ lines_of xs ++ lines_of ys
unfolding step_lines
lines_append xs ys =
    ap (flat_map (λ step. closed (step_line step))) (map-append step_of xs ys) ∙ flat_map-append (λ step. closed (step_line step)) (steps_of xs) (steps_of ys)

-- what is so of each planned instruction is so of each as it goes out
narrow_codes : (these : List Instr) → AllByRecursion (λ i. i.width ≤ 4) these → AllByRecursion IsNarrow (map coded these)
narrow_codes [] all = tt
narrow_codes (i ∷ more) all = (all.0, narrow_codes more all.1)

narrow_out : (instrs : List DeclaredInstr) → AllByRecursion IsNarrow (map coded_of instrs) → AreNarrow instrs
narrow_out [] all = tt
narrow_out (i ∷ more) all = (all.0, narrow_out more all.1)

pub narrow_are : (instrs : List DeclaredInstr) (these : List Instr) → AreCoded instrs these → AllByRecursion (λ i. i.width ≤ 4) these → AreNarrow instrs
narrow_are instrs these are all = narrow_out instrs (subst (AllByRecursion IsNarrow) (sym are) (narrow_codes these all))

-- parts of a text
pub begins_none : (a : Option (List ℕ)) (text : List ℕ) → Begins a a text
begins_none a text = record { front = []; rest = text; whole = refl; put = Appends-none a }

pub begins_cut : (a b : Option (List ℕ)) (text : List ℕ) → Cuts a b text → Begins a b text
begins_cut a b text cut = record { front = take cut.0 text; rest = drop cut.0 text; whole = sym (take-append-drop cut.0 text); put = cut.2 }

pub begins_more : (a b : Option (List ℕ)) (xs ys : List ℕ) → Begins a b xs → Begins a b (xs ++ ys)
begins_more a b xs ys is = record {
  front = is.front;
  rest = is.rest ++ ys;
  whole = ap (λ text. text ++ ys) is.whole ∙ append_assoc is.front is.rest ys;
  put = is.put;
}

pub begins_then : (a b c : Option (List ℕ)) (xs ys : List ℕ) → Appends a b xs → Begins b c ys → Begins a c (xs ++ ys)
begins_then a b c xs ys first is = record {
  front = xs ++ is.front;
  rest = is.rest;
  whole = ap (λ text. xs ++ text) is.whole ∙ sym (append_assoc xs is.front is.rest);
  put = Appends-append a b c xs is.front first is.put;
}

pub adds_err : {T F : Type 0} (a b : Option (List ℕ)) (r : Result T F) (text : List ℕ) → IsErr r → Begins a b text → Adds a b r text
adds_err a b (Ok x) text is p = cc
adds_err a b (Err e) text is p = p
