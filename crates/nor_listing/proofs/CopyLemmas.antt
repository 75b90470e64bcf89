-- A line of a script, as a script of its own.
use Rattle.std.proofs.Common.{◌≡◌, ◌≢◌, ℕ, ◌+◌, List, [], ◌∷◌, ◌++◌, Option, Some, None, refl, sym, ◌∙◌, ap, arith, append_assoc, append-nil}
use Rattle.std.specs.Prelude.{codes, decimal, option_to_list}
use Rattle.std.proofs.lemmas.Fmt.{decimal_by_steps}
use Rattle.nor_base.specs.declared.step.Step.{Step}
use Rattle.nor_base.specs.Script.{closed, header, step_line, step_lines, end_line, script_text, IsScript}
use Rattle.nor_base.specs.Step.{IsStep}
use Rattle.nor_script.specs.Faults.{Refuses}
use Rattle.nor_script.specs.Laws.{ScriptsAreFaultless}
use Rattle.nor_script.specs.declared.fault.ScriptFault.{ScriptFault}
use Rattle.nor_script.specs.declared.fault.ScriptFault.TheVariants.{Header, BadLine, BadSymbol, BadCount, NoEnd, AfterEnd, Memory}

abbrev pub alone : List ℕ → List ℕ
alone line = (codes "norscript 1\n" ++ line) ++ codes "\nend 1\n"

one_digit : decimal 1 ≡ codes "1"
one_digit =
    decimal_by_steps (λ k ds. k ≡ 1 → ds ≡ codes "1") (λ k small is. ap (λ n. (48 + n) ∷ []) is) (λ k ds big before is. absurd (omega (arith, big, is))) 1 (omega arith) refl

alone_is : (x : Step) → alone (step_line x) ≡ script_text (x ∷ [])
unfolding script_text header step_lines end_line
alone_is x =
    let line = step_line x in
    let end = codes "end 1\n" in
    let last : end_line 1 ≡ end = ap (λ d. closed (codes "end " ++ d)) one_digit in
    append_assoc (codes "norscript 1\n") line (0x0A ∷ end)
    ∙ ap (λ l. codes "norscript 1\n" ++ l) (sym (ap (λ l. l ++ end) (append-nil (closed line)) ∙ append_assoc line (0x0A ∷ []) end))
    ∙ ap (λ l. codes "norscript 1\n" ++ ((closed line ++ []) ++ l)) (sym last)

pub is_script : (x : Step) (text line : List ℕ) → IsStep x → line ≡ step_line x → text ≡ alone line → IsScript text (x ∷ [])
is_script x text line one is whole = record { each = (one, tt); spelled = whole ∙ ap alone is ∙ alone_is x }

pub no_fault : ScriptsAreFaultless → (text : List ℕ) (steps : List Step) (fault : ScriptFault) → IsScript text steps → Refuses text fault → fault ≢ Memory → ⊥
no_fault law text steps (Header n) is refuses other = law text steps (Header n) is refuses
no_fault law text steps (BadLine n) is refuses other = law text steps (BadLine n) is refuses
no_fault law text steps (BadSymbol n) is refuses other = law text steps (BadSymbol n) is refuses
no_fault law text steps (BadCount n) is refuses other = law text steps (BadCount n) is refuses
no_fault law text steps (NoEnd n) is refuses other = law text steps (NoEnd n) is refuses
no_fault law text steps (AfterEnd n) is refuses other = law text steps (AfterEnd n) is refuses
no_fault law text steps Memory is refuses other = other refl

last_is : (front : List Step) (x y : Step) → x ∷ [] ≡ front ++ y ∷ [] → y ≡ x
last_is [] x y is = cc
last_is (a ∷ []) x y is = cc
last_is (a ∷ b ∷ front) x y is = cc

pub popped : (x : Step) (front : List Step) (r : Option Step) → x ∷ [] ≡ front ++ option_to_list r → r ≢ None → r ≡ Some x
popped x front None is some = absurd (some refl)
popped x front (Some y) is some = ap Some (last_is front x y is)
