-- A text is a sheet of one meaning at most, or is refused for one fault at most, and not both.
use Rattle.std.proofs.Common.{◌≡◌, ◌∙◌, ℕ, List, Option, Some, None, Ok, Err, inl, inr, sym, ap, arith}
use Rattle.std.proofs.lemmas.Bool.{cases_lt}
use Rattle.nor_base.specs.Parameters.{Parameters}
use Rattle.nor_lines.specs.Lines.{filled_lines}
use Rattle.nor_sheet.specs.declared.fault.LineFault.{LineFault}
use Rattle.nor_sheet.specs.declared.fault.SheetFault.{SheetFault}
use Rattle.nor_sheet.specs.declared.fault.SheetFault.TheVariants.{Line, Whole}
use Rattle.nor_sheet.specs.Text.{IsFirstFault, IsSheet, IsSound, Refuses, fault_at, line_at}

no_fault : (found : Option LineFault) (fault : LineFault) → found ≡ None → found ≡ Some fault → ⊥
no_fault found fault none some = let both : None ≡ Some fault = sym none ∙ some in absurd (cc)

not_sound : (text : List ℕ) (number : ℕ) (fault : LineFault) → IsSound text → IsFirstFault text number fault → ⊥
not_sound text number fault sound first = no_fault (fault_at (filled_lines text) first.above) fault (sound first.above) first.here

-- of two first lines at fault neither is above the other
same_place : (text : List ℕ) (n m : ℕ) (fault other : LineFault) (a : IsFirstFault text n fault) (b : IsFirstFault text m other) → a.above ≡ b.above
same_place text n m fault other a b = elim (cases_lt a.above b.above) [
  | inl before ↦ absurd (no_fault (fault_at (filled_lines text) a.above) fault (b.none_above a.above before) a.here)
  | inr past ↦ elim (cases_lt b.above a.above) [
    | inl before ↦ absurd (no_fault (fault_at (filled_lines text) b.above) other (a.none_above b.above before) b.here)
    | inr after ↦ omega (arith, past, after)
  ]
]

same_line : (text : List ℕ) (n m : ℕ) (fault other : LineFault) → IsFirstFault text n fault → IsFirstFault text m other → Line n fault ≡ Line m other
same_line text n m fault other a b =
    let place = same_place text n m fault other a b in
    let faults : Some fault ≡ Some other = sym a.here ∙ ap (fault_at (filled_lines text)) place ∙ b.here in
    let same : fault ≡ other = cc in
    let number : n ≡ m = a.told ∙ ap (λ above. (line_at (filled_lines text) above).0) place ∙ sym b.told in
    ap (λ k. Line k fault) number ∙ ap (Line m) same

pub one_fault : (text : List ℕ) (fault other : SheetFault) → Refuses text fault → Refuses text other → fault ≡ other
one_fault text (Line n fault) (Line m other) a b = same_line text n m fault other a b
one_fault text (Line n fault) (Whole lack) a b = absurd (not_sound text n fault b.sound a)
one_fault text (Whole lack) (Line n fault) a b = absurd (not_sound text n fault a.sound b)
one_fault text (Whole lack) (Whole other) a b =
    let same : Err lack ≡ Err other = sym a.lacks ∙ b.lacks in
    cc

pub not_both : (text : List ℕ) (m : Parameters) (fault : SheetFault) → IsSheet text m → Refuses text fault → ⊥
not_both text m (Line n fault) sheet refused = not_sound text n fault sheet.sound refused
not_both text m (Whole lack) sheet refused =
    let both : Ok m ≡ Err lack = sym sheet.means ∙ refused.lacks in
    absurd (cc)

pub one_meaning : (text : List ℕ) (m n : Parameters) → IsSheet text m → IsSheet text n → m ≡ n
one_meaning text m n a b =
    let same : Ok m ≡ Ok n = sym a.means ∙ b.means in
    cc
