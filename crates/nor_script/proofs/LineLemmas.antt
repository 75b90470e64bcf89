-- The steps on lines.
use Rattle.std.proofs.Common.{◌≡◌, ℕ, suc, ◌+◌, ◌-◌, ◌<◌, ◌≤◌, Bool, true, false, not, ◌&&◌, cond, if◌then◌else◌, List, [], ◌∷◌, ◌++◌, length, take, drop, get_or, Option, Some, None, Ok, refl, sym, ◌∙◌, ap, subst, arith, nat_eq, eqb-true}
use Rattle.std.specs.Prelude.{count_by, flat_map}
use Rattle.std.specs.List.{slice_range, list_all, before_first, after_first, position_or_len}
use Rattle.std.proofs.lemmas.Bool.{and_parts}
use Rattle.std.proofs.lemmas.List.{take_rest, take_all, length-take-le}
use Rattle.std.proofs.lemmas.List.Sums.{sum_by-cons, split_at_first, passes_at_first}
use Rattle.nor_base.specs.declared.step.Step.{Step}
use Rattle.nor_base.specs.declared.step.Step.TheVariants.{Send, Poll, Verify}
use Rattle.nor_base.specs.Sample.{is_symbol}
use Rattle.nor_base.specs.Array.{is_filled}
use Rattle.nor_base.specs.Step.{are_clocks}
use Rattle.nor_base.specs.Script.{hex_pair, step_line}
use Rattle.nor_script.specs.declared.fault.ScriptFault.TheVariants.{Header, BadLine, BadSymbol, BadCount, NoEnd, AfterEnd, Memory}
use Rattle.nor_script.specs.Line.{clocks_fault, is_blank, are_pairs, SpellsStep, SpellsVerify}
use Rattle.nor_script.specs.declared.fault.ScriptFault.{ScriptFault}
use Rattle.nor_script.specs.declared.line.Kind.{Kind}
use Rattle.nor_script.specs.declared.line.Kind.TheVariants as kind
use Rattle.nor_script.specs.Parts.{AreParts, AreVerifyParts, SpellsBytes, TellsFault, or_fault}
use Rattle.nor_script.specs.LineParts.{step_by, AreOfLine}
use Rattle.nor_script.proofs.ReadLemmas.{none_left}

-- a line by its first two bytes
pub by_two : (line : List ℕ) (a b : ℕ) → 2 ≤ length line → get_or line 0 0 ≡ a → get_or line 1 0 ≡ b → line ≡ a ∷ b ∷ take (length line - 2) (drop 2 line)
by_two [] a b enough first second = absurd (omega arith)
by_two (x ∷ []) a b enough first second = absurd (omega arith)
by_two (x ∷ y ∷ rest) a b enough first second =
    ap (λ n. n ∷ y ∷ rest) first ∙ ap (λ n. a ∷ n ∷ rest) second ∙ ap (λ l. a ∷ b ∷ l) (sym (take_rest (x ∷ y ∷ rest) 2))

passed : (filled symbols : Bool) (n : ℕ) → (if not filled then Some (BadLine n) else if not symbols then Some (BadSymbol n) else None) ≡ None → (filled && symbols) ≡ true
passed true true n h = refl
passed true false n h = cc
passed false symbols n h = cc

clocks_lem : (n : ℕ) (clocks : List ℕ) → clocks_fault n clocks ≡ None → are_clocks clocks ≡ true
clocks_lem n clocks h = passed (is_filled clocks) (list_all is_symbol clocks) n h

send_spelled : (n : ℕ) (line clocks rest : List ℕ) → line ≡ 120 ∷ 32 ∷ rest → clocks_fault n rest ≡ None → clocks ≡ rest → SpellsStep line (Send clocks)
unfolding step_line
send_spelled n line clocks rest is sound read = record {
  is_one = record { passes = clocks_lem n clocks (ap (clocks_fault n) read ∙ sound); bytes = refl };
  spelled = is ∙ ap (λ l. 120 ∷ 32 ∷ l) (sym read);
}

poll_spelled : (n : ℕ) (line clocks rest : List ℕ) → line ≡ 112 ∷ 32 ∷ rest → clocks_fault n rest ≡ None → clocks ≡ rest → SpellsStep line (Poll clocks)
unfolding step_line
poll_spelled n line clocks rest is sound read = record {
  is_one = record { passes = clocks_lem n clocks (ap (clocks_fault n) read ∙ sound); bytes = refl };
  spelled = is ∙ ap (λ l. 112 ∷ 32 ∷ l) (sym read);
}

verify_spelled : (line rest : List ℕ) (step : Step) → line ≡ 118 ∷ 32 ∷ rest → SpellsVerify rest step → SpellsStep line step
verify_spelled line rest step is spells = record { is_one = spells.is_one; spelled = is ∙ spells.spelled }

-- what is counted once stands somewhere
counted : (p : ℕ → Bool) (xs : List ℕ) → count_by p xs ≡ 1 → position_or_len p xs < length xs
counted p [] h = cc
counted p (x ∷ xs) h = by (p x) (sym (sum_by-cons (λ y. cond (p y) 1 0) x xs) ∙ h) (counted p xs)
  where
    by : {n at many : ℕ} (b : Bool) → cond b 1 0 + n ≡ 1 → (n ≡ 1 → at < many) → cond (not b) (1 + at) 0 < suc many
    by true h later = omega arith
    by false h later = let below = later (omega arith) in omega arith

filled_bytes : (digits bytes : List ℕ) → digits ≡ flat_map hex_pair bytes → is_filled digits ≡ true → is_filled bytes ≡ true
filled_bytes digits [] is filled = let none : is_filled {A = ℕ} [] ≡ true = ap is_filled (sym is) ∙ filled in cc
filled_bytes digits (byte ∷ bytes) is filled = refl

both_true : (a b : Bool) → a ≡ true → b ≡ true → (a && b) ≡ true
both_true true true p q = refl
both_true true false p q = cc
both_true false b p q = cc

parts_spelled : (rest clocks digits held bytes : List ℕ) → AreParts rest clocks digits → list_all is_symbol clocks ≡ true → held ≡ clocks → SpellsBytes digits bytes
    → SpellsVerify rest (Verify held bytes)
unfolding step_line
parts_spelled rest clocks digits held bytes parts symbols copy spells =
    let two = and_parts (nat_eq (count_by is_blank rest) 1) (is_filled (before_first is_blank rest) && is_filled (after_first is_blank rest)) parts.two in
    let filled = and_parts (is_filled (before_first is_blank rest)) (is_filled (after_first is_blank rest)) two.1 in
    let inside : position_or_len is_blank rest < length rest = counted is_blank rest (eqb-true (count_by is_blank rest) 1 two.0) in
    let blank : get_or rest (position_or_len is_blank rest) 0 ≡ 32 = eqb-true _ 32 (passes_at_first is_blank rest 0 inside) in
    let cut : rest ≡ before_first is_blank rest ++ 32 ∷ after_first is_blank rest =
    split_at_first is_blank rest 0 inside ∙ ap (λ c. before_first is_blank rest ++ c ∷ after_first is_blank rest) blank in
    let some : is_filled held ≡ true = ap is_filled (copy ∙ parts.first) ∙ filled.0 in
    let each : list_all is_symbol held ≡ true = ap (list_all is_symbol) copy ∙ symbols in
    let expected : is_filled bytes ≡ true = filled_bytes digits bytes spells.spelled (ap is_filled parts.second ∙ filled.1) in
    record {
      is_one = record { passes = both_true (are_clocks held) (is_filled bytes) (both_true (is_filled held) (list_all is_symbol held) some each) expected; bytes = spells.small };
      spelled = ap (λ l. 118 ∷ 32 ∷ l) (cut ∙ ap (λ l. l ++ 32 ∷ after_first is_blank rest) (sym (copy ∙ parts.first))
          ∙ ap (λ l. held ++ 32 ∷ l) (sym parts.second ∙ spells.spelled));
    }

-- clocks that stand behind the first two bytes of a line
clocks_place : (line rest clocks : List ℕ) (a b : ℕ) → line ≡ a ∷ b ∷ rest → (n : ℕ) → n ≤ length rest → clocks ≡ take n rest
    → (2 + length clocks ≤ length line) × (clocks ≡ slice_range line 2 (2 + length clocks))
clocks_place line rest clocks a b is n fits from =
    let size : length clocks ≡ n = ap length from ∙ length-take-le n rest fits in
    let whole : 2 + length clocks - 2 ≡ n = omega (arith, size) in (
      omega (arith, size, fits, ap length is),
      from ∙ ap (λ k. take k rest) (sym whole) ∙ ap (λ l. take (2 + length clocks - 2) (drop 2 l)) (sym is),
    )

once_of_line : (line rest clocks digits : List ℕ) (a : ℕ) (kind : Kind) → line ≡ a ∷ 32 ∷ rest → clocks ≡ rest → digits ≡ []
    → ((expect : List ℕ) → SpellsStep line (step_by kind rest expect)) → AreOfLine line kind clocks digits
once_of_line line rest clocks digits a kind is copy none spells =
    let place = clocks_place line rest clocks a 32 is (length rest) (omega arith) (copy ∙ sym (take_all (length rest) rest (omega arith))) in
    record {
      within = place.0;
      place = place.1;
      pairs = ap are_pairs none;
      spells = λ expect spelled. subst (λ c. SpellsStep line (step_by kind c expect)) (sym copy) (spells expect);
    }

pub send_of_line : (n : ℕ) (line rest clocks digits : List ℕ) (of : Kind) → line ≡ 120 ∷ 32 ∷ rest → or_fault (clocks_fault n rest) ≡ Ok tt → of ≡ kind.Send
    → clocks ≡ rest → digits ≡ [] → AreOfLine line of clocks digits
send_of_line n line rest clocks digits of is sound same copy none =
    subst (λ (k : Kind). AreOfLine line k clocks digits) (sym same)
    (once_of_line line rest clocks digits 120 kind.Send is copy none (λ expect. send_spelled n line rest rest is (none_left _ sound) refl))

pub poll_of_line : (n : ℕ) (line rest clocks digits : List ℕ) (of : Kind) → line ≡ 112 ∷ 32 ∷ rest → or_fault (clocks_fault n rest) ≡ Ok tt → of ≡ kind.Poll
    → clocks ≡ rest → digits ≡ [] → AreOfLine line of clocks digits
poll_of_line n line rest clocks digits of is sound same copy none =
    subst (λ (k : Kind). AreOfLine line k clocks digits) (sym same)
    (once_of_line line rest clocks digits 112 kind.Poll is copy none (λ expect. poll_spelled n line rest rest is (none_left _ sound) refl))

pub verify_of_line : (line rest clocks digits : List ℕ) → line ≡ 118 ∷ 32 ∷ rest → AreVerifyParts rest clocks digits → AreOfLine line kind.Verify clocks digits
verify_of_line line rest clocks digits is are =
    let two = and_parts (nat_eq (count_by is_blank rest) 1) (is_filled (before_first is_blank rest) && is_filled (after_first is_blank rest)) are.parts.two in
    let inside : position_or_len is_blank rest < length rest = counted is_blank rest (eqb-true (count_by is_blank rest) 1 two.0) in
    let place = clocks_place line rest clocks 118 32 is (position_or_len is_blank rest) (omega (arith, inside)) are.parts.first in
    record {
      within = place.0;
      place = place.1;
      pairs = are.pairs;
      spells = λ expect spelled. verify_spelled line rest (Verify clocks expect) is (parts_spelled rest clocks digits clocks expect are.parts are.symbols refl spelled);
    }

pub tells : (there : Option ScriptFault) (fault : ScriptFault) → there ≡ Some fault → TellsFault there fault
tells there (Header n) h = h
tells there (BadLine n) h = h
tells there (BadSymbol n) h = h
tells there (BadCount n) h = h
tells there (NoEnd n) h = h
tells there (AfterEnd n) h = h
tells there Memory h = tt
