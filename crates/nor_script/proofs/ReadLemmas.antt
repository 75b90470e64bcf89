-- The reading of a script, line by line.
use Rattle.std.proofs.Common.{◌≡◌, ◌≢◌, ℕ, ◌+◌, ◌-◌, ◌<◌, ◌≤◌, ◌==◌, ◌||◌, not, Bool, true, false, cond, if◌then◌else◌, List, [], ◌∷◌, ◌++◌, length, take, drop, get_or, Option, Some, None, Ok, Err, ◌⊎◌, inl, inr, refl, sym, ◌∙◌, ap, subst, arith, append_assoc, append-nil, eqb-true}
use Rattle.std.specs.Prelude.{codes, decimal, position, IfSome}
use Rattle.std.specs.List.{AllByRecursion, list_any, list_all, position_or_len, before_first, after_first}
use Rattle.std.specs.Str.{bytes_eq}
use Rattle.std.proofs.lemmas.Bool.{ltb-true, ltb-false}
use Rattle.std.proofs.lemmas.List.{take_rest, get_or-take, take-append-drop, length-take-le}
use Rattle.std.proofs.lemmas.List.Sums.{fails_before_first, passes_at_first, split_at_first}
use Rattle.std.proofs.lemmas.List.Folds.{list_any_none}
use Rattle.std.proofs.lemmas.Slice.Eq.{bytes_eq-Decides}
use Rattle.std.proofs.lemmas.Grind.{flat_map-append}
use Rattle.nor_base.specs.declared.step.Step.{Step}
use Rattle.nor_base.specs.Sample.{is_symbol}
use Rattle.nor_base.specs.Array.{is_filled}
use Rattle.nor_base.specs.Step.{IsStep}
use Rattle.nor_base.specs.Script.{closed, step_line, header, end_line, step_lines, script_text, IsScript}
use Rattle.nor_script.specs.declared.fault.ScriptFault.{ScriptFault}
use Rattle.nor_script.specs.declared.fault.ScriptFault.TheVariants.{Header, BadLine, BadSymbol, BadCount, NoEnd, AfterEnd, Memory}
use Rattle.nor_script.specs.Line.{is_end, is_blank, are_two_parts, are_pairs, clocks_fault, verify_fault, step_fault, count_fault, line_fault, SpellsStep}
use Rattle.nor_script.specs.Parts.{TellsFault, or_fault}
use Rattle.nor_script.specs.Faults.{is_line_feed, BeginsWith, IsRight, HasBadLine, Refuses, BeginsRight, AreAbove}

-- where a search finds a place, and where it finds none
place_found : (b : Bool) (n i : ℕ) → cond b (Some n) None ≡ Some i → (b ≡ true) × (n ≡ i)
place_found true n i h = (refl, cc)
place_found false n i h = cc

place_missed : (b : Bool) (n : ℕ) → cond b (Some n) None ≡ None → b ≡ false
place_missed true n h = cc
place_missed false n h = refl

pub unclosed : (text : List ℕ) → position is_line_feed text ≡ None → list_any is_line_feed text ≡ false
unclosed text h =
    let past : length text ≤ position_or_len is_line_feed text = ltb-false _ _ (place_missed _ _ h) in
    list_any_none is_line_feed text (λ k d below. fails_before_first is_line_feed text k d (omega (arith, past)))

pub found_below : (text : List ℕ) (i : ℕ) → position is_line_feed text ≡ Some i → i < length text
found_below text i h =
    let place = place_found _ _ i h in
    let first = place.1 in
    let inside : position_or_len is_line_feed text < length text = ltb-true _ _ place.0 in
    omega arith

none_before : (p : ℕ → Bool) (xs : List ℕ) (i : ℕ) → i ≤ position_or_len p xs → i ≤ length xs → list_any p (take i xs) ≡ false
none_before p xs i first inside =
    list_any_none p (take i xs) (λ k d below.
    let short : k < i = omega (arith, length-take-le i xs inside) in
    ap p (get_or-take i xs k d short) ∙ fails_before_first p xs k d (omega arith))

pub begins : (text : List ℕ) (i : ℕ) → position is_line_feed text ≡ Some i → BeginsWith text (take i text) (take (length text - (i + 1)) (drop (i + 1) text))
begins text i h =
    let place = place_found _ _ i h in
    let first = place.1 in
    let inside : position_or_len is_line_feed text < length text = ltb-true _ _ place.0 in
    let feed : get_or text (position_or_len is_line_feed text) 0 ≡ 10 = eqb-true _ 10 (passes_at_first is_line_feed text 0 inside) in
    let cut : text ≡ take (position_or_len is_line_feed text) text ++ 10 ∷ drop (position_or_len is_line_feed text + 1) text =
    split_at_first is_line_feed text 0 inside ∙ ap (λ c. before_first is_line_feed text ++ c ∷ after_first is_line_feed text) feed in
    record {
      whole = cut ∙ ap (λ n. take n text ++ 10 ∷ drop (n + 1) text) first
          ∙ sym (append_assoc (take i text) (10 ∷ []) (drop (i + 1) text))
          ∙ ap (λ l. closed (take i text) ++ l) (sym (take_rest text (i + 1)));
      one = none_before is_line_feed text i (omega arith) (omega arith);
    }

-- the rest is shorter
pub shorter : (text line rest : List ℕ) → BeginsWith text line rest → length rest < length text
shorter text line rest first = rw first.whole (long line rest)
  where
    long : (line rest : List ℕ) → length rest < length (closed line ++ rest)
    long [] rest = omega arith
    long (byte ∷ line) rest = let more = long line rest in omega arith

-- nothing is read yet
pub begun : (text rest : List ℕ) → text ≡ header ++ rest → IsRight text [] rest
unfolding step_lines
begun text rest is = record { each = tt; whole = is }

pub each_more : (above : List Step) (step : Step) → AllByRecursion IsStep above → IsStep step → AllByRecursion IsStep (above ++ step ∷ [])
each_more [] step each here = (here, tt)
each_more (x ∷ above) step each here = (each.0, each_more above step each.1 here)

pub lines_more : (above : List Step) (step : Step) (rest : List ℕ) → step_lines (above ++ step ∷ []) ++ rest ≡ step_lines above ++ (closed (step_line step) ++ rest)
unfolding step_lines
lines_more above step rest =
    ap (λ l. l ++ rest) (flat_map-append (λ x. closed (step_line x)) above (step ∷ []) ∙ ap (λ l. step_lines above ++ l) (append-nil (closed (step_line step))))
    ∙ append_assoc (step_lines above) (closed (step_line step)) rest

-- one step more
pub one_more : (text : List ℕ) (above after : List Step) (rest line more : List ℕ) (step : Step) → IsRight text above rest → BeginsWith rest line more → SpellsStep line step
    → after ≡ above ++ step ∷ [] → IsRight text after more
one_more text above after rest line more step right first spells added =
    subst (λ (steps : List Step). IsRight text steps more) (sym added) (record {
      each = each_more above step right.each spells.is_one;
      whole = right.whole ∙ ap (λ l. header ++ (step_lines above ++ l)) (first.whole ∙ ap (λ l. closed l ++ more) spells.spelled)
          ∙ ap (λ l. header ++ l) (sym (lines_more above step more));
    })

-- an end line with the number of steps
pub end_is : (line : List ℕ) (n : ℕ) → is_end line ≡ true → count_fault n (drop 4 line) ≡ None → closed line ≡ end_line n
unfolding end_line
end_is line n ends counted =
    ap closed (sym (take-append-drop 4 line) ∙ ap (λ l. l ++ drop 4 line) ((bytes_eq-Decides (take 4 line) (codes "end ")).0 ends)
    ∙ ap (λ l. codes "end " ++ l) ((bytes_eq-Decides (drop 4 line) (decimal n)).0 (same (bytes_eq (drop 4 line) (decimal n)) n counted)))
  where
    same : (b : Bool) (n : ℕ) → (if b then None else Some (BadCount (n + 2))) ≡ None → b ≡ true
    same true n h = refl
    same false n h = cc

text_then : (text : List ℕ) (steps : List Step) (rest line more : List ℕ) → IsRight text steps rest → BeginsWith rest line more → is_end line ≡ true
    → count_fault (length steps) (drop 4 line) ≡ None → text ≡ script_text steps ++ more
unfolding script_text
text_then text steps rest line more right first ends counted =
    right.whole ∙ ap (λ l. header ++ (step_lines steps ++ l)) (first.whole ∙ ap (λ l. l ++ more) (end_is line (length steps) ends counted))
    ∙ ap (λ l. header ++ l) (sym (append_assoc (step_lines steps) (end_line (length steps)) more))
    ∙ sym (append_assoc header (step_lines steps ++ end_line (length steps)) more)

pub none_left : (o : Option ScriptFault) → or_fault o ≡ Ok tt → o ≡ None
none_left None h = refl
none_left (Some fault) h = cc

pub fault_left : (o : Option ScriptFault) (fault : ScriptFault) → or_fault o ≡ Err fault → o ≡ Some fault
fault_left None fault h = cc
fault_left (Some f) fault h = cc

-- the whole script
pub all_read : (text : List ℕ) (steps : List Step) (rest line more : List ℕ) → IsRight text steps rest → BeginsWith rest line more → is_end line ≡ true
    → or_fault (count_fault (length steps) (drop 4 line)) ≡ Ok tt → length more ≡ 0 → IsScript text steps
all_read text steps rest line [] right first ends counted over = record {
  each = right.each;
  spelled = text_then text steps rest line [] right first ends (none_left _ counted) ∙ append-nil (script_text steps);
}
all_read text steps rest line (byte ∷ more) right first ends counted over = absurd (omega arith)

-- something after it
pub went_on : (text : List ℕ) (steps : List Step) (rest line more : List ℕ) → IsRight text steps rest → BeginsWith rest line more → is_end line ≡ true
    → or_fault (count_fault (length steps) (drop 4 line)) ≡ Ok tt → length more ≢ 0 → Refuses text (AfterEnd (length steps + 3))
went_on text steps rest line [] right first ends counted over = absurd (over refl)
went_on text steps rest line (byte ∷ more) right first ends counted over = record {
  steps = steps;
  byte = byte;
  more = more;
  each = right.each;
  whole = text_then text steps rest line (byte ∷ more) right first ends (none_left _ counted);
  number = refl;
}

-- the faults of the n-th line
abbrev pub IsOfLine : ℕ → ScriptFault → Type 0
IsOfLine n (BadLine k) = k ≡ n
IsOfLine n (BadSymbol k) = k ≡ n
IsOfLine n (BadCount k) = k ≡ n
IsOfLine n (Header k) = ⊥
IsOfLine n (NoEnd k) = ⊥
IsOfLine n (AfterEnd k) = ⊥
IsOfLine n Memory = ⊥

clocks_of_line : (n : ℕ) (clocks : List ℕ) → IfSome (clocks_fault n clocks) (IsOfLine n)
clocks_of_line n clocks = symbols (not (is_filled clocks)) (not (list_all is_symbol clocks)) n
  where
    symbols : (empty other : Bool) (n : ℕ) → IfSome (if empty then Some (BadLine n) else if other then Some (BadSymbol n) else None) (IsOfLine n)
    symbols true other n = refl
    symbols false true n = refl
    symbols false false n = tt

verify_of_line : (n : ℕ) (rest : List ℕ) → IfSome (verify_fault n rest) (IsOfLine n)
verify_of_line n rest = parts (not (are_two_parts rest)) (not (list_all is_symbol (before_first is_blank rest))) (not (are_pairs (after_first is_blank rest))) n
  where
    parts : (cut other odd : Bool) (n : ℕ) → IfSome (if cut then Some (BadLine n) else if other then Some (BadSymbol n) else if odd then Some (BadLine n) else None) (IsOfLine n)
    parts true other odd n = refl
    parts false true odd n = refl
    parts false false true n = refl
    parts false false false n = tt

step_of_line : (n : ℕ) (line : List ℕ) → IfSome (step_fault n line) (IsOfLine n)
step_of_line n [] = refl
step_of_line n (letter ∷ []) = refl
step_of_line n (letter ∷ blank ∷ rest) =
    by_letter (not (is_blank blank)) (letter == 0x78 || letter == 0x70) (letter == 0x76) n (clocks_fault n rest) (verify_fault n rest) (clocks_of_line n rest) (verify_of_line n rest)
  where
    by_letter : (apart once other : Bool) (n : ℕ) (x y : Option ScriptFault) → IfSome x (IsOfLine n) → IfSome y (IsOfLine n)
        → IfSome (if apart then Some (BadLine n) else if once then x else if other then y else Some (BadLine n)) (IsOfLine n)
    by_letter true once other n x y p q = refl
    by_letter false true other n x y p q = p
    by_letter false false true n x y p q = q
    by_letter false false false n x y p q = refl

count_of_line : (steps : ℕ) (count : List ℕ) → IfSome (count_fault steps count) (IsOfLine (steps + 2))
count_of_line steps count = counted (bytes_eq count (decimal steps)) (steps + 2)
  where
    counted : (b : Bool) (n : ℕ) → IfSome (if b then None else Some (BadCount n)) (IsOfLine n)
    counted true n = tt
    counted false n = refl

refuses_by : (text : List ℕ) (n : ℕ) (fault : ScriptFault) → IsOfLine n fault → HasBadLine text fault → Refuses text fault
refuses_by text n (BadLine k) of bad = bad
refuses_by text n (BadSymbol k) of bad = bad
refuses_by text n (BadCount k) of bad = bad
refuses_by text n (Header k) of bad = absurd of
refuses_by text n (NoEnd k) of bad = absurd of
refuses_by text n (AfterEnd k) of bad = absurd of
refuses_by text n Memory of bad = absurd of

above_by : (text : List ℕ) (steps : List Step) (fault : ScriptFault) → IsOfLine (length steps + 2) fault → BeginsRight text steps → AreAbove text steps fault
above_by text steps (BadLine k) of begins = (begins, of)
above_by text steps (BadSymbol k) of begins = (begins, of)
above_by text steps (BadCount k) of begins = (begins, of)
above_by text steps (Header k) of begins = absurd of
above_by text steps (NoEnd k) of begins = absurd of
above_by text steps (AfterEnd k) of begins = absurd of
above_by text steps Memory of begins = absurd of

line_refused : (text : List ℕ) (steps : List Step) (rest line more : List ℕ) (n : ℕ) (fault : ScriptFault) → IsRight text steps rest → BeginsWith rest line more
    → IsOfLine n fault → line_fault (length steps) line ≡ Some fault → Refuses text fault
line_refused text steps rest line more n fault right first of here =
    refuses_by text n fault of (record { above = steps; rest = rest; line = line; more = more; right = right; first = first; here = here })

-- an end line with another number
pub count_told : (steps : ℕ) (line : List ℕ) (fault : ScriptFault) → or_fault (count_fault steps (drop 4 line)) ≡ Err fault → IsOfLine (steps + 2) fault
count_told steps line fault told =
    subst (λ (o : Option ScriptFault). IfSome o (IsOfLine (steps + 2))) (fault_left _ fault told) (count_of_line steps (drop 4 line))

-- a line of no step
told_or_memory : (o : Option ScriptFault) (fault : ScriptFault) → TellsFault o fault → (fault ≡ Memory) ⊎ (o ≡ Some fault)
told_or_memory o (BadLine n) h = inr h
told_or_memory o (BadSymbol n) h = inr h
told_or_memory o (BadCount n) h = inr h
told_or_memory o (Header n) h = inr h
told_or_memory o (NoEnd n) h = inr h
told_or_memory o (AfterEnd n) h = inr h
told_or_memory o Memory h = inl refl

pub step_told : (n : ℕ) (line : List ℕ) (fault : ScriptFault) → step_fault n line ≡ Some fault → IsOfLine n fault
step_told n line fault there = subst (λ (o : Option ScriptFault). IfSome o (IsOfLine n)) there (step_of_line n line)

pub step_refused : (text : List ℕ) (steps : List Step) (rest line more : List ℕ) (fault : ScriptFault) → IsRight text steps rest → BeginsWith rest line more → is_end line ≡ false
    → TellsFault (step_fault (length steps + 2) line) fault → Refuses text fault
step_refused text steps rest line more fault right first ends told =
    elim (told_or_memory (step_fault (length steps + 2) line) fault told) [
      | inl none ↦ subst (Refuses text) (sym none) tt
      | inr there ↦
          line_refused text steps rest line more (length steps + 2) fault right first (step_told (length steps + 2) line fault there)
          (ap (λ b. if b then count_fault (length steps) (drop 4 line) else step_fault (length steps + 2) line) ends ∙ there)
    ]

pub step_above : (text : List ℕ) (steps : List Step) (rest line : List ℕ) (fault : ScriptFault) → IsRight text steps rest
    → TellsFault (step_fault (length steps + 2) line) fault → AreAbove text steps fault
step_above text steps rest line fault right told =
    elim (told_or_memory (step_fault (length steps + 2) line) fault told) [
      | inl none ↦ subst (AreAbove text steps) (sym none) tt
      | inr there ↦ above_by text steps fault (step_told (length steps + 2) line fault there) (record { rest = rest; right = right })
    ]

pub went_above : (text : List ℕ) (steps : List Step) (rest : List ℕ) → IsRight text steps rest → AreAbove text steps (AfterEnd (length steps + 3))
went_above text steps rest right = (record { rest = rest; right = right }, refl)

-- the header is missing
pub header_missing : (text : List ℕ) → ((rest : List ℕ) → text ≢ header ++ rest) → Refuses text (Header 1)
header_missing text none = (refl, none)

-- the fault of a line is of its number
pub line_told : (steps : ℕ) (line : List ℕ) (fault : ScriptFault) → line_fault steps line ≡ Some fault → IsOfLine (steps + 2) fault
line_told steps line fault here =
    subst (λ (o : Option ScriptFault). IfSome o (IsOfLine (steps + 2))) here (either (is_end line) steps line)
  where
    either : (b : Bool) (steps : ℕ) (line : List ℕ) → IfSome (if b then count_fault steps (drop 4 line) else step_fault (steps + 2) line) (IsOfLine (steps + 2))
    either true steps line = count_of_line steps (drop 4 line)
    either false steps line = step_of_line (steps + 2) line
