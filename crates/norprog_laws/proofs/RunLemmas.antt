-- Statements that are said one after another.
use Rattle.std.proofs.Common.{◌≡◌, ◌∙◌, ℕ, zero, suc, ◌+◌, ◌<◌, ◌≤◌, List, [], ◌∷◌, ◌++◌, length, map, take, true, Some, None, Ok, inl, inr, refl, sym, ap, subst, append-nil, arith, length-append}
use Rattle.std.specs.Prelude.{flat_map, if◌then◌else◌}
use Rattle.std.specs.List.{AllByRecursion, enumerate_from, list_all, cons_option}
use Rattle.std.specs.Result.{result_unwrap_or, result_err}
use Rattle.std.proofs.Math.Seq.{take-append_seam, get_or-append_seam}
use Rattle.std.proofs.lemmas.Bool.{cases_lt, le-leb}
use Rattle.std.proofs.lemmas.List.{append_assoc, get_or_past, length-map}
use Rattle.std.proofs.lemmas.List.FromFn.{length-enumerate_from}
use Rattle.std.proofs.lemmas.List.Elements.{filter_map-append}
use Rattle.nor_base.specs.Parameters.{Parameters}
use Rattle.nor_base.specs.Script.{closed}
use Rattle.nor_lines.specs.Lines.{filled_lines}
use Rattle.nor_sheet.specs.declared.said.Said.{Said}
use Rattle.nor_sheet.specs.Limits.{IsSaid}
use Rattle.nor_sheet.specs.Line.{said_by, some_said, few_say, line_says}
use Rattle.nor_sheet.specs.Meaning.{meaning_of}
use Rattle.nor_sheet.specs.Sheet.{Sheet, sheet_of, with}
use Rattle.nor_sheet.specs.Text.{IsSheet, statements, said_below, line_at, fault_at}
use Rattle.nor_sheet.specs.Words.{at_most}
use Rattle.nor_sheet.proofs.SheetLemmas.{with_said}
use Rattle.norprog_laws.proofs.LineLemmas.{IsLine, lines_back}
use Rattle.norprog_laws.proofs.SpacedLemmas.{is_plain, spaced, spaced_line, spaced_words}

-- a statement, and the words of its line
pub record Printed : Type 0 where
  pub said : Said
  pub word : List ℕ
  pub words : List (List ℕ)

abbrev pub line_of : Printed → List ℕ
line_of p = spaced p.word p.words

-- the words say it
pub record IsPrinted (p : Printed) : Type 0 where
  pub plain : is_plain p.word ≡ true
  pub others : list_all is_plain p.words ≡ true
  pub few : length p.words ≤ 4
  pub says : said_by p.word p.words ≡ Ok p.said
  pub kept : IsSaid p.said

line_said : (p : Printed) → IsPrinted p → line_says (line_of p) ≡ Ok (Some p.said)
line_said p is =
    ap (λ words. few_say (at_most 5 words)) (spaced_words p.word p.words is.plain is.others)
    ∙ ap (λ b. few_say (if b then Some (p.word ∷ p.words) else None)) (le-leb (length (p.word ∷ p.words)) 5 (omega (arith, is.few)))
    ∙ ap some_said is.says

-- from one sheet to another, each statement said below those before it
abbrev pub Runs : Sheet → List Printed → Sheet → Type 0
Runs s [] t = s ≡ t
Runs s (p ∷ ps) t = (next : Sheet) × (with s p.said ≡ Ok next) × Runs next ps t

pub runs_append : (s t u : Sheet) (ps qs : List Printed) → Runs s ps t → Runs t qs u → Runs s (ps ++ qs) u
runs_append s t u [] qs first second = subst (λ x. Runs x qs u) (sym first) second
runs_append s t u (p ∷ ps) qs first second = (first.0, first.1, runs_append first.0 t u ps qs first.2 second)

-- they lead to what they say together
ends_at : (above : List Said) (ps : List Printed) (t : Sheet) → AllByRecursion IsPrinted ps → Runs (sheet_of above) ps t → t ≡ sheet_of (above ++ map (λ p. p.said) ps)
ends_at above [] t all runs = sym runs ∙ ap sheet_of (sym (append-nil above))
ends_at above (p ∷ ps) t all runs =
    let next = with_said above p.said runs.0 all.0.kept runs.1 in
    ends_at (above ++ p.said ∷ []) ps t all.1 (subst (λ s. Runs s ps t) next runs.2)
    ∙ ap sheet_of (append_assoc above (p.said ∷ []) (map (λ p. p.said) ps))

statements_are : (n : ℕ) (ps : List Printed) → AllByRecursion IsPrinted ps → statements (enumerate_from n (map line_of ps)) ≡ map (λ p. p.said) ps
statements_are n [] all = refl
statements_are n (p ∷ ps) all =
    ap (λ r. cons_option (result_unwrap_or r None) (statements (enumerate_from (n + 1) (map line_of ps)))) (line_said p all.0)
    ∙ ap (λ more. p.said ∷ more) (statements_are (n + 1) ps all.1)

statements_more : (front : List (ℕ × List ℕ)) (n : ℕ) (p : Printed) → IsPrinted p → statements (front ++ (n, line_of p) ∷ []) ≡ statements front ++ p.said ∷ []
statements_more front n p is =
    filter_map-append (λ (line : ℕ × List ℕ). result_unwrap_or (line_says line.1) None) front ((n, line_of p) ∷ [])
    ∙ ap (λ r. statements front ++ cons_option (result_unwrap_or r None) []) (line_said p is)

-- no line is at fault
no_fault : (front : List (ℕ × List ℕ)) (n : ℕ) (ps : List Printed) (t : Sheet) (k at : ℕ) → AllByRecursion IsPrinted ps → Runs (sheet_of (statements front)) ps t → k < length ps → at ≡ length front + k
    → fault_at (front ++ enumerate_from n (map line_of ps)) at ≡ None
no_fault front n [] t k at all runs within place = absurd (omega (arith, within))
no_fault front n (p ∷ ps) t zero at all runs within place =
    let lines = front ++ (n, line_of p) ∷ enumerate_from (n + 1) (map line_of ps) in
    let here : at ≡ length front = omega (arith, place) in
    let seen : take (length front) lines ≡ front = take-append_seam front ((n, line_of p) ∷ enumerate_from (n + 1) (map line_of ps)) in
    let line : line_at lines (length front) ≡ (n, line_of p) = get_or-append_seam front (n, line_of p) (enumerate_from (n + 1) (map line_of ps)) (0, []) in
    ap (fault_at lines) here
    ∙ ap (λ x. result_err (said_below (sheet_of (statements x)) (line_says (line_at lines (length front)).1))) seen
    ∙ ap (λ (x : ℕ × List ℕ). result_err (said_below (sheet_of (statements front)) (line_says x.1))) line
    ∙ ap (λ r. result_err (said_below (sheet_of (statements front)) r)) (line_said p all.0)
    ∙ ap result_err runs.1
no_fault front n (p ∷ ps) t (suc k) at all runs within place =
    let more = front ++ (n, line_of p) ∷ [] in
    let next = with_said (statements front) p.said runs.0 all.0.kept runs.1 ∙ ap sheet_of (sym (statements_more front n p all.0)) in
    ap (λ lines. fault_at lines at) (sym (append_assoc front ((n, line_of p) ∷ []) (enumerate_from (n + 1) (map line_of ps))))
    ∙ no_fault more (n + 1) ps t k at all.1 (subst (λ s. Runs s ps t) next runs.2) (omega (arith, within)) (omega (arith, place, length-append front ((n, line_of p) ∷ [])))

none_past : (lines : List (ℕ × List ℕ)) (n : ℕ) → length lines ≤ n → fault_at lines n ≡ None
none_past lines n past = ap (λ (line : ℕ × List ℕ). result_err (said_below (sheet_of (statements (take n lines))) (line_says line.1))) (get_or_past lines n (0, []) past)

each_line : (ps : List Printed) → AllByRecursion IsPrinted ps → AllByRecursion IsLine (map line_of ps)
each_line [] all = tt
each_line (p ∷ ps) all = (spaced_line p.word p.words all.0.plain all.0.others, each_line ps all.1)

-- the lines of statements are a sheet of what they mean together
pub printed_sheet : (ps : List Printed) (t : Sheet) (m : Parameters) → AllByRecursion IsPrinted ps → Runs (sheet_of []) ps t → meaning_of t ≡ Ok m → IsSheet (flat_map closed (map line_of ps)) m
printed_sheet ps t m all runs means =
    let lines : filled_lines (flat_map closed (map line_of ps)) ≡ enumerate_from 1 (map line_of ps) = lines_back (map line_of ps) (each_line ps all) in
    let long : length (enumerate_from 1 (map line_of ps)) ≡ length ps = length-enumerate_from 1 (map line_of ps) ∙ length-map ps line_of in
    record {
      sound = λ above. ap (λ these. fault_at these above) lines ∙ elim (cases_lt above (length ps)) [
        | inl within ↦ no_fault [] 1 ps t above above all runs within (omega arith)
        | inr past ↦ none_past (enumerate_from 1 (map line_of ps)) above (omega (arith, past, long))
      ];
      means = ap (λ these. meaning_of (sheet_of (statements these))) lines ∙ ap (λ said. meaning_of (sheet_of said)) (statements_are 1 ps all)
          ∙ ap meaning_of (sym (ends_at [] ps t all runs)) ∙ means;
    }
