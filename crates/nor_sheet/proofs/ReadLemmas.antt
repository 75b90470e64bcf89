-- One line more of a sheet.
use borrow.Author.Count.{below_more}
use Rattle.std.proofs.Common.{◌≡◌, ◌∙◌, ℕ, ◌<◌, ◌≤◌, List, [], ◌∷◌, ◌++◌, length, map, take, Option, Some, None, Result, Ok, Err, inl, inr, refl, sym, ap, subst, append-nil, arith}
use Rattle.std.specs.Prelude.{IfOk, IfErr, IfSome}
use Rattle.std.specs.List.{cons_option}
use Rattle.std.specs.Result.{result_unwrap_or, result_err}
use Rattle.std.proofs.Math.Seq.{take-append_seam, get_or-append_seam}
use Rattle.std.proofs.lemmas.List.{append_assoc, length_push, map_push, get_or_past}
use Rattle.std.proofs.lemmas.List.Elements.{filter_map-append}
use Rattle.std.proofs.lemmas.Bool.{cases_lt}
use Rattle.nor_base.specs.Parameters.{Parameters}
use Rattle.nor_lines.specs.Lines.{filled_lines}
use Rattle.nor_sheet.specs.declared.fault.LineFault.{LineFault}
use Rattle.nor_sheet.specs.declared.fault.Lack.{Lack}
use Rattle.nor_sheet.specs.declared.fault.SheetFault.{SheetFault}
use Rattle.nor_sheet.specs.declared.fault.SheetFault.TheVariants.{Line}
use Rattle.nor_sheet.specs.declared.said.Said.{Said}
use Rattle.nor_sheet.specs.Limits.{IsSaid}
use Rattle.nor_sheet.specs.Line.{line_says}
use Rattle.nor_sheet.specs.Sheet.{Sheet, AreSaid, sheet_of, with}
use Rattle.nor_sheet.specs.Meaning.{meaning_of}
use Rattle.nor_sheet.specs.Text.{statements, said_below, line_at, fault_at, text_means, IsSheet, IsFirstFault, Refuses, numbered, of_whole}
use Rattle.nor_sheet.proofs.SheetLemmas.{with_said, with_kept}

-- these lines were read, and this is what they say; the rest wasn't
pub record IsRead (lines seen rest : List (ℕ × List ℕ)) (s : Sheet) : Type 0 where
  pub all : seen ++ rest ≡ lines
  pub is : s ≡ sheet_of (statements seen)
  pub sound : (above : ℕ) → above < length seen → fault_at lines above ≡ None
  pub kept : AreSaid s

-- the next line
line_here : (lines seen rest : List (ℕ × List ℕ)) (line : ℕ × List ℕ) → seen ++ line ∷ rest ≡ lines → line_at lines (length seen) ≡ line
line_here lines seen rest line all = ap (λ x. line_at x (length seen)) (sym all) ∙ get_or-append_seam seen line rest (0, [])

-- its fault
fault_here : (lines seen rest : List (ℕ × List ℕ)) (line : ℕ × List ℕ) (s : Sheet) (r : Result Sheet LineFault) → seen ++ line ∷ rest ≡ lines → s ≡ sheet_of (statements seen) → said_below s (line_says line.1) ≡ r
    → fault_at lines (length seen) ≡ result_err r
fault_here lines seen rest line s r all is says =
    let above : take (length seen) lines ≡ seen = ap (take (length seen)) (sym all) ∙ take-append_seam seen (line ∷ rest) in
    ap (λ x. result_err (said_below (sheet_of (statements x)) (line_says (line_at lines (length seen)).1))) above
    ∙ ap (λ x. result_err (said_below x (line_says (line_at lines (length seen)).1))) (sym is)
    ∙ ap (λ (x : ℕ × List ℕ). result_err (said_below s (line_says x.1))) (line_here lines seen rest line all)
    ∙ ap result_err says

statements_more : (seen : List (ℕ × List ℕ)) (line : ℕ × List ℕ) (o : Option Said) → Ok o ≡ line_says line.1 → statements seen ++ cons_option o [] ≡ statements (seen ++ line ∷ [])
statements_more seen line o says =
    ap (λ r. statements seen ++ cons_option (result_unwrap_or r None) []) says
    ∙ sym (filter_map-append (λ (x : ℕ × List ℕ). result_unwrap_or (line_says x.1) None) seen (line ∷ []))

pub record IsMore (seen : List (ℕ × List ℕ)) (line : ℕ × List ℕ) (after : Sheet) : Type 0 where
  pub is : after ≡ sheet_of (statements (seen ++ line ∷ []))
  pub kept : AreSaid after

sheet_more : (seen : List (ℕ × List ℕ)) (line : ℕ × List ℕ) (s after : Sheet) (says : Result (Option Said) LineFault) → says ≡ line_says line.1 → s ≡ sheet_of (statements seen)
    → IfOk says (λ said. IfSome said IsSaid) → AreSaid s → said_below s says ≡ Ok after → IsMore seen line after
sheet_more seen line s after (Err fault) same is said kept e = cc
sheet_more seen line s after (Ok None) same is said kept e =
    let stays : s ≡ after = cc in
    record {
      is = sym stays ∙ is ∙ ap sheet_of (sym (append-nil (statements seen)) ∙ statements_more seen line None same);
      kept = subst AreSaid stays kept;
    }
sheet_more seen line s after (Ok (Some this)) same is said kept e =
    record {
      is = with_said (statements seen) this after said (ap (λ x. with x this) (sym is) ∙ e) ∙ ap sheet_of (statements_more seen line (Some this) same);
      kept = with_kept s this after kept said e;
    }

numbered_ok : (number : ℕ) (r : Result Sheet LineFault) (after : Sheet) → numbered number r ≡ Ok after → r ≡ Ok after
numbered_ok number (Ok s) after e = cc
numbered_ok number (Err fault) after e = cc

numbered_err : (number : ℕ) (r : Result Sheet LineFault) (fault : SheetFault) → numbered number r ≡ Err fault → (why : LineFault) × (r ≡ Err why) × (Line number why ≡ fault)
numbered_err number (Ok s) fault e = cc
numbered_err number (Err why) fault e = (why, refl, cc)

-- the next line is no fault
pub read_further : {X : Type 0} (view : X → ℕ × List ℕ) (lines left rest : List (ℕ × List ℕ)) (given : List X) (item : X) (s after : Sheet) → IsRead lines (map view given) left s → left ≡ view item ∷ rest
    → IfOk (line_says (view item).1) (λ said. IfSome said IsSaid) → Ok after ≡ numbered (view item).0 (said_below s (line_says (view item).1)) → IsRead lines (map view (given ++ item ∷ [])) rest after
read_further view lines left rest given item s after read next said tells =
    let seen = map view given in
    let line = view item in
    let shown = map_push view given item in
    let all : seen ++ line ∷ rest ≡ lines = ap (λ l. seen ++ l) (sym next) ∙ read.all in
    let ok = numbered_ok line.0 (said_below s (line_says line.1)) after (sym tells) in
    let here : fault_at lines (length seen) ≡ None = fault_here lines seen rest line s (Ok after) all read.is ok in
    let more = sheet_more seen line s after (line_says line.1) refl read.is said read.kept ok in
    subst (λ these. IsRead lines these rest after) (sym shown) (record {
      all = append_assoc seen (line ∷ []) rest ∙ all;
      is = more.is;
      sound = λ above lt. below_more (λ x. fault_at lines x ≡ None) (length seen) read.sound here above (omega (arith, lt, length_push seen line));
      kept = more.kept;
    })

-- the next line's fault refuses the text
pub refused_here : {X : Type 0} (view : X → ℕ × List ℕ) (text : List ℕ) (left rest : List (ℕ × List ℕ)) (given : List X) (item : X) (s : Sheet) (fault : SheetFault) → IsRead (filled_lines text) (map view given) left s
    → left ≡ view item ∷ rest → Err fault ≡ numbered (view item).0 (said_below s (line_says (view item).1)) → Refuses text fault
refused_here view text left rest given item s fault read next tells =
    let seen = map view given in
    let line = view item in
    let all : seen ++ line ∷ rest ≡ filled_lines text = ap (λ l. seen ++ l) (sym next) ∙ read.all in
    let why = numbered_err line.0 (said_below s (line_says line.1)) fault (sym tells) in
    let first : IsFirstFault text line.0 why.0 = record {
      above = length seen;
      here = fault_here (filled_lines text) seen rest line s (Err why.0) all read.is why.1;
      none_above = read.sound;
      told = ap (λ (x : ℕ × List ℕ). x.0) (sym (line_here (filled_lines text) seen rest line all));
    } in
    subst (Refuses text) why.2 first

-- past the last line no line is at fault
none_past : (lines : List (ℕ × List ℕ)) (n : ℕ) → length lines ≤ n → fault_at lines n ≡ None
none_past lines n past = ap (λ (line : ℕ × List ℕ). result_err (said_below (sheet_of (statements (take n lines))) (line_says line.1))) (get_or_past lines n (0, []) past)

pub record IsAllRead (text : List ℕ) (s : Sheet) : Type 0 where
  pub sound : (above : ℕ) → fault_at (filled_lines text) above ≡ None
  pub means : meaning_of s ≡ text_means text

-- all lines were read
pub all_read : (text : List ℕ) (seen left : List (ℕ × List ℕ)) (s : Sheet) → IsRead (filled_lines text) seen left s → left ≡ [] → IsAllRead text s
all_read text seen left s read end =
    let all : seen ≡ filled_lines text = sym (append-nil seen) ∙ ap (λ rest. seen ++ rest) (sym end) ∙ read.all in
    record {
      sound = λ above. elim (cases_lt above (length (filled_lines text))) [
        | inl within ↦ read.sound above (omega (arith, within, ap length all))
        | inr past ↦ none_past (filled_lines text) above past
      ];
      means = ap meaning_of (read.is ∙ ap (λ lines. sheet_of (statements lines)) all);
    }

told_of : (text : List ℕ) (means : Result Parameters Lack) (r : Result Parameters SheetFault) → ((above : ℕ) → fault_at (filled_lines text) above ≡ None) → means ≡ text_means text → r ≡ of_whole means
    → IfOk r (IsSheet text) × IfErr r (Refuses text)
told_of text (Ok m) r sound is e = subst (λ x. IfOk x (IsSheet text) × IfErr x (Refuses text)) (sym e) (record { sound = sound; means = sym is }, tt)
told_of text (Err lack) r sound is e = subst (λ x. IfOk x (IsSheet text) × IfErr x (Refuses text)) (sym e) (tt, record { sound = sound; lacks = sym is })

pub told : (text : List ℕ) (s : Sheet) (r : Result Parameters SheetFault) → IsAllRead text s → r ≡ of_whole (meaning_of s) → IfOk r (IsSheet text) × IfErr r (Refuses text)
told text s r read e = told_of text (meaning_of s) r read.sound read.means e
