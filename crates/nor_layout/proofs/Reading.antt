-- One line more of a layout.
use borrow.Author.Count.{below_more}
use Rattle.std.proofs.Common.{◌≡◌, ◌∙◌, ℕ, ◌+◌, ◌<◌, ◌≤◌, Bool, true, false, if◌then◌else◌, List, [], ◌∷◌, ◌++◌, length, map, take, Option, Some, None, Result, Ok, Err, refl, sym, ap, subst, ⊎_elim, append-nil, arith}
use Rattle.std.specs.List.{filter_map}
use Rattle.std.specs.Prelude.{MatchResult}
use Rattle.std.specs.Option.{option_to_list}
use Rattle.std.specs.Result.{result_unwrap_or, result_err}
use Rattle.std.proofs.Math.Seq.{take-append_seam, get_or-append_seam}
use Rattle.std.proofs.lemmas.Bool.{cases_lt}
use Rattle.std.proofs.lemmas.List.{append_assoc, length_push, map_push, get_or_past}
use Rattle.std.proofs.lemmas.List.Elements.{filter_map-append}
use Rattle.nor_lines.specs.Lines.{filled_lines}
use Rattle.nor_layout.specs.declared.cause.Cause.{Cause}
use Rattle.nor_layout.specs.declared.cause.Cause.TheVariants.{BadLine, BadNumber, EndBeforeStart, RepeatedName, TooMany}
use Rattle.nor_layout.specs.Region.{Region, AreRegions}
use Rattle.nor_layout.specs.Line.{line_says, said_below, line_below}
use Rattle.nor_layout.specs.declared.fault.LayoutFault.{LayoutFault}
use Rattle.nor_layout.specs.Cause.{fault_of}
use Rattle.nor_layout.specs.Text.{regions_of, line_at, cause_at, IsLayout, IsFirstFault, Refuses}
use Rattle.nor_layout.proofs.Sound.{regions_kept}

-- the tests of a region that pass leave it
tested : (taken many : Bool) (region : Region) (said : Option Region) → (if taken then Err RepeatedName else if many then Err TooMany else Ok (Some region)) ≡ Ok said → Some region ≡ said
tested true many region said e = cc
tested false true region said e = cc
tested false false region said e = cc

-- what a line says below others it says alone
said_alone : (above : List Region) (said : Result (Option Region) Cause) (o : Option Region) → said_below above said ≡ Ok o → result_unwrap_or said None ≡ o
said_alone above (Err cause) o e = cc
said_alone above (Ok None) o e = cc
said_alone above (Ok (Some region)) o e = tested _ _ region o e

filter_map_one : {X Y : Type 0} (f : X → Option Y) (x : X) (o : Option Y) → f x ≡ o → filter_map f (x ∷ []) ≡ option_to_list o
filter_map_one f x None e = rw e refl
filter_map_one f x (Some y) e = rw e refl

-- the regions of one line more
regions_more : (seen : List (ℕ × List ℕ)) (line : ℕ × List ℕ) (regions : List Region) (o : Option Region) → regions ≡ regions_of seen → Ok o ≡ line_below regions line.1 → regions_of (seen ++ line ∷ []) ≡ regions ++ option_to_list o
regions_more seen line regions o spelled says =
    let said : result_unwrap_or (line_says line.1) None ≡ o = said_alone regions (line_says line.1) o (sym says) in
    filter_map-append (λ (x : ℕ × List ℕ). result_unwrap_or (line_says x.1) None) seen (line ∷ [])
    ∙ ap (λ x. regions_of seen ++ x) (filter_map_one (λ (x : ℕ × List ℕ). result_unwrap_or (line_says x.1) None) line o said)
    ∙ ap (λ x. x ++ option_to_list o) (sym spelled)

-- these lines were read: their regions, and no cause; the rest wasn't
pub record IsRead (lines seen rest : List (ℕ × List ℕ)) (regions : List Region) : Type 0 where
  pub all : seen ++ rest ≡ lines
  pub spelled : regions ≡ regions_of seen
  pub sound : (above : ℕ) → above < length seen → cause_at lines above ≡ None
  pub kept : AreRegions regions

-- the next line
line_here : (lines seen rest : List (ℕ × List ℕ)) (line : ℕ × List ℕ) → seen ++ line ∷ rest ≡ lines → line_at lines (length seen) ≡ line
line_here lines seen rest line all = ap (λ x. line_at x (length seen)) (sym all) ∙ get_or-append_seam seen line rest (0, [])

-- its cause
cause_here : (lines seen rest : List (ℕ × List ℕ)) (line : ℕ × List ℕ) (regions : List Region) (r : Result (Option Region) Cause) → seen ++ line ∷ rest ≡ lines → regions ≡ regions_of seen → r ≡ line_below regions line.1 → cause_at lines (length seen) ≡ result_err r
cause_here lines seen rest line regions r all spelled says =
    let above : take (length seen) lines ≡ seen = ap (take (length seen)) (sym all) ∙ take-append_seam seen (line ∷ rest) in
    ap (λ x. result_err (line_below (regions_of x) (line_at lines (length seen)).1)) above
    ∙ ap (λ x. result_err (line_below x (line_at lines (length seen)).1)) (sym spelled)
    ∙ ap (λ (x : ℕ × List ℕ). result_err (line_below regions x.1)) (line_here lines seen rest line all)
    ∙ ap result_err (sym says)

-- one line more that is skipped or spells a region
one_more : (lines seen rest : List (ℕ × List ℕ)) (line : ℕ × List ℕ) (regions after : List Region) (o : Option Region) → IsRead lines seen (line ∷ rest) regions → Ok o ≡ line_below regions line.1 → after ≡ regions ++ option_to_list o → IsRead lines (seen ++ line ∷ []) rest after
one_more lines seen rest line regions after o read says added =
    let here : cause_at lines (length seen) ≡ None = cause_here lines seen rest line regions (Ok o) read.all read.spelled says in
    record {
      all = append_assoc seen (line ∷ []) rest ∙ read.all;
      spelled = added ∙ sym (regions_more seen line regions o read.spelled says);
      sound = λ above lt. below_more (λ x. cause_at lines x ≡ None) (length seen) read.sound here above (omega (arith, length_push seen line));
      kept = subst AreRegions (sym added) (regions_kept regions line.1 o read.kept says);
    }

refuses_by : (text : List ℕ) (cause : Cause) (number : ℕ) → IsFirstFault text (fault_of cause number) → Refuses text (fault_of cause number)
refuses_by text BadLine number first = first
refuses_by text BadNumber number first = first
refuses_by text EndBeforeStart number first = first
refuses_by text RepeatedName number first = first
refuses_by text TooMany number first = first

-- one line more that has a cause
first_fault : (text : List ℕ) (seen rest : List (ℕ × List ℕ)) (line : ℕ × List ℕ) (regions : List Region) (cause : Cause) → IsRead (filled_lines text) seen (line ∷ rest) regions → Err cause ≡ line_below regions line.1 → Refuses text (fault_of cause line.0)
first_fault text seen rest line regions cause read says =
    let first : IsFirstFault text (fault_of cause line.0) = record {
      above = length seen;
      cause = cause;
      here = cause_here (filled_lines text) seen rest line regions (Err cause) read.all read.spelled says;
      none_above = read.sound;
      told = ap (λ (x : ℕ × List ℕ). fault_of cause x.0) (sym (line_here (filled_lines text) seen rest line read.all));
    } in
    refuses_by text cause line.0 first

-- what the call says of a line
abbrev pub Tells : Result (Option Region) Cause → ℕ → Result (Option Region) LayoutFault → Type 0
Tells said number r = MatchResult said (λ o. r ≡ Ok o) (λ cause. r ≡ Err (fault_of cause number))

fault_told : (said : Result (Option Region) Cause) (number : ℕ) (fault : LayoutFault) → Tells said number (Err fault) → (cause : Cause) × (Err cause ≡ said) × (fault ≡ fault_of cause number)
fault_told (Ok o) number fault told = cc
fault_told (Err cause) number fault told = (cause, refl, cc)

region_told : (said : Result (Option Region) Cause) (number : ℕ) (o : Option Region) → Tells said number (Ok o) → Ok o ≡ said
region_told (Ok x) number o told = cc
region_told (Err cause) number o told = cc

-- the next line's fault refuses the text
pub refused_here : (text : List ℕ) (seen left rest : List (ℕ × List ℕ)) (line : ℕ × List ℕ) (regions : List Region) (fault : LayoutFault) → IsRead (filled_lines text) seen left regions → left ≡ line ∷ rest
    → Tells (line_below regions line.1) line.0 (Err fault) → Refuses text fault
refused_here text seen left rest line regions fault read next tells =
    let told = fault_told (line_below regions line.1) line.0 fault tells in
    subst (Refuses text) (sym told.2) (first_fault text seen rest line regions told.0 (subst (λ left. IsRead (filled_lines text) seen left regions) next read) told.1)

-- the next line has no fault
pub read_further : {X : Type 0} (view : X → ℕ × List ℕ) (lines left rest : List (ℕ × List ℕ)) (given : List X) (item : X) (regions after : List Region) (o : Option Region) → IsRead lines (map view given) left regions → left ≡ view item ∷ rest
    → Tells (line_below regions (view item).1) (view item).0 (Ok o) → after ≡ regions ++ option_to_list o → IsRead lines (map view (given ++ item ∷ [])) rest after
read_further view lines left rest given item regions after o read next tells added =
    subst (λ seen. IsRead lines seen rest after) (sym (map_push view given item))
    (one_more lines (map view given) rest (view item) regions after o (subst (λ left. IsRead lines (map view given) left regions) next read) (region_told (line_below regions (view item).1) (view item).0 o tells) added)

-- past the last line stands no cause
none_past : (lines : List (ℕ × List ℕ)) (n : ℕ) → length lines ≤ n → cause_at lines n ≡ None
none_past lines n past = ap (λ (x : ℕ × List ℕ). result_err (line_below (regions_of (take n lines)) x.1)) (get_or_past lines n (0, []) past)

-- all lines were read
pub all_read : (text : List ℕ) (seen left : List (ℕ × List ℕ)) (regions : List Region) → IsRead (filled_lines text) seen left regions → left ≡ [] → IsLayout text regions
all_read text seen left regions read end =
    let all : seen ≡ filled_lines text = sym (append-nil seen) ∙ ap (λ rest. seen ++ rest) (sym end) ∙ read.all in
    record {
      spelled = read.spelled ∙ ap regions_of all;
      sound = λ above. ⊎_elim (λ lt. read.sound above (omega (arith, ap length all))) (λ ge. none_past (filled_lines text) above ge) (cases_lt above (length (filled_lines text)));
    }
