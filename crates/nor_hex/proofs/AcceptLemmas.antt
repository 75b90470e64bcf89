-- An accepted text has no fault.
use Prim.Native.Nat.{zero}
use Rattle.std.proofs.Common.{◌≡◌, ◌≢◌, ℕ, suc, ◌-◌, ◌≤◌, List, [], ◌∷◌, ◌++◌, map, length, take, drop, slice_get, Some, Result, Ok, Err, refl, sym, ap, subst, ◌∙◌, arith}
use Rattle.std.specs.Prelude.{IfErr}
use Rattle.std.specs.List.{list_any}
use Rattle.std.proofs.lemmas.List.{take-append-drop}
use Rattle.nor_hex.specs.declared.fault.HexFault.{HexFault}
use Rattle.nor_hex.specs.declared.fault.HexFault.TheVariants.{NoColon, BadDigit, BadLength, BadSum, BadType, Conflict, NoEnd, AfterEnd, Memory}
use Rattle.nor_lines.specs.Lines.{filled_lines}
use Rattle.nor_hex.specs.Record.{Record}
use Rattle.nor_hex.specs.Records.{record_at, line_records}
use Rattle.nor_hex.specs.Image.{Puts}
use Rattle.nor_hex.specs.Faults.{is_end, HasConflict, IsAccepted, IsCause, IsLineFault, IsFault}
use Rattle.nor_hex.proofs.ListLemmas.{get-below}
use Rattle.nor_hex.proofs.PutLemmas.{puts_more, any-take_more}

abbrev item_of : Record → Result Record HexFault
item_of line = Ok line

same_oks : (xs ys : List Record) → map item_of xs ≡ map item_of ys → xs ≡ ys
same_oks [] [] e = refl
same_oks [] (y ∷ ys) e = absurd cc
same_oks (x ∷ xs) [] e = absurd cc
same_oks (x ∷ xs) (y ∷ ys) e =
    let head : x ≡ y = cc in
    let tail : map item_of xs ≡ map item_of ys = cc in
    let rest = same_oks xs ys tail in cc

take-map : {X Y : Type 0} (f : X → Y) (xs : List X) (n : ℕ) → take n (map f xs) ≡ map f (take n xs)
take-map f xs zero = refl
take-map f [] (suc n) = refl
take-map f (x ∷ xs) (suc n) = ap (λ ys. f x ∷ ys) (take-map f xs n)

get-map : {X Y : Type 0} (f : X → Y) (xs : List X) (i : ℕ) (x : X) → slice_get xs i ≡ Some x → slice_get (map f xs) i ≡ Some (f x)
get-map f [] i x e = absurd cc
get-map f (y ∷ xs) zero x e = let same : y ≡ x = cc in ap (λ z. Some (f z)) same
get-map f (y ∷ xs) (suc i) x e = get-map f xs i x e

get-oks : (xs : List Record) (i : ℕ) (item : Result Record HexFault) → slice_get (map Ok xs) i ≡ Some item → (x : Record) × (item ≡ Ok x) × (slice_get xs i ≡ Some x)
get-oks [] i item e = absurd cc
get-oks (x ∷ xs) zero item e = (x, cc, refl)
get-oks (x ∷ xs) (suc i) item e = get-oks xs i item e

take-last : {X : Type 0} (xs : List X) (i : ℕ) (x : X) → slice_get xs i ≡ Some x → take (suc i) xs ≡ take i xs ++ x ∷ []
take-last [] i x e = absurd cc
take-last (y ∷ xs) zero x e = let same : y ≡ x = cc in ap (λ z. z ∷ []) same
take-last (y ∷ xs) (suc i) x e = ap (λ zs. y ∷ zs) (take-last xs i x e)

-- what holds at a line of an accepted text
record IsAt (records earlier : List Record) (place : ℕ) (item : Result Record HexFault) : Type 0 where
  this : Record
  is : item ≡ Ok this
  here : slice_get records place ≡ Some this
  before : earlier ≡ take place records

at_line : (text : List ℕ) (records earlier : List Record) (place : ℕ) (line : ℕ × List ℕ) → line_records text ≡ map Ok records → slice_get (filled_lines text) place ≡ Some line → take place (line_records text) ≡ map Ok earlier → IsAt records earlier place (record_at line)
at_line text records earlier place line each here before =
    let found = get-oks records place (record_at line) (ap (λ items. slice_get items place) (sym each) ∙ get-map record_at (filled_lines text) place line here) in
    record {
      this = found.0;
      is = found.1;
      here = found.2;
      before = same_oks earlier (take place records) (sym before ∙ ap (take place) each ∙ take-map Ok records place);
    }

no_cause : (text : List ℕ) (records earlier : List Record) (place : ℕ) (line : ℕ × List ℕ) (fault : HexFault) → IsAccepted text records → IsAt records earlier place (record_at line) → IsCause earlier line fault → ⊥
no_cause text records earlier place line (AfterEnd n) accepted at cause =
    let short : place ≤ length records - 1 = omega (arith, get-below records place at.this at.here) in
    let ended = any-take_more is_end records place (length records - 1) short (ap (list_any is_end) (sym at.before) ∙ cause.0) in
    let none = accepted.faultless.end_is_last in cc
no_cause text records earlier place line (Conflict n) accepted at cause =
    clash.differ (accepted.faultless.consistent clash.address clash.first clash.second (whole clash.first clash.puts_first) (whole clash.second clash.puts_second))
  where
    clash : HasConflict (earlier ++ cause.2.0 ∷ [])
    clash = cause.2.2

    this_is : cause.2.0 ≡ at.this
    this_is = let e : item_of cause.2.0 ≡ item_of at.this = sym cause.2.1 ∙ at.is in cc

    front : earlier ++ cause.2.0 ∷ [] ≡ take (suc place) records
    front = ap (λ this. earlier ++ this ∷ []) this_is ∙ ap (λ es. es ++ at.this ∷ []) at.before ∙ sym (take-last records place at.this at.here)

    whole : (b : ℕ) → Puts (earlier ++ cause.2.0 ∷ []) clash.address b → Puts records clash.address b
    whole b puts = subst (λ rs. Puts rs clash.address b) (take-append-drop (suc place) records) (puts_more (take (suc place) records) (drop (suc place) records) clash.address b (subst (λ rs. Puts rs clash.address b) front puts))
no_cause text records earlier place line (NoEnd n) accepted at cause = cause
no_cause text records earlier place line Memory accepted at cause = cause
no_cause text records earlier place line (NoColon n) accepted at cause = let ok = at.is in let err = cause.1 in cc
no_cause text records earlier place line (BadDigit n) accepted at cause = let ok = at.is in let err = cause.1 in cc
no_cause text records earlier place line (BadLength n) accepted at cause = let ok = at.is in let err = cause.1 in cc
no_cause text records earlier place line (BadSum n) accepted at cause = let ok = at.is in let err = cause.1 in cc
no_cause text records earlier place line (BadType n) accepted at cause = let ok = at.is in let err = cause.1 in cc

no_line_fault : (text : List ℕ) (records : List Record) (fault : HexFault) → IsAccepted text records → IsLineFault text fault → ⊥
no_line_fault text records fault accepted at = no_cause text records at.earlier at.place at.line fault accepted (at_line text records at.earlier at.place at.line accepted.each at.here at.before) at.cause

-- a text with a fault is not accepted
pub no_fault : (text : List ℕ) (records : List Record) (fault : HexFault) → IsAccepted text records → IsFault text fault → ⊥
no_fault text records (NoEnd n) accepted lacks =
    let same = same_oks records lacks.1.records (sym accepted.each ∙ lacks.1.each) in
    let none = ap (list_any is_end) same ∙ lacks.1.no_end in
    let some = accepted.has_end in cc
no_fault text records (NoColon n) accepted at = no_line_fault text records (NoColon n) accepted at
no_fault text records (BadDigit n) accepted at = no_line_fault text records (BadDigit n) accepted at
no_fault text records (BadLength n) accepted at = no_line_fault text records (BadLength n) accepted at
no_fault text records (BadSum n) accepted at = no_line_fault text records (BadSum n) accepted at
no_fault text records (BadType n) accepted at = no_line_fault text records (BadType n) accepted at
no_fault text records (Conflict n) accepted at = no_line_fault text records (Conflict n) accepted at
no_fault text records (AfterEnd n) accepted at = no_line_fault text records (AfterEnd n) accepted at
no_fault text records Memory accepted at = no_line_fault text records Memory accepted at

-- so an accepted text is refused only by out of memory
pub only_memory : (text : List ℕ) (records : List Record) (fault : HexFault) → IsAccepted text records → (fault ≢ Memory → IsFault text fault) → fault ≡ Memory
only_memory text records (NoEnd n) accepted real = absurd (no_fault text records (NoEnd n) accepted (real (λ e. cc)))
only_memory text records (NoColon n) accepted real = absurd (no_fault text records (NoColon n) accepted (real (λ e. cc)))
only_memory text records (BadDigit n) accepted real = absurd (no_fault text records (BadDigit n) accepted (real (λ e. cc)))
only_memory text records (BadLength n) accepted real = absurd (no_fault text records (BadLength n) accepted (real (λ e. cc)))
only_memory text records (BadSum n) accepted real = absurd (no_fault text records (BadSum n) accepted (real (λ e. cc)))
only_memory text records (BadType n) accepted real = absurd (no_fault text records (BadType n) accepted (real (λ e. cc)))
only_memory text records (Conflict n) accepted real = absurd (no_fault text records (Conflict n) accepted (real (λ e. cc)))
only_memory text records (AfterEnd n) accepted real = absurd (no_fault text records (AfterEnd n) accepted (real (λ e. cc)))
only_memory text records Memory accepted real = refl

pub refused_for_memory : {T : Type 0} → (text : List ℕ) (records : List Record) (result : Result T HexFault) → IsAccepted text records → IfErr result (λ fault. fault ≢ Memory → IsFault text fault) → IfErr result (λ fault. fault ≡ Memory)
refused_for_memory text records (Ok image) accepted told = told
refused_for_memory text records (Err fault) accepted told = only_memory text records fault accepted told
