-- The first match in the instruction table is the only one.
use Rattle.std.proofs.Common.{◌≡◌, ◌≢◌, ℕ, zero, suc, ◌<◌, Bool, true, false, not, cond, if◌then◌else◌, ◌&&◌, ◌||◌, ◌==◌, List, [], ◌∷◌, ◌++◌, length, map, get_or, Some, refl, sym, ◌∙◌, ap, arith, subst, eqb-true, eq-eqb}
use Rattle.std.proofs.Math.Bool.{and-false, or-true}
use Rattle.std.proofs.lemmas.Bool.{and_parts, ne_eqb, not-true, or_parts}
use Rattle.std.specs.List.{find, list_any, Contains}
use Rattle.nor_base.specs.Parameters.{Parameters}
use Rattle.nor_base.specs.Instructions.{Row, IsRow, row_of, table, common_rows, own_rows, offered_opcodes}
use Rattle.nor_base.specs.Accepted.{IsAccepted, are_distinct}

-- the row has the opcode, and is offered
abbrev fits : ℕ → Row → Bool
fits opcode r = (opcode == r.opcode) && r.offered

-- what is known of a row that was found
record IsFound (rows : List Row) (opcode : ℕ) (r : Row) : Type 0 where
  listed : Contains rows r
  offered : r.offered ≡ true
  by_opcode : r.opcode ≡ opcode

fits_here : (opcode : ℕ) (r : Row) → fits opcode r ≡ true → (r.offered ≡ true) × (r.opcode ≡ opcode)
fits_here opcode r h =
    ((and_parts (opcode == r.opcode) r.offered h).1, sym (eqb-true opcode r.opcode (and_parts (opcode == r.opcode) r.offered h).0))

found_later : (y : Row) (rows : List Row) (opcode : ℕ) (r : Row) → IsFound rows opcode r → IsFound (y ∷ rows) opcode r
found_later y rows opcode r h = record {
  listed = (suc h.listed.0, omega (arith, h.listed.1), h.listed.2);
  offered = h.offered;
  by_opcode = h.by_opcode;
}

found_first : (y : Row) (rows : List Row) (opcode : ℕ) → fits opcode y ≡ true → IsFound (y ∷ rows) opcode y
found_first y rows opcode h = let here = fits_here opcode y h in record {
  listed = (0, omega arith, refl);
  offered = here.0;
  by_opcode = here.1;
}

found_step : (y : Row) (rows : List Row) (opcode : ℕ) (r : Row) (b : Bool) → fits opcode y ≡ b
    → (find (fits opcode) rows ≡ Some r → IsFound rows opcode r)
    → cond b (Some y) (find (fits opcode) rows) ≡ Some r → IsFound (y ∷ rows) opcode r
found_step y rows opcode r true is later h = let same : y ≡ r = cc in subst (IsFound (y ∷ rows) opcode) same (found_first y rows opcode is)
found_step y rows opcode r false is later h = found_later y rows opcode r (later h)

is_found : (rows : List Row) (opcode : ℕ) (r : Row) → find (fits opcode) rows ≡ Some r → IsFound rows opcode r
is_found [] opcode r h = cc
is_found (y ∷ rows) opcode r h = found_step y rows opcode r (fits opcode y) refl (is_found rows opcode r) h

pub row_is_there : (m : Parameters) (mode4 : Bool) (opcode : ℕ) (r : Row) → row_of m mode4 opcode ≡ Some r → IsRow m mode4 opcode r
unfolding row_of
row_is_there m mode4 opcode r h = let found = is_found (table m mode4) opcode r h in record {
  listed = found.listed;
  offered = found.offered;
  by_opcode = found.by_opcode;
}

-- what holds of some opcode of the later rows holds of some opcode of all
among_later : (test : ℕ → Bool) (opcode : ℕ) (opcodes : List ℕ) (b : Bool) → list_any test opcodes ≡ true
    → list_any test (if b then opcode ∷ opcodes else opcodes) ≡ true
among_later test opcode opcodes true h = ap (λ rest. test opcode || rest) h ∙ or-true (test opcode)
among_later test opcode opcodes false h = h

-- the opcode of an offered row is among those offered
among_offered : (rows : List Row) (r : Row) (k : ℕ) → k < length rows → get_or rows k r ≡ r → r.offered ≡ true
    → list_any (λ opcode. r.opcode == opcode) (offered_opcodes rows) ≡ true
among_offered [] r k h here offered = absurd (omega arith)
among_offered (y ∷ rows) r zero h here offered =
    let is_offered : y.offered ≡ true = ap (λ (row : Row). row.offered) here ∙ offered in
    let same : (r.opcode == y.opcode) ≡ true = eq-eqb r.opcode y.opcode (sym (ap (λ (row : Row). row.opcode) here)) in
    rw (is_offered, same) refl
among_offered (y ∷ rows) r (suc k) h here offered =
    among_later (λ opcode. r.opcode == opcode) y.opcode (offered_opcodes rows) y.offered (among_offered rows r k (omega arith) here offered)

-- an opcode that stands among others isn't distinct from them
not_among : (x y : ℕ) (others : List ℕ) → list_any (λ opcode. y == opcode) others ≡ true → not (list_any (λ opcode. x == opcode) others) ≡ true → x ≢ y
not_among x y others among apart same =
    let both : list_any (λ opcode. x == opcode) others ≡ true = subst (λ n. list_any (λ opcode. n == opcode) others ≡ true) (sym same) among in
    let absurdly : not true ≡ true = subst (λ b. not b ≡ true) both apart in cc

is_apart : (b : Bool) (opcode : ℕ) (y : Row) → y.offered ≡ b → (b ≡ true → opcode ≢ y.opcode) → fits opcode y ≡ false
is_apart true opcode y offered apart = ap (λ b. b && y.offered) (ne_eqb opcode y.opcode (apart refl))
is_apart false opcode y offered apart = ap (λ b. (opcode == y.opcode) && b) offered ∙ and-false (opcode == y.opcode)

skipped : (y : Row) (rows : List Row) (opcode : ℕ) (r : Row) → fits opcode y ≡ false → find (fits opcode) rows ≡ Some r → find (fits opcode) (y ∷ rows) ≡ Some r
skipped y rows opcode r misfit found = rw misfit found

distinct_tail : (b : Bool) (opcode : ℕ) (opcodes : List ℕ) → are_distinct (if b then opcode ∷ opcodes else opcodes) ≡ true → are_distinct opcodes ≡ true
distinct_tail true opcode opcodes h = (and_parts (not (list_any (λ other. opcode == other) opcodes)) (are_distinct opcodes) h).1
distinct_tail false opcode opcodes h = h

distinct_head : (b : Bool) (opcode : ℕ) (opcodes : List ℕ) → are_distinct (if b then opcode ∷ opcodes else opcodes) ≡ true → b ≡ true
    → not (list_any (λ other. opcode == other) opcodes) ≡ true
distinct_head true opcode opcodes h is = (and_parts (not (list_any (λ other. opcode == other) opcodes)) (are_distinct opcodes) h).0
distinct_head false opcode opcodes h is = cc

-- where the offered opcodes are distinct, the look-up finds each offered row
finds : (rows : List Row) (opcode : ℕ) (r : Row) (k : ℕ) → are_distinct (offered_opcodes rows) ≡ true
    → k < length rows → get_or rows k r ≡ r → r.offered ≡ true → r.opcode ≡ opcode → find (fits opcode) rows ≡ Some r
finds [] opcode r k distinct h here offered is = absurd (omega arith)
finds (y ∷ rows) opcode r zero distinct h here offered is =
    let is_offered : y.offered ≡ true = ap (λ (row : Row). row.offered) here ∙ offered in
    let same : (opcode == y.opcode) ≡ true = eq-eqb opcode y.opcode (sym (ap (λ (row : Row). row.opcode) here ∙ is)) in
    let fit : fits opcode y ≡ true = ap (λ b. b && y.offered) same ∙ is_offered in
    rw fit (ap Some here)
finds (y ∷ rows) opcode r (suc k) distinct h here offered is =
    let later = finds rows opcode r k (distinct_tail y.offered y.opcode (offered_opcodes rows) distinct) (omega arith) here offered is in
    let apart : y.offered ≡ true → opcode ≢ y.opcode = λ is_offered same.
    not_among y.opcode r.opcode (offered_opcodes rows) (among_offered rows r k (omega arith) here offered)
    (distinct_head y.offered y.opcode (offered_opcodes rows) distinct is_offered) (sym same ∙ sym is) in
    skipped y rows opcode r (is_apart y.offered opcode y refl apart) later

-- the opcodes of some rows, offered or not
abbrev opcodes_of : List Row → List ℕ
opcodes_of rows = map (λ r. r.opcode) rows

none_before : (b : Bool) (test : ℕ → Bool) (opcode : ℕ) (opcodes others : List ℕ) → test opcode ≡ false → list_any test (opcodes ++ others) ≡ false
    → list_any test ((if b then opcode ∷ opcodes else opcodes) ++ others) ≡ false
none_before true test opcode opcodes others here later = rw here later
none_before false test opcode opcodes others here later = later

none_of_fewer : (rows : List Row) (others : List ℕ) (test : ℕ → Bool) → list_any test (opcodes_of rows ++ others) ≡ false
    → list_any test (offered_opcodes rows ++ others) ≡ false
none_of_fewer [] others test h = h
none_of_fewer (r ∷ rows) others test h =
    none_before r.offered test r.opcode (offered_opcodes rows) others (or_parts (test r.opcode) _ h).0
    (none_of_fewer rows others test (or_parts (test r.opcode) _ h).1)

distinct_before : (b : Bool) (opcode : ℕ) (opcodes others : List ℕ) → list_any (λ other. opcode == other) (opcodes ++ others) ≡ false
    → are_distinct (opcodes ++ others) ≡ true → are_distinct ((if b then opcode ∷ opcodes else opcodes) ++ others) ≡ true
distinct_before true opcode opcodes others apart later = rw apart later
distinct_before false opcode opcodes others apart later = later

distinct_offered : (rows : List Row) (others : List ℕ) → are_distinct (opcodes_of rows ++ others) ≡ true → are_distinct (offered_opcodes rows ++ others) ≡ true
distinct_offered [] others h = h
distinct_offered (r ∷ rows) others h =
    let apart = not-true _ (and_parts (not (list_any (λ other. r.opcode == other) (opcodes_of rows ++ others))) _ h).0 in
    distinct_before r.offered r.opcode (offered_opcodes rows) others (none_of_fewer rows others (λ other. r.opcode == other) apart)
    (distinct_offered rows others (and_parts (not (list_any (λ other. r.opcode == other) (opcodes_of rows ++ others))) _ h).1)

offered_and_more : (b : Bool) (opcode : ℕ) (xs ys : List ℕ) → (if b then opcode ∷ (xs ++ ys) else (xs ++ ys)) ≡ (if b then opcode ∷ xs else xs) ++ ys
offered_and_more true opcode xs ys = refl
offered_and_more false opcode xs ys = refl

offered_opcodes-append : (xs ys : List Row) → offered_opcodes (xs ++ ys) ≡ offered_opcodes xs ++ offered_opcodes ys
offered_opcodes-append [] ys = refl
offered_opcodes-append (x ∷ xs) ys = rw (offered_opcodes-append xs ys) (offered_and_more x.offered x.opcode (offered_opcodes xs) (offered_opcodes ys))

table_distinct : (m : Parameters) (mode4 : Bool) → IsAccepted m → are_distinct (offered_opcodes (table m mode4)) ≡ true
table_distinct m mode4 accepted =
    subst (λ opcodes. are_distinct opcodes ≡ true) (sym (offered_opcodes-append (common_rows m mode4) (own_rows m mode4)))
    (distinct_offered (common_rows m mode4) (offered_opcodes (own_rows m mode4)) accepted.opcodes)

pub row_is_found : (m : Parameters) (mode4 : Bool) (opcode : ℕ) (r : Row) → IsAccepted m → IsRow m mode4 opcode r → row_of m mode4 opcode ≡ Some r
unfolding row_of
row_is_found m mode4 opcode r accepted h =
    finds (table m mode4) opcode r h.listed.0 (table_distinct m mode4 accepted) h.listed.1 h.listed.2 h.offered h.by_opcode

pub one_row : (m : Parameters) (mode4 : Bool) (opcode : ℕ) (r s : Row) → IsAccepted m → IsRow m mode4 opcode r → IsRow m mode4 opcode s → r ≡ s
one_row m mode4 opcode r s accepted first second =
    let found = row_is_found m mode4 opcode r accepted first in
    let found_too = row_is_found m mode4 opcode s accepted second in
    let same : Some r ≡ Some s = sym found ∙ found_too in cc
