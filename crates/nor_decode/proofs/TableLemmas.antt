-- The instruction table, part by part.
use Rattle.std.proofs.Common.{◌≡◌, ℕ, Bool, true, false, ◌&&◌, ◌==◌, cond, List, [], ◌∷◌, ◌++◌, Option, Some, None, refl}
use Rattle.std.proofs.lemmas.List.{append_assoc}
use Rattle.std.specs.Prelude.{is_some, option_and_then}
use Rattle.std.specs.List.{find}
use Rattle.std.specs.Option.{option_map_or, option_or}
use Rattle.nor_base.specs.declared.meaning.Erase.{Erase}
use Rattle.nor_base.specs.Instructions.{Row}
use Rattle.std.proofs.Math.Bool.{and-false}
use Rattle.nor_decode.specs.Table.{rows_by}

-- the row has the opcode, and is offered
abbrev pub fits : ℕ → Row → Bool
fits opcode r = (opcode == r.opcode) && r.offered

append_step : (b : Bool) (x : Row) (rest later joined : Option Row) → joined ≡ option_or rest later → cond b (Some x) joined ≡ option_or (cond b (Some x) rest) later
append_step true x rest later joined h = refl
append_step false x rest later joined h = h

pub find-append : (test : Row → Bool) (xs ys : List Row) → find test (xs ++ ys) ≡ option_or (find test xs) (find test ys)
find-append test [] ys = refl
find-append test (x ∷ xs) ys = append_step (test x) x (find test xs) (find test ys) (find test (xs ++ ys)) (find-append test xs ys)

none_dead : (opcode : ℕ) (found : Option Erase) (mode4 : Bool) (kind : ℕ) → find (fits opcode) (rows_by false found mode4 kind) ≡ None
none_dead opcode found mode4 kind =
    rw (and-false (opcode == option_map_or (λ erase. erase.op) found 0), and-false (opcode == option_map_or (λ op4. op4) (option_and_then (λ erase. erase.op4) found) 0)) refl

-- a kind that no region allows has no row
pub none_where_no_region : (opcode : ℕ) (found : Option Erase) (allowed mode4 : Bool) (kind : ℕ) → allowed ≡ false
    → find (fits opcode) (rows_by (is_some found && allowed) found mode4 kind) ≡ None
none_where_no_region opcode found true mode4 kind h = cc
none_where_no_region opcode None false mode4 kind h = none_dead opcode None mode4 kind
none_where_no_region opcode (Some erase) false mode4 kind h = none_dead opcode (Some erase) mode4 kind

-- a kind that a region allows is live where it is there
pub same_where_allowed : (opcode : ℕ) (found : Option Erase) (allowed mode4 : Bool) (kind : ℕ) → allowed ≡ true
    → find (fits opcode) (rows_by (is_some found && allowed) found mode4 kind) ≡ find (fits opcode) (rows_by (is_some found) found mode4 kind)
same_where_allowed opcode None allowed mode4 kind h = refl
same_where_allowed opcode (Some erase) true mode4 kind h = refl
same_where_allowed opcode (Some erase) false mode4 kind h = cc

joined : (test : Row → Bool) (xs ys : List Row) (first both : Option Row) → first ≡ find test xs → both ≡ option_or first (find test ys) → both ≡ find test (xs ++ ys)
joined test xs ys first both here next = rw (find-append test xs ys, ← here) next

-- the first row of six parts, looked up part after part
pub found_in_turn : (test : Row → Bool) (common : List Row) (own : Row) (first second third fourth : List Row) (r0 r1 r2 r3 r4 r5 : Option Row)
    → r0 ≡ find test common → r1 ≡ option_or r0 (find test (own ∷ [])) → r2 ≡ option_or r1 (find test first) → r3 ≡ option_or r2 (find test second)
    → r4 ≡ option_or r3 (find test third) → r5 ≡ option_or r4 (find test fourth)
    → r5 ≡ find test (common ++ (own ∷ (first ++ (second ++ (third ++ fourth)))))
found_in_turn test common own first second third fourth r0 r1 r2 r3 r4 r5 h0 h1 h2 h3 h4 h5 =
    let found1 = joined test common (own ∷ []) r0 r1 h0 h1 in
    let found2 = joined test (common ++ own ∷ []) first r1 r2 found1 h2 in
    let found3 = joined test ((common ++ own ∷ []) ++ first) second r2 r3 found2 h3 in
    let found4 = joined test (((common ++ own ∷ []) ++ first) ++ second) third r3 r4 found3 h4 in
    let found5 = joined test ((((common ++ own ∷ []) ++ first) ++ second) ++ third) fourth r4 r5 found4 h5 in
    simp append_assoc at found5
