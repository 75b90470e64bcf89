-- An erase opcode names one kind: an opcode has one row of the instruction table.
use Rattle.std.proofs.Common.{◌≡◌, ℕ, ◌==◌, Bool, true, false, ◌&&◌, ◌||◌, List, [], ◌∷◌, Option, Some, None, refl, sym, ◌∙◌, ap, subst, arith, inl, inr, eqb-true, eq-eqb}
use Rattle.std.specs.Prelude.{find, is_some, Contains}
use Rattle.std.specs.Option.{option_map_or}
use Rattle.std.proofs.Math.Bool.{or-true}
use Rattle.std.proofs.lemmas.Bool.{cases_Bool, and_parts}
use Rattle.nor_base.specs.declared.instruction.What.TheVariants as what
use Rattle.nor_base.specs.declared.meaning.Erase.{Erase}
use Rattle.nor_base.specs.declared.meaning.Strategy.{Strategy}
use Rattle.nor_base.specs.declared.meaning.Strategy.TheVariants.{S1, S2, S3, S4, S5}
use Rattle.nor_base.specs.Accepted.{IsAccepted}
use Rattle.nor_base.specs.Parameters.{Parameters, erase_kind, is_live}
use Rattle.nor_base.specs.Blocks.{Block, IsLegalBlock, kinds}
use Rattle.nor_base.specs.Instructions.{Row, row, dedicated, table, IsRow}
use Rattle.nor_base.specs.Operations.{takes_dedicated, erasing}
use Rattle.nor_base.specs.Strategies.{reaches}
use Rattle.nor_laws.specs.Laws.{OneRow}
use Rattle.nor_geometry.proofs.KindLemmas.{legal_kind}
use Rattle.nor_geometry.proofs.WindowLemmas.{legal_live}
use Rattle.nor_plan_laws.proofs.Erased.Best.{Among}
use Rattle.nor_plan_laws.proofs.Erased.Reached.{four}
use Rattle.nor_times.specs.Busy.{is_named}
use Rattle.nor_times.specs.Law.{ErasesAreNamed}

-- the one among some numbers that passes
find_only : (test : ℕ → Bool) (ks : List ℕ) (k : ℕ) → Among ks k → test k ≡ true → ((j : ℕ) → Among ks j → test j ≡ true → j ≡ k) → find test ks ≡ Some k
find_only test [] k among is only = absurd among
find_only test (x ∷ xs) k among is only = elim (cases_Bool (test x)) [
  | inl here ↦ let same : x ≡ k = only x (inl refl) here in rw here (ap (λ n. Some n) same)
  | inr not_here ↦ elim among [
    | inl same ↦ let both : test x ≡ true = ap test same ∙ is in cc
    | inr later ↦ rw not_here (find_only test xs k later is (λ j at passes. only j (inr at) passes))
  ]
]

-- a kind's two rows
abbrev legacy_row : Parameters → ℕ → Row
legacy_row m k = row (option_map_or (λ erase. erase.op) (erase_kind m k) 0) (is_live m k) (what.Erase k) 3

abbrev dedicated_row : Parameters → ℕ → Row
dedicated_row m k = row (option_map_or (λ op4. op4) (dedicated m k) 0) (is_live m k && is_some (dedicated m k)) (what.Erase k) 4

legacy_listed : (m : Parameters) (k : ℕ) → Among kinds k → Contains (table m false) (legacy_row m k)
legacy_listed m k (inl same) = subst (λ j. Contains (table m false) (legacy_row m j)) same (13, omega arith, refl)
legacy_listed m k (inr (inl same)) = subst (λ j. Contains (table m false) (legacy_row m j)) same (15, omega arith, refl)
legacy_listed m k (inr (inr (inl same))) = subst (λ j. Contains (table m false) (legacy_row m j)) same (17, omega arith, refl)
legacy_listed m k (inr (inr (inr (inl same)))) = subst (λ j. Contains (table m false) (legacy_row m j)) same (19, omega arith, refl)
legacy_listed m k (inr (inr (inr (inr none)))) = absurd none

dedicated_listed : (m : Parameters) (k : ℕ) → Among kinds k → Contains (table m false) (dedicated_row m k)
dedicated_listed m k (inl same) = subst (λ j. Contains (table m false) (dedicated_row m j)) same (14, omega arith, refl)
dedicated_listed m k (inr (inl same)) = subst (λ j. Contains (table m false) (dedicated_row m j)) same (16, omega arith, refl)
dedicated_listed m k (inr (inr (inl same))) = subst (λ j. Contains (table m false) (dedicated_row m j)) same (18, omega arith, refl)
dedicated_listed m k (inr (inr (inr (inl same)))) = subst (λ j. Contains (table m false) (dedicated_row m j)) same (20, omega arith, refl)
dedicated_listed m k (inr (inr (inr (inr none)))) = absurd none

-- a named kind has a row of the opcode
legacy_op : (op : ℕ) (o : Option Erase) → option_map_or (λ erase. op == erase.op) o false ≡ true → option_map_or (λ erase. erase.op) o 0 ≡ op
legacy_op op None h = cc
legacy_op op (Some erase) h = sym (eqb-true op erase.op h)

dedicated_op : (op : ℕ) (o : Option ℕ) → option_map_or (λ op4. op == op4) o false ≡ true → (option_map_or (λ op4. op4) o 0 ≡ op) × (is_some o ≡ true)
dedicated_op op None h = cc
dedicated_op op (Some op4) h = (sym (eqb-true op op4 h), refl)

record HasEraseRow (m : Parameters) (op k : ℕ) : Type 0 where
  pub its_row : Row
  pub is_row : IsRow m false op its_row
  pub its_what : its_row.what ≡ what.Erase k

named_row : (m : Parameters) (op k : ℕ) → Among kinds k → is_named m op k ≡ true → HasEraseRow m op k
named_row m op k among named =
    let parts = and_parts (is_live m k) _ named in
    elim (cases_Bool (option_map_or (λ erase. op == erase.op) (erase_kind m k) false)) [
      | inl legacy ↦ record {
        its_row = legacy_row m k;
        is_row = record { listed = legacy_listed m k among; offered = parts.0; by_opcode = legacy_op op (erase_kind m k) legacy };
        its_what = refl;
      }
      | inr other ↦
          let second : option_map_or (λ op4. op == op4) (dedicated m k) false ≡ true =
          ap (λ b. b || option_map_or (λ op4. op == op4) (dedicated m k) false) (sym other) ∙ parts.1 in
          let found = dedicated_op op (dedicated m k) second in
          record {
            its_row = dedicated_row m k;
            is_row = record { listed = dedicated_listed m k among; offered = ap (λ b. b && is_some (dedicated m k)) parts.0 ∙ found.1; by_opcode = found.0 };
            its_what = refl;
          }
    ]

one_kind : OneRow → (m : Parameters) (op j k : ℕ) → IsAccepted m → HasEraseRow m op j → HasEraseRow m op k → j ≡ k
one_kind law m op j k accepted first second =
    let same = law m false op first.its_row second.its_row accepted first.is_row second.is_row in
    let both : what.Erase j ≡ what.Erase k = sym first.its_what ∙ ap (λ (r : Row). r.what) same ∙ second.its_what in
    cc

-- the opcode that is sent is one of the kind's
legacy_sent : (o : Option Erase) (more : Bool) → is_some o ≡ true → (option_map_or (λ erase. option_map_or (λ erase. erase.op) o 0 == erase.op) o false || more) ≡ true
legacy_sent None more there = cc
legacy_sent (Some erase) more there = rw (eq-eqb erase.op erase.op refl) refl

dedicated_sent : (o : Option ℕ) (first : Bool) → is_some o ≡ true → (first || option_map_or (λ op4. option_map_or (λ op4. op4) o 0 == op4) o false) ≡ true
dedicated_sent None first there = cc
dedicated_sent (Some op4) first there = rw (eq-eqb op4 op4 refl) (or-true first)

-- a strategy that takes the dedicated opcode has it
dedicated_there : (m : Parameters) (by : Strategy) (b : Block) → reaches by m b.kind b.start ≡ true → takes_dedicated by b.start ≡ true
    → is_some (dedicated m b.kind) ≡ true
dedicated_there m S1 b reached takes = cc
dedicated_there m S2 b reached takes = cc
dedicated_there m S3 b reached takes = rw takes at reached
dedicated_there m S4 b reached takes = cc
dedicated_there m S5 b reached takes = cc

sent_named : (m : Parameters) (by : Strategy) (b : Block) → IsAccepted m → IsLegalBlock m b → reaches by m b.kind b.start ≡ true
    → is_named m (erasing m by b).op b.kind ≡ true
sent_named m by b accepted legal reached =
    let live = legal_live m b accepted legal in
    let kind = legal_kind m b.kind b.start legal.legal in
    let there : is_some (erase_kind m b.kind) ≡ true = ap (λ (o : Option Erase). is_some o) kind.there in
    elim (cases_Bool (takes_dedicated by b.start)) [
      | inl takes ↦ rw (live, takes) (dedicated_sent (dedicated m b.kind) _ (dedicated_there m by b reached takes))
      | inr legacy ↦ rw (live, legacy) (legacy_sent (erase_kind m b.kind) _ there)
    ]

pub erases_named : OneRow → ErasesAreNamed
erases_named law m by b accepted legal reached =
    let op = (erasing m by b).op in
    let named = sent_named m by b accepted legal reached in
    let among = four m b.kind accepted (legal_kind m b.kind b.start legal.legal) in
    let its = named_row m op b.kind among named in
    find_only (is_named m op) kinds b.kind among named (λ j at passes. one_kind law m op j b.kind accepted (named_row m op j at passes) its)
