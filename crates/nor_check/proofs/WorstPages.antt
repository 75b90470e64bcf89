-- The earliest verdict on the chips of each page is the worst.
use Rattle.std.proofs.Common.{◌≡◌, ℕ, ◌==◌, nat_le, Bool, true, false, not, if◌then◌else◌, List, [], ◌∷◌, map, refl, sym, ◌∙◌, ap, subst, inl, inr, eqb-true, eq-eqb}
use Rattle.std.specs.Prelude.{◌⊎◌}
use Rattle.std.specs.List.{list_any}
use Rattle.std.proofs.lemmas.Bool.{and_from, and_parts, cases_Bool, not_from_false, or_cases, or_left}
use Rattle.nor_base.specs.declared.meaning.Start.{Start}
use Rattle.nor_base.specs.Parameters.{Parameters}
use Rattle.nor_base.specs.Chip.{Setting, IsChipOf, may_page, page_sizes}
use Rattle.nor_laws.specs.Laws.{PollEnds}
use Rattle.nor_laws.specs.Spelling.{VerifyKeeps}
use Rattle.nor_check.specs.declared.verdict.Verdict.{Verdict}
use Rattle.nor_check.specs.Order.{is_before, earlier}
use Rattle.nor_check.specs.Outcome.{Trial, outcome_from, outcome}
use Rattle.nor_check.specs.Worst.{IsWorst}
use Rattle.nor_check.specs.Chips.{Kind, one_like, one_of, all_ready, begun}
use Rattle.nor_check.specs.Judged.{judged, judged_with, is_other_page}
use Rattle.nor_check.specs.Pages.{begun_each, judged_each, others, with_page}
use Rattle.nor_check.proofs.Before.{IsNoLater, told, earlier_of, no_later_trans}
use Rattle.nor_check.proofs.OneVerdict.{earlier_assoc}
use Rattle.nor_check.proofs.Judges.{judges}

-- the chips of a meaning and start with this page
abbrev on_page : Parameters → Start → ℕ → List ℕ → Bool → Setting
on_page m start page busy keeps = record { meaning = m; start = start; page = page; busy = busy; keeps = keeps }

-- some chip comes out so, and none of these pages earlier
pub record IsWorstOn (t : Trial) (pages : ℕ → Type 0) (v : Verdict) : Type 0 where
  pub chip : Setting
  pub is : IsChipOf t.m t.start chip
  pub so : outcome chip t.have t.want t.steps ≡ v
  pub first : (page : ℕ) → pages page → (busy : List ℕ) (keeps : Bool) → IsNoLater v (outcome (on_page t.m t.start page busy keeps) t.have t.want t.steps)

fewer : (t : Trial) (P Q : ℕ → Type 0) (v : Verdict) → ((page : ℕ) → Q page → P page) → IsWorstOn t P v → IsWorstOn t Q v
fewer t P Q v only h = record {
  chip = h.chip;
  is = h.is;
  so = h.so;
  first = λ page is. h.first page (only page is);
}

one_page : (t : Trial) (page : ℕ) → PollEnds → VerifyKeeps → may_page t.m page ≡ true → IsWorstOn t (λ p. p ≡ page) (judged_with t page)
one_page t page ends keeps may =
    let k : Kind = record { meaning = t.m; start = t.start; page = page } in
    let found = judges k t.want (all_ready k t.have) t.steps ends keeps in
    record {
      chip = on_page t.m t.start page found.to_come found.keeps;
      is = record { its_meaning = refl; its_start = refl; its_page = may };
      so = ap (λ n. outcome_from (one_like k found.to_come found.keeps) (one_of (all_ready k t.have) found.keeps n found.to_come) t.want t.steps) (sym found.may)
          ∙ found.so found.to_come;
      first = λ p same busy keep.
          subst (λ q. IsNoLater (judged k t.want (all_ready k t.have) t.steps) (outcome (on_page t.m t.start q busy keep) t.have t.want t.steps)) (sym same)
          (found.first busy keep 0 busy refl);
    }

-- of two sets of pages
both : (t : Trial) (P Q : ℕ → Type 0) (v u : Verdict) → IsWorstOn t P v → IsWorstOn t Q u → IsWorstOn t (λ p. P p ⊎ Q p) (earlier v u)
both t P Q v u first second =
    let best = earlier_of v u in
    let covers : (page : ℕ) → P page ⊎ Q page → (busy : List ℕ) (keeps : Bool) → IsNoLater (earlier v u) (outcome (on_page t.m t.start page busy keeps) t.have t.want t.steps) =
    λ page is busy keeps. elim is [
      | inl one ↦ no_later_trans (earlier v u) v _ best.0 (first.first page one busy keeps)
      | inr other ↦ no_later_trans (earlier v u) u _ best.1 (second.first page other busy keeps)
    ] in
    by (is_before u v) covers
  where
    by : (b : Bool) → ((page : ℕ) → P page ⊎ Q page → (busy : List ℕ) (keeps : Bool)
        → IsNoLater (if b then u else v) (outcome (on_page t.m t.start page busy keeps) t.have t.want t.steps)) → IsWorstOn t (λ p. P p ⊎ Q p) (if b then u else v)
    by true covers = record { chip = second.chip; is = second.is; so = second.so; first = covers }
    by false covers = record { chip = first.chip; is = first.is; so = first.so; first = covers }

-- another page than the meaning's own, and one of some
abbrev pub IsOtherOf : Parameters → List ℕ → ℕ → Type 0
IsOtherOf m pages page = (is_other_page m page ≡ true) × (list_any (λ size. page == size) pages ≡ true)

one_more_by : (t : Trial) (P : ℕ → Type 0) (v : Verdict) (q : ℕ) (b : Bool) → PollEnds → VerifyKeeps → is_other_page t.m q ≡ b → IsWorstOn t P v
    → IsWorstOn t (λ p. P p ⊎ ((is_other_page t.m p ≡ true) × (p ≡ q))) (if b then earlier v (judged_with t q) else v)
one_more_by t P v q true ends keeps other h =
    fewer t (λ p. P p ⊎ (p ≡ q)) (λ p. P p ⊎ ((is_other_page t.m p ≡ true) × (p ≡ q))) (earlier v (judged_with t q))
    (λ p is. elim is [ inl one ↦ inl one | inr two ↦ inr two.1 ])
    (both t P (λ p. p ≡ q) v (judged_with t q) h (one_page t q ends keeps (and_parts (not (q == t.m.page)) (may_page t.m q) other).1))
one_more_by t P v q false ends keeps other h =
    fewer t P (λ p. P p ⊎ ((is_other_page t.m p ≡ true) × (p ≡ q))) v
    (λ p is. elim is [ inl one ↦ one | inr two ↦ let told : true ≡ false = sym two.0 ∙ ap (is_other_page t.m) two.1 ∙ other in cc ]) h

-- with the chips of some more pages
some_more : (t : Trial) (P : ℕ → Type 0) (v : Verdict) (pages : List ℕ) → PollEnds → VerifyKeeps → IsWorstOn t P v
    → IsWorstOn t (λ p. P p ⊎ IsOtherOf t.m pages p) (earlier v (judged_each t.want (map (with_page (begun t.m t.start t.m.page t.have)) (others t.m pages)) t.steps))
some_more t P v [] ends keeps h =
    fewer t P (λ p. P p ⊎ IsOtherOf t.m [] p) v (λ p is. elim is [ inl one ↦ one | inr two ↦ let none = two.1 in cc ]) h
some_more t P v (q ∷ pages) ends keeps h =
    fewer t (λ p. (P p ⊎ ((is_other_page t.m p ≡ true) × (p ≡ q))) ⊎ IsOtherOf t.m pages p) (λ p. P p ⊎ IsOtherOf t.m (q ∷ pages) p)
    (earlier v (judged_each t.want (map (with_page (begun t.m t.start t.m.page t.have)) (others t.m (q ∷ pages))) t.steps))
    (λ p is. elim is [
      | inl one ↦ inl (inl one)
      | inr two ↦ elim (or_cases (p == q) (list_any (λ size. p == size) pages) two.1) [ inl here ↦ inl (inr (two.0, eqb-true p q here)) | inr there ↦ inr (two.0, there) ]
    ])
    (subst (IsWorstOn t (λ p. (P p ⊎ ((is_other_page t.m p ≡ true) × (p ≡ q))) ⊎ IsOtherOf t.m pages p)) (by (is_other_page t.m q))
    (some_more t (λ p. P p ⊎ ((is_other_page t.m p ≡ true) × (p ≡ q))) (if is_other_page t.m q then earlier v (judged_with t q) else v) pages ends keeps
    (one_more_by t P v q (is_other_page t.m q) ends keeps refl h)))
  where
    by : (b : Bool)
        → earlier (if b then earlier v (judged_with t q) else v) (judged_each t.want (map (with_page (begun t.m t.start t.m.page t.have)) (others t.m pages)) t.steps)
        ≡ earlier v (judged_each t.want (map (with_page (begun t.m t.start t.m.page t.have)) (if b then q ∷ others t.m pages else others t.m pages)) t.steps)
    by true = earlier_assoc v (judged_with t q) (judged_each t.want (map (with_page (begun t.m t.start t.m.page t.have)) (others t.m pages)) t.steps)
    by false = refl

own_page : (m : Parameters) → may_page m m.page ≡ true
own_page m = or_left (m.page == m.page) _ (eq-eqb m.page m.page refl)

-- each page that may be is the meaning's own, or another one of the sizes
covered : (m : Parameters) (page : ℕ) → may_page m page ≡ true → (page ≡ m.page) ⊎ IsOtherOf m page_sizes page
covered m page may = elim (cases_Bool (page == m.page)) [
  | inl own ↦ inl (eqb-true page m.page own)
  | inr other ↦ elim (or_cases (page == m.page) _ may) [
    | inl own ↦ inl (eqb-true page m.page own)
    | inr larger ↦ inr (and_from (not (page == m.page)) (may_page m page) (not_from_false (page == m.page) other) may, (and_parts (nat_le m.page page) _ (and_parts m.open_page _ larger).1).1)
  ]
]

this_chip : (s : Setting) (m : Parameters) (start : Start) → IsChipOf m start s → on_page m start s.page s.busy s.keeps ≡ s
this_chip s m start is = ap (λ (n : Parameters). on_page n start s.page s.busy s.keeps) (sym is.its_meaning) ∙ ap (λ (t : Start). on_page s.meaning t s.page s.busy s.keeps) (sym is.its_start)

pub worst_of_each : (t : Trial) → PollEnds → VerifyKeeps → IsWorst t (judged_each t.want (begun_each t.m t.start t.have) t.steps)
worst_of_each t ends keeps =
    let v = judged_each t.want (begun_each t.m t.start t.have) t.steps in
    let found = some_more t (λ p. p ≡ t.m.page) (judged_with t t.m.page) page_sizes ends keeps (one_page t t.m.page ends keeps (own_page t.m)) in
    record {
      chip = found.chip;
      is = found.is;
      so = found.so;
      first = λ s is.
          told v (outcome s t.have t.want t.steps)
          (subst (λ (c : Setting). IsNoLater v (outcome c t.have t.want t.steps)) (this_chip s t.m t.start is) (found.first s.page (covered t.m s.page is.its_page) s.busy s.keeps));
    }
