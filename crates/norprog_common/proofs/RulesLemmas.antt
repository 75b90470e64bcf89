-- What an image gives, and where it lies.
use Rattle.std.proofs.Common.{◌≡◌, ◌≢◌, ◌∙◌, ◌==◌, ℕ, ◌+◌, ◌-◌, ◌<◌, Bool, true, false, List, [], ◌∷◌, length, get_or, Option, Some, None, Result, Ok, Err, IfErr, IfOk, inl, inr, ap, arith, subst, sym, refl}
use Rattle.std.specs.List.{slice_get}
use Rattle.std.specs.List.{filter_map}
use Rattle.std.proofs.lemmas.Bool.{cases_lt}
use Rattle.std.proofs.lemmas.Option.{slice_get-get_or}
use Rattle.nor_base.specs.Array.{is_filled}
use Rattle.nor_hex.specs.Image.{IsRunFrom, Pairs, byte_at}
use Rattle.nor_job.specs.Causes.{ImageSays, LayoutSays}
use Rattle.nor_job.specs.Job.{IsJob}
use Rattle.nor_job.specs.Shares.{HasFirstEmpty}
use Rattle.nor_job.specs.Task.{Task}
use Rattle.nor_job.specs.declared.job.Job.{Job}
use Rattle.nor_layout.specs.Region.{Region}
use Rattle.nor_target.specs.Shares.{chosen_regions, first_empty, region_named}
use Rattle.norprog_common.specs.Rules.{AreFilled, BreaksRules, Empty, Gapped, HasAll, IsFilled, IsFirstOutside, IsGap, IsGiven, IsNextMissing, IsStray, LacksPart, Landless, LiesInside, MeetsRules, Straying, Unlike, lands, lands_in}
use Rattle.norprog_common.specs.declared.faults.Gap.{Gap}
use Rattle.norprog_common.specs.declared.faults.Refusal.{Refusal}
use Rattle.norprog_common.specs.declared.faults.Refusal.TheVariants.{Beyond, BinLength, EmptyRegion, Nowhere, Partial}
use Rattle.norprog_common.specs.declared.faults.Stray.{Stray}
use Rattle.norprog_common.specs.declared.rules.ImageRules.{ImageRules}

pub ok_then : {A : Type 0} {P Q : Type 0} (r : Result A Refusal) → (P → Q) → IfOk r (λ _. P) → IfOk r (λ _. Q)
ok_then (Ok x) f p = f p
ok_then (Err e) f p = tt

pub err_then : {A : Type 0} {P Q : Refusal → Type 0} (r : Result A Refusal) → ((why : Refusal) → P why → Q why) → IfErr r P → IfErr r Q
err_then (Ok x) f p = tt
err_then (Err e) f p = f e p

-- ---- runs of the image
run_given : (image : Pairs) (from at : ℕ) (run : List ℕ) (i : ℕ) → IsRunFrom image from at run → i < length run → byte_at image (at + i) ≢ None
run_given image from at run i runs lt = λ none.
    let is : Some (get_or run i 0) ≡ None = sym (slice_get-get_or run i 0 lt) ∙ (sym (runs.bytes i lt) ∙ none) in cc

pub past_run : (image : Pairs) (base start from at : ℕ) (run : List ℕ) → IsRunFrom image from at run → at ≡ from → from ≡ base + start
    → IsNextMissing (byte_at image) base start (start + length run)
past_run image base start from at run runs here begins =
    let there : at ≡ base + start = here ∙ begins in
    let end : at + length run ≡ base + (start + length run) = omega (arith, there) in record {
      from = omega arith;
      missing = subst (λ a. byte_at image a ≡ None) end runs.none_after;
      lowest = λ a le lt none.
          let place : base + a ≡ at + (a - start) = omega (arith, there) in
          run_given image from at run (a - start) runs (omega arith) (subst (λ p. byte_at image p ≡ None) place none);
    }

below_first : (a first base : ℕ) → a < base → (first < base → ⊥) → a < first
below_first a first base lt from = elim (cases_lt first base) [
  | inl below ↦ absurd (from below)
  | inr le ↦ omega (arith, lt, le)
]

pub outside_run : (image : Pairs) (base size first end past : ℕ) (run later : List ℕ) → IsRunFrom image 0 first run → (first < base → ⊥)
    → end ≡ base + size → IsRunFrom image end past later → IsFirstOutside image base size past
outside_run image base size first end past run later lowest from ends there = record {
  given =
      let start : past + 0 ≡ past = omega arith in
      λ none. run_given image end past later 0 there there.some (subst (λ a. byte_at image a ≡ None) (sym start) none);
  outside = λ inside. let past_end = there.past in let to = inside.to in absurd (omega (arith, past_end, to, ends));
  lowest = λ a lt given. record {
    from = elim (cases_lt a base) [
      | inl below ↦ absurd (given (lowest.none_before a (omega arith) (below_first a first base below from)))
      | inr le ↦ le
    ];
    to = elim (cases_lt a (base + size)) [
      | inl below ↦ below
      | inr le ↦ absurd (given (there.none_before a (omega (arith, le, ends)) lt))
    ];
  };
}

-- one region more that lacks nothing
pub one_filled : (image : ℕ → Option ℕ) (base : ℕ) (regions : List Region) (n : ℕ) (region : Region) → slice_get regions n ≡ Some region
    → ((i : ℕ) (other : Region) → i < n → slice_get regions i ≡ Some other → IsFilled image base other) → IsFilled image base region
    → (i : ℕ) (other : Region) → i < n + 1 → slice_get regions i ≡ Some other → IsFilled image base other
one_filled image base regions n region here before filled i other lt is = elim (cases_lt i n) [
  | inl below ↦ before i other below is
  | inr le ↦
      let same : i ≡ n = omega (arith, lt, le) in
      subst (IsFilled image base) (some_one (sym here ∙ (sym (ap (slice_get regions) same) ∙ is))) filled
]
  where
    some_one : {a b : Region} → Path (Option Region) (Some a) (Some b) → a ≡ b
    some_one e = cc

-- ---- named regions
named : (regions : List Region) (names : List (List ℕ)) (size : ℕ) → is_filled names ≡ true
    → chosen_regions regions names size ≡ filter_map (region_named regions) names
named regions [] size filled = cc
named regions (name ∷ names) size filled = refl

pub some_named : (names : List (List ℕ)) (is : Bool) → false ≡ (length names == 0) → is_filled names ≡ true
some_named [] is e = cc
some_named (name ∷ names) is e = refl

pub lacks_part : (t : Task) (image : Pairs) (regions chosen : List Region) (gap : Gap) → ImageSays t.image t.hex image → LayoutSays t.layout regions
    → is_filled t.regions ≡ true → chosen ≡ chosen_regions regions t.regions 1 → IsGap (byte_at image) t.base chosen gap → LacksPart t (Partial gap)
lacks_part t image regions chosen gap spelled layout filled is found =
    Gapped image regions gap (record { spelled = spelled; layout = layout })
    (subst (λ (rs : List Region). IsGap (byte_at image) t.base rs gap) (is ∙ named regions t.regions 1 filled) found)

pub is_given : (t : Task) (image : Pairs) (regions chosen : List Region) → ImageSays t.image t.hex image → LayoutSays t.layout regions
    → chosen ≡ chosen_regions regions t.regions 1 → AreFilled (byte_at image) t.base chosen → is_filled t.regions ≡ true → IsGiven t
is_given t image regions chosen spelled layout is found filled = (
  image,
  regions,
  record { spelled = spelled; layout = layout },
  subst (λ (rs : List Region). AreFilled (byte_at image) t.base rs) (is ∙ named regions t.regions 1 filled) found,
)

-- ---- what a job says is of its task
-- the regions that are chosen of it
pub record Chose {t : Task} {len : ℕ} (job : Job) (its : IsJob t len job) (chosen : List Region) : Type 0 where
  pub is : chosen ≡ chosen_regions its.regions t.regions job.meaning.size

pub chose : {t : Task} {len : ℕ} (job : Job) (its : IsJob t len job) (chosen : List Region) (inner : Job) → inner ≡ job → (items : List Region) → chosen ≡ items
    → items ≡ chosen_regions its.regions t.regions inner.meaning.size → Chose job its chosen
chose {t} job its chosen inner same items is all = record { is = is ∙ (all ∙ ap (λ (j : Job). chosen_regions its.regions t.regions j.meaning.size) same) }

has_empty : {t : Task} {len : ℕ} {job : Job} {its : IsJob t len job} {chosen : List Region} (index : Option ℕ) → Chose job its chosen
    → first_empty (byte_at job.image) job.base job.meaning.size chosen ≡ index → HasFirstEmpty t len index
has_empty {t} {len} {job} {its} index chose found = record {
  image = job.image;
  regions = its.regions;
  m = job.meaning;
  accepted = its.accepted;
  empty =
      let all = chosen_regions its.regions t.regions job.meaning.size in
      subst (λ b. first_empty (byte_at job.image) b job.meaning.size all ≡ index) its.base
      (subst (λ (rs : List Region). first_empty (byte_at job.image) job.base job.meaning.size rs ≡ index) chose.is found);
}

has_all : {t : Task} {len : ℕ} {job : Job} (its : IsJob t len job) (Says : ℕ → Pairs → ℕ → Type 0) → Says job.base job.image job.meaning.size
    → HasAll t len (λ image regions m. Says t.base image m.size)
has_all {t} {len} {job} its Says says = record {
  image = job.image;
  regions = its.regions;
  m = job.meaning;
  accepted = its.accepted;
  says = subst (λ b. Says b job.image job.meaning.size) its.base says;
}

lands_so : {t : Task} {len : ℕ} {job : Job} {its : IsJob t len job} {chosen : List Region} (so : Bool) → Chose job its chosen
    → lands_in (byte_at job.image) job.base job.meaning.size chosen ≡ so → HasAll t len (λ image regions m. lands t image regions m ≡ so)
lands_so {t} {len} {job} {its} so chose found = record {
  image = job.image;
  regions = its.regions;
  m = job.meaning;
  accepted = its.accepted;
  says =
      let all = chosen_regions its.regions t.regions job.meaning.size in
      subst (λ b. lands_in (byte_at job.image) b job.meaning.size all ≡ so) its.base
      (subst (λ (rs : List Region). lands_in (byte_at job.image) job.base job.meaning.size rs ≡ so) chose.is found);
}

pub breaks_length : {rules : ImageRules} {t : Task} {len : ℕ} {job : Job} (its : IsJob t len job) (why : Refusal)
    → (why ≡ BinLength (record { given = length job.image; wanted = job.meaning.size })) × (rules.exact ≡ true) × (length job.image ≢ job.meaning.size)
    → BreaksRules rules t len why
breaks_length {rules} {t} {len} {job} its why (told, asked, other) =
    subst (BreaksRules rules t len) (sym told)
    (Unlike (length job.image) job.meaning.size asked
    (has_all its (λ b image size. (length job.image ≡ length image) × (job.meaning.size ≡ size) × (length job.image ≢ job.meaning.size)) (refl, refl, other)))

pub breaks_empty : {rules : ImageRules} {t : Task} {len : ℕ} {job : Job} {its : IsJob t len job} {chosen : List Region} (why : Refusal) → Chose job its chosen
    → (index : ℕ) × (why ≡ EmptyRegion index) × (rules.strict ≡ true) × (first_empty (byte_at job.image) job.base job.meaning.size chosen ≡ Some index)
    → BreaksRules rules t len why
breaks_empty {rules} {t} {len} why chose (index, told, asked, found) =
    subst (BreaksRules rules t len) (sym told) (Empty index asked (has_empty (Some index) chose found))

pub breaks_stray : {rules : ImageRules} {t : Task} {len : ℕ} {job : Job} (its : IsJob t len job) (why : Refusal)
    → (stray : Stray) × (why ≡ Beyond stray) × (rules.inside ≡ true) × IsStray job.image job.base job.meaning.size stray → BreaksRules rules t len why
breaks_stray {rules} {t} {len} its why (stray, told, asked, found) =
    subst (BreaksRules rules t len) (sym told) (Straying stray asked (has_all its (λ b image size. IsStray image b size stray) found))

pub breaks_landless : {rules : ImageRules} {t : Task} {len : ℕ} {job : Job} {its : IsJob t len job} {chosen : List Region} (why : Refusal) → Chose job its chosen
    → (why ≡ Nowhere) × (rules.lands ≡ true) × (lands_in (byte_at job.image) job.base job.meaning.size chosen ≡ false) → BreaksRules rules t len why
breaks_landless {rules} {t} {len} why chose (told, asked, found) =
    subst (BreaksRules rules t len) (sym told) (Landless asked (lands_so false chose found))

pub meets_rules : {rules : ImageRules} {t : Task} {len : ℕ} {job : Job} {its : IsJob t len job} {chosen : List Region} → Chose job its chosen
    → (rules.exact ≡ true → length job.image ≡ job.meaning.size)
    → (rules.strict ≡ true → first_empty (byte_at job.image) job.base job.meaning.size chosen ≡ None)
    → (rules.full ≡ true → is_filled t.regions ≡ true → IsGiven t)
    → (rules.inside ≡ true → LiesInside job.image job.base job.meaning.size)
    → (rules.lands ≡ true → lands_in (byte_at job.image) job.base job.meaning.size chosen ≡ true) → MeetsRules rules t len
meets_rules {its = its} chose same some full inside lands = record {
  exact = λ asked. has_all its (λ b image size. length image ≡ size) (same asked);
  strict = λ asked. has_empty None chose (some asked);
  full = full;
  inside = λ asked. has_all its (λ b image size. LiesInside image b size) (inside asked);
  lands = λ asked. lands_so true chose (lands asked);
}
