-- All chips of a meaning and a start together, page by page (this project's).
use Rattle.std.specs.Prelude.{◌≡◌, ◌⊎◌, ℕ, Bool, true, false, nat_lt, if◌then◌else◌, List, [], ◌∷◌, map, Result, Ok, Err}
use Rattle.std.specs.List.{AllByRecursion}
use Rattle.nor_base.specs.declared.meaning.Start.{Start}
use Rattle.nor_base.specs.declared.step.Step.{Step}
use Rattle.nor_base.specs.declared.wrong.Wrong.{Wrong}
use Rattle.nor_base.specs.Parameters.{Parameters}
use Rattle.nor_base.specs.Chip.{page_sizes}
use Rattle.nor_check.specs.declared.verdict.Verdict.{Verdict}
use Rattle.nor_check.specs.declared.verdict.Verdict.TheVariants.{Yes}
use Rattle.nor_check.specs.Order.{rank_of, earlier}
use Rattle.nor_check.specs.Chips.{Kind, Chips, Together, begun}
use Rattle.nor_check.specs.Judged.{all_step, judged, is_other_page}

-- of some pages those that may be and aren't the meaning's own
abbrev pub others : Parameters → List ℕ → List ℕ
others m [] = []
others m (page ∷ pages) = if is_other_page m page then page ∷ others m pages else others m pages

-- each page that may be, the meaning's own first
abbrev pub pages_of : Parameters → List ℕ
pages_of m = m.page ∷ others m page_sizes

-- the same with a page of another size
abbrev pub with_page : Together → ℕ → Together
with_page t page = record { kind = record { meaning = t.kind.meaning; start = t.kind.start; page = page }; chips = t.chips }

-- the same with each page that may be
abbrev pub on_each : Together → List Together
on_each t = map (with_page t) (pages_of t.kind.meaning)

-- all ready chips, page by page
abbrev pub begun_each : Parameters → Start → List ℕ → List Together
begun_each m start content = on_each (begun m start m.page content)

-- while they are alike those of one page stand for all; else those of the other pages stand beside them
abbrev pub page_by_page : Bool → Together → List Together → List Together
page_by_page true own rest = on_each own
page_by_page false own rest = own ∷ rest

-- of two causes at one step the one told
abbrev pub first_cause : Wrong → Wrong → Wrong
first_cause a b = if nat_lt (rank_of b) (rank_of a) then b else a

-- of two answers to one step the one told
abbrev pub first_of : Result (Unit {0}) Wrong → Result (Unit {0}) Wrong → Result (Unit {0}) Wrong
first_of (Ok u) other = other
first_of (Err a) (Ok u) = Err a
first_of (Err a) (Err b) = Err (first_cause a b)

abbrev pub joined : Kind → Result Chips Wrong → Result (List Together) Wrong → Result (List Together) Wrong
joined k (Ok w) (Ok ts) = Ok ((record { kind = k; chips = w }) ∷ ts)
joined k (Err a) (Ok ts) = Err a
joined k (Ok w) (Err b) = Err b
joined k (Err a) (Err b) = Err (first_cause a b)

-- one step of the chips of each page: it goes wrong where it does on those of some page
abbrev pub each_step : List Together → Step → Result (List Together) Wrong
each_step [] x = Ok []
each_step (t ∷ ts) x = joined t.kind (all_step t.kind t.chips x) (each_step ts x)

-- what an answer of a step says of the chips of each page before and after
abbrev pub StepsEach : List Together → List Together → Result (Unit {0}) Wrong → Step → Type 0
StepsEach before after (Ok u) x = each_step before x ≡ Ok after
StepsEach before after (Err cause) x = each_step before x ≡ Err cause

-- the earliest of the verdicts on some chips
abbrev pub worst_of : (Together → Verdict) → List Together → Verdict
worst_of judge [] = Yes
worst_of judge (t ∷ ts) = earlier (judge t) (worst_of judge ts)

-- the verdict on the chips of each page, from a moment on
abbrev pub judged_each : List ℕ → List Together → List Step → Verdict
judged_each target ts steps = worst_of (λ t. judged t.kind target t.chips steps) ts

-- the chips of each page have arrays of this size
abbrev pub HaveSize : ℕ → List Together → Type 0
HaveSize size ts = AllByRecursion (λ (t : Together). size ≡ t.kind.meaning.size) ts

-- what the chips of the first page hold
abbrev pub first_array : List Together → List ℕ
first_array [] = []
first_array (t ∷ ts) = t.chips.array

-- those of one of some pages
abbrev pub IsOneOf : Together → List Together → Type 0
IsOneOf t [] = ⊥
IsOneOf t (u ∷ us) = (t ≡ u) ⊎ IsOneOf t us

-- the chips of this page, one of some, don't take a step, for this cause
pub record IsRefusedBy (ts : List Together) (x : Step) (cause : Wrong) (page : ℕ) : Type 0 where
  pub these : Together
  pub among : IsOneOf these ts
  pub its_page : these.kind.page ≡ page
  pub so : all_step these.kind these.chips x ≡ Err cause

-- where the answer to a step is that some don't take it, those of this page don't
abbrev pub IsToldBy : List Together → Result (Unit {0}) Wrong → Step → ℕ → Type 0
IsToldBy ts (Ok u) x page = Unit {0}
IsToldBy ts (Err cause) x page = IsRefusedBy ts x cause page

-- an answer to a step is told in place of the one before it
abbrev pub is_sooner : Result (Unit {0}) Wrong → Result (Unit {0}) Wrong → Bool
is_sooner (Ok u) other = false
is_sooner (Err a) (Ok u) = true
is_sooner (Err a) (Err b) = nat_lt (rank_of a) (rank_of b)

-- a verdict is that of the chips of this page, one of some
pub record IsJudgedBy (judge : Together → Verdict) (ts : List Together) (v : Verdict) (page : ℕ) : Type 0 where
  pub these : Together
  pub among : IsOneOf these ts
  pub its_page : these.kind.page ≡ page
  pub so : judge these ≡ v
