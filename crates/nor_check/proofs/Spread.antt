-- Chips of each page that are alike: one step of them is one step of those of one page, and so is their end.
use Rattle.std.proofs.Common.{◌≡◌, ℕ, ◌+◌, ◌-◌, ◌*◌, ◌%◌, ◌^◌, ◌==◌, ◌<◌, ◌≤◌, nat_le, Bool, true, false, not, ◌&&◌, ◌||◌, if◌then◌else◌, List, [], ◌∷◌, ◌++◌, append_assoc, drop, get_or, length, map, Result, Ok, Err, refl, sym, ◌∙◌, ap, subst, arith, inl, inr}
use Rattle.std.specs.List.{AllByRecursion, list_any}
use Rattle.std.proofs.Math.Nat.{add-mul-mod_self_left, mod-eq_of_lt, mod_self}
use Rattle.std.proofs.lemmas.Bool.{and_parts, cases_lt, le-ltb, leb-true, or_cases}
use Rattle.std.proofs.lemmas.List.{at_drop_more}
use Rattle.std.proofs.lemmas.Nat.{pow-add, pow_below}
use Rattle.nor_base.specs.declared.step.Step.{Step}
use Rattle.nor_base.specs.declared.wrong.Wrong.{Wrong}
use Rattle.nor_base.specs.Accepted.{IsAccepted, IsPowerOfTwo}
use Rattle.nor_base.specs.Chip.{is_settled, may_page, page_sizes}
use Rattle.nor_base.specs.Parameters.{Parameters}
use Rattle.nor_chip.proofs.RangeLemmas.{page_is_power, page_not_empty}
use Rattle.nor_check.specs.declared.verdict.Verdict.{Verdict}
use Rattle.nor_check.specs.Apart.{tells_apart}
use Rattle.nor_check.specs.Chips.{Kind, Chips, Together, one_like, last_settled}
use Rattle.nor_check.specs.Judged.{StepsAll, all_step, is_other_page}
use Rattle.nor_check.specs.Order.{rank_of, earlier}
use Rattle.nor_check.specs.Outcome.{at_end}
use Rattle.nor_check.specs.Pages.{HaveSize, StepsEach, each_step, first_cause, joined, on_each, others, page_by_page, pages_of, with_page, worst_of}
use Rattle.nor_check.proofs.Alike.{alike}
use Rattle.nor_check.proofs.Before.{no_later_self, told}

-- a smaller power of two divides a larger
power_divides : (p q : ℕ) → IsPowerOfTwo 4 12 p → IsPowerOfTwo 4 12 q → p ≤ q → q % p ≡ 0
power_divides p q a b below = elim (cases_lt b.exponent a.exponent) [
  | inl less ↦
      let more : 2 ^ b.exponent < 2 ^ a.exponent = pow_below b.exponent a.exponent less in
      absurd (omega (arith, a.value, b.value, more, below))
  | inr upto ↦
      let whole : b.exponent ≡ a.exponent + (b.exponent - a.exponent) = omega (arith, upto) in
      let parts : q ≡ 0 + p * 2 ^ (b.exponent - a.exponent) =
      b.value ∙ ap (λ n. 2 ^ n) whole ∙ pow-add 2 a.exponent (b.exponent - a.exponent) ∙ ap (λ n. n * 2 ^ (b.exponent - a.exponent)) (sym a.value) ∙ omega arith in
      ap (λ n. n % p) parts ∙ add-mul-mod_self_left 0 p (2 ^ (b.exponent - a.exponent)) ∙ mod-eq_of_lt (page_not_empty p a)
]

-- a page that is a multiple of the meaning's own
abbrev IsMultiple : Parameters → ℕ → Type 0
IsMultiple m q = (0 < q) × (q % m.page ≡ 0)

other_multiple : (m : Parameters) (q : ℕ) → IsAccepted m → is_other_page m q ≡ true → IsMultiple m q
other_multiple m q accepted other =
    let parts = and_parts (not (q == m.page)) (may_page m q) other in
    let power = page_is_power m q accepted parts.1 in
    elim (or_cases (q == m.page) _ parts.1) [
      | inl own ↦ let no : true ≡ false = sym parts.0 ∙ ap not own in cc
      | inr larger ↦
          let above = leb-true m.page q (and_parts (nat_le m.page q) _ (and_parts m.open_page _ larger).1).0 in
          (page_not_empty q power, power_divides m.page q accepted.page power above)
    ]

others_multiples : (m : Parameters) (pages : List ℕ) → IsAccepted m → AllByRecursion (IsMultiple m) (others m pages)
others_multiples m [] accepted = tt
others_multiples m (q ∷ pages) accepted = by (is_other_page m q) refl (others_multiples m pages accepted)
  where
    by : (b : Bool) → is_other_page m q ≡ b → AllByRecursion (IsMultiple m) (others m pages) → AllByRecursion (IsMultiple m) (if b then q ∷ others m pages else others m pages)
    by true other more = (other_multiple m q accepted other, more)
    by false other more = more

-- where the page is known there is no other
no_other : (b c : Bool) → not b && (b || (false && c)) ≡ false
no_other true c = refl
no_other false c = refl

others_none : (m : Parameters) (pages : List ℕ) → m.open_page ≡ false → others m pages ≡ []
others_none m [] known = refl
others_none m (q ∷ pages) known =
    let here : is_other_page m q ≡ false =
    ap (λ o. not (q == m.page) && ((q == m.page) || (o && (nat_le m.page q && list_any (λ size. q == size) page_sizes)))) known
    ∙ no_other (q == m.page) (nat_le m.page q && list_any (λ size. q == size) page_sizes) in
    ap (λ b. if b then q ∷ others m pages else others m pages) here ∙ others_none m pages known

pub begins : (own : Together) (b : Bool) → own.kind.page ≡ own.kind.meaning.page → own.kind.meaning.open_page ≡ b → page_by_page b own [] ≡ on_each own
begins own true same is = refl
begins own false same is =
    ap (λ q. with_page own q ∷ []) same ∙ ap (λ l. map (with_page own) (own.kind.meaning.page ∷ l)) (sym (others_none own.kind.meaning page_sizes is))

same_cause : (a : Wrong) → first_cause a a ≡ a
same_cause a = ap (λ b. if b then a else a) (le-ltb (rank_of a) (rank_of a) (omega arith))

module _ (own : Together) (x : Step) (stays : tells_apart own.kind.meaning own.chips.mode4 x ≡ false) where
  one_alike : (q : ℕ) → 0 < own.kind.meaning.page → IsMultiple own.kind.meaning q
      → all_step (with_page own q).kind own.chips x ≡ all_step (with_page own own.kind.meaning.page).kind own.chips x
  one_alike q some each = alike own.kind.meaning own.kind.start q own.chips x some each.0 each.1 stays

  all_take : (pages : List ℕ) (after : Chips) → 0 < own.kind.meaning.page → AllByRecursion (IsMultiple own.kind.meaning) pages
      → all_step (with_page own own.kind.meaning.page).kind own.chips x ≡ Ok after
      → each_step (map (with_page own) pages) x ≡ Ok (map (with_page (record { kind = own.kind; chips = after })) pages)
  all_take [] after some each h = refl
  all_take (q ∷ pages) after some each h =
      ap (λ r. joined (with_page own q).kind r (each_step (map (with_page own) pages) x)) (one_alike q some each.0 ∙ h)
      ∙ ap (joined (with_page own q).kind (Ok after)) (all_take pages after some each.1 h)

  all_refuse : (q : ℕ) (pages : List ℕ) (cause : Wrong) → 0 < own.kind.meaning.page → AllByRecursion (IsMultiple own.kind.meaning) (q ∷ pages)
      → all_step (with_page own own.kind.meaning.page).kind own.chips x ≡ Err cause
      → each_step (map (with_page own) (q ∷ pages)) x ≡ Err cause
  all_refuse q [] cause some each h =
      ap (λ r. joined (with_page own q).kind r (Ok [])) (one_alike q some each.0 ∙ h)
  all_refuse q (p ∷ pages) cause some each h =
      ap (λ r. joined (with_page own q).kind r (each_step (map (with_page own) (p ∷ pages)) x)) (one_alike q some each.0 ∙ h)
      ∙ ap (joined (with_page own q).kind (Err cause)) (all_refuse p pages cause some each.1 h) ∙ ap (λ a. Err a) (same_cause cause)

-- chips that a step doesn't tell apart are alike after it
pub alike_step : (own after : Together) (x : Step) (r : Result (Unit {0}) Wrong) → IsAccepted own.kind.meaning → own.kind.page ≡ own.kind.meaning.page
    → tells_apart own.kind.meaning own.chips.mode4 x ≡ false → StepsAll own after r x → StepsEach (on_each own) (on_each after) r x
alike_step own after x (Ok u) accepted same stays h =
    let some = page_not_empty own.kind.meaning.page accepted.page in
    let here : all_step (with_page own own.kind.meaning.page).kind own.chips x ≡ Ok after.chips =
    ap (λ q. all_step (with_page own q).kind own.chips x) (sym same) ∙ h.0 in
    all_take own x stays (pages_of own.kind.meaning) after.chips some
    ((some, mod_self own.kind.meaning.page), others_multiples own.kind.meaning page_sizes accepted) here
    ∙ ap (λ (k : Kind). Ok (on_each (record { kind = k; chips = after.chips }))) (sym h.1)
alike_step own after x (Err cause) accepted same stays h =
    let some = page_not_empty own.kind.meaning.page accepted.page in
    let here : all_step (with_page own own.kind.meaning.page).kind own.chips x ≡ Err cause =
    ap (λ q. all_step (with_page own q).kind own.chips x) (sym same) ∙ h.0 in
    all_refuse own x stays own.kind.meaning.page (others own.kind.meaning page_sizes) cause some
    ((some, mod_self own.kind.meaning.page), others_multiples own.kind.meaning page_sizes accepted) here

-- the end of alike chips is that of those of one page
earlier_self : (v : Verdict) → earlier v v ≡ v
earlier_self v = ap (λ b. if b then v else v) (told v v (no_later_self v))

module _ (target : List ℕ) (n : ℕ) (own : Together) where
  alike_ends : (q : ℕ) (pages : List ℕ) → worst_of (λ t. at_end (one_like t.kind [] true) target n (last_settled t.chips)) (map (with_page own) (q ∷ pages))
      ≡ at_end (one_like own.kind [] true) target n (last_settled own.chips)
  unfolding is_settled
  alike_ends q [] = refl
  alike_ends q (p ∷ pages) =
      ap (earlier (at_end (one_like own.kind [] true) target n (last_settled own.chips))) (alike_ends p pages)
      ∙ earlier_self (at_end (one_like own.kind [] true) target n (last_settled own.chips))

  pub alike_end : at_end (one_like own.kind [] true) target n (last_settled own.chips)
      ≡ worst_of (λ t. at_end (one_like t.kind [] true) target n (last_settled t.chips)) (on_each own)
  alike_end = sym (alike_ends own.kind.meaning.page (others own.kind.meaning page_sizes))

-- the chips of each page have the size of those of the meaning's own
size_on : (size : ℕ) (own : Together) (pages : List ℕ) → size ≡ own.kind.meaning.size → HaveSize size (map (with_page own) pages)
size_on size own [] same = tt
size_on size own (q ∷ pages) same = (same, size_on size own pages same)

pub size_each : (size : ℕ) (own : Together) → size ≡ own.kind.meaning.size → HaveSize size (on_each own)
size_each size own same = size_on size own (pages_of own.kind.meaning) same

-- by what stands for all
pub view_step : (b : Bool) (own after : Together) (rest now : List Together) (x : Step) (r : Result (Unit {0}) Wrong) → b ≡ true → page_by_page b own rest ≡ now
    → IsAccepted own.kind.meaning → own.kind.page ≡ own.kind.meaning.page → tells_apart own.kind.meaning own.chips.mode4 x ≡ false → StepsAll own after r x
    → StepsEach now (page_by_page b after rest) r x
view_step true own after rest now x r is view accepted same stays h =
    subst (λ ts. StepsEach ts (on_each after) r x) view (alike_step own after x r accepted same stays h)
view_step false own after rest now x r is view accepted same stays h = cc

pub view_parted : (b : Bool) (own : Together) (rest now parts : List Together) → b ≡ true → page_by_page b own rest ≡ now → own.kind.page ≡ own.kind.meaning.page
    → parts ≡ map (with_page own) (others own.kind.meaning page_sizes) → own ∷ parts ≡ now
view_parted true own rest now parts is view same h =
    ap (λ l. own ∷ l) h ∙ ap (λ q. with_page own q ∷ map (with_page own) (others own.kind.meaning page_sizes)) same ∙ view
view_parted false own rest now parts is view same h = cc

-- one page more
module _ (t : Together) (whole all after : List Together) (pages : List ℕ) (i : ℕ) (within : i < length pages)
    (has : whole ≡ all ++ map (with_page t) (others t.kind.meaning (drop i pages))) where
  one_page : (b : Bool) → is_other_page t.kind.meaning (get_or pages i 0) ≡ b
      → whole ≡ all ++ map (with_page t) (if b then get_or pages i 0 ∷ others t.kind.meaning (drop (i + 1) pages) else others t.kind.meaning (drop (i + 1) pages))
  one_page b is =
      has ∙ at_drop_more (λ l. all ++ map (with_page t) (others t.kind.meaning l)) pages i 0 within
      ∙ ap (λ c. all ++ map (with_page t) (if c then get_or pages i 0 ∷ others t.kind.meaning (drop (i + 1) pages) else others t.kind.meaning (drop (i + 1) pages))) is

  pub page_taken : (u : Together) → is_other_page t.kind.meaning (get_or pages i 0) ≡ true → u ≡ with_page t (get_or pages i 0) → after ≡ all ++ u ∷ []
      → whole ≡ after ++ map (with_page t) (others t.kind.meaning (drop (i + 1) pages))
  page_taken u is made told =
      one_page true is ∙ sym (append_assoc all (with_page t (get_or pages i 0) ∷ []) (map (with_page t) (others t.kind.meaning (drop (i + 1) pages))))
      ∙ ap (λ l. l ++ map (with_page t) (others t.kind.meaning (drop (i + 1) pages))) (sym (told ∙ ap (λ u. all ++ u ∷ []) made))

  pub page_left : is_other_page t.kind.meaning (get_or pages i 0) ≡ false → after ≡ all → whole ≡ after ++ map (with_page t) (others t.kind.meaning (drop (i + 1) pages))
  page_left is told = one_page false is ∙ ap (λ l. l ++ map (with_page t) (others t.kind.meaning (drop (i + 1) pages))) (sym told)
