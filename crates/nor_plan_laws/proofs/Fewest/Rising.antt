-- Without the profile of erased bytes the planned programs are one a page, each from a byte that differs, in rising pages.
use Rattle.std.proofs.Common.{◌≡◌, ◌≢◌, ◌⊎◌, ℕ, zero, suc, ◌+◌, ◌/◌, ◌%◌, ◌<◌, ◌≤◌, ◌==◌, Bool, true, false, cond, not, ◌&&◌, List, [], ◌∷◌, ◌++◌, Option, Some, None, refl, sym, ◌∙◌, ap, subst, arith, inl, inr, eq-eqb, ne_eqb}
use Rattle.std.specs.Prelude.{flat_map, filter}
use Rattle.std.specs.List.{slice_index, range_with_len, slice_split, onto_first}
use Rattle.std.proofs.Math.Nat.{zero-mod}
use Rattle.std.proofs.lemmas.Bool.{cases_lt}
use Rattle.nor_base.specs.Parameters.{Parameters}
use Rattle.nor_base.specs.Blocks.{Block}
use Rattle.nor_base.specs.Need.{differs}
use Rattle.nor_base.specs.Programs.{Program, span, is_closed, page_programs}
use Rattle.nor_base.specs.Units.{WorkUnit, pages, page_unit, block_unit, unit_by, units_over}
use Rattle.nor_plan_laws.proofs.Units.Ranges.{aligned_le}
use Rattle.nor_plan_laws.proofs.Units.Walk.{IsErasedFor, IsSetting, EndsAt, within, block_ends, next_aligned, IsFresh, fresh_past_page, fresh_past_block}

-- a program begins in the page from an address on, at a byte that differs
pub record IsFirst (page : ℕ) (level want : List ℕ) (first : ℕ) (p : Program) : Type 0 where
  pub whole : first % page ≡ 0
  pub from : first ≤ p.at
  pub upto : p.at < first + page
  pub apart : differs level want p.at ≡ true

-- programs of pages that rise from one address up to another
abbrev pub Rising : ℕ → List ℕ → List ℕ → ℕ → ℕ → List Program → Type 0
Rising page level want low high [] = low ≤ high
Rising page level want low high (p ∷ ps) = (first : ℕ) × (low ≤ first) × IsFirst page level want first p × Rising page level want (first + page) high ps

module _ (page : ℕ) (level want : List ℕ) where
  pub rises_within : (ps : List Program) (low high : ℕ) → Rising page level want low high ps → low ≤ high
  rises_within [] low high h = h
  rises_within (p ∷ ps) low high h = let later = rises_within ps (h.0 + page) high h.3 in let first = h.1 in omega arith

  rises_from : (ps : List Program) (low middle high : ℕ) → low ≤ middle → Rising page level want middle high ps → Rising page level want low high ps
  rises_from [] low middle high rises h = omega arith
  rises_from (p ∷ ps) low middle high rises h = let first = h.1 in (h.0, omega arith, h.2, h.3)

  pub rises_then : (ps qs : List Program) (low middle high : ℕ) → Rising page level want low middle ps → Rising page level want middle high qs
      → Rising page level want low high (ps ++ qs)
  rises_then [] qs low middle high first second = rises_from qs low middle high first second
  rises_then (p ∷ ps) qs low middle high first second = (first.0, first.1, first.2, rises_then ps qs (first.0 + page) middle high first.3 second)

-- the first of a stretch that passes
abbrev Passes : (ℕ → Bool) → ℕ → ℕ → ℕ → Type 0
Passes test n start a = (start ≤ a) × (a < start + n) × (test a ≡ true)

one_passes : (test : ℕ → Bool) (n start a : ℕ) (more : List ℕ) (b : Bool) → test start ≡ b
    → (filter test (range_with_len (start + 1) n) ≡ a ∷ more → Passes test n (start + 1) a)
    → cond b (start ∷ filter test (range_with_len (start + 1) n)) (filter test (range_with_len (start + 1) n)) ≡ a ∷ more → Passes test (suc n) start a
one_passes test n start a more true is later h = let same : start ≡ a = cc in (omega arith, omega arith, ap test (sym same) ∙ is)
one_passes test n start a more false is later h =
    let rest = later h in
    let from = rest.0 in
    let upto = rest.1 in
    (omega arith, omega arith, rest.2)

first_passes : (test : ℕ → Bool) (n start a : ℕ) (more : List ℕ) → filter test (range_with_len start n) ≡ a ∷ more → Passes test n start a
first_passes test zero start a more h = cc
first_passes test (suc n) start a more h =
    one_passes test n start a more (test start) refl (λ is. first_passes test n (start + 1) a more is) h

split_none : (test : ℕ → Bool) (xs : List ℕ) → ((x : ℕ) → test x ≡ false) → slice_split test xs ≡ xs ∷ []
split_none test [] none = refl
split_none test (x ∷ xs) none =
    ap (λ b. cond b ([] ∷ slice_split test xs) (onto_first x (slice_split test xs))) (none x) ∙ ap (onto_first x) (split_none test xs none)

module _ (m : Parameters) (level want : List ℕ) (plain : m.erased_only ≡ false) where
  span_rises : (start : ℕ) (found : List ℕ) → start % m.page ≡ 0 → filter (differs level want) (range_with_len start m.page) ≡ found
      → Rising m.page level want start (start + m.page) (span want found ++ [])
  span_rises start [] whole is = omega arith
  span_rises start (a ∷ more) whole is =
      let first = first_passes (differs level want) m.page start a more is in
      (start, omega arith, record { whole = whole; from = first.0; upto = first.1; apart = first.2 }, omega arith)

  pub page_rises : (start : ℕ) → start % m.page ≡ 0 → Rising m.page level want start (start + m.page) (page_programs m level want start)
  unfolding page_programs
  page_rises start whole =
      subst (λ parts. Rising m.page level want start (start + m.page) (flat_map (λ part. span want (filter (differs level want) part)) parts))
      (sym (split_none (is_closed m level) (range_with_len start m.page) (λ a. ap (λ b. b && not (slice_index level a == 255)) plain)))
      (span_rises start (filter (differs level want) (range_with_len start m.page)) whole refl)

  pages_rise : (n start high : ℕ) → start % m.page ≡ 0 → EndsAt m.page start n high
      → Rising m.page level want start high (flat_map (page_programs m level want) (pages m.page start n))
  pages_rise zero start high whole ends = omega (arith, ends)
  pages_rise (suc n) start high whole ends =
      rises_then m.page level want (page_programs m level want start) (flat_map (page_programs m level want) (pages m.page (start + m.page) n)) start (start + m.page) high
      (page_rises start whole) (pages_rise n (start + m.page) high (next_aligned start m.page whole) ends)

-- the programs of units
abbrev pub programs_of : List WorkUnit → List Program
programs_of us = flat_map (λ u. u.programs) us

of_page : (m : Parameters) (start : ℕ) (ps : List Program) (rest : List WorkUnit) → programs_of (page_unit m start ps ++ rest) ≡ ps ++ programs_of rest
of_page m start [] rest = refl
of_page m start (p ∷ ps) rest = refl

module _ (m : Parameters) (page : ℕ) (level have want : List ℕ) (erased : ℕ → Option Block) (plain : m.erased_only ≡ false)
    (s : IsSetting m page level have want erased) where
  -- what the pages from one on call for, as the walk over the units has it
  abbrev Rest : ℕ → List WorkUnit → Type 0
  Rest start us =
      (low : ℕ) → ((low ≡ start) × IsFresh erased start) ⊎ ((b : Block) × IsErasedFor m erased b.start b × (b.start < start) × (start ≤ b.start + b.size) × (low ≡ b.start + b.size))
      → Rising m.page level want low m.size (programs_of us)

  walk_fresh : (start : ℕ) (o : Option Block) (rest : List WorkUnit) → start % m.page ≡ 0 → start + m.page ≤ m.size → erased start ≡ o → IsFresh erased start
      → Rest (start + m.page) rest → Rising m.page level want start m.size (programs_of (unit_by m level want start o ++ rest))
  walk_fresh start None rest whole inside is fresh more =
      subst (λ ps. Rising m.page level want start m.size ps) (sym (of_page m start (page_programs m level want start) rest))
      (rises_then m.page level want (page_programs m level want start) (programs_of rest) start (start + m.page) m.size (page_rises m level want plain start whole)
      (more (start + m.page) (inl (refl, fresh_past_page m page level have want erased start s whole is))))
  walk_fresh start (Some b) rest whole inside is fresh more =
      let b_is = s.erasing.block start b is in
      let here : b.start ≡ start = fresh b is in
      let ends : start + m.page ≤ b.start + b.size = aligned_le (start + m.page) (b.start + b.size) m.page s.some_page (next_aligned start m.page whole) b_is.ends_aligned (omega (arith, b_is.high)) in
      let at_start : IsErasedFor m erased b.start b = s.erasing.block b.start b (b_is.all b.start (omega arith) (omega (arith, b_is.low, b_is.high))) in
      rw (eq-eqb b.start start here)
      (subst (λ low. Rising m.page level want low m.size (programs_of (block_unit m level want b ∷ rest))) here
      (rises_then m.page level want (flat_map (page_programs m level want) (pages m.page b.start (b.size / m.page))) (programs_of rest) b.start (b.start + b.size) m.size
      (pages_rise m level want plain (b.size / m.page) b.start (b.start + b.size) b_is.aligned (block_ends m erased start b b_is))
      (more (b.start + b.size) (inr (b, at_start, omega (arith, here, s.some_page), ends, refl)))))

  walk : (n start : ℕ) → start % m.page ≡ 0 → EndsAt m.page start n m.size
      → Rest start (flat_map (λ first. unit_by m level want first (erased first)) (pages m.page start n))
  walk zero start whole ends low (inl fresh) = omega (arith, fresh.0, ends)
  walk zero start whole ends low (inr on) = omega (arith, on.1.inside, on.4)
  walk (suc n) start whole ends low (inl fresh) =
      let rest = walk n (start + m.page) (next_aligned start m.page whole) ends in
      let inside = within m.page n (start + m.page) m.size ends in
      subst (λ l. Rising m.page level want l m.size (programs_of (unit_by m level want start (erased start) ++ flat_map (λ first. unit_by m level want first (erased first)) (pages m.page (start + m.page) n))))
      (sym fresh.0)
      (walk_fresh start (erased start) _ whole inside refl fresh.1 rest)
  walk (suc n) start whole ends low (inr on) =
      let rest = walk n (start + m.page) (next_aligned start m.page whole) ends in
      let inside = within m.page n (start + m.page) m.size ends in
      elim (cases_lt start (on.0.start + on.0.size)) [
        | inl within_block ↦
            let here : erased start ≡ Some on.0 = on.1.all start (omega (arith, on.2)) within_block in
            let next : start + m.page ≤ on.0.start + on.0.size =
            aligned_le (start + m.page) (on.0.start + on.0.size) m.page s.some_page (next_aligned start m.page whole) on.1.ends_aligned (omega arith) in
            let other : on.0.start ≢ start = λ same. omega (arith, same, on.2) in
            rw (here, ne_eqb on.0.start start other) (rest low (inr (on.0, on.1, omega (arith, on.2), next, on.4)))
        | inr past ↦
            let end : start ≡ on.0.start + on.0.size = omega (arith, past, on.3) in
            subst (λ l. Rising m.page level want l m.size (programs_of (unit_by m level want start (erased start) ++ flat_map (λ first. unit_by m level want first (erased first)) (pages m.page (start + m.page) n))))
            (end ∙ sym on.4)
            (walk_fresh start (erased start) _ whole inside refl
            (fresh_past_block m page level have want erased start on.0 s on.1.all on.2 end) rest)
      ]

  pub all_rise : (n : ℕ) → EndsAt m.page 0 n m.size → Rising m.page level want 0 m.size (programs_of (units_over m level want erased (pages m.page 0 n)))
  unfolding units_over
  all_rise n ends = walk n 0 (zero-mod m.page) ends 0 (inl (refl, λ b is. omega (arith, (s.erasing.block 0 b is).low)))
