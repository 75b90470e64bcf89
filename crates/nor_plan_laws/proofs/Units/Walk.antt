-- The units of a chip, page by page: erased blocks and pages outside them.
use Rattle.std.proofs.Common.{◌≡◌, ◌≢◌, ◌⊎◌, ℕ, zero, suc, ◌+◌, ◌-◌, ◌*◌, ◌/◌, ◌%◌, ◌<◌, ◌≤◌, ◌==◌, Bool, true, false, not, ◌&&◌, if◌then◌else◌, List, [], ◌∷◌, ◌++◌, length, Option, Some, None, refl, sym, ◌∙◌, ap, subst, arith, inl, inr, eq-eqb, ne_eqb}
use Rattle.std.specs.Prelude.{flat_map, is_some}
use Rattle.std.specs.List.{slice_index}
use Rattle.std.proofs.Math.Nat.{div-add-mod', add-mod_right, zero-mod, zero-mul, suc-mul}
use Rattle.std.proofs.lemmas.Bool.{cases_lt, both_ways, not-false}
use Rattle.nor_base.specs.Parameters.{Parameters}
use Rattle.nor_base.specs.Blocks.{Block}
use Rattle.nor_base.specs.Effect.{may_program}
use Rattle.nor_base.specs.Need.{differs, is_due}
use Rattle.nor_base.specs.Programs.{Program, page_programs}
use Rattle.nor_base.specs.Units.{WorkUnit, pages, page_unit, block_unit, unit_by, units_over}
use Rattle.nor_plan_laws.proofs.Units.Ranges.{aligned_le}
use Rattle.nor_plan_laws.proofs.Task.Laid.{may_over_erased}
use Rattle.nor_plan_laws.proofs.Task.Made.{ArePut, EndBy, IsSoundUnit, AreSoundUnits}
use Rattle.nor_plan_laws.proofs.Units.Pages.{IsClear, IsInOne, page_sound, put_then}
use Rattle.nor_plan_laws.specs.Able.{CanErase}

-- a block that is erased for an address, and for each that it holds
pub record IsErasedFor (m : Parameters) (erased : ℕ → Option Block) (a : ℕ) (b : Block) : Type 0 where
  pub can : CanErase m b
  pub low : b.start ≤ a
  pub high : a < b.start + b.size
  pub inside : b.start + b.size ≤ m.size
  pub aligned : b.start % m.page ≡ 0
  pub ends_aligned : (b.start + b.size) % m.page ≡ 0
  pub whole : b.size % m.page ≡ 0
  pub all : (x : ℕ) → b.start ≤ x → x < b.start + b.size → erased x ≡ Some b

-- which block is erased for each address: whole pages, and each address that is due
pub record IsErasing (m : Parameters) (have want : List ℕ) (erased : ℕ → Option Block) : Type 0 where
  pub block : (a : ℕ) (b : Block) → erased a ≡ Some b → IsErasedFor m erased a b
  pub due : (a : ℕ) → a < m.size → is_due m have want a ≡ true → is_some (erased a) ≡ true

-- what the units are made of
pub record IsSetting (m : Parameters) (page : ℕ) (level have want : List ℕ) (erased : ℕ → Option Block) : Type 0 where
  pub some_page : 0 < m.page
  pub size : length want ≡ m.size
  pub bytes : (x : ℕ) → slice_index want x < 256
  pub erasing : IsErasing m have want erased
  pub level_at : (x : ℕ) → x < m.size → slice_index level x ≡ (if is_some (erased x) then 255 else slice_index have x)
  pub one_page : (start : ℕ) → start % m.page ≡ 0 → IsInOne page start (start + m.page)

level_of_block : (m : Parameters) (page : ℕ) (level have want : List ℕ) (erased : ℕ → Option Block) (x : ℕ) (b : Block) → IsSetting m page level have want erased
    → x < m.size → erased x ≡ Some b → slice_index level x ≡ 255
level_of_block m page level have want erased x b s inside is = s.level_at x inside ∙ ap (λ o. if is_some o then 255 else slice_index have x) is

level_outside : (m : Parameters) (page : ℕ) (level have want : List ℕ) (erased : ℕ → Option Block) (x : ℕ) → IsSetting m page level have want erased
    → x < m.size → erased x ≡ None → slice_index level x ≡ slice_index have x
level_outside m page level have want erased x s inside is = s.level_at x inside ∙ ap (λ o. if is_some o then 255 else slice_index have x) is

-- what differs of the levelled content may be programmed
clear_by : (m : Parameters) (page : ℕ) (level have want : List ℕ) (erased : ℕ → Option Block) (x : ℕ) (o : Option Block) → IsSetting m page level have want erased
    → x < m.size → erased x ≡ o → IsClear m level want x
clear_by m page level have want erased x (Some b) s inside is apart =
    subst (λ old. may_program m old (slice_index want x) ≡ true) (sym (level_of_block m page level have want erased x b s inside is))
    (may_over_erased m (slice_index want x) (s.bytes x))
clear_by m page level have want erased x None s inside is apart =
    let same = level_outside m page level have want erased x s inside is in
    let apart' : differs have want x ≡ true = subst (λ old. not (old == slice_index want x) ≡ true) same apart in
    subst (λ old. may_program m old (slice_index want x) ≡ true) (sym same)
    (may_by (is_due m have want x) refl apart')
  where
    may_by : (b : Bool) → is_due m have want x ≡ b → differs have want x ≡ true → may_program m (slice_index have x) (slice_index want x) ≡ true
    may_by true due apart = absurd (both_ways (is_some (erased x)) (ap (λ (o : Option Block). is_some o) is) (s.erasing.due x inside due))
    may_by false due apart =
        not-false (may_program m (slice_index have x) (slice_index want x))
        (ap (λ b. b && not (may_program m (slice_index have x) (slice_index want x))) (sym apart) ∙ due)

pub clear_at : (m : Parameters) (page : ℕ) (level have want : List ℕ) (erased : ℕ → Option Block) (x : ℕ) → IsSetting m page level have want erased
    → x < m.size → IsClear m level want x
clear_at m page level have want erased x s inside = clear_by m page level have want erased x (erased x) s inside refl

-- the programs of a page that lies on the chip
page_put : (m : Parameters) (page : ℕ) (level have want : List ℕ) (erased : ℕ → Option Block) (start : ℕ) → IsSetting m page level have want erased
    → start % m.page ≡ 0 → start + m.page ≤ m.size → ArePut m page level want start (start + m.page) (page_programs m level want start)
page_put m page level have want erased start s whole inside =
    page_sound m page level want start (omega (arith, s.size, inside)) (s.one_page start whole)
    (λ x from upto. clear_at m page level have want erased x s (omega arith))

-- so many pages from one on end just at an address
abbrev pub EndsAt : ℕ → ℕ → ℕ → ℕ → Type 0
EndsAt page start zero high = start ≡ high
EndsAt page start (suc n) high = EndsAt page (start + page) n high

pub ends_at : (page n start high : ℕ) → start + n * page ≡ high → EndsAt page start n high
ends_at page zero start high sum = let none : 0 * page ≡ 0 = zero-mul page in omega (arith, none, sum)
ends_at page (suc n) start high sum =
    let more : suc n * page ≡ n * page + page = suc-mul n page in
    ends_at page n (start + page) high (omega (arith, more, sum))

pub within : (page n start high : ℕ) → EndsAt page start n high → start ≤ high
within page zero start high ends = omega arith
within page (suc n) start high ends = let later = within page n (start + page) high ends in omega (arith, later)

end_by : (page n start high : ℕ) → EndsAt page start n high → EndBy page start n high
end_by page zero start high ends = tt
end_by page (suc n) start high ends = (within page n (start + page) high ends, end_by page n (start + page) high ends)

pub block_ends : (m : Parameters) (erased : ℕ → Option Block) (a : ℕ) (b : Block) → IsErasedFor m erased a b → EndsAt m.page b.start (b.size / m.page) (b.start + b.size)
block_ends m erased a b is =
    let all : b.size / m.page * m.page + b.size % m.page ≡ b.size = div-add-mod' b.size m.page in
    ends_at m.page (b.size / m.page) b.start (b.start + b.size) (omega (arith, all, is.whole))

pub next_aligned : (start page : ℕ) → start % page ≡ 0 → (start + page) % page ≡ 0
next_aligned start page whole = add-mod_right start page ∙ whole

-- the programs of pages side by side
pages_put : (m : Parameters) (page : ℕ) (level have want : List ℕ) (erased : ℕ → Option Block) (high : ℕ) → IsSetting m page level have want erased → high ≤ m.size
    → (n start : ℕ) → start % m.page ≡ 0 → EndsAt m.page start n high
    → ArePut m page level want start high (flat_map (page_programs m level want) (pages m.page start n))
pages_put m page level have want erased high s inside zero start whole ends = λ x from upto. absurd (omega arith)
pages_put m page level have want erased high s inside (suc n) start whole ends =
    let fits = within m.page n (start + m.page) high ends in
    put_then m page level want (start + m.page) high fits (page_programs m level want start) (flat_map (page_programs m level want) (pages m.page (start + m.page) n)) start
    (page_put m page level have want erased start s whole (omega arith))
    (pages_put m page level have want erased high s inside n (start + m.page) (next_aligned start m.page whole) ends) (omega arith)

-- an erased block is a sound unit
block_sound : (m : Parameters) (page : ℕ) (level have want : List ℕ) (erased : ℕ → Option Block) (a : ℕ) (b : Block) → IsSetting m page level have want erased
    → IsErasedFor m erased a b → IsSoundUnit m page level have want (block_unit m level want b)
block_sound m page level have want erased a b s is = record {
  inside = omega (arith, s.size, is.inside);
  kind = record {
    can = is.can;
    start_is = refl;
    size_is = refl;
    blank = λ x from upto. level_of_block m page level have want erased x b s (omega (arith, is.inside)) (is.all x from upto);
    ends = end_by m.page (b.size / m.page) b.start (b.start + b.size) (block_ends m erased a b is);
  };
  put = pages_put m page level have want erased (b.start + b.size) s is.inside (b.size / m.page) b.start is.aligned (block_ends m erased a b is);
}

-- where a page's start isn't erased, nothing of the page is
none_in_page : (m : Parameters) (page : ℕ) (level have want : List ℕ) (erased : ℕ → Option Block) (start x : ℕ) (o : Option Block) → IsSetting m page level have want erased
    → start % m.page ≡ 0 → erased start ≡ None → start ≤ x → x < start + m.page → erased x ≡ o → erased x ≡ None
none_in_page m page level have want erased start x None s whole none from upto is = is
none_in_page m page level have want erased start x (Some c) s whole none from upto is =
    let c_is = s.erasing.block x c is in
    let before : c.start ≤ start = aligned_le c.start start m.page s.some_page c_is.aligned whole (omega (arith, c_is.low, upto)) in
    let both : Some c ≡ None = sym (c_is.all start before (omega (arith, c_is.high, from))) ∙ none in
    cc

-- units of a stretch are those of one that begins earlier, where nothing differs before them
units_lower : (m : Parameters) (page : ℕ) (level have want : List ℕ) (low a : ℕ) → low ≤ a → ((x : ℕ) → low ≤ x → x < a → slice_index have x ≡ slice_index want x)
    → (us : List WorkUnit) → AreSoundUnits m page level have want a us → AreSoundUnits m page level have want low us
units_lower m page level have want low a rises same [] sound = λ x from upto. elim (cases_lt x a) [ inl first ↦ same x from first | inr later ↦ sound x later upto ]
units_lower m page level have want low a rises same (u ∷ us) sound = (
  omega (arith, rises, sound.0),
  (λ x from upto. elim (cases_lt x a) [ inl first ↦ same x from first | inr later ↦ sound.1 x later upto ]),
  sound.2,
  sound.3,
)

-- at a page's start: no block goes on from before it, or one does, and ends later
abbrev pub IsFresh : (ℕ → Option Block) → ℕ → Type 0
IsFresh erased start = (b : Block) → erased start ≡ Some b → b.start ≡ start

-- a page that isn't erased
page_walk : (m : Parameters) (page : ℕ) (level have want : List ℕ) (erased : ℕ → Option Block) (start : ℕ) (ps : List Program) (rest : List WorkUnit)
    → IsSetting m page level have want erased → start % m.page ≡ 0 → start + m.page ≤ m.size → erased start ≡ None → ArePut m page level want start (start + m.page) ps
    → AreSoundUnits m page level have want (start + m.page) rest → AreSoundUnits m page level have want start (page_unit m start ps ++ rest)
page_walk m page level have want erased start [] rest s whole inside none put later =
    units_lower m page level have want start (start + m.page) (omega arith) (λ x from upto.
    sym (level_outside m page level have want erased x s (omega arith) (none_in_page m page level have want erased start x (erased x) s whole none from upto refl))
    ∙ put x from upto) rest later
page_walk m page level have want erased start (p ∷ ps) rest s whole inside none put later = (
  omega arith,
  (λ x from upto. absurd (omega arith)),
  record {
    inside = omega (arith, s.size, inside);
    kind = λ x from upto.
        level_outside m page level have want erased x s (omega arith) (none_in_page m page level have want erased start x (erased x) s whole none from upto refl);
    put = put;
  },
  later,
)

-- past a page that isn't erased no block goes on
pub fresh_past_page : (m : Parameters) (page : ℕ) (level have want : List ℕ) (erased : ℕ → Option Block) (start : ℕ) → IsSetting m page level have want erased
    → start % m.page ≡ 0 → erased start ≡ None → IsFresh erased (start + m.page)
fresh_past_page m page level have want erased start s whole none c is =
    let c_is = s.erasing.block (start + m.page) c is in
    elim (cases_lt c.start (start + m.page)) [
      | inl earlier ↦
          let before : c.start ≤ start = aligned_le c.start start m.page s.some_page c_is.aligned whole earlier in
          let both : Some c ≡ None = sym (c_is.all start before (omega (arith, c_is.high))) ∙ none in
          cc
      | inr later ↦ omega (arith, c_is.low, later)
    ]

-- past a block's end no block goes on
pub fresh_past_block : (m : Parameters) (page : ℕ) (level have want : List ℕ) (erased : ℕ → Option Block) (start : ℕ) (b : Block) → IsSetting m page level have want erased
    → ((x : ℕ) → b.start ≤ x → x < b.start + b.size → erased x ≡ Some b) → b.start < start → start ≡ b.start + b.size → IsFresh erased start
fresh_past_block m page level have want erased start b s all before ends c is =
    let c_is = s.erasing.block start c is in
    elim (cases_lt c.start start) [
      | inl earlier ↦
          let of_b : erased (start - 1) ≡ Some b = all (start - 1) (omega arith) (omega arith) in
          let of_c : erased (start - 1) ≡ Some c = c_is.all (start - 1) (omega arith) (omega (arith, c_is.high)) in
          let same : Some b ≡ Some c = sym of_b ∙ of_c in
          let same' : b ≡ c = cc in
          let end : b.start + b.size ≡ c.start + c.size = ap (λ (d : Block). d.start + d.size) same' in
          absurd (omega (arith, c_is.high, end, ends))
      | inr later ↦ omega (arith, c_is.low, later)
    ]

-- what the pages from one on call for, given the units of those after it
abbrev Rest : Parameters → ℕ → List ℕ → List ℕ → List ℕ → (ℕ → Option Block) → ℕ → List WorkUnit → Type 0
Rest m page level have want erased start us = (low : ℕ) → ((low ≡ start) × IsFresh erased start) ⊎ ((b : Block) × IsErasedFor m erased b.start b × (b.start < start) × (start ≤ b.start + b.size) × (low ≡ b.start + b.size))
    → AreSoundUnits m page level have want low us

walk_fresh : (m : Parameters) (page : ℕ) (level have want : List ℕ) (erased : ℕ → Option Block) (start : ℕ) (o : Option Block) (rest : List WorkUnit)
    → IsSetting m page level have want erased → start % m.page ≡ 0 → start + m.page ≤ m.size → erased start ≡ o → IsFresh erased start
    → Rest m page level have want erased (start + m.page) rest
    → AreSoundUnits m page level have want start (unit_by m level want start o ++ rest)
walk_fresh m page level have want erased start None rest s whole inside is fresh more =
    page_walk m page level have want erased start (page_programs m level want start) rest s whole inside is (page_put m page level have want erased start s whole inside)
    (more (start + m.page) (inl (refl, fresh_past_page m page level have want erased start s whole is)))
walk_fresh m page level have want erased start (Some b) rest s whole inside is fresh more =
    let b_is = s.erasing.block start b is in
    let here : b.start ≡ start = fresh b is in
    let ends : start + m.page ≤ b.start + b.size = aligned_le (start + m.page) (b.start + b.size) m.page s.some_page (next_aligned start m.page whole) b_is.ends_aligned (omega (arith, b_is.high)) in
    let at_start : IsErasedFor m erased b.start b = s.erasing.block b.start b (b_is.all b.start (omega arith) (omega (arith, b_is.low, b_is.high))) in
    rw (eq-eqb b.start start here) (
      omega (arith, here),
      (λ x from upto. absurd (omega (arith, here))),
      block_sound m page level have want erased start b s b_is,
      more (b.start + b.size) (inr (b, at_start, omega (arith, here, s.some_page), ends, refl)),
    )

walk : (m : Parameters) (page : ℕ) (level have want : List ℕ) (erased : ℕ → Option Block) → IsSetting m page level have want erased
    → (n start : ℕ) → start % m.page ≡ 0 → EndsAt m.page start n m.size
    → Rest m page level have want erased start (flat_map (λ first. unit_by m level want first (erased first)) (pages m.page start n))
walk m page level have want erased s zero start whole ends low (inl fresh) = λ x from upto. absurd (omega (arith, s.size, fresh.0, ends))
walk m page level have want erased s zero start whole ends low (inr on) = λ x from upto. absurd (omega (arith, s.size, on.3, on.4, ends))
walk m page level have want erased s (suc n) start whole ends low (inl fresh) =
    let rest = walk m page level have want erased s n (start + m.page) (next_aligned start m.page whole) ends in
    let inside = within m.page n (start + m.page) m.size ends in
    subst (λ l. AreSoundUnits m page level have want l (unit_by m level want start (erased start) ++ flat_map (λ first. unit_by m level want first (erased first)) (pages m.page (start + m.page) n)))
    (sym fresh.0)
    (walk_fresh m page level have want erased start (erased start) _ s whole inside refl fresh.1 rest)
walk m page level have want erased s (suc n) start whole ends low (inr on) =
    let rest = walk m page level have want erased s n (start + m.page) (next_aligned start m.page whole) ends in
    let inside = within m.page n (start + m.page) m.size ends in
    elim (cases_lt start (on.0.start + on.0.size)) [
      | inl within_block ↦
          let here : erased start ≡ Some on.0 = on.1.all start (omega (arith, on.2)) within_block in
          let next : start + m.page ≤ on.0.start + on.0.size =
          aligned_le (start + m.page) (on.0.start + on.0.size) m.page s.some_page (next_aligned start m.page whole) on.1.ends_aligned (omega arith) in
          let apart : on.0.start ≢ start = λ same. omega (arith, same, on.2) in
          rw (here, ne_eqb on.0.start start apart) (rest low (inr (on.0, on.1, omega (arith, on.2), next, on.4)))
      | inr past ↦
          let end : start ≡ on.0.start + on.0.size = omega (arith, past, on.3) in
          subst (λ l. AreSoundUnits m page level have want l (unit_by m level want start (erased start) ++ flat_map (λ first. unit_by m level want first (erased first)) (pages m.page (start + m.page) n)))
          (end ∙ sym on.4)
          (walk_fresh m page level have want erased start (erased start) _ s whole inside refl
          (fresh_past_block m page level have want erased start on.0 s on.1.all on.2 end) rest)
    ]

-- the units of the whole chip are sound
pub all_sound : (m : Parameters) (page : ℕ) (level have want : List ℕ) (erased : ℕ → Option Block) (n : ℕ) → IsSetting m page level have want erased
    → EndsAt m.page 0 n m.size → AreSoundUnits m page level have want 0 (units_over m level want erased (pages m.page 0 n))
unfolding units_over
all_sound m page level have want erased n s ends =
    walk m page level have want erased s n 0 (zero-mod m.page) ends 0 (inl (refl, λ b is. omega (arith, (s.erasing.block 0 b is).low)))
