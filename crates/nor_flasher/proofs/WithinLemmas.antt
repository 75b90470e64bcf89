-- Work within a part of a chip is the same whatever the rest holds.
use Rattle.std.proofs.Common.{◌≡◌, ◌⊎◌, ℕ, zero, suc, ◌+◌, ◌-◌, ◌*◌, ◌/◌, ◌%◌, ◌<◌, ◌≤◌, ◌==◌, Bool, true, false, not, ◌&&◌, ◌||◌, cond, if◌then◌else◌, List, [], ◌∷◌, ◌++◌, length, map, Option, Some, None, refl, sym, ◌∙◌, ap, subst, arith, inl, inr, eq-eqb}
use Rattle.std.specs.Prelude.{filter, flat_map, is_some}
use Rattle.std.specs.List.{onto_first, range_with_len, slice_index, slice_range, slice_split}
use Rattle.std.proofs.Math.Bool.{and-false}
use Rattle.std.proofs.Math.Nat.{div-add-mod', zero-mod}
use Rattle.std.proofs.Math.Path.{fun_ext}
use Rattle.std.proofs.lemmas.Bool.{and_parts, both_ways, cases_Bool, cases_lt, not-true}
use Rattle.std.proofs.lemmas.Grind.{flat_map-append}
use Rattle.std.proofs.lemmas.List.{get_or_past}
use Rattle.std.proofs.lemmas.List.Concat.{flat_map_single}
use Rattle.nor_base.specs.declared.meaning.Start.{Start}
use Rattle.nor_base.specs.declared.meaning.Strategy.{Strategy}
use Rattle.nor_base.specs.declared.step.Step.{Step}
use Rattle.nor_base.specs.Accepted.{IsAccepted}
use Rattle.nor_base.specs.Array.{IsOutside}
use Rattle.nor_base.specs.Blocks.{Block, Holds, IsLegalBlock, smallest}
use Rattle.nor_base.specs.Chip.{begins4}
use Rattle.nor_base.specs.Effect.{may_program}
use Rattle.nor_base.specs.Need.{differs, is_at_fault, is_beyond, is_due, erased_at, lacks_erase, levelled}
use Rattle.nor_base.specs.Operations.{lowered, reads, unit_ops}
use Rattle.nor_base.specs.Parameters.{Parameters, block_size}
use Rattle.nor_base.specs.Planned.{planned_ops}
use Rattle.nor_base.specs.Programs.{Program, is_closed, last_of, page_programs, span, target_bytes}
use Rattle.nor_base.specs.Spelling.{AreStepsOf}
use Rattle.nor_base.specs.Strategies.{strategy}
use Rattle.nor_base.specs.Units.{block_unit, page_unit, pages, unit_by, units, units_over}
use Rattle.nor_base.proofs.ArrayLaws.{each_keeps, slice_index-each}
use Rattle.nor_base.proofs.RegionLaws.{legal_on_chip}
use Rattle.nor_geometry.proofs.KindLemmas.{placed, size_of}
use Rattle.nor_geometry.proofs.WindowLemmas.{legal_live}
use Rattle.nor_plan_laws.proofs.Erased.Erasing.{erased_for}
use Rattle.nor_plan_laws.proofs.Erased.Needed.{erased_needed, erases_blocks, needed_caused}
use Rattle.nor_plan_laws.proofs.Erased.Reached.{small}
use Rattle.nor_plan_laws.proofs.Units.Ranges.{aligned_le, length-range, range_at, same_range}
use Rattle.nor_plan_laws.proofs.Units.Walk.{block_ends, ends_at, next_aligned, within, EndsAt}
use Rattle.nor_plan_laws.proofs.Units.Wider.{some_page, whole_chip}
use Rattle.nor_loop.specs.Loop.{Has, IsContent}
use Rattle.nor_loop.specs.Reads.{Chunk}
use Rattle.nor_flasher.specs.Apart.{given, ChipRead}
use Rattle.nor_flasher.specs.Within.{AreAlike, DividesAll, IsBorder, IsPlannedWithin, IsWithin, PlannedForAll}

-- an address, or a stretch from one on, in a part of a chip
abbrev IsIn : ℕ → ℕ → ℕ → Type 0
IsIn low high x = (low ≤ x) × (x < high)

abbrev FitsIn : ℕ → ℕ → ℕ → ℕ → Type 0
FitsIn low high start n = (low ≤ start) × (start + n ≤ high)

place : (low high x : ℕ) → IsOutside low high x ⊎ IsIn low high x
place low high x = elim (cases_lt x low) [
  | inl before ↦ inl (inl before)
  | inr past ↦ elim (cases_lt x high) [ inl inside ↦ inr (past, inside) | inr after ↦ inl (inr after) ]
]

-- a part of a chip, and no page and no block lies across its borders
record IsPart (m : Parameters) (low high : ℕ) : Type 0 where
  accepted : IsAccepted m
  starts : IsBorder m low
  ends : IsBorder m high
  upto : high ≤ m.size

-- outside a part a content is its target
abbrev Rests : ℕ → ℕ → List ℕ → List ℕ → Type 0
Rests low high have want = (x : ℕ) → IsOutside low high x → slice_index have x ≡ slice_index want x

-- two contents with their targets: alike in a part, and outside it each content is its target
record AreSame (m : Parameters) (low high : ℕ) (have want held goal : List ℕ) : Type 0 where
  want_size : length want ≡ m.size
  goal_size : length goal ≡ m.size
  contents : AreAlike low high have held
  targets : AreAlike low high want goal
  rests : Rests low high have want
  rests_too : Rests low high held goal

-- a stretch that begins at a multiple of its size lies across no border that is one too
uncrossed : (m : Parameters) (border n start : ℕ) → 0 < n → start % n ≡ 0 → start + n ≤ m.size → (DividesAll m border → border % n ≡ 0) → IsBorder m border
    → start < border → start + n ≤ border
uncrossed m border n start some whole inside divides (inl end) before = omega arith
uncrossed m border n start some whole inside divides (inr all) before =
    aligned_le (start + n) border n some (next_aligned start n whole) (divides all) (omega arith)

-- two functions that give the same for each page of a stretch
same_pages : {Y : Type 0} (f g : ℕ → List Y) (page n start high : ℕ) → start % page ≡ 0 → EndsAt page start n high
    → ((s : ℕ) → s % page ≡ 0 → start ≤ s → s + page ≤ high → f s ≡ g s) → flat_map f (pages page start n) ≡ flat_map g (pages page start n)
same_pages f g page zero start high whole ends each = refl
same_pages f g page (suc n) start high whole ends each =
    ap (λ first. first ++ flat_map f (pages page (start + page) n)) (each start whole (omega arith) (within page n (start + page) high ends))
    ∙ ap (λ rest. g start ++ rest) (same_pages f g page n (start + page) high (next_aligned start page whole) ends (λ s whole_s from upto. each s whole_s (omega arith) upto))

flat_map_twice : {X Y Z : Type 0} (f : X → List Y) (g : Y → List Z) (xs : List X) → flat_map g (flat_map f xs) ≡ flat_map (λ x. flat_map g (f x)) xs
flat_map_twice f g [] = refl
flat_map_twice f g (x ∷ xs) = flat_map-append g (f x) (flat_map f xs) ∙ ap (λ rest. flat_map g (f x) ++ rest) (flat_map_twice f g xs)

last_passes : (test : ℕ → Bool) (x : ℕ) (xs : List ℕ) → test x ≡ true → test (last_of x (filter test xs)) ≡ true
last_passes test x [] h = h
last_passes test x (y ∷ ys) h = elim (cases_Bool (test y)) [
  | inl is ↦ rw is (last_passes test y ys is)
  | inr is ↦ rw is (last_passes test x ys h)
]

-- bytes that are their targets have no programs
no_spans : (have want : List ℕ) (closed : ℕ → Bool) (n start : ℕ) → ((x : ℕ) → start ≤ x → x < start + n → differs have want x ≡ false)
    → flat_map (λ part. span want (filter (differs have want) part)) (slice_split closed (range_with_len start n)) ≡ []
no_spans have want closed zero start same = refl
no_spans have want closed (suc n) start same =
    step (closed start) (slice_split closed (range_with_len (start + 1) n)) (no_spans have want closed n (start + 1) (λ x from upto. same x (omega arith) (omega arith)))
  where
    here : differs have want start ≡ false
    here = same start (omega arith) (omega arith)

    step : (b : Bool) (parts : List (List ℕ)) → flat_map (λ part. span want (filter (differs have want) part)) parts ≡ []
        → flat_map (λ part. span want (filter (differs have want) part)) (cond b ([] ∷ parts) (onto_first start parts)) ≡ []
    step true parts none = none
    step false [] none = rw here refl
    step false (part ∷ parts) none = rw here none

-- the operations of a page's unit are its programs
page_ops : (m : Parameters) (verify : Bool) (want goal : List ℕ) (start : ℕ) (ps : List Program)
    → flat_map (unit_ops m verify want) (page_unit m start ps) ≡ flat_map (unit_ops m verify goal) (page_unit m start ps)
page_ops m verify want goal start [] = refl
page_ops m verify want goal start (p ∷ ps) = refl

abbrev level_of : Parameters → Strategy → List ℕ → List ℕ → List ℕ
level_of m by have want = levelled m by (is_due m have want) have

module _ (m : Parameters) (low high : ℕ) (p : IsPart m low high) where
  -- a block with an address in the part lies in it
  block_stays : (b : Block) (x : ℕ) → IsLegalBlock m b → Holds b x → IsIn low high x → FitsIn low high b.start b.size
  block_stays b x legal holds there =
      let l = placed m b p.accepted legal in
      let size : block_size m b.kind ≡ b.size = size_of m b.kind l.erase l.there ∙ sym l.size in
      let edge = λ (border : ℕ). uncrossed m border b.size b.start l.some l.aligned (legal_on_chip m b p.accepted legal)
      (λ all. ap (λ n. border % n) (sym size) ∙ all.block b.kind (legal_live m b p.accepted legal)) in (
        elim (cases_lt b.start low) [ inl less ↦ let fits = edge low p.starts less in absurd (omega arith) | inr fits ↦ fits ],
        edge high p.ends (omega arith),
      )

  -- a page lies in the part or outside it
  page_place : (start : ℕ) → start % m.page ≡ 0 → start + m.page ≤ m.size
      → FitsIn low high start m.page ⊎ ((x : ℕ) → start ≤ x → x < start + m.page → IsOutside low high x)
  page_place start whole inside =
      let edge = λ (border : ℕ). uncrossed m border m.page start (some_page m p.accepted) whole inside (λ all. all.page) in
      elim (cases_lt start low) [
        | inl less ↦ let ends = edge low p.starts less in inr (λ x from upto. inl (omega arith))
        | inr past ↦ elim (cases_lt start high) [ inl before ↦ inl (past, edge high p.ends before) | inr after ↦ inr (λ x from upto. inr (omega arith)) ]
      ]

  module _ (have want : List ℕ) (rests : Rests low high have want) where
    differs_there : (x : ℕ) → differs have want x ≡ true → IsIn low high x
    differs_there x apart = elim (place low high x) [
      | inr there ↦ there
      | inl out ↦ absurd (both_ways (slice_index have x == slice_index want x) (not-true _ apart) (eq-eqb _ _ (rests x out)))
    ]

    -- an erased block lies in the part, and its address too: what is needed lies round an address that differs
    erased_there : (by : Strategy) (x : ℕ) (b : Block) → erased_at m by (is_due m have want) x ≡ Some b → FitsIn low high b.start b.size × IsIn low high x
    erased_there by x b is =
        let due = is_due m have want in
        let c = needed_caused m due x (erased_needed m by due x b p.accepted is) in
        let s = small m c.cause c.block p.accepted c.is in
        let apart = and_parts (differs have want c.cause) (not (may_program m (slice_index have c.cause) (slice_index want c.cause))) c.is_due in
        let around = block_stays c.block c.cause s.is.legal_block (s.is.low, s.is.high) (differs_there c.cause apart.0) in
        let there : IsIn low high x = (omega (arith, around.0, c.low), omega (arith, around.1, c.high)) in
        let e = erases_blocks m by due x b p.accepted is in
        (block_stays b x e.legal e.here there, there)

    -- so the content with FFh over the erased blocks is the target outside the part
    level_rests : (by : Strategy) → Rests low high (level_of m by have want) want
    unfolding levelled
    level_rests by x out =
        each_keeps (λ a old. if is_some (erased_at m by (is_due m have want) a) then 255 else old) have x
        (λ old. by_block old (erased_at m by (is_due m have want) x) refl) ∙ rests x out
      where
        by_block : (old : ℕ) (o : Option Block) → erased_at m by (is_due m have want) x ≡ o → (if is_some o then 255 else old) ≡ old
        by_block old None is = refl
        by_block old (Some b) is =
            let there = erased_there by x b is in
            absurd (elim out [ inl before ↦ omega (arith, there.1.0) | inr after ↦ omega (arith, there.1.1) ])

    no_programs : (start : ℕ) → ((x : ℕ) → start ≤ x → x < start + m.page → IsOutside low high x) → page_programs m have want start ≡ []
    unfolding page_programs
    no_programs start out =
        no_spans have want (is_closed m have) m.page start (λ x from upto. ap not (eq-eqb (slice_index have x) (slice_index want x) (rests x (out x from upto))))

  module _ (have want held goal : List ℕ) (w : AreSame m low high have want held goal) where
    -- a test of a byte and its target that none passes that is its target
    same_test : (test : ℕ → ℕ → Bool) → ((n : ℕ) → test n n ≡ false) → (x : ℕ)
        → test (slice_index have x) (slice_index want x) ≡ test (slice_index held x) (slice_index goal x)
    same_test test none x = elim (place low high x) [
      | inr there ↦
          ap (λ old. test old (slice_index want x)) (w.contents x there.0 there.1) ∙ ap (test (slice_index held x)) (w.targets x there.0 there.1)
      | inl out ↦
          ap (λ old. test old (slice_index want x)) (w.rests x out) ∙ none (slice_index want x)
          ∙ sym (ap (λ old. test old (slice_index goal x)) (w.rests_too x out) ∙ none (slice_index goal x))
    ]

    same_differs : differs have want ≡ differs held goal
    same_differs = fun_ext (same_test (λ old new. not (old == new)) (λ n. rw (eq-eqb n n refl) refl))

    same_due : is_due m have want ≡ is_due m held goal
    same_due = fun_ext (same_test (λ old new. not (old == new) && not (may_program m old new)) (λ n. rw (eq-eqb n n refl) refl))

    same_fault : (by : Strategy) (x : ℕ) → is_at_fault m by have want x ≡ is_at_fault m by held goal x
    unfolding lacks_erase
    same_fault by x =
        same_test (λ old new. (is_beyond by x && not (old == new))
        || (not (is_beyond by x) && ((not (old == new) && not (may_program m old new)) && not (is_some (smallest m x)))))
        (λ n. rw (eq-eqb n n refl, and-false (is_beyond by x), and-false (not (is_beyond by x))) refl) x

    same_levels : (by : Strategy) → length have ≡ m.size → length held ≡ m.size
        → AreSame m low high (level_of m by have want) want (level_of m by held goal) goal
    unfolding levelled
    same_levels by have_size held_size = record {
      want_size = w.want_size;
      goal_size = w.goal_size;
      contents = λ x past before.
          slice_index-each _ have x (omega (arith, p.upto))
          ∙ ap (λ old. if is_some (erased_at m by (is_due m have want) x) then 255 else old) (w.contents x past before)
          ∙ ap (λ due. if is_some (erased_at m by due x) then 255 else slice_index held x) same_due ∙ sym (slice_index-each _ held x (omega (arith, p.upto)));
      targets = w.targets;
      rests = level_rests have want w.rests by;
      rests_too = level_rests held goal w.rests_too by;
    }

    -- bytes of the part are cut alike at closed ones, and those that differ are programmed alike
    same_parts : (n start : ℕ) → low ≤ start → start + n ≤ high
        → slice_split (is_closed m have) (range_with_len start n) ≡ slice_split (is_closed m held) (range_with_len start n)
    same_parts zero start from upto = refl
    same_parts (suc n) start from upto =
        let parts = slice_split (is_closed m have) (range_with_len (start + 1) n) in
        ap (λ old. cond (m.erased_only && not (old == 255)) ([] ∷ parts) (onto_first start parts)) (w.contents start from (omega arith))
        ∙ ap (λ those. cond (is_closed m held start) ([] ∷ those) (onto_first start those)) (same_parts n (start + 1) (omega arith) (omega arith))

    same_bytes : (from upto : ℕ) → low ≤ from → upto ≤ high → target_bytes want from upto ≡ target_bytes goal from upto
    same_bytes from upto past before = ap (λ bytes. record { at = from; bytes = bytes }) (elim (cases_lt upto from) [
      | inl none' ↦ let none : upto - from ≡ 0 = omega arith in rw none refl
      | inr rises ↦
          same_range want goal from upto rises (omega (arith, p.upto, w.want_size)) (omega (arith, p.upto, w.goal_size)) (λ x low_x high_x. w.targets x (omega arith) (omega arith))
    ])

    same_span : (part : List ℕ) → span want (filter (differs have want) part) ≡ span goal (filter (differs have want) part)
    same_span [] = refl
    same_span (x ∷ xs) = elim (cases_Bool (differs have want x)) [
      | inr is ↦ rw is (same_span xs)
      | inl is ↦
          let last = last_of x (filter (differs have want) xs) in
          let first_there = differs_there have want w.rests x is in
          let last_there = differs_there have want w.rests last (last_passes (differs have want) x xs is) in
          rw is (ap (λ program. program ∷ []) (same_bytes x (last + 1) first_there.0 (omega (arith, last_there.1))))
    ]

    same_programs : (start : ℕ) → FitsIn low high start m.page → page_programs m have want start ≡ page_programs m held goal start
    unfolding page_programs
    same_programs start fits =
        let spans : (part : List ℕ) → span want (filter (differs have want) part) ≡ span goal (filter (differs held goal) part) = λ part.
        same_span part ∙ ap (λ test. span goal (filter test part)) same_differs in
        ap (flat_map (λ part. span want (filter (differs have want) part))) (same_parts m.page start fits.0 fits.1)
        ∙ ap (λ (f : List ℕ → List Program). flat_map f (slice_split (is_closed m held) (range_with_len start m.page))) (fun_ext spans)

    -- the operations of a block's unit
    same_block : (verify : Bool) (b : Block) → b.start % m.page ≡ 0 → EndsAt m.page b.start (b.size / m.page) (b.start + b.size)
        → FitsIn low high b.start b.size → unit_ops m verify want (block_unit m have want b) ≡ unit_ops m verify goal (block_unit m held goal b)
    same_block verify b whole ends fits =
        let starts = pages m.page b.start (b.size / m.page) in
        let reread = λ (bytes : List ℕ) (s : ℕ). reads (target_bytes bytes s (s + m.page)) in
        let programs = same_pages (page_programs m have want) (page_programs m held goal) m.page (b.size / m.page) b.start (b.start + b.size) whole ends
        (λ s whole_s from upto. same_programs s (omega arith, omega arith)) in
        let rereads : map (reread want) starts ≡ map (reread goal) starts =
        sym (flat_map_single (reread want) starts)
        ∙ same_pages (λ s. reread want s ∷ []) (λ s. reread goal s ∷ []) m.page (b.size / m.page) b.start (b.start + b.size) whole ends
        (λ s whole_s from upto. ap (λ bytes. reads bytes ∷ []) (same_bytes s (s + m.page) (omega arith) (omega arith)))
        ∙ flat_map_single (reread goal) starts in
        rw (programs, rereads) refl

    -- those of the unit that starts with a page, where a block that is erased there lies in the part
    same_unit : (verify : Bool) (start : ℕ) (o : Option Block) → start % m.page ≡ 0 → start + m.page ≤ m.size
        → ((b : Block) → o ≡ Some b → (b.start % m.page ≡ 0) × EndsAt m.page b.start (b.size / m.page) (b.start + b.size) × FitsIn low high b.start b.size)
        → flat_map (unit_ops m verify want) (unit_by m have want start o) ≡ flat_map (unit_ops m verify goal) (unit_by m held goal start o)
    same_unit verify start None whole inside fits =
        ap (λ ps. flat_map (unit_ops m verify want) (page_unit m start ps)) (elim (page_place start whole inside) [
          | inl there ↦ same_programs start there
          | inr out ↦ no_programs have want w.rests start out ∙ sym (no_programs held goal w.rests_too start out)
        ])
        ∙ page_ops m verify want goal start (page_programs m held goal start)
    same_unit verify start (Some b) whole inside fits = elim (cases_Bool (b.start == start)) [
      | inl here ↦ let its = fits b refl in rw here (ap (λ ops. ops ++ []) (same_block verify b its.0 its.1 its.2))
      | inr apart ↦ rw apart refl
    ]

  -- those of all planned work
  same_ops : (start : Start) (verify : Bool) (have want held goal : List ℕ) → length have ≡ m.size → length held ≡ m.size
      → AreSame m low high have want held goal → planned_ops m start verify have want ≡ planned_ops m start verify held goal
  unfolding units units_over
  same_ops start verify have want held goal have_size held_size w =
      let by = strategy m start in
      let erased = erased_at m by (is_due m have want) in
      let levels = same_levels have want held goal w by have_size held_size in
      let all : 0 + m.size / m.page * m.page ≡ m.size = omega (arith, div-add-mod' m.size m.page, whole_chip m p.accepted) in
      flat_map_twice _ (unit_ops m verify want) (pages m.page 0 (m.size / m.page))
      ∙ same_pages _ _ m.page (m.size / m.page) 0 m.size (zero-mod m.page) (ends_at m.page (m.size / m.page) 0 m.size all) (λ at whole from upto.
      same_unit (level_of m by have want) want (level_of m by held goal) goal levels verify at (erased at) whole upto (λ b is.
      let e = erased_for m by (is_due m have want) at b p.accepted is in
      (e.aligned, block_ends m erased at b e, (erased_there have want w.rests by at b is).0))
      ∙ ap (λ due. flat_map (unit_ops m verify goal) (unit_by m (level_of m by held goal) goal at (erased_at m by due at))) (same_due have want held goal w))
      ∙ sym (flat_map_twice _ (unit_ops m verify goal) (pages m.page 0 (m.size / m.page)))

-- two contents that have a chunk are alike over it
alike_over : (c : Chunk) (one other : List ℕ) → Has c one → Has c other → AreAlike c.at (c.at + length c.bytes) one other
alike_over c one other has has_too x past before =
    let end = c.at + length c.bytes in
    sym (range_at one c.at end x past before) ∙ ap (λ bytes. slice_index bytes (x - c.at)) (has ∙ sym has_too) ∙ range_at other c.at end x past before

-- the chunk that a chip gave ends where the part ends, and what was read has it
given_ends : (c : ChipRead) (goal : List ℕ → List ℕ) (steps : List Step) → IsPlannedWithin c goal steps → c.low + length (given c).bytes ≡ c.high
given_ends c goal steps w = omega (arith, length-range c.content c.low c.high w.order (omega (arith, w.upto, w.content.size)), w.order)

pub has_given : (c : ChipRead) (goal : List ℕ → List ℕ) (steps : List Step) → IsPlannedWithin c goal steps → Has (given c) c.content
has_given c goal steps w = ap (slice_range c.content c.low) (given_ends c goal steps w)

-- outside the part, and past the end, a content is its goal
goal_rests : (c : ChipRead) (goal : List ℕ → List ℕ) (held : List ℕ) → IsWithin c goal → IsContent c.m held → Rests c.low c.high held (goal held)
goal_rests c goal held w is x out = elim (cases_lt x c.m.size) [
  | inl inside ↦ sym (w.outside held x is inside out)
  | inr past ↦ get_or_past held x 0 (omega (arith, is.size)) ∙ sym (get_or_past (goal held) x 0 (omega (arith, (w.content held is).size)))
]

pub planned_for_all : PlannedForAll
planned_for_all c goal steps w held is has =
    let by = strategy c.m c.start in
    let part : IsPart c.m c.low c.high = record { accepted = w.done.workable.accepted; starts = w.low; ends = w.high; upto = w.upto } in
    let alike : AreAlike c.low c.high c.content held = λ x past before.
    alike_over (given c) c.content held (has_given c goal steps w) has x past (omega (arith, given_ends c goal steps w)) in
    let target = w.within.content held is in
    let same : AreSame c.m c.low c.high c.content (goal c.content) held (goal held) = record {
      want_size = (w.within.content c.content w.content).size;
      goal_size = target.size;
      contents = alike;
      targets = w.within.inside c.content held w.content is alike;
      rests = goal_rests c goal c.content w.within w.content;
      rests_too = goal_rests c goal held w.within is;
    } in
    let ops = same_ops c.m c.low c.high part c.start true c.content (goal c.content) held (goal held) w.content.size is.size same in
    record {
      workable = record {
        accepted = w.done.workable.accepted;
        have_size = is.size;
        want_size = target.size;
        bytes = target.bytes;
        sound = λ x inside. sym (same_fault c.m c.low c.high part c.content (goal c.content) held (goal held) same by x) ∙ w.done.workable.sound x inside;
      };
      planned = subst (λ ops. AreStepsOf c.m (begins4 c.m c.start) (lowered c.m c.start by ops) steps) ops w.done.planned;
    }
