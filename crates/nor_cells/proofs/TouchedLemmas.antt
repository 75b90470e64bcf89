-- Cells that are marked for what steps touch.
use Rattle.std.proofs.Common.{◌≡◌, Bool, true, false, ℕ, ◌+◌, ◌-◌, ◌*◌, ◌/◌, ◌<◌, ◌≤◌, ◌⊎◌, inl, inr, nat_le, nat_lt, ◌&&◌, ◌||◌, min, List, [], ◌∷◌, ◌++◌, take, length, get_or, Some, None, refl, sym, ◌∙◌, ap, subst, arith}
use Rattle.std.proofs.lemmas.Bool.{cases_lt, and_parts, leb-true, ltb-true, le-leb, lt-ltb}
use Rattle.std.proofs.lemmas.List.{take_all, get_or_past}
use Rattle.nor_base.specs.declared.step.Step.{Step}
use Rattle.nor_base.specs.declared.instruction.What.{What}
use Rattle.nor_base.specs.declared.instruction.What.TheVariants as what
use Rattle.nor_base.specs.Decoding.{Transaction, Instruction, instruction, transaction, decode}
use Rattle.nor_base.specs.declared.meaning.Start.{Start}
use Rattle.nor_base.specs.Chip.{begins4}
use Rattle.nor_base.specs.Effect.{place}
use Rattle.nor_base.specs.Parameters.{Parameters}
use Rattle.nor_cells.specs.Marks.{IsMarked, MarkedBy, AreMarks}
use Rattle.nor_base.specs.Step.{step_clocks}
use Rattle.nor_base.specs.Spelling.{mode_by}
use Rattle.nor_cells.specs.Touched.{LiesBetween, Programs, Changes, ChangesSeen, Touches, mode_past, mode_past_all, IsTouched, SoFar, HasTouched}
use Rattle.nor_base.proofs.ListLaws.{one_taken}
use Rattle.nor_decode.proofs.DecodedLemmas.{decoded, not_decoded}

-- nothing is marked
pub none_marked : (P : ℕ → Type 0) (marks : List Bool) → ((a : ℕ) → P a → ⊥) → MarkedBy P marks marks
none_marked P marks none = record {
  same_length = refl;
  kept = λ a is. is;
  more = λ a inside is. absurd (none a is);
  only = λ a is. inl is;
}

-- for what is so just where something else is
pub marked_alike : (P Q : ℕ → Type 0) (old new : List Bool) → ((a : ℕ) → P a → Q a) → ((a : ℕ) → Q a → P a) → MarkedBy P old new → MarkedBy Q old new
marked_alike P Q old new to from marked = record {
  same_length = marked.same_length;
  kept = marked.kept;
  more = λ a inside is. marked.more a inside (from a is);
  only = λ a is. elim (marked.only a is) [ inl before ↦ inl before | inr near ↦ inr (near.0, near.1, to near.0 near.2) ];
}

-- and then for something else
pub marked_then : (P Q : ℕ → Type 0) (old now new : List Bool) → MarkedBy P old now → MarkedBy Q now new → MarkedBy (λ a. P a ⊎ Q a) old new
marked_then P Q old now new first second = record {
  same_length = second.same_length ∙ first.same_length;
  kept = λ a is. second.kept a (first.kept a is);
  more = λ a inside is. elim is [
    | inl one ↦ second.kept a (first.more a inside one)
    | inr other ↦ second.more a (omega (arith, inside, first.same_length)) other
  ];
  only = λ a is. elim (second.only a is) [
    | inl before ↦ elim (first.only a before) [ inl old_one ↦ inl old_one | inr near ↦ inr (near.0, near.1, inl near.2) ]
    | inr near ↦ inr (near.0, near.1, inr near.2)
  ];
}

-- the first so many bytes of a program
abbrev pub ProgramsFirst : Parameters → Instruction → ℕ → ℕ → Type 0
ProgramsFirst m i n a = (j : ℕ) × (j < n) × (a ≡ place m.page i.address j)

pub programs_none : (m : Parameters) (i : Instruction) (marks : List Bool) → MarkedBy (ProgramsFirst m i 0) marks marks
programs_none m i marks = none_marked (ProgramsFirst m i 0) marks (λ a is. absurd (omega (arith, is.1)))

pub programs_more : (m : Parameters) (i : Instruction) (n at : ℕ) (old now new : List Bool) → at ≡ place m.page i.address n → MarkedBy (ProgramsFirst m i n) old now
    → MarkedBy (LiesBetween at (at + 1)) now new → MarkedBy (ProgramsFirst m i (n + 1)) old new
programs_more m i n at old now new is so_far one =
    marked_alike (λ a. ProgramsFirst m i n a ⊎ LiesBetween at (at + 1) a) (ProgramsFirst m i (n + 1)) old new
    (λ a h. elim h [
      | inl before ↦ (before.0, omega (arith, before.1), before.2)
      | inr here ↦ (n, omega arith, let same : a ≡ at = omega (arith, here) in same ∙ is)
    ])
    (λ a h. elim (cases_lt h.0 n) [
      | inl below ↦ inl (h.0, below, h.2)
      | inr past ↦
          let last : h.0 ≡ n = omega (arith, h.1, past) in
          let same : a ≡ at = h.2 ∙ ap (place m.page i.address) last ∙ sym is in
          inr (omega (arith, same), omega (arith, same))
    ])
    (marked_then (ProgramsFirst m i n) (LiesBetween at (at + 1)) old now new so_far one)

-- the steps that come next
touched_parts : (m : Parameters) (mode4 : Bool) (xs ys : List Step) (a : ℕ) → IsTouched m mode4 (xs ++ ys) a
    → IsTouched m mode4 xs a ⊎ IsTouched m (mode_past_all m mode4 xs) ys a
touched_parts m mode4 [] ys a h = inr h
touched_parts m mode4 (x ∷ xs) ys a (inl h) = inl (inl h)
touched_parts m mode4 (x ∷ xs) ys a (inr h) = elim (touched_parts m (mode_past m mode4 x) xs ys a h) [ inl i ↦ inl (inr i) | inr i ↦ inr i ]

touched_first : (m : Parameters) (mode4 : Bool) (xs ys : List Step) (a : ℕ) → IsTouched m mode4 xs a → IsTouched m mode4 (xs ++ ys) a
touched_first m mode4 [] ys a h = absurd h
touched_first m mode4 (x ∷ xs) ys a (inl h) = inl h
touched_first m mode4 (x ∷ xs) ys a (inr h) = inr (touched_first m (mode_past m mode4 x) xs ys a h)

touched_next : (m : Parameters) (mode4 : Bool) (xs ys : List Step) (a : ℕ) → IsTouched m (mode_past_all m mode4 xs) ys a → IsTouched m mode4 (xs ++ ys) a
touched_next m mode4 [] ys a h = h
touched_next m mode4 (x ∷ xs) ys a h = inr (touched_next m (mode_past m mode4 x) xs ys a h)

mode_parts : (m : Parameters) (mode4 : Bool) (xs ys : List Step) → mode_past_all m mode4 (xs ++ ys) ≡ mode_past_all m (mode_past_all m mode4 xs) ys
mode_parts m mode4 [] ys = refl
mode_parts m mode4 (x ∷ xs) ys = mode_parts m (mode_past m mode4 x) xs ys

-- one step more
pub mode_next : (m : Parameters) (first mode4 after : Bool) (steps : List Step) (at : ℕ) (x : Step) → at < length steps → x ≡ get_or steps at x
    → mode4 ≡ mode_past_all m first (take at steps) → after ≡ mode_past m mode4 x → after ≡ mode_past_all m first (take (at + 1) steps)
mode_next m first mode4 after steps at x within is so_far one =
    one ∙ ap (λ b. mode_past m b x) so_far ∙ sym (mode_parts m first (take at steps) (x ∷ [])) ∙ ap (mode_past_all m first) (sym (one_taken steps at x within is))

pub marked_next : (m : Parameters) (first mode4 : Bool) (steps : List Step) (at : ℕ) (x : Step) (old now new : List Bool) → at < length steps → x ≡ get_or steps at x
    → mode4 ≡ mode_past_all m first (take at steps) → MarkedBy (IsTouched m first (take at steps)) old now → MarkedBy (Touches m mode4 x) now new
    → MarkedBy (IsTouched m first (take (at + 1) steps)) old new
marked_next m first mode4 steps at x old now new within is mode so_far one =
    let here : MarkedBy (Touches m (mode_past_all m first (take at steps)) x) now new = subst (λ (b : Bool). MarkedBy (Touches m b x) now new) mode one in
    subst (λ (l : List Step). MarkedBy (IsTouched m first l) old new) (sym (one_taken steps at x within is))
    (marked_alike (λ a. IsTouched m first (take at steps) a ⊎ Touches m (mode_past_all m first (take at steps)) x a) (IsTouched m first (take at steps ++ x ∷ [])) old new
    (λ a h. elim h [ inl before ↦ touched_first m first (take at steps) (x ∷ []) a before | inr last ↦ touched_next m first (take at steps) (x ∷ []) a (inl last) ])
    (λ a h. elim (touched_parts m first (take at steps) (x ∷ []) a h) [ inl before ↦ inl before | inr (inl last) ↦ inr last | inr (inr none) ↦ absurd none ])
    (marked_then (IsTouched m first (take at steps)) (Touches m (mode_past_all m first (take at steps)) x) old now new so_far here))

pub marked_to_end : (m : Parameters) (first : Bool) (steps : List Step) (at : ℕ) (old new : List Bool) → length steps ≤ at → MarkedBy (IsTouched m first (take at steps)) old new
    → MarkedBy (IsTouched m first steps) old new
marked_to_end m first steps at old new all marked = subst (λ (l : List Step). MarkedBy (IsTouched m first l) old new) (take_all at steps all) marked

-- what a chip sees in clocks
pub seen_marked : (m : Parameters) (mode4 : Bool) (x : Step) (clocks : List ℕ) (t : Transaction) (old new : List Bool) → clocks ≡ step_clocks x
    → Some t ≡ transaction m mode4 clocks → MarkedBy (Changes m (instruction t) t.what) old new → MarkedBy (Touches m mode4 x) old new
seen_marked m mode4 x clocks t old new is seen marked =
    let here : MarkedBy (ChangesSeen m (decode m mode4 clocks)) old new =
    subst (λ o. MarkedBy (ChangesSeen m o) old new) (sym (decoded m mode4 clocks t seen)) marked in
    subst (λ (l : List ℕ). MarkedBy (ChangesSeen m (decode m mode4 l)) old new) is here

pub unseen_marked : (m : Parameters) (mode4 : Bool) (x : Step) (clocks : List ℕ) (marks : List Bool) → clocks ≡ step_clocks x → None ≡ transaction m mode4 clocks
    → MarkedBy (Touches m mode4 x) marks marks
unseen_marked m mode4 x clocks marks is seen =
    let here : MarkedBy (ChangesSeen m (decode m mode4 clocks)) marks marks =
    subst (λ o. MarkedBy (ChangesSeen m o) marks marks) (sym (not_decoded m mode4 clocks seen)) (none_marked (λ a. ⊥) marks (λ a h. h)) in
    subst (λ (l : List ℕ). MarkedBy (ChangesSeen m (decode m mode4 l)) marks marks) is here

pub seen_mode : (m : Parameters) (mode4 after : Bool) (x : Step) (clocks : List ℕ) (t : Transaction) → clocks ≡ step_clocks x → Some t ≡ transaction m mode4 clocks
    → after ≡ mode_by mode4 (Some (instruction t)) → after ≡ mode_past m mode4 x
seen_mode m mode4 after x clocks t is seen told =
    told ∙ ap (mode_by mode4) (sym (decoded m mode4 clocks t seen)) ∙ ap (λ (l : List ℕ). mode_by mode4 (decode m mode4 l)) is

pub unseen_mode : (m : Parameters) (mode4 : Bool) (x : Step) (clocks : List ℕ) → clocks ≡ step_clocks x → None ≡ transaction m mode4 clocks → mode4 ≡ mode_past m mode4 x
unseen_mode m mode4 x clocks is seen =
    ap (mode_by mode4) (sym (not_decoded m mode4 clocks seen)) ∙ ap (λ (l : List ℕ). mode_by mode4 (decode m mode4 l)) is

-- marks of what is so, and then of something else
pub are_then : (P Q R : ℕ → Type 0) (count : ℕ) (now new : List Bool) → ((a : ℕ) → P a → R a) → ((a : ℕ) → Q a → R a) → ((a : ℕ) → R a → P a ⊎ Q a)
    → AreMarks P count now → MarkedBy Q now new → AreMarks R count new
are_then P Q R count now new first second parts are marked = record {
  as_many = marked.same_length ∙ are.as_many;
  each = λ a inside. (
    (λ is. elim (marked.only a is) [
      | inl before ↦ let near = (are.each a inside).0 before in (near.0, near.1, first near.0 near.2)
      | inr near ↦ (near.0, near.1, second near.0 near.2)
    ]),
    (λ near.
        let there : near.0 / 256 < count = omega (arith, near.1, inside) in
        let is : IsMarked new near.0 = elim (parts near.0 near.2) [
          | inl one ↦ marked.kept near.0 ((are.each near.0 there).1 (near.0, refl, one))
          | inr other ↦ marked.more near.0 (omega (arith, there, are.as_many)) other
        ] in
        subst (λ c. get_or new c false ≡ true) near.1 is),
  );
}

pub touches_more : (m : Parameters) (start : Start) (done steps : List Step) (now after : SoFar) → HasTouched m start done now → after.meaning ≡ now.meaning
    → after.mode4 ≡ mode_past_all now.meaning now.mode4 steps → MarkedBy (IsTouched now.meaning now.mode4 steps) now.marks after.marks → HasTouched m start (done ++ steps) after
touches_more m start done steps now after has same mode marked =
    let first = begins4 m start in
    let here : MarkedBy (IsTouched m (mode_past_all m first done) steps) now.marks after.marks =
    subst (λ (b : Bool). MarkedBy (IsTouched m b steps) now.marks after.marks) has.mode
    (subst (λ (p : Parameters). MarkedBy (IsTouched p now.mode4 steps) now.marks after.marks) has.meaning marked) in
    record {
      meaning = same ∙ has.meaning;
      mode = mode ∙ ap (λ (p : Parameters). mode_past_all p now.mode4 steps) has.meaning ∙ ap (λ b. mode_past_all m b steps) has.mode ∙ sym (mode_parts m first done steps);
      marks = are_then (IsTouched m first done) (IsTouched m (mode_past_all m first done) steps) (IsTouched m first (done ++ steps)) (m.size / 256) now.marks after.marks
          (touched_first m first done steps) (touched_next m first done steps) (touched_parts m first done steps) has.marks here;
    }

-- the cells of the addresses from one to before another
either : (p q : Bool) → (p || q) ≡ true → (p ≡ true) ⊎ (q ≡ true)
either true q h = inl refl
either false q h = inr h

or_first : (p q : Bool) → p ≡ true → (p || q) ≡ true
or_first true q h = refl
or_first false q h = cc

or_second : (p q : Bool) → q ≡ true → (p || q) ≡ true
or_second true q h = refl
or_second false q h = h

both : (p q : Bool) → p ≡ true → q ≡ true → (p && q) ≡ true
both true q h i = i
both false q h i = cc

pub marked_inside : (marks : List Bool) (a : ℕ) → IsMarked marks a → a / 256 < length marks
marked_inside marks a is = elim (cases_lt (a / 256) (length marks)) [
  | inl inside ↦ inside
  | inr past ↦ let none : get_or marks (a / 256) false ≡ false = get_or_past marks (a / 256) false past in absurd (let same : true ≡ false = sym is ∙ none in cc)
]

-- an address of such a cell that lies between them
between_in : (start end k : ℕ) → start < end → start / 256 ≤ k → k ≤ (end - 1) / 256 → (b : ℕ) × (b / 256 ≡ k) × LiesBetween start end b
between_in start end k some low high = elim (cases_lt (256 * k) start) [
  | inl past ↦ (start, omega arith, (omega arith, some))
  | inr before ↦ (256 * k, omega arith, (before, omega arith))
]

pub between_marked : (start end begin last c : ℕ) (old new : List Bool) → start < end → begin ≡ start / 256 → last ≡ min ((end - 1) / 256 + 1) (length old)
    → length new ≡ length old → ((k : ℕ) → k < length old → get_or new k false ≡ (get_or old k false || (nat_le begin k && nat_lt k c)))
    → begin ≤ c → (last < c → c ≡ begin) → last ≤ c → MarkedBy (LiesBetween start end) old new
between_marked start end begin last c old new some first upto same each from ends all = record {
  same_length = same;
  kept = λ a is. each (a / 256) (marked_inside old a is) ∙ or_first (get_or old (a / 256) false) (nat_le begin (a / 256) && nat_lt (a / 256) c) is;
  more = λ a inside is.
      let low : begin ≤ a / 256 = omega (arith, first, is.0) in
      let near : a / 256 < (end - 1) / 256 + 1 = omega (arith, is.1) in
      let high : a / 256 < c = omega (arith, near, inside, upto, all) in
      each (a / 256) inside ∙ or_second (get_or old (a / 256) false) (nat_le begin (a / 256) && nat_lt (a / 256) c)
      (both (nat_le begin (a / 256)) (nat_lt (a / 256) c) (le-leb begin (a / 256) low) (lt-ltb (a / 256) c high));
  only = λ a is.
      let inside : a / 256 < length old = let here = marked_inside new a is in omega (arith, here, same) in
      elim (either (get_or old (a / 256) false) (nat_le begin (a / 256) && nat_lt (a / 256) c) (sym (each (a / 256) inside) ∙ is)) [
        | inl before ↦ inl before
        | inr here ↦
            let parts = and_parts (nat_le begin (a / 256)) (nat_lt (a / 256) c) here in
            let low : begin ≤ a / 256 = leb-true begin (a / 256) parts.0 in
            let high : a / 256 < c = ltb-true (a / 256) c parts.1 in
            let short : c ≤ last = elim (cases_lt last c) [ inl far ↦ let at = ends far in absurd (omega (arith, at, low, high)) | inr near ↦ near ] in
            inr (between_in start end (a / 256) some (omega (arith, first, low)) (omega (arith, high, short, upto)))
      ];
}

-- all bytes of a program
pub programs_all : (m : Parameters) (i : Instruction) (n : ℕ) (old new : List Bool) → n ≡ length i.sent → MarkedBy (ProgramsFirst m i n) old new → MarkedBy (Programs m i) old new
programs_all m i n old new is marked =
    marked_alike (ProgramsFirst m i n) (Programs m i) old new (λ a h. (h.0, omega (arith, h.1, is), h.2)) (λ a h. (h.0, omega (arith, h.1, is), h.2)) marked

-- of a program on one lane or on four
pub by_program : (m : Parameters) (i : Instruction) (w : What) (old new : List Bool) → (w ≡ what.Program) ⊎ (w ≡ what.QuadProgram) → MarkedBy (Programs m i) old new
    → MarkedBy (Changes m i w) old new
by_program m i w old new (inl is) marked = subst (λ (x : What). MarkedBy (Changes m i x) old new) (sym is) marked
by_program m i w old new (inr is) marked = subst (λ (x : What). MarkedBy (Changes m i x) old new) (sym is) marked
