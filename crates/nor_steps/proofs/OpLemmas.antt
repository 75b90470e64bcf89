-- Operations one after another.
use Rattle.std.proofs.Common.{◌≡◌, ℕ, zero, suc, ◌+◌, ◌*◌, ◌<◌, Bool, true, false, List, [], ◌∷◌, ◌++◌, length, map, take, drop, Option, get_or, refl, sym, ◌∙◌, ap, subst, arith, length-append}
use Rattle.std.specs.List.{AllByRecursion}
use Rattle.std.specs.Io.KnownBytes.{Appends}
use Rattle.std.proofs.lemmas.List.{map-append}
use Rattle.nor_base.specs.Operations.{Op}
use Rattle.nor_base.specs.Units.{pages}
use Rattle.nor_base.specs.Script.{step_lines}
use Rattle.nor_base.proofs.DeviceLaws.{Appends-append, Appends-none}
use Rattle.nor_select.specs.Streamed.{Streaming, next, onward}
use Rattle.nor_steps.specs.Writing.{Writing, Begins, lines_of, next_lines, written_on}
use Rattle.nor_steps.proofs.LineLemmas.{lines_append, begins_more, begins_then}
use Rattle.nor_steps.proofs.StreamLemmas.{next_joins, onward_joins}

pub lines_join : (w : Writing) (xs ys : List Op) → next_lines w (xs ++ ys) ≡ next_lines w xs ++ next_lines (written_on w xs) ys
lines_join w xs ys = ap lines_of (next_joins w.streaming xs ys) ∙ lines_append (next w.streaming xs) (next (onward w.streaming xs) ys)

pub more_lines : (a b c : Option (List ℕ)) (w : Writing) (xs ys : List Op) → Appends a b (next_lines w xs) → Appends b c (next_lines (written_on w xs) ys)
    → Appends a c (next_lines w (xs ++ ys))
more_lines a b c w xs ys first second = subst (Appends a c) (sym (lines_join w xs ys)) (Appends-append a b c _ _ first second)

pub more_begun : (a b c : Option (List ℕ)) (w : Writing) (xs ys : List Op) → Appends a b (next_lines w xs) → Begins b c (next_lines (written_on w xs) ys)
    → Begins a c (next_lines w (xs ++ ys))
more_begun a b c w xs ys first second = subst (Begins a c) (sym (lines_join w xs ys)) (begins_then a b c _ _ first second)

pub begun_more : (a b : Option (List ℕ)) (w : Writing) (xs ys : List Op) → Begins a b (next_lines w xs) → Begins a b (next_lines w (xs ++ ys))
begun_more a b w xs ys is = subst (Begins a b) (sym (lines_join w xs ys)) (begins_more a b _ _ is)

pub more_steps : (s : Streaming) (xs ys : List Op) → length (next s (xs ++ ys)) ≡ length (next s xs) + length (next (onward s xs) ys)
more_steps s xs ys = ap length (next_joins s xs ys) ∙ length-append (next s xs) (next (onward s xs) ys)

pub more_on : (w : Writing) (xs ys : List Op) → written_on (written_on w xs) ys ≡ written_on w (xs ++ ys)
more_on w xs ys = ap (λ (s : Streaming). record w { streaming = s }) (onward_joins w.streaming xs ys)

started_same : (b : Bool) (s : Streaming) → s.started ≡ b → s ≡ onward s []
started_same true s is = rw is refl
started_same false s is = rw is refl

-- so many of a list, and one more
pub take_one : {X : Type 0} (xs : List X) (k : ℕ) (d : X) → k < length xs → take (suc k) xs ≡ take k xs ++ get_or xs k d ∷ []
take_one [] k d inside = absurd (omega arith)
take_one (x ∷ xs) zero d inside = refl
take_one (x ∷ xs) (suc k) d inside = ap (λ rest. x ∷ rest) (take_one xs k d (omega arith))

pub all_one : {X : Type 0} (xs : List X) (k : ℕ) (d : X) → k < length xs → (take k xs ++ get_or xs k d ∷ []) ++ drop (suc k) xs ≡ xs
all_one [] k d inside = absurd (omega arith)
all_one (x ∷ xs) zero d inside = refl
all_one (x ∷ xs) (suc k) d inside = ap (λ rest. x ∷ rest) (all_one xs k d (omega arith))

pub map_one : {X : Type 0} (f : X → Op) (xs : List X) (k : ℕ) (d : X) → k < length xs → map f (take (k + 1) xs) ≡ map f (take k xs) ++ f (get_or xs k d) ∷ []
map_one f xs k d inside =
    let next : k + 1 ≡ suc k = omega arith in
    ap (λ n. map f (take n xs)) next ∙ ap (map f) (take_one xs k d inside) ∙ map-append f (take k xs) (get_or xs k d ∷ [])

pub map_all : {X : Type 0} (f : X → Op) (xs : List X) (k : ℕ) (d : X) → k < length xs
    → (map f (take k xs) ++ f (get_or xs k d) ∷ []) ++ map f (drop (suc k) xs) ≡ map f xs
map_all f xs k d inside =
    ap (λ front. front ++ map f (drop (suc k) xs)) (sym (map-append f (take k xs) (get_or xs k d ∷ [])))
    ∙ sym (map-append f (take k xs ++ get_or xs k d ∷ []) (drop (suc k) xs)) ∙ ap (map f) (all_one xs k d inside)

pub all_at : {X : Type 0} (P : X → Type 0) (xs : List X) (k : ℕ) (d : X) → AllByRecursion P xs → k < length xs → P (get_or xs k d)
all_at P [] k d all inside = absurd (omega arith)
all_at P (x ∷ xs) zero d all inside = all.0
all_at P (x ∷ xs) (suc k) d all inside = all_at P xs k d all.1 (omega arith)

-- pages, and one more
pages_one : (page start n : ℕ) → pages page start (suc n) ≡ pages page start n ++ (start + n * page) ∷ []
pages_one page start zero = let here : start ≡ start + 0 * page = omega arith in ap (λ a. a ∷ []) here
pages_one page start (suc n) =
    let there : start + page + n * page ≡ start + suc n * page = omega arith in
    ap (λ rest. start ∷ rest) (pages_one page (start + page) n ∙ ap (λ a. pages page (start + page) n ++ a ∷ []) there)

pub pages_next : (page start n : ℕ) → pages page start (n + 1) ≡ pages page start n ++ (start + n * page) ∷ []
pages_next page start n = let next : n + 1 ≡ suc n = omega arith in ap (pages page start) next ∙ pages_one page start n

pub pages_at : (page n k start : ℕ) → k < n → (rest : List ℕ) × ((pages page start k ++ (start + k * page) ∷ []) ++ rest ≡ pages page start n)
pages_at page zero k start inside = absurd (omega arith)
pages_at page (suc n) zero start inside =
    let here : start + 0 * page ≡ start = omega arith in
    (pages page (start + page) n, ap (λ a. a ∷ pages page (start + page) n) here)
pages_at page (suc n) (suc k) start inside =
    let there : start + suc k * page ≡ start + page + k * page = omega arith in
    let later = pages_at page n k (start + page) (omega arith) in
    (later.0, ap (λ a. start ∷ ((pages page (start + page) k ++ a ∷ []) ++ later.0)) there ∙ ap (λ rest. start ∷ rest) later.1)

pub map_parts : {X : Type 0} (f : X → Op) (xs : List X) (x : X) (ys zs : List X) → (xs ++ x ∷ []) ++ ys ≡ zs → (map f xs ++ f x ∷ []) ++ map f ys ≡ map f zs
map_parts f xs x ys zs whole =
    ap (λ front. front ++ map f ys) (sym (map-append f xs (x ∷ []))) ∙ sym (map-append f (xs ++ x ∷ []) ys) ∙ ap (map f) whole

-- what the first of some operations are, and what they are at a fault in the next
pub next_lines_one : (a b c : Option (List ℕ)) (w v : Writing) (xs ys zs rest : List Op) → Appends a b (next_lines w xs) → v ≡ written_on w xs
    → Begins b c (next_lines v ys) → (xs ++ ys) ++ rest ≡ zs → Begins a c (next_lines w zs)
next_lines_one a b c w v xs ys zs rest first state second whole =
    subst (λ ops. Begins a c (next_lines w ops)) whole
    (begun_more a c w (xs ++ ys) rest (more_begun a b c w xs ys first (subst (λ (u : Writing). Begins b c (next_lines u ys)) state second)))

-- the invariant of operations that are written one by one
pub record Done (w v : Writing) (a b : Option (List ℕ)) (ops : List Op) (steps : ℕ) : Type 0 where
  pub put : Appends a b (next_lines w ops)
  pub state : v ≡ written_on w ops
  pub count : steps ≡ length (next w.streaming ops)

pub done_one : (w v u : Writing) (a b c : Option (List ℕ)) (xs ys zs : List Op) (n k sum : ℕ) → Done w v a b xs n → Appends b c (next_lines v ys) → u ≡ written_on v ys
    → k ≡ length (next v.streaming ys) → sum ≡ n + k → zs ≡ xs ++ ys → Done w u a c zs sum
done_one w v u a b c xs ys zs n k sum done put state count total is =
    subst (λ ops. Done w u a c ops sum) (sym is) (record {
      put = more_lines a b c w xs ys done.put (subst (λ (t : Writing). Appends b c (next_lines t ys)) done.state put);
      state = state ∙ ap (λ (t : Writing). written_on t ys) done.state ∙ more_on w xs ys;
      count =
          let later : k ≡ length (next (onward w.streaming xs) ys) = count ∙ ap (λ (t : Writing). length (next t.streaming ys)) done.state in
          omega (arith, total, later, done.count, more_steps w.streaming xs ys);
    })

pub done_none : (w : Writing) (a : Option (List ℕ)) → Done w w a a [] 0
unfolding step_lines
done_none w a = record { put = Appends-none a; state = ap (λ (s : Streaming). record w { streaming = s }) (started_same w.streaming.started w.streaming refl); count = refl }
