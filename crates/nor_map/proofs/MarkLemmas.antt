-- What more lines of a plan do to the cells, after those before them.
use Rattle.std.proofs.Common.{◌≡◌, ℕ, ◌+◌, ◌<◌, min, Bool, false, ◌||◌, ◌&&◌, List, [], ◌++◌, length, get_or, take, map, replicate, ext_get_or, refl, sym, ◌∙◌, ap, subst, arith}
use Rattle.std.specs.Prelude.{cond, count_by}
use Rattle.std.specs.Int.{div_ceil}
use Rattle.std.specs.List.{range_with_len}
use Rattle.std.proofs.Math.Seq.{take-append_seam}
use Rattle.std.proofs.lemmas.List.{length-replicate, get_or-replicate}
use Rattle.std.proofs.lemmas.List.Folds.{list_any-append}
use Rattle.std.proofs.lemmas.List.Sums.{sum_by-append}
use Rattle.std.proofs.lemmas.List.FromFn.{length-map-range_with_len, get_or-map-range_with_len}
use Rattle.nor_base.proofs.StretchLaws.{none_over}
use Rattle.nor_outline.specs.declared.line.PlanLine.{PlanLine}
use Rattle.nor_map.specs.declared.cells.Work.{Work}
use Rattle.nor_map.specs.declared.cells.Work.TheVariants as work
use Rattle.nor_map.specs.Cells.{Wanted, bytes_so, cell_size, is_new, is_worked, new_bytes, new_in, some_byte, some_bytes, works}
use Rattle.nor_map.specs.Marks.{CountedBy, Marks, MarkedBy, erases, marks_of, programs}
use Rattle.nor_map.proofs.CellLemmas.{any_or}

-- how many there are in two pieces
count_pieces : (test : PlanLine → Bool) (told lines : List PlanLine) → count_by test told + count_by test lines ≡ count_by test (told ++ lines)
count_pieces test told lines = sym (sum_by-append (λ line. cond (test line) 1 0) told lines)

-- cells of which nothing is marked
pub none_worked : (cell count : ℕ) (work : Work) → replicate count false ≡ some_bytes cell count (is_worked work [])
none_worked cell count work =
    let test = is_worked work [] in
    ext_get_or false (replicate count false) (some_bytes cell count test) (length-replicate count false ∙ sym (length-map-range_with_len (some_byte cell test) 0 count)) (λ c inside.
    let within : c < count = omega (arith, inside, length-replicate count false) in
    get_or-replicate count c false false within
    ∙ sym (none_over test cell _ (λ a from upto. refl))
    ∙ sym (get_or-map-range_with_len (some_byte cell test) 0 count c c false within (omega arith)))

-- what lines mark of cells that those before them marked
pub more_worked : (cell count : ℕ) (work : Work) (told lines : List PlanLine) (new : List Bool)
    → MarkedBy cell (is_worked work lines) (some_bytes cell count (is_worked work told)) new → new ≡ some_bytes cell count (is_worked work (told ++ lines))
more_worked cell count work told lines new marked =
    let before = is_worked work told in
    let more = is_worked work lines in
    let both = is_worked work (told ++ lines) in
    let old = some_bytes cell count before in
    let lengths : length new ≡ count = marked.same_length ∙ length-map-range_with_len (some_byte cell before) 0 count in
    ext_get_or false new (some_bytes cell count both) (lengths ∙ sym (length-map-range_with_len (some_byte cell both) 0 count)) (λ c inside.
    let within : c < count = omega (arith, inside, lengths) in
    marked.each c (omega (arith, inside, marked.same_length))
    ∙ ap (λ b. b || some_byte cell more c) (get_or-map-range_with_len (some_byte cell before) 0 count c c false within (omega arith))
    ∙ sym (any_or both before more _ (λ a. list_any-append (λ line. works work line a) told lines))
    ∙ sym (get_or-map-range_with_len (some_byte cell both) 0 count c c false within (omega arith)))

-- what is marked of all cells that are held
pub all_marked : (cell bytes n : ℕ) (test : ℕ → Bool) (old given new rest : List Bool) → bytes ≡ cell → given ≡ old → n ≡ length old → MarkedBy bytes test given new
    → MarkedBy cell test old (take n (new ++ rest))
all_marked cell bytes n test old given new rest bytes_is given_is long marked =
    let lengths : n ≡ length new = long ∙ ap length (sym given_is) ∙ sym marked.same_length in
    let all : take n (new ++ rest) ≡ new = ap (λ k. take k (new ++ rest)) lengths ∙ take-append_seam new rest in
    subst (λ l. MarkedBy cell test old l) (sym all)
    (subst (λ l. MarkedBy cell test l new) given_is (subst (λ b. MarkedBy b test given new) bytes_is marked))

-- cells of which no byte is new, and what lines count after those before them
none_new : (cell count : ℕ) (w : Wanted) → replicate count 0 ≡ map (new_in cell w []) (range_with_len 0 count)
none_new cell count w =
    let long : length (replicate {A = ℕ} count 0) ≡ count = length-replicate {A = ℕ} count 0 in
    ext_get_or 0 (replicate count 0) (map (new_in cell w []) (range_with_len 0 count)) (long ∙ sym (length-map-range_with_len (new_in cell w []) 0 count)) (λ c inside.
    let within : c < count = omega (arith, inside, long) in
    let none : new_in cell w [] c ≡ 0 = omega arith in
    get_or-replicate count c 0 0 within ∙ sym none ∙ sym (get_or-map-range_with_len (new_in cell w []) 0 count c c 0 within (omega arith)))

more_new : (cell count : ℕ) (w : Wanted) (told lines : List PlanLine) (new : List ℕ)
    → CountedBy cell (new_bytes cell w lines) (map (new_in cell w told) (range_with_len 0 count)) new → new ≡ map (new_in cell w (told ++ lines)) (range_with_len 0 count)
more_new cell count w told lines new counted =
    let old = map (new_in cell w told) (range_with_len 0 count) in
    let all = map (new_in cell w (told ++ lines)) (range_with_len 0 count) in
    let lengths : length new ≡ count = counted.same_length ∙ length-map-range_with_len (new_in cell w told) 0 count in
    ext_get_or 0 new all (lengths ∙ sym (length-map-range_with_len (new_in cell w (told ++ lines)) 0 count)) (λ c inside.
    let within : c < count = omega (arith, inside, lengths) in
    let before : get_or old c 0 ≡ new_in cell w told c = get_or-map-range_with_len (new_in cell w told) 0 count c c 0 within (omega arith) in
    let after : get_or all c 0 ≡ new_in cell w (told ++ lines) c = get_or-map-range_with_len (new_in cell w (told ++ lines)) 0 count c c 0 within (omega arith) in
    let sum : new_bytes cell w (told ++ lines) c ≡ new_bytes cell w told c + new_bytes cell w lines c =
    sum_by-append (λ line. bytes_so cell (λ a. works work.Programmed line a && is_new w a) c) told lines in
    let now : get_or new c 0 ≡ min cell (get_or old c 0 + new_bytes cell w lines c) =
    counted.each c (omega (arith, inside, counted.same_length)) (omega (arith, before)) in
    omega (arith, before, after, sum, now))

-- what is counted of all cells that are held
pub all_counted : (cell n : ℕ) (bytes : ℕ → ℕ) (old given new rest : List ℕ) → given ≡ old → n ≡ length old → CountedBy cell bytes given new
    → CountedBy cell bytes old (take n (new ++ rest))
all_counted cell n bytes old given new rest given_is long counted =
    let lengths : n ≡ length new = long ∙ ap length (sym given_is) ∙ sym counted.same_length in
    let all : take n (new ++ rest) ≡ new = ap (λ k. take k (new ++ rest)) lengths ∙ take-append_seam new rest in
    subst (λ l. CountedBy cell bytes old l) (sym all) (subst (λ l. CountedBy cell bytes l new) given_is counted)

-- marks by their parts
module _ (size cell : ℕ) (w : Wanted) where
  parts : List Bool → List Bool → List ℕ → ℕ → ℕ → Marks
  parts e p f b n = record { size = size; cell = cell; wanted = w; erased = e; programmed = p; fresh = f; blocks = b; programs = n }

  marks_are : (erased programmed e p : List Bool) (fresh f : List ℕ) (blocks pages b n : ℕ) → erased ≡ e → programmed ≡ p → fresh ≡ f → blocks ≡ b → pages ≡ n
      → parts erased programmed fresh blocks pages ≡ parts e p f b n
  marks_are erased programmed e p fresh f blocks pages b n e_is p_is f_is b_is n_is =
      ap (λ x. parts x programmed fresh blocks pages) e_is
      ∙ ap (λ x. parts e x fresh blocks pages) p_is
      ∙ ap (λ x. parts e p x blocks pages) f_is
      ∙ ap (λ x. parts e p f x pages) b_is
      ∙ ap (λ x. parts e p f b x) n_is

-- of no lines
pub marks_begun : (size page cell count : ℕ) (w : Wanted) (erased programmed : List Bool) (fresh : List ℕ) → cell ≡ cell_size size page → count ≡ div_ceil size cell
    → erased ≡ replicate count false → programmed ≡ replicate count false → fresh ≡ replicate count 0
    → record { size = size; cell = cell; wanted = w; erased = erased; programmed = programmed; fresh = fresh; blocks = 0; programs = 0 } ≡ marks_of size page w []
unfolding marks_of parts
marks_begun size page cell count w erased programmed fresh cell_is count_is erased_is programmed_is fresh_is =
    let cells : (work : Work) → replicate count false ≡ some_bytes cell (div_ceil size cell) (is_worked work []) = λ work.
    ap (λ k. replicate k false) count_is ∙ none_worked cell (div_ceil size cell) work in
    marks_are size cell w erased programmed _ _ fresh _ 0 0 _ _ (erased_is ∙ cells work.Erased) (programmed_is ∙ cells work.Programmed)
    (fresh_is ∙ ap (λ k. replicate k 0) count_is ∙ none_new cell (div_ceil size cell) w) refl refl
    ∙ ap (λ b. record {
      size = size;
      cell = b;
      wanted = w;
      erased = some_bytes b (div_ceil size b) (is_worked work.Erased []);
      programmed = some_bytes b (div_ceil size b) (is_worked work.Programmed []);
      fresh = map (new_in b w []) (range_with_len 0 (div_ceil size b));
      blocks = 0;
      programs = 0;
    }) cell_is

-- of more lines
pub marks_added : (size page : ℕ) (w : Wanted) (told lines : List PlanLine) (old : Marks) (erased programmed : List Bool) (fresh : List ℕ) (blocks pages : ℕ)
    → old ≡ marks_of size page w told
    → MarkedBy old.cell (is_worked work.Erased lines) old.erased erased → MarkedBy old.cell (is_worked work.Programmed lines) old.programmed programmed
    → CountedBy old.cell (new_bytes old.cell old.wanted lines) old.fresh fresh
    → blocks ≡ old.blocks + count_by erases lines → pages ≡ old.programs + count_by programs lines
    → record { size = old.size; cell = old.cell; wanted = old.wanted; erased = erased; programmed = programmed; fresh = fresh; blocks = blocks; programs = pages }
    ≡ marks_of size page w (told ++ lines)
unfolding marks_of parts
marks_added size page w told lines old erased programmed fresh blocks pages is =
    subst (λ (m : Marks).
    MarkedBy m.cell (is_worked work.Erased lines) m.erased erased → MarkedBy m.cell (is_worked work.Programmed lines) m.programmed programmed
    → CountedBy m.cell (new_bytes m.cell m.wanted lines) m.fresh fresh
    → blocks ≡ m.blocks + count_by erases lines → pages ≡ m.programs + count_by programs lines
    → record { size = m.size; cell = m.cell; wanted = m.wanted; erased = erased; programmed = programmed; fresh = fresh; blocks = blocks; programs = pages }
    ≡ marks_of size page w (told ++ lines)) (sym is)
    (λ e p f b n.
    let cell = cell_size size page in
    let count = div_ceil size cell in
    marks_are size cell w erased programmed _ _ fresh _ blocks pages _ _
    (more_worked cell count work.Erased told lines erased e) (more_worked cell count work.Programmed told lines programmed p)
    (more_new cell count w told lines fresh f) (b ∙ count_pieces erases told lines) (n ∙ count_pieces programs told lines))
