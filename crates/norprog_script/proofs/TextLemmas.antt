-- The lines of a script, one after another.
use Rattle.std.proofs.Common.{◌≡◌, ◌∙◌, ℕ, zero, suc, ◌+◌, ◌<◌, ◌≤◌, true, List, [], ◌∷◌, ◌++◌, length, take, drop, get_or, Option, Result, sym, ap, subst, append-nil, arith}
use Rattle.std.specs.List.{AllByRecursion}
use Rattle.std.specs.Io.KnownBytes.{Appends}
use Rattle.std.proofs.lemmas.Grind.{flat_map-append}
use Rattle.std.proofs.lemmas.List.{append_assoc, take-append-drop, take_all}
use Rattle.nor_base.proofs.DeviceLaws.{Appends-append, Cuts-then, Cuts-more, Writes-then}
use Rattle.nor_base.proofs.ListLaws.{one_taken}
use Rattle.nor_base.specs.Device.{Cuts, Writes}
use Rattle.nor_base.specs.Script.{closed, header, step_line, step_lines, end_line, script_text}
use Rattle.nor_base.specs.Step.{is_step, IsStep}
use Rattle.nor_base.specs.declared.step.Step.{Step}

-- the header and the lines of the first steps
abbrev pub first_lines : List Step → ℕ → List ℕ
first_lines steps n = header ++ step_lines (take n steps)

-- each step is one that a script may have
pub step_at : (steps : List Step) (n : ℕ) (d : Step) → AllByRecursion IsStep steps → n < length steps → is_step (get_or steps n d) ≡ true
step_at [] n d each inside = absurd (omega (arith, inside))
step_at (x ∷ xs) zero d each inside = each.0.passes
step_at (x ∷ xs) (suc n) d each inside = step_at xs n d each.1 (omega (arith, inside))

lines_join : (xs ys : List Step) → step_lines (xs ++ ys) ≡ step_lines xs ++ step_lines ys
unfolding step_lines
lines_join xs ys = flat_map-append (λ step. closed (step_line step)) xs ys

one_line : (x : Step) → step_lines (x ∷ []) ≡ closed (step_line x)
unfolding step_lines
one_line x = append-nil (closed (step_line x))

-- one line more
more_lines : (steps : List Step) (n : ℕ) (x : Step) → n < length steps → x ≡ get_or steps n x → first_lines steps (n + 1) ≡ first_lines steps n ++ closed (step_line x)
more_lines steps n x inside is =
    ap (λ l. header ++ step_lines l) (one_taken steps n x inside is)
    ∙ ap (λ l. header ++ l) (lines_join (take n steps) (x ∷ []) ∙ ap (λ l. step_lines (take n steps) ++ l) (one_line x))
    ∙ sym (append_assoc header (step_lines (take n steps)) (closed (step_line x)))

pub one_more : (steps : List Step) (n : ℕ) (x : Step) (a b c : Option (List ℕ)) → n < length steps → x ≡ get_or steps n x → Appends a b (first_lines steps n)
    → Appends b c (closed (step_line x)) → Appends a c (first_lines steps (n + 1))
one_more steps n x a b c inside is first line = subst (Appends a c) (sym (more_lines steps n x inside is)) (Appends-append a b c _ _ first line)

-- what is after the first lines
rest_of : (steps : List Step) (n : ℕ) → script_text steps ≡ first_lines steps n ++ (step_lines (drop n steps) ++ end_line (length steps))
unfolding script_text
rest_of steps n =
    ap (λ l. header ++ (step_lines l ++ end_line (length steps))) (sym (take-append-drop n steps))
    ∙ ap (λ l. header ++ (l ++ end_line (length steps))) (lines_join (take n steps) (drop n steps))
    ∙ ap (λ l. header ++ l) (append_assoc (step_lines (take n steps)) (step_lines (drop n steps)) (end_line (length steps)))
    ∙ sym (append_assoc header (step_lines (take n steps)) (step_lines (drop n steps) ++ end_line (length steps)))

-- a line that was cut
pub one_cut : (steps : List Step) (n : ℕ) (x : Step) (a b c : Option (List ℕ)) → n < length steps → x ≡ get_or steps n x → Appends a b (first_lines steps n)
    → Cuts b c (closed (step_line x)) → Cuts a c (script_text steps)
one_cut steps n x a b c inside is first cut =
    subst (Cuts a c) (sym (rest_of steps (n + 1) ∙ ap (λ l. l ++ (step_lines (drop (n + 1) steps) ++ end_line (length steps))) (more_lines steps n x inside is)))
    (Cuts-more a c (first_lines steps n ++ closed (step_line x)) _ (Cuts-then a b c _ _ first cut))

-- the first line that was cut
pub header_cut : (steps : List Step) (a b : Option (List ℕ)) → Cuts a b header → Cuts a b (script_text steps)
unfolding script_text
header_cut steps a b cut = Cuts-more a b header _ cut

-- no line yet
pub none_yet : (steps : List Step) (a b : Option (List ℕ)) → Appends a b header → Appends a b (first_lines steps 0)
unfolding step_lines
none_yet steps a b put = subst (Appends a b) (sym (append-nil header)) put

-- all lines, and the end
whole_text : (steps : List Step) → script_text steps ≡ (header ++ step_lines steps) ++ end_line (length steps)
unfolding script_text
whole_text steps = sym (append_assoc header (step_lines steps) (end_line (length steps)))

pub all_written : {T F : Type 0} (steps : List Step) (n : ℕ) (a b c : Option (List ℕ)) (r : Result T F) → length steps ≤ n → Appends a b (first_lines steps n)
    → Writes b c r (end_line (length steps)) → Writes a c r (script_text steps)
all_written steps n a b c r past first end =
    subst (Writes a c r) (sym (whole_text steps)) (Writes-then a b c r _ _ (subst (λ l. Appends a b (header ++ step_lines l)) (take_all n steps past) first) end)
