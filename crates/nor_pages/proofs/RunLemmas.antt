-- How the runs of addresses go on.
use Rattle.std.proofs.Common.{◌≡◌, ℕ, suc, ◌+◌, ◌-◌, ◌<◌, ◌≤◌, ◌==◌, ◌&&◌, not, Bool, List, ◌∷◌, ◌++◌, Option, sym, ◌∙◌, ap, arith}
use Rattle.std.specs.List.{range_with_len, slice_index}
use Rattle.std.proofs.lemmas.List.{append_assoc}
use Rattle.nor_pages.specs.declared.run.Run.{Run}
use Rattle.nor_pages.specs.Runs.{some_run, ended, onward, runs_on, old_over, closed_at, differs_at}

-- the next address of so many
next : (closed differs : ℕ → Bool) (run : Option Run) (a i n : ℕ) → i < n
    → runs_on closed differs run (range_with_len (a + i) (n - i)) ≡ runs_on closed differs run ((a + i) ∷ range_with_len (a + (i + 1)) (n - (i + 1)))
next closed differs run a i n inside =
    let count : n - i ≡ suc (n - (i + 1)) = omega (arith, inside) in
    let after : a + i + 1 ≡ a + (i + 1) = omega arith in
    ap (λ k. runs_on closed differs run (range_with_len (a + i) k)) count ∙ ap (λ b. runs_on closed differs run ((a + i) ∷ range_with_len b (n - (i + 1)))) after

pub at_byte : (closed differs : ℕ → Bool) (run after_run : Option Run) (a i n : ℕ) (before after all : List Run) → i < n
    → after ≡ before ++ ended (closed (a + i)) run → after_run ≡ onward (closed (a + i)) (differs (a + i)) run (a + i)
    → before ++ runs_on closed differs run (range_with_len (a + i) (n - i)) ≡ all
    → after ++ runs_on closed differs after_run (range_with_len (a + (i + 1)) (n - (i + 1))) ≡ all
at_byte closed differs run after_run a i n before after all inside added is whole =
    let rest = runs_on closed differs (onward (closed (a + i)) (differs (a + i)) run (a + i)) (range_with_len (a + (i + 1)) (n - (i + 1))) in
    ap (λ r. after ++ runs_on closed differs r (range_with_len (a + (i + 1)) (n - (i + 1)))) is
    ∙ ap (λ xs. xs ++ rest) added ∙ append_assoc before (ended (closed (a + i)) run) rest
    ∙ ap (λ xs. before ++ xs) (sym (next closed differs run a i n inside)) ∙ whole

pub at_end : (closed differs : ℕ → Bool) (run : Option Run) (a i n : ℕ) (before after all : List Run) → n ≤ i → after ≡ before ++ some_run run
    → before ++ runs_on closed differs run (range_with_len (a + i) (n - i)) ≡ all → after ≡ all
at_end closed differs run a i n before after all past added whole =
    let none : n - i ≡ 0 = omega (arith, past) in
    added ∙ ap (λ k. before ++ runs_on closed differs run (range_with_len (a + i) k)) (sym none) ∙ whole

-- a byte by its place among a page's bytes, and by its address
pub same_closed : (blank erased_only : Bool) (have : List ℕ) (at i old : ℕ) (result : Bool) → old ≡ old_over blank (slice_index have i)
    → result ≡ (erased_only && not (old == 255)) → result ≡ closed_at blank erased_only have at (at + i)
same_closed blank erased_only have at i old result is says =
    let place : i ≡ (at + i) - at = omega arith in
    says ∙ ap (λ n. erased_only && not (n == 255)) (is ∙ ap (λ k. old_over blank (slice_index have k)) place)

pub same_differs : (blank : Bool) (have want : List ℕ) (at i old : ℕ) (result : Bool) → old ≡ old_over blank (slice_index have i)
    → result ≡ not (old == slice_index want i) → result ≡ differs_at blank have want at (at + i)
same_differs blank have want at i old result is says =
    let place : i ≡ (at + i) - at = omega arith in
    says ∙ ap (λ n. not (n == slice_index want i)) is ∙ ap (λ k. not (old_over blank (slice_index have k) == slice_index want k)) place
