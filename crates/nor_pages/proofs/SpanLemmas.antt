-- The run of a page of which each byte may be programmed.
use Rattle.std.proofs.Common.{◌≡◌, ℕ, zero, suc, ◌+◌, ◌-◌, ◌<◌, ◌==◌, not, Bool, true, false, List, [], ◌∷◌, Option, Some, None, refl, sym, ◌∙◌, ap, arith, length}
use Rattle.std.specs.List.{range_with_len, slice_index}
use Rattle.nor_pages.specs.declared.run.Run.{Run}
use Rattle.nor_pages.specs.Runs.{some_run, onward, extended, runs_on, old_over, differs_at, page_runs, open_runs, BeginsRun, IsRun}
use Rattle.nor_pages.proofs.RunLemmas.{same_differs}

abbrev none_closed : ℕ → Bool
none_closed a = false

-- a run with an address more, if that differs
abbrev grown : Bool → Run → ℕ → Run
grown true r a = extended (Some r) a
grown false r a = r

grown_onward : (b : Bool) (r : Run) (a : ℕ) → onward false b (Some r) a ≡ Some (grown b r a)
grown_onward true r a = refl
grown_onward false r a = refl

grown_at : (b : Bool) (r : Run) (a : ℕ) → (grown b r a).at ≡ r.at
grown_at true r a = refl
grown_at false r a = refl

-- the last of some addresses doesn't differ: so the runs are those of the others
same_before : (differs : ℕ → Bool) (m a last : ℕ) (r : Run) → last ≡ a + m → differs last ≡ false
    → runs_on none_closed differs (Some r) (range_with_len a (suc m)) ≡ runs_on none_closed differs (Some r) (range_with_len a m)
same_before differs zero a last r is told =
    let here : a ≡ last = omega (arith, is) in
    ap (λ b. runs_on none_closed differs (onward false b (Some r) a) []) (ap differs here ∙ told)
same_before differs (suc m) a last r is told =
    let next = ap (λ o. runs_on none_closed differs o (range_with_len (a + 1) (suc m))) (grown_onward (differs a) r a) in
    let less = ap (λ o. runs_on none_closed differs o (range_with_len (a + 1) m)) (grown_onward (differs a) r a) in
    next ∙ same_before differs m (a + 1) last (grown (differs a) r a) (omega (arith, is)) told ∙ sym less

-- it differs: so the run goes up to it
ends_there : (differs : ℕ → Bool) (m a last : ℕ) (r : Run) → last ≡ a + m → differs last ≡ true
    → runs_on none_closed differs (Some r) (range_with_len a (suc m)) ≡ record { at = r.at; len = last - r.at + 1 } ∷ []
ends_there differs zero a last r is told =
    let here : a ≡ last = omega (arith, is) in
    ap (λ b. runs_on none_closed differs (onward false b (Some r) a) []) (ap differs here ∙ told) ∙ ap (λ (n : ℕ). some_run (Some (record { at = r.at; len = n - r.at + 1 }))) here
ends_there differs (suc m) a last r is told =
    let next = ap (λ o. runs_on none_closed differs o (range_with_len (a + 1) (suc m))) (grown_onward (differs a) r a) in
    next ∙ ends_there differs m (a + 1) last (grown (differs a) r a) (omega (arith, is)) told
    ∙ ap (λ (n : ℕ). some_run (Some (record { at = n; len = last - n + 1 }))) (grown_at (differs a) r a)

-- the next address of so many
step : (differs : ℕ → Bool) (run : Option Run) (a i n : ℕ) → i < n
    → runs_on none_closed differs run (range_with_len (a + i) (n - i)) ≡ runs_on none_closed differs (onward false (differs (a + i)) run (a + i)) (range_with_len (a + (i + 1)) (n - (i + 1)))
step differs run a i n inside =
    let count : n - i ≡ suc (n - (i + 1)) = omega (arith, inside) in
    let after : a + i + 1 ≡ a + (i + 1) = omega arith in
    ap (λ k. runs_on none_closed differs run (range_with_len (a + i) k)) count
    ∙ ap (λ b. runs_on none_closed differs (onward false (differs (a + i)) run (a + i)) (range_with_len b (n - (i + 1)))) after

module _ (blank : Bool) (have want : List ℕ) where
  -- at a place: what a look at its byte tells
  looked : (at i old : ℕ) (result value : Bool) → old ≡ old_over blank (slice_index have i) → result ≡ not (old == slice_index want i) → result ≡ value
      → differs_at blank have want at (at + i) ≡ value
  looked at i old result value is says told = sym (same_differs blank have want at i old result is says) ∙ told

  -- from the first byte on
  pub none_here : (i old : ℕ) (result : Bool) → i < length want → old ≡ old_over blank (slice_index have i) → result ≡ not (old == slice_index want i) → result ≡ false
      → ((at : ℕ) → page_runs blank false have want at ≡ open_runs (differs_at blank have want at) None (at + i) (length want - i))
      → (at : ℕ) → page_runs blank false have want at ≡ open_runs (differs_at blank have want at) None (at + (i + 1)) (length want - (i + 1))
  none_here i old result inside is says told so at =
      so at ∙ step (differs_at blank have want at) None at i (length want) inside
      ∙ ap (λ b. open_runs (differs_at blank have want at) (onward false b None (at + i)) (at + (i + 1)) (length want - (i + 1))) (looked at i old result false is says told)

  pub begins_here : (i old : ℕ) (result : Bool) → i < length want → old ≡ old_over blank (slice_index have i) → result ≡ not (old == slice_index want i) → result ≡ true
      → ((at : ℕ) → page_runs blank false have want at ≡ open_runs (differs_at blank have want at) None (at + i) (length want - i))
      → BeginsRun blank have want i
  begins_here i old result inside is says told so = record {
    inside = inside;
    runs = λ at. so at ∙ step (differs_at blank have want at) None at i (length want) inside
        ∙ ap (λ b. open_runs (differs_at blank have want at) (onward false b None (at + i)) (at + (i + 1)) (length want - (i + 1))) (looked at i old result true is says told);
  }

  -- from the last byte back
  pub not_this_one : (first last old : ℕ) (result : Bool) → first < last → old ≡ old_over blank (slice_index have last) → result ≡ not (old == slice_index want last) → result ≡ false
      → ((at : ℕ) → page_runs blank false have want at ≡ open_runs (differs_at blank have want at) (Some (record { at = at + first; len = 1 })) (at + (first + 1)) (last - first))
      → (at : ℕ) → page_runs blank false have want at ≡ open_runs (differs_at blank have want at) (Some (record { at = at + first; len = 1 })) (at + (first + 1)) (last - 1 - first)
  not_this_one first last old result past is says told so at =
      let run : Run = record { at = at + first; len = 1 } in
      let count : last - first ≡ suc (last - 1 - first) = omega (arith, past) in
      let place : at + last ≡ at + (first + 1) + (last - 1 - first) = omega (arith, past) in
      so at ∙ ap (λ n. open_runs (differs_at blank have want at) (Some run) (at + (first + 1)) n) count
      ∙ same_before (differs_at blank have want at) (last - 1 - first) (at + (first + 1)) (at + last) run place (looked at last old result false is says told)

  pub this_one : (first last old : ℕ) (result : Bool) → first < last → old ≡ old_over blank (slice_index have last) → result ≡ not (old == slice_index want last) → result ≡ true
      → ((at : ℕ) → page_runs blank false have want at ≡ open_runs (differs_at blank have want at) (Some (record { at = at + first; len = 1 })) (at + (first + 1)) (last - first))
      → IsRun blank have want first last
  this_one first last old result past is says told so at =
      let run : Run = record { at = at + first; len = 1 } in
      let count : last - first ≡ suc (last - 1 - first) = omega (arith, past) in
      let place : at + last ≡ at + (first + 1) + (last - 1 - first) = omega (arith, past) in
      let long : at + last - (at + first) ≡ last - first = omega arith in
      so at ∙ ap (λ n. open_runs (differs_at blank have want at) (Some run) (at + (first + 1)) n) count
      ∙ ends_there (differs_at blank have want at) (last - 1 - first) (at + (first + 1)) (at + last) run place (looked at last old result true is says told)
      ∙ ap (λ (n : ℕ). some_run (Some (record { at = at + first; len = n + 1 }))) long
