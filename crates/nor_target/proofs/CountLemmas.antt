-- How many addresses of an image have no chosen address below a size, place by place.
use Rattle.std.proofs.Common.{◌≡◌, ◌∙◌, sym, ap, subst, ℕ, zero, suc, ◌+◌, ◌-◌, ◌^◌, ◌≤◌, ◌<◌, Bool, true, false, not, ◌&&◌, cond, List, [], ◌∷◌, length, get_or, Some, None, inl, inr, eqb, refl, arith}
use Rattle.std.specs.Option.{is_some}
use Rattle.std.specs.List.Sorted.{IsStrictlyIncreasing}
use Rattle.std.proofs.lemmas.Bool.{le-leb, lt-ltb, lt-leb, le-ltb, eq-eqb, ne_eqb, cases_lt}
use Rattle.std.proofs.lemmas.List.{length-map}
use Rattle.std.proofs.lemmas.Option.{slice_get-get_or}
use Rattle.std.proofs.lemmas.List.Kept.{AllPairs-from_increasing}
use Rattle.std.proofs.lemmas.List.Sums.{sum_by-cons}
use Rattle.nor_base.specs.Target.{is_ignored}
use Rattle.nor_hex.specs.Image.{Pairs, addresses, byte_at, HasNoneFrom}
use Rattle.nor_target.specs.Ignored.{ignored_below}
use Rattle.nor_target.specs.Runs.{HasNoChosen, IsNextChosen, HasNoRun, IsNextRun, overlay}

above : (low : ℕ) (pairs : Pairs) → ((k : ℕ) → k < length pairs → low < get_or (addresses pairs) k 0) → byte_at pairs low ≡ None
above low [] past = refl
above low (pair ∷ pairs) past =
    let first : low < pair.0 = past 0 (omega arith) in
    let apart : eqb low pair.0 ≡ false = ne_eqb low pair.0 (λ e. omega arith) in
    rw (apart) (above low pairs (λ k h. past (suc k) (omega arith)))

-- no later pair has the first one's address
once : (pair : ℕ × ℕ) (pairs : Pairs) → IsStrictlyIncreasing (addresses (pair ∷ pairs)) → byte_at pairs pair.0 ≡ None
once pair pairs rising = above pair.0 pairs (λ k h. AllPairs-from_increasing (addresses (pair ∷ pairs)) rising 0 (suc k) 0 (omega arith) (omega (arith, length-map pairs (λ (p : ℕ × ℕ). p.0))))

later : (pair : ℕ × ℕ) (pairs : Pairs) → IsStrictlyIncreasing (addresses (pair ∷ pairs)) → IsStrictlyIncreasing (addresses pairs)
later pair pairs rising = λ k h. AllPairs-from_increasing (addresses (pair ∷ pairs)) rising (suc k) (suc (k + 1)) 0 (omega arith) (omega arith)

-- what a place more takes from those ignored
here_before : (base : ℕ) (is_chosen : ℕ → Bool) (size : ℕ) → is_ignored base is_chosen size (base + size) ≡ true
here_before base is_chosen size =
    let le : base ≤ base + size = omega arith in
    let same : (base + size) - base ≡ size = omega arith in
    rw (le-leb base (base + size) le, same, le-ltb size size (omega arith)) refl

here_after : (base : ℕ) (is_chosen : ℕ → Bool) (size : ℕ) → is_ignored base is_chosen (size + 1) (base + size) ≡ not (is_chosen size)
here_after base is_chosen size =
    let le : base ≤ base + size = omega arith in
    let same : (base + size) - base ≡ size = omega arith in
    let lt : size < size + 1 = omega arith in
    rw (le-leb base (base + size) le, same, lt-ltb size (size + 1) lt) refl

elsewhere : (base : ℕ) (is_chosen : ℕ → Bool) (size at : ℕ) → (at ≡ base + size → ⊥) → is_ignored base is_chosen size at ≡ is_ignored base is_chosen (size + 1) at
elsewhere base is_chosen size at apart = elim (cases_lt at base) [
  | inl low ↦ rw (lt-leb base at low) refl
  | inr from ↦ elim (cases_lt (at - base) size) [
    | inl lt ↦ let more : at - base < size + 1 = omega arith in rw (lt-ltb (at - base) size lt, lt-ltb (at - base) (size + 1) more) refl
    | inr ge ↦ let past : size + 1 ≤ at - base = elim (cases_lt size (at - base)) [ inl gt ↦ omega arith | inr le ↦ absurd (apart (omega arith)) ] in rw (le-ltb (at - base) size ge, le-ltb (at - base) (size + 1) past) refl
  ]
]

sum3 : (a b c : ℕ) → a + (b + c) ≡ (a + b) + c
sum3 a b c = omega arith

taken : (chosen : Bool) (m n : ℕ) → m ≡ n + cond (chosen && false) 1 0 → 1 + m ≡ (cond (not chosen) 1 0 + n) + cond (chosen && true) 1 0
taken true m n e = omega (arith, e)
taken false m n e = omega (arith, e)

none_given : (chosen : Bool) → 0 ≡ 0 + cond (chosen && false) 1 0
none_given true = refl
none_given false = refl

-- the first pair and the others
parted : (base : ℕ) (is_chosen : ℕ → Bool) (size : ℕ) (pair : ℕ × ℕ) (pairs : Pairs) → ignored_below (pair ∷ pairs) base is_chosen size ≡ cond (is_ignored base is_chosen size pair.0) 1 0 + ignored_below pairs base is_chosen size
parted base is_chosen size pair pairs = sum_by-cons (λ (p : ℕ × ℕ). cond (is_ignored base is_chosen size p.0) 1 0) pair pairs

-- what the place `size` takes from those ignored
abbrev gain : ℕ → (ℕ → Bool) → ℕ → Pairs → ℕ
gain base is_chosen size image = cond (is_chosen size && is_some (byte_at image (base + size))) 1 0

more_elsewhere : (base : ℕ) (is_chosen : ℕ → Bool) (size : ℕ) (pair : ℕ × ℕ) (pairs : Pairs) → (pair.0 ≡ base + size → ⊥) → ignored_below pairs base is_chosen size ≡ ignored_below pairs base is_chosen (size + 1) + gain base is_chosen size pairs
    → ignored_below (pair ∷ pairs) base is_chosen size ≡ ignored_below (pair ∷ pairs) base is_chosen (size + 1) + gain base is_chosen size (pair ∷ pairs)
more_elsewhere base is_chosen size pair pairs apart so_far =
    let skipped : eqb (base + size) pair.0 ≡ false = ne_eqb (base + size) pair.0 (λ e. apart (sym e)) in
    let found : byte_at (pair ∷ pairs) (base + size) ≡ byte_at pairs (base + size) = rw (skipped) refl in
    let gains : gain base is_chosen size (pair ∷ pairs) ≡ gain base is_chosen size pairs = ap (λ f. cond (is_chosen size && is_some f) 1 0) found in
    let kept : cond (is_ignored base is_chosen size pair.0) 1 0 ≡ cond (is_ignored base is_chosen (size + 1) pair.0) 1 0 = ap (λ b. cond b 1 0) (elsewhere base is_chosen size pair.0 apart) in
    let before = parted base is_chosen size pair pairs in
    let after = parted base is_chosen (size + 1) pair pairs in
    before ∙ ap (λ n. n + ignored_below pairs base is_chosen size) kept
    ∙ ap (λ n. cond (is_ignored base is_chosen (size + 1) pair.0) 1 0 + n) so_far
    ∙ sum3 (cond (is_ignored base is_chosen (size + 1) pair.0) 1 0) (ignored_below pairs base is_chosen (size + 1)) (gain base is_chosen size pairs)
    ∙ ap (λ n. n + gain base is_chosen size pairs) (sym after)
    ∙ ap (λ n. ignored_below (pair ∷ pairs) base is_chosen (size + 1) + n) (sym gains)

more_here : (base : ℕ) (is_chosen : ℕ → Bool) (size : ℕ) (pair : ℕ × ℕ) (pairs : Pairs) → pair.0 ≡ base + size → byte_at pairs pair.0 ≡ None → ignored_below pairs base is_chosen size ≡ ignored_below pairs base is_chosen (size + 1) + gain base is_chosen size pairs
    → ignored_below (pair ∷ pairs) base is_chosen size ≡ ignored_below (pair ∷ pairs) base is_chosen (size + 1) + gain base is_chosen size (pair ∷ pairs)
more_here base is_chosen size pair pairs is once so_far =
    let same : eqb (base + size) pair.0 ≡ true = eq-eqb (base + size) pair.0 (sym is) in
    let found : byte_at (pair ∷ pairs) (base + size) ≡ Some pair.1 = rw (same) refl in
    let gains : gain base is_chosen size (pair ∷ pairs) ≡ cond (is_chosen size && true) 1 0 = ap (λ f. cond (is_chosen size && is_some f) 1 0) found in
    let none : byte_at pairs (base + size) ≡ None = ap (λ a. byte_at pairs a) (sym is) ∙ once in
    let was : cond (is_ignored base is_chosen size pair.0) 1 0 ≡ 1 = ap (λ b. cond b 1 0) (ap (λ a. is_ignored base is_chosen size a) is ∙ here_before base is_chosen size) in
    let now_is : cond (is_ignored base is_chosen (size + 1) pair.0) 1 0 ≡ cond (not (is_chosen size)) 1 0 = ap (λ b. cond b 1 0) (ap (λ a. is_ignored base is_chosen (size + 1) a) is ∙ here_after base is_chosen size) in
    let rest = so_far ∙ ap (λ f. ignored_below pairs base is_chosen (size + 1) + cond (is_chosen size && is_some f) 1 0) none in
    let after = parted base is_chosen (size + 1) pair pairs in
    parted base is_chosen size pair pairs ∙ ap (λ n. n + ignored_below pairs base is_chosen size) was
    ∙ taken (is_chosen size) (ignored_below pairs base is_chosen size) (ignored_below pairs base is_chosen (size + 1)) rest
    ∙ ap (λ n. (n + ignored_below pairs base is_chosen (size + 1)) + cond (is_chosen size && true) 1 0) (sym now_is)
    ∙ ap (λ n. n + cond (is_chosen size && true) 1 0) (sym after)
    ∙ ap (λ n. ignored_below (pair ∷ pairs) base is_chosen (size + 1) + n) (sym gains)

-- a chip of one address more
pub one_more : (base : ℕ) (is_chosen : ℕ → Bool) (size : ℕ) (image : Pairs) → IsStrictlyIncreasing (addresses image) → ignored_below image base is_chosen size ≡ ignored_below image base is_chosen (size + 1) + gain base is_chosen size image
one_more base is_chosen size [] rising = none_given (is_chosen size)
one_more base is_chosen size (pair ∷ pairs) rising =
    let so_far = one_more base is_chosen size pairs (later pair pairs rising) in
    elim (cases_lt pair.0 (base + size)) [
      | inl lt ↦ more_elsewhere base is_chosen size pair pairs (λ e. omega arith) so_far
      | inr ge ↦ elim (cases_lt (base + size) pair.0) [
        | inl gt ↦ more_elsewhere base is_chosen size pair pairs (λ e. omega arith) so_far
        | inr le ↦ more_here base is_chosen size pair pairs (omega arith) (once pair pairs rising) so_far
      ]
    ]

-- places that are not chosen, or that the image doesn't give
pub none_more : (base : ℕ) (is_chosen : ℕ → Bool) (size : ℕ) (image : Pairs) (n : ℕ) → IsStrictlyIncreasing (addresses image) → ((k : ℕ) → size ≤ k → k < size + n → (is_chosen k && is_some (byte_at image (base + k))) ≡ false) → ignored_below image base is_chosen size ≡ ignored_below image base is_chosen (size + n)
none_more base is_chosen size image zero rising none = let same : size ≡ size + 0 = omega arith in ap (λ s. ignored_below image base is_chosen s) same
none_more base is_chosen size image (suc n) rising none =
    let step = one_more base is_chosen size image rising in
    let here : (is_chosen size && is_some (byte_at image (base + size))) ≡ false = none size (omega arith) (omega arith) in
    let rest = none_more base is_chosen (size + 1) image n rising (λ k le lt. none k (omega arith) (omega arith)) in
    let moved : (size + 1) + n ≡ size + suc n = omega arith in
    step ∙ rw (here) (let same : ignored_below image base is_chosen (size + 1) + 0 ≡ ignored_below image base is_chosen (size + 1) = omega arith in same) ∙ rest ∙ ap (λ s. ignored_below image base is_chosen s) moved

-- places that are chosen and that the image gives
pub all_more : (base : ℕ) (is_chosen : ℕ → Bool) (size : ℕ) (image : Pairs) (n : ℕ) → IsStrictlyIncreasing (addresses image) → ((k : ℕ) → size ≤ k → k < size + n → (is_chosen k && is_some (byte_at image (base + k))) ≡ true) → ignored_below image base is_chosen size ≡ n + ignored_below image base is_chosen (size + n)
all_more base is_chosen size image zero rising all =
    let same : size ≡ size + 0 = omega arith in
    let moved : ignored_below image base is_chosen size ≡ ignored_below image base is_chosen (size + 0) = ap (λ s. ignored_below image base is_chosen s) same in
    omega (arith, moved)
all_more base is_chosen size image (suc n) rising all =
    let step = one_more base is_chosen size image rising in
    let here : (is_chosen size && is_some (byte_at image (base + size))) ≡ true = all size (omega arith) (omega arith) in
    let rest = all_more base is_chosen (size + 1) image n rising (λ k le lt. all k (omega arith) (omega arith)) in
    let moved : (size + 1) + n ≡ size + suc n = omega arith in
    let end : ignored_below image base is_chosen ((size + 1) + n) ≡ ignored_below image base is_chosen (size + suc n) = ap (λ s. ignored_below image base is_chosen s) moved in
    step ∙ rw (here) (omega (arith, rest, end))

-- among chosen places the choice takes as many from those ignored as every address would
pub chosen_more : (base : ℕ) (is_chosen : ℕ → Bool) (size : ℕ) (image : Pairs) (n : ℕ) → IsStrictlyIncreasing (addresses image) → ((k : ℕ) → size ≤ k → k < size + n → is_chosen k ≡ true)
    → ignored_below image base is_chosen size + ignored_below image base (λ _. true) (size + n) ≡ ignored_below image base (λ _. true) size + ignored_below image base is_chosen (size + n)
chosen_more base is_chosen size image zero rising all = let same : size ≡ size + 0 = omega arith in rw (← same) (omega arith)
chosen_more base is_chosen size image (suc n) rising all =
    let own = one_more base is_chosen size image rising in
    let whole = one_more base (λ _. true) size image rising in
    let here : is_chosen size ≡ true = all size (omega arith) (omega arith) in
    let own_is : ignored_below image base is_chosen size ≡ ignored_below image base is_chosen (size + 1) + cond (true && is_some (byte_at image (base + size))) 1 0 =
    own ∙ ap (λ b. ignored_below image base is_chosen (size + 1) + cond (b && is_some (byte_at image (base + size))) 1 0) here in
    let rest = chosen_more base is_chosen (size + 1) image n rising (λ k le lt. all k (omega arith) (omega arith)) in
    let moved : (size + 1) + n ≡ size + suc n = omega arith in
    let end : ignored_below image base is_chosen ((size + 1) + n) ≡ ignored_below image base is_chosen (size + suc n) = ap (λ s. ignored_below image base is_chosen s) moved in
    let end_of_all : ignored_below image base (λ _. true) ((size + 1) + n) ≡ ignored_below image base (λ _. true) (size + suc n) = ap (λ s. ignored_below image base (λ _. true) s) moved in
    omega (arith, own_is, whole, rest, end, end_of_all)

-- ---- the loops
-- place k of a chip from address 0 on is address k
pub from_zero : (P : ℕ → Type 0) (k : ℕ) → P (0 + k) → P k
from_zero P k h = let same : 0 + k ≡ k = omega arith in subst P same h

from_first : (first k : ℕ) → first ≤ k → k ≡ 0 + (first + (k - first))
from_first first k le = omega arith

-- a chip of no address
pub all_ignored : (base : ℕ) (is_chosen : ℕ → Bool) (image : Pairs) → length image ≡ ignored_below image base is_chosen 0
all_ignored base is_chosen [] = refl
all_ignored base is_chosen (pair ∷ pairs) =
    let here : is_ignored base is_chosen 0 pair.0 ≡ true = elim (cases_lt pair.0 base) [
      | inl low ↦ rw (lt-leb base pair.0 low) refl
      | inr from ↦ rw (le-leb base pair.0 from, le-ltb (pair.0 - base) 0 (omega arith)) refl
    ] in
    let is : ◌≡◌ {A = ℕ} (cond (is_ignored base is_chosen 0 pair.0) 1 0) 1 = ap (λ b. cond b 1 0) here in
    omega (arith, is, parted base is_chosen 0 pair pairs, all_ignored base is_chosen pairs)

-- one run more
pub run_more : (base : ℕ) (image : Pairs) (done end first : ℕ) (run : List ℕ) → IsStrictlyIncreasing (addresses image) → IsNextRun (overlay (byte_at image) base 0) done end first run → ignored_below image base (λ _. true) done ≡ length run + ignored_below image base (λ _. true) (first + length run)
run_more base image done end first run rising next =
    let past = next.past in
    let gap = none_more base (λ _. true) done image (first - done) rising (λ k le lt. let none : byte_at image (base + k) ≡ None = from_zero (λ m. byte_at image (base + m) ≡ None) k (next.none_before k le (omega arith)) in rw (none) refl) in
    let to : done + (first - done) ≡ first = omega arith in
    let bytes = all_more base (λ _. true) first image (length run) rising (λ k le lt.
    let below : k - first < length run = omega arith in
    let here : byte_at image (base + k) ≡ Some (get_or run (k - first) 0) = ap (λ (m : ℕ). byte_at image (base + m)) (from_first first k (omega arith)) ∙ next.bytes (k - first) below ∙ slice_get-get_or run (k - first) 0 below in
    rw (here) refl) in
    gap ∙ ap (λ s. ignored_below image base (λ _. true) s) to ∙ bytes

-- no run is left
pub run_none : (base : ℕ) (image : Pairs) (done end : ℕ) → IsStrictlyIncreasing (addresses image) → HasNoneFrom image (2 ^ 32) → done ≤ end → HasNoRun (overlay (byte_at image) base 0) done end → ignored_below image base (λ _. true) done ≡ ignored_below image base (λ _. true) end
run_none base image done end rising past order none =
    let to : done + (end - done) ≡ end = omega arith in
    let nothing : (k : ℕ) → done ≤ k → k < end → byte_at image (base + k) ≡ None = λ k le lt. elim (cases_lt (base + k) (2 ^ 32)) [
      | inl below ↦ from_zero (λ m. byte_at image (base + m) ≡ None) k (none k le lt (omega arith))
      | inr from ↦ past (base + k) from
    ] in
    none_more base (λ _. true) done image (end - done) rising (λ k le lt. let here : byte_at image (base + k) ≡ None = nothing k le (omega arith) in rw (here) refl)
    ∙ ap (λ s. ignored_below image base (λ _. true) s) to

unchosen : (base : ℕ) (is_chosen : ℕ → Bool) (image : Pairs) (done end : ℕ) → IsStrictlyIncreasing (addresses image) → done ≤ end → ((k : ℕ) → done ≤ k → k < end → is_chosen k ≡ false) → ignored_below image base is_chosen done ≡ ignored_below image base is_chosen end
unchosen base is_chosen image done end rising order none =
    let to : done + (end - done) ≡ end = omega arith in
    none_more base is_chosen done image (end - done) rising (λ k le lt. let here : is_chosen k ≡ false = none k le (omega arith) in rw (here) refl)
    ∙ ap (λ s. ignored_below image base is_chosen s) to

-- chosen places, of which the image gives n
pub part_more : (base : ℕ) (is_chosen : ℕ → Bool) (image : Pairs) (done len begin end n : ℕ) → IsStrictlyIncreasing (addresses image) → IsNextChosen is_chosen 0 done len (begin, end) → n + ignored_below image base (λ _. true) end ≡ ignored_below image base (λ _. true) begin → ignored_below image base is_chosen done ≡ n + ignored_below image base is_chosen end
part_more base is_chosen image done len begin end n rising next given =
    let some = next.some in
    let gap = unchosen base is_chosen image done begin rising next.past (λ k le lt. from_zero (λ m. is_chosen m ≡ false) k (next.none_before k le lt)) in
    let to : begin + (end - begin) ≡ end = omega arith in
    let part = chosen_more base is_chosen begin image (end - begin) rising (λ k le lt. from_zero (λ m. is_chosen m ≡ true) k (next.each k le (omega arith))) in
    let part_to : ignored_below image base is_chosen begin + ignored_below image base (λ _. true) end ≡ ignored_below image base (λ _. true) begin + ignored_below image base is_chosen end = rw (← to) part in
    omega (arith, gap, part_to, given)

-- nothing chosen is left
pub part_none : (base : ℕ) (is_chosen : ℕ → Bool) (image : Pairs) (done size : ℕ) → IsStrictlyIncreasing (addresses image) → done ≤ size → HasNoChosen is_chosen 0 done size → ignored_below image base is_chosen done ≡ ignored_below image base is_chosen size
part_none base is_chosen image done size rising order none = unchosen base is_chosen image done size rising order (λ k le lt. from_zero (λ m. is_chosen m ≡ false) k (none k le lt))
