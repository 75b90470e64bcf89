-- The addresses of a part of a chip that an image gives: how many, and the lowest.
use Rattle.std.proofs.Common.{◌≡◌, ◌∙◌, sym, ap, subst, refl, ℕ, zero, suc, ◌+◌, ◌-◌, ◌^◌, ◌≤◌, ◌<◌, ◌&&◌, ◌++◌, Bool, true, false, cond, take, List, [], ◌∷◌, length, filter, get_or, append-nil, Option, Some, None, inl, inr, arith}
use Rattle.std.proofs.lemmas.Option.{slice_get-get_or}
use Rattle.std.specs.Option.{is_some}
use Rattle.std.specs.List.{range_with_len, filter_map}
use Rattle.std.proofs.Math.Seq.{take-suc}
use Rattle.std.proofs.lemmas.List.Elements.{filter_map-append}
use Rattle.std.specs.List.Sorted.{IsStrictlyIncreasing}
use Rattle.std.proofs.lemmas.Bool.{cases_lt}
use Rattle.nor_hex.specs.Image.{Pairs, addresses, byte_at, HasNoneFrom}
use Rattle.nor_target.specs.Ignored.{ignored_below}
use Rattle.nor_target.specs.Runs.{HasNoRun, IsNextRun, overlay}
use Rattle.nor_target.specs.Shares.{share, given_between}
use Rattle.nor_target.specs.declared.shares.Share.{Share}
use Rattle.nor_target.proofs.CountLemmas.{one_more, from_zero}

-- the addresses from one on that the image gives
abbrev given_from : ℕ → Pairs → ℕ → ℕ → List ℕ
given_from base image start n = filter (λ a. is_some (byte_at image (base + a))) (range_with_len start n)

-- none of them where it gives none
pub none_given : (base : ℕ) (image : Pairs) (start n : ℕ) → ((k : ℕ) → start ≤ k → k < start + n → byte_at image (base + k) ≡ None) → given_from base image start n ≡ []
none_given base image start zero none = refl
none_given base image start (suc n) none =
    let here : byte_at image (base + start) ≡ None = none start (omega arith) (omega arith) in
    rw (here) (none_given base image (start + 1) n (λ k le lt. none k (omega arith) (omega arith)))

-- the first of them
pub first_given : (base : ℕ) (image : Pairs) (gap start n : ℕ) (byte : ℕ) → ((k : ℕ) → start ≤ k → k < start + gap → byte_at image (base + k) ≡ None)
    → byte_at image (base + (start + gap)) ≡ Some byte → gap < n
    → given_from base image start n ≡ (start + gap) ∷ given_from base image (start + gap + 1) (n - gap - 1)
first_given base image zero start zero byte none here inside = absurd (omega (arith, inside))
first_given base image zero start (suc n) byte none here inside =
    let same : start + 0 ≡ start = omega arith in
    let found : byte_at image (base + start) ≡ Some byte = subst (λ a. byte_at image (base + a) ≡ Some byte) same here in
    let left : suc n - 0 - 1 ≡ n = omega arith in
    rw (same, left, found) refl
first_given base image (suc gap) start zero byte none here inside = absurd (omega (arith, inside))
first_given base image (suc gap) start (suc n) byte none here inside =
    let skipped : byte_at image (base + start) ≡ None = none start (omega arith) (omega arith) in
    let moved : start + suc gap ≡ start + 1 + gap = omega arith in
    let left : suc n - suc gap - 1 ≡ n - gap - 1 = omega arith in
    let rest = first_given base image gap (start + 1) n byte (λ k le lt. none k (omega arith) (omega arith))
    (subst (λ a. byte_at image (base + a) ≡ Some byte) moved here) (omega (arith, inside)) in
    rw (moved, left, skipped) rest

-- how many they are: so many fewer addresses of the image lie from their end on than from their beginning on
pub count_given : (base : ℕ) (image : Pairs) (start n : ℕ) → IsStrictlyIncreasing (addresses image)
    → length (given_from base image start n) + ignored_below image base (λ _. true) (start + n) ≡ ignored_below image base (λ _. true) start
count_given base image start zero rising =
    let same : start + 0 ≡ start = omega arith in
    let end : ignored_below image base (λ _. true) (start + 0) ≡ ignored_below image base (λ _. true) start = ap (λ s. ignored_below image base (λ _. true) s) same in
    omega (arith, end)
count_given base image start (suc n) rising =
    let step = one_more base (λ _. true) start image rising in
    let rest = count_given base image (start + 1) n rising in
    let moved : start + suc n ≡ start + 1 + n = omega arith in
    let end : ignored_below image base (λ _. true) (start + suc n) ≡ ignored_below image base (λ _. true) (start + 1 + n) = ap (λ s. ignored_below image base (λ _. true) s) moved in
    counted (is_some (byte_at image (base + start))) start (given_from base image (start + 1) n) _ _ _ _ step rest end
  where
    counted : (found : Bool) (a : ℕ) (others : List ℕ) (here next end last : ℕ) → here ≡ next + cond (true && found) 1 0 → length others + end ≡ next → last ≡ end
        → length (cond found (a ∷ others) others) + last ≡ here
    counted true a others here next end last step rest same = omega (arith, step, rest, same)
    counted false a others here next end last step rest same = omega (arith, step, rest, same)

-- what a part has whose first given address is this, and of whose addresses the image gives so many
pub share_is : (base : ℕ) (image : Pairs) (begin end first count : ℕ) (run : List ℕ) → IsStrictlyIncreasing (addresses image) → begin < end
    → IsNextRun (overlay (byte_at image) base 0) begin end first run
    → count + ignored_below image base (λ _. true) end ≡ ignored_below image base (λ _. true) begin
    → Path (Option Share) (Some (record { count = count; first = first })) (share (given_between (byte_at image) base begin end))
share_is base image begin end first count run rising some next counted =
    let past = next.past in
    let filled = next.some in
    let within = next.within in
    let there : byte_at image (base + (0 + (first + 0))) ≡ Some (get_or run 0 0) = next.bytes 0 filled ∙ slice_get-get_or run 0 0 filled in
    let place : 0 + (first + 0) ≡ begin + (first - begin) = omega arith in
    let here : byte_at image (base + (begin + (first - begin))) ≡ Some (get_or run 0 0) = subst (λ a. byte_at image (base + a) ≡ Some (get_or run 0 0)) place there in
    let list = first_given base image (first - begin) begin (end - begin) (get_or run 0 0)
    (λ k le lt. from_zero (λ m. byte_at image (base + m) ≡ None) k (next.none_before k le (omega arith))) here (omega arith) in
    let few = count_given base image begin (end - begin) rising in
    let to : begin + (end - begin) ≡ end = omega arith in
    let few_to : length (given_from base image begin (end - begin)) + ignored_below image base (λ _. true) end ≡ ignored_below image base (λ _. true) begin =
    subst (λ e. length (given_from base image begin (end - begin)) + ignored_below image base (λ _. true) e ≡ ignored_below image base (λ _. true) begin) to few in
    let start : begin + (first - begin) ≡ first = omega arith in
    let size : length (given_from base image begin (end - begin)) ≡ count = omega (arith, few_to, counted) in
    made (given_from base image begin (end - begin)) _ _ first count list start size
  where
    made : (all : List ℕ) (at : ℕ) (others : List ℕ) (first count : ℕ) → all ≡ at ∷ others → at ≡ first → length all ≡ count
        → Path (Option Share) (Some (record { count = count; first = first })) (share all)
    made all at others first count is same size = rw (← size, ← same, is) refl

-- a part of which the image gives nothing
pub share_none : (base : ℕ) (image : Pairs) (begin end : ℕ) → HasNoneFrom image (2 ^ 32) → HasNoRun (overlay (byte_at image) base 0) begin end
    → Path (Option Share) None (share (given_between (byte_at image) base begin end))
share_none base image begin end past none =
    let empty : given_from base image begin (end - begin) ≡ [] = none_given base image begin (end - begin) (λ k le lt. elim (cases_lt (base + k) (2 ^ 32)) [
      | inl below ↦ from_zero (λ m. byte_at image (base + m) ≡ None) k (none k le (omega arith) (omega arith))
      | inr from ↦ past (base + k) from
    ]) in
    rw empty refl

-- ---- one name more
named_more : {X Y : Type 0} (f : X → Option Y) (xs : List X) (index : ℕ) (x : X) (so_far : List Y) → index < length xs → get_or xs index x ≡ x → so_far ≡ filter_map f (take index xs)
    → filter_map f (take (index + 1) xs) ≡ so_far ++ filter_map f (x ∷ [])
named_more f xs index x so_far inside is same =
    let one : index + 1 ≡ suc index = omega arith in
    ap (λ n. filter_map f (take n xs)) one
    ∙ ap (filter_map f) (take-suc xs index x inside ∙ ap (λ y. take index xs ++ y ∷ []) is)
    ∙ filter_map-append f (take index xs) (x ∷ [])
    ∙ ap (λ ys. ys ++ filter_map f (x ∷ [])) (sym same)

pub one_named : {X Y : Type 0} (f : X → Option Y) (xs : List X) (index : ℕ) (x : X) (y : Y) (so_far : List Y) → index < length xs → get_or xs index x ≡ x → so_far ≡ filter_map f (take index xs)
    → f x ≡ Some y → so_far ++ y ∷ [] ≡ filter_map f (take (index + 1) xs)
one_named f xs index x y so_far inside is same found =
    sym (named_more f xs index x so_far inside is same ∙ ap (λ ys. so_far ++ ys) (let e : filter_map f (x ∷ []) ≡ y ∷ [] = rw (found) refl in e))

pub none_named : {X Y : Type 0} (f : X → Option Y) (xs : List X) (index : ℕ) (x : X) (so_far : List Y) → index < length xs → get_or xs index x ≡ x → so_far ≡ filter_map f (take index xs)
    → f x ≡ None → so_far ≡ filter_map f (take (index + 1) xs)
none_named f xs index x so_far inside is same lacks =
    sym (named_more f xs index x so_far inside is same ∙ ap (λ ys. so_far ++ ys) (let e : filter_map f (x ∷ []) ≡ [] = rw (lacks) refl in e) ∙ append-nil so_far)
