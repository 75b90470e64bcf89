-- A part of a target.
use Rattle.std.proofs.Common.{◌≡◌, ℕ, zero, suc, ◌+◌, ◌-◌, ◌<◌, Bool, List, [], ◌∷◌, length, get_or, take, drop, map, Option, refl, sym, ◌∙◌, ap, arith}
use Rattle.std.specs.Prelude.{slice_range}
use Rattle.std.specs.List.{enumerate_from}
use Rattle.std.proofs.lemmas.Grind.{same_number_lists}
use Rattle.std.proofs.lemmas.List.{length-map, get_or-map, take-map, drop-map}
use Rattle.std.proofs.lemmas.List.FromFn.{length-enumerate_from, get_or-enumerate_from}
use Rattle.nor_base.specs.Target.{target, target_byte}

-- bytes that are each what a function gives for the address and the byte that was there
pub all_filled : (f : ℕ → ℕ → ℕ) (at : ℕ) (have want : List ℕ) → length have ≡ length want
    → ((k : ℕ) → k < length have → get_or want k 0 ≡ f (at + k) (get_or have k 0)) → want ≡ map (λ p. f p.0 p.1) (enumerate_from at have)
all_filled f at have want lengths each =
    let length' : length want ≡ length (map (λ p. f p.0 p.1) (enumerate_from at have)) =
    sym lengths ∙ sym (length-enumerate_from at have) ∙ sym (length-map (enumerate_from at have) (λ p. f p.0 p.1)) in
    same_number_lists want (map (λ p. f p.0 p.1) (enumerate_from at have)) length' (λ k fits.
    let inside : k < length have = omega (arith, lengths) in
    let numbered : k < length (enumerate_from at have) = omega (arith, length-enumerate_from at have) in
    each k inside
    ∙ ap (λ (p : ℕ × ℕ). f p.0 p.1) (sym (get_or-enumerate_from at have k (0, 0) inside))
    ∙ sym (get_or-map (λ p. f p.0 p.1) (enumerate_from at have) k (0, 0) 0 numbered))

take-enumerate_from : (n at : ℕ) (xs : List ℕ) → take n (enumerate_from at xs) ≡ enumerate_from at (take n xs)
take-enumerate_from zero at xs = refl
take-enumerate_from (suc n) at [] = refl
take-enumerate_from (suc n) at (x ∷ xs) = ap (λ rest. (at, x) ∷ rest) (take-enumerate_from n (at + 1) xs)

drop-enumerate_from : (n at : ℕ) (xs : List ℕ) → drop n (enumerate_from at xs) ≡ enumerate_from (at + n) (drop n xs)
drop-enumerate_from zero at xs = let same : at ≡ at + 0 = omega arith in ap (λ n. enumerate_from n xs) same
drop-enumerate_from (suc n) at [] = refl
drop-enumerate_from (suc n) at (x ∷ xs) =
    let moved : (at + 1) + n ≡ at + suc n = omega arith in
    drop-enumerate_from n (at + 1) xs ∙ ap (λ from. enumerate_from from (drop n xs)) moved

-- a part of the target is the target of that part
pub part_of_target : (image : ℕ → Option ℕ) (base : ℕ) (is_chosen : ℕ → Bool) (content have : List ℕ) (at end : ℕ) → slice_range content at end ≡ have
    → map (λ p. target_byte image base is_chosen p.0 p.1) (enumerate_from at have) ≡ slice_range (target image base is_chosen content) at end
unfolding target
part_of_target image base is_chosen content have at end part =
    let f : (ℕ × ℕ) → ℕ = λ p. target_byte image base is_chosen p.0 p.1 in
    let numbered : drop at (enumerate_from 0 content) ≡ enumerate_from at (drop at content) =
    drop-enumerate_from at 0 content ∙ (let start : 0 + at ≡ at = omega arith in ap (λ n. enumerate_from n (drop at content)) start) in
    sym (ap (λ xs. take (end - at) xs) (drop-map f at (enumerate_from 0 content))
    ∙ ap (λ xs. take (end - at) (map f xs)) numbered
    ∙ take-map f (end - at) (enumerate_from at (drop at content))
    ∙ ap (λ xs. map f xs) (take-enumerate_from (end - at) at (drop at content) ∙ ap (λ xs. enumerate_from at xs) part))
