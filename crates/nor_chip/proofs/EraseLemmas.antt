-- FFh written over a part of an array is an erase of it.
use Rattle.std.proofs.Common.{◌≡◌, ℕ, ◌+◌, ◌-◌, ◌<◌, ◌≤◌, List, ◌++◌, length, replicate, take, drop, get_or, sym, ◌∙◌, ap, arith, inl, inr}
use Rattle.std.specs.List.{slice_index}
use Rattle.std.proofs.Math.Seq.{paste, get_or-append_right}
use Rattle.std.proofs.Math.ListN.{get_or-append, length-replicate}
use Rattle.std.proofs.lemmas.Bool.{cases_lt}
use Rattle.std.proofs.lemmas.List.{get_or-take, get_or-drop, get_or-replicate, length-take-le}
use Rattle.std.proofs.lemmas.List.Edits.{paste_all, length-paste}
use Rattle.std.proofs.lemmas.Grind.{same_number_lists}
use Rattle.nor_base.specs.Effect.{erased}
use Rattle.nor_base.proofs.ArrayLaws.{length-each, erased_fills, erased_keeps}

-- FFh so many times
abbrev effs : ℕ → List ℕ
effs size = replicate size 255

length-effs : (size : ℕ) → length (effs size) ≡ size
length-effs size = length-replicate size 255

byte-effs : (size i : ℕ) → i < size → get_or (effs size) i 0 ≡ 255
byte-effs size i fits = get_or-replicate size i 255 0 fits

length-erased : (start size : ℕ) (array : List ℕ) → length (erased start size array) ≡ length array
unfolding erased
length-erased start size array = length-each _ array

byte_at : (start size x : ℕ) (array : List ℕ) → start + size ≤ length array → x < length array
    → get_or (take start array ++ (effs size ++ drop (start + size) array)) x 0 ≡ slice_index (erased start size array) x
byte_at start size x array fits small =
    let before : length (take start array) ≡ start = length-take-le start array (omega (arith, fits)) in
    let filled : length (effs size) ≡ size = length-effs size in
    elim (cases_lt x start) [
      | inl low ↦ get_or-append (take start array) (effs size ++ drop (start + size) array) 0 x (omega (arith, low, before)) ∙ get_or-take start array x 0 low
          ∙ sym (erased_keeps start size array x (inl low))
      | inr from ↦
          let past = get_or-append_right (take start array) (effs size ++ drop (start + size) array) x 0 (omega (arith, from, before)) in
          let moved : x - length (take start array) ≡ x - start = ap (λ n. x - n) before in
          past ∙ ap (λ n. get_or (effs size ++ drop (start + size) array) n 0) moved ∙ elim (cases_lt x (start + size)) [
            | inl upto ↦ get_or-append (effs size) (drop (start + size) array) 0 (x - start) (omega (arith, filled, upto, from))
                ∙ byte-effs size (x - start) (omega (arith, upto, from)) ∙ sym (erased_fills start size array x small from upto)
            | inr high ↦
                let rest : (start + size) + ((x - start) - length (effs size)) ≡ x = omega (arith, filled, high) in
                get_or-append_right (effs size) (drop (start + size) array) (x - start) 0 (omega (arith, filled, high))
                ∙ get_or-drop (start + size) array ((x - start) - length (effs size)) 0 ∙ ap (λ n. get_or array n 0) rest
                ∙ sym (erased_keeps start size array x (inr high))
          ]
    ]

pub filled_is_erased : (start size : ℕ) (array : List ℕ) → start + size ≤ length array → paste array start (replicate size 255) size ≡ erased start size array
filled_is_erased start size array fits =
    let filled : length (effs size) ≡ size = length-effs size in
    let whole : length (paste array start (effs size) size) ≡ length array = length-paste array start (effs size) size fits (omega (arith, filled)) in
    same_number_lists (paste array start (effs size) size) (erased start size array) (whole ∙ sym (length-erased start size array))
    (λ x small. ap (λ xs. get_or xs x 0) (paste_all array start (effs size) size (sym filled)) ∙ byte_at start size x array fits (omega (arith, small, whole)))
