-- The target of parts of a content.
use Rattle.std.proofs.Common.{◌≡◌, ℕ, suc, ◌+◌, ◌-◌, List, [], ◌∷◌, ◌++◌, length, map, ◌∙◌, ap, arith, inl, inr, length-append}
use Rattle.std.specs.List.{slice_index, enumerate_from}
use Rattle.std.proofs.Math.ListN.{get_or-append}
use Rattle.std.proofs.Math.Seq.{get_or-append_right}
use Rattle.std.proofs.lemmas.Bool.{cases_lt}
use Rattle.std.proofs.lemmas.List.{map-append, get_or-append-add}
use Rattle.nor_base.specs.Target.{target_byte}
use Rattle.nor_geometry.specs.Plan.{HasPart}
use Rattle.nor_hex.specs.Image.{byte_at}
use Rattle.nor_job.specs.declared.job.Job.{Job}
use Rattle.nor_layout.specs.Chosen.{has}
use Rattle.nor_job.specs.Filled.{target_from}
use Rattle.nor_job.specs.Written.{AreBytes}

enumerate_from-append : {X : Type 0} (n : ℕ) (xs ys : List X) → enumerate_from n (xs ++ ys) ≡ enumerate_from n xs ++ enumerate_from (n + length xs) ys
enumerate_from-append n [] ys = let none : n ≡ n + 0 = omega arith in ap (λ m. enumerate_from m ys) none
enumerate_from-append n (x ∷ xs) ys =
    let later : n + 1 + length xs ≡ n + suc (length xs) = omega arith in
    ap (λ rest. (n, x) ∷ rest) (enumerate_from-append (n + 1) xs ys ∙ ap (λ m. enumerate_from (n + 1) xs ++ enumerate_from m ys) later)

-- the target of a content is that of its parts
pub target_of_parts : (job : Job) (at end : ℕ) (xs ys : List ℕ) → at + length xs ≡ end
    → target_from job at (xs ++ ys) ≡ target_from job at xs ++ target_from job end ys
target_of_parts job at end xs ys is =
    let byte : ℕ × ℕ → ℕ = λ p. target_byte (byte_at job.image) job.base (has job.chosen) p.0 p.1 in
    ap (map byte) (enumerate_from-append at xs ys)
    ∙ map-append byte (enumerate_from at xs) (enumerate_from (at + length xs) ys)
    ∙ ap (λ m. target_from job at xs ++ target_from job m ys) is

pub bytes_of_parts : (vs ws : List ℕ) → AreBytes vs → AreBytes ws → AreBytes (vs ++ ws)
bytes_of_parts vs ws first second k = elim (cases_lt k (length vs)) [
  | inl inside ↦ let same = get_or-append vs ws 0 k inside in let small = first k in omega (arith, same, small)
  | inr past ↦ let same = get_or-append_right vs ws k 0 past in let small = second (k - length vs) in omega (arith, same, small)
]

-- what has two parts has each
pub part_left : (whole xs ys : List ℕ) → HasPart whole (xs ++ ys) 0 → HasPart whole xs 0
part_left whole xs ys has = record {
  fits = omega (arith, has.fits, length-append xs ys);
  same = λ i inside. has.same i (omega (arith, inside, length-append xs ys)) ∙ get_or-append xs ys 0 i inside;
}

pub part_right : (whole xs ys : List ℕ) (at : ℕ) → length xs ≡ at → HasPart whole (xs ++ ys) 0 → HasPart whole ys at
part_right whole xs ys at upto has = record {
  fits = omega (arith, has.fits, length-append xs ys, upto);
  same = λ i inside.
      let place : at + i ≡ 0 + (length xs + i) = omega (arith, upto) in
      ap (slice_index whole) place ∙ has.same (length xs + i) (omega (arith, inside, length-append xs ys)) ∙ get_or-append-add xs ys i 0;
}

pub part_whole : (xs : List ℕ) → HasPart xs xs 0
part_whole xs = record { fits = omega arith; same = λ i inside. let here : 0 + i ≡ i = omega arith in ap (slice_index xs) here }

pub part_front : (xs ys : List ℕ) → HasPart (xs ++ ys) xs 0
part_front xs ys = part_left (xs ++ ys) xs ys (part_whole (xs ++ ys))
