-- A comparison of two parts.
use Rattle.std.proofs.Common.{◌≡◌, ◌/◌, ℕ, List, ◌++◌, length, take, drop, length-append, length-drop, ◌-◌, ap, sym, ◌∙◌, subst, arith}
use Rattle.std.specs.Bool.{Decides}
use Rattle.std.proofs.Math.Seq.{take-append_seam, drop-append_seam}
use Rattle.std.proofs.lemmas.Bool.Decides.{Decides-eqb}
use Rattle.std.proofs.lemmas.List.{take-append-drop, take_all}
use Rattle.std.proofs.lemmas.Slice.Eq.{slice_eq-Decides}
use Rattle.norprog_read.proofs.end.is_twice.Goals as goal

-- the halves of what is there twice are alike
halves : (half : List ℕ) → take (length (half ++ half) / 2) (half ++ half) ≡ drop (length (half ++ half) / 2) (half ++ half)
halves half =
    let n : length (half ++ half) / 2 ≡ length half = omega (arith, length-append half half) in
    subst (λ k. take k (half ++ half) ≡ drop k (half ++ half)) (sym n) (take-append_seam half half ∙ sym (drop-append_seam half half))

pub returns : goal.returns
returns c =
    let bytes = c.args.content.now in
    let n = length bytes / 2 in
    let all : take (length bytes - n) (drop n bytes) ≡ drop n bytes = take_all (length bytes - n) (drop n bytes) (omega (arith, length-drop n bytes)) in
    let by : Decides c.eq.result (take n bytes ≡ take (length bytes - n) (drop n bytes)) = slice_eq-Decides Decides-eqb _ _ _ c.eq.ensures in (
      λ alike. (take n bytes, sym (take-append-drop n bytes) ∙ ap (λ xs. take n bytes ++ xs) (sym (by.0 alike ∙ all))),
      λ twice. by.1 (subst (λ xs. take (length xs / 2) xs ≡ drop (length xs / 2) xs) (sym twice.1) (halves twice.0) ∙ sym all),
    )
