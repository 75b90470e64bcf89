-- A comparison of two parts.
use Rattle.std.proofs.Common.{◌≡◌, length, take, drop, length-drop, ◌-◌, sym, ◌∙◌, arith}
use Rattle.std.specs.Bool.{Decides}
use Rattle.std.proofs.lemmas.Bool.Decides.{Decides-eqb}
use Rattle.std.proofs.lemmas.List.{take_all}
use Rattle.std.proofs.lemmas.Slice.Eq.{slice_eq-Decides}
use Rattle.nor_reader.proofs.shows.has_period.Goals as goal

pub returns : goal.returns
returns c =
    let n = c.args.period in
    let bytes = c.args.bytes.now in
    let all : take (length bytes - n) (drop n bytes) ≡ drop n bytes = take_all (length bytes - n) (drop n bytes) (omega (arith, length-drop n bytes)) in
    let by : Decides c.eq.result (take (length bytes - n) (drop n bytes) ≡ take (length bytes - n) bytes) = slice_eq-Decides Decides-eqb _ _ _ c.eq.ensures in
    (λ alike. sym all ∙ by.0 alike, λ period. by.1 (all ∙ period))
