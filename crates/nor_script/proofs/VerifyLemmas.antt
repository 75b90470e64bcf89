-- The line of a step in its parts.
use Rattle.std.proofs.Common.{◌≡◌, ℕ, List, [], ◌∷◌, ◌++◌, sym, ◌∙◌, ap, append_assoc}
use Rattle.std.specs.Prelude.{flat_map, codes}
use Rattle.nor_base.specs.declared.step.Step.{Step}
use Rattle.nor_base.specs.declared.step.Step.TheVariants.{Send, Poll, Verify}
use Rattle.nor_base.specs.Script.{closed, hex_pair, step_line}

abbrev pub front_of_verify : List ℕ → List ℕ
front_of_verify clocks = codes "v " ++ (clocks ++ codes " ")

abbrev pub digits_of_verify : List ℕ → List ℕ
digits_of_verify expect = closed (flat_map hex_pair expect)

pub clocks_then_digits : (clocks expect : List ℕ) → front_of_verify clocks ++ digits_of_verify expect ≡ closed (step_line (Verify clocks expect))
unfolding step_line
clocks_then_digits clocks expect =
    ap (λ rest. 118 ∷ 32 ∷ rest)
    (append_assoc clocks (codes " ") (flat_map hex_pair expect ++ 10 ∷ [])
    ∙ sym (append_assoc clocks (codes " " ++ flat_map hex_pair expect) (10 ∷ [])))

-- the line of a step whose clocks and bytes are these
pub send_line : (step : Step) (clocks bytes : List ℕ) → step ≡ Send clocks → bytes ≡ clocks → closed (step_line (Send bytes)) ≡ closed (step_line step)
send_line step clocks bytes is same = ap (λ b. closed (step_line (Send b))) same ∙ sym (ap (λ s. closed (step_line s)) is)

pub poll_line : (step : Step) (clocks bytes : List ℕ) → step ≡ Poll clocks → bytes ≡ clocks → closed (step_line (Poll bytes)) ≡ closed (step_line step)
poll_line step clocks bytes is same = ap (λ b. closed (step_line (Poll b))) same ∙ sym (ap (λ s. closed (step_line s)) is)

pub verify_line_lem : (step : Step) (clocks expect a b : List ℕ) → step ≡ Verify clocks expect → a ≡ clocks → b ≡ expect
    → closed (step_line (Verify a b)) ≡ closed (step_line step)
verify_line_lem step clocks expect a b is same_clocks same_bytes =
    ap (λ x. closed (step_line (Verify x b))) same_clocks ∙ ap (λ x. closed (step_line (Verify clocks x))) same_bytes ∙ sym (ap (λ s. closed (step_line s)) is)
