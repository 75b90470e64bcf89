-- The lines of a report as parts.
use Rattle.std.proofs.Common.{◌≡◌, ℕ, List, [], ◌∷◌, ◌++◌, refl, sym, ◌∙◌, ap, append_assoc}
use Rattle.std.specs.Prelude.{codes, decimal}
use Rattle.nor_base.specs.Script.{closed}
use Rattle.norprog.specs.declared.report.Report.{Report}
use Rattle.norprog.specs.Report.{report_text, strategy_name}

-- digits, LF, and what follows after the line that they end
line_then : (digits rest more : List ℕ) → rest ≡ more → digits ++ (0x0A ∷ rest) ≡ (digits ++ (0x0A ∷ [])) ++ more
line_then digits rest more same = ap (λ tail. digits ++ (0x0A ∷ tail)) same ∙ sym (append_assoc digits (0x0A ∷ []) more)

-- a line, five names with their digits between them, and LF
abbrev pub six_parts : List ℕ → List ℕ → List ℕ → List ℕ → List ℕ → List ℕ → List ℕ
six_parts line a b c d e =
    line ++ (codes "steps " ++ (a ++ (codes "\nerases " ++ (b ++ (codes "\nerased " ++ (c ++ (codes "\nprograms " ++ (d ++ (codes "\nignored " ++ (e ++ codes "\n"))))))))))

pub parts_text : (report : Report) → six_parts (closed (codes "strategy " ++ strategy_name report.strategy))
    (decimal report.steps) (decimal report.erases) (decimal report.erased) (decimal report.programs) (decimal report.ignored) ≡ report_text report
unfolding report_text
parts_text report =
    ap (λ rest. closed (codes "strategy " ++ strategy_name report.strategy) ++ (codes "steps " ++ rest))
    (line_then (decimal report.steps) _ _ (ap (λ rest. codes "erases " ++ rest)
    (line_then (decimal report.erases) _ _ (ap (λ rest. codes "erased " ++ rest)
    (line_then (decimal report.erased) _ _ (ap (λ rest. codes "programs " ++ rest)
    (line_then (decimal report.programs) _ _ refl)))))))

-- the same of a line and digits that were made
pub parts_told : (report : Report) (line a b c d e : List ℕ) → line ≡ closed (codes "strategy " ++ strategy_name report.strategy)
    → a ≡ decimal report.steps → b ≡ decimal report.erases → c ≡ decimal report.erased → d ≡ decimal report.programs → e ≡ decimal report.ignored
    → six_parts line a b c d e ≡ report_text report
parts_told report line a b c d e is_line is_a is_b is_c is_d is_e =
    let first = closed (codes "strategy " ++ strategy_name report.strategy) in
    ap (λ x. six_parts x a b c d e) is_line ∙ ap (λ x. six_parts first x b c d e) is_a
    ∙ ap (λ x. six_parts first (decimal report.steps) x c d e) is_b
    ∙ ap (λ x. six_parts first (decimal report.steps) (decimal report.erases) x d e) is_c
    ∙ ap (λ x. six_parts first (decimal report.steps) (decimal report.erases) (decimal report.erased) x e) is_d
    ∙ ap (λ x. six_parts first (decimal report.steps) (decimal report.erases) (decimal report.erased) (decimal report.programs) x) is_e
    ∙ parts_text report
