use Rattle.std.proofs.Common.{◌≡◌, ◌∙◌, ◌++◌, ◌∷◌, [], false, map, sym, ap, subst}
use Rattle.nor_base.specs.Parameters.{Parameters, erase_kind}
use Rattle.nor_sheet.specs.Text.{IsSheet}
use Rattle.norprog.specs.ChipText.{meaning_text, front_text, erases_text, kind_text, modes_text, quad_read_text, dedicated_text}
use Rattle.norprog_laws.proofs.MeaningLemmas.{front_listed, kinds_listed, modes_listed, dedicated_listed, listed, listed_are, listed_runs, full, full_means}
use Rattle.norprog_laws.proofs.PrintedLemmas.{read_printed, region_printed}
use Rattle.norprog_laws.proofs.RunLemmas.{printed_sheet}
use Rattle.norprog_laws.proofs.TextLemmas.{lined, lined_append, front_lined, kind_listed, kind_lined, modes_lined, read_lined, dedicated_lined, regions_lined}
use Rattle.norprog_laws.proofs.sheets.printed_sheets.Goals as goal

kinds_text : (m : Parameters) → erases_text m ≡ lined (kinds_listed m)
kinds_text m =
    ap (λ l. kind_text m 1 ++ (kind_text m 2 ++ (kind_text m 3 ++ l))) (kind_lined 4 (erase_kind m 4))
    ∙ ap (λ l. kind_text m 1 ++ (kind_text m 2 ++ (l ++ lined (kind_listed 4 (erase_kind m 4))))) (kind_lined 3 (erase_kind m 3))
    ∙ ap (λ l. kind_text m 1 ++ (kind_text m 2 ++ l)) (sym (lined_append (kind_listed 3 (erase_kind m 3)) (kind_listed 4 (erase_kind m 4))))
    ∙ ap (λ l. kind_text m 1 ++ (l ++ lined (kind_listed 3 (erase_kind m 3) ++ kind_listed 4 (erase_kind m 4)))) (kind_lined 2 (erase_kind m 2))
    ∙ ap (λ l. kind_text m 1 ++ l) (sym (lined_append (kind_listed 2 (erase_kind m 2)) (kind_listed 3 (erase_kind m 3) ++ kind_listed 4 (erase_kind m 4))))
    ∙ ap (λ l. l ++ lined (kind_listed 2 (erase_kind m 2) ++ (kind_listed 3 (erase_kind m 3) ++ kind_listed 4 (erase_kind m 4)))) (kind_lined 1 (erase_kind m 1))
    ∙ sym (lined_append (kind_listed 1 (erase_kind m 1)) (kind_listed 2 (erase_kind m 2) ++ (kind_listed 3 (erase_kind m 3) ++ kind_listed 4 (erase_kind m 4))))

text_lined : (m : Parameters) → meaning_text m ≡ lined (listed m)
unfolding meaning_text
text_lined m =
    let regions = map region_printed m.regions in
    ap (λ l. front_text m ++ (erases_text m ++ (modes_text m ++ (quad_read_text m.quad_read ++ (dedicated_text m ++ l))))) (regions_lined m.regions)
    ∙ ap (λ l. front_text m ++ (erases_text m ++ (modes_text m ++ (quad_read_text m.quad_read ++ (l ++ lined regions))))) (dedicated_lined m.read4 m.quad_read4 m.program4 m.quad4)
    ∙ ap (λ l. front_text m ++ (erases_text m ++ (modes_text m ++ (quad_read_text m.quad_read ++ l)))) (sym (lined_append (dedicated_listed m) regions))
    ∙ ap (λ l. front_text m ++ (erases_text m ++ (modes_text m ++ (l ++ lined (dedicated_listed m ++ regions))))) (read_lined m.quad_read)
    ∙ ap (λ l. front_text m ++ (erases_text m ++ (modes_text m ++ l))) (sym (lined_append (read_printed m.quad_read ∷ []) (dedicated_listed m ++ regions)))
    ∙ ap (λ l. front_text m ++ (erases_text m ++ (l ++ lined (read_printed m.quad_read ∷ [] ++ (dedicated_listed m ++ regions))))) (modes_lined m.enter m.leave)
    ∙ ap (λ l. front_text m ++ (erases_text m ++ l)) (sym (lined_append (modes_listed m) (read_printed m.quad_read ∷ [] ++ (dedicated_listed m ++ regions))))
    ∙ ap (λ l. front_text m ++ (l ++ lined (modes_listed m ++ (read_printed m.quad_read ∷ [] ++ (dedicated_listed m ++ regions))))) (kinds_text m)
    ∙ ap (λ l. front_text m ++ l) (sym (lined_append (kinds_listed m) (modes_listed m ++ (read_printed m.quad_read ∷ [] ++ (dedicated_listed m ++ regions)))))
    ∙ ap (λ l. l ++ lined (kinds_listed m ++ (modes_listed m ++ (read_printed m.quad_read ∷ [] ++ (dedicated_listed m ++ regions))))) (front_lined m.size m.page m.open_page m.width)
    ∙ sym (lined_append (front_listed m) (kinds_listed m ++ (modes_listed m ++ (read_printed m.quad_read ∷ [] ++ (dedicated_listed m ++ regions)))))

pub returns : goal.returns
returns c = λ m a.
    subst (λ text. IsSheet text (record m { quad3 = false; erased_only = false })) (sym (text_lined m))
    (printed_sheet (listed m) (full m) (record m { quad3 = false; erased_only = false }) (listed_are m a) (listed_runs m a) (full_means m a))
