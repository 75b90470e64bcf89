use Rattle.std.proofs.Common.{◌≡◌, ◌∙◌, ◌++◌, ◌==◌, ◌&&◌, ◌||◌, not, Bool, Some, None, false, sym, ap}
use Rattle.std.specs.Prelude.{sum_by, is_some, if◌then◌else◌}
use Rattle.std.specs.List.{list_any}
use Rattle.std.proofs.lemmas.Bool.{eq-eqb}
use Rattle.nor_base.specs.Accepted.{are_distinct, fixed_opcodes}
use Rattle.nor_base.specs.Instructions.{is_there, offered_opcodes, own_rows}
use Rattle.nor_base.specs.Parameters.{Parameters}
use Rattle.nor_sheet.specs.declared.fault.Lack.TheVariants as lack
use Rattle.nor_sheet.specs.Sheet.{Sheet}
use Rattle.nor_sheet.specs.Meaning.{is_below, is_both, lack_of, parameters_by}
use Rattle.nor_sheet.proofs.MeaningLemmas.{none_before}
use Rattle.nor_sheet.proofs.OpcodeLemmas.{own_opcodes}
use Rattle.nor_sheet.proofs.meaning.lack_of.Goals as goal

last : (m : Parameters) (own : Bool) → own ≡ are_distinct (fixed_opcodes ++ offered_opcodes (own_rows m false)) → list_any (is_below m.page) m.erases ≡ false
    → sum_by (λ region. region.size) m.regions ≡ m.size → ((is_there m.enter || is_there m.leave) && not (is_both m.width)) ≡ false
    → (m.quad_read4 && not (is_some m.quad_read)) ≡ false → (if not own then Some lack.Opcode else None) ≡ lack_of m
last m own is below fill mode read =
    sym (none_before (list_any (is_below m.page) m.erases) (not (sum_by (λ region. region.size) m.regions == m.size)) ((is_there m.enter || is_there m.leave) && not (is_both m.width))
    (m.quad_read4 && not (is_some m.quad_read)) (not (are_distinct (fixed_opcodes ++ offered_opcodes (own_rows m false)))) _ _ _ _ _ below (ap not (eq-eqb _ _ fill)) mode read
    ∙ ap (λ b. if not b then Some lack.Opcode else None) (sym is))

pub returns-then-not-has_own_opcodes : goal.returns-then-not-has_own_opcodes
returns-then-not-has_own_opcodes c =
    let m = parameters_by c.args.sheet.now c.args.size c.args.page c.args.width in
    let below : list_any (is_below m.page) m.erases ≡ false =
    ap (λ (s : Sheet). list_any (is_below c.args.page.size) s.kinds) (sym c.sheet.view_is) ∙ sym c.has_below.ensures ∙ c.if-has_below.false in
    let fill : sum_by (λ region. region.size) m.regions ≡ m.size =
    ap (λ (s : Sheet). sum_by (λ region. region.size) s.regions) (sym c.sheet.view_is) ∙ ap (sum_by (λ region. region.size)) (sym c.as_slice.ensures.value)
    ∙ sym c.bytes_of.ensures ∙ c.if-bytes_of-from.false ∙ c.from.ensures in
    ap (λ b. if not b then Some lack.Opcode else None) (sym c.if-not-has_own_opcodes.true)
    ∙ last m c.has_own_opcodes.result (c.has_own_opcodes.ensures ∙ ap (λ l. are_distinct (fixed_opcodes ++ l)) (sym (own_opcodes m c.requires.four)))
    below fill (sym c.has_other_mode.ensures ∙ c.if-has_other_mode.false) (sym c.lacks_read.ensures ∙ c.if-lacks_read.false)

pub returns : goal.returns
returns c =
    let m = parameters_by c.args.sheet.now c.args.size c.args.page c.args.width in
    let below : list_any (is_below m.page) m.erases ≡ false =
    ap (λ (s : Sheet). list_any (is_below c.args.page.size) s.kinds) (sym c.sheet.view_is) ∙ sym c.has_below.ensures ∙ c.if-has_below.false in
    let fill : sum_by (λ region. region.size) m.regions ≡ m.size =
    ap (λ (s : Sheet). sum_by (λ region. region.size) s.regions) (sym c.sheet.view_is) ∙ ap (sum_by (λ region. region.size)) (sym c.as_slice.ensures.value)
    ∙ sym c.bytes_of.ensures ∙ c.if-bytes_of-from.false ∙ c.from.ensures in
    ap (λ b. if not b then Some lack.Opcode else None) (sym c.if-not-has_own_opcodes.false)
    ∙ last m c.has_own_opcodes.result (c.has_own_opcodes.ensures ∙ ap (λ l. are_distinct (fixed_opcodes ++ l)) (sym (own_opcodes m c.requires.four)))
    below fill (sym c.has_other_mode.ensures ∙ c.if-has_other_mode.false) (sym c.lacks_read.ensures ∙ c.if-lacks_read.false)
