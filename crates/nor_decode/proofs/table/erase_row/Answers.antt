-- The row of a kind is offered where some region allows the kind.
use Rattle.std.proofs.Common.{◌≡◌, true, false, Some, sym, ◌∙◌, rules}
use Rattle.std.specs.Prelude.{is_some}
use Rattle.std.specs.List.{find, list_any}
use Rattle.nor_base.specs.Parameters.{allows, erase_kind}
use Rattle.nor_decode.specs.Table.{rows_by}
use Rattle.nor_decode.proofs.TableLemmas.{fits, none_where_no_region, same_where_allowed}
use Rattle.nor_decode.proofs.table.erase_row.Goals as goal

pub returns-then-is_allowed : goal.returns-then-is_allowed
returns-then-is_allowed c =
    let one_allows : list_any (λ region. allows region c.args.kind) c.args.meaning.now.regions ≡ true = search rules in
    let found : Some c.in_ok-row.row ≡ find (fits c.args.opcode) (rows_by (is_some c.erase_kind.result) c.erase_kind.result c.args.mode4 c.args.kind) = search rules in
    let same = same_where_allowed c.args.opcode c.erase_kind.result (list_any (λ region. allows region c.args.kind) c.args.meaning.now.regions)
    c.args.mode4 c.args.kind one_allows in
    rw (← c.erase_kind.ensures.kind) (found ∙ sym same)

pub returns-else-is_allowed : goal.returns-else-is_allowed
returns-else-is_allowed c =
    let none_allows : list_any (λ region. allows region c.args.kind) c.args.meaning.now.regions ≡ false = search rules in
    sym (none_where_no_region c.args.opcode (erase_kind c.args.meaning.now c.args.kind)
    (list_any (λ region. allows region c.args.kind) c.args.meaning.now.regions) c.args.mode4 c.args.kind none_allows)
