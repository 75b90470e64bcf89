-- The first row of the parts of the table.
use Rattle.std.proofs.Common.{◌≡◌, [], ◌∷◌, rules}
use Rattle.std.specs.List.{find}
use Rattle.std.specs.Option.{option_or}
use Rattle.nor_base.specs.Instructions.{row_of, common_rows, quad_read_row, erase_rows}
use Rattle.nor_decode.proofs.TableLemmas.{fits, found_in_turn}
use Rattle.nor_decode.proofs.table.row_of.Goals as goal

pub returns : goal.returns
unfolding row_of
returns c =
    let own : c.or_else.result ≡ option_or c.common_row.result (find (fits c.args.opcode) (quad_read_row c.args.meaning.now c.args.mode4 ∷ [])) = search rules in
    let first : c.or_else-2.result ≡ option_or c.or_else.result (find (fits c.args.opcode) (erase_rows c.args.meaning.now c.args.mode4 1)) = search rules in
    let second : c.or_else-3.result ≡ option_or c.or_else-2.result (find (fits c.args.opcode) (erase_rows c.args.meaning.now c.args.mode4 2)) = search rules in
    let third : c.or_else-4.result ≡ option_or c.or_else-3.result (find (fits c.args.opcode) (erase_rows c.args.meaning.now c.args.mode4 3)) = search rules in
    let fourth : c.or_else-5.result ≡ option_or c.or_else-4.result (find (fits c.args.opcode) (erase_rows c.args.meaning.now c.args.mode4 4)) = search rules in
    found_in_turn (fits c.args.opcode) (common_rows c.args.meaning.now c.args.mode4) (quad_read_row c.args.meaning.now c.args.mode4)
    (erase_rows c.args.meaning.now c.args.mode4 1) (erase_rows c.args.meaning.now c.args.mode4 2)
    (erase_rows c.args.meaning.now c.args.mode4 3) (erase_rows c.args.meaning.now c.args.mode4 4)
    c.common_row.result c.or_else.result c.or_else-2.result c.or_else-3.result c.or_else-4.result c.or_else-5.result
    c.common_row.ensures own first second third fourth
