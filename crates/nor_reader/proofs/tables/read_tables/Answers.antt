-- The header, the parameter headers, and the tables.
use Rattle.std.proofs.Common.{List, [], Ok, Err, sym, ◌∙◌, subst, ℕ}
use Rattle.nor_base.specs.Wire.{wire}
use Rattle.nor_reader.specs.Reads.{HasReadOn}
use Rattle.nor_reader.specs.Tables.{table_reads, HasSignature}
use Rattle.nor_reader.proofs.PassLemmas.{nothing_read, read_both}
use Rattle.nor_reader.proofs.TwiceLemmas.{tables_by}
use Rattle.nor_reader.proofs.TablesLemmas.{grow_stops, from_none, these_tables}
use Rattle.nor_reader.proofs.tables.read_tables.Goals as goal

pub returns-in-Err-clause-tables : goal.returns-in-Err-clause-tables
returns-in-Err-clause-tables g c =
    let most = c.args.limits.now.asked in
    let h = g.W.ByteOut.held c.args.to.now in
    let a = g.R.ByteIn.ahead c.args.from.now in
    grow_stops most _ _ _ _ _ _ c.new-bytes.result.items c.in-Err.why
    (subst (λ (old : List ℕ). HasReadOn (table_reads most) (wire h a) (wire h a) [] old) (sym c.new-bytes.ensures.items) (nothing_read (table_reads most) h a []))
    c.in-Err.ensures.grows

pub returns-in-Err-grow-clause-tables : goal.returns-in-Err-grow-clause-tables
returns-in-Err-grow-clause-tables g c =
    let one = from_none c.new-bytes.result.items c.grow.new.bytes.items c.new-bytes.ensures.items c.in_default.ensures.grows in
    grow_stops c.args.limits.now.asked _ _ _ _ _ _ c.grow.new.bytes.items c.in-Err-grow.why one c.in-Err-grow.ensures.grows

pub returns-in-Err-grow-2-clause-tables : goal.returns-in-Err-grow-2-clause-tables
returns-in-Err-grow-2-clause-tables g c =
    let one = from_none c.new-bytes.result.items c.grow.new.bytes.items c.new-bytes.ensures.items c.in_default.ensures.grows in
    let two = read_both _ _ _ _ _ _ _ _ _ _ one c.in_default-grow.ensures.grows in
    grow_stops c.args.limits.now.asked _ _ _ _ _ _ c.grow-2.new.bytes.items c.in-Err-grow-2.why two c.in-Err-grow-2.ensures.grows

pub returns-in-Ok-clause-tables : goal.returns-in-Ok-clause-tables
returns-in-Ok-clause-tables g c =
    let one = from_none c.new-bytes.result.items c.grow.new.bytes.items c.new-bytes.ensures.items c.in_default.ensures.grows in
    let two = read_both _ _ _ _ _ _ _ _ _ _ one c.in_default-grow.ensures.grows in
    let three = read_both _ _ _ _ _ _ _ _ _ _ two c.in_default-grow-2.ensures.grows in
    record {
      are = these_tables c.grow.new.bytes.items c.grow-2.new.bytes.items c.grow-3.new.bytes.items c.as_slice-2.result.now c.as_slice-3.result.now
          c.headers_end-headers.result c.tables_size-size.result c.in_default.ensures.size c.as_slice-2.ensures.value
          (subst HasSignature (c.as_slice.ensures.value ∙ sym c.as_slice-2.ensures.value) (c.is_signed.ensures.0 c.if-not-is_signed.false))
          c.in_default-grow.ensures.grows c.in_default-grow.ensures.size c.headers_end-headers.ensures.is
          c.as_slice-3.ensures.value c.in_default-grow-2.ensures.grows c.in_default-grow-2.ensures.size c.tables_size-size.ensures.is;
      twice = tables_by c.args.limits.now.asked _ _ _ _ _ _ c.grow-3.new.bytes.items (Ok tt) three (rw c.as_slice-tables.ensures.value at c.in-Ok.ensures.again);
    }

pub returns-in-Err-compare_all-clause-tables : goal.returns-in-Err-compare_all-clause-tables
returns-in-Err-compare_all-clause-tables g c =
    let one = from_none c.new-bytes.result.items c.grow.new.bytes.items c.new-bytes.ensures.items c.in_default.ensures.grows in
    let two = read_both _ _ _ _ _ _ _ _ _ _ one c.in_default-grow.ensures.grows in
    let three = read_both _ _ _ _ _ _ _ _ _ _ two c.in_default-grow-2.ensures.grows in (
      c.grow-3.new.bytes.items,
      tables_by c.args.limits.now.asked _ _ _ _ _ _ c.grow-3.new.bytes.items (Err c.in-Err-compare_all.why) three
          (rw c.as_slice-tables.ensures.value at c.in-Err-compare_all.ensures.again),
    )
