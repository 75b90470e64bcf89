-- They came and are as the file's, there are none, or they weren't read.
use Rattle.std.proofs.Common.{◌≡◌, ◌∙◌, ◌&&◌, Bool, true, false, ap, refl, sym}
use Rattle.nor_base.proofs.FaultLaws.{handed_on}
use Rattle.nor_reader.specs.declared.tables.TablesFault.{TablesFault}
use Rattle.nor_reader.specs.declared.tables.TablesFault.TheVariants.{Memory, NoSignature, Unread}
use Rattle.norprog_read.specs.Chip.{lacks_tables, is_unsigned, Come, Unsigned}
use Rattle.norprog_read.specs.Stops.{Other, StopsAsked, Uncome}
use Rattle.norprog_read.proofs.chip.ask_tables.Goals as goal
use Rattle.norprog_read.proofs.chip.ask_tables.Goals.{else-lacks_tables-via-then-lacks_tables+else-is_unsigned, else-lacks_tables-via-else-lacks_tables}

pub returns-in_err-compare_known-in-Ok-clause-stops : goal.returns-in_err-compare_known-in-Ok-clause-stops
returns-in_err-compare_known-in-Ok-clause-stops g c =
    let why = c.in_err-compare_known-in-Ok.field-0.0 in
    let stops = c.in_err-compare_known-in-Ok.ensures.stops in
    handed_on (StopsAsked _ _ _ _ _) _ why c.from_residual.ensures.1
    (Other stops.0 c.in-Ok.tables.items why stops.1 c.in-Ok.ensures.tables (rw c.as_slice.ensures.value at stops.2))

pub returns-in_ok-compare_known-in-Ok-clause-tables : goal.returns-in_ok-compare_known-in-Ok-clause-tables
returns-in_ok-compare_known-in-Ok-clause-tables g c = Come _ c.in-Ok.ensures.tables

and_false : (b : Bool) → b && false ≡ false
and_false true = refl
and_false false = refl

-- there is no signature
none_signed : (why : TablesFault) → is_unsigned why ≡ true → why ≡ NoSignature
none_signed NoSignature is = refl
none_signed Memory is = cc
none_signed (Unread why) is = cc

pub returns-then-is_unsigned-clause-tables : goal.returns-then-is_unsigned-clause-tables
returns-then-is_unsigned-clause-tables g c =
    let none = none_signed c.in-Err.why (sym c.is_unsigned.ensures ∙ c.if-is_unsigned.true) in
    rw c.new.ensures.items (Unsigned (sym c.lacks_tables.ensures ∙ c.if-lacks_tables.true) (rw none at c.in-Err.ensures.tables))

pub returns-else-lacks_tables-clause-stops : goal.returns-else-lacks_tables-clause-stops
returns-else-lacks_tables-clause-stops g c =
    Uncome c.in-Err.why _ c.in-Err.ensures.tables c.stop_of.ensures (elim c.else-lacks_tables.branch [
      | else-lacks_tables-via-then-lacks_tables+else-is_unsigned w ↦
          ap (λ (b : Bool). lacks_tables c.args.ask.now.known && b) (sym w.is_unsigned.ensures ∙ w.if-is_unsigned.false) ∙ and_false (lacks_tables c.args.ask.now.known)
      | else-lacks_tables-via-else-lacks_tables w ↦ ap (λ (b : Bool). b && is_unsigned c.in-Err.why) (sym c.lacks_tables.ensures ∙ w.if-lacks_tables.false)
    ])
