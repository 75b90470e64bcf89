-- By computation.
use Rattle.std.proofs.Common.{refl}
use Rattle.nor_base.specs.Blocks.{is_legal, block_at, smallest}
use Rattle.nor_base.specs.Need.{is_needed, lies_in_needed, erased_at, levelled, lacks_erase}
use Rattle.nor_base.specs.Programs.{page_programs}
use Rattle.nor_base.specs.Units.{units, units_over}
use Rattle.nor_laws.proofs.worked.units_worked.Goals as goal

pub returns-clause-restore : goal.returns-clause-restore
unfolding units units_over page_programs erased_at levelled lies_in_needed is_needed smallest block_at is_legal lacks_erase
returns-clause-restore c = refl

pub returns-clause-page : goal.returns-clause-page
unfolding units units_over page_programs erased_at levelled lies_in_needed is_needed smallest block_at is_legal lacks_erase
returns-clause-page c = refl

pub returns-clause-kinds : goal.returns-clause-kinds
unfolding units units_over page_programs erased_at levelled lies_in_needed is_needed smallest block_at is_legal lacks_erase
returns-clause-kinds c = refl

pub returns-clause-border : goal.returns-clause-border
unfolding units units_over page_programs erased_at levelled lies_in_needed is_needed smallest block_at is_legal lacks_erase
returns-clause-border c = refl

pub returns-clause-fault : goal.returns-clause-fault
unfolding units units_over page_programs erased_at levelled lies_in_needed is_needed smallest block_at is_legal lacks_erase
returns-clause-fault c = refl

pub returns-clause-cut : goal.returns-clause-cut
unfolding units units_over page_programs erased_at levelled lies_in_needed is_needed smallest block_at is_legal lacks_erase
returns-clause-cut c = refl

pub returns-clause-due : goal.returns-clause-due
unfolding units units_over page_programs erased_at levelled lies_in_needed is_needed smallest block_at is_legal lacks_erase
returns-clause-due c = refl

pub returns-clause-span : goal.returns-clause-span
unfolding units units_over page_programs erased_at levelled lies_in_needed is_needed smallest block_at is_legal lacks_erase
returns-clause-span c = refl

pub returns-clause-verified : goal.returns-clause-verified
unfolding units units_over page_programs erased_at levelled lies_in_needed is_needed smallest block_at is_legal lacks_erase
returns-clause-verified c = refl

pub returns-clause-unverified : goal.returns-clause-unverified
unfolding units units_over page_programs erased_at levelled lies_in_needed is_needed smallest block_at is_legal lacks_erase
returns-clause-unverified c = refl

pub returns-clause-page_read : goal.returns-clause-page_read
unfolding units units_over page_programs erased_at levelled lies_in_needed is_needed smallest block_at is_legal lacks_erase
returns-clause-page_read c = refl

pub returns-clause-reached : goal.returns-clause-reached
unfolding units units_over page_programs erased_at levelled lies_in_needed is_needed smallest block_at is_legal lacks_erase
returns-clause-reached c = refl
