-- Values of the marks and the rows, worked out by hand.
use Rattle.std.specs.Prelude.{◌≡◌, ℕ, Bool, ◌==◌, Some, List, [], ◌∷◌, ◌++◌, map, codes}
use Rattle.std.specs.List.{range_with_len}
use Rattle.nor_outline.specs.declared.line.PlanLine.TheVariants.{Erase, Because, Program}
use Rattle.nor_map.specs.declared.state.State.{State}
use Rattle.nor_map.specs.declared.state.State.TheVariants.{Kept, Erased, Restored, Changed}
use Rattle.nor_map.specs.Cells.{Wanted, cell_size}
use Rattle.nor_map.specs.Marks.{Marks, marks_of, state_at}
use Rattle.nor_map.specs.Rows.{Grid, busy_of, in_rows}

-- changed, written back, erased and kept cells by a letter
abbrev pub letter : State → ℕ
letter Changed = 0x63
letter Restored = 0x77
letter Erased = 0x65
letter Kept = 0x6B

-- the letters of the first so many cells
abbrev pub letters : Marks → ℕ → List ℕ
letters m count = map (λ c. letter (state_at m c)) (range_with_len 0 count)

-- the image gives bytes 0 to 32, 79 and 90, of which the last isn't chosen
abbrev pub wanted : Wanted
wanted = record { image = map (λ a. (a, 0)) (range_with_len 0 33) ++ (79, 0) ∷ (90, 0) ∷ []; base = 0; chosen = Some (record { start = 0; end = 79 } ∷ []) }

-- a chip of 128 bytes with pages of 16: a block of 64 is erased, of which 48 bytes are
-- programmed; then bytes 79 and 80 are, the last of a cell and the first of the next, and byte 90
abbrev pub restoring : Marks
restoring = marks_of 128 16 wanted (Erase 0 64 0x20 ∷ Because 0 5 ∷ Program 0 48 ∷ Program 79 2 ∷ Program 90 1 ∷ [])

pub record AreStates : Type 0 where
  pub states : letters restoring 8 ≡ codes "cccecwkk"
  pub shares : restoring.fresh ≡ 16 ∷ 16 ∷ 1 ∷ 0 ∷ 1 ∷ 0 ∷ 0 ∷ 0 ∷ []
  pub blocks : restoring.blocks ≡ 1
  pub programs : restoring.programs ≡ 3

-- no bytes touch no cell; what lies past the chip, none of its cells; a byte programmed twice doesn't make more than the whole cell
pub record AreOther : Type 0 where
  pub untouched : letters (marks_of 64 16 wanted (Erase 16 0 0x20 ∷ Program 64 16 ∷ Because 0 0 ∷ [])) 4 ≡ codes "kkkk"
  pub twice : (marks_of 32 16 wanted (Program 0 16 ∷ Program 0 16 ∷ [])).fresh ≡ 16 ∷ 0 ∷ []

-- the bytes of a cell
pub record AreSizes : Type 0 where
  pub a_page : cell_size 8192 256 ≡ 256
  pub sixteen : cell_size 0x1000000 256 ≡ 256
  pub one_more : cell_size 0x1001000 256 ≡ 512
  pub largest : cell_size 0x10000000 256 ≡ 4096

-- cells of one byte in six rows of 16, of which just the fifth has some that are erased
abbrev pub small : List Bool → Grid
small edges = in_rows (record { busy = busy_of (marks_of 96 1 wanted (Erase 64 8 0x20 ∷ [])); edges = edges })

-- four rows are one line, the fifth is the next, and the sixth the last; where a region begins at byte 32, the first four are two
pub record AreRows : Type 0 where
  pub columns : (small []).columns ≡ 16
  pub tops : (small []).tops ≡ 0 ∷ 0 ∷ 0 ∷ 0 ∷ 1 ∷ 2 ∷ []
  pub high : (small []).high ≡ 3
  pub region : (small (map (λ c. c == 32) (range_with_len 0 96))).tops ≡ 0 ∷ 0 ∷ 1 ∷ 1 ∷ 2 ∷ 3 ∷ []
