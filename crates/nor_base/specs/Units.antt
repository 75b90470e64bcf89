-- The units of the work: erased blocks, and pages outside them, each with its programs (this project's).
use Rattle.std.specs.Prelude.{ℕ, zero, suc, ◌+◌, ◌/◌, ◌==◌, if◌then◌else◌, List, [], ◌∷◌, flat_map, Option, Some, None}
use Rattle.nor_base.specs.declared.meaning.Strategy.{Strategy}
use Rattle.nor_base.specs.Parameters.{Parameters}
use Rattle.nor_base.specs.Blocks.{Block}
use Rattle.nor_base.specs.Need.{is_due, erased_at, levelled}
use Rattle.nor_base.specs.Programs.{Program, page_programs}

pub record WorkUnit : Type 0 where
  -- the block that is erased first; none in a unit of one page
  pub erase : Option Block
  pub start : ℕ
  pub size : ℕ
  pub programs : List Program

-- the starts of so many pages, from one on
abbrev pub pages : ℕ → ℕ → ℕ → List ℕ
pages page start zero = []
pages page start (suc n) = start ∷ pages page (start + page) n

-- a page with programs is a unit
abbrev pub page_unit : Parameters → ℕ → List Program → List WorkUnit
page_unit m start [] = []
page_unit m start (p ∷ ps) = record { erase = None; start = start; size = m.page; programs = p ∷ ps } ∷ []

abbrev pub block_unit : Parameters → List ℕ → List ℕ → Block → WorkUnit
block_unit m level want b = record {
  erase = Some b;
  start = b.start;
  size = b.size;
  programs = flat_map (page_programs m level want) (pages m.page b.start (b.size / m.page));
}

-- the unit that starts with a page: that of the erased block that starts there; none within one; else the page's own
abbrev pub unit_by : Parameters → List ℕ → List ℕ → ℕ → Option Block → List WorkUnit
unit_by m level want start (Some b) = if b.start == start then block_unit m level want b ∷ [] else []
unit_by m level want start None = page_unit m start (page_programs m level want start)

-- the units that start with one of some pages, in their order
unfoldable pub units_over : Parameters → List ℕ → List ℕ → (ℕ → Option Block) → List ℕ → List WorkUnit
units_over m level want erased starts = flat_map (λ start. unit_by m level want start (erased start)) starts

-- the units of a stretch of so many pages
abbrev pub units_of : Parameters → Strategy → List ℕ → List ℕ → List ℕ → List WorkUnit
units_of m by have want starts =
    units_over m (levelled m by (is_due m have want) have) want (erased_at m by (is_due m have want)) starts

-- the units of the whole chip, in rising address
unfoldable pub units : Parameters → Strategy → List ℕ → List ℕ → List WorkUnit
units m by have want = units_of m by have want (pages m.page 0 (m.size / m.page))
