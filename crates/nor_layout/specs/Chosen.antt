-- Which addresses named regions choose.
use Rattle.std.specs.Prelude.{◌≡◌, ℕ, ◌<◌, ◌≤◌, Bool, true, false, not, ◌&&◌, ◌||◌, nat_le, nat_lt, Option, Some, None, List, [], ◌∷◌, position}
use Rattle.std.specs.List.{list_any}
use Rattle.std.specs.Str.{bytes_eq}
use Rattle.nor_base.specs.Array.{is_filled}
use Rattle.nor_layout.specs.declared.chosen.Interval.{Interval}
use Rattle.nor_layout.specs.declared.fault.LayoutFault.{LayoutFault}
use Rattle.nor_layout.specs.declared.fault.LayoutFault.TheVariants.{UnknownRegion, Memory}
use Rattle.nor_layout.specs.Region.{Region}
use Rattle.nor_layout.specs.Line.{is_taken}

-- the name is one of these, byte for byte
abbrev pub is_named : List (List ℕ) → List ℕ → Bool
is_named names name = list_any (λ other. bytes_eq other name) names

-- the address lies in some named region of the layout, both ends included
abbrev pub lies_in_named : List Region → List (List ℕ) → ℕ → Bool
lies_in_named regions names address = list_any (λ region. is_named names region.name && (nat_le region.start address && nat_le address region.end)) regions

-- the address is chosen: no region is named, or it lies in some named region of the layout
abbrev pub is_chosen : List Region → List (List ℕ) → ℕ → Bool
is_chosen regions names address = not (is_filled names) || lies_in_named regions names address

-- the index of the first name that no region has
abbrev pub first_unknown : List Region → List (List ℕ) → Option ℕ
first_unknown regions names = position (λ name. not (is_taken regions name)) names

-- the address lies in some interval, both ends included
abbrev pub lies_in : List Interval → ℕ → Bool
lies_in intervals address = list_any (λ interval. nat_le interval.start address && nat_le address interval.end) intervals

-- the addresses of a choice: all, or those of its intervals
abbrev pub has : Option (List Interval) → ℕ → Bool
has None address = true
has (Some intervals) address = lies_in intervals address

-- no address from this one on is chosen
abbrev pub HasNoneChosen : (ℕ → Bool) → ℕ → Type 0
HasNoneChosen is_chosen from = (address : ℕ) → from ≤ address → is_chosen address ≡ false

-- `first` is the lowest chosen address at or past `from`, and each from it to `last` is chosen
pub record IsChosenRun (is_chosen : ℕ → Bool) (from first last : ℕ) : Type 0 where
  pub past : from ≤ first
  pub some : first ≤ last
  pub none_before : (address : ℕ) → from ≤ address → address < first → is_chosen address ≡ false
  pub each : (address : ℕ) → first ≤ address → address ≤ last → is_chosen address ≡ true

-- the address lies before the first of a run, as each does before none
abbrev pub is_before : ℕ → Option (ℕ × ℕ) → Bool
is_before address None = true
is_before address (Some run) = nat_lt address run.0

-- what a refused choice says of the regions and names: memory is asked for only where each name is known
abbrev pub RefusesChoice : List Region → List (List ℕ) → LayoutFault → Type 0
RefusesChoice regions names Memory = first_unknown regions names ≡ None
RefusesChoice regions names (UnknownRegion index) = first_unknown regions names ≡ Some index
RefusesChoice regions names fault = ⊥
