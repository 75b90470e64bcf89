-- The named regions of a layout.
use Rattle.std.specs.Prelude.{◌≡◌, ℕ, ◌^◌, ◌≤◌, Bool, true, false, ◌&&◌, nat_le, nat_lt, List, [], ◌∷◌, length, AllPairs}
use Rattle.std.specs.List.{list_all}
use Rattle.std.specs.Str.{bytes_eq}
use Rattle.nor_base.specs.Array.{is_filled}

-- the addresses from start to end, both included, under a name of any bytes
pub record Region : Type 0 where
  pub start : ℕ
  pub end : ℕ
  pub name : List ℕ

-- the name has a byte, the end doesn't lie before the start, and both are addresses of 32 bits
abbrev pub is_region : Region → Bool
is_region region = is_filled region.name && (nat_le region.start region.end && nat_lt region.end (2 ^ 32))

-- what each layout keeps: no two of its regions have one name, and there are at most 255
pub record AreRegions (regions : List Region) : Type 0 where
  pub each : list_all is_region regions ≡ true
  pub apart : AllPairs (λ one other. bytes_eq one.name other.name ≡ false) regions
  pub few : length regions ≤ 255
