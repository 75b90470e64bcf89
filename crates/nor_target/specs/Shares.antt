-- What an image gives each chosen region of a chip (this project's).
use Rattle.std.specs.Prelude.{ℕ, ◌+◌, ◌-◌, not, min, List, [], ◌∷◌, length, filter, find, filter_map, position, codes, Option, Some, None, is_some}
use Rattle.std.specs.List.{range_with_len}
use Rattle.std.specs.Str.{bytes_eq}
use Rattle.nor_layout.specs.Region.{Region}
use Rattle.nor_target.specs.declared.shares.Share.{Share}

-- the addresses from `begin` on and below `end` that the image gives a byte, from `base` on, rising
abbrev pub given_between : (ℕ → Option ℕ) → ℕ → ℕ → ℕ → List ℕ
given_between image base begin end = filter (λ a. is_some (image (base + a))) (range_with_len begin (end - begin))

-- those of a chip of this size that lie in the region, both ends included
abbrev pub given_in : (ℕ → Option ℕ) → ℕ → ℕ → Region → List ℕ
given_in image base size region = given_between image base region.start (min (region.end + 1) size)

-- how many addresses these are, and the first of them; nothing where there is none
abbrev pub share : List ℕ → Option Share
share [] = None
share (first ∷ others) = Some (record { count = length (first ∷ others); first = first })

-- what an image gives a region
abbrev pub share_in : (ℕ → Option ℕ) → ℕ → ℕ → Region → Option Share
share_in image base size region = share (given_in image base size region)

-- the region of this name, byte for byte
abbrev pub region_named : List Region → List ℕ → Option Region
region_named regions name = find (λ region. bytes_eq region.name name) regions

-- the whole chip, as a region
abbrev pub whole_chip : ℕ → Region
whole_chip size = record { start = 0; end = size - 1; name = codes "chip" }

-- the regions of these names, in the order of the names; where there is no name the whole chip
abbrev pub chosen_regions : List Region → List (List ℕ) → ℕ → List Region
chosen_regions regions [] size = whole_chip size ∷ []
chosen_regions regions (name ∷ names) size = filter_map (region_named regions) (name ∷ names)

-- the index, from 0, of the first of these regions to which the image gives no byte
abbrev pub first_empty : (ℕ → Option ℕ) → ℕ → ℕ → List Region → Option ℕ
first_empty image base size regions = position (λ region. not (is_some (share_in image base size region))) regions
