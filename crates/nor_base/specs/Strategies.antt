-- By which opcodes and how many address bytes a chip is driven (this project's; what a chip offers is JESD216B's).
use Rattle.std.specs.Prelude.{ℕ, Bool, true, ◌+◌, nat_le, nat_lt, not, ◌&&◌, ◌||◌, if◌then◌else◌, List, [], ◌∷◌, is_some}
use Rattle.std.specs.List.{list_any}
use Rattle.nor_base.specs.declared.meaning.Region.{Region}
use Rattle.nor_base.specs.declared.meaning.Start.{Start}
use Rattle.nor_base.specs.declared.meaning.Strategy.{Strategy}
use Rattle.nor_base.specs.declared.meaning.Strategy.TheVariants.{S1, S2, S3, S4, S5}
use Rattle.nor_base.specs.Parameters.{Parameters, erase_kind, allows, block_size}
use Rattle.nor_base.specs.Instructions.{dedicated, is_there}
use Rattle.nor_base.specs.Blocks.{kinds}
use Rattle.nor_base.specs.Chip.{begins4}

-- three address bytes don't reach it
abbrev pub is_far : ℕ → Bool
is_far a = nat_le 0x1000000 a

-- the kind is present, and the region allows it
abbrev pub erases_in : Parameters → Region → ℕ → Bool
erases_in m region kind = is_some (erase_kind m kind) && allows region kind

-- no kind of the region is smaller
abbrev pub is_least : Parameters → Region → ℕ → Bool
is_least m region kind = not (list_any (λ other. erases_in m region other && nat_lt (block_size m other) (block_size m kind)) kinds)

-- of the region's kinds some of the least size has an opcode with four address bytes; or the region has no kind
abbrev pub is_dedicated : Parameters → Region → Bool
is_dedicated m region =
    not (list_any (erases_in m region) kinds)
    || list_any (λ kind. erases_in m region kind && (is_least m region kind && is_some (dedicated m kind))) kinds

-- so it is of each region that reaches past three address bytes; the first region begins at `base`
abbrev pub are_dedicated : Parameters → ℕ → List Region → Bool
are_dedicated m base [] = true
are_dedicated m base (region ∷ regions) =
    (nat_le (base + region.size) 0x1000000 || is_dedicated m region) && are_dedicated m (base + region.size) regions

-- the first that applies: the chip begins in four-byte mode; three address bytes reach all of it; it has dedicated opcodes
-- for what lies past them; it can enter four-byte mode and leave it; otherwise what lies past them isn't reached
unfoldable pub strategy : Parameters → Start → Strategy
strategy m start =
    if begins4 m start then S1
    else if nat_le m.size 0x1000000 then S2
    else if m.program4 && (m.read4 && are_dedicated m 0 m.regions) then S3
    else if is_there m.enter && is_there m.leave then S4
    else S5

-- the strategy has an erase of the kind for an address
abbrev pub reaches : Strategy → Parameters → ℕ → ℕ → Bool
reaches S1 m kind a = true
reaches S2 m kind a = true
reaches S3 m kind a = not (is_far a) || is_some (dedicated m kind)
reaches S4 m kind a = true
reaches S5 m kind a = not (is_far a)
