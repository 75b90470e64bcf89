-- What has to be programmed (one program in a page, as the Page Program of the W25Q256JV datasheet; from the first byte that
-- differs to the last is this project's).
use Rattle.std.specs.Prelude.{ℕ, Bool, ◌+◌, ◌==◌, nat_le, nat_lt, not, ◌&&◌, List, [], ◌∷◌, length, filter, flat_map, slice_index, slice_range}
use Rattle.std.specs.List.{range_with_len, slice_split}
use Rattle.nor_base.specs.Parameters.{Parameters}
use Rattle.nor_base.specs.Need.{differs}

-- bytes to be programmed, from an address on
pub record Program : Type 0 where
  pub at : ℕ
  pub bytes : List ℕ

-- the address past its last byte
abbrev pub program_end : Program → ℕ
program_end p = p.at + length p.bytes

-- the address is one of its bytes'
abbrev pub holds : ℕ → Program → Bool
holds a p = nat_le p.at a && nat_lt a (program_end p)

-- the target's bytes from an address up to another
abbrev pub target_bytes : List ℕ → ℕ → ℕ → Program
target_bytes want start end = record { at = start; bytes = slice_range want start end }

-- the last of some addresses, or the one before them
abbrev pub last_of : ℕ → List ℕ → ℕ
last_of a [] = a
last_of a (b ∷ more) = last_of b more

-- of rising addresses: one program from the first to the last, or none
abbrev pub span : List ℕ → List ℕ → List Program
span want [] = []
span want (a ∷ more) = target_bytes want a (last_of a more + 1) ∷ []

-- a byte that no program may cover: where only erased bytes may be programmed, each that isn't FFh
abbrev pub is_closed : Parameters → List ℕ → ℕ → Bool
is_closed m level a = m.erased_only && not (slice_index level a == 255)

-- the programs of a page over a content whose erased blocks are FFh: the page is cut at the closed bytes, and each part is
-- programmed from its first byte that differs to its last
unfoldable pub page_programs : Parameters → List ℕ → List ℕ → ℕ → List Program
page_programs m level want start =
    flat_map (λ part. span want (filter (differs level want) part)) (slice_split (is_closed m level) (range_with_len start m.page))
