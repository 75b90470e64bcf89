-- The operation that reads a chip's SFDP tables (JESD216B, Read SFDP 5Ah: three address bytes, then eight dummy clocks). No chip of
-- the model knows 5Ah: what it gives is where the meaning comes from, and says nothing of the array.
use Rattle.std.specs.Prelude.{ℕ, List, [], ◌∷◌, ◌++◌}
use Rattle.nor_base.specs.Clocks.{address_bytes}

-- the eight dummy clocks are a byte that is sent, 00h
abbrev pub table_bytes : ℕ → List ℕ
table_bytes at = 0x5A ∷ (address_bytes 3 at ++ 0x00 ∷ [])
