-- A `Block` by its fields, and its fields by the block of the definitions.
use Rattle.nor_base.specs.Blocks.{Block}
use Rattle.nor_geometry.specs.declared.block.Block.TheInside.{Inside}

abbrev pub block_of : Inside → Block
block_of a = record { start = a.start; size = a.size; kind = a.kind }

abbrev pub fields_of : Block → Inside
fields_of b = record { start = b.start; size = b.size; kind = b.kind }
