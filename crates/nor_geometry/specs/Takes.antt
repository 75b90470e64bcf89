-- The words of the private parts.
use Rattle.std.specs.Prelude.{ℕ, Bool, true, not, ◌&&◌, ◌||◌, is_some, nat_lt, if◌then◌else◌, List, [], ◌∷◌, Option}
use Rattle.nor_base.specs.declared.meaning.Strategy.{Strategy}
use Rattle.nor_base.specs.declared.meaning.Strategy.TheVariants.{S1, S2, S3, S4, S5}
use Rattle.nor_base.specs.declared.meaning.Region.{Region}
use Rattle.nor_base.specs.Instructions.{dedicated}
use Rattle.nor_base.specs.Parameters.{Parameters}
use Rattle.nor_base.specs.Blocks.{Block, block_at}
use Rattle.nor_base.specs.Strategies.{is_far, reaches, erases_in, is_least}
use Rattle.nor_base.specs.Need.{kept_if}

-- the kind is of the region's least size and has an opcode with four address bytes
abbrev pub is_least_dedicated : Parameters → Region → ℕ → Bool
is_least_dedicated m region kind = erases_in m region kind && (is_least m region kind && is_some (dedicated m kind))

-- the strategy has an erase for an address by a kind with or without an opcode of four address bytes
abbrev pub takes : Strategy → Bool → ℕ → Bool
takes S1 has_op4 a = true
takes S2 has_op4 a = true
takes S3 has_op4 a = not (is_far a) || has_op4
takes S4 has_op4 a = true
takes S5 has_op4 a = not (is_far a)

-- the strategy's legal block of a kind that holds an address, if there is one
abbrev pub reached_at : Parameters → Strategy → ℕ → ℕ → Option Block
reached_at m by a kind = kept_if (λ b. reaches by m b.kind b.start) (block_at m a kind)

-- blocks of rising size with one more, unless one of its size is there
abbrev pub with_block : Block → List Block → List Block
with_block b [] = b ∷ []
with_block b (c ∷ cs) = if nat_lt b.size c.size then b ∷ (c ∷ cs) else if nat_lt c.size b.size then c ∷ with_block b cs else c ∷ cs
