-- What has to be erased (this project's).
use Rattle.std.specs.Prelude.{ℕ, Bool, false, ◌==◌, not, ◌&&◌, ◌||◌, if◌then◌else◌, List, Option, Some, None, is_some, slice_index}
use Rattle.std.specs.List.{list_all, list_any, range_with_len}
use Rattle.std.specs.Option.{option_map_or}
use Rattle.nor_base.specs.declared.meaning.Strategy.{Strategy}
use Rattle.nor_base.specs.declared.meaning.Strategy.TheVariants.{S1, S2, S3, S4, S5}
use Rattle.nor_base.specs.Parameters.{Parameters}
use Rattle.nor_base.specs.Array.{each}
use Rattle.nor_base.specs.Blocks.{Block, block_holds, block_at, larger_of, best_of, kinds, smallest}
use Rattle.nor_base.specs.Effect.{may_program}
use Rattle.nor_base.specs.Strategies.{is_far, reaches}

-- the byte at an address isn't its target
abbrev pub differs : List ℕ → List ℕ → ℕ → Bool
differs have want a = not (slice_index have a == slice_index want a)

-- the byte has to change, and no program may do it: an erase must come first. On most chips so it is where a bit must
-- rise, 0 in the content and 1 in the target
abbrev pub is_due : Parameters → List ℕ → List ℕ → ℕ → Bool
is_due m have want a = differs have want a && not (may_program m (slice_index have a) (slice_index want a))

-- the needed area: the smallest legal blocks of the addresses that are due
unfoldable pub is_needed : Parameters → (ℕ → Bool) → ℕ → Bool
is_needed m due a = list_any (λ cause. due cause && option_map_or (block_holds a) (smallest m cause) false) (range_with_len 0 m.size)

-- each address of a block is needed
unfoldable pub lies_in_needed : Parameters → (ℕ → Bool) → Block → Bool
lies_in_needed m due b = list_all (is_needed m due) (range_with_len b.start b.size)

abbrev pub kept_if : (Block → Bool) → Option Block → Option Block
kept_if test None = None
kept_if test (Some b) = if test b then Some b else None

-- the kind's legal block at an address, where the strategy reaches it and it lies in the needed area
abbrev pub erasable : Parameters → Strategy → (ℕ → Bool) → ℕ → ℕ → Option Block
erasable m by due a kind = kept_if (λ b. reaches by m b.kind b.start && lies_in_needed m due b) (block_at m a kind)

-- the erased block that holds an address, if one does: the largest of those, the lowest kind among equals
unfoldable pub erased_at : Parameters → Strategy → (ℕ → Bool) → ℕ → Option Block
erased_at m by due a = best_of larger_of (erasable m by due a) kinds

-- the content with FFh over the erased blocks
unfoldable pub levelled : Parameters → Strategy → (ℕ → Bool) → List ℕ → List ℕ
levelled m by due have = each (λ a old. if is_some (erased_at m by due a) then 255 else old) have

-- the strategy reaches no address past three address bytes
abbrev pub is_beyond : Strategy → ℕ → Bool
is_beyond S1 a = false
is_beyond S2 a = false
is_beyond S3 a = false
is_beyond S4 a = false
is_beyond S5 a = is_far a

-- an address at fault: the strategy can't reach a byte that differs, or, where it reaches, no legal block holds one that
-- is due
abbrev pub is_unreachable : Strategy → List ℕ → List ℕ → ℕ → Bool
is_unreachable by have want a = is_beyond by a && differs have want a

unfoldable pub lacks_erase : Parameters → Strategy → List ℕ → List ℕ → ℕ → Bool
lacks_erase m by have want a = not (is_beyond by a) && (is_due m have want a && not (is_some (smallest m a)))

abbrev pub is_at_fault : Parameters → Strategy → List ℕ → List ℕ → ℕ → Bool
is_at_fault m by have want a = is_unreachable by have want a || lacks_erase m by have want a
