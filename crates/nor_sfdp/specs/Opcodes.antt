-- Which opcodes a chip's own instructions have.
use Rattle.std.specs.Prelude.{ℕ, suc, Bool, true, List, [], ◌∷◌, ◌++◌, Option, Some, None}
use Rattle.std.specs.List.{list_any}
use Rattle.std.specs.Option.{option_map_or}
use Rattle.nor_base.specs.declared.meaning.Erase.{Erase}
use Rattle.nor_base.specs.declared.meaning.QuadRead.{QuadRead}
use Rattle.nor_base.specs.declared.meaning.Region.{Region}
use Rattle.nor_base.specs.Parameters.{allows}
use Rattle.nor_base.specs.Accepted.{fixed_opcodes}

-- some region allows the kind
abbrev pub is_allowed : List Region → ℕ → Bool
is_allowed regions kind = list_any (λ region. allows region kind) regions

-- the opcodes of a kind: op and, where it has one, op4 of a kind that some region allows; none of one that is absent or that no
-- region allows
abbrev pub kind_opcodes : Option Erase → Bool → List ℕ
kind_opcodes (Some erase) true = erase.op ∷ option_map_or (λ op4. op4 ∷ []) erase.op4 []
kind_opcodes slot allowed = []

-- the opcodes of the kinds that are live, the first of the slots being kind k
abbrev pub live_opcodes : List Region → ℕ → List (Option Erase) → List ℕ
live_opcodes regions k [] = []
live_opcodes regions k (slot ∷ slots) = kind_opcodes slot (is_allowed regions k) ++ live_opcodes regions (suc k) slots

-- the opcode of the quad read; none where there is no quad read
abbrev pub read_opcodes : Option QuadRead → List ℕ
read_opcodes None = []
read_opcodes (Some read) = read.op ∷ []

-- the fixed opcodes, that of the quad read, and those of the live kinds
abbrev pub own_opcodes : Option QuadRead → List (Option Erase) → List Region → List ℕ
own_opcodes read kinds regions = fixed_opcodes ++ (read_opcodes read ++ live_opcodes regions 1 kinds)

-- the fixed opcodes, and those of the live kinds
abbrev pub taken_opcodes : List (Option Erase) → List Region → List ℕ
taken_opcodes kinds regions = fixed_opcodes ++ live_opcodes regions 1 kinds
