-- The legal blocks that a strategy may take (this project's; legal blocks are JESD216B's).
use Rattle.std.specs.Prelude.{◌≡◌, ℕ, true, ◌<◌, ◌≤◌, List, All, AllPairs, Any}
use Rattle.nor_base.specs.declared.meaning.Strategy.{Strategy}
use Rattle.nor_base.specs.Parameters.{Parameters}
use Rattle.nor_base.specs.Blocks.{Block, Holds, IsLegalBlock}
use Rattle.nor_base.specs.Strategies.{reaches}

-- a legal block that holds the address, and for which the strategy has an erase
pub record IsReachedAt (m : Parameters) (by : Strategy) (a : ℕ) (b : Block) : Type 0 where
  pub legal : IsLegalBlock m b
  pub here : Holds b a
  pub reached : reaches by m b.kind b.start ≡ true

-- and none of a lower kind has its size
pub record IsListedAt (m : Parameters) (by : Strategy) (a : ℕ) (b : Block) : Type 0 where
  pub is : IsReachedAt m by a b
  pub lowest : (c : Block) → IsReachedAt m by a c → c.size ≡ b.size → b.kind ≤ c.kind

-- a block of each size that is reached there, of the lowest kind, rising in size
pub record AreLegalAt (m : Parameters) (by : Strategy) (a : ℕ) (blocks : List Block) : Type 0 where
  pub each : All (IsListedAt m by a) blocks
  pub all : (c : Block) → IsReachedAt m by a c → Any (λ b. b.size ≡ c.size) blocks
  pub rising : AllPairs (λ b c. b.size < c.size) blocks

-- the smallest of them
pub record IsSmallestAt (m : Parameters) (by : Strategy) (a : ℕ) (b : Block) : Type 0 where
  pub listed : IsListedAt m by a b
  pub least : (c : Block) → IsReachedAt m by a c → b.size ≤ c.size
