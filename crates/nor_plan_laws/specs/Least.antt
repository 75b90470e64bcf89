-- Laws of what is erased.
use Rattle.std.specs.Prelude.{◌≡◌, ◌⊎◌, ℕ, Bool, true, List, ◌++◌, Option, Some, is_some}
use Rattle.nor_base.specs.declared.meaning.Start.{Start}
use Rattle.nor_base.specs.declared.meaning.Strategy.{Strategy}
use Rattle.nor_base.specs.declared.step.Step.{Step}
use Rattle.nor_base.specs.Parameters.{Parameters}
use Rattle.nor_base.specs.Accepted.{IsAccepted}
use Rattle.nor_base.specs.Blocks.{Block, Holds, AreDisjoint, LiesIn, IsLegalBlock}
use Rattle.nor_base.specs.Chip.{Setting, IsChipOf, ready}
use Rattle.nor_base.specs.Run.{DoesTask}
use Rattle.nor_base.specs.Strategies.{strategy, reaches}
use Rattle.nor_base.specs.Need.{is_due, is_needed, erased_at}
use Rattle.nor_base.specs.Units.{units_over}
use Rattle.nor_base.specs.Events.{events, is_erased_by}
use Rattle.nor_base.specs.Planned.{IsWorkable}

-- an address is erased exactly where it is needed
abbrev pub ErasesNeeded : Type 0
ErasesNeeded = (m : Parameters) (start : Start) (have want : List ℕ) (a : ℕ) → IsWorkable m start have want
    → is_some (erased_at m (strategy m start) (is_due m have want) a) ≡ is_needed m (is_due m have want) a

-- an erased block is legal, the strategy reaches it, it holds its address, and it is the block of each address that it holds
pub record IsErased (m : Parameters) (by : Strategy) (due : ℕ → Bool) (a : ℕ) (b : Block) : Type 0 where
  pub legal : IsLegalBlock m b
  pub reached : reaches by m b.kind b.start ≡ true
  pub here : Holds b a
  pub whole : (x : ℕ) → Holds b x → erased_at m by due x ≡ Some b

abbrev pub ErasesBlocks : Type 0
ErasesBlocks = (m : Parameters) (by : Strategy) (due : ℕ → Bool) (a : ℕ) (b : Block) → IsAccepted m → erased_at m by due a ≡ Some b → IsErased m by due a b

-- two erased blocks are apart, or one
abbrev pub ErasesApart : Type 0
ErasesApart = (m : Parameters) (by : Strategy) (due : ℕ → Bool) (a x : ℕ) (b c : Block) → IsAccepted m
    → erased_at m by due a ≡ Some b → erased_at m by due x ≡ Some c → AreDisjoint b c ⊎ (b ≡ c)

-- each legal block that the strategy reaches inside the needed area lies in one erased block
abbrev pub ErasesLargest : Type 0
ErasesLargest = (m : Parameters) (by : Strategy) (due : ℕ → Bool) (c : Block) → IsAccepted m → IsLegalBlock m c → reaches by m c.kind c.start ≡ true
    → ((x : ℕ) → Holds c x → is_needed m due x ≡ true) → (b : Block) × (erased_at m by due c.start ≡ Some b) × LiesIn c b

-- two stretches of pages side by side
abbrev pub UnitsJoin : Type 0
UnitsJoin = (m : Parameters) (level want : List ℕ) (erased : ℕ → Option Block) (first second : List ℕ)
    → units_over m level want erased (first ++ second) ≡ units_over m level want erased first ++ units_over m level want erased second

-- no script erases less: a run that does the task, of any steps on any chip, erases each needed address
abbrev pub NoScriptErasesLess : Type 0
NoScriptErasesLess = (m : Parameters) (start : Start) (s : Setting) (have want : List ℕ) (steps : List Step) (a : ℕ) → IsAccepted m → IsChipOf m start s
    → DoesTask s have want steps → is_needed m (is_due m have want) a ≡ true → is_erased_by s (events s (ready s have) steps) a ≡ true
