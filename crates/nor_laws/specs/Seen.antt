-- Values of what is seen in runs, worked out by hand, on the chip of 32 bytes.
use Rattle.std.specs.Prelude.{◌≡◌, true, false, List, [], ◌∷◌, ◌++◌, replicate, map, codes}
use Rattle.nor_base.specs.declared.meaning.Switch.TheVariants.{Plain}
use Rattle.nor_base.specs.declared.step.Step.{Step}
use Rattle.nor_base.specs.declared.step.Step.TheVariants.{Send}
use Rattle.nor_base.specs.Chip.{Setting, ready}
use Rattle.nor_base.specs.Events.{events, is_erased_by, IsVerified}
use Rattle.nor_laws.specs.Worked.{tiny_chip, blank, enable, poll, program_at_5, one_byte_at_5}

-- busy for two status reads
abbrev pub busy_chip : Setting
busy_chip = tiny_chip Plain (2 ∷ []) false

abbrev pub one_program : List Step
one_program = enable ∷ program_at_5 ∷ poll ∷ []

-- one transaction for a step that is sent, three for a poll with two status reads left
abbrev pub StepsSeen : Type 0
StepsSeen = map (λ e. e.step) (events busy_chip (ready busy_chip blank) one_program) ≡ 0 ∷ 1 ∷ 2 ∷ 2 ∷ 2 ∷ []

-- the second block erased, and no address before or after it
abbrev pub second_erase : List Step
second_erase = enable ∷ Send (codes "00100001" ++ codes "00000000000000000000000000010000") ∷ []

abbrev pub SecondErased : Type 0
SecondErased = map (is_erased_by busy_chip (events busy_chip (ready busy_chip (replicate 32 0)) second_erase)) (15 ∷ 16 ∷ 31 ∷ 32 ∷ [])
    ≡ false ∷ true ∷ true ∷ false ∷ []

-- a program that nothing reads later isn't verified
abbrev pub UnreadIsNotVerified : Type 0
UnreadIsNotVerified = IsVerified busy_chip blank one_byte_at_5 one_program → ⊥
