-- What of a chip decides whether it takes an instruction (this project's).
use Rattle.std.specs.Prelude.{◌≡◌}
use Rattle.nor_base.specs.Chip.{Setting, Chip, is_busy}
use Rattle.nor_chip.specs.declared.rules.State.{State}

-- a chip whose meaning, quad enable bit, page, busy bit, write enable latch and array are those of the state
pub record IsIn (state : State) (s : Setting) (c : Chip) : Type 0 where
  pub its_meaning : s.meaning ≡ state.meaning.now
  pub its_quad : s.start.quad ≡ state.quad
  pub its_page : s.page ≡ state.page
  pub its_busy : is_busy c.left ≡ state.busy
  pub its_latch : c.latch ≡ state.latch
  pub its_array : c.array ≡ state.array.now
