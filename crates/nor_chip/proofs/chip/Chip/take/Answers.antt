-- Each instruction does what its kind says.
use Rattle.std.proofs.Common.{◌≡◌, ◌+◌, true, refl, sym, ◌∙◌, ap, arith, length, replicate, slice_range, inl, inr}
use Rattle.nor_base.specs.declared.instruction.What.TheVariants as what
use Rattle.nor_base.specs.Effect.{after, answer, status, is_program, is_read}
use Rattle.nor_base.specs.Port.{Shown}
use Rattle.nor_chip.specs.Sent.{instruction_of}
use Rattle.nor_chip.proofs.RangeLemmas.{erase_in_range, program_in_range, read_in_range}
use Rattle.nor_chip.proofs.TakeLemmas.{taken, done, nothing_given}
use Rattle.nor_chip.proofs.chip.Chip.take.Goals as goal

pub read-requires : goal.read-requires
read-requires c =
    let whole : length c.args.self.now.chip.array ≡ c.args.self.now.setting.meaning.size =
    sym (ap (λ (v : Shown). length v.chip.array) c.self.view_is) ∙ c.self.invariant.0 ∙ ap (λ (v : Shown). v.setting.meaning.size) c.self.view_is in
    let range = (taken c.args.self.now.setting c.args.self.now.chip (instruction_of c.args.seen.now) c.requires.taken).in_range in
    let reads : is_read c.args.seen.now.what ≡ true = elim c.in-Read.is [ inl one ↦ ap is_read one | inr four ↦ ap is_read four ] in
    omega (arith, whole, c.requires.room, read_in_range c.args.self.now.setting.meaning (instruction_of c.args.seen.now) reads range)

pub erase-requires : goal.erase-requires
erase-requires c =
    erase_in_range c.args.self.now.setting.meaning (instruction_of c.args.seen.now) c.in-Erase.kind c.in-Erase.is
    (taken c.args.self.now.setting c.args.self.now.chip (instruction_of c.args.seen.now) c.requires.taken).in_range

pub program-requires-clause-inside : goal.program-requires-clause-inside
program-requires-clause-inside c =
    let whole : length c.args.self.now.chip.array ≡ c.args.self.now.setting.meaning.size =
    sym (ap (λ (v : Shown). length v.chip.array) c.self.view_is) ∙ c.self.invariant.0 ∙ ap (λ (v : Shown). v.setting.meaning.size) c.self.view_is in
    let range = (taken c.args.self.now.setting c.args.self.now.chip (instruction_of c.args.seen.now) c.requires.taken).in_range in
    let programs : is_program c.args.seen.now.what ≡ true = elim c.in-Program.is [ inl one ↦ ap is_program one | inr four ↦ ap is_program four ] in
    omega (arith, whole, program_in_range c.args.self.now.setting.meaning (instruction_of c.args.seen.now) programs range)

pub returns-in-Enable-clause-effect : goal.returns-in-Enable-clause-effect
unfolding after
returns-in-Enable-clause-effect c =
    done c.args.self.now.setting c.args.self.now.chip c.set_latch.new.self.chip (instruction_of c.args.seen.now) what.Enable c.args.out.now c.requires.taken c.in-Enable.is
    c.set_latch.ensures.chip (nothing_given c.args.self.now.chip c.args.seen.now what.Enable c.args.out.now refl c.in-Enable.is c.requires.room)

pub returns-in-Disable-clause-effect : goal.returns-in-Disable-clause-effect
unfolding after
returns-in-Disable-clause-effect c =
    done c.args.self.now.setting c.args.self.now.chip c.set_latch-in-Disable.new.self.chip (instruction_of c.args.seen.now) what.Disable c.args.out.now c.requires.taken c.in-Disable.is
    c.set_latch-in-Disable.ensures.chip (nothing_given c.args.self.now.chip c.args.seen.now what.Disable c.args.out.now refl c.in-Disable.is c.requires.room)

pub returns-in-Enter-clause-effect : goal.returns-in-Enter-clause-effect
unfolding after
returns-in-Enter-clause-effect c =
    done c.args.self.now.setting c.args.self.now.chip c.switch_mode.new.self.chip (instruction_of c.args.seen.now) what.Enter c.args.out.now c.requires.taken c.in-Enter.is
    c.switch_mode.ensures.chip (nothing_given c.args.self.now.chip c.args.seen.now what.Enter c.args.out.now refl c.in-Enter.is c.requires.room)

pub returns-in-Leave-clause-effect : goal.returns-in-Leave-clause-effect
unfolding after
returns-in-Leave-clause-effect c =
    done c.args.self.now.setting c.args.self.now.chip c.switch_mode-in-Leave.new.self.chip (instruction_of c.args.seen.now) what.Leave c.args.out.now c.requires.taken c.in-Leave.is
    c.switch_mode-in-Leave.ensures.chip (nothing_given c.args.self.now.chip c.args.seen.now what.Leave c.args.out.now refl c.in-Leave.is c.requires.room)

pub returns-in-Status-clause-effect : goal.returns-in-Status-clause-effect
unfolding after answer
returns-in-Status-clause-effect c =
    done c.args.self.now.setting c.args.self.now.chip c.read_status.new.self.chip (instruction_of c.args.seen.now) what.Status c.read_status.new.out c.requires.taken c.in-Status.is
    c.read_status.ensures.chip (c.read_status.ensures.bytes ∙ ap (λ n. replicate n (status c.args.self.now.chip)) c.requires.room)

pub returns-in-Read-clause-effect : goal.returns-in-Read-clause-effect
unfolding after answer
returns-in-Read-clause-effect c =
    let given : c.read.new.out ≡ slice_range c.args.self.now.chip.array c.args.seen.now.address (c.args.seen.now.address + (instruction_of c.args.seen.now).asked) =
    c.read.ensures ∙ ap (λ n. slice_range c.args.self.now.chip.array c.args.seen.now.address (c.args.seen.now.address + n)) c.requires.room in
    elim c.in-Read.is [
      | inl is ↦ done c.args.self.now.setting c.args.self.now.chip c.args.self.now.chip (instruction_of c.args.seen.now) what.Read c.read.new.out c.requires.taken is refl given
      | inr is ↦ done c.args.self.now.setting c.args.self.now.chip c.args.self.now.chip (instruction_of c.args.seen.now) what.QuadRead c.read.new.out c.requires.taken is refl given
    ]

pub returns-in-Erase-clause-effect : goal.returns-in-Erase-clause-effect
unfolding after
returns-in-Erase-clause-effect c =
    done c.args.self.now.setting c.args.self.now.chip c.erase.new.self.chip (instruction_of c.args.seen.now) (what.Erase c.in-Erase.kind) c.args.out.now c.requires.taken c.in-Erase.is
    c.erase.ensures.chip (nothing_given c.args.self.now.chip c.args.seen.now (what.Erase c.in-Erase.kind) c.args.out.now refl c.in-Erase.is c.requires.room)

pub returns-in-Program-clause-effect : goal.returns-in-Program-clause-effect
unfolding after
returns-in-Program-clause-effect c = elim c.in-Program.is [
  | inl is ↦
      done c.args.self.now.setting c.args.self.now.chip c.program.new.self.chip (instruction_of c.args.seen.now) what.Program c.args.out.now c.requires.taken is c.program.ensures.chip
      (nothing_given c.args.self.now.chip c.args.seen.now what.Program c.args.out.now refl is c.requires.room)
  | inr is ↦
      done c.args.self.now.setting c.args.self.now.chip c.program.new.self.chip (instruction_of c.args.seen.now) what.QuadProgram c.args.out.now c.requires.taken is c.program.ensures.chip
      (nothing_given c.args.self.now.chip c.args.seen.now what.QuadProgram c.args.out.now refl is c.requires.room)
]

pub returns-in-Broken-clause-effect : goal.returns-in-Broken-clause-effect
unfolding after
returns-in-Broken-clause-effect c =
    done c.args.self.now.setting c.args.self.now.chip c.args.self.now.chip (instruction_of c.args.seen.now) what.Broken c.args.out.now c.requires.taken c.in-Broken.is
    refl (nothing_given c.args.self.now.chip c.args.seen.now what.Broken c.args.out.now refl c.in-Broken.is c.requires.room)
