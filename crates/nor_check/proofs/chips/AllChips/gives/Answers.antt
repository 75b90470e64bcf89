-- A read's bytes, or none.
use Rattle.std.proofs.Common.{◌≡◌, [], false, true, ◌+◌, sym, ◌∙◌, ap, arith, length, slice_range, inl, inr}
use Rattle.std.specs.Str.{bytes_eq}
use Rattle.nor_base.specs.declared.instruction.What.{What}
use Rattle.nor_base.specs.Effect.{answer, is_read}
use Rattle.nor_chip.specs.Sent.{instruction_of}
use Rattle.nor_chip.proofs.RangeLemmas.{read_in_range}
use Rattle.nor_chip.proofs.TakeLemmas.{taken}
use Rattle.nor_check.specs.Chips.{Together, one_like, least_able}
use Rattle.nor_check.proofs.Seeing.{read_count, gives_none, empty_is}
use Rattle.nor_check.proofs.chips.AllChips.gives.Goals as goal

pub holds-requires : goal.holds-requires
holds-requires c =
    let whole : length c.args.self.now.chips.array ≡ c.args.self.now.kind.meaning.size =
    sym (ap (λ (v : Together). length v.chips.array) c.self.view_is) ∙ c.self.invariant.0 ∙ ap (λ (v : Together). v.kind.meaning.size) c.self.view_is in
    let range = (taken (one_like c.args.self.now.kind [] false) (least_able c.args.self.now.chips) (instruction_of c.args.seen.now) c.requires.taken).in_range in
    let reads : is_read c.args.seen.now.what ≡ true = elim c.in-Read.is [ inl one ↦ ap is_read one | inr four ↦ ap is_read four ] in
    let count : c.count.result ≡ (instruction_of c.args.seen.now).asked = c.count.ensures ∙ read_count c.args.seen.now reads in
    omega (arith, whole, count, read_in_range c.args.self.now.kind.meaning (instruction_of c.args.seen.now) reads range)

pub returns-in-Read : goal.returns-in-Read
unfolding answer
returns-in-Read c =
    let reads : is_read c.args.seen.now.what ≡ true = elim c.in-Read.is [ inl one ↦ ap is_read one | inr four ↦ ap is_read four ] in
    let count : c.count.result ≡ (instruction_of c.args.seen.now).asked = c.count.ensures ∙ read_count c.args.seen.now reads in
    let held : c.holds.result
    ≡ bytes_eq (slice_range c.args.self.now.chips.array c.args.seen.now.address (c.args.seen.now.address + (instruction_of c.args.seen.now).asked)) c.args.expect.now =
    c.holds.ensures ∙ ap (λ n. bytes_eq (slice_range c.args.self.now.chips.array c.args.seen.now.address (c.args.seen.now.address + n)) c.args.expect.now) count in
    elim c.in-Read.is [
      | inl is ↦ held ∙ ap (λ (w : What). bytes_eq (answer (least_able c.args.self.now.chips) (instruction_of c.args.seen.now) w) c.args.expect.now) (sym is)
      | inr is ↦ held ∙ ap (λ (w : What). bytes_eq (answer (least_able c.args.self.now.chips) (instruction_of c.args.seen.now) w) c.args.expect.now) (sym is)
    ]

pub returns-in_default : goal.returns-in_default
returns-in_default c =
    c.is_empty.ensures ∙ empty_is c.args.expect.now
    ∙ ap (λ bytes. bytes_eq bytes c.args.expect.now)
    (sym (gives_none (least_able c.args.self.now.chips) (instruction_of c.args.seen.now) c.args.seen.now.what c.in_default.not-Read c.in_default.not-QuadRead c.requires.quiet))
