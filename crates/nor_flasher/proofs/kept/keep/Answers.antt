-- The bytes of the clocks, and then those expected.
use Rattle.std.proofs.Common.{◌++◌, ◌∙◌, ap}
use Rattle.nor_base.specs.Decoding.{bytes_of_bits}
use Rattle.nor_script.specs.View.{step_of}
use Rattle.nor_flasher.specs.Packed.{step_with, packed_mark, symbols_mark}
use Rattle.nor_flasher.proofs.PackedLemmas.{keeps_packed, keeps_symbols, keeps_by, kept_both}
use Rattle.nor_flasher.proofs.kept.keep.Goals as goal
use Rattle.nor_flasher.proofs.kept.keep.Goals.{in-Some+in_ok-mark-in-Some, in-None+in_ok-mark-in-None}

pub returns-clause-kept : goal.returns-clause-kept
returns-clause-kept c =
    let kind = c.parts-kind.result.0 in
    let clocks = c.parts-kind.result.1.now in
    let expect = c.parts-kind.result.2.now in
    let old = c.args.bytes.now.items in
    let new = c.extend_from_slice.new.self.items in
    let mark = c.match-packable.mark in
    let step = step_of c.args.step in
    elim c.match-packable.branch [
      | in-Some+in_ok-mark-in-Some w ↦
          let sent = bytes_of_bits w.in-Some.bits.now in
          let asked = w.in-Some.asked in (
            sent ++ expect,
            kept_both old c.match-packable.bytes.items new sent expect (ap (λ b. b.items) w.bytes-is ∙ w.in_ok-mark-in-Some.ensures.bytes) c.in_ok-extend_from_slice.ensures.items,
            keeps_by mark (packed_mark kind sent asked) (sent ++ expect) step (step_with kind clocks expect) (w.mark-is ∙ w.in_ok-mark-in-Some.ensures.mark) c.parts-kind.ensures.step
                (keeps_packed kind sent asked clocks expect w.in-Some.ensures.spelled (λ is. w.in-Some.ensures.asked is ∙ c.in_ok-expected.ensures) c.parts-kind.ensures.none),
          )
      | in-None+in_ok-mark-in-None w ↦ (
        clocks ++ expect,
        kept_both old c.match-packable.bytes.items new clocks expect (ap (λ b. b.items) w.bytes-is ∙ w.in_ok-mark-in-None.ensures.bytes) c.in_ok-extend_from_slice.ensures.items,
        keeps_by mark (symbols_mark kind clocks c.in_ok-expected.expected) (clocks ++ expect) step (step_with kind clocks expect) (w.mark-is ∙ w.in_ok-mark-in-None.ensures.mark)
            c.parts-kind.ensures.step (keeps_symbols kind clocks expect c.in_ok-expected.expected c.in_ok-expected.ensures c.parts-kind.ensures.none),
      )
    ]
