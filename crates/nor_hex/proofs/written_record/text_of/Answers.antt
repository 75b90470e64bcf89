-- Two digits more.
use Rattle.std.proofs.Common.{◌≡◌, ◌+◌, ◌∷◌, ◌++◌, [], ◌∙◌, get_or, take, sym, ap, arith}
use Rattle.std.proofs.lemmas.List.{take_more}
use Rattle.hex.specs.Hex.{encode_upper}
use Rattle.nor_hex.proofs.DigitLemmas.{no_bytes, digits_added}
use Rattle.nor_hex.proofs.written_record.text_of.Goals as goal

pub loop-byte-init : goal.loop-byte-init
loop-byte-init c = record {
  spelled = c.push.ensures.items ∙ ap (λ t. t ++ 0x3A ∷ []) c.new-text.ensures ∙ ap (λ t. 0x3A ∷ t) (sym no_bytes);
  few = grind (arith, c.push.ensures.len, c.new-text.ensures);
}

pub loop-byte-preserved : goal.loop-byte-preserved
loop-byte-preserved c =
    let bytes = c.args.bytes.now in
    let i = c.loop-byte.byte-index in
    let more : take (i + 1) bytes ≡ take i bytes ++ get_or bytes i 0 ∷ [] = take_more bytes i 0 c.loop-byte-test.true in
    record {
      spelled =
          c.push-in-loop-byte-2.ensures.items ∙ ap (λ front. front ++ c.digit-in-loop-byte.result ∷ []) c.push-in-loop-byte.ensures.items
          ∙ digits_added c.loop-byte.text.items (take i bytes) (get_or bytes i 0) c.digit.result c.digit-in-loop-byte.result c.loop-byte.invariant.spelled c.digit.ensures c.digit-in-loop-byte.ensures
          ∙ ap (λ bs. 0x3A ∷ encode_upper bs) (sym more);
      few = omega (arith, c.push-in-loop-byte-2.ensures.len, c.push-in-loop-byte.ensures.len, c.loop-byte.invariant.few);
    }
