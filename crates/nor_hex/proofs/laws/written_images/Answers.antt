-- The image of a written text is that of its bytes.
use Rattle.std.proofs.Common.{refl}
use Rattle.nor_hex.proofs.ReadLemmas.{just_back}
use Rattle.nor_hex.specs.WrittenSegments.{hex_text}
use Rattle.nor_hex.proofs.laws.written_images.Goals as goal

pub returns : goal.returns
returns c = λ at bytes image all fits is. just_back at bytes fits all c.records-records.ensures.record (hex_text at bytes) image refl is
