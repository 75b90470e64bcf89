-- The words come after the number.
use Rattle.nor_listing.proofs.NoneLemmas.{with_number}
use Rattle.nor_listing.proofs.reader.read_line.Goals as goal

pub returns-in-Some : goal.returns-in-Some
returns-in-Some c =
    with_number c.args.meaning.now c.args.number c.args.mode4 c.args.line.now c.in-Some.words.now c.in-Some.ensures c.read_words.result c.read_words.ensures
