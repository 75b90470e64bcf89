-- Neither by three address bytes nor by four.
use Rattle.nor_listing.proofs.NoneLemmas.{both_widths}
use Rattle.nor_listing.proofs.reader.read_words.Goals as goal

pub returns-in-None : goal.returns-in-None
returns-in-None c =
    both_widths c.args.meaning.now c.args.mode4 c.args.words.now _ c.read_as-in-None.result (rw c.in-None.is at c.in_ok-read.ensures) c.read_as-in-None.ensures
