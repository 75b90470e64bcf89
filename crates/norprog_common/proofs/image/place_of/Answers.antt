-- Five digits at least, and the number that they spell.
use Rattle.std.proofs.Common.{◌∙◌, sym}
use Rattle.norprog_common.proofs.ImageLemmas.{by_address, by_few, by_name}
use Rattle.norprog_common.proofs.image.place_of.Goals as goal

pub returns-then-text-lt-FEWEST_DIGITS : goal.returns-then-text-lt-FEWEST_DIGITS
returns-then-text-lt-FEWEST_DIGITS c = by_few c.args.text.now c.if-text-lt-FEWEST_DIGITS.true

pub returns-in-Some : goal.returns-in-Some
returns-in-Some c = by_address c.args.text.now c.in-Some.at c.if-text-lt-FEWEST_DIGITS.false (sym c.base.ensures ∙ c.in-Some.is)

pub returns-in-None : goal.returns-in-None
returns-in-None c = by_name c.args.text.now c.if-text-lt-FEWEST_DIGITS.false (sym c.base.ensures ∙ c.in-None.is)
