-- The content of a chip that came twice alike (this project's).
use Rattle.std.specs.Prelude.{◌≡◌, ℕ, Bool, List, length}
use Rattle.nor_base.specs.Chip.{begins4}
use Rattle.nor_reader.specs.Laws.{GivesBy, KnowsContent}
use Rattle.nor_reader.specs.Telling.{KnowsMode}
use Rattle.nor_reader.specs.Twice.{ReadTwice}
use Rattle.nor_base.specs.Wire.{Wire}
use Rattle.norprog_read.specs.Span.{came}
use Rattle.norprog_read.specs.Way.{first_of, twice_of, Way}

-- a byte for each address; those of the part came by just these two readings, each read of no more than so many bytes. They are what every
-- ready chip of the meaning and the start holds there, whatever its quad setting, that would have given these answers; and what every chip
-- holds there that gives them, in whichever address mode it was as the readings began, which was the one that was said. Where the mode is sure
-- it was that one
pub record HoldsPart (w : Way) (before after : Wire) (content : List ℕ) : Type 0 where
  pub whole : length content ≡ w.m.size
  pub way : GivesBy w.m w.start (first_of w)
  pub known : (quad : Bool) → KnowsContent before after w.m (record w.start { quad = quad }) (came w.part content)
  pub twice : ReadTwice (twice_of w) before after (came w.part content)
  pub mode : KnowsMode before after w.sure (begins4 w.m w.start) (came w.part content)
