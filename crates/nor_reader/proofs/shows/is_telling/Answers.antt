-- Few bytes tell nothing.
use Rattle.std.proofs.Common.{◌≤◌, length, arith}
use Rattle.nor_reader.proofs.TellingLemmas.{few_tell}
use Rattle.nor_reader.proofs.shows.is_telling.Goals as goal

pub returns-then-piece-lt3 : goal.returns-then-piece-lt3
returns-then-piece-lt3 c =
    let few : length c.args.piece.now ≤ 3 = omega (arith, c.if-piece-lt3.true) in (λ clash. absurd (cc), λ telling. absurd (few_tell c.args.piece.now few telling))
