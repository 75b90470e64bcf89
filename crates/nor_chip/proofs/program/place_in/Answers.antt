-- The place by its parts.
use Rattle.std.proofs.Common.{ap, ◌+◌}
use Rattle.std.proofs.Math.Nat.{add-mod-mod}
use Rattle.nor_chip.proofs.program.place_in.Goals as goal

pub returns-clause-value : goal.returns-clause-value
returns-clause-value c =
    rw (c.remainder-2.ensures, c.remainder.ensures) (ap (λ n. c.args.start + n) (add-mod-mod c.args.offset c.args.index c.args.page))
