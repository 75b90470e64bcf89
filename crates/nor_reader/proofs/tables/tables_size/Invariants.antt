-- How far the headers so far reach.
use Rattle.std.proofs.Common.{◌≡◌}
use Rattle.nor_reader.specs.Known.{greatest}
use Rattle.nor_reader.proofs.KnownLemmas.{ends_before}
use Rattle.nor_reader.proofs.tables.tables_size.Given as goal

abbrev pub invariant-loop-i : goal.invariant-loop-i
invariant-loop-i l = l.reach ≡ greatest (ends_before l.headers l.i)
