-- The reads so far were added, and fit.
use Rattle.std.proofs.Common.{◌≡◌, ◌≤◌, ◌++◌, length}
use Rattle.std.specs.Prelude.{min}
use Rattle.nor_serprog.specs.Follow.{most_bytes, status_requests}
use Rattle.nor_serprog.proofs.put.add_reads.Given as goal

abbrev pub invariant-loop : goal.invariant-loop
invariant-loop l = record {
  added : l.requests.items ≡ l.initial.requests.items ++ status_requests l.reads;
  count : l.reads ≡ l.counter;
  fits : length l.initial.requests.items ≤ min l.ahead most_bytes → length l.requests.items ≤ min l.ahead most_bytes;
}
