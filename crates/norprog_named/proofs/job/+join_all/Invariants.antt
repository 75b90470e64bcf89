-- The files that are left grow fewer.
use Rattle.std.proofs.Common.{length}
use Rattle.norprog_named.proofs.job.+join_all.Given as goal

abbrev pub decreases-join_all : goal.decreases-join_all
decreases-join_all g l = length l.more.now
