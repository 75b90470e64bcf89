-- The windows so far are done.
use Rattle.std.proofs.Common.{◌≡◌, ◌<◌, ◌≤◌, ◌%◌, ◌-◌, length}
use Rattle.norprog.specs.Windows.{first_writing, progress, window_of, IsDone}
use Rattle.norprog.proofs.windows.write_windows.Given as goal

abbrev pub invariant-loop-at : goal.invariant-loop-at
invariant-loop-at g l = record {
  done : IsDone (g.T.WorkWriter.unit_text l.fn.writer) (window_of l.job 0 l.at) (progress (first_writing l.job) (g.W.ByteOut.held l.fn.out) (g.R.ByteIn.ahead l.fn.content)) (progress (g.T.WorkWriter.writing l.writer) (g.W.ByteOut.held l.out) (g.R.ByteIn.ahead l.content)) l.told;
  text : g.T.WorkWriter.unit_text l.writer ≡ g.T.WorkWriter.unit_text l.fn.writer;
  room : length l.have ≡ l.window;
  room' : length l.want ≡ l.window;
  size : l.window ≡ length l.fn.have;
  aligned : l.at < l.job.meaning.size → l.at % l.window ≡ 0;
  within : l.at ≤ l.job.meaning.size;
  reads : g.R.ByteIn.count l.content ≡ g.R.ByteIn.count l.fn.content;
  writes : g.W.ByteOut.count l.out ≡ g.W.ByteOut.count l.fn.out;
}

abbrev pub decreases-loop-at : goal.decreases-loop-at
decreases-loop-at g l = l.job.meaning.size - l.at
