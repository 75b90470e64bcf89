use Rattle.std.proofs.Common.{List, ℕ, length}
use denote.Shadow.{shadow}
use denote.Text.{Utf8}
use Rattle.norprog_files.specs.Terminal.{HasLine}
use Rattle.norprog_files.proofs.terminal.is_listed.Given as goal

abbrev pub invariant-loop-driver : goal.invariant-loop-driver
invariant-loop-driver l = record { text : shadow (Utf8 l.drivers); lines : (line : List ℕ) → HasLine line l.drivers → HasLine line l.initial.drivers }

abbrev pub decreases-loop-driver : goal.decreases-loop-driver
decreases-loop-driver l = length l.drivers
