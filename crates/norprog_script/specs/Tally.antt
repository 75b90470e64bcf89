-- What is printed of a script of a log (this project's).
use Rattle.std.specs.Prelude.{List, ℕ, ◌++◌, codes, decimal}
use Rattle.nor_base.specs.Script.{closed}
use Rattle.norprog_script.specs.declared.tally.Tally.{Tally}

-- `steps N` and `left out M`, a line each
unfoldable pub tally_text : Tally → List ℕ
tally_text t = closed (codes "steps " ++ decimal t.steps) ++ closed (codes "left out " ++ decimal t.left_out)
