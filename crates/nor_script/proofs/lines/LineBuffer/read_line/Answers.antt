-- What follows the line.
use Rattle.std.proofs.Common.{ap}
use Rattle.nor_script.specs.Lines.{Lines}
use Rattle.nor_script.proofs.SliceLemmas.{IsHeld, read_on}
use Rattle.nor_script.proofs.lines.LineBuffer.read_line.Goals as goal

pub returns-clause-held : goal.returns-clause-held
returns-clause-held c =
    let i = c.self.inside in
    let v = c.self.invariant in
    let held : IsHeld i.buffer.items c.args.self.now.held i.from i.upto = record { is = ap (λ (l : Lines). l.held) c.self.view_is; order = v.0; within = v.1 } in
    let line : IsHeld i.buffer.items c.args.self.now.line i.line i.end = record { is = ap (λ (l : Lines). l.line) c.self.view_is; order = v.2; within = v.3 } in
    read_on i.buffer.items c.args.self.now.held c.args.self.now.line i.from i.upto i.line i.end held line c.requires
