-- The bytes of the part are those that came.
use Rattle.std.proofs.Common.{◌∙◌, drop, arith, length-append, length-drop}
use Rattle.std.proofs.lemmas.List.{length-take-le}
use Rattle.norprog_read.proofs.PartLemmas.{came_as}
use Rattle.norprog_read.proofs.content.read_within.Goals as goal

pub returns-clause-twice : goal.returns-clause-twice
returns-clause-twice g c =
    let long = c.read_content.ensures.size ∙ length-take-le c.args.part.high c.args.content.now c.requires.part.1 in
    rw (came_as c.args.part c.read_content.new.content (drop c.args.part.high c.args.content.now) c.requires.part.0 long) c.read_content.ensures.twice

pub returns-clause-apart : goal.returns-clause-apart
returns-clause-apart g c =
    let long = c.read_content.ensures.size ∙ length-take-le c.args.part.high c.args.content.now c.requires.part.1 in
    rw (came_as c.args.part c.read_content.new.content (drop c.args.part.high c.args.content.now) c.requires.part.0 long) c.read_content.ensures.apart

pub returns-clause-size : goal.returns-clause-size
returns-clause-size g c =
    let long = c.read_content.ensures.size ∙ length-take-le c.args.part.high c.args.content.now c.requires.part.1 in
    omega (arith, long, c.requires.part.1, length-append c.read_content.new.content (drop c.args.part.high c.args.content.now), length-drop c.args.part.high c.args.content.now)
