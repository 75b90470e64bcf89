-- Where the steps end, beside what was compared.
use Rattle.std.proofs.Common.{◌≡◌, ◌*◌, Bool, List, length, Err, subst}
use Rattle.nor_base.specs.Chip.{begins4}
use Rattle.nor_base.specs.Wire.{Wire, wire}
use Rattle.nor_cells.specs.Compared.{IsAsked}
use Rattle.nor_cells.specs.Marks.{AreMarks, IsMarked}
use Rattle.nor_cells.specs.Touched.{IsTouched}
use Rattle.nor_serprog.specs.Steps.{AreCarried}
use Rattle.nor_serprog.specs.declared.limits.Limits.{Limits}
use Rattle.norprog_player.specs.Access.{access_of}
use Rattle.norprog_player.specs.declared.access.Access.{Access}
use Rattle.norprog_player.specs.declared.course.Course.{Course}
use Rattle.norprog_player.specs.Asked.{BeginsWith, IsUnknown}
use Rattle.norprog_player.specs.Compared.{comparison}
use Rattle.norprog_player.specs.Ending.{AllDone, Begins, NotKnown, NotLeft, Stopped, asks, doing}
use Rattle.norprog_player.specs.Likeness.{Compares, ComparesWhole}
use Rattle.norprog_player.proofs.LikenessLemmas.{begins_alike, compares_alike, marked_alike, marked_since, unknown_alike, whole_alike}
use Rattle.norprog_player.proofs.WindowLemmas.{never_stops}
use Rattle.norprog_player.proofs.device.play_compared.Goals as goal

-- it was asked and compared, by what the code says of its access and its marks
begun : (limits : Limits) (c : Course) (access : Access) (cells : List Bool) (before between : Wire) → access ≡ access_of c.meaning.now c.expected.start
    → AreMarks (IsAsked (IsTouched c.meaning.now (begins4 c.meaning.now c.expected.start) c.steps.now) c.content.now) (length cells) cells
    → length c.content.now ≡ 256 * length cells → AreCarried limits c.steps.now
    → BeginsWith c.expected.trusted (asks limits c) (comparison limits access c.content.now (IsMarked cells)) before between → Begins limits c before between
begun limits c access cells before between is marks sizes carried begins = record {
  carried = carried;
  begins = begins_alike limits _ c.content.now _ _ (marked_alike _ _ _ cells marks sizes) c.expected.trusted (asks limits c) before between
      (subst (λ (a : Access). BeginsWith c.expected.trusted (asks limits c) (comparison limits a c.content.now (IsMarked cells)) before between) is begins);
}

pub returns-in-Err : goal.returns-in-Err
returns-in-Err g c =
    let limits = c.args.limits.now in
    let course = c.args.course.now in
    let cells = c.args.cells.now in
    let before = wire (g.W.ByteOut.held c.args.to.now) (g.R.ByteIn.ahead c.args.from.now) in
    let after = wire (g.W.ByteOut.held c.begin.new.to) (g.R.ByteIn.ahead c.begin.new.from) in
    NotKnown c.in-Err.why c.requires.carried c.in-Err.ensures.0
    (unknown_alike limits _ course.content.now _ _ (marked_alike _ _ _ cells c.requires.cells c.requires.sizes.0) c.in-Err.why (asks limits course) before after
    (subst (λ (a : Access). IsUnknown (asks limits course) (comparison limits a course.content.now (IsMarked cells)) before after c.in-Err.why)
    c.access_of-access.ensures c.in-Err.ensures.1))

pub returns-in-Err-do_steps : goal.returns-in-Err-do_steps
returns-in-Err-do_steps g c =
    let stop = c.in-Err-do_steps.field-0 in
    let stops = rw c.doing_of-doing.ensures at c.in-Err-do_steps.ensures.stopped in
    Stopped _ stop
    (begun c.args.limits.now c.args.course.now _ c.args.cells.now _ _ c.access_of-access.ensures c.requires.cells c.requires.sizes.0 c.requires.carried c.in_default.ensures)
    stops (never_stops (doing c.args.limits.now c.args.course.now) _ _ _ stop c.requires.carried stops)

pub returns-in-Ok : goal.returns-in-Ok
returns-in-Ok g c =
    let limits = c.args.limits.now in
    let course = c.args.course.now in
    let left = course.left.now in
    let marks = c.mark_wraps.new.marks in
    let reached = wire (g.W.ByteOut.held c.do_steps.new.to) (g.R.ByteIn.ahead c.do_steps.new.from) in
    let after = wire (g.W.ByteOut.held c.compare_unless_trusted.new.to) (g.R.ByteIn.ahead c.compare_unless_trusted.new.from) in
    rw c.len.ensures
    (AllDone reached c.says_blank.result (record {
      between = _;
      begins = begun limits course _ c.args.cells.now _ _ c.access_of-access.ensures c.requires.cells c.requires.sizes.0 c.requires.carried c.in_default.ensures;
      does = rw c.doing_of-doing.ensures at c.in_default-do_steps.ensures.done;
    })
    (compares_alike limits _ left _ _ (marked_since _ _ _ _ c.args.cells.now marks c.requires.cells c.mark_wraps.ensures c.requires.sizes.1) course.expected.trusted reached after
    (subst (λ (a : Access). Compares (comparison limits a left (IsMarked marks)) course.expected.trusted reached after) c.access_of-access.ensures c.in-Ok.ensures.compared))
    c.says_blank.ensures)

pub returns-in-Err-compare_unless_trusted : goal.returns-in-Err-compare_unless_trusted
returns-in-Err-compare_unless_trusted g c =
    let limits = c.args.limits.now in
    let course = c.args.course.now in
    let left = course.left.now in
    let marks = c.mark_wraps.new.marks in
    let why = c.in-Err-compare_unless_trusted.why in
    let before = wire (g.W.ByteOut.held c.args.to.now) (g.R.ByteIn.ahead c.args.from.now) in
    let reached = wire (g.W.ByteOut.held c.do_steps.new.to) (g.R.ByteIn.ahead c.do_steps.new.from) in
    let after = wire (g.W.ByteOut.held c.compare_unless_trusted.new.to) (g.R.ByteIn.ahead c.compare_unless_trusted.new.from) in
    rw (c.failure_by.ensures, c.len-in-Err-compare_unless_trusted.ensures)
    (NotLeft reached why (record {
      between = _;
      begins = begun limits course _ c.args.cells.now _ _ c.access_of-access.ensures c.requires.cells c.requires.sizes.0 c.requires.carried c.in_default.ensures;
      does = rw c.doing_of-doing.ensures at c.in_default-do_steps.ensures.done;
    }) c.in-Err-compare_unless_trusted.ensures.compared.0
    (whole_alike limits _ left _ _ (marked_since _ _ _ _ c.args.cells.now marks c.requires.cells c.mark_wraps.ensures c.requires.sizes.1) reached after (Err why)
    (subst (λ (a : Access). ComparesWhole reached after (comparison limits a left (IsMarked marks)) (Err why)) c.access_of-access.ensures
    c.in-Err-compare_unless_trusted.ensures.compared.1)))
