-- The parts of a step's line, by its letter.
use Rattle.std.proofs.Common.{sym, ◌∙◌, rules}
use Rattle.nor_script.proofs.LineLemmas.{by_two, send_of_line, poll_of_line, verify_of_line}
use Rattle.nor_script.proofs.line.parts_on.Goals as goal

pub returns-in_ok-check_clocks-in-120-clause-read : goal.returns-in_ok-check_clocks-in-120-clause-read
returns-in_ok-check_clocks-in-120-clause-read c =
    send_of_line c.args.number _ _ _ _ _ (by_two c.args.line.now 120 32 c.in-32.len_at_least c.in-120.is (search rules))
    (sym c.check_clocks.ensures ∙ c.in_ok-check_clocks-in-120.was) c.once.ensures.kind c.once.ensures.clocks c.once.ensures.digits

pub returns-in_ok-check_clocks-in-112-clause-read : goal.returns-in_ok-check_clocks-in-112-clause-read
returns-in_ok-check_clocks-in-112-clause-read c =
    poll_of_line c.args.number _ _ _ _ _ (by_two c.args.line.now 112 32 c.in-32.len_at_least c.in-112.is (search rules))
    (sym c.check_clocks-in-112.ensures ∙ c.in_ok-check_clocks-in-112.was) c.once-in-112.ensures.kind c.once-in-112.ensures.clocks c.once-in-112.ensures.digits

pub returns-in_ok-clocks-in-118-clause-read : goal.returns-in_ok-clocks-in-118-clause-read
returns-in_ok-clocks-in-118-clause-read c =
    verify_of_line _ _ _ _ (by_two c.args.line.now 118 32 c.in-32.len_at_least c.in-118.is (search rules)) c.in_ok-clocks-in-118.ensures.read
