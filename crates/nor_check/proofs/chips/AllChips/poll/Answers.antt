-- The clocks of a poll, or others.
use Rattle.std.proofs.Common.{◌≡◌, false, true, refl, rules, Ok, ap, sym, ◌∙◌}
use Rattle.std.specs.Str.{bytes_eq}
use Rattle.nor_base.specs.Run.{poll_clocks}
use Rattle.nor_check.specs.Chips.{Together}
use Rattle.nor_check.proofs.Seeing.{poll_unknown, poll_taken}
use Rattle.nor_check.proofs.chips.AllChips.poll.Goals as goal

pub returns-then-ne : goal.returns-then-ne
returns-then-ne c =
    let is : bytes_eq c.args.clocks.now poll_clocks ≡ false = search rules in
    (poll_unknown c.args.self.now.kind c.args.self.now.chips c.args.clocks.now is, refl)

pub returns : goal.returns
returns c =
    let is : bytes_eq c.args.clocks.now poll_clocks ≡ true = search rules in (
      poll_taken c.args.self.now.kind c.args.self.now.chips c.args.clocks.now is ∙ ap (λ (v : Together). Ok (record v.chips { busy = false })) (sym c.self.view_is),
      ap (λ (v : Together). v.kind) c.self.view_is,
    )
