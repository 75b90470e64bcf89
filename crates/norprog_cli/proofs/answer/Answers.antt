-- What has gone out by then.
use Rattle.std.proofs.Common.{◌≡◌, ◌≤◌, [], List, ℕ, arith, refl, rules, string_bytes}
use Rattle.std.proofs.lemmas.List.Elements.{All-map}
use Rattle.norprog_cli.specs.Ends.{AllOut, Lost, Unprinted, changes_none}
use Rattle.norprog_cli.proofs.EndsLemmas.{all_gone, at_zero, is_left, keeps_all, told_from}
use Rattle.norprog_cli.proofs.answer.Goals as goal

pub returns-then-changes_chip-clause-ends : goal.returns-then-changes_chip-clause-ends
returns-then-changes_chip-clause-ends g c =
    let did = c.command.ensures.answer in (
      did.0,
      did.1,
      AllOut _ _ did.0 (record { before = refl; after = keeps_all _; failures = refl }) refl did.2,
    )

-- all that was gathered has gone out
pub returns-in_default-2-clause-ends : goal.returns-in_default-2-clause-ends
returns-in_default-2-clause-ends g c =
    let did = c.command-status.ensures.answer in (
      did.0,
      did.1,
      AllOut _ _ did.0 (all_gone (search rules) (is_left _ _ _ _ _ _ _ _ c.requires.left c.send.ensures.kept)) (search rules) did.2,
    )

pub returns-in_default-clause-ends : goal.returns-in_default-clause-ends
returns-in_default-clause-ends g c =
    let did = c.command-status.ensures.answer in (
      did.0,
      did.1,
      Lost _ c.send.new.self.left.items _ did.0
          (All-map changes_none string_bytes _ (rw c.as_slice.ensures.value at (c.changes_chip.ensures (search rules))))
          (is_left _ _ _ _ _ _ _ _ c.requires.left c.send.ensures.kept) (search rules) (search rules) did.2,
    )

pub returns-in-Err-clause-ends : goal.returns-in-Err-clause-ends
returns-in-Err-clause-ends g c =
    let did = c.command-status.ensures.answer in (
      did.0,
      did.1,
      Unprinted _ c.send.new.self.left.items _ did.0
          (All-map changes_none string_bytes _ (rw c.as_slice.ensures.value at (c.changes_chip.ensures (search rules))))
          (is_left _ _ _ _ _ _ _ _ c.requires.left c.send.ensures.kept) (search rules)
          (at_zero (λ s. g.E.ByteOut.held s.out) (λ s. g.E.ByteOut.count s.out) c.command-status.ensures.quiet (search rules) did.2)
          (c.refuse.ensures.status, told_from (λ s. g.E.ByteOut.held s.out) (λ s. g.E.ByteOut.count s.out) c.refuse.new.err _ (c.command-status.ensures.quiet (search rules)) c.refuse.ensures.told),
    )
