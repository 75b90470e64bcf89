-- The one run, or why there isn't one.
use Rattle.std.proofs.Common.{◌≡◌, inl, inr, ◌+◌, ◌≤◌, ◌^◌, length, arith, rules}
use Rattle.std.proofs.lemmas.Bool.{cases_lt}
use Rattle.norprog_flash.specs.Dump.{NoBytes, NoRoom, ToTheEnd}
use Rattle.norprog_flash.proofs.DumpLemmas.{gapped, none_more, only_bytes}
use Rattle.norprog_flash.proofs.dump.only_run.Goals as goal

pub returns-in_default-clause-refused : goal.returns-in_default-clause-refused
returns-in_default-clause-refused c = NoBytes c.in_default.ensures

pub returns-in_default-try_from-clause-refused : goal.returns-in_default-try_from-clause-refused
returns-in_default-try_from-clause-refused c =
    let far : 2 ^ 32 ≤ c.in-Some.at + length c.in-Some.run'.now =
    elim (cases_lt (c.from.result + length c.in-Some.run'.now) (2 ^ 32)) [
      | inl less ↦ absurd (c.in_default-try_from.ensures less)
      | inr more ↦ omega (arith, more, c.from.ensures)
    ]
    in
    ToTheEnd c.in-Some.at c.in-Some.run'.now c.in-Some.ensures far

pub returns-then-is_some-clause-refused : goal.returns-then-is_some-clause-refused
returns-then-is_some-clause-refused c =
    let end : c.in-Ok.end ≡ c.in-Some.at + length c.in-Some.run'.now = omega (arith, c.in-Ok.ensures.1, c.from.ensures) in
    gapped c.args.image.now c.in-Some.at c.in-Some.run'.now c.in-Ok.end c.run_from-2.result c.in-Some.ensures end c.run_from-2.ensures c.if-is_some.ensures

pub returns-then-is_err-clause-refused : goal.returns-then-is_err-clause-refused
returns-then-is_err-clause-refused c = NoRoom

pub returns-clause-just : goal.returns-clause-just
returns-clause-just c =
    let items : c.extend_from_slice.new.self.items ≡ c.in-Some.run'.now = search rules in
    let end : c.in-Ok.end ≡ c.in-Some.at + length c.in-Some.run'.now = omega (arith, c.in-Ok.ensures.1, c.from.ensures) in
    rw items
    (only_bytes c.args.image.now c.in-Some.at c.in-Some.run'.now c.in-Some.ensures
    (none_more c.args.image.now c.in-Some.at c.in-Some.run'.now c.in-Ok.end c.run_from-2.result end c.run_from-2.ensures c.if-is_some.ensures))
