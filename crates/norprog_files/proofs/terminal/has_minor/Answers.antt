-- Between the first and the last.
use Rattle.std.proofs.Common.{◌≡◌, ◌≤◌, Bool, true, false, Some, refl, subst, sym}
use borrow.Author.Tests.{leb-true}
use Rattle.std.specs.Bool.{OnTrue}
use Rattle.norprog_common.specs.Values.{decimal_of}
use Rattle.norprog_files.specs.Terminal.{MinorWithin}
use Rattle.norprog_files.proofs.terminal.has_minor.Goals as goal

-- what a test that holds gives
tested : {P Q : Type 0} (b : Bool) → (b ≡ true → Q) → (Q → P) → OnTrue b P
tested true is f = f (is refl)
tested false is f = tt

pub returns-in-Some-Some : goal.returns-in-Some-Some
returns-in-Some-Some c =
    let low = subst (λ text. decimal_of text ≡ Some c.in-Some-Some.first) c.in-Some.ensures.1 (sym c.in-Some-Some.ensures) in
    let high = subst (λ text. decimal_of text ≡ Some c.in-Some-Some.last) c.in-Some.ensures.2 (sym c.in-Some-Some.ensures') in
    tested {Q = c.args.minor ≤ c.in-Some-Some.last} _ (λ is. leb-true c.args.minor c.in-Some-Some.last is) (λ below. MinorWithin c.in-Some-Some.first c.in-Some-Some.last low high c.if-first-minor.true below)
