-- Clocks sent once, and their bytes compared.
use Rattle.std.proofs.Common.{◌≡◌, true, false, ℕ, Vec, Global, rules, sym}
use Rattle.std.specs.Str.{bytes_eq}
use Rattle.nor_base.specs.declared.step.Step.TheVariants.{Verify}
use Rattle.nor_base.specs.Run.{is_verify}
use Rattle.nor_play.specs.Turns.{PlaysStep}
use Rattle.nor_base.proofs.FaultLaws.{answered}
use Rattle.nor_play.proofs.StepLemmas.{verify_ends, verify_differs, verify_unknown, verify_halts}
use Rattle.nor_chip.specs.Asked.{AsksMore}
use Rattle.nor_play.specs.Asks.{AsksStep}
use Rattle.nor_play.proofs.AskLemmas.{of_one, verify_one, verify_none, as_many, never_asked}
use Rattle.nor_play.proofs.step.verify.Goals as goal

pub returns-then-not-is_verify-clause-played : goal.returns-then-not-is_verify-clause-played
returns-then-not-is_verify-clause-played g c = verify_unknown _ c.args.limit c.args.clocks.now c.args.expect.now (search rules)

pub returns-in_err-bytes-clause-played : goal.returns-in_err-bytes-clause-played
returns-in_err-bytes-clause-played g c =
    let is : is_verify c.args.clocks.now ≡ true = search rules in
    answered c.from_residual.result (PlaysStep (g.P.Port.shown c.args.port.now) (g.P.Port.shown c.transact.new.port) c.args.limit (Verify c.args.clocks.now c.args.expect.now)) c.in_err-bytes.field-0.0
    (verify_halts _ _ c.args.limit c.args.clocks.now c.args.expect.now c.in_err-bytes.field-0.0 is c.in_err-bytes.ensures.given) c.from_residual.ensures.1

pub returns-then-ne-clause-played : goal.returns-then-ne-clause-played
returns-then-ne-clause-played g c =
    let is : is_verify c.args.clocks.now ≡ true = search rules in
    let differs : bytes_eq c.in_ok-bytes.bytes.items c.args.expect.now ≡ false = search rules in
    verify_differs _ _ c.args.limit c.args.clocks.now c.args.expect.now _ c.verifying_reads.ensures is differs c.in_ok-bytes.ensures.given.0 c.in_ok-bytes.ensures.given.1

pub returns-clause-played : goal.returns-clause-played
returns-clause-played g c =
    let is : is_verify c.args.clocks.now ≡ true = search rules in
    let match : bytes_eq c.in_ok-bytes.bytes.items c.args.expect.now ≡ true = search rules in
    verify_ends _ _ c.args.limit c.args.clocks.now c.args.expect.now _ c.requires.limit is match c.in_ok-bytes.ensures.given.0 c.in_ok-bytes.ensures.given.1

pub returns-then-not-is_verify-clause-asked : goal.returns-then-not-is_verify-clause-asked
returns-then-not-is_verify-clause-asked g c =
    as_many (g.P.Port.asked c.args.port.now) (g.P.Port.asked c.args.port.now) 0 _ (sym (verify_none (g.P.Port.shown c.args.port.now) c.args.limit c.args.clocks.now c.args.expect.now (search rules))) (never_asked (g.P.Port.asked c.args.port.now))

pub returns-in_err-bytes-clause-asked : goal.returns-in_err-bytes-clause-asked
returns-in_err-bytes-clause-asked g c =
    let is : is_verify c.args.clocks.now ≡ true = search rules in
    let shown = g.P.Port.shown c.args.port.now in
    answered c.from_residual.result (AsksStep shown (AsksMore (g.P.Port.asked c.args.port.now) (g.P.Port.asked c.transact.new.port)) c.args.limit (Verify c.args.clocks.now c.args.expect.now))
    c.in_err-bytes.field-0.0
    (of_one (Vec ℕ Global) shown (g.P.Port.asked c.args.port.now) (g.P.Port.asked c.transact.new.port) c.args.limit (Verify c.args.clocks.now c.args.expect.now) c.in_err-bytes.field-0.0
    (verify_one shown c.args.limit c.args.clocks.now c.args.expect.now is) c.in_err-bytes.ensures.asked) c.from_residual.ensures.1

pub returns-then-ne-clause-asked : goal.returns-then-ne-clause-asked
returns-then-ne-clause-asked g c =
    let is : is_verify c.args.clocks.now ≡ true = search rules in
    as_many (g.P.Port.asked c.args.port.now) (g.P.Port.asked c.transact.new.port) 1 _ (sym (verify_one (g.P.Port.shown c.args.port.now) c.args.limit c.args.clocks.now c.args.expect.now is)) c.in_ok-bytes.ensures.asked

pub returns-clause-asked : goal.returns-clause-asked
returns-clause-asked g c =
    let is : is_verify c.args.clocks.now ≡ true = search rules in
    (sym (verify_one (g.P.Port.shown c.args.port.now) c.args.limit c.args.clocks.now c.args.expect.now is), c.in_ok-bytes.ensures.asked)
