-- The script of one line has just its step.
use Rattle.std.proofs.Common.{◌≡◌, ◌≢◌, ◌<◌, List, [], ◌∷◌, length, None, rules, sym, ◌∙◌, ap, arith}
use Rattle.nor_base.specs.declared.step.Step.{Step}
use Rattle.nor_laws.proofs.ScriptLaws.{one_list}
use Rattle.nor_listing.proofs.CopyLemmas.{alone, is_script, no_fault, popped}
use Rattle.nor_listing.proofs.told.copied.Goals as goal

pub returns-in-Ok : goal.returns-in-Ok
returns-in-Ok c =
    let whole : c.as_slice.result.now ≡ alone c.args.line.now = search rules in
    λ x one is.
    let steps : c.in-Ok.steps.items ≡ x ∷ [] =
    one_list c.as_slice.result.now c.in-Ok.steps.items (x ∷ []) c.in-Ok.ensures.read (is_script x c.as_slice.result.now c.args.line.now one is whole) in
    let count = ap (λ (l : List Step). length l) steps in
    let long : 0 < c.in-Ok.steps.len = omega (arith, c.in-Ok.steps.ok.0, count) in
    let some : c.pop.result ≢ None = search rules in
    popped x c.pop.new.self.items c.pop.result (sym steps ∙ c.pop.ensures.items) some

pub returns : goal.returns
returns c =
    let whole : c.as_slice.result.now ≡ alone c.args.line.now = search rules in
    λ x one is. absurd (no_fault c.faultless_scripts.ensures c.as_slice.result.now (x ∷ []) c.in-Err.fault
    (is_script x c.as_slice.result.now c.args.line.now one is whole) c.in-Err.ensures.refused c.in_ok-unless_memory-in-Err.ensures)
