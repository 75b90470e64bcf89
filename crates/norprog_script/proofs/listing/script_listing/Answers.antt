-- The script of the steps that were read.
use Rattle.std.proofs.Common.{List, refl, sym, subst, arith}
use Rattle.std.specs.Io.KnownBytes.{Appends}
use Rattle.std.specs.List.{AllByRecursion}
use Rattle.nor_base.specs.Device.{Cuts}
use Rattle.nor_base.specs.Script.{script_text}
use Rattle.nor_base.specs.Step.{IsStep}
use Rattle.nor_base.specs.declared.step.Step.{Step}
use Rattle.norprog_script.proofs.ListingLemmas.{all_steps, bad_listing, was_written, was_cut}
use Rattle.norprog_script.proofs.listing.script_listing.Goals as goal

pub returns-in-Err-clause-refused : goal.returns-in-Err-clause-refused
returns-in-Err-clause-refused g c =
    bad_listing c.args.inputs.now c.in_ok-meaning.meaning c.in_ok-meaning.start c.args.text.now c.in_ok-meaning.ensures.known c.in_ok-meaning.ensures.start
    (g.W.ByteOut.held c.args.out.now) c.in-Err.fault c.refusal_of.result c.in-Err.ensures.refused c.refusal_of.ensures

pub write_script-requires : goal.write_script-requires
write_script-requires g c = record { steps = subst (AllByRecursion IsStep) (sym c.as_slice.ensures.value) (all_steps c.in-Ok.steps.items c.in-Ok.ensures.read.each.each) }

pub returns-in-Ok-write_script-clause-written : goal.returns-in-Ok-write_script-clause-written
returns-in-Ok-write_script-clause-written g c =
    let put : Appends (g.W.ByteOut.held c.args.out.now) (g.W.ByteOut.held c.write_script.new.out) (script_text c.as_slice.result.now) =
    rw c.in-Ok-write_script.is at c.write_script.ensures.bytes in
    was_written c.args.inputs.now c.in_ok-meaning.meaning c.in_ok-meaning.start c.args.text.now c.in_ok-meaning.ensures.known c.in_ok-meaning.ensures.start
    c.in-Ok.steps.items c.in-Ok.ensures.read _ _ _
    (subst (λ (l : List Step). Appends (g.W.ByteOut.held c.args.out.now) (g.W.ByteOut.held c.write_script.new.out) (script_text l)) c.as_slice.ensures.value put)
    (omega (arith, c.in-Ok.steps.ok.0)) refl

pub returns-clause-refused : goal.returns-clause-refused
returns-clause-refused g c =
    let put : Cuts (g.W.ByteOut.held c.args.out.now) (g.W.ByteOut.held c.write_script.new.out) (script_text c.as_slice.result.now) =
    rw c.in-Err-write_script.is at c.write_script.ensures.bytes in
    was_cut c.args.inputs.now c.in_ok-meaning.meaning c.in_ok-meaning.start c.args.text.now c.in_ok-meaning.ensures.known c.in_ok-meaning.ensures.start
    c.in-Ok.steps.items c.in-Ok.ensures.read _ _
    (subst (λ (l : List Step). Cuts (g.W.ByteOut.held c.args.out.now) (g.W.ByteOut.held c.write_script.new.out) (script_text l)) c.as_slice.ensures.value put)
