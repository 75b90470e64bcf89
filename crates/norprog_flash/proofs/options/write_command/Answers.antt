-- The words, the options, and the regions.
use Rattle.std.proofs.Common.{ℕ, List, ◌++◌, subst}
use Rattle.std.specs.Io.KnownBytes.{Appends}
use Rattle.nor_base.specs.Device.{Cuts, Writes}
use Rattle.norprog_flash.specs.State.{command_word, next_options, regions_text}
use Rattle.norprog_device.proofs.PartLemmas.{all_three, first_cut, second_cut}
use Rattle.norprog_flash.proofs.options.write_command.Goals as goal

pub returns-in_err-put_all-clause-bytes : goal.returns-in_err-put_all-clause-bytes
returns-in_err-put_all-clause-bytes g c =
    first_cut _ _ c.from_residual.result (command_word c.args.given.now.blank)
    (next_options c.args.given.now ++ regions_text c.args.given.now.regions.items) c.from_residual.ensures.0
    (subst (λ (t : List ℕ). Cuts (g.W.ByteOut.held c.args.writer.now) (g.W.ByteOut.held c.put_all.new.writer) t) c.command_word.ensures c.in_err-put_all.ensures.bytes)

pub returns-in_err-write_options-clause-bytes : goal.returns-in_err-write_options-clause-bytes
returns-in_err-write_options-clause-bytes g c =
    second_cut _ _ _ c.from_residual-in_err-write_options.result (command_word c.args.given.now.blank) (next_options c.args.given.now)
    (regions_text c.args.given.now.regions.items) c.from_residual-in_err-write_options.ensures.0
    (subst (λ (t : List ℕ). Appends (g.W.ByteOut.held c.args.writer.now) (g.W.ByteOut.held c.put_all.new.writer) t) c.command_word.ensures c.in_ok-put_all.ensures.bytes)
    (subst (λ (t : List ℕ). Cuts (g.W.ByteOut.held c.put_all.new.writer) (g.W.ByteOut.held c.write_options.new.writer) t) c.options.ensures
    c.in_err-write_options.ensures.bytes)

pub returns-clause-bytes : goal.returns-clause-bytes
returns-clause-bytes g c =
    all_three _ _ _ _ c.write_regions.result (command_word c.args.given.now.blank) (next_options c.args.given.now)
    (regions_text c.args.given.now.regions.items)
    (subst (λ (t : List ℕ). Appends (g.W.ByteOut.held c.args.writer.now) (g.W.ByteOut.held c.put_all.new.writer) t) c.command_word.ensures c.in_ok-put_all.ensures.bytes)
    (subst (λ (t : List ℕ). Appends (g.W.ByteOut.held c.put_all.new.writer) (g.W.ByteOut.held c.write_options.new.writer) t) c.options.ensures
    c.in_ok-write_options.ensures.bytes)
    (subst (λ (t : List (List ℕ)). Writes (g.W.ByteOut.held c.write_options.new.writer) (g.W.ByteOut.held c.write_regions.new.writer)
    c.write_regions.result (regions_text t)) c.as_slice.ensures.value c.write_regions.ensures.bytes)
