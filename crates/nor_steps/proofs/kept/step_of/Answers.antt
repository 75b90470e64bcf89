-- The clocks of the step are symbols, and what it expects are bytes.
use Rattle.std.proofs.Common.{◌∙◌, refl, ap}
use Rattle.nor_base.specs.Array.{are_bytes}
use Rattle.nor_select.specs.View.{coded_of}
use Rattle.nor_steps.proofs.KeptLemmas.{symbols_in}
use Rattle.nor_steps.proofs.kept.step_of.Goals as goal

pub returns-in-Poll-clause-spelled : goal.returns-in-Poll-clause-spelled
returns-in-Poll-clause-spelled c = record {
  symbols = symbols_in _ _ _ (coded_of c.args.instr.now) c.new-clocks-2.ensures c.in_ok-clocks_into.ensures.clocks c.new-clocks.ensures.items;
  bytes = refl;
}

pub returns-in-Plain-clause-spelled : goal.returns-in-Plain-clause-spelled
returns-in-Plain-clause-spelled c = record {
  symbols = symbols_in _ _ _ (coded_of c.args.instr.now) c.new-clocks-2.ensures c.in_ok-clocks_into.ensures.clocks c.new-clocks.ensures.items;
  bytes = refl;
}

pub returns-in_ok-from_slice-in-Read1-clause-spelled : goal.returns-in_ok-from_slice-in-Read1-clause-spelled
returns-in_ok-from_slice-in-Read1-clause-spelled c = record {
  symbols = symbols_in _ _ _ (coded_of c.args.instr.now) c.new-clocks-2.ensures c.in_ok-clocks_into.ensures.clocks c.new-clocks.ensures.items;
  bytes = ap are_bytes (c.new-expect.ensures ∙ c.in_ok-from_slice-in-Read1.ensures.items) ∙ c.are_bytes.ensures;
}
