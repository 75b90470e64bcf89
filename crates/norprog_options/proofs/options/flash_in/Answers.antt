-- Each option's text goes to its value.
use Rattle.std.proofs.Common.{rules}
use Rattle.norprog_options.proofs.options.flash_in.Goals as goal

pub returns-clause-done : goal.returns-clause-done
returns-clause-done c = record {
  chip = c.chip_in.ensures;
  image = c.in_ok-image_in.ensures.done;
  aim = c.requires;
  regions = c.in_ok-texts_in.ensures.done;
  page = search rules;
  mode4 = search rules;
  device = search rules;
  limit = search rules;
  layout = search rules;
  base = search rules;
  before = search rules;
  resume = search rules;
  erased_only = search rules;
  strict = search rules;
  partial = search rules;
  beyond = search rules;
  all = search rules;
  list = search rules;
  near = search rules;
  raw = search rules;
  fresh = search rules;
  any_size = search rules;
  repeats = search rules;
  expect_id = search rules;
}
