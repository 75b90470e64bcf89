use Rattle.std.proofs.Common.{sym, rules, tests, ◌==◌}
use Rattle.std.proofs.lemmas.Iterator.Splits.{YieldsList-from_slice_split}
use Rattle.nor_layout.proofs.Parts.{none_given, one_given, two_given, three_given}
use Rattle.nor_layout.proofs.fields.two_offsets.Goals as goal
use Rattle.nor_layout.proofs.fields.two_offsets.Goals.{in_default-via-in-Some+in-Some+in_default, in_default-via-in-Some+in_default, in_default-via-in_default}

pub returns-in-Some-Some-None : goal.returns-in-Some-Some-None
returns-in-Some-Some-None c = sym (two_given
    (YieldsList-from_slice_split {s = c.split-offsets.result} _ (λ byte. byte == 58) c.args.field.now c.split-offsets.ensures.rest c.split-offsets.ensures.done c.split-offsets.ensures.closure (λ x b q k. search (rules, tests)))
    c.in-Some-Some-None.start c.in-Some-Some-None.end c.next.new.self c.next-2.new.self c.next-3.new.self
    c.in-Some-Some-None.ensures.steps c.in-Some-Some-None.ensures'.steps c.in-Some-Some-None.ensures''.steps)

pub returns-in_default : goal.returns-in_default
returns-in_default c =
    elim c.in_default.branch [
      | in_default-via-in-Some+in-Some+in_default w ↦ sym (three_given
          (YieldsList-from_slice_split {s = c.split-offsets.result} _ (λ byte. byte == 58) c.args.field.now c.split-offsets.ensures.rest c.split-offsets.ensures.done c.split-offsets.ensures.closure (λ x b q k. search (rules, tests)))
          w.in_default.field-0-0 w.in_default.field-0-1 w.in_default.field-0-2 c.next.new.self c.next-2.new.self c.next-3.new.self
          w.in_default.ensures.steps w.in_default.ensures'.steps w.in_default.ensures''.steps)
      | in_default-via-in-Some+in_default w ↦ sym (one_given
          (YieldsList-from_slice_split {s = c.split-offsets.result} _ (λ byte. byte == 58) c.args.field.now c.split-offsets.ensures.rest c.split-offsets.ensures.done c.split-offsets.ensures.closure (λ x b q k. search (rules, tests)))
          w.in_default.field-0-0 c.next.new.self c.next-2.new.self w.in_default.ensures.steps w.in_default.ensures'.steps)
      | in_default-via-in_default w ↦ sym (none_given
          (YieldsList-from_slice_split {s = c.split-offsets.result} _ (λ byte. byte == 58) c.args.field.now c.split-offsets.ensures.rest c.split-offsets.ensures.done c.split-offsets.ensures.closure (λ x b q k. search (rules, tests)))
          c.next.result c.next.new.self w.in_default.is-0 c.next.ensures.steps)
    ]
