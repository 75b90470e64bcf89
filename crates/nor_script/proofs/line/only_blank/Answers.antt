-- The first blank, and none behind it.
use Rattle.std.proofs.Common.{◌+◌, sym, ◌∙◌, ap}
use Rattle.std.specs.Prelude.{position}
use Rattle.std.proofs.lemmas.List.{take_rest}
use Rattle.nor_script.specs.Line.{is_blank}
use Rattle.nor_script.proofs.BlankLemmas.{none_stands, one_stands, two_stand}
use Rattle.nor_script.proofs.line.only_blank.Goals as goal

pub returns-in_default : goal.returns-in_default
returns-in_default c = none_stands is_blank c.args.rest.now (sym c.place_of.ensures ∙ c.in_default.is)

pub returns-in-Some-place_of : goal.returns-in-Some-place_of
returns-in-Some-place_of c =
    two_stand is_blank c.args.rest.now c.in-Some.blank _ (sym c.place_of.ensures ∙ c.in-Some.is)
    (ap (position is_blank) (sym (take_rest c.args.rest.now (c.in-Some.blank + 1))) ∙ (sym c.place_of-2.ensures ∙ c.in-Some-place_of.is))

pub returns-in-None : goal.returns-in-None
returns-in-None c = record {
  one = one_stands is_blank c.args.rest.now c.in-Some.blank (sym c.place_of.ensures ∙ c.in-Some.is)
      (ap (position is_blank) (sym (take_rest c.args.rest.now (c.in-Some.blank + 1))) ∙ (sym c.place_of-2.ensures ∙ c.in-None.is));
  place = sym c.place_of.ensures ∙ c.in-Some.is;
}
