-- What was found is of the inputs.
use Rattle.std.proofs.Common.{◌≡◌, ◌∙◌, true, ap, subst}
use Rattle.nor_base.specs.Array.{is_filled}
use Rattle.nor_hex.specs.Image.{byte_at}
use Rattle.nor_job.specs.Task.{Task}
use Rattle.norprog_common.specs.Rules.{AreFilled, IsGap, Unallotted}
use Rattle.norprog_common.proofs.RulesLemmas.{is_given, lacks_part, some_named}
use Rattle.norprog_common.proofs.rules.refuse_partial.Goals as goal

pub returns-in_default-clause-lacks : goal.returns-in_default-clause-lacks
returns-in_default-clause-lacks c = (c.if-not-full.false, Unallotted)

pub returns-in_default-regions_of-clause-lacks : goal.returns-in_default-regions_of-clause-lacks
returns-in_default-regions_of-clause-lacks c = (c.if-not-full.false, Unallotted)

pub returns-clause-lacks : goal.returns-clause-lacks
returns-clause-lacks c =
    let t = c.args.inputs.now in
    let layout = c.requires.2.layout in
    let chosen = c.as_slice.ensures.value ∙ c.in-Ok-regions_of.ensures.regions c.requires.1 layout in (
      c.if-not-full.false,
      lacks_part t c.in-Ok.image c.requires.1 c.as_slice.result.now c.in-Some.gap
          c.in-Ok.ensures.image layout
          (subst (λ (u : Task). is_filled u.regions ≡ true) c.inputs.view_is (some_named _ c.is_empty.result c.if-is_empty.ensures)) chosen
          (subst (λ b. IsGap (byte_at c.in-Ok.image) b c.as_slice.result.now c.in-Some.gap) (ap (λ (t : Task). t.base) c.inputs.view_is) c.in-Some.ensures),
    )

pub returns-in-None-clause-given : goal.returns-in-None-clause-given
returns-in-None-clause-given c = λ asked filled.
    let t = c.args.inputs.now in
    let layout = c.requires.2.layout in
    let chosen = c.as_slice.ensures.value ∙ c.in-Ok-regions_of.ensures.regions c.requires.1 layout in
    is_given t c.in-Ok.image c.requires.1 c.as_slice.result.now
    c.in-Ok.ensures.image layout chosen
    (subst (λ b. AreFilled (byte_at c.in-Ok.image) b c.as_slice.result.now) (ap (λ (t : Task). t.base) c.inputs.view_is) c.in-None.ensures) filled
