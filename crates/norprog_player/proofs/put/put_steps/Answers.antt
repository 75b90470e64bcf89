-- The steps themselves, or those that a ready chip answered.
use Rattle.std.proofs.Common.{◌≡◌, ◌∙◌, List, [], false, refl, subst, sym}
use Rattle.nor_base.specs.Chip.{chip_of}
use Rattle.nor_base.specs.Port.{Shown}
use Rattle.nor_base.specs.declared.step.Step.{Step}
use Rattle.nor_chip.specs.Ready.{ready_chip}
use Rattle.norprog_player.specs.Put.{AreAnswered, Answered, Goes, Themselves}
use Rattle.norprog_player.proofs.TakenLemmas.{without_end}
use Rattle.norprog_player.proofs.put.put_steps.Goals as goal

pub returns-then-branch : goal.returns-then-branch
returns-then-branch c = Themselves (c.in_ok-are_doable.ensures.0 c.if-branch.true)

pub answered-requires : goal.answered-requires
answered-requires c = record {
  goes =
      let is : c.new-chip.result ≡ ready_chip (chip_of c.args.meaning.now c.args.start [] false) c.args.content.now =
      c.new-chip.ensures ∙ rw (c.new.ensures.items, c.in_ok-array.ensures.items) refl in
      let all : c.as_slice.result.now ≡ c.args.steps = c.as_slice.ensures.value ∙ c.in_ok-all.ensures ∙ c.unpack.ensures in
      subst (λ (s : Shown). Goes s c.as_slice.result.now) (sym is)
      (subst (Goes (ready_chip (chip_of c.args.meaning.now c.args.start [] false) c.args.content.now)) (sym all)
      (c.requires.well.0, without_end _ _ _ _ c.requires.well.1));
}

pub returns : goal.returns
returns c =
    let is : c.new-chip.result ≡ ready_chip (chip_of c.args.meaning.now c.args.start [] false) c.args.content.now =
    c.new-chip.ensures ∙ rw (c.new.ensures.items, c.in_ok-array.ensures.items) refl in
    let all : c.as_slice.result.now ≡ c.args.steps = c.as_slice.ensures.value ∙ c.in_ok-all.ensures ∙ c.unpack.ensures in
    Answered _ _
    (subst (λ (s : Shown). AreAnswered s c.args.steps c.in_ok-put.put c.answered.new.chip) is
    (subst (λ (l : List Step). AreAnswered c.new-chip.result l c.in_ok-put.put c.answered.new.chip) all c.in_ok-put.ensures.put))
    c.in_ok-put.ensures.form
