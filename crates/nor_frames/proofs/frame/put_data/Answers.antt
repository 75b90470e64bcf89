-- As many clocks as the place has.
use Rattle.std.proofs.Common.{sym, ◌∙◌, ap}
use Rattle.nor_select.specs.declared.instr.Body.{Body}
use Rattle.nor_select.specs.View.{load_in}
use Rattle.nor_frames.specs.Frames.{load_clocks}
use Rattle.nor_frames.proofs.FrameLemmas.{none_left, asked_on_one, asked_on_four}
use Rattle.nor_frames.proofs.frame.put_data.Goals as goal

pub returns-in-Plain : goal.returns-in-Plain
returns-in-Plain c = none_left _ _ c.in-Plain.is c.requires

pub returns-in-Poll : goal.returns-in-Poll
returns-in-Poll c = c.fill.ensures.after (λ y same. same) ∙ asked_on_one c.args.body.now _ c.in-Poll.is c.requires

pub returns-in-Read4 : goal.returns-in-Read4
returns-in-Read4 c = c.fill-in-Read4.ensures.after (λ y same. same) ∙ asked_on_four c.args.body.now _ _ c.in-Read4.is c.requires

pub returns-in-Write1 : goal.returns-in-Write1
returns-in-Write1 c = c.spread1.ensures ∙ ap (λ (b : Body). load_clocks (load_in b)) (sym c.in-Write1.is)

pub returns-in-Write4 : goal.returns-in-Write4
returns-in-Write4 c = c.spread4.ensures ∙ ap (λ (b : Body). load_clocks (load_in b)) (sym c.in-Write4.is)
