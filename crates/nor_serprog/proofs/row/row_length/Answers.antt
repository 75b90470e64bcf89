-- A form, as far as the requests fit.
use Rattle.nor_serprog.proofs.RowLemmas.{row_of}
use Rattle.nor_serprog.proofs.row.row_length.Goals as goal

pub returns-clause-row : goal.returns-clause-row
returns-clause-row c =
    row_of c.args.limits.now c.args.steps.now c.ahead_count.result c.form_length.result c.max.result c.requires.some c.ahead_count.ensures.within c.ahead_count.ensures.fit
    c.form_length.ensures.within c.form_length.ensures.form c.max.ensures
