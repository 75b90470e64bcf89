use Rattle.std.proofs.Common.{◌+◌, refl, ap, sym, ◌∙◌}
use Rattle.std.proofs.lemmas.Result.{err_from_is_err_and}
use Rattle.nor_hex.specs.Image.{address_of}
use Rattle.nor_hex.proofs.StepLemmas.{is_cut, adds_both, clashes_first, clashes_then}
use Rattle.nor_hex.proofs.reader.add_record.Goals as goal

pub returns-in_err-add_run-in-0-clause-clash : goal.returns-in_err-add_run-in-0-clause-clash
returns-in_err-add_run-in-0-clause-clash g c =
    let p = err_from_is_err_and c.from_residual.result c.from_residual.ensures.1 in
    let kind = sym (ap (λ r. r.kind) c.line.view_is) ∙ c.in-0.is in
    let cut = is_cut c.args.base c.args.line.now c.args.bytes.now c.split_at.result.0.now c.split_at.result.1.now c.line.inside.offset c.min.result c.room.result c.address.result (address_of c.args.base (c.line.inside.offset + c.min.result)) kind c.requires.bytes.0 (ap (λ r. r.offset) c.line.view_is) c.requires.bytes.1 c.min.ensures c.split_at.ensures.front c.split_at.ensures.back c.address.ensures refl c.room.ensures.straight c.room.ensures.wrapped in
    rw (p.1, p.2) (λ real. clashes_first _ _ _ _ _ _ cut _ (c.in_err-add_run-in-0.ensures.clash real))

pub returns-in_err-add_run-in-0-2-clause-clash : goal.returns-in_err-add_run-in-0-2-clause-clash
returns-in_err-add_run-in-0-2-clause-clash g c =
    let p = err_from_is_err_and c.from_residual-in_err-add_run-in-0-2.result c.from_residual-in_err-add_run-in-0-2.ensures.1 in
    let kind = sym (ap (λ r. r.kind) c.line.view_is) ∙ c.in-0.is in
    let again = c.address-past.ensures ∙ ap (λ m. address_of c.args.base (c.line.inside.offset + m)) c.split_at.ensures.front_len in
    let cut = is_cut c.args.base c.args.line.now c.args.bytes.now c.split_at.result.0.now c.split_at.result.1.now c.line.inside.offset c.min.result c.room.result c.address.result c.address-past.result kind c.requires.bytes.0 (ap (λ r. r.offset) c.line.view_is) c.requires.bytes.1 c.min.ensures c.split_at.ensures.front c.split_at.ensures.back c.address.ensures again c.room.ensures.straight c.room.ensures.wrapped in
    rw (p.1, p.2) (λ real. clashes_then _ _ _ _ _ _ cut _ _ c.in_ok-add_run-in-0.ensures.added (c.in_err-add_run-in-0-2.ensures.clash real))

pub returns-in_ok-add_run-in-0-2-clause-bytes : goal.returns-in_ok-add_run-in-0-2-clause-bytes
returns-in_ok-add_run-in-0-2-clause-bytes g c =
    let kind = sym (ap (λ r. r.kind) c.line.view_is) ∙ c.in-0.is in
    let again = c.address-past.ensures ∙ ap (λ m. address_of c.args.base (c.line.inside.offset + m)) c.split_at.ensures.front_len in
    let cut = is_cut c.args.base c.args.line.now c.args.bytes.now c.split_at.result.0.now c.split_at.result.1.now c.line.inside.offset c.min.result c.room.result c.address.result c.address-past.result kind c.requires.bytes.0 (ap (λ r. r.offset) c.line.view_is) c.requires.bytes.1 c.min.ensures c.split_at.ensures.front c.split_at.ensures.back c.address.ensures again c.room.ensures.straight c.room.ensures.wrapped in
    adds_both _ _ _ _ _ _ cut _ _ _ c.in_ok-add_run-in-0.ensures.added c.in_ok-add_run-in-0-2.ensures.added
