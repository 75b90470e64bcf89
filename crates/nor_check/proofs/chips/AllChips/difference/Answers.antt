-- The first that differs, or none.
use Rattle.std.proofs.Common.{◌≡◌, ◌<◌, true, ap, sym, ◌∙◌, length, arith}
use Rattle.std.specs.Str.{bytes_eq}
use Rattle.std.specs.List.{slice_index}
use Rattle.std.proofs.lemmas.List.{get_or_read}
use Rattle.std.proofs.lemmas.Slice.Eq.{bytes_eq-Decides}
use Rattle.nor_base.specs.Parameters.{Parameters}
use Rattle.nor_check.specs.Chips.{Together}
use Rattle.nor_check.proofs.Found.{none_differs, first_differs}
use Rattle.nor_check.proofs.chips.AllChips.difference.Goals as goal

pub returns-then-eq : goal.returns-then-eq
returns-then-eq c =
    let array : c.self.inside.array.items ≡ c.args.self.now.chips.array = ap (λ (v : Together). v.chips.array) c.self.view_is in
    let equal : bytes_eq c.as_slice.result.now c.args.target.now ≡ true = sym c.eq.ensures ∙ c.if-eq.true in
    let same : c.as_slice.result.now ≡ c.args.target.now = (bytes_eq-Decides c.as_slice.result.now c.args.target.now).0 equal in
    let all : c.args.self.now.chips.array ≡ c.args.target.now = sym array ∙ sym c.as_slice.ensures.value ∙ same in
    sym (none_differs c.args.self.now.chips.array c.args.target.now (λ a fits. ap (λ xs. slice_index xs a) all))

pub returns-then-index-target : goal.returns-then-index-target
returns-then-index-target c =
    let array : c.self.inside.array.items ≡ c.args.self.now.chips.array = ap (λ (v : Together). v.chips.array) c.self.view_is in
    let size : c.self.inside.meaning.now.size ≡ c.args.self.now.kind.meaning.size = ap (λ (v : Together). v.kind.meaning.size) c.self.view_is in
    let wide : c.meaning.inside.size ≡ c.self.inside.meaning.now.size = ap (λ (m : Parameters). m.size) c.meaning.view_is in
    let fits : c.loop-address.address < length c.args.target.now = omega (arith, c.loop-address-test.true, wide, size, c.requires) in
    let read : c.index.result.now ≡ slice_index c.self.inside.array.items c.loop-address.address =
    get_or_read c.self.inside.array.items _ _ (omega (arith, fits, c.requires, size, c.self.invariant.0)) c.index.ensures 0 in
    sym (first_differs c.args.self.now.chips.array c.args.target.now c.loop-address.address fits
    (λ same. c.if-index-target.true (read ∙ ap (λ xs. slice_index xs c.loop-address.address) array ∙ same)) c.loop-address.invariant)

pub returns : goal.returns
returns c =
    let size : c.self.inside.meaning.now.size ≡ c.args.self.now.kind.meaning.size = ap (λ (v : Together). v.kind.meaning.size) c.self.view_is in
    let wide : c.meaning.inside.size ≡ c.self.inside.meaning.now.size = ap (λ (m : Parameters). m.size) c.meaning.view_is in
    sym (none_differs c.args.self.now.chips.array c.args.target.now (λ a fits. c.loop-address.invariant a (omega (arith, fits, c.loop-address-test.false, wide, size, c.requires))))
