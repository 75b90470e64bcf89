-- Page by page.
use Rattle.std.proofs.Common.{◌≡◌, ℕ, ◌+◌, ◌-◌, ◌∙◌, ◌++◌, sym, ap, subst, arith, append-nil}
use Rattle.nor_base.specs.Parameters.{Parameters}
use Rattle.nor_erase.specs.Tiles.{page_if, differs_from}
use Rattle.nor_erase.proofs.PageUnits.{unit_if}
use Rattle.nor_erase.proofs.Planning.{page_some}
use Rattle.nor_erase.proofs.TileLemmas.{ArePaged, one_paged, all_paged, page_fits}
use Rattle.nor_erase.proofs.tiles.push_pages.Goals as goal
use Rattle.nor_erase.proofs.tiles.push_pages.Goals.{then-differs_from+in_ok-push, else-differs_from}

pub differs_from-requires-clause-inside : goal.differs_from-requires-clause-inside
differs_from-requires-clause-inside c =
    let page : c.meaning.inside.page ≡ c.args.meaning.now.page = ap (λ (m : Parameters). m.page) c.meaning.view_is in
    let fits = page_fits c.args.meaning.now.page c.args.low c.args.high c.loop-start.start c.args.have.now c.args.want.now c.args.at c.args.units.now.items c.loop-start.units.items
    (page_some c.args.meaning.now c.acceptance.ensures) c.loop-start.invariant c.requires.low_page c.requires.high_page c.loop-start-test.true in
    omega (arith, fits, c.loop-start.invariant.upto)

pub loop-start-preserved : goal.loop-start-preserved
loop-start-preserved c =
    let page : c.meaning.inside.page ≡ c.args.meaning.now.page = ap (λ (m : Parameters). m.page) c.meaning.view_is in
    let fits = page_fits c.args.meaning.now.page c.args.low c.args.high c.loop-start.start c.args.have.now c.args.want.now c.args.at c.args.units.now.items c.loop-start.units.items
    (page_some c.args.meaning.now c.acceptance.ensures) c.loop-start.invariant c.requires.low_page c.requires.high_page c.loop-start-test.true in
    let told = c.differs_from.ensures ∙ ap (differs_from c.args.have.now c.args.want.now (c.loop-start.start - c.args.at)) page in
    let added : c.if-differs_from.units.items ≡ c.loop-start.units.items ++ page_if c.args.have.now c.args.want.now c.args.at c.args.meaning.now.page c.loop-start.start =
    (elim c.if-differs_from.branch [
      | then-differs_from+in_ok-push w ↦
          ap (λ v. v.items) w.units-is ∙ w.in_ok-push.ensures.items
          ∙ ap (λ t. c.loop-start.units.items ++ unit_if t c.loop-start.start) (sym w.if-differs_from.true ∙ told)
      | else-differs_from w ↦
          ap (λ v. v.items) w.units-is ∙ sym (append-nil c.loop-start.units.items)
          ∙ ap (λ t. c.loop-start.units.items ++ unit_if t c.loop-start.start) (sym w.if-differs_from.false ∙ told)
    ]) in
    let next = one_paged c.args.have.now c.args.want.now c.args.at c.args.meaning.now.page c.args.low c.args.high c.loop-start.start c.args.units.now.items c.loop-start.units.items
    c.if-differs_from.units.items c.loop-start.invariant fits added in
    subst (λ (n : ℕ). ArePaged c.args.have.now c.args.want.now c.args.at c.args.meaning.now.page c.args.low c.args.high (c.loop-start.start + n) c.args.units.now.items c.if-differs_from.units.items) (sym page) next

pub returns : goal.returns
returns c =
    all_paged c.args.have.now c.args.want.now c.args.at c.args.meaning.now.page c.args.low c.args.high c.loop-start.start c.args.units.now.items c.loop-start.units.items
    (page_some c.args.meaning.now c.acceptance.ensures) c.loop-start.invariant c.loop-start-test.false
