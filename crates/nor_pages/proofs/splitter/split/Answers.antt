-- By the unit.
use Rattle.std.proofs.Common.{◌/◌, ◌∙◌, true, false, length, ap}
use Rattle.nor_base.specs.Blocks.{Block}
use Rattle.nor_pages.specs.Runs.{unit_start, change, pages_runs}
use Rattle.nor_pages.proofs.Within.{unit_between}
use Rattle.nor_pages.proofs.UnitRuns.{block_split, page_split, some_page}
use Rattle.nor_pages.proofs.splitter.split.Goals as goal

pub returns-in_ok-split_pages-in-Block-clause-split : goal.returns-in_ok-split_pages-in-Block-clause-split
returns-in_ok-split_pages-in-Block-clause-split c =
    block_split c.args.meaning.now c.args.unit.now c.in-Block.block c.args.have.now c.args.want.now c.in_ok-split_pages-in-Block.field-0.items c.in-Block.is c.requires.unit
    (c.in_ok-split_pages-in-Block.ensures
    ∙ ap (λ (b : Block). pages_runs c.args.meaning.now.erased_only c.args.meaning.now.page (change true c.args.have.now c.args.want.now) b.start
    (length c.args.want.now / c.args.meaning.now.page)) c.block.view_is)

pub returns-in_ok-split_pages-in-Page-clause-split : goal.returns-in_ok-split_pages-in-Page-clause-split
returns-in_ok-split_pages-in-Page-clause-split c =
    page_split c.args.meaning.now c.args.unit.now c.in-Page.start c.args.have.now c.args.want.now c.in_ok-split_pages-in-Page.field-0.items
    (some_page c.args.meaning.now c.acceptance.ensures.page) c.requires.lengths c.in-Page.is c.requires.unit c.in_ok-split_pages-in-Page.ensures

pub returns-in_ok-split_pages-in-Block-clause-within : goal.returns-in_ok-split_pages-in-Block-clause-within
returns-in_ok-split_pages-in-Block-clause-within c =
    unit_between true c.args.meaning.now.erased_only c.args.meaning.now.page c.args.have.now c.args.want.now c.in-Block.block.start c.args.unit.now c.in_ok-split_pages-in-Block.field-0.items
    (ap unit_start c.in-Block.is)
    (c.in_ok-split_pages-in-Block.ensures
    ∙ ap (λ (b : Block). pages_runs c.args.meaning.now.erased_only c.args.meaning.now.page (change true c.args.have.now c.args.want.now) b.start
    (length c.args.want.now / c.args.meaning.now.page)) c.block.view_is)

pub returns-in_ok-split_pages-in-Page-clause-within : goal.returns-in_ok-split_pages-in-Page-clause-within
returns-in_ok-split_pages-in-Page-clause-within c =
    unit_between false c.args.meaning.now.erased_only c.args.meaning.now.page c.args.have.now c.args.want.now c.in-Page.start c.args.unit.now c.in_ok-split_pages-in-Page.field-0.items
    (ap unit_start c.in-Page.is) c.in_ok-split_pages-in-Page.ensures
