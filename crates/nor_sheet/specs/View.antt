-- A `Sheet` by its fields.
use Rattle.nor_sheet.specs.declared.sheet.Sheet.TheInside.{Inside}
use Rattle.nor_sheet.specs.Sheet.{Sheet}

abbrev pub shown : Inside → Sheet
shown s = record {
  size = s.size;
  page = s.page;
  width = s.width;
  kinds = s.kinds;
  enter = s.enter;
  leave = s.leave;
  quad_read = s.quad_read;
  dedicated = s.dedicated;
  regions = s.regions.items;
}
