-- A `Meaning` by its fields, and its fields by their parameters.
use Rattle.nor_base.specs.declared.meaning.Meaning.TheInside.{Inside}
use Rattle.nor_base.specs.Parameters.{Parameters}

abbrev pub parameters : Inside → Parameters
parameters a = record {
  size = a.size;
  page = a.page;
  open_page = a.open_page;
  width = a.width;
  erases = a.erases;
  regions = a.regions.items;
  enter = a.enter;
  leave = a.leave;
  quad_read = a.quad_read;
  read4 = a.read4;
  quad_read4 = a.quad_read4;
  program4 = a.program4;
  quad4 = a.quad4;
  quad3 = a.quad3;
  erased_only = a.erased_only;
}

abbrev pub fields_of : Parameters → Inside
fields_of m = record {
  size = m.size;
  page = m.page;
  open_page = m.open_page;
  width = m.width;
  erases = m.erases;
  regions = record { items = m.regions };
  enter = m.enter;
  leave = m.leave;
  quad_read = m.quad_read;
  read4 = m.read4;
  quad_read4 = m.quad_read4;
  program4 = m.program4;
  quad4 = m.quad4;
  quad3 = m.quad3;
  erased_only = m.erased_only;
}
