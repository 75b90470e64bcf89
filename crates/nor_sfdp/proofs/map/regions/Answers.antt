-- With a table, without one, and bits without one.
use Rattle.std.proofs.Common.{refl}
use Rattle.nor_sfdp.specs.SectorMap.{regions_of}
use Rattle.nor_sfdp.proofs.map.regions.Goals as goal

pub returns-in-Some-clause-regions : goal.returns-in-Some-clause-regions
unfolding regions_of
returns-in-Some-clause-regions c = rw c.in-Some.is c.mapped_regions.ensures.regions

pub returns-in-None-clause-regions : goal.returns-in-None-clause-regions
unfolding regions_of
returns-in-None-clause-regions c = rw (c.in-None.is, c.one_region.ensures, ← c.if-is_empty.ensures) refl

pub returns-in-None-2-clause-regions : goal.returns-in-None-2-clause-regions
unfolding regions_of
returns-in-None-2-clause-regions c = rw (c.in-None.is, ← c.if-is_empty.ensures) refl
