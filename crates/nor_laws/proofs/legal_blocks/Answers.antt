-- A legal block lies in a region; aligned blocks nest.
use Rattle.nor_base.proofs.RegionLaws.{legal_in_region, region_legal, legal_on_chip}
use Rattle.nor_laws.proofs.BlockLaws.{blocks_nest}
use Rattle.nor_laws.proofs.legal_blocks.Goals as goal

pub returns-clause-region : goal.returns-clause-region
returns-clause-region c = legal_in_region

pub returns-clause-legal : goal.returns-clause-legal
returns-clause-legal c = region_legal

pub returns-clause-chip : goal.returns-clause-chip
returns-clause-chip c = legal_on_chip

pub returns-clause-nest : goal.returns-clause-nest
returns-clause-nest c = blocks_nest
