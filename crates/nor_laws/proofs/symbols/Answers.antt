-- A clock is known by its symbol and by its lanes.
use Rattle.nor_laws.proofs.SymbolLaws.{symbols_found, samples_apart}
use Rattle.nor_base.proofs.SymbolLaws.{by_clock}
use Rattle.nor_laws.proofs.symbols.Goals as goal

pub returns-clause-found : goal.returns-clause-found
returns-clause-found c = symbols_found

pub returns-clause-apart : goal.returns-clause-apart
returns-clause-apart c = samples_apart

pub returns-clause-by_clock : goal.returns-clause-by_clock
returns-clause-by_clock c = by_clock
