-- Event by event.
use Rattle.nor_laws.proofs.EventLaws.{chips_are_trail}
use Rattle.nor_laws.proofs.run_events.Goals as goal

pub returns : goal.returns
returns c s chip steps = chips_are_trail s 0 chip steps
