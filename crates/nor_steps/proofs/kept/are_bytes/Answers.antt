use Rattle.nor_steps.proofs.KeptLemmas.{all_bytes}
use Rattle.nor_steps.proofs.kept.are_bytes.Goals as goal

pub returns : goal.returns
returns c = all_bytes c.args._bytes.now c.type_inv._bytes
