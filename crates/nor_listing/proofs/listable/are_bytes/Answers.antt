use Rattle.nor_listing.proofs.ReadLemmas.{all_bytes}
use Rattle.nor_listing.proofs.listable.are_bytes.Goals as goal

pub returns : goal.returns
returns c = all_bytes c.args._bytes.now c.type_inv._bytes
