-- No limit speaks of the profile.
use Rattle.nor_base.proofs.KindLemmas.{erased_only_accepted}
use Rattle.nor_base.proofs.meaning.Meaning.erased_only_set.Goals as goal

pub invariant_of-result : goal.invariant_of-result
invariant_of-result c = erased_only_accepted _ c.self.invariant
