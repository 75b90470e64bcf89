-- The parameters built are the uniform ones.
use Rattle.std.proofs.Common.{◌≡◌, sym, subst, List, [], ◌∷◌}
use Rattle.nor_base.specs.declared.meaning.Region.{Region}
use Rattle.nor_base.specs.Accepted.{IsAccepted}
use Rattle.nor_base.specs.Uniform.{uniform_of}
use Rattle.nor_base.proofs.UniformAccepted.{uniform_accepted}
use Rattle.nor_base.proofs.meaning.Meaning.uniform.Goals as goal

pub invariant_of-result : goal.invariant_of-result
invariant_of-result c =
    let one_region : c.push.new.self.items ≡ record { size = c.args.size; kinds = 15 } ∷ [] = cc in
    subst (λ (regions : List Region). IsAccepted (record (uniform_of c.args.size) { regions = regions })) (sym one_region)
    (uniform_accepted c.args.size c.if-size-lt4096.false c.if-size.false c.if-size-ne0.false)
