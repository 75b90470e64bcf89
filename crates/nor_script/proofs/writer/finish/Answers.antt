-- The end line's bytes.
use Rattle.std.proofs.Common.{ℕ, List, [], ◌∷◌, ◌++◌, ◌∙◌, subst}
use Rattle.std.specs.Prelude.{codes}
use Rattle.nor_base.specs.Device.{Writes}
use Rattle.nor_base.specs.Script.{end_line}
use Rattle.nor_script.proofs.writer.finish.Goals as goal

pub returns-clause-bytes : goal.returns-clause-bytes
unfolding end_line
returns-clause-bytes g c =
    subst (λ (digits : List ℕ). Writes (g.W.ByteOut.held c.args.writer.now) (g.W.ByteOut.held c.put_parts.new.writer) c.put_parts.result
    (codes "end " ++ (digits ++ 10 ∷ [])))
    (c.as_bytes.ensures.value ∙ c.format.ensures.text) c.put_parts.ensures.bytes
