-- The header among the bytes held.
use Rattle.std.proofs.Common.{ℕ, ◌≡◌, ◌++◌, refl, sym, ◌∙◌, ap, subst, List, ◌≢◌}
use Rattle.std.proofs.lemmas.Bool.Decides.{Decides-eqb}
use Rattle.std.proofs.lemmas.Slice.Eq.{strip_prefix_is}
use Rattle.std.specs.Prelude.{codes}
use Rattle.nor_base.specs.Script.{header}
use Rattle.nor_script.specs.Lines.{Lines}
use Rattle.nor_script.proofs.SliceLemmas.{IsHeld, header_skipped}
use Rattle.nor_script.proofs.lines.LineBuffer.skip_header.Goals as goal

pub returns-in_default : goal.returns-in_default
unfolding header
returns-in_default c = (
  refl,
  subst (λ l. (rest : List ℕ) → l ≢ header ++ rest) c.held.ensures
      (rw c.in_default.is at (strip_prefix_is Decides-eqb c.held.result.now (codes "norscript 1\n") _ c.strip_prefix.ensures.cases)),
)

pub returns : goal.returns
unfolding header
returns c =
    let i = c.self.inside in
    let held : IsHeld i.buffer.items c.args.self.now.held i.from i.upto = record { is = ap (λ (l : Lines). l.held) c.self.view_is; order = c.self.invariant.0; within = c.self.invariant.1 } in
    let is : c.held.result.now ≡ header ++ _ = rw c.in-Some.is at (strip_prefix_is Decides-eqb c.held.result.now (codes "norscript 1\n") _ c.strip_prefix.ensures.cases) in
    header_skipped i.buffer.items c.args.self.now.held _ i.from i.upto held (sym c.held.ensures ∙ is)
