-- The lines of seven wires, one after another.
use Rattle.std.proofs.Common.{◌≡◌, ℕ, List, [], ◌++◌, append_assoc}
use Rattle.nor_waves.specs.Wires.{changes}
use Rattle.nor_waves.proofs.wires.changes.Goals as goal

joined : (l l1 l2 l3 l4 l5 l6 l7 c1 c2 c3 c4 c5 c6 c7 : List ℕ) → l ≡ [] → l1 ≡ l ++ c1 → l2 ≡ l1 ++ c2 → l3 ≡ l2 ++ c3 → l4 ≡ l3 ++ c4 → l5 ≡ l4 ++ c5
    → l6 ≡ l5 ++ c6 → l7 ≡ l6 ++ c7 → l7 ≡ c1 ++ (c2 ++ (c3 ++ (c4 ++ (c5 ++ (c6 ++ c7)))))
joined l l1 l2 l3 l4 l5 l6 l7 c1 c2 c3 c4 c5 c6 c7 p p1 p2 p3 p4 p5 p6 p7 = rw (p7, p6, p5, p4, p3, p2, p1, p) (simp append_assoc)

pub returns : goal.returns
unfolding changes
returns c =
    joined _ _ _ _ _ _ _ _ _ _ _ _ _ _ _ c.new-lines.ensures c.add_change.ensures.items c.add_change-2.ensures.items c.add_change-3.ensures.items
    c.add_change-4.ensures.items c.add_change-5.ensures.items c.add_change-6.ensures.items c.add_change-7.ensures.items
