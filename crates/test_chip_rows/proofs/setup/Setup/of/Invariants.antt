use denote.Text.{Utf8}
use denote.Shadow.{shadow}
use Rattle.test_chip_rows.proofs.setup.Setup.of.Given as goal

-- the latest key is text
abbrev pub invariant-loop-word : goal.invariant-loop-word
invariant-loop-word l =
    (goal.iterator-loop-word).can_next l.word-iterator ×
    (goal.iterator-loop-word).is_finite l.word-iterator ×
    shadow (Utf8 l.key)
