use Rattle.std.proofs.Common.{◌≡◌, ◌++◌, ◌≤◌, map, length}
use Rattle.nor_sheet.specs.Words.{split, words_of}
use Rattle.nor_sheet.proofs.words.words.Given as goal

-- the words so far, and those of the rest
abbrev pub invariant-loop-word : goal.invariant-loop-word
invariant-loop-word l = record {
  so : map (λ word. word.now) l.words.items ++ split l.rest ≡ words_of l.fn.line;
  few : length l.words.items ≤ 5;
}

abbrev pub decreases-loop-word : goal.decreases-loop-word
decreases-loop-word l = length l.rest
