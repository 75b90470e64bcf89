use Rattle.nor_erase.proofs.TileLemmas.{LastFit}
use Rattle.nor_erase.proofs.tiles.largest.Given as goal

-- of the blocks so far the last that fits
abbrev pub invariant-loop-block : goal.invariant-loop-block
invariant-loop-block l = LastFit l.start l.end l.block-items l.block-index l.best
