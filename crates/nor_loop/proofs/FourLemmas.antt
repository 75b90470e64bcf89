-- Reads by 13h; and two readings one after the other.
use Rattle.std.proofs.Common.{◌≡◌, ℕ, ◌+◌, List, [], ◌∷◌, length, refl, ◌∙◌, ap, arith}
use Rattle.nor_base.specs.Chip.{begins4, ready}
use Rattle.nor_laws.specs.Spelling.{HasSpelling}
use Rattle.nor_loop.specs.Log.{Operation}
use Rattle.nor_loop.specs.Four.{four_bytes, fours_from, FourReadsRead, BothRead}
use Rattle.nor_loop.proofs.LoopLemmas.{told_first}
use Rattle.nor_loop.proofs.ReadLemmas.{by_13, reads_by, are_reading}
use Rattle.nor_loop.proofs.SomeLemmas.{explains_both}

by_fours : (at : ℕ) (pieces : List (List ℕ)) → fours_from at pieces ≡ reads_by (λ from len. four_bytes from) at pieces
by_fours at [] = refl
by_fours at (piece ∷ pieces) =
    ap (λ (log : List Operation). record { sent = four_bytes at; got = piece } ∷ log) (by_fours (at + length piece) pieces)

pub four_reads_read : HasSpelling → FourReadsRead
four_reads_read has m start c log fits offered within reads =
    are_reading has m start c log (λ from len. four_bytes from) reads.pieces
    (λ at piece some upto. by_13 m (begins4 m start) at piece offered some (omega (arith, fits, some, upto))) reads.filled reads.whole
    (reads.those ∙ by_fours c.at reads.pieces) within

pub both_read : BothRead
both_read m start c first again one two = record {
  tells = λ s held after may.
      let told = told_first m start c first again one.tells s held after may in (told.0, (two.tells s held after told.1).1);
  shows = λ s held is content there.
      explains_both s (ready s held) (ready s held) (ready s held) first again (one.shows s held is content there) (two.shows s held is content there);
}
