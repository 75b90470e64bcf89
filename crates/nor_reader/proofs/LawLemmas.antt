-- Reads are those of which the laws of logs speak.
use Rattle.std.proofs.Common.{◌≡◌, ◌<◌, ◌≤◌, ℕ, Bool, true, ◌+◌, ◌^◌, List, [], ◌∷◌, ◌++◌, length, refl, ap, ◌∙◌, subst, append-nil}
use Rattle.std.specs.List.{AllByRecursion}
use Rattle.nor_base.specs.declared.meaning.Start.{Start}
use Rattle.nor_base.specs.declared.meaning.Switch.{Switch}
use Rattle.nor_base.specs.Parameters.{Parameters}
use Rattle.nor_loop.specs.Four.{fours_from, FourReadsRead}
use Rattle.nor_loop.specs.Laws.{IsReading, ReadsRead, EnteredReadsRead}
use Rattle.nor_loop.specs.Log.{Operation}
use Rattle.nor_loop.specs.Reads.{reads_from, switch_ops, Chunk, ReadsPart}
use Rattle.nor_reader.specs.declared.by.ReadBy.{ReadBy}
use Rattle.nor_reader.specs.declared.by.ReadBy.TheVariants.{Tables, Content, FourBytes, Entered}
use Rattle.nor_reader.specs.Laws.{GivesBy, TwiceKnows}
use Rattle.nor_reader.specs.Reads.{reads, read_op, ops_from, IsPiece, ReadsBy}

as_reads : (mode4 : Bool) (at : ℕ) (pieces : List (List ℕ)) → ops_from (Content mode4) at pieces ≡ reads_from mode4 at pieces
as_reads mode4 at [] = refl
as_reads mode4 at (piece ∷ pieces) = ap (λ log. read_op (Content mode4) at piece ∷ log) (as_reads mode4 (at + length piece) pieces)

as_fours : (at : ℕ) (pieces : List (List ℕ)) → ops_from FourBytes at pieces ≡ fours_from at pieces
as_fours at [] = refl
as_fours at (piece ∷ pieces) = ap (λ log. read_op FourBytes at piece ∷ log) (as_fours (at + length piece) pieces)

as_entered : (enter leave : Switch) (at : ℕ) (pieces : List (List ℕ)) → ops_from (Entered enter leave) at pieces ≡ reads_from true at pieces
as_entered enter leave at [] = refl
as_entered enter leave at (piece ∷ pieces) =
    ap (λ log. read_op (Entered enter leave) at piece ∷ log) (as_entered enter leave (at + length piece) pieces)

-- each piece has some bytes
some_each : (most : ℕ) (pieces : List (List ℕ)) → AllByRecursion (IsPiece most) pieces → AllByRecursion (λ piece. 0 < length piece) pieces
some_each most [] all = tt
some_each most (piece ∷ pieces) all = (all.0.0, some_each most pieces all.1)

reading_by : ReadsRead → FourReadsRead → EnteredReadsRead → (most : ℕ) (m : Parameters) (start : Start) (by : ReadBy) (c : Chunk)
    (log : List Operation) → m.size ≤ 2 ^ 32 → c.at + length c.bytes ≤ m.size → GivesBy m start by → ReadsBy (reads most by) c log
    → IsReading m start c log
reading_by read four entered most m start Tables c log fits within gives reads = absurd gives
reading_by read four entered most m start (Content mode4) c log fits within gives reads =
    read m start c log fits gives.1 within
    (subst (λ mode. ReadsPart mode c log) gives.0 (record {
      pieces = reads.pieces;
      filled = some_each most reads.pieces reads.filled;
      whole = reads.whole;
      those = reads.those ∙ append-nil (ops_from (Content mode4) c.at reads.pieces) ∙ as_reads mode4 c.at reads.pieces;
    }))
reading_by read four entered most m start FourBytes c log fits within gives reads =
    four m start c log fits gives within (record {
      pieces = reads.pieces;
      filled = some_each most reads.pieces reads.filled;
      whole = reads.whole;
      those = reads.those ∙ append-nil (ops_from FourBytes c.at reads.pieces) ∙ as_fours c.at reads.pieces;
    })
reading_by read four entered most m start (Entered enter leave) c log fits within gives reads =
    entered m start c log fits gives.2 gives.3 gives.4 within (record {
      pieces = reads.pieces;
      filled = some_each most reads.pieces reads.filled;
      whole = reads.whole;
      those = reads.those
          ∙ ap (λ ops. switch_ops enter 0xB7 ++ (ops ++ switch_ops leave 0xE9)) (as_entered enter leave c.at reads.pieces)
          ∙ ap (λ (w : Switch). switch_ops w 0xB7 ++ (reads_from true c.at reads.pieces ++ switch_ops leave 0xE9)) gives.0
          ∙ ap (λ (w : Switch). switch_ops m.enter 0xB7 ++ (reads_from true c.at reads.pieces ++ switch_ops w 0xE9)) gives.1;
    })

pub twice_knows : ReadsRead → FourReadsRead → EnteredReadsRead → TwiceKnows
twice_knows read four entered t h i a b m start c fits within gives gives_again twice = record {
  first = twice.first;
  again = twice.second;
  reads = reading_by read four entered t.first.most m start t.first.by c twice.first fits within gives twice.reads;
  rereads = reading_by read four entered t.again.most m start t.again.by c twice.second fits within gives_again twice.rereads;
  wire = twice.wire;
}
