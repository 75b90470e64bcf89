-- Tables, a part after the other.
use Rattle.std.proofs.Common.{◌≡◌, inl, ℕ, ◌+◌, ◌*◌, ◌≤◌, List, [], length, take, Option, sym, ◌∙◌, ap, subst, arith}
use Rattle.std.specs.List.{concat}
use Rattle.std.proofs.Math.ListN.{get_or-append}
use Rattle.std.proofs.Math.Seq.{take-append_seam}
use Rattle.std.proofs.lemmas.List.{take-append-le}
use Rattle.nor_base.specs.Device.{Ahead}
use Rattle.nor_base.specs.Wire.{wire}
use Rattle.nor_reader.specs.declared.difference.Mismatch.TheVariants.{Exchange, Differs}
use Rattle.nor_reader.specs.declared.tables.TablesFault.{TablesFault}
use Rattle.nor_reader.specs.declared.tables.TablesFault.TheVariants.{Memory, NoSignature, Unread}
use Rattle.nor_reader.specs.Reads.{HasReadOn}
use Rattle.nor_reader.specs.Tables.{table_reads, HasSignature, headers_end, tables_size, AreTables, StopsTables, StopsGrowth}
use Rattle.nor_reader.proofs.PassLemmas.{stops_after}
use Rattle.nor_reader.proofs.TwiceLemmas.{tables_stop}

-- reading on after a part of them stopped
pub grow_stops : (most : ℕ) (h i j : Option (List ℕ)) (a b c : Ahead) (old : List ℕ) (why : TablesFault)
    → HasReadOn (table_reads most) (wire h a) (wire i b) [] old
    → StopsGrowth most (wire i b) (wire j c) old why → StopsTables most (wire h a) (wire j c) why
grow_stops most h i j a b c old Memory read stop = (
  old,
  subst (λ held. HasReadOn (table_reads most) (wire h a) (wire held c) [] old) (sym stop.0)
      (subst (λ ahead. HasReadOn (table_reads most) (wire h a) (wire i ahead) [] old) (sym stop.1) read),
)
grow_stops most h i j a b c old NoSignature read stop = absurd stop
grow_stops most h i j a b c old (Unread (Exchange why)) read stop =
    (old, inl (tables_stop most h j a c old why (stops_after (table_reads most) h i j a b c [] old why read stop)))
grow_stops most h i j a b c old (Unread (Differs d)) read stop = absurd stop

-- a part comes first
pub headers_kept : {most : ℕ} {h i : Option (List ℕ)} {a b : Ahead} (front bytes : List ℕ) → 8 ≤ length front
    → HasReadOn (table_reads most) (wire h a) (wire i b) front bytes → headers_end bytes ≡ headers_end front
headers_kept front bytes some read =
    ap headers_end (sym read.whole) ∙ ap (λ n. 8 + 8 * (n + 1)) (get_or-append front (concat read.pieces) 0 6 (omega (arith, some)))

signed_on : {most : ℕ} {h i : Option (List ℕ)} {a b : Ahead} (front bytes : List ℕ) → 4 ≤ length front → HasReadOn (table_reads most) (wire h a) (wire i b) front bytes
    → HasSignature front → HasSignature bytes
signed_on front bytes some read signed = ap (take 4) (sym read.whole) ∙ take-append-le 4 front (concat read.pieces) some ∙ signed

-- from nothing on
pub from_none : {most : ℕ} {h i : Option (List ℕ)} {a b : Ahead} (none bytes : List ℕ) → none ≡ [] → HasReadOn (table_reads most) (wire h a) (wire i b) none bytes
    → HasReadOn (table_reads most) (wire h a) (wire i b) [] bytes
from_none {most} {h} {i} {a} {b} none bytes is read = subst (λ (front : List ℕ). HasReadOn (table_reads most) (wire h a) (wire i b) front bytes) is read

-- the header, the parameter headers, and the tables; the sizes that were found are those of what was read
pub these_tables : {most : ℕ} {h i j k : Option (List ℕ)} {a b c d : Ahead} (header headers bytes header_seen headers_seen : List ℕ) (end size : ℕ)
    → length header ≡ 8 → header_seen ≡ header → HasSignature header_seen → HasReadOn (table_reads most) (wire h a) (wire i b) header headers
    → length headers ≡ end → end ≡ headers_end header_seen → headers_seen ≡ headers → HasReadOn (table_reads most) (wire j c) (wire k d) headers bytes
    → length bytes ≡ size → size ≡ tables_size headers_seen → AreTables bytes
these_tables header headers bytes header_seen headers_seen end size eight one_is signed one upto end_is two_is two far size_is =
    let long : length headers ≡ headers_end header = upto ∙ end_is ∙ ap headers_end one_is in
    let some : 8 ≤ length headers = omega (arith, long) in
    let kept : headers_end bytes ≡ length headers =
    headers_kept headers bytes some two ∙ headers_kept header headers (omega (arith, eight)) one ∙ sym long in
    record {
      signed = signed_on headers bytes (omega (arith, some)) two (signed_on header headers (omega (arith, eight)) one (subst HasSignature one_is signed));
      far = far ∙ size_is ∙ ap tables_size two_is
          ∙ ap tables_size (sym (ap (λ n. take n bytes) kept ∙ ap (take (length headers)) (sym two.whole) ∙ take-append_seam headers (concat two.pieces)));
    }
