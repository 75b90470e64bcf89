-- Lemmas on the image and the faults of a text that is read line by line.
use Rattle.std.proofs.Common.{◌≡◌, ◌⊎◌, inl, inr, ℕ, ◌-◌, Bool, true, false, cond, List, [], ◌∷◌, ◌++◌, map, length, take, drop, slice_get, Some, Result, Ok, Err, refl, sym, ap, subst, ◌∙◌, arith}
use Rattle.std.specs.List.{list_any}
use Rattle.std.specs.List.Sorted.{IsStrictlyIncreasing}
use Rattle.std.proofs.Math.ListN.{length-append}
use Rattle.std.proofs.lemmas.List.{append-nil}
use Rattle.nor_hex.specs.declared.base.Base.{Base}
use Rattle.nor_hex.specs.declared.base.Base.TheVariants.{Linear}
use Rattle.nor_hex.specs.declared.fault.HexFault.{HexFault}
use Rattle.nor_hex.specs.declared.fault.HexFault.TheVariants.{NoColon, BadDigit, BadLength, BadSum, BadType, Conflict, NoEnd, AfterEnd, Memory}
use Rattle.nor_lines.specs.Lines.{filled_lines}
use Rattle.nor_hex.specs.Record.{Record, record_of, fields, pair_bytes}
use Rattle.nor_hex.specs.Records.{record_at, line_records}
use Rattle.nor_hex.specs.Image.{Pairs, addresses, byte_at, Lays, Puts, base_after}
use Rattle.nor_hex.specs.Faults.{is_end, IsFaultless, IsImage, IsCause, IsLineFault, LacksEnd, IsFault}
use Rattle.nor_hex.specs.Steps.{AddsRecord, Clashes, base_past}
use Rattle.nor_hex.proofs.PutLemmas.{get-append_here, take-append_here, puts_more, puts_last, puts_split, base_after-last, any-append}

-- an address has one byte
abbrev pub IsSingle : (ℕ → ℕ → Type 0) → Type 0
IsSingle image = (address a b : ℕ) → image address a → image address b → a ≡ b

-- the lines that were seen are these records, and the image is theirs
pub record ReadSoFar (text : List ℕ) (seen rest : List (ℕ × List ℕ)) (image : ℕ → ℕ → Type 0) (base : Base) (ended : Bool) : Type 0 where
  pub records : List Record
  pub all : seen ++ rest ≡ filled_lines text
  pub each : map record_at seen ≡ map Ok records
  pub base_is : base ≡ base_after records
  pub ended_is : list_any is_end records ≡ ended
  pub end_is_last : list_any is_end (take (length records - 1) records) ≡ false
  pub given : (address byte : ℕ) → image address byte → Puts records address byte
  pub put : (address byte : ℕ) → Puts records address byte → image address byte
  pub single : IsSingle image

nothing_put : (address byte : ℕ) → Puts [] address byte → ⊥
nothing_put address byte puts = by puts.place puts.line puts.here
  where
    by : (i : ℕ) (line : Record) → slice_get [] i ≡ Some line → ⊥
    by i line e = cc

pub read_none : (text : List ℕ) (image : ℕ → ℕ → Type 0) → ((address byte : ℕ) → image address byte → ⊥) → ReadSoFar text [] (filled_lines text) image (Linear 0) false
read_none text image none = record {
  records = [];
  all = refl;
  each = refl;
  base_is = refl;
  ended_is = refl;
  end_is_last = refl;
  given = λ address byte e. absurd (none address byte e);
  put = λ address byte puts. absurd (nothing_put address byte puts);
  single = λ address a b first second. absurd (none address a first);
}

map-last : {X Y : Type 0} (f : X → Y) (xs : List X) (x : X) → map f (xs ++ x ∷ []) ≡ map f xs ++ f x ∷ []
map-last f [] x = refl
map-last f (y ∷ xs) x = ap (λ ys. f y ∷ ys) (map-last f xs x)

append-one : {X : Type 0} (xs : List X) (x : X) (ys : List X) → (xs ++ x ∷ []) ++ ys ≡ xs ++ x ∷ ys
append-one [] x ys = refl
append-one (y ∷ xs) x ys = ap (λ zs. y ∷ zs) (append-one xs x ys)

front-last : {X : Type 0} (xs : List X) (x : X) → take (length (xs ++ x ∷ []) - 1) (xs ++ x ∷ []) ≡ xs
front-last xs x =
    let e : length (xs ++ x ∷ []) - 1 ≡ length xs = omega (arith, length-append xs (x ∷ [])) in
    ap (λ n. take n (xs ++ x ∷ [])) e ∙ take-append_here xs (x ∷ [])

-- the same, where it is known what is left and whether an end record was seen
pub read_at : (text : List ℕ) (seen rest left : List (ℕ × List ℕ)) (image : ℕ → ℕ → Type 0) (base : Base) (ended known : Bool) → rest ≡ left → ended ≡ known → ReadSoFar text seen rest image base ended → ReadSoFar text seen left image base known
read_at text seen rest left image base ended known here e so_far =
    subst (λ rest. ReadSoFar text seen rest image base known) here (subst (λ ended. ReadSoFar text seen rest image base ended) e so_far)

-- one more line, which is a record that clashes with none
pub read_more : (text : List ℕ) (seen rest : List (ℕ × List ℕ)) (line : ℕ × List ℕ) (image new : ℕ → ℕ → Type 0) (base next : Base) (this : Record) (ended : Bool) → ReadSoFar text seen (line ∷ rest) image base false → record_at line ≡ Ok this → AddsRecord base this image new → IsSingle new → next ≡ base_past base this → ended ≡ is_end this → ReadSoFar text (seen ++ line ∷ []) rest new next ended
read_more text seen rest line image new base next this ended so_far is added single next_is ended_is = record {
  records = so_far.records ++ this ∷ [];
  all = append-one seen line rest ∙ so_far.all;
  each = map-last record_at seen line ∙ rw (so_far.each, is) (sym (map-last Ok so_far.records this));
  base_is = next_is ∙ ap (λ b. base_past b this) so_far.base_is ∙ base_after-last so_far.records this;
  ended_is = any-append is_end so_far.records this so_far.ended_is ∙ sym ended_is;
  end_is_last = ap (list_any is_end) (front-last so_far.records this) ∙ so_far.ended_is;
  given = λ a b e. given a b (added.given a b e);
  put = λ a b puts. put a b (puts_split so_far.records this a b puts);
  single = single;
}
  where
    at_base : (a b : ℕ) → Lays base this a b → Lays (base_after so_far.records) this a b
    at_base a b lays = subst (λ base. Lays base this a b) so_far.base_is lays

    given : (a b : ℕ) → image a b ⊎ Lays base this a b → Puts (so_far.records ++ this ∷ []) a b
    given a b (inl e) = puts_more so_far.records (this ∷ []) a b (so_far.given a b e)
    given a b (inr lays) = puts_last so_far.records this a b (at_base a b lays)

    put : (a b : ℕ) → Puts so_far.records a b ⊎ Lays (base_after so_far.records) this a b → new a b
    put a b (inl puts) = added.kept a b (so_far.put a b puts)
    put a b (inr lays) = added.laid a b (subst (λ base. Lays base this a b) (sym so_far.base_is) lays)

-- what was read so far has no fault
pub faultless_so_far : (text : List ℕ) (seen rest : List (ℕ × List ℕ)) (image : ℕ → ℕ → Type 0) (base : Base) (ended : Bool) → (so_far : ReadSoFar text seen rest image base ended) → IsFaultless so_far.records
faultless_so_far text seen rest image base ended so_far = record {
  end_is_last = so_far.end_is_last;
  consistent = λ address a b first second. so_far.single address a b (so_far.put address a first) (so_far.put address b second);
}

each_all : (text : List ℕ) (seen : List (ℕ × List ℕ)) (records : List Record) → seen ++ [] ≡ filled_lines text → map record_at seen ≡ map Ok records → line_records text ≡ map Ok records
each_all text seen records all each = ap (map record_at) (sym all ∙ append-nil seen) ∙ each

-- the end of the text, after an end record
pub read_all : (text : List ℕ) (seen : List (ℕ × List ℕ)) (image : ℕ → ℕ → Type 0) (base : Base) (made : Pairs) → ReadSoFar text seen [] image base true → IsStrictlyIncreasing (addresses made) → ((address byte : ℕ) → byte_at made address ≡ Some byte → image address byte) → ((address byte : ℕ) → image address byte → byte_at made address ≡ Some byte) → IsImage text made
read_all text seen image base made so_far rising given put = record {
  records = so_far.records;
  accepted = record {
    each = each_all text seen so_far.records so_far.all so_far.each;
    faultless = faultless_so_far text seen [] image base true so_far;
    has_end = so_far.ended_is;
  };
  rising = rising;
  given = λ address byte e. so_far.given address byte (given address byte e);
  put = λ address byte puts. put address byte (so_far.put address byte puts);
}

-- and without one
pub lacks_end : (text : List ℕ) (seen : List (ℕ × List ℕ)) (image : ℕ → ℕ → Type 0) (base : Base) → ReadSoFar text seen [] image base false → LacksEnd text
lacks_end text seen image base so_far = record {
  records = so_far.records;
  each = each_all text seen so_far.records so_far.all so_far.each;
  faultless = faultless_so_far text seen [] image base false so_far;
  no_end = so_far.ended_is;
}

-- ---- a line at fault
before_line : (text : List ℕ) (seen rest : List (ℕ × List ℕ)) (line : ℕ × List ℕ) → seen ++ line ∷ rest ≡ filled_lines text → take (length seen) (line_records text) ≡ map record_at seen
before_line text seen rest line all = ap (λ lines. take (length seen) (map record_at lines)) (sym all) ∙ front seen
  where
    front : (xs : List (ℕ × List ℕ)) → take (length xs) (map record_at (xs ++ line ∷ rest)) ≡ map record_at xs
    front [] = refl
    front (x ∷ xs) = ap (λ ys. record_at x ∷ ys) (front xs)

pub line_fault : (text : List ℕ) (seen rest : List (ℕ × List ℕ)) (line : ℕ × List ℕ) (image : ℕ → ℕ → Type 0) (base : Base) (ended : Bool) (fault : HexFault) → (so_far : ReadSoFar text seen (line ∷ rest) image base ended) → IsCause so_far.records line fault → IsLineFault text fault
line_fault text seen rest line image base ended fault so_far cause = record {
  place = length seen;
  line = line;
  earlier = so_far.records;
  here = ap (λ lines. slice_get lines (length seen)) (sym so_far.all) ∙ get-append_here seen rest line;
  before = before_line text seen rest line so_far.all ∙ so_far.each;
  faultless = faultless_so_far text seen (line ∷ rest) image base ended so_far;
  cause = cause;
}

-- a line after the end record
pub after_end : (text : List ℕ) (seen rest : List (ℕ × List ℕ)) (line : ℕ × List ℕ) (image : ℕ → ℕ → Type 0) (base : Base) → ReadSoFar text seen (line ∷ rest) image base true → IsFault text (AfterEnd line.0)
after_end text seen rest line image base so_far = line_fault text seen rest line image base true (AfterEnd line.0) so_far (so_far.ended_is, refl)

-- a record that clashes with an earlier one
pub conflict : (text : List ℕ) (seen rest : List (ℕ × List ℕ)) (line : ℕ × List ℕ) (image : ℕ → ℕ → Type 0) (base : Base) (this : Record) (n : ℕ) → ReadSoFar text seen (line ∷ rest) image base false → record_at line ≡ Ok this → n ≡ line.0 → Clashes base this image → IsFault text (Conflict n)
conflict text seen rest line image base this n so_far is number clash =
    line_fault text seen rest line image base false (Conflict n) so_far (
      so_far.ended_is,
      number,
      (
        this,
        is,
        record {
          address = clash.address;
          first = clash.first;
          second = clash.second;
          puts_first = puts clash.gives_first;
          puts_second = lays clash.second clash.lays_second;
          differ = clash.differ;
        },
      ),
    )
  where
    lays : (b : ℕ) → Lays base this clash.address b → Puts (so_far.records ++ this ∷ []) clash.address b
    lays b l = puts_last so_far.records this clash.address b (subst (λ base. Lays base this clash.address b) so_far.base_is l)

    puts : image clash.address clash.first ⊎ Lays base this clash.address clash.first → Puts (so_far.records ++ this ∷ []) clash.address clash.first
    puts (inl e) = puts_more so_far.records (this ∷ []) clash.address clash.first (so_far.given clash.address clash.first e)
    puts (inr l) = lays clash.first l

-- the faults that a line has by itself
abbrev is_record_fault : HexFault → Bool
is_record_fault (NoColon n) = true
is_record_fault (BadDigit n) = true
is_record_fault (BadLength n) = true
is_record_fault (BadSum n) = true
is_record_fault (BadType n) = true
is_record_fault other = false

abbrev item_of : Record → Result Record HexFault
item_of line = Ok line

one_of : (failed : Bool) (own fault : HexFault) (other : Result Record HexFault) → is_record_fault own ≡ true → (other ≡ Err fault → is_record_fault fault ≡ true) → cond failed (Err own) other ≡ Err fault → is_record_fault fault ≡ true
one_of true own fault other known more e = let same : own ≡ fault = cc in ap is_record_fault (sym same) ∙ known
one_of false own fault other known more e = more e

not_err : (line : Record) (fault : HexFault) → item_of line ≡ Err fault → is_record_fault fault ≡ true
not_err line fault e = absurd (apart e)
  where
    apart : item_of line ≡ Err fault → ⊥
    apart e = cc

own_fault : (n : ℕ) (line : List ℕ) (fault : HexFault) → record_of n line ≡ Err fault → is_record_fault fault ≡ true
unfolding record_of
own_fault n line fault e =
    one_of _ (NoColon n) fault _ refl (one_of _ (BadDigit n) fault _ refl (one_of _ (BadLength n) fault _ refl (one_of _ (BadSum n) fault _ refl (one_of _ (BadType n) fault _ refl (not_err _ fault))))) e

pub no_record : (text : List ℕ) (seen rest : List (ℕ × List ℕ)) (line : ℕ × List ℕ) (image : ℕ → ℕ → Type 0) (base : Base) (fault : HexFault) → ReadSoFar text seen (line ∷ rest) image base false → record_at line ≡ Err fault → IsFault text fault
no_record text seen rest line image base (NoColon n) so_far e = line_fault text seen rest line image base false (NoColon n) so_far (so_far.ended_is, e)
no_record text seen rest line image base (BadDigit n) so_far e = line_fault text seen rest line image base false (BadDigit n) so_far (so_far.ended_is, e)
no_record text seen rest line image base (BadLength n) so_far e = line_fault text seen rest line image base false (BadLength n) so_far (so_far.ended_is, e)
no_record text seen rest line image base (BadSum n) so_far e = line_fault text seen rest line image base false (BadSum n) so_far (so_far.ended_is, e)
no_record text seen rest line image base (BadType n) so_far e = line_fault text seen rest line image base false (BadType n) so_far (so_far.ended_is, e)
no_record text seen rest line image base (Conflict n) so_far e = let no = own_fault line.0 line.1 (Conflict n) e in absurd cc
no_record text seen rest line image base (NoEnd n) so_far e = let no = own_fault line.0 line.1 (NoEnd n) e in absurd cc
no_record text seen rest line image base (AfterEnd n) so_far e = let no = own_fault line.0 line.1 (AfterEnd n) e in absurd cc
no_record text seen rest line image base Memory so_far e = let no = own_fault line.0 line.1 Memory e in absurd cc

-- one more line that was yielded
pub seen_more : {X : Type 0} (view : X → ℕ × List ℕ) (text : List ℕ) (yielded : List X) (item : X) (rest : List (ℕ × List ℕ)) (image : ℕ → ℕ → Type 0) (base : Base) (ended : Bool) → ReadSoFar text (map view yielded ++ view item ∷ []) rest image base ended → ReadSoFar text (map view (yielded ++ item ∷ [])) rest image base ended
seen_more view text yielded item rest image base ended so_far = subst (λ seen. ReadSoFar text seen rest image base ended) (sym (map-last view yielded item)) so_far

-- a record has its line's number
past : (failed : Bool) (own : HexFault) (other : Result Record HexFault) (this : Record) → cond failed (Err own) other ≡ Ok this → other ≡ Ok this
past true own other this e = absurd (apart e)
  where
    apart : Err own ≡ item_of this → ⊥
    apart e = cc
past false own other this e = e

pub line_of_record : (n : ℕ) (line : List ℕ) (this : Record) → record_of n line ≡ Ok this → this.line ≡ n
unfolding record_of
line_of_record n line this e = by (pair_bytes (drop 1 line)) (past _ (BadType n) _ this (past _ (BadSum n) _ this (past _ (BadLength n) _ this (past _ (BadDigit n) _ this (past _ (NoColon n) _ this e)))))
  where
    by : (bytes : List ℕ) → item_of (fields n bytes) ≡ item_of this → this.line ≡ n
    by bytes f = let same : fields n bytes ≡ this = cc in sym (ap (λ r. r.line) same)
