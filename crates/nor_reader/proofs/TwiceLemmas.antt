-- A reading, and then another.
use Rattle.std.proofs.Common.{inl, inr, ℕ, List, [], ◌++◌, Option, Result, Ok, Err, refl}
use Rattle.std.specs.Prelude.{MatchResult}
use Rattle.nor_base.specs.Device.{Ahead}
use Rattle.nor_base.specs.Wire.{wire}
use Rattle.nor_reader.specs.declared.difference.Mismatch.{Mismatch}
use Rattle.nor_reader.specs.declared.difference.Mismatch.TheVariants.{Exchange, Differs}
use Rattle.nor_serprog.specs.declared.fault.Fault.{Fault}
use Rattle.nor_loop.specs.Log.{Operation, HasLogged}
use Rattle.nor_loop.specs.Reads.{chunk, Chunk}
use Rattle.nor_loop.proofs.DeviceLemmas.{logged_none, logged_both}
use Rattle.nor_reader.specs.declared.by.ReadBy.{ReadBy}
use Rattle.nor_reader.specs.declared.by.ReadBy.TheVariants.{Tables}
use Rattle.nor_reader.specs.Switched.{enter_ops, leave_ops}
use Rattle.nor_reader.specs.Reads.{ops_from, HasReadOn, Reads, ReadsBy, StopsOn}
use Rattle.nor_reader.specs.Again.{ReadsAgain}
use Rattle.nor_reader.specs.Tables.{table_reads}
use Rattle.nor_reader.specs.Twice.{twice, AllCame, HasReadWhole, IsEntered, IsFollowed, IsLeft, Passage, ReadTwice, ReadsWhole, StopsFirst, StopsTwice, Twice}

-- a reading is a log
pub whole_logged : (by : ReadBy) (came : Passage) (log : List Operation) (h i : Option (List ℕ)) (a b : Ahead)
    → (read : IsEntered by (IsFollowed came (IsLeft by)) (wire h a) (wire i b))
    → HasLogged (wire read.held read.ahead) (wire read.rest.held read.rest.ahead) log → HasLogged (wire h a) (wire i b) (enter_ops by ++ (log ++ leave_ops by))
whole_logged by came log h i a b read logged =
    let rest = read.rest in
    logged_both h read.held i a read.ahead b (enter_ops by) (log ++ leave_ops by) read.entered
    (logged_both read.held rest.held i read.ahead rest.ahead b log (leave_ops by) logged rest.rest)

whole_reads : (r : Reads) (h i : Option (List ℕ)) (a b : Ahead) (x : Chunk) → (read : HasReadWhole r (wire h a) (wire i b) x)
    → ReadsBy r x (enter_ops r.by ++ (ops_from r.by x.at read.rest.first.pieces ++ leave_ops r.by))
whole_reads r h i a b x read =
    let first = read.rest.first in
    record { pieces = first.pieces; filled = first.filled; whole = first.whole; those = refl }

read_twice : (t : Twice) (h i j : Option (List ℕ)) (a b c : Ahead) (x : Chunk) → HasReadWhole t.first (wire h a) (wire i b) x
    → HasReadWhole t.again (wire i b) (wire j c) x → ReadTwice t (wire h a) (wire j c) x
read_twice t h i j a b c x one two = record {
  first = enter_ops t.first.by ++ (ops_from t.first.by x.at one.rest.first.pieces ++ leave_ops t.first.by);
  second = enter_ops t.again.by ++ (ops_from t.again.by x.at two.rest.first.pieces ++ leave_ops t.again.by);
  reads = whole_reads t.first h i a b x one;
  rereads = whole_reads t.again i j b c x two;
  wire = logged_both h i j a b c _ _ (whole_logged t.first.by (AllCame t.first x) (ops_from t.first.by x.at one.rest.first.pieces) h i a b one one.rest.first.wire)
      (whole_logged t.again.by (AllCame t.again x) (ops_from t.again.by x.at two.rest.first.pieces) i j b c two two.rest.first.wire);
}

pub twice_by : (t : Twice) (h i j : Option (List ℕ)) (a b c : Ahead) (x : Chunk) (r : Result (Unit {0}) Mismatch)
    → HasReadWhole t.first (wire h a) (wire i b) x → ReadsWhole t.again (wire i b) (wire j c) r x
    → MatchResult r (λ u. ReadTwice t (wire h a) (wire j c) x) (StopsTwice t (wire h a) (wire j c) x)
twice_by t h i j a b c x (Ok u) one two = read_twice t h i j a b c x one two
twice_by t h i j a b c x (Err (Exchange why)) one two = inr (record { held = i; ahead = b; read = one; missed = two })
twice_by t h i j a b c x (Err (Differs d)) one two = record { held = i; ahead = b; read = one; missed = two }

-- the tables are read without another mode, from address 0 on
tables_again : (most : ℕ) (h i : Option (List ℕ)) (a b : Ahead) (x : Chunk) (r : Result (Unit {0}) Mismatch)
    → ReadsAgain (table_reads most) (wire h a) (wire i b) r x → ReadsWhole (table_reads most) (wire h a) (wire i b) r x
tables_again most h i a b x (Ok u) read = record {
  held = h;
  ahead = a;
  entered = logged_none h a;
  rest = record { held = i; ahead = b; first = read; rest = logged_none i b };
}
tables_again most h i a b x (Err (Exchange why)) missed = inr (inl (record { held = h; ahead = a; entered = logged_none h a; rest = missed }))
tables_again most h i a b x (Err (Differs d)) missed = record {
  held = h;
  ahead = a;
  entered = logged_none h a;
  rest = record { held = i; ahead = b; first = missed; rest = logged_none i b };
}

pub tables_stop : (most : ℕ) (h i : Option (List ℕ)) (a b : Ahead) (bytes : List ℕ) (why : Fault) → StopsOn (table_reads most) (wire h a) (wire i b) [] why
    → StopsFirst (table_reads most) (wire h a) (wire i b) (chunk 0 bytes) why
tables_stop most h i a b bytes why stop = inr (inl (record { held = h; ahead = a; entered = logged_none h a; rest = ([], refl, stop) }))

pub tables_by : (most : ℕ) (h i j : Option (List ℕ)) (a b c : Ahead) (bytes : List ℕ) (r : Result (Unit {0}) Mismatch)
    → HasReadOn (table_reads most) (wire h a) (wire i b) [] bytes → ReadsAgain (table_reads most) (wire i b) (wire j c) r (chunk 0 bytes)
    → MatchResult r (λ u. ReadTwice (twice most Tables Tables) (wire h a) (wire j c) (chunk 0 bytes))
    (StopsTwice (twice most Tables Tables) (wire h a) (wire j c) (chunk 0 bytes))
tables_by most h i j a b c bytes r one two =
    twice_by (twice most Tables Tables) h i j a b c (chunk 0 bytes) r
    (tables_again most h i a b (chunk 0 bytes) (Ok tt) (record { pieces = one.pieces; filled = one.filled; whole = one.whole; wire = one.wire }))
    (tables_again most i j b c (chunk 0 bytes) r two)
