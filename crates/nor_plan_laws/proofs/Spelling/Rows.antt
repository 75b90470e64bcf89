-- Each planned instruction has a row of the table that agrees with it, and fits its clocks.
use Rattle.std.proofs.Common.{◌≡◌, ℕ, ◌*◌, ◌^◌, ◌<◌, Bool, true, false, not, ◌&&◌, if◌then◌else◌, List, [], length, Option, Some, None, refl, sym, subst, arith, inl, inr}
use Rattle.std.specs.Prelude.{is_some, IfSome, option_and_then}
use Rattle.std.specs.Option.{option_map_or}
use Rattle.std.specs.List.{Contains}
use Rattle.std.proofs.lemmas.Bool.{and_parts, not-true}
use Rattle.nor_base.specs.declared.instruction.What.{What}
use Rattle.nor_base.specs.declared.instruction.What.TheVariants as what
use Rattle.nor_base.specs.declared.meaning.Erase.{Erase}
use Rattle.nor_base.specs.declared.meaning.QuadRead.{QuadRead}
use Rattle.nor_base.specs.declared.meaning.Start.{Start}
use Rattle.nor_base.specs.declared.meaning.Strategy.{Strategy}
use Rattle.nor_base.specs.Array.{are_bytes}
use Rattle.nor_base.specs.Parameters.{Parameters, erase_kind, is_live}
use Rattle.nor_base.specs.Accepted.{IsAccepted}
use Rattle.nor_base.specs.Instructions.{Row, row, row_of, by_mode, table, is_there, dedicated, quad_read_dummies, quad_read_row}
use Rattle.nor_base.specs.Blocks.{Block, kinds}
use Rattle.nor_base.specs.Programs.{Program}
use Rattle.nor_base.specs.Spelling.{Instr, mode_after}
use Rattle.nor_base.specs.Operations.{enable, disable, poll, bare, at_address, takes_dedicated, legacy_width, erasing, programming, reading}
use Rattle.nor_base.specs.Clocks.{CanBeSpelled}
use Rattle.nor_laws.specs.Laws.{RowFound}
use Rattle.nor_plan_laws.proofs.Erased.Best.{Among}

-- the instructions of one opcode
pub enable_spelled : (m : Parameters) (mode4 : Bool) → CanBeSpelled m mode4 enable
unfolding row_of
enable_spelled m mode4 = record {
  row = record { r = row 0x06 true what.Enable 0; found = refl; its_what = refl; its_width = refl; its_dummies = refl };
  fits = record { op = omega arith; address = omega arith; carried = tt };
}

pub disable_spelled : (m : Parameters) (mode4 : Bool) → CanBeSpelled m mode4 disable
unfolding row_of
disable_spelled m mode4 = record {
  row = record { r = row 0x04 true what.Disable 0; found = refl; its_what = refl; its_width = refl; its_dummies = refl };
  fits = record { op = omega arith; address = omega arith; carried = tt };
}

pub poll_spelled : (m : Parameters) (mode4 : Bool) → CanBeSpelled m mode4 poll
unfolding row_of
poll_spelled m mode4 = record {
  row = record { r = row 0x05 true what.Status 0; found = refl; its_what = refl; its_width = refl; its_dummies = refl };
  fits = record { op = omega arith; address = omega arith; carried = omega arith };
}

pub enter_spelled : (m : Parameters) (mode4 : Bool) → is_there m.enter ≡ true → CanBeSpelled m mode4 (bare what.Enter 0xB7)
unfolding row_of
enter_spelled m mode4 there = record {
  row = record { r = row 0xB7 (is_there m.enter) what.Enter 0; found = rw there refl; its_what = refl; its_width = refl; its_dummies = refl };
  fits = record { op = omega arith; address = omega arith; carried = tt };
}

pub leave_spelled : (m : Parameters) (mode4 : Bool) → is_there m.leave ≡ true → CanBeSpelled m mode4 (bare what.Leave 0xE9)
unfolding row_of
leave_spelled m mode4 there = record {
  row = record { r = row 0xE9 (is_there m.leave) what.Leave 0; found = rw there refl; its_what = refl; its_width = refl; its_dummies = refl };
  fits = record { op = omega arith; address = omega arith; carried = tt };
}

-- the rows of programs and reads
row_02 : (m : Parameters) (mode4 : Bool) → row_of m mode4 0x02 ≡ Some (row 0x02 true what.Program (by_mode mode4))
unfolding row_of
row_02 m mode4 = refl

row_12 : (m : Parameters) (mode4 : Bool) → m.program4 ≡ true → row_of m mode4 0x12 ≡ Some (row 0x12 m.program4 what.Program 4)
unfolding row_of
row_12 m mode4 has = rw has refl

row_32 : (m : Parameters) (mode4 : Bool) → m.quad3 ≡ true → row_of m mode4 0x32 ≡ Some (row 0x32 m.quad3 what.QuadProgram (by_mode mode4))
unfolding row_of
row_32 m mode4 has = rw has refl

row_34 : (m : Parameters) (mode4 : Bool) → m.quad4 ≡ true → row_of m mode4 0x34 ≡ Some (row 0x34 m.quad4 what.QuadProgram 4)
unfolding row_of
row_34 m mode4 has = rw has refl

row_03 : (m : Parameters) (mode4 : Bool) → row_of m mode4 0x03 ≡ Some (row 0x03 true what.Read (by_mode mode4))
unfolding row_of
row_03 m mode4 = refl

row_13 : (m : Parameters) (mode4 : Bool) → m.read4 ≡ true → row_of m mode4 0x13 ≡ Some (row 0x13 m.read4 what.Read 4)
unfolding row_of
row_13 m mode4 has = rw has refl

row_6c : (m : Parameters) (mode4 : Bool) → is_some m.quad_read && m.quad_read4 ≡ true
    → row_of m mode4 0x6C ≡ Some (record (row 0x6C (is_some m.quad_read && m.quad_read4) what.QuadRead 4) { dummies = quad_read_dummies m })
unfolding row_of
row_6c m mode4 has = rw has refl

-- what a strategy needs of a chip in the mode that it drives it in
pub record Drives (m : Parameters) (by : Strategy) (mode4 : Bool) : Type 0 where
  pub width : legacy_width by ≡ by_mode mode4
  pub program4 : (a : ℕ) → takes_dedicated by a ≡ true → m.program4 ≡ true
  pub read4 : (a : ℕ) → takes_dedicated by a ≡ true → m.read4 ≡ true

-- an address fits its clocks
pub record IsWithin (by : Strategy) (a : ℕ) : Type 0 where
  pub four : a < 2 ^ 32
  pub legacy : takes_dedicated by a ≡ false → a < 2 ^ (8 * legacy_width by)

-- an instruction at an address, by whether it takes its dedicated opcode
abbrev at_by : Bool → ℕ → What → ℕ → ℕ → ℕ → ℕ → List ℕ → Instr
at_by t w is op op4 dummies a bytes = record {
  what = is;
  op = if t then op4 else op;
  address = a;
  width = if t then 4 else w;
  dummies = dummies;
  bytes = bytes;
}

at_spelled : (m : Parameters) (mode4 : Bool) (by : Strategy) (is : What) (op op4 dummies a : ℕ) (bytes : List ℕ) (t : Bool) → takes_dedicated by a ≡ t
    → (takes_dedicated by a ≡ false → CanBeSpelled m mode4 (at_by false (legacy_width by) is op op4 dummies a bytes))
    → (takes_dedicated by a ≡ true → CanBeSpelled m mode4 (at_by true (legacy_width by) is op op4 dummies a bytes))
    → CanBeSpelled m mode4 (at_address by is op op4 dummies a bytes)
at_spelled m mode4 by is op op4 dummies a bytes true h near far =
    subst (λ t. CanBeSpelled m mode4 (at_by t (legacy_width by) is op op4 dummies a bytes)) (sym h) (far h)
at_spelled m mode4 by is op op4 dummies a bytes false h near far =
    subst (λ t. CanBeSpelled m mode4 (at_by t (legacy_width by) is op op4 dummies a bytes)) (sym h) (near h)

-- the program of some bytes
programming_by : (m : Parameters) (start : Start) (by : Strategy) (mode4 : Bool) (p : Program) (quad quad3 : Bool) → start.quad && m.quad4 ≡ quad
    → start.quad && (m.quad3 && not (takes_dedicated by p.at)) ≡ quad3 → Drives m by mode4 → IsWithin by p.at → 0 < length p.bytes → are_bytes p.bytes ≡ true
    → CanBeSpelled m mode4 (
    if quad then record { what = what.QuadProgram; op = 0x34; address = p.at; width = 4; dummies = 0; bytes = p.bytes }
    else if quad3 then at_address by what.QuadProgram 0x32 0x34 0 p.at p.bytes else at_address by what.Program 0x02 0x12 0 p.at p.bytes
    )
programming_by m start by mode4 p true quad3 is is3 drives within some bytes = record {
  row = record { r = row 0x34 m.quad4 what.QuadProgram 4; found = row_34 m mode4 (and_parts start.quad m.quad4 is).1; its_what = refl; its_width = refl; its_dummies = refl };
  fits = record { op = omega arith; address = within.four; carried = (some, bytes) };
}
programming_by m start by mode4 p false true is is3 drives within some bytes =
    let parts = and_parts start.quad (m.quad3 && not (takes_dedicated by p.at)) is3 in
    let has = and_parts m.quad3 (not (takes_dedicated by p.at)) parts.1 in
    let near : takes_dedicated by p.at ≡ false = not-true (takes_dedicated by p.at) has.1 in
    at_spelled m mode4 by what.QuadProgram 0x32 0x34 0 p.at p.bytes false near
    (λ h. record {
      row = record {
        r = row 0x32 m.quad3 what.QuadProgram (by_mode mode4);
        found = row_32 m mode4 has.0;
        its_what = refl;
        its_width = sym drives.width;
        its_dummies = refl;
      };
      fits = record { op = omega arith; address = within.legacy h; carried = (some, bytes) };
    })
    (λ h. absurd_by near h)
  where
    absurd_by : {A : Type 0} {t : Bool} → t ≡ false → t ≡ true → A
    absurd_by h is = cc
programming_by m start by mode4 p false false is is3 drives within some bytes =
    at_spelled m mode4 by what.Program 0x02 0x12 0 p.at p.bytes (takes_dedicated by p.at) refl
    (λ h. record {
      row = record { r = row 0x02 true what.Program (by_mode mode4); found = row_02 m mode4; its_what = refl; its_width = sym drives.width; its_dummies = refl };
      fits = record { op = omega arith; address = within.legacy h; carried = (some, bytes) };
    })
    (λ h. record {
      row = record { r = row 0x12 m.program4 what.Program 4; found = row_12 m mode4 (drives.program4 p.at h); its_what = refl; its_width = refl; its_dummies = refl };
      fits = record { op = omega arith; address = within.four; carried = (some, bytes) };
    })

pub programming_spelled : (m : Parameters) (start : Start) (by : Strategy) (mode4 : Bool) (p : Program) → Drives m by mode4 → IsWithin by p.at → 0 < length p.bytes
    → are_bytes p.bytes ≡ true → CanBeSpelled m mode4 (programming m start by p)
programming_spelled m start by mode4 p drives within some bytes =
    programming_by m start by mode4 p (start.quad && m.quad4) (start.quad && (m.quad3 && not (takes_dedicated by p.at))) refl refl drives within some bytes

-- the mode stays
stays_by : (mode4 a b : Bool) (i j k : Instr) → mode_after i.what mode4 ≡ mode4 → mode_after j.what mode4 ≡ mode4 → mode_after k.what mode4 ≡ mode4
    → mode_after (if a then i else if b then j else k).what mode4 ≡ mode4
stays_by mode4 true b i j k one two three = one
stays_by mode4 false true i j k one two three = two
stays_by mode4 false false i j k one two three = three

pub programming_stays : (m : Parameters) (start : Start) (by : Strategy) (mode4 : Bool) (p : Program) → mode_after (programming m start by p).what mode4 ≡ mode4
programming_stays m start by mode4 p = stays_by mode4 (start.quad && m.quad4) (start.quad && (m.quad3 && not (takes_dedicated by p.at))) _ _ _ refl refl refl

pub reading_stays : (m : Parameters) (start : Start) (by : Strategy) (mode4 : Bool) (p : Program) → mode_after (reading m start by p).what mode4 ≡ mode4
reading_stays m start by mode4 p = stays_by mode4 (start.quad && m.quad_read4) (start.quad && (is_some m.quad_read && not (takes_dedicated by p.at))) _ _ _ refl refl refl

-- the chip's own quad read
quad_op_small : (o : Option QuadRead) → IfSome o (λ q. q.op < 256) → option_map_or (λ q. q.op) o 0 < 256
quad_op_small None h = omega arith
quad_op_small (Some q) h = h

reading_by : RowFound → (m : Parameters) (start : Start) (by : Strategy) (mode4 : Bool) (p : Program) (quad own : Bool) → IsAccepted m → start.quad && m.quad_read4 ≡ quad
    → start.quad && (is_some m.quad_read && not (takes_dedicated by p.at)) ≡ own → Drives m by mode4 → IsWithin by p.at → 0 < length p.bytes
    → CanBeSpelled m mode4 (
    if quad then record { what = what.QuadRead; op = 0x6C; address = p.at; width = 4; dummies = quad_read_dummies m; bytes = p.bytes }
    else if own then at_address by what.QuadRead (option_map_or (λ q. q.op) m.quad_read 0) 0x6C (quad_read_dummies m) p.at p.bytes
    else at_address by what.Read 0x03 0x13 0 p.at p.bytes
    )
reading_by found m start by mode4 p true own accepted is is_own drives within some =
    let has = (and_parts start.quad m.quad_read4 is).1 in
    let there : is_some m.quad_read ≡ true = accepted.quad_read4 has in
    let both : is_some m.quad_read && m.quad_read4 ≡ true = rw (there, has) refl in
    record {
      row = record {
        r = record (row 0x6C (is_some m.quad_read && m.quad_read4) what.QuadRead 4) { dummies = quad_read_dummies m };
        found = row_6c m mode4 both;
        its_what = refl;
        its_width = refl;
        its_dummies = refl;
      };
      fits = record { op = omega arith; address = within.four; carried = some };
    }
reading_by found m start by mode4 p false true accepted is is_own drives within some =
    let parts = and_parts start.quad (is_some m.quad_read && not (takes_dedicated by p.at)) is_own in
    let has = and_parts (is_some m.quad_read) (not (takes_dedicated by p.at)) parts.1 in
    let near : takes_dedicated by p.at ≡ false = not-true (takes_dedicated by p.at) has.1 in
    let op = option_map_or (λ (q : QuadRead). q.op) m.quad_read 0 in
    at_spelled m mode4 by what.QuadRead op 0x6C (quad_read_dummies m) p.at p.bytes false near
    (λ h. record {
      row = record {
        r = quad_read_row m mode4;
        found = found m mode4 op (quad_read_row m mode4) accepted (record { listed = (12, omega arith, refl); offered = has.0; by_opcode = refl });
        its_what = refl;
        its_width = sym drives.width;
        its_dummies = refl;
      };
      fits = record { op = quad_op_small m.quad_read accepted.quad_read_op; address = within.legacy h; carried = some };
    })
    (λ h. absurd_by near h)
  where
    absurd_by : {A : Type 0} {t : Bool} → t ≡ false → t ≡ true → A
    absurd_by h is = cc
reading_by found m start by mode4 p false false accepted is is_own drives within some =
    at_spelled m mode4 by what.Read 0x03 0x13 0 p.at p.bytes (takes_dedicated by p.at) refl
    (λ h. record {
      row = record { r = row 0x03 true what.Read (by_mode mode4); found = row_03 m mode4; its_what = refl; its_width = sym drives.width; its_dummies = refl };
      fits = record { op = omega arith; address = within.legacy h; carried = some };
    })
    (λ h. record {
      row = record { r = row 0x13 m.read4 what.Read 4; found = row_13 m mode4 (drives.read4 p.at h); its_what = refl; its_width = refl; its_dummies = refl };
      fits = record { op = omega arith; address = within.four; carried = some };
    })

pub reading_spelled : RowFound → (m : Parameters) (start : Start) (by : Strategy) (mode4 : Bool) (p : Program) → IsAccepted m → Drives m by mode4 → IsWithin by p.at
    → 0 < length p.bytes → CanBeSpelled m mode4 (reading m start by p)
reading_spelled found m start by mode4 p accepted drives within some =
    reading_by found m start by mode4 p (start.quad && m.quad_read4) (start.quad && (is_some m.quad_read && not (takes_dedicated by p.at))) accepted refl refl drives within some

-- the rows of an erase kind
abbrev erase_op : Parameters → ℕ → ℕ
erase_op m kind = option_map_or (λ erase. erase.op) (erase_kind m kind) 0

abbrev erase_op4 : Parameters → ℕ → ℕ
erase_op4 m kind = option_map_or (λ op4. op4) (dedicated m kind) 0

abbrev legacy_row : Parameters → Bool → ℕ → Row
legacy_row m mode4 kind = row (erase_op m kind) (is_live m kind) (what.Erase kind) (by_mode mode4)

abbrev dedicated_row : Parameters → Bool → ℕ → Row
dedicated_row m mode4 kind = row (erase_op4 m kind) (is_live m kind && is_some (dedicated m kind)) (what.Erase kind) 4

legacy_listed : (m : Parameters) (mode4 : Bool) (kind : ℕ) → Among kinds kind → Contains (table m mode4) (legacy_row m mode4 kind)
legacy_listed m mode4 kind (inl same) = subst (λ k. Contains (table m mode4) (legacy_row m mode4 k)) same (13, omega arith, refl)
legacy_listed m mode4 kind (inr (inl same)) = subst (λ k. Contains (table m mode4) (legacy_row m mode4 k)) same (15, omega arith, refl)
legacy_listed m mode4 kind (inr (inr (inl same))) = subst (λ k. Contains (table m mode4) (legacy_row m mode4 k)) same (17, omega arith, refl)
legacy_listed m mode4 kind (inr (inr (inr (inl same)))) = subst (λ k. Contains (table m mode4) (legacy_row m mode4 k)) same (19, omega arith, refl)
legacy_listed m mode4 kind (inr (inr (inr (inr none)))) = absurd none

dedicated_listed : (m : Parameters) (mode4 : Bool) (kind : ℕ) → Among kinds kind → Contains (table m mode4) (dedicated_row m mode4 kind)
dedicated_listed m mode4 kind (inl same) = subst (λ k. Contains (table m mode4) (dedicated_row m mode4 k)) same (14, omega arith, refl)
dedicated_listed m mode4 kind (inr (inl same)) = subst (λ k. Contains (table m mode4) (dedicated_row m mode4 k)) same (16, omega arith, refl)
dedicated_listed m mode4 kind (inr (inr (inl same))) = subst (λ k. Contains (table m mode4) (dedicated_row m mode4 k)) same (18, omega arith, refl)
dedicated_listed m mode4 kind (inr (inr (inr (inl same)))) = subst (λ k. Contains (table m mode4) (dedicated_row m mode4 k)) same (20, omega arith, refl)
dedicated_listed m mode4 kind (inr (inr (inr (inr none)))) = absurd none

-- the opcodes of an accepted kind are bytes
op_small : (m : Parameters) (kind : ℕ) (o : Option Erase) → IsAccepted m → erase_kind m kind ≡ o → option_map_or (λ erase. erase.op) o 0 < 256
op_small m kind None accepted is = omega arith
op_small m kind (Some erase) accepted is = (accepted.kinds kind erase is).op

op4_small_of : (o : Option ℕ) → IfSome o (λ op4. op4 < 256) → option_map_or (λ op4. op4) o 0 < 256
op4_small_of None h = omega arith
op4_small_of (Some op4) h = h

op4_small : (m : Parameters) (kind : ℕ) (o : Option Erase) → IsAccepted m → erase_kind m kind ≡ o → option_map_or (λ op4. op4) (option_and_then (λ erase. erase.op4) o) 0 < 256
op4_small m kind None accepted is = omega arith
op4_small m kind (Some erase) accepted is = op4_small_of erase.op4 (accepted.kinds kind erase is).op4

-- the kind of a block that can be erased
pub record IsErasableKind (m : Parameters) (by : Strategy) (b : Block) : Type 0 where
  pub kind : Among kinds b.kind
  pub live : is_live m b.kind ≡ true
  pub dedicated : takes_dedicated by b.start ≡ true → is_some (dedicated m b.kind) ≡ true

pub erasing_spelled : RowFound → (m : Parameters) (by : Strategy) (mode4 : Bool) (b : Block) → IsAccepted m → Drives m by mode4 → IsWithin by b.start → IsErasableKind m by b
    → CanBeSpelled m mode4 (erasing m by b)
erasing_spelled found m by mode4 b accepted drives within can =
    let k = b.kind in
    at_spelled m mode4 by (what.Erase k) (erase_op m k) (erase_op4 m k) 0 b.start [] (takes_dedicated by b.start) refl
    (λ h. record {
      row = record {
        r = legacy_row m mode4 k;
        found = found m mode4 (erase_op m k) (legacy_row m mode4 k) accepted (record { listed = legacy_listed m mode4 k can.kind; offered = can.live; by_opcode = refl });
        its_what = refl;
        its_width = sym drives.width;
        its_dummies = refl;
      };
      fits = record { op = op_small m k (erase_kind m k) accepted refl; address = within.legacy h; carried = tt };
    })
    (λ h. record {
      row = record {
        r = dedicated_row m mode4 k;
        found = found m mode4 (erase_op4 m k) (dedicated_row m mode4 k) accepted
            (record { listed = dedicated_listed m mode4 k can.kind; offered = both (is_live m k) (is_some (dedicated m k)) can.live (can.dedicated h); by_opcode = refl });
        its_what = refl;
        its_width = refl;
        its_dummies = refl;
      };
      fits = record { op = op4_small m k (erase_kind m k) accepted refl; address = within.four; carried = tt };
    })
  where
    both : (x y : Bool) → x ≡ true → y ≡ true → x && y ≡ true
    both x y h is = rw (h, is) refl
