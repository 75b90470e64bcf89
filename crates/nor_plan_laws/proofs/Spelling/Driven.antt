-- The instructions of operations can be spelled, in the mode of their strategy and with the change of mode around them.
use Rattle.std.proofs.Common.{◌≡◌, ℕ, ◌<◌, Bool, true, false, ◌&&◌, if◌then◌else◌, List, [], ◌∷◌, ◌++◌, length, refl, sym, ap, subst, arith}
use Rattle.std.specs.Prelude.{nat_le, flat_map}
use Rattle.std.specs.List.{AllByRecursion}
use Rattle.std.proofs.lemmas.Bool.{and_parts, leb-true, leb-false}
use Rattle.std.proofs.lemmas.List.{append_assoc}
use Rattle.nor_base.specs.declared.instruction.What.TheVariants as what
use Rattle.nor_base.specs.declared.meaning.Start.{Start}
use Rattle.nor_base.specs.declared.meaning.Strategy.{Strategy}
use Rattle.nor_base.specs.declared.meaning.Strategy.TheVariants.{S1, S2, S3, S4, S5}
use Rattle.nor_base.specs.declared.meaning.Switch.{Switch}
use Rattle.nor_base.specs.declared.meaning.Switch.TheVariants.{Absent, Plain, Latched}
use Rattle.nor_base.specs.Array.{are_bytes}
use Rattle.nor_base.specs.Parameters.{Parameters}
use Rattle.nor_base.specs.Accepted.{IsAccepted}
use Rattle.nor_base.specs.Instructions.{is_there}
use Rattle.nor_base.specs.Chip.{begins4}
use Rattle.nor_base.specs.Strategies.{strategy, are_dedicated, is_far}
use Rattle.nor_base.specs.Need.{is_beyond}
use Rattle.nor_base.specs.Blocks.{Block}
use Rattle.nor_base.specs.Programs.{Program}
use Rattle.nor_base.specs.Spelling.{Instr}
use Rattle.nor_base.specs.Operations.{Op, erases, writes, reads, poll, instructions, switching_by, leaving, lowered}
use Rattle.nor_base.specs.Clocks.{CanAllBeSpelled}
use Rattle.nor_laws.specs.Laws.{RowFound}
use Rattle.nor_plan_laws.proofs.Spelling.Rows.{Drives, IsWithin, IsErasableKind, enable_spelled, disable_spelled, poll_spelled, enter_spelled, leave_spelled, erasing_spelled, programming_spelled, programming_stays, reading_spelled, reading_stays}

-- what the choice of a strategy says
abbrev choose : Bool → Bool → Bool → Bool → Strategy
choose a b c d = if a then S1 else if b then S2 else if c then S3 else if d then S4 else S5

begins_s1 : (a b c d : Bool) → choose a b c d ≡ S1 → a ≡ true
begins_s1 true b c d h = refl
begins_s1 false true c d h = cc
begins_s1 false false true d h = cc
begins_s1 false false false true h = cc
begins_s1 false false false false h = cc

small_s2 : (a b c d : Bool) → choose a b c d ≡ S2 → (a ≡ false) × (b ≡ true)
small_s2 true b c d h = cc
small_s2 false true c d h = (refl, refl)
small_s2 false false true d h = cc
small_s2 false false false true h = cc
small_s2 false false false false h = cc

dedicated_s3 : (a b c d : Bool) → choose a b c d ≡ S3 → (a ≡ false) × (c ≡ true)
dedicated_s3 true b c d h = cc
dedicated_s3 false true c d h = cc
dedicated_s3 false false true d h = (refl, refl)
dedicated_s3 false false false true h = cc
dedicated_s3 false false false false h = cc

enters_s4 : (a b c d : Bool) → choose a b c d ≡ S4 → (a ≡ false) × (d ≡ true)
enters_s4 true b c d h = cc
enters_s4 false true c d h = cc
enters_s4 false false true d h = cc
enters_s4 false false false true h = (refl, refl)
enters_s4 false false false false h = cc

begins_s5 : (a b c d : Bool) → choose a b c d ≡ S5 → a ≡ false
begins_s5 true b c d h = cc
begins_s5 false true c d h = cc
begins_s5 false false true d h = cc
begins_s5 false false false true h = cc
begins_s5 false false false false h = refl

chosen : (m : Parameters) (start : Start) (by : Strategy) → strategy m start ≡ by
    → choose (begins4 m start) (nat_le m.size 0x1000000) (m.program4 && (m.read4 && are_dedicated m 0 m.regions)) (is_there m.enter && is_there m.leave) ≡ by
unfolding strategy
chosen m start by h = h

-- the mode of a strategy's operations
abbrev pub mode_of : Strategy → Bool
mode_of S1 = true
mode_of S2 = false
mode_of S3 = false
mode_of S4 = true
mode_of S5 = false

-- a strategy drives its chip in its mode
pub driven : (m : Parameters) (start : Start) (by : Strategy) → strategy m start ≡ by → Drives m by (mode_of by)
driven m start S1 h = record { width = refl; program4 = λ a is. cc; read4 = λ a is. cc }
driven m start S2 h = record { width = refl; program4 = λ a is. cc; read4 = λ a is. cc }
driven m start S3 h =
    let has = (dedicated_s3 (begins4 m start) (nat_le m.size 0x1000000) _ (is_there m.enter && is_there m.leave) (chosen m start S3 h)).1 in
    let parts = and_parts m.program4 (m.read4 && are_dedicated m 0 m.regions) has in
    record { width = refl; program4 = λ a is. parts.0; read4 = λ a is. (and_parts m.read4 (are_dedicated m 0 m.regions) parts.1).0 }
driven m start S4 h = record { width = refl; program4 = λ a is. cc; read4 = λ a is. cc }
driven m start S5 h = record { width = refl; program4 = λ a is. cc; read4 = λ a is. cc }

near_small : (a : ℕ) → is_far a ≡ false → a < 0x1000000
near_small a h = leb-false 0x1000000 a h

-- an address of the chip that the strategy reaches fits
pub within : (m : Parameters) (start : Start) (by : Strategy) (a : ℕ) → strategy m start ≡ by → IsAccepted m → a < m.size → is_beyond by a ≡ false → IsWithin by a
within m start S1 a h accepted inside near = record { four = omega (arith, accepted.size_high, inside); legacy = λ is. omega (arith, accepted.size_high, inside) }
within m start S2 a h accepted inside near =
    let small = leb-true m.size 0x1000000 (small_s2 (begins4 m start) (nat_le m.size 0x1000000) _ (is_there m.enter && is_there m.leave) (chosen m start S2 h)).1 in
    record { four = omega (arith, accepted.size_high, inside); legacy = λ is. omega (arith, small, inside) }
within m start S3 a h accepted inside near =
    record { four = omega (arith, accepted.size_high, inside); legacy = λ is. let small = near_small a is in omega (arith, small) }
within m start S4 a h accepted inside near = record { four = omega (arith, accepted.size_high, inside); legacy = λ is. omega (arith, accepted.size_high, inside) }
within m start S5 a h accepted inside near =
    record { four = omega (arith, accepted.size_high, inside); legacy = λ is. let small = near_small a near in omega (arith, small) }

-- what an operation must be to be spelled
pub record CanBeWritten (by : Strategy) (p : Program) : Type 0 where
  pub within : IsWithin by p.at
  pub some : 0 < length p.bytes
  pub bytes : are_bytes p.bytes ≡ true

pub record CanBeErased (m : Parameters) (by : Strategy) (b : Block) : Type 0 where
  pub within : IsWithin by b.start
  pub kind : IsErasableKind m by b

abbrev pub CanBeDone : Parameters → Strategy → Op → Type 0
CanBeDone m by (erases b) = CanBeErased m by b
CanBeDone m by (writes p) = CanBeWritten by p
CanBeDone m by (reads p) = CanBeWritten by p

-- an operation's instructions, and more in the same mode
op_spelled : RowFound → (m : Parameters) (start : Start) (by : Strategy) (mode4 : Bool) (op : Op) (rest : List Instr) → IsAccepted m → Drives m by mode4 → CanBeDone m by op
    → CanAllBeSpelled m mode4 rest → CanAllBeSpelled m mode4 (instructions m start by op ++ rest)
op_spelled found m start by mode4 (erases b) rest accepted drives can more =
    (enable_spelled m mode4, (erasing_spelled found m by mode4 b accepted drives can.within can.kind, (poll_spelled m mode4, more)))
op_spelled found m start by mode4 (writes p) rest accepted drives can more =
    let stays = programming_stays m start by mode4 p in (
      enable_spelled m mode4,
      (
        programming_spelled m start by mode4 p drives can.within can.some can.bytes,
        subst (λ mode. CanAllBeSpelled m mode (poll ∷ rest)) (sym stays) (poll_spelled m mode4, more),
      ),
    )
op_spelled found m start by mode4 (reads p) rest accepted drives can more =
    let stays = reading_stays m start by mode4 p in
    (reading_spelled found m start by mode4 p accepted drives can.within can.some, subst (λ mode. CanAllBeSpelled m mode rest) (sym stays) more)

ops_spelled : RowFound → (m : Parameters) (start : Start) (by : Strategy) (mode4 : Bool) (ops : List Op) (rest : List Instr) → IsAccepted m → Drives m by mode4
    → AllByRecursion (CanBeDone m by) ops → CanAllBeSpelled m mode4 rest → CanAllBeSpelled m mode4 (flat_map (instructions m start by) ops ++ rest)
ops_spelled found m start by mode4 [] rest accepted drives can more = more
ops_spelled found m start by mode4 (op ∷ ops) rest accepted drives can more =
    subst (CanAllBeSpelled m mode4) (sym (append_assoc (instructions m start by op) (flat_map (instructions m start by) ops) rest))
    (op_spelled found m start by mode4 op (flat_map (instructions m start by) ops ++ rest) accepted drives can.0
    (ops_spelled found m start by mode4 ops rest accepted drives can.1 more))

-- the change of mode, and more in the mode after it
enters_spelled : (m : Parameters) (by : Switch) (rest : List Instr) → m.enter ≡ by → is_there by ≡ true → CanAllBeSpelled m true rest
    → CanAllBeSpelled m false (switching_by by what.Enter 0xB7 ++ rest)
enters_spelled m Absent rest is there more = cc
enters_spelled m Plain rest is there more = (enter_spelled m false (ap is_there is), more)
enters_spelled m Latched rest is there more = (enable_spelled m false, (enter_spelled m false (ap is_there is), (disable_spelled m true, more)))

leaves_spelled : (m : Parameters) (by : Switch) → m.leave ≡ by → is_there by ≡ true → CanAllBeSpelled m true (switching_by by what.Leave 0xE9)
leaves_spelled m Absent is there = cc
leaves_spelled m Plain is there = (leave_spelled m true (ap is_there is), tt)
leaves_spelled m Latched is there = (enable_spelled m true, (leave_spelled m true (ap is_there is), (disable_spelled m false, tt)))

-- in the first mode all along
stays_spelled : RowFound → (m : Parameters) (start : Start) (by : Strategy) (mode4 : Bool) (ops : List Op) → IsAccepted m → Drives m by mode4
    → AllByRecursion (CanBeDone m by) ops → CanAllBeSpelled m mode4 (flat_map (instructions m start by) ops ++ [])
stays_spelled found m start by mode4 ops accepted drives can = ops_spelled found m start by mode4 ops [] accepted drives can tt

begins : (m : Parameters) (start : Start) (mode4 : Bool) (these : List Instr) → begins4 m start ≡ mode4 → CanAllBeSpelled m mode4 these → CanAllBeSpelled m (begins4 m start) these
begins m start mode4 these is all = subst (λ mode. CanAllBeSpelled m mode these) (sym is) all

lowered_by : RowFound → (m : Parameters) (start : Start) (by : Strategy) (op : Op) (ops : List Op) → IsAccepted m → strategy m start ≡ by
    → AllByRecursion (CanBeDone m by) (op ∷ ops) → CanAllBeSpelled m (begins4 m start) (lowered m start by (op ∷ ops))
lowered_by found m start S1 op ops accepted is can =
    begins m start true _ (begins_s1 (begins4 m start) _ _ _ (chosen m start S1 is)) (stays_spelled found m start S1 true (op ∷ ops) accepted (driven m start S1 is) can)
lowered_by found m start S2 op ops accepted is can =
    begins m start false _ (small_s2 (begins4 m start) _ _ _ (chosen m start S2 is)).0 (stays_spelled found m start S2 false (op ∷ ops) accepted (driven m start S2 is) can)
lowered_by found m start S3 op ops accepted is can =
    begins m start false _ (dedicated_s3 (begins4 m start) _ _ _ (chosen m start S3 is)).0 (stays_spelled found m start S3 false (op ∷ ops) accepted (driven m start S3 is) can)
lowered_by found m start S4 op ops accepted is can =
    let says = enters_s4 (begins4 m start) _ _ _ (chosen m start S4 is) in
    let both = and_parts (is_there m.enter) (is_there m.leave) says.1 in
    begins m start false _ says.0
    (enters_spelled m m.enter (flat_map (instructions m start S4) (op ∷ ops) ++ leaving m S4) refl both.0
    (ops_spelled found m start S4 true (op ∷ ops) (leaving m S4) accepted (driven m start S4 is) can (leaves_spelled m m.leave refl both.1)))
lowered_by found m start S5 op ops accepted is can =
    begins m start false _ (begins_s5 (begins4 m start) _ _ _ (chosen m start S5 is)) (stays_spelled found m start S5 false (op ∷ ops) accepted (driven m start S5 is) can)

pub lowered_spelled : RowFound → (m : Parameters) (start : Start) (ops : List Op) → IsAccepted m → AllByRecursion (CanBeDone m (strategy m start)) ops
    → CanAllBeSpelled m (begins4 m start) (lowered m start (strategy m start) ops)
lowered_spelled found m start [] accepted can = tt
lowered_spelled found m start (op ∷ ops) accepted can = lowered_by found m start (strategy m start) op ops accepted refl can
