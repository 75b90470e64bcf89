-- Planned work sends no write enable to a chip whose latch is set.
use Rattle.std.proofs.Common.{◌≡◌, not, ◌&&◌, ◌||◌, Bool, true, false, if◌then◌else◌, List, [], ◌∷◌, ◌++◌, refl, subst}
use Rattle.std.specs.Prelude.{flat_map, is_some}
use Rattle.std.specs.Option.{option_map_or}
use Rattle.std.proofs.lemmas.Bool.{and_parts}
use Rattle.nor_base.specs.declared.instruction.What.{What}
use Rattle.nor_base.specs.declared.instruction.What.TheVariants as what
use Rattle.nor_base.specs.declared.meaning.Start.{Start}
use Rattle.nor_base.specs.declared.meaning.Strategy.{Strategy}
use Rattle.nor_base.specs.declared.meaning.Strategy.TheVariants.{S1, S2, S3, S4, S5}
use Rattle.nor_base.specs.declared.meaning.Switch.{Switch}
use Rattle.nor_base.specs.declared.meaning.Switch.TheVariants.{Absent, Plain, Latched}
use Rattle.nor_base.specs.Chip.{Setting, Chip}
use Rattle.nor_base.specs.Decoding.{Instruction}
use Rattle.nor_base.specs.Effect.{after}
use Rattle.nor_base.specs.Instructions.{quad_read_dummies}
use Rattle.nor_base.specs.Operations.{Op, erases, writes, reads, at_address, instructions, programming, reading, switching_by, entering, leaving, lowered, takes_dedicated}
use Rattle.nor_base.specs.Parameters.{Parameters}
use Rattle.nor_base.specs.Programs.{Program}
use Rattle.nor_base.specs.Spelling.{Instr, mode_after}

abbrev pub is_enable : What → Bool
is_enable what.Enable = true
is_enable other = false

-- whether the latch may be set after an instruction
abbrev pub latch_after : What → Bool → Bool
latch_after what.Enable latched = true
latch_after what.Disable latched = false
latch_after (what.Erase kind) latched = false
latch_after what.Program latched = false
latch_after what.QuadProgram latched = false
latch_after other latched = latched

-- no write enable comes where it may be
abbrev pub is_calm : Bool → List Instr → Bool
is_calm latched [] = true
is_calm latched (i ∷ more) = (not (is_enable i.what) || not latched) && is_calm (latch_after i.what latched) more

either : (P : Instr → Type 0) (b : Bool) (x y : Instr) → P x → P y → P (if b then x else y)
either P true x y first second = first
either P false x y first second = second

-- an instruction that clears the latch, and one that leaves it clear
record Clears (i : Instr) : Type 0 where
  other : is_enable i.what ≡ false
  clear : (latched : Bool) → latch_after i.what latched ≡ false

record Leaves (i : Instr) : Type 0 where
  other : is_enable i.what ≡ false
  leaves : latch_after i.what false ≡ false

program_clears : (m : Parameters) (start : Start) (by : Strategy) (p : Program) → Clears (programming m start by p)
program_clears m start by p =
    either Clears (start.quad && m.quad4) (record { what = what.QuadProgram; op = 0x34; address = p.at; width = 4; dummies = 0; bytes = p.bytes })
    (if start.quad && (m.quad3 && not (takes_dedicated by p.at)) then at_address by what.QuadProgram 0x32 0x34 0 p.at p.bytes
    else at_address by what.Program 0x02 0x12 0 p.at p.bytes)
    (record { other = refl; clear = λ latched. refl })
    (either Clears (start.quad && (m.quad3 && not (takes_dedicated by p.at))) (at_address by what.QuadProgram 0x32 0x34 0 p.at p.bytes)
    (at_address by what.Program 0x02 0x12 0 p.at p.bytes) (record { other = refl; clear = λ latched. refl }) (record { other = refl; clear = λ latched. refl }))

read_leaves : (m : Parameters) (start : Start) (by : Strategy) (p : Program) → Leaves (reading m start by p)
read_leaves m start by p =
    either Leaves (start.quad && m.quad_read4) (record { what = what.QuadRead; op = 0x6C; address = p.at; width = 4; dummies = quad_read_dummies m; bytes = p.bytes })
    (if start.quad && (is_some m.quad_read && not (takes_dedicated by p.at))
    then at_address by what.QuadRead (option_map_or (λ q. q.op) m.quad_read 0) 0x6C (quad_read_dummies m) p.at p.bytes
    else at_address by what.Read 0x03 0x13 0 p.at p.bytes)
    (record { other = refl; leaves = refl })
    (either Leaves (start.quad && (is_some m.quad_read && not (takes_dedicated by p.at)))
    (at_address by what.QuadRead (option_map_or (λ q. q.op) m.quad_read 0) 0x6C (quad_read_dummies m) p.at p.bytes)
    (at_address by what.Read 0x03 0x13 0 p.at p.bytes) (record { other = refl; leaves = refl }) (record { other = refl; leaves = refl }))

ops_calm : (m : Parameters) (start : Start) (by : Strategy) (ops : List Op) (rest : List Instr) → is_calm false rest ≡ true
    → is_calm false (flat_map (instructions m start by) ops ++ rest) ≡ true
ops_calm m start by [] rest later = later
ops_calm m start by (erases b ∷ ops) rest later = ops_calm m start by ops rest later
ops_calm m start by (writes p ∷ ops) rest later =
    let c = program_clears m start by p in rw (c.other, c.clear true) (ops_calm m start by ops rest later)
ops_calm m start by (reads p ∷ ops) rest later =
    let c = read_leaves m start by p in rw (c.other, c.leaves) (ops_calm m start by ops rest later)

entered_calm : (w : Switch) (rest : List Instr) → is_calm false rest ≡ true → is_calm false (switching_by w what.Enter 0xB7 ++ rest) ≡ true
entered_calm Absent rest later = later
entered_calm Plain rest later = later
entered_calm Latched rest later = later

left_calm : (w : Switch) → is_calm false (switching_by w what.Leave 0xE9) ≡ true
left_calm Absent = refl
left_calm Plain = refl
left_calm Latched = refl

entering_calm : (m : Parameters) (by : Strategy) (rest : List Instr) → is_calm false rest ≡ true → is_calm false (entering m by ++ rest) ≡ true
entering_calm m S1 rest later = later
entering_calm m S2 rest later = later
entering_calm m S3 rest later = later
entering_calm m S4 rest later = entered_calm m.enter rest later
entering_calm m S5 rest later = later

leaving_calm : (m : Parameters) (by : Strategy) → is_calm false (leaving m by) ≡ true
leaving_calm m S1 = refl
leaving_calm m S2 = refl
leaving_calm m S3 = refl
leaving_calm m S4 = left_calm m.leave
leaving_calm m S5 = refl

pub lowered_calm : (m : Parameters) (start : Start) (by : Strategy) (ops : List Op) → is_calm false (lowered m start by ops) ≡ true
lowered_calm m start by [] = refl
lowered_calm m start by (op ∷ ops) =
    entering_calm m by (flat_map (instructions m start by) (op ∷ ops) ++ leaving m by) (ops_calm m start by (op ∷ ops) (leaving m by) (leaving_calm m by))

-- what an instruction that the chip takes leaves
pub mode_of : (s : Setting) (c : Chip) (i : Instruction) (w : What) → (after s c i w).mode4 ≡ mode_after w c.mode4
unfolding after
mode_of s c i what.Enable = refl
mode_of s c i what.Disable = refl
mode_of s c i what.Status = refl
mode_of s c i what.Enter = refl
mode_of s c i what.Leave = refl
mode_of s c i (what.Erase kind) = refl
mode_of s c i what.Program = refl
mode_of s c i what.QuadProgram = refl
mode_of s c i what.Read = refl
mode_of s c i what.QuadRead = refl
mode_of s c i what.Broken = refl

kept : (latch keeps : Bool) → latch ≡ false → latch && keeps ≡ false
kept false keeps none = refl
kept true keeps none = cc

pub latch_of : (s : Setting) (c : Chip) (i : Instruction) (w : What) (latched : Bool) → (latched ≡ false → c.latch ≡ false) → latch_after w latched ≡ false
    → (after s c i w).latch ≡ false
unfolding after
latch_of s c i what.Enable latched clear none = cc
latch_of s c i what.Disable latched clear none = refl
latch_of s c i what.Status latched clear none = clear none
latch_of s c i what.Enter latched clear none = kept c.latch s.keeps (clear none)
latch_of s c i what.Leave latched clear none = kept c.latch s.keeps (clear none)
latch_of s c i (what.Erase kind) latched clear none = refl
latch_of s c i what.Program latched clear none = refl
latch_of s c i what.QuadProgram latched clear none = refl
latch_of s c i what.Read latched clear none = clear none
latch_of s c i what.QuadRead latched clear none = clear none
latch_of s c i what.Broken latched clear none = clear none

-- the first instruction is a write enable, so the latch is clear
pub calm_now : (latched : Bool) (i : Instr) (more : List Instr) → i.what ≡ what.Enable → is_calm latched (i ∷ more) ≡ true → latched ≡ false
calm_now latched i more is calm =
    let first = (and_parts (not (is_enable i.what) || not latched) (is_calm (latch_after i.what latched) more) calm).0 in
    by latched (subst (λ w. (not (is_enable w) || not latched) ≡ true) is first)
  where
    by : (b : Bool) → (not (is_enable what.Enable) || not b) ≡ true → b ≡ false
    by true h = cc
    by false h = refl

pub calm_later : (latched : Bool) (i : Instr) (more : List Instr) → is_calm latched (i ∷ more) ≡ true → is_calm (latch_after i.what latched) more ≡ true
calm_later latched i more calm = (and_parts (not (is_enable i.what) || not latched) (is_calm (latch_after i.what latched) more) calm).1
