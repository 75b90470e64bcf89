-- Detection commands, one at a time.
use Rattle.std.proofs.Common.{◌≡◌, ℕ, zero, suc, ◌+◌, ◌-◌, ◌*◌, ◌<◌, ◌≤◌, true, false, List, refl, sym, ap, ◌∙◌, arith}
use Rattle.std.specs.Prelude.{Ok, Err}
use Rattle.std.proofs.lemmas.Bool.{lt-ltb, le-ltb}
use Rattle.nor_sfdp.specs.declared.fault.SfdpFault.TheVariants.{MapForm}
use Rattle.nor_sfdp.specs.Bits.{dword_count}
use Rattle.nor_sfdp.specs.SectorMap.{is_command, commands_from, accepted_count, command_count_of}

one_more : (n : ℕ) (table : List ℕ) (at : ℕ) → is_command table at ≡ true → commands_from (suc n) table at ≡ suc (commands_from n table (at + 2))
one_more n table at is = rw is refl

no_more : (n : ℕ) (table : List ℕ) (at : ℕ) → is_command table at ≡ false → commands_from n table at ≡ 0
no_more zero table at is = refl
no_more (suc n) table at is = rw is refl

-- a command is counted
pub command_counted : (table : List ℕ) (dwords at count total : ℕ) → at ≡ 2 * count + 1 → at ≤ dwords → true ≡ is_command table at
    → count + commands_from (dwords - count) table at ≡ total → count + 1 + commands_from (dwords - (count + 1)) table (at + 2) ≡ total
command_counted table dwords at count total place within is counted =
    let fuel : dwords - count ≡ suc (dwords - (count + 1)) = omega arith in
    let more : commands_from (dwords - count) table at ≡ suc (commands_from (dwords - (count + 1)) table (at + 2)) =
    ap (λ (n : ℕ). commands_from n table at) fuel ∙ one_more (dwords - (count + 1)) table at (sym is) in
    omega (arith, counted, more)

-- no command is left
pub commands_counted : (table : List ℕ) (dwords at count : ℕ) → dwords ≡ dword_count table → false ≡ is_command table at
    → count + commands_from (dwords - count) table at ≡ commands_from dwords table 1 → command_count_of table ≡ accepted_count table count
unfolding command_count_of
commands_counted table dwords at count all is counted =
    let none = no_more (dwords - count) table at (sym is) in
    let total : commands_from (dword_count table) table 1 ≡ count = ap (λ (n : ℕ). commands_from n table 1) (sym all) ∙ omega (arith, counted, none) in
    ap (accepted_count table) total

pub too_many : (table : List ℕ) (count : ℕ) → 8 < count → accepted_count table count ≡ Err MapForm
too_many table count many = rw (lt-ltb 8 count many) refl

pub past_the_end : (table : List ℕ) (count : ℕ) → count ≤ 8 → dword_count table < 2 * count → accepted_count table count ≡ Err MapForm
past_the_end table count few past = rw (le-ltb 8 count few, lt-ltb (dword_count table) (2 * count) past) refl

pub count_taken : (table : List ℕ) (count : ℕ) → count ≤ 8 → 2 * count ≤ dword_count table → accepted_count table count ≡ Ok count
count_taken table count few within = rw (le-ltb 8 count few, le-ltb (dword_count table) (2 * count) within) refl
