-- Values of the definitions, worked out by hand.
use Rattle.std.specs.Prelude.{◌≡◌, ℕ, ◌++◌, true, false, List, [], ◌∷◌, codes, replicate, Some, None, Ok, Err}
use Rattle.nor_sfdp.specs.declared.fault.SfdpFault.TheVariants as sfdp
use Rattle.nor_sfdp.specs.Reading.{density_of}
use Rattle.nor_reader.specs.declared.own.AddressRegister.TheVariants.{Extended, Bank}
use Rattle.nor_reader.specs.Own.{register_of, opcode_of, is_moved}

-- SFDP bytes with one table, of this ID's low byte and so many DWORDs: its DWORD 2 is 0000FFFFh, 8 KiB, and bits 31:24 of DWORD 16 are these
abbrev pub one_table : ℕ → ℕ → ℕ → List ℕ
one_table id dwords high =
    codes "SFDP" ++ (0x06 ∷ 0x01 ∷ 0x00 ∷ 0xFF ∷ id ∷ 0x06 ∷ 0x01 ∷ dwords ∷ 0x10 ∷ 0x00 ∷ 0x00 ∷ 0xFF ∷ [])
    ++ replicate 4 0 ++ (0xFF ∷ 0xFF ∷ 0x00 ∷ 0x00 ∷ []) ++ replicate 55 0 ++ (high ∷ [])

abbrev pub basic : ℕ → ℕ → List ℕ
basic dwords high = one_table 0x00 dwords high

pub record AreDensities : Type 0 where
  pub of_basic : density_of (basic 16 0x00) ≡ Ok 8192
  -- DWORDs 1 and 2 are all
  pub of_two : density_of (basic 2 0x00) ≡ Ok 8192
  pub of_one : density_of (basic 1 0x00) ≡ Err sfdp.Density
  pub of_another : density_of (one_table 0x81 16 0x00) ≡ Err sfdp.NoBasic

pub record AreRegistersRead : Type 0 where
  pub by_26 : register_of (basic 16 0x04) ≡ Some Extended
  pub by_27 : register_of (basic 16 0x08) ≡ Some Bank
  pub by_both : register_of (basic 16 0x0C) ≡ Some Extended
  pub by_none : register_of (basic 16 0xF3) ≡ None
  -- DWORD 16 isn't there
  pub too_short : register_of (basic 15 0x04) ≡ None
  pub of_another : register_of (one_table 0x81 16 0x04) ≡ None
  pub of_none : register_of [] ≡ None

pub record AreOpcodes : Type 0 where
  pub of_extended : opcode_of Extended ≡ 200
  pub of_bank : opcode_of Bank ≡ 22

pub record AreValuesRead : Type 0 where
  pub at_first : is_moved Extended 0x00 ≡ false
  pub far : is_moved Extended 0x80 ≡ true
  pub bank_at_first : is_moved Bank 0x80 ≡ false
  pub bank_far : is_moved Bank 0xC0 ≡ true
