-- What the steps of a reading do to the bytes given so far.
use Rattle.std.specs.Prelude.{◌≢◌, ◌⊎◌, ℕ, if◌then◌else◌}
use Rattle.nor_hex.specs.declared.base.Base.{Base}
use Rattle.nor_hex.specs.Record.{Record}
use Rattle.nor_hex.specs.Image.{Lays, is_base, base_in}

-- new gives what old does, and what the record lays
pub record AddsRecord (base : Base) (line : Record) (old new : ℕ → ℕ → Type 0) : Type 0 where
  pub given : (address byte : ℕ) → new address byte → old address byte ⊎ Lays base line address byte
  pub kept : (address byte : ℕ) → old address byte → new address byte
  pub laid : (address byte : ℕ) → Lays base line address byte → new address byte

-- the record lays a byte at an address that has another byte by then
pub record Clashes (base : Base) (line : Record) (old : ℕ → ℕ → Type 0) : Type 0 where
  pub address : ℕ
  pub first : ℕ
  pub second : ℕ
  pub gives_first : old address first ⊎ Lays base line address first
  pub lays_second : Lays base line address second
  pub differ : first ≢ second

-- the base that rules after the record
abbrev pub base_past : Base → Record → Base
base_past base line = if is_base line then base_in line else base
