-- What a chip's status bits S23 to S0 say of it (W25Q256JV datasheet, status registers 1 to 3).
use Rattle.std.specs.Prelude.{ℕ, Bool, if◌then◌else◌, [], ◌∷◌, Option, Some, None}
use Rattle.std.specs.List.{list_any}
use Rattle.std.specs.Option.{option_map_or}
use Rattle.nor_base.specs.declared.meaning.Start.{Start}
use Rattle.nor_sfdp.specs.Bits.{is_set}
use Rattle.nor_job.specs.Task.{Task}

-- a bit of block protection is set: BP0 to BP3 (S2 to S5), CMP (S14) or WPS (S18). With none set nothing is protected
abbrev pub is_protected : ℕ → Bool
is_protected status = list_any (is_set status) (2 ∷ 3 ∷ 4 ∷ 5 ∷ 14 ∷ 18 ∷ [])

-- why the chip isn't idle and unprotected: BUSY (S0), WEL (S1), SUS (S15), some block protection; the first of these
unfoldable pub status_fault : Option ℕ → Option ℕ
status_fault None = None
status_fault (Some status) =
    if is_set status 0 then Some 1
    else if is_set status 1 then Some 2
    else if is_set status 15 then Some 3
    else if is_protected status then Some 4
    else None

-- how the chip begins: ADS (S16) and QE (S9) of its status; where there is none, as is said
abbrev pub start_of : Task → Start
start_of t = option_map_or (λ status. record { mode4 = is_set status 16; quad = is_set status 9 }) t.status (record { mode4 = t.mode4; quad = t.quad })
