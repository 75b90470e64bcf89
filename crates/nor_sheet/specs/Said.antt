-- What the words after the first of a sheet's line say: the lines that `norprog sfdp` prints (this project's).
use Rattle.std.specs.Prelude.{ℕ, ◌==◌, ◌&&◌, nat_lt, Bool, true, false, if◌then◌else◌, Option, Some, None, option_map, Result, Ok, Err, List, [], ◌∷◌, codes}
use Rattle.std.specs.List.{list_all, list_any}
use Rattle.std.specs.Option.{option_map_or}
use Rattle.std.specs.Str.{bytes_eq}
use Rattle.nor_base.specs.declared.meaning.Width.TheVariants.{Three, Both, Four}
use Rattle.nor_base.specs.declared.meaning.Switch.{Switch}
use Rattle.nor_base.specs.declared.meaning.Switch.TheVariants.{Absent, Plain, Latched}
use Rattle.nor_sheet.specs.declared.fault.LineFault.{LineFault}
use Rattle.nor_sheet.specs.declared.fault.LineFault.TheVariants.{Form, Limit}
use Rattle.nor_sheet.specs.declared.said.Said.{Said}
use Rattle.nor_sheet.specs.declared.said.Said.TheVariants as say
use Rattle.nor_sheet.specs.Limits.{is_size, is_page, is_kind, is_erase_size, is_region}
use Rattle.nor_sheet.specs.Number.{byte_of, number_of}

abbrev pub size_by : Option ℕ → Result Said LineFault
size_by (Some n) = if is_size n then Ok (say.Size n) else Err Limit
size_by None = Err Form

-- `size N`
abbrev pub size_said : List (List ℕ) → Result Said LineFault
size_said (n ∷ []) = size_by (number_of n)
size_said words = Err Form

abbrev pub page_size_by : Option ℕ → Bool → Result Said LineFault
page_size_by (Some n) open_page = if is_page n then Ok (say.Page (record { size = n; open_page = open_page })) else Err Limit
page_size_by None open_page = Err Form

abbrev pub page_by : List ℕ → Bool → Result Said LineFault
page_by n open_page = page_size_by (number_of n) open_page

-- `page N`, or `page N up`
abbrev pub page_said : List (List ℕ) → Result Said LineFault
page_said (n ∷ []) = page_by n false
page_said (n ∷ up ∷ []) = if bytes_eq up (codes "up") then page_by n true else Err Form
page_said words = Err Form

-- `address three`, `address both` or `address four`
abbrev pub address_said : List (List ℕ) → Result Said LineFault
address_said (width ∷ []) =
    if bytes_eq width (codes "three") then Ok (say.Address Three)
    else if bytes_eq width (codes "both") then Ok (say.Address Both)
    else if bytes_eq width (codes "four") then Ok (say.Address Four)
    else Err Form
address_said words = Err Form

-- a dedicated opcode, or `--` for none
abbrev pub op4_of : List ℕ → Option (Option ℕ)
op4_of word = if bytes_eq word (codes "--") then Some None else option_map Some (byte_of word)

abbrev pub erase_by : Option ℕ → Option ℕ → Option ℕ → Option (Option ℕ) → Result Said LineFault
erase_by (Some k) (Some n) (Some op) (Some op4) =
    if is_kind k && is_erase_size n then Ok (say.Kind k (record { size = n; op = op; op4 = op4 })) else Err Limit
erase_by k n op op4 = Err Form

-- `erase K N OO PP`
abbrev pub erase_said : List (List ℕ) → Result Said LineFault
erase_said (k ∷ n ∷ op ∷ op4 ∷ []) = erase_by (number_of k) (number_of n) (byte_of op) (op4_of op4)
erase_said words = Err Form

-- `absent`, `plain` or `latched`
abbrev pub switch_said : List (List ℕ) → Result Switch LineFault
switch_said (switch ∷ []) =
    if bytes_eq switch (codes "absent") then Ok Absent
    else if bytes_eq switch (codes "plain") then Ok Plain
    else if bytes_eq switch (codes "latched") then Ok Latched
    else Err Form
switch_said words = Err Form

abbrev pub quad_read_by : Option ℕ → Option ℕ → Result Said LineFault
quad_read_by (Some op) (Some dummies) = if nat_lt 38 dummies then Err Limit else Ok (say.QuadRead (Some (record { op = op; dummies = dummies })))
quad_read_by op dummies = Err Form

-- `quadread none`, or `quadread OO N`
abbrev pub quad_read_said : List (List ℕ) → Result Said LineFault
quad_read_said (none ∷ []) = if bytes_eq none (codes "none") then Ok (say.QuadRead None) else Err Form
quad_read_said (op ∷ dummies ∷ []) = quad_read_by (byte_of op) (number_of dummies)
quad_read_said words = Err Form

-- the word names the opcode
abbrev pub names : ℕ → List ℕ → Bool
names op word = option_map_or (λ byte. byte == op) (byte_of word) false

-- the word names a four-byte address instruction
abbrev pub is_dedicated : List ℕ → Bool
is_dedicated word = list_any (λ op. names op word) (0x13 ∷ 0x6C ∷ 0x12 ∷ 0x34 ∷ [])

abbrev pub are_dedicated : List (List ℕ) → Bool
are_dedicated words = list_all is_dedicated words

abbrev pub offers : ℕ → List (List ℕ) → Bool
offers op words = list_any (names op) words

-- `dedicated`, and then any of `13`, `6c`, `12` and `34`
abbrev pub dedicated_said : List (List ℕ) → Result Said LineFault
dedicated_said words =
    if are_dedicated words
    then Ok (say.Dedicated (record { read4 = offers 0x13 words; quad_read4 = offers 0x6C words; program4 = offers 0x12 words; quad4 = offers 0x34 words }))
    else Err Form

abbrev pub region_by : Option ℕ → Option ℕ → Result Said LineFault
region_by (Some size) (Some kinds) = if is_region size kinds then Ok (say.Region (record { size = size; kinds = kinds })) else Err Limit
region_by size kinds = Err Form

-- `region N K`
abbrev pub region_said : List (List ℕ) → Result Said LineFault
region_said (size ∷ kinds ∷ []) = region_by (number_of size) (number_of kinds)
region_said words = Err Form
