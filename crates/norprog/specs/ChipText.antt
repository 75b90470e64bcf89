-- The lines that tell what a chip's tables mean (this project's).
use Rattle.std.specs.Prelude.{ℕ, ◌+◌, ◌/◌, ◌%◌, nat_lt, Bool, if◌then◌else◌, Option, Some, None, List, [], ◌∷◌, ◌++◌, codes, decimal, flat_map}
use Rattle.nor_base.specs.declared.meaning.Width.{Width}
use Rattle.nor_base.specs.declared.meaning.Width.TheVariants.{Three, Both, Four}
use Rattle.nor_base.specs.declared.meaning.Switch.{Switch}
use Rattle.nor_base.specs.declared.meaning.Switch.TheVariants.{Absent, Plain, Latched}
use Rattle.nor_base.specs.declared.meaning.Erase.{Erase}
use Rattle.nor_base.specs.declared.meaning.Region.{Region}
use Rattle.nor_base.specs.declared.meaning.QuadRead.{QuadRead}
use Rattle.nor_base.specs.Parameters.{Parameters, erase_kind}

-- a digit of a hexadecimal number, lower case
abbrev pub hex_digit : ℕ → ℕ
hex_digit n = if nat_lt n 10 then n + 48 else n + 87

-- a byte in two digits
abbrev pub hex_byte : ℕ → List ℕ
hex_byte n = hex_digit (n / 16) ∷ hex_digit (n % 16) ∷ []

abbrev pub page_end : Bool → List ℕ
page_end open_page = if open_page then codes " up\n" else codes "\n"

abbrev pub width_text : Width → List ℕ
width_text Three = codes "address three\n"
width_text Both = codes "address both\n"
width_text Four = codes "address four\n"

-- `size n`, `page n`, `address three`
abbrev pub front_text : Parameters → List ℕ
front_text m = codes "size " ++ (decimal m.size ++ (codes "\npage " ++ (decimal m.page ++ (page_end m.open_page ++ width_text m.width))))

abbrev pub op4_text : Option ℕ → List ℕ
op4_text None = codes "--"
op4_text (Some op4) = hex_byte op4

-- `erase K n OO PP`, of a kind that is present
abbrev pub erase_text : ℕ → Option Erase → List ℕ
erase_text kind None = []
erase_text kind (Some erase) =
    codes "erase " ++ (decimal kind ++ (codes " " ++ (decimal erase.size ++ (codes " " ++ (hex_byte erase.op ++ (codes " " ++ (op4_text erase.op4 ++ codes "\n")))))))

-- the kind of a number
abbrev pub kind_text : Parameters → ℕ → List ℕ
kind_text m kind = erase_text kind (erase_kind m kind)

abbrev pub erases_text : Parameters → List ℕ
erases_text m = kind_text m 1 ++ (kind_text m 2 ++ (kind_text m 3 ++ kind_text m 4))

abbrev pub switch_text : Switch → List ℕ
switch_text Absent = codes " absent\n"
switch_text Plain = codes " plain\n"
switch_text Latched = codes " latched\n"

abbrev pub read_text : QuadRead → List ℕ
read_text read = codes "quadread " ++ (hex_byte read.op ++ (codes " " ++ (decimal read.dummies ++ codes "\n")))

abbrev pub quad_read_text : Option QuadRead → List ℕ
quad_read_text None = codes "quadread none\n"
quad_read_text (Some read) = read_text read

-- an opcode, where it is offered
abbrev pub offered_text : Bool → List ℕ → List ℕ
offered_text offered opcode = if offered then opcode else []

-- `dedicated`, and the four-byte address instructions that are offered
abbrev pub dedicated_text : Parameters → List ℕ
dedicated_text m =
    codes "dedicated" ++ (offered_text m.read4 (codes " 13") ++ (offered_text m.quad_read4 (codes " 6c")
    ++ (offered_text m.program4 (codes " 12") ++ (offered_text m.quad4 (codes " 34") ++ codes "\n"))))

-- `enter W`, `leave W`
abbrev pub modes_text : Parameters → List ℕ
modes_text m = codes "enter" ++ (switch_text m.enter ++ (codes "leave" ++ switch_text m.leave))

-- `region n k`
abbrev pub region_text : Region → List ℕ
region_text region = codes "region " ++ (decimal region.size ++ (codes " " ++ (decimal region.kinds ++ codes "\n")))

unfoldable pub meaning_text : Parameters → List ℕ
meaning_text m =
    front_text m ++ (erases_text m ++ (modes_text m ++ (quad_read_text m.quad_read ++ (dedicated_text m ++ flat_map region_text m.regions))))
