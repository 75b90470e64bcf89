-- What is printed of a refusal, and the status that it ends with (this project's).
use Rattle.std.specs.Prelude.{ℕ, List, ◌++◌, codes, decimal, string_bytes}
use Rattle.nor_base.specs.Script.{closed}
use Rattle.nor_hex.specs.declared.fault.HexFault.{HexFault}
use Rattle.nor_hex.specs.declared.fault.HexFault.TheVariants as hex
use Rattle.nor_layout.specs.declared.fault.LayoutFault.{LayoutFault}
use Rattle.nor_layout.specs.declared.fault.LayoutFault.TheVariants as layout
use Rattle.nor_sfdp.specs.declared.fault.SfdpFault.{SfdpFault}
use Rattle.nor_sfdp.specs.declared.fault.SfdpFault.TheVariants as sfdp
use Rattle.nor_sheet.specs.declared.fault.Lack.{Lack}
use Rattle.nor_sheet.specs.declared.fault.Lack.TheVariants as lack
use Rattle.nor_sheet.specs.declared.fault.LineFault.{LineFault}
use Rattle.nor_sheet.specs.declared.fault.LineFault.TheVariants as line
use Rattle.nor_sheet.specs.declared.fault.SheetFault.{SheetFault}
use Rattle.nor_sheet.specs.declared.fault.SheetFault.TheVariants as sheet
use Rattle.nor_job.specs.declared.fault.BuildFault.{BuildFault}
use Rattle.nor_job.specs.declared.fault.BuildFault.TheVariants as build
use Rattle.nor_geometry.specs.declared.fault.PlanFault.{PlanFault}
use Rattle.nor_geometry.specs.declared.fault.PlanFault.TheVariants as plan
use Rattle.nor_script.specs.declared.fault.ScriptFault.{ScriptFault}
use Rattle.nor_script.specs.declared.fault.ScriptFault.TheVariants as script
use Rattle.nor_script.specs.Hexadecimal.{hex_number}
use Rattle.norprog_common.specs.declared.faults.Behind.{Behind}
use Rattle.norprog_common.specs.declared.faults.Behind.TheVariants.{Nothing, Number, Address}
use Rattle.norprog_common.specs.declared.faults.FileName.{FileName}
use Rattle.norprog_common.specs.declared.faults.Gap.{Gap}
use Rattle.norprog_common.specs.declared.faults.Length.{Length}
use Rattle.norprog_common.specs.declared.faults.Stray.{Stray}
use Rattle.norprog_common.specs.declared.faults.FileName.TheVariants as file
use Rattle.norprog_common.specs.declared.faults.Refusal.{Refusal}
use Rattle.norprog_common.specs.declared.faults.Refusal.TheVariants.{Text, Usage, File, Build, Page, Script, BinSize, BinLength, BinRegion, Conflict, Steps, EmptyRegion, Partial, Beyond, Nowhere, Log}

-- words, and what stands behind them: a number in decimal, or an address in eight hexadecimal digits
abbrev pub spelled : List ℕ → Behind → List ℕ
spelled words Nothing = words
spelled words (Number number) = words ++ decimal number
spelled words (Address address) = words ++ hex_number address

-- `hex n line k`
abbrev pub hex_text : HexFault → List ℕ
hex_text (hex.NoColon line) = codes "hex 1 line " ++ decimal line
hex_text (hex.BadDigit line) = codes "hex 2 line " ++ decimal line
hex_text (hex.BadLength line) = codes "hex 3 line " ++ decimal line
hex_text (hex.BadSum line) = codes "hex 4 line " ++ decimal line
hex_text (hex.BadType line) = codes "hex 5 line " ++ decimal line
hex_text (hex.Conflict line) = codes "hex 6 line " ++ decimal line
hex_text (hex.NoEnd line) = codes "hex 7 line " ++ decimal line
hex_text (hex.AfterEnd line) = codes "hex 8 line " ++ decimal line
hex_text hex.Memory = codes "memory"

-- `layout n line k`, or `layout 6 region i`
abbrev pub layout_text : LayoutFault → List ℕ
layout_text (layout.BadLine line) = codes "layout 1 line " ++ decimal line
layout_text (layout.BadNumber line) = codes "layout 2 line " ++ decimal line
layout_text (layout.EndBeforeStart line) = codes "layout 3 line " ++ decimal line
layout_text (layout.RepeatedName line) = codes "layout 4 line " ++ decimal line
layout_text (layout.TooMany line) = codes "layout 5 line " ++ decimal line
layout_text (layout.UnknownRegion index) = codes "layout 6 region " ++ decimal index
layout_text layout.Memory = codes "memory"

-- `sfdp n`
abbrev pub sfdp_text : SfdpFault → List ℕ
sfdp_text sfdp.Signature = codes "sfdp 1"
sfdp_text sfdp.Truncated = codes "sfdp 2"
sfdp_text sfdp.NoBasic = codes "sfdp 3"
sfdp_text sfdp.Major = codes "sfdp 4"
sfdp_text sfdp.ShortTable = codes "sfdp 5"
sfdp_text sfdp.Density = codes "sfdp 6"
sfdp_text sfdp.AddressBytes = codes "sfdp 7"
sfdp_text sfdp.PageSize = codes "sfdp 8"
sfdp_text sfdp.EraseSize = codes "sfdp 9"
sfdp_text sfdp.MapForm = codes "sfdp 10"
sfdp_text sfdp.ConfigBits = codes "sfdp 11"
sfdp_text sfdp.NoMap = codes "sfdp 12"
sfdp_text sfdp.MapSize = codes "sfdp 13"
sfdp_text sfdp.Opcode = codes "sfdp 14"

-- `sheet n line `
abbrev pub line_text : LineFault → List ℕ
line_text line.Word = codes "sheet 1 line "
line_text line.Form = codes "sheet 2 line "
line_text line.Limit = codes "sheet 3 line "
line_text line.Twice = codes "sheet 4 line "

-- `sheet n`
abbrev pub lack_text : Lack → List ℕ
lack_text lack.Size = codes "sheet 5"
lack_text lack.Page = codes "sheet 6"
lack_text lack.Address = codes "sheet 7"
lack_text lack.Kind = codes "sheet 8"
lack_text lack.Regions = codes "sheet 9"
lack_text lack.Mode = codes "sheet 10"
lack_text lack.QuadRead = codes "sheet 11"
lack_text lack.Opcode = codes "sheet 12"

-- `sheet n line k`, or `sheet n`
abbrev pub sheet_text : SheetFault → List ℕ
sheet_text (sheet.Line number fault) = line_text fault ++ decimal number
sheet_text (sheet.Whole lack) = lack_text lack

-- `plan n at AAAAAAAA`
abbrev pub plan_text : PlanFault → List ℕ
plan_text (plan.NoErase address) = codes "plan 1 at " ++ hex_number address
plan_text (plan.Unreachable address) = codes "plan 2 at " ++ hex_number address
plan_text plan.Memory = codes "memory"

-- `script n line k`
abbrev pub script_text : ScriptFault → List ℕ
script_text (script.Header line) = codes "script 1 line " ++ decimal line
script_text (script.BadLine line) = codes "script 2 line " ++ decimal line
script_text (script.BadSymbol line) = codes "script 3 line " ++ decimal line
script_text (script.BadCount line) = codes "script 4 line " ++ decimal line
script_text (script.NoEnd line) = codes "script 5 line " ++ decimal line
script_text (script.AfterEnd line) = codes "script 6 line " ++ decimal line
script_text script.Memory = codes "memory"

abbrev pub fault_text : BuildFault → List ℕ
fault_text (build.Contradiction number) = codes "contradiction " ++ decimal number
fault_text (build.Hex fault) = hex_text fault
fault_text (build.Layout fault) = layout_text fault
fault_text (build.Sfdp fault) = sfdp_text fault
fault_text (build.Sheet fault) = sheet_text fault
fault_text (build.Status number) = codes "status " ++ decimal number
fault_text build.ModeImpossible = codes "mode"
fault_text build.ContentSize = codes "content size"
fault_text (build.Plan fault) = plan_text fault
fault_text build.ContentShort = codes "content short"
fault_text build.Read = codes "read"
fault_text build.Write = codes "write"
fault_text build.Memory = codes "memory"

abbrev pub file_text : FileName → List ℕ
file_text file.Hex = codes "file hex"
file_text file.Layout = codes "file layout"
file_text file.Sfdp = codes "file sfdp"
file_text file.Sheet = codes "file sheet"
file_text file.Content = codes "file content"
file_text file.Script = codes "file script"
file_text file.Out = codes "file out"
file_text file.Map = codes "file map"
file_text file.Device = codes "file device"
file_text file.Bin = codes "file bin"
file_text file.Tables = codes "file tables"
file_text file.Before = codes "file before"
file_text file.Resume = codes "file resume"
file_text file.Log = codes "file log"

-- `partial region i: n of m bytes, first missing AAAAAAAA`
abbrev pub partial_text : Gap → List ℕ
partial_text gap =
    codes "partial region "
    ++ (decimal gap.index
    ++ (codes ": "
    ++ (decimal gap.given ++ (codes " of " ++ (decimal gap.size ++ (codes " bytes, first missing " ++ hex_number gap.first))))))

-- `beyond n bytes, first AAAAAAAA`
abbrev pub beyond_text : Stray → List ℕ
beyond_text stray = codes "beyond " ++ (decimal stray.count ++ (codes " bytes, first " ++ hex_number stray.first))

-- `bin size: n bytes, m wanted`
abbrev pub length_text : Length → List ℕ
length_text length = codes "bin size: " ++ (decimal length.given ++ (codes " bytes, " ++ (decimal length.wanted ++ codes " wanted")))

-- `norprog: `, a text, LF
abbrev pub program_line : List ℕ → List ℕ
program_line text = codes "norprog: " ++ closed text

-- all that is printed of a refusal
abbrev pub printed : Refusal → List ℕ
printed (Text text) = string_bytes text
printed Usage = program_line (codes "usage")
printed (File name) = program_line (file_text name)
printed (Build fault) = program_line (fault_text fault)
printed Page = program_line (codes "page")
printed (Script fault) = program_line (script_text fault)
printed BinSize = program_line (codes "bin size")
printed (BinLength length) = program_line (length_text length)
printed BinRegion = program_line (codes "bin region")
printed (Conflict address) = program_line (codes "conflict at " ++ hex_number address)
printed (Steps number) = program_line (codes "script steps " ++ decimal number)
printed (EmptyRegion index) = program_line (codes "empty region " ++ decimal index)
printed (Partial gap) = program_line (partial_text gap)
printed (Beyond stray) = program_line (beyond_text stray)
printed Nowhere = program_line (codes "image lands nowhere")
printed (Log line) = program_line (codes "log line " ++ decimal line)

-- 2 where the command line is at fault or asks for help, else 1
abbrev pub status_after : Refusal → ℕ
status_after (Text text) = 2
status_after Usage = 2
status_after (File name) = 1
status_after (Build fault) = 1
status_after Page = 1
status_after (Script fault) = 1
status_after BinSize = 1
status_after (BinLength length) = 1
status_after BinRegion = 1
status_after (Conflict address) = 1
status_after (Steps number) = 1
status_after (EmptyRegion index) = 1
status_after (Partial gap) = 1
status_after (Beyond stray) = 1
status_after Nowhere = 1
status_after (Log line) = 1

-- a script's fault as a refusal: out of memory is the program's own
abbrev pub script_refusal : ScriptFault → Refusal
script_refusal script.Memory = Build build.Memory
script_refusal fault = Script fault
