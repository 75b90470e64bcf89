-- What a line of a sheet says, by its first word (this project's).
use Rattle.std.specs.Prelude.{ℕ, if◌then◌else◌, Option, Some, None, Result, Ok, Err, List, [], ◌∷◌, codes}
use Rattle.std.specs.Str.{bytes_eq}
use Rattle.nor_base.specs.declared.meaning.Switch.{Switch}
use Rattle.nor_sheet.specs.declared.fault.LineFault.{LineFault}
use Rattle.nor_sheet.specs.declared.fault.LineFault.TheVariants.{Word, Form}
use Rattle.nor_sheet.specs.declared.said.Said.{Said}
use Rattle.nor_sheet.specs.declared.said.Said.TheVariants as say
use Rattle.nor_sheet.specs.Said.{size_said, page_said, address_said, erase_said, switch_said, quad_read_said, dedicated_said, region_said}
use Rattle.nor_sheet.specs.Words.{at_most, words_of}

-- a switch that was read, of entering or of leaving
abbrev pub switched : (Switch → Said) → Result Switch LineFault → Result Said LineFault
switched which (Ok switch) = Ok (which switch)
switched which (Err fault) = Err fault

abbrev pub said_by : List ℕ → List (List ℕ) → Result Said LineFault
said_by name words =
    if bytes_eq name (codes "size") then size_said words
    else if bytes_eq name (codes "page") then page_said words
    else if bytes_eq name (codes "address") then address_said words
    else if bytes_eq name (codes "erase") then erase_said words
    else if bytes_eq name (codes "enter") then switched say.Enter (switch_said words)
    else if bytes_eq name (codes "leave") then switched say.Leave (switch_said words)
    else if bytes_eq name (codes "quadread") then quad_read_said words
    else if bytes_eq name (codes "dedicated") then dedicated_said words
    else if bytes_eq name (codes "region") then region_said words
    else Err Word

abbrev pub some_said : Result Said LineFault → Result (Option Said) LineFault
some_said (Ok said) = Ok (Some said)
some_said (Err fault) = Err fault

-- nothing, where there are no words
abbrev pub words_say : List (List ℕ) → Result (Option Said) LineFault
words_say [] = Ok None
words_say (name ∷ words) = some_said (said_by name words)

abbrev pub few_say : Option (List (List ℕ)) → Result (Option Said) LineFault
few_say (Some words) = words_say words
few_say None = Err Form

-- a line has at most five words
abbrev pub line_says : List ℕ → Result (Option Said) LineFault
line_says line = few_say (at_most 5 (words_of line))
