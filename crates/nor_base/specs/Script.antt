-- The text of a bus script (this project's format): a header line, a line for each step, an end line with the number of
-- steps, each closed by one LF, and nothing else.
use Rattle.std.specs.Prelude.{◌≡◌, ℕ, ◌/◌, ◌%◌, ◌+◌, nat_lt, if◌then◌else◌, List, [], ◌∷◌, ◌++◌, length, codes, decimal, flat_map}
use Rattle.std.specs.List.{AllByRecursion}
use Rattle.nor_base.specs.declared.step.Step.{Step}
use Rattle.nor_base.specs.declared.step.Step.TheVariants.{Send, Poll, Verify}
use Rattle.nor_base.specs.Step.{IsStep}

-- a line and its LF
abbrev pub closed : List ℕ → List ℕ
closed line = line ++ 0x0A ∷ []

-- the lower-case hexadecimal digit of a number below 16: `0` to `9`, `a` to `f`
abbrev pub hex_digit : ℕ → ℕ
hex_digit n = if nat_lt n 10 then 0x30 + n else 0x57 + n

-- the two digits of a byte
abbrev pub hex_pair : ℕ → List ℕ
hex_pair byte = hex_digit (byte / 16) ∷ hex_digit (byte % 16) ∷ []

-- the line of a step: `x CLOCKS`, `p CLOCKS` or `v CLOCKS HEX`
unfoldable pub step_line : Step → List ℕ
step_line (Send clocks) = codes "x " ++ clocks
step_line (Poll clocks) = codes "p " ++ clocks
step_line (Verify clocks expect) = codes "v " ++ (clocks ++ (codes " " ++ flat_map hex_pair expect))

unfoldable pub header : List ℕ
header = closed (codes "norscript 1")

-- `end N`, N in decimal without leading zeros (std's `decimal`, which is right below 10^64)
unfoldable pub end_line : ℕ → List ℕ
end_line n = closed (codes "end " ++ decimal n)

unfoldable pub step_lines : List Step → List ℕ
step_lines steps = flat_map (λ step. closed (step_line step)) steps

-- the text of these steps
unfoldable pub script_text : List Step → List ℕ
script_text steps = header ++ (step_lines steps ++ end_line (length steps))

-- the bytes are the text of these steps
pub record IsScript (text : List ℕ) (steps : List Step) : Type 0 where
  pub each : AllByRecursion IsStep steps
  pub spelled : text ≡ script_text steps
