-- What a line of a log says (this project's).
use Rattle.std.specs.Prelude.{ℕ, ◌*◌, ◌==◌, ◌&&◌, ◌||◌, nat_lt, not, Bool, false, if◌then◌else◌, List, [], ◌∷◌, ◌++◌, length, codes, flat_map, replicate, Option, None, Some, option_map}
use Rattle.std.specs.List.{before_first, after_first}
use Rattle.std.specs.Str.{bytes_eq}
use Rattle.nor_base.specs.declared.step.Step.{Step}
use Rattle.nor_base.specs.declared.step.Step.TheVariants.{Send, Poll, Verify}
use Rattle.nor_base.specs.Clocks.{bits}
use Rattle.nor_base.specs.Run.{poll_clocks}
use Rattle.nor_base.specs.Array.{is_filled}
use Rattle.nor_log.specs.declared.line.Answer.{Answer}
use Rattle.nor_log.specs.declared.line.Answer.TheVariants.{Any, Same}
use Rattle.nor_log.specs.declared.line.Said.{Said}
use Rattle.nor_log.specs.declared.line.Said.TheVariants.{Nothing, Does, Strange}
use Rattle.nor_log.specs.Words.{bare, bytes_of, count_of}

abbrev pub is_hash : ℕ → Bool
is_hash byte = byte == 0x23

abbrev pub is_mark : ℕ → Bool
is_mark byte = byte == 0x3E

-- what comes after `>`: `N bytes`, whatever they are, or bytes
abbrev pub answer_by : Option ℕ → List ℕ → Option Answer
answer_by (Some n) text = Some (Any n)
answer_by None text = option_map Same (bytes_of text)

abbrev pub answer_of : List ℕ → Option Answer
answer_of text = answer_by (count_of (bare text)) text

-- how many bytes are read
abbrev pub count_read : Answer → ℕ
count_read (Any n) = n
count_read (Same bytes) = length bytes

-- the clocks that send bytes on one lane, and then read some
abbrev pub asking : List ℕ → ℕ → List ℕ
asking sent n = flat_map bits sent ++ replicate (8 * n) 0x2E

-- the step that sends bytes: it expects those that were read, where they are told and there are some
abbrev pub step_by : List ℕ → Answer → Step
step_by sent (Any n) = Send (asking sent n)
step_by sent (Same []) = Send (asking sent 0)
step_by sent (Same (byte ∷ bytes)) = Verify (asking sent (length (byte ∷ bytes))) (byte ∷ bytes)

-- an opcode that reads an identification or a register that norprog doesn't know, and how many bytes are sent after it: none of
-- `9F`, `15` and `35`; three of `AB`, `90` and `5A`, whose dummy byte may also be sent
abbrev pub is_register : ℕ → ℕ → Bool
is_register op others =
    ((op == 0x9F || (op == 0x15 || op == 0x35)) && others == 0)
    || (((op == 0xAB || (op == 0x90 || op == 0x5A)) && others == 3) || (op == 0x5A && others == 4))

-- such a read, which reads something
abbrev pub is_identity : List ℕ → ℕ → Bool
is_identity [] n = false
is_identity (op ∷ others) n = is_register op (length others) && nat_lt 0 n

-- a transaction that sends something
abbrev pub said_by : Option (List ℕ) → Option Answer → Said
said_by (Some (op ∷ others)) (Some answer) = Does (step_by (op ∷ others) answer) (is_identity (op ∷ others) (count_read answer))
said_by (Some []) (Some answer) = Strange
said_by (Some sent) None = Strange
said_by None answer = Strange

-- a bare text without a comment: nothing; `poll`; or what is sent, and after `>` what is read
abbrev pub text_says : List ℕ → Said
text_says text =
    if not (is_filled text) then Nothing
    else if bytes_eq text (codes "poll") then Does (Poll poll_clocks) false
    else said_by (bytes_of (before_first is_mark text)) (answer_of (after_first is_mark text))

-- a line, whose comment begins with `#`
abbrev pub line_says : List ℕ → Said
line_says line = text_says (bare (before_first is_hash line))
