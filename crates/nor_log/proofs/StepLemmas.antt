-- The step of a line is one that a script may have.
use Rattle.std.proofs.Common.{◌≡◌, ℕ, zero, suc, ◌+◌, ◌*◌, ◌/◌, ◌%◌, ◌^◌, ◌<◌, ◌&&◌, not, Bool, true, false, List, [], ◌∷◌, ◌++◌, length, Option, Some, None, refl, arith}
use Rattle.std.specs.Prelude.{⊤, codes, flat_map, replicate, option_map, if◌then◌else◌, IfSome}
use Rattle.std.specs.Char.{is_digit, digit_value}
use Rattle.std.specs.List.{list_all, before_first, after_first, AllByRecursion}
use Rattle.std.specs.Str.{bytes_eq}
use Rattle.std.proofs.lemmas.Bool.{and_parts, agree_below_at, ltb-true, lt-ltb}
use Rattle.nor_base.proofs.ListLaws.{all_append}
use Rattle.nor_base.specs.Array.{are_bytes, is_filled}
use Rattle.nor_base.specs.Clocks.{bits}
use Rattle.nor_base.specs.Run.{poll_clocks}
use Rattle.nor_base.specs.Sample.{is_symbol}
use Rattle.nor_base.specs.Step.{are_clocks, IsStep}
use Rattle.nor_base.specs.declared.step.Step.TheVariants.{Poll}
use Rattle.nor_lines.specs.Lines.{is_blank}
use Rattle.nor_log.specs.declared.line.Answer.{Answer}
use Rattle.nor_log.specs.declared.line.Answer.TheVariants.{Any, Same}
use Rattle.nor_log.specs.declared.line.Said.{Said}
use Rattle.nor_log.specs.declared.line.Said.TheVariants.{Nothing, Does, Strange}
use Rattle.nor_log.specs.Words.{bare, byte_of, before_all, bytes_of, count_of}
use Rattle.nor_log.specs.Line.{is_hash, is_mark, answer_by, answer_of, asking, step_by, said_by, line_says}
use Rattle.nor_log.specs.Log.{kept, steps_of}

-- the clocks are symbols, and some
all_join : (p : ℕ → Bool) (xs ys : List ℕ) → list_all p xs ≡ true → list_all p ys ≡ true → list_all p (xs ++ ys) ≡ true
all_join p [] ys first second = second
all_join p (x ∷ xs) ys first second =
    let parts = and_parts (p x) (list_all p xs) first in
    rw (parts.0, all_join p xs ys parts.1 second) refl

all_same : (p : ℕ → Bool) (n x : ℕ) → p x ≡ true → list_all p (replicate n x) ≡ true
all_same p zero x is = refl
all_same p (suc n) x is = rw (is, all_same p n x is) refl

bit_below : (r : ℕ) → r < 2 → is_symbol (0x30 + r) ≡ true
bit_below r small = agree_below_at (λ k. is_symbol (0x30 + k)) (λ k. true) 2 r refl small

some_bit : (n : ℕ) → is_symbol (0x30 + n % 2) ≡ true
some_bit n = bit_below (n % 2) (omega arith)

bits_symbols : (byte : ℕ) → list_all is_symbol (bits byte) ≡ true
unfolding bits
bits_symbols byte =
    rw (some_bit (byte / 2 ^ 7), some_bit (byte / 2 ^ 6), some_bit (byte / 2 ^ 5), some_bit (byte / 2 ^ 4), some_bit (byte / 2 ^ 3), some_bit (byte / 2 ^ 2), some_bit (byte / 2 ^ 1), some_bit (byte / 2 ^ 0)) refl

sent_symbols : (bytes : List ℕ) → list_all is_symbol (flat_map bits bytes) ≡ true
sent_symbols [] = refl
sent_symbols (b ∷ bytes) = all_join is_symbol (bits b) (flat_map bits bytes) (bits_symbols b) (sent_symbols bytes)

asking_filled : (op : ℕ) (others : List ℕ) (n : ℕ) → is_filled (asking (op ∷ others) n) ≡ true
unfolding bits
asking_filled op others n = refl

asking_clocks : (op : ℕ) (others : List ℕ) (n : ℕ) → are_clocks (asking (op ∷ others) n) ≡ true
asking_clocks op others n =
    let symbols : list_all is_symbol (asking (op ∷ others) n) ≡ true =
    all_join is_symbol (flat_map bits (op ∷ others)) (replicate (8 * n) 0x2E) (sent_symbols (op ∷ others)) (all_same is_symbol (8 * n) 0x2E refl) in
    rw (asking_filled op others n, symbols) refl

-- what is spelled are bytes
abbrev AreSmall : List ℕ → Type 0
AreSmall bytes = are_bytes bytes ≡ true

digit_small : (c : ℕ) → is_digit c 16 ≡ true → digit_value c < 16
digit_small c is = ltb-true (digit_value c) 16 is

pair_small : (c d : ℕ) (b : Bool) → (is_digit c 16 && is_digit d 16) ≡ b → IfSome (if b then Some (digit_value c * 16 + digit_value d) else None) (λ byte. byte < 256)
pair_small c d true is =
    let both = and_parts (is_digit c 16) (is_digit d 16) is in
    omega (arith, digit_small c both.0, digit_small d both.1)
pair_small c d false is = tt

before_small : (others : Option (List ℕ)) (byte : Option ℕ) → IfSome others AreSmall → IfSome byte (λ b. b < 256) → IfSome (before_all others byte) AreSmall
before_small others None small below = tt
before_small None (Some byte) small below = tt
before_small (Some others) (Some byte) small below = rw (lt-ltb byte 256 below) small

either_small : (b : Bool) (x y : Option (List ℕ)) → IfSome x AreSmall → IfSome y AreSmall → IfSome (if b then x else y) AreSmall
either_small true x y first second = first
either_small false x y first second = second

spelled_small : (text : List ℕ) → IfSome (bytes_of text) AreSmall
spelled_small [] = refl
spelled_small (c ∷ []) = either_small (is_blank c) (Some []) None refl tt
spelled_small (c ∷ d ∷ rest) =
    either_small (is_blank c) (bytes_of (d ∷ rest)) (before_all (bytes_of rest) (byte_of c d)) (spelled_small (d ∷ rest))
    (before_small (bytes_of rest) (byte_of c d) (spelled_small rest) (pair_small c d (is_digit c 16 && is_digit d 16) refl))

abbrev IsSmall : Answer → Type 0
IsSmall (Any n) = ⊤
IsSmall (Same bytes) = AreSmall bytes

mapped_small : (o : Option (List ℕ)) → IfSome o AreSmall → IfSome (option_map Same o) IsSmall
mapped_small None small = tt
mapped_small (Some bytes) small = small

answer_small : (count : Option ℕ) (text : List ℕ) → IfSome (answer_by count text) IsSmall
answer_small (Some n) text = tt
answer_small None text = mapped_small (bytes_of text) (spelled_small text)

-- so each step is one that a script may have
step_is : (op : ℕ) (others : List ℕ) (answer : Answer) → IsSmall answer → IsStep (step_by (op ∷ others) answer)
step_is op others (Any n) small = record { passes = asking_clocks op others n; bytes = refl }
step_is op others (Same []) small = record { passes = asking_clocks op others 0; bytes = refl }
step_is op others (Same (byte ∷ bytes)) small = record { passes = rw (asking_clocks op others (length (byte ∷ bytes))) refl; bytes = small }

abbrev HasStep : Said → Type 0
HasStep Nothing = ⊤
HasStep (Does step identity) = IsStep step
HasStep Strange = ⊤

said_step : (sent : Option (List ℕ)) (answer : Option Answer) → IfSome answer IsSmall → HasStep (said_by sent answer)
said_step (Some (op ∷ others)) (Some answer) small = step_is op others answer small
said_step (Some []) (Some answer) small = tt
said_step (Some sent) None small = tt
said_step None answer small = tt

either_step : (b : Bool) (x y : Said) → HasStep x → HasStep y → HasStep (if b then x else y)
either_step true x y first second = first
either_step false x y first second = second

line_step : (line : List ℕ) → HasStep (line_says line)
line_step line =
    let text = bare (before_first is_hash line) in
    let answer = after_first is_mark text in
    either_step (not (is_filled text)) Nothing _ tt
    (either_step (bytes_eq text (codes "poll")) (Does (Poll poll_clocks) false) _ (record { passes = refl; bytes = refl })
    (said_step (bytes_of (before_first is_mark text)) (answer_of answer) (answer_small (count_of (bare answer)) answer)))

kept_step : (without : Bool) (said : Said) → HasStep said → AllByRecursion IsStep (kept without said)
kept_step without Nothing has = tt
kept_step without (Does step identity) has = either_kept (without && identity)
  where
    either_kept : (b : Bool) → AllByRecursion IsStep (if b then [] else step ∷ [])
    either_kept true = tt
    either_kept false = (has, tt)
kept_step without Strange has = tt

pub all_steps : (without : Bool) (lines : List (ℕ × List ℕ)) → AllByRecursion IsStep (steps_of without lines)
all_steps without [] = tt
all_steps without (line ∷ lines) =
    all_append IsStep (kept without (line_says line.1)) (steps_of without lines) (kept_step without (line_says line.1) (line_step line.1)) (all_steps without lines)
