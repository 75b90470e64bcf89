-- The clocks of an instruction as it goes out are symbols, and what is kept is its line.
use Rattle.std.proofs.Common.{◌≡◌, ℕ, zero, suc, ◌+◌, ◌*◌, ◌/◌, ◌%◌, ◌^◌, ◌<◌, Bool, true, List, [], ◌∷◌, ◌++◌, length, Some, get_or, Fits, w8, refl, ◌∙◌, ap, arith, append-nil}
use Rattle.std.specs.Prelude.{flat_map, replicate}
use Rattle.std.specs.List.{list_all, AllByRecursion}
use Rattle.std.proofs.lemmas.Bool.{and_parts, agree_below_at, lt-ltb}
use Rattle.std.proofs.lemmas.Grind.{flat_map-append}
use Rattle.nor_base.specs.declared.step.Step.{Step}
use Rattle.nor_base.specs.declared.step.Step.TheVariants.{Send, Poll, Verify}
use Rattle.nor_base.specs.Array.{are_bytes}
use Rattle.nor_base.specs.Clocks.{bits, nibbles}
use Rattle.nor_base.specs.Device.{Cuts}
use Rattle.nor_base.specs.Sample.{is_symbol}
use Rattle.nor_base.specs.Script.{closed, step_line, step_lines}
use Rattle.nor_base.proofs.DeviceLaws.{Appends-none}
use Rattle.nor_base.proofs.ListLaws.{all_append}
use Rattle.nor_laws.specs.Laws.{IsSpelled}
use Rattle.nor_select.specs.Coded.{Load, plain, polled, sent, sent4, asked, asked4, Coded}
use Rattle.nor_frames.specs.Frames.{load_clocks, head_of, frame}
use Rattle.nor_steps.specs.Lines.{coded_step, coded_line}

all_join : (p : ℕ → Bool) (xs ys : List ℕ) → list_all p xs ≡ true → list_all p ys ≡ true → list_all p (xs ++ ys) ≡ true
all_join p [] ys first second = second
all_join p (x ∷ xs) ys first second =
    let parts = and_parts (p x) (list_all p xs) first in
    rw (parts.0, all_join p xs ys parts.1 second) refl

all_same : (p : ℕ → Bool) (n x : ℕ) → p x ≡ true → list_all p (replicate n x) ≡ true
all_same p zero x is = refl
all_same p (suc n) x is = rw (is, all_same p n x is) refl

some_bit : (n : ℕ) → is_symbol (0x30 + n % 2) ≡ true
some_bit n = by_rest (n % 2) (omega arith)
  where
    by_rest : (r : ℕ) → r < 2 → is_symbol (0x30 + r) ≡ true
    by_rest r small = agree_below_at (λ k. is_symbol (0x30 + k)) (λ k. true) 2 r refl small

some_nibble : (n : ℕ) → is_symbol (0x61 + n % 16) ≡ true
some_nibble n = by_rest (n % 16) (omega arith)
  where
    by_rest : (r : ℕ) → r < 16 → is_symbol (0x61 + r) ≡ true
    by_rest r small = agree_below_at (λ k. is_symbol (0x61 + k)) (λ k. true) 16 r refl small

bits_symbols : (byte : ℕ) → list_all is_symbol (bits byte) ≡ true
unfolding bits
bits_symbols byte =
    rw (some_bit (byte / 2 ^ 7), some_bit (byte / 2 ^ 6), some_bit (byte / 2 ^ 5), some_bit (byte / 2 ^ 4), some_bit (byte / 2 ^ 3), some_bit (byte / 2 ^ 2), some_bit (byte / 2 ^ 1), some_bit (byte / 2 ^ 0)) refl

nibbles_symbols : (byte : ℕ) → list_all is_symbol (nibbles byte) ≡ true
unfolding nibbles
nibbles_symbols byte = rw (some_nibble (byte / 16), some_nibble byte) refl

flat_symbols : (f : ℕ → List ℕ) → ((byte : ℕ) → list_all is_symbol (f byte) ≡ true) → (bytes : List ℕ) → list_all is_symbol (flat_map f bytes) ≡ true
flat_symbols f each [] = refl
flat_symbols f each (b ∷ bytes) = all_join is_symbol (f b) (flat_map f bytes) (each b) (flat_symbols f each bytes)

load_symbols : (load : Load) → list_all is_symbol (load_clocks load) ≡ true
load_symbols plain = refl
load_symbols (polled bytes) = all_same is_symbol (8 * length bytes) 0x2E refl
load_symbols (sent bytes) = flat_symbols bits bits_symbols bytes
load_symbols (sent4 bytes) = flat_symbols nibbles nibbles_symbols bytes
load_symbols (asked bytes) = all_same is_symbol (8 * length bytes) 0x2E refl
load_symbols (asked4 bytes) = all_same is_symbol (2 * length bytes) 0x3D refl

frame_symbols : (c : Coded) → list_all is_symbol (frame c) ≡ true
frame_symbols c =
    all_join is_symbol (flat_map bits (head_of c)) _ (flat_symbols bits bits_symbols (head_of c))
    (all_join is_symbol (replicate c.dummies 0x2D) _ (all_same is_symbol c.dummies 0x2D refl) (load_symbols c.load))

-- also in a vector that was empty
pub symbols_in : (kept made before : List ℕ) (c : Coded) → kept ≡ made → made ≡ before ++ frame c → before ≡ [] → list_all is_symbol kept ≡ true
symbols_in kept made before c is joined none =
    ap (list_all is_symbol) (is ∙ joined ∙ ap (λ front. front ++ frame c) none) ∙ frame_symbols c

-- what is of a type of bytes are bytes
pub all_bytes : (xs : List ℕ) → ((i : ℕ) → Fits w8 (get_or xs i 0)) → are_bytes xs ≡ true
all_bytes [] small = refl
all_bytes (x ∷ xs) small =
    let first = small 0 in
    rw (lt-ltb x 256 (omega (arith, first)), all_bytes xs (λ i. small (suc i))) refl

pub lines_more : (steps : List Step) (c : Coded) → step_lines (steps ++ coded_step c ∷ []) ≡ step_lines steps ++ coded_line c
unfolding step_lines
lines_more steps c =
    flat_map-append (λ step. closed (step_line step)) steps (coded_step c ∷ [])
    ∙ ap (λ rest. step_lines steps ++ rest) (append-nil (coded_line c))

-- so is what is kept of a step more
pub kept_line : (old new : List Step) (step : Step) (c : Coded) → new ≡ old ++ step ∷ [] → step ≡ coded_step c → step_lines new ≡ step_lines old ++ coded_line c
kept_line old new step c is same = ap step_lines (is ∙ ap (λ last. old ++ last ∷ []) same) ∙ lines_more old c

-- a line isn't empty
line_some : (step : Step) → 0 < length (closed (step_line step))
unfolding step_line
line_some (Send clocks) = omega arith
line_some (Poll clocks) = omega arith
line_some (Verify clocks expect) = omega arith
