-- What stands behind word and opcode tells what a chip sees.
use Rattle.std.proofs.Common.{◌≡◌, ℕ, ◌/◌, ◌^◌, ◌<◌, ◌≤◌, false, List, [], ◌∷◌, ◌++◌, length, drop, refl, sym, ◌∙◌, ap, arith, append_assoc}
use Rattle.std.specs.Prelude.{decimal, flat_map}
use Rattle.std.proofs.lemmas.List.{append_cancel_left}
use Rattle.nor_base.specs.declared.instruction.What.{What}
use Rattle.nor_base.specs.declared.instruction.What.TheVariants as what
use Rattle.nor_base.specs.Parameters.{Parameters, block_size}
use Rattle.nor_base.specs.Instructions.{sends, sends4}
use Rattle.nor_base.specs.Decoding.{Instruction, bytes_of_bits, bytes_of_nibbles}
use Rattle.nor_base.specs.Effect.{has_address}
use Rattle.nor_base.specs.Script.{hex_pair}
use Rattle.nor_decode.proofs.SmallLemmas.{sent_below}
use Rattle.nor_listing.specs.Listing.{in_eight, counted, spelled}
use Rattle.nor_script.specs.Hexadecimal.{hex_number}
use Rattle.nor_laws.proofs.ScriptLaws.{Agree, Small, bytes_apart}
use Rattle.nor_listing.proofs.ApartLemmas.{decimal_apart, number_apart}
use Rattle.nor_listing.proofs.TakenLemmas.{taken_as, all_small}

-- behind word and opcode
abbrev pub tail_words : Parameters → Instruction → What → List ℕ
tail_words m i what.Enable = []
tail_words m i what.Disable = []
tail_words m i what.Status = counted i.asked
tail_words m i what.Enter = []
tail_words m i what.Leave = []
tail_words m i (what.Erase kind) = in_eight i.address ++ in_eight (block_size m kind)
tail_words m i what.Program = in_eight i.address ++ (counted (length i.sent) ++ spelled i.sent)
tail_words m i what.QuadProgram = in_eight i.address ++ (counted (length i.sent) ++ spelled i.sent)
tail_words m i what.Read = in_eight i.address ++ counted i.asked
tail_words m i what.QuadRead = in_eight i.address ++ counted i.asked
tail_words m i what.Broken = []

-- no more bytes than clocks
pub fewer_bits : (xs : List ℕ) → length (bytes_of_bits xs) ≤ length xs
fewer_bits (a ∷ b ∷ c ∷ d ∷ e ∷ f ∷ g ∷ h ∷ more) = let later = fewer_bits more in omega (arith, later)
fewer_bits fewer = omega arith

pub fewer_nibbles : (xs : List ℕ) → length (bytes_of_nibbles xs) ≤ length xs
fewer_nibbles (high ∷ low ∷ more) = let later = fewer_nibbles more in omega (arith, later)
fewer_nibbles fewer = omega arith

-- what the parts of a line can hold
pub record Fits (w : What) (address : ℕ) (body : List ℕ) : Type 0 where
  pub narrow : address < 2 ^ 32
  pub few : length body < 2 ^ 64
  pub bare : has_address w ≡ false → address ≡ 0

-- two that are alike
pub record SameSeen (i j : Instruction) (x y : List ℕ) : Type 0 where
  pub is : i ≡ j
  pub rest : x ≡ y

-- an address, in front
pub placed : (a b : ℕ) (u v x y : List ℕ) → a < 2 ^ 32 → b < 2 ^ 32 → (in_eight a ++ u) ++ x ≡ (in_eight b ++ v) ++ y → Agree a b (u ++ x) (v ++ y)
placed a b u v x y p q h =
    number_apart a b (u ++ x) (v ++ y) p q (sym (append_assoc (hex_number a) u x) ∙ ap (drop 1) h ∙ append_assoc (hex_number b) v y)

-- a number of bytes, at the end
ended : (m n : ℕ) (x y : List ℕ) → m < 2 ^ 64 → n < 2 ^ 64 → counted m ++ 0x0A ∷ x ≡ counted n ++ 0x0A ∷ y → Agree m n x y
ended m n x y p q h = decimal_apart 0x0A m n x y (omega arith) p q (ap (drop 1) h)

-- a number of bytes and the bytes
pub data_apart : (m n : ℕ) (bs cs x y : List ℕ) → m < 2 ^ 64 → n < 2 ^ 64 → Small bs → Small cs
    → (counted m ++ spelled bs) ++ 0x0A ∷ x ≡ (counted n ++ spelled cs) ++ 0x0A ∷ y → Agree m n (flat_map hex_pair bs ++ 0x0A ∷ x) (flat_map hex_pair cs ++ 0x0A ∷ y)
data_apart m n bs cs x y p q small_b small_c h =
    decimal_apart 0x20 m n (flat_map hex_pair bs ++ 0x0A ∷ x) (flat_map hex_pair cs ++ 0x0A ∷ y) (omega arith) p q
    (sym (append_assoc (decimal m) (spelled bs) (0x0A ∷ x)) ∙ ap (drop 1) h ∙ append_assoc (decimal n) (spelled cs) (0x0A ∷ y))

module _ (m : Parameters) (a b : ℕ) (p q x y : List ℕ) where
  abbrev Tells : What → Type 0
  Tells w = Fits w a p → Fits w b q → tail_words m (taken_as w a p) w ++ 0x0A ∷ x ≡ tail_words m (taken_as w b q) w ++ 0x0A ∷ y
      → SameSeen (taken_as w a p) (taken_as w b q) x y

  abbrev with : What → List ℕ → ℕ → ℕ → Instruction
  with w bytes n address = record { what = w; address = address; sent = bytes; asked = n }

  bare_tells : (w : What) → has_address w ≡ false → Fits w a p → Fits w b q → a ≡ b
  bare_tells w none first second = first.bare none ∙ sym (second.bare none)

  pub tail_tells : (w : What) → Tells w
  tail_tells what.Enable first second h = record { is = ap (with what.Enable [] 0) (bare_tells what.Enable refl first second); rest = ap (drop 1) h }
  tail_tells what.Disable first second h = record { is = ap (with what.Disable [] 0) (bare_tells what.Disable refl first second); rest = ap (drop 1) h }
  tail_tells what.Enter first second h = record { is = ap (with what.Enter [] 0) (bare_tells what.Enter refl first second); rest = ap (drop 1) h }
  tail_tells what.Leave first second h = record { is = ap (with what.Leave [] 0) (bare_tells what.Leave refl first second); rest = ap (drop 1) h }
  tail_tells what.Broken first second h = record { is = ap (with what.Broken [] 0) (bare_tells what.Broken refl first second); rest = ap (drop 1) h }
  tail_tells what.Status first second h =
      let n = ended (length p / 8) (length q / 8) x y (omega (arith, first.few)) (omega (arith, second.few)) h in
      record { is = ap (with what.Status [] (length p / 8)) (bare_tells what.Status refl first second) ∙ ap (λ k. with what.Status [] k b) n.front; rest = n.rest }
  tail_tells (what.Erase kind) first second h =
      let at = placed a b (in_eight (block_size m kind)) (in_eight (block_size m kind)) (0x0A ∷ x) (0x0A ∷ y) first.narrow second.narrow h in
      record {
        is = ap (with (what.Erase kind) [] 0) at.front;
        rest = ap (drop 1) (append_cancel_left (in_eight (block_size m kind)) (0x0A ∷ x) (0x0A ∷ y) at.rest);
      }
  tail_tells what.Program first second h =
      let bs = bytes_of_bits p in
      let cs = bytes_of_bits q in
      let at = placed a b (counted (length bs) ++ spelled bs) (counted (length cs) ++ spelled cs) (0x0A ∷ x) (0x0A ∷ y) first.narrow second.narrow h in
      let small_b = all_small bs (sent_below sends p) in
      let small_c = all_small cs (sent_below sends q) in
      let count = data_apart (length bs) (length cs) bs cs x y (omega (arith, first.few, fewer_bits p)) (omega (arith, second.few, fewer_bits q)) small_b small_c at.rest in
      let bytes = bytes_apart bs cs x y small_b small_c count.rest in
      record { is = ap (with what.Program bs 0) at.front ∙ ap (λ (l : List ℕ). with what.Program l 0 b) bytes.front; rest = bytes.rest }
  tail_tells what.QuadProgram first second h =
      let bs = bytes_of_nibbles p in
      let cs = bytes_of_nibbles q in
      let at = placed a b (counted (length bs) ++ spelled bs) (counted (length cs) ++ spelled cs) (0x0A ∷ x) (0x0A ∷ y) first.narrow second.narrow h in
      let small_b = all_small bs (sent_below sends4 p) in
      let small_c = all_small cs (sent_below sends4 q) in
      let count = data_apart (length bs) (length cs) bs cs x y (omega (arith, first.few, fewer_nibbles p)) (omega (arith, second.few, fewer_nibbles q)) small_b small_c at.rest in
      let bytes = bytes_apart bs cs x y small_b small_c count.rest in
      record { is = ap (with what.QuadProgram bs 0) at.front ∙ ap (λ (l : List ℕ). with what.QuadProgram l 0 b) bytes.front; rest = bytes.rest }
  tail_tells what.Read first second h =
      let at = placed a b (counted (length p / 8)) (counted (length q / 8)) (0x0A ∷ x) (0x0A ∷ y) first.narrow second.narrow h in
      let n = ended (length p / 8) (length q / 8) x y (omega (arith, first.few)) (omega (arith, second.few)) at.rest in
      record { is = ap (with what.Read [] (length p / 8)) at.front ∙ ap (λ k. with what.Read [] k b) n.front; rest = n.rest }
  tail_tells what.QuadRead first second h =
      let at = placed a b (counted (length p / 2)) (counted (length q / 2)) (0x0A ∷ x) (0x0A ∷ y) first.narrow second.narrow h in
      let n = ended (length p / 2) (length q / 2) x y (omega (arith, first.few)) (omega (arith, second.few)) at.rest in
      record { is = ap (with what.QuadRead [] (length p / 2)) at.front ∙ ap (λ k. with what.QuadRead [] k b) n.front; rest = n.rest }
