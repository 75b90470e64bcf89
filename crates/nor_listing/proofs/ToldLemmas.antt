-- The words of a step tell it: what is read of them is the step.
use Rattle.std.proofs.Common.{◌≡◌, ℕ, ◌*◌, ◌/◌, ◌^◌, ◌<◌, true, false, List, [], ◌∷◌, ◌++◌, length, Option, Some, refl, sym, ◌∙◌, ap, subst, arith, append_assoc, append-nil}
use Rattle.std.specs.Prelude.{flat_map, replicate, option_map, option_and_then}
use Rattle.std.proofs.lemmas.List.{length-replicate}
use Rattle.nor_base.specs.declared.instruction.What.{What}
use Rattle.nor_base.specs.declared.instruction.What.TheVariants as what
use Rattle.nor_base.specs.declared.step.Step.{Step}
use Rattle.nor_base.specs.declared.step.Step.TheVariants.{Send, Verify}
use Rattle.nor_base.specs.Clocks.{bits, address_bytes, body_clocks}
use Rattle.nor_base.specs.Decoding.{bytes_of_bits, bytes_of_nibbles}
use Rattle.nor_base.specs.Instructions.{form_of, quad_read_dummies, sends, sends4}
use Rattle.nor_base.specs.Parameters.{Parameters, block_size}
use Rattle.nor_base.specs.Script.{hex_pair}
use Rattle.nor_decode.proofs.SmallLemmas.{sent_below}
use Rattle.nor_laws.proofs.ScriptLaws.{Small}
use Rattle.nor_listing.specs.Listing.{in_eight, counted, spelled}
use Rattle.nor_listing.specs.Parts.{PlaceIn, DataIn, address_on, place_on, counted_on, data_after, data_on, framed, sampled, single, on_four, asked_by, sends_by, load_by, verified_by, word_in, IsToldBy, IsTold}
use Rattle.nor_listing.specs.declared.told.Reading.{Reading}
use Rattle.nor_listing.specs.declared.parts.Word.{Word}
use Rattle.nor_listing.specs.declared.parts.Word.TheVariants as word
use Rattle.nor_listing.proofs.PartLemmas.{is_unblank, cut_at, opcode_back, address_back, counted_plain, counted_data, bytes_back}
use Rattle.nor_listing.proofs.TailLemmas.{tail_words}
use Rattle.nor_listing.proofs.TakenLemmas.{taken_as, all_small, bytes_for}
use Rattle.nor_select.specs.Coded.{plain}

-- by the word in front
pub by_word : (m : Parameters) (width : ℕ) (front u text : List ℕ) (found : Option Step) → is_unblank front ≡ true → text ≡ front ++ 0x20 ∷ u
    → IsTold m width text found → IsToldBy m width (word_in front) u found
by_word m width front u text found none is told =
    subst (λ (c : List ℕ × List ℕ). IsToldBy m width (word_in c.0) c.1 found) (cut_at front u none) (subst (λ t. IsTold m width t found) is told)

-- a place, and a number of bytes after it
pub place_back : (op a : ℕ) (tail : List ℕ) → op < 256 → a < 2 ^ 32 → place_on (hex_pair op ++ (in_eight a ++ tail)) ≡ Some (record { op = op; address = a; after = tail })
place_back op a tail small narrow = ap (option_and_then address_on) (opcode_back op (in_eight a ++ tail) small) ∙ address_back op a tail narrow

abbrev place : ℕ → ℕ → List ℕ → PlaceIn
place op a after = record { op = op; address = a; after = after }

abbrev parts : PlaceIn → ℕ → List ℕ → DataIn
parts p n digits = record { place = p; count = n; digits = digits }

after_plain : (p : PlaceIn) (n : ℕ) → p.after ≡ counted n → n < 2 ^ 64 → data_after p ≡ Some (parts p n [])
after_plain p n is fits = ap (option_map (λ (c : ℕ × List ℕ). parts p c.0 c.1)) (ap counted_on is ∙ counted_plain n fits)

after_data : (p : PlaceIn) (n : ℕ) (bytes : List ℕ) → p.after ≡ counted n ++ spelled bytes → n < 2 ^ 64 → data_after p ≡ Some (parts p n (flat_map hex_pair bytes))
after_data p n bytes is fits = ap (option_map (λ (c : ℕ × List ℕ). parts p c.0 c.1)) (ap counted_on is ∙ counted_data n bytes fits)

module _ (op a n : ℕ) (small : op < 256) (narrow : a < 2 ^ 32) (fits : n < 2 ^ 64) where
  plain_data : data_on (hex_pair op ++ (in_eight a ++ counted n)) ≡ Some (parts (place op a (counted n)) n [])
  plain_data = ap (option_and_then data_after) (place_back op a (counted n) small narrow) ∙ after_plain (place op a (counted n)) n refl fits

  spelled_data : (bytes : List ℕ) → data_on (hex_pair op ++ (in_eight a ++ (counted n ++ spelled bytes))) ≡ Some (parts (place op a (counted n ++ spelled bytes)) n (flat_map hex_pair bytes))
  spelled_data bytes =
      let after = counted n ++ spelled bytes in
      ap (option_and_then data_after) (place_back op a after small narrow) ∙ after_data (place op a after) n bytes refl fits

-- clocks by what a chip sees in them, with so many address bytes and dummies
abbrev pub clocks_for : What → ℕ → ℕ → ℕ → ℕ → List ℕ → List ℕ
clocks_for w op a width dummies body =
    flat_map bits (op ∷ address_bytes width a) ++ (replicate dummies 0x2D ++ body_clocks (form_of w) (bytes_for (form_of w) body))

-- a read of so many bytes
sampled_is : (p : PlaceIn) (width n k : ℕ) (reading : Reading) → reading.clocks ≡ k
    → sampled p width reading n ≡ flat_map bits (p.op ∷ address_bytes width p.address) ++ (replicate reading.dummies 0x2D ++ replicate (k * length {A = ℕ} (replicate n 0)) reading.symbol)
sampled_is p width n k reading is =
    let head = flat_map bits (p.op ∷ address_bytes width p.address) in
    let dummies = replicate reading.dummies 0x2D in
    let count : n * reading.clocks ≡ k * length {A = ℕ} (replicate n 0) = ap (λ c. n * c) is ∙ turned n k ∙ ap (λ l. k * l) (sym (length-replicate {A = ℕ} n 0)) in
    ap (λ l. (head ++ l) ++ replicate (n * reading.clocks) reading.symbol) (append-nil dummies)
    ∙ append_assoc head dummies (replicate (n * reading.clocks) reading.symbol)
    ∙ ap (λ c. head ++ (dummies ++ replicate c reading.symbol)) count
  where
    turned : (n k : ℕ) → n * k ≡ k * n
    turned n k = grind arith

-- what a word and what is after it tell
module _ (m : Parameters) (width op a : ℕ) (body : List ℕ) (found : Option Step) (small : op < 256) (narrow : a < 2 ^ 32) (few : length body < 2 ^ 64) where
  abbrev Tells : What → Word → ℕ → ℕ → Type 0
  Tells w by wide dummies = IsToldBy m width (Some by) (hex_pair op ++ tail_words m (taken_as w a body) w) found → found ≡ Some (Send (clocks_for w op a wide dummies body))

  pub enable_told : Tells what.Enable word.Bare 0 0
  enable_told told = told ∙ ap (λ p. option_map Send (option_map (λ (p : PlaceIn). framed p 0 0 plain) p)) (opcode_back op [] small)

  pub disable_told : Tells what.Disable word.Bare 0 0
  disable_told told = told ∙ ap (λ p. option_map Send (option_map (λ (p : PlaceIn). framed p 0 0 plain) p)) (opcode_back op [] small)

  pub enter_told : Tells what.Enter word.Bare 0 0
  enter_told told = told ∙ ap (λ p. option_map Send (option_map (λ (p : PlaceIn). framed p 0 0 plain) p)) (opcode_back op [] small)

  pub leave_told : Tells what.Leave word.Bare 0 0
  leave_told told = told ∙ ap (λ p. option_map Send (option_map (λ (p : PlaceIn). framed p 0 0 plain) p)) (opcode_back op [] small)

  pub status_told : Tells what.Status word.Status 0 0
  status_told told =
      let n = length body / 8 in
      told ∙ ap (λ p. option_map Send (option_map (asked_by 0 single) (option_and_then data_after p))) (opcode_back op (counted n) small)
      ∙ ap (λ d. option_map Send (option_map (asked_by 0 single) d)) (after_plain (place op 0 (counted n)) n refl (omega (arith, few)))
      ∙ ap (λ c. Some (Send c)) (sampled_is (place op 0 (counted n)) 0 n 8 single refl)

  pub erase_told : (kind : ℕ) → Tells (what.Erase kind) word.Erase width 0
  erase_told kind told =
      told ∙ ap (λ p. option_map Send (option_map (λ (p : PlaceIn). framed p width 0 plain) p)) (place_back op a (in_eight (block_size m kind)) small narrow)

  pub read_told : Tells what.Read word.Read width 0
  read_told told =
      let n = length body / 8 in
      told ∙ ap (λ d. option_map Send (option_map (asked_by width single) d)) (plain_data op a n small narrow (omega (arith, few)))
      ∙ ap (λ c. Some (Send c)) (sampled_is (place op a (counted n)) width n 8 single refl)

  pub quad_read_told : Tells what.QuadRead word.QuadRead width (quad_read_dummies m)
  quad_read_told told =
      let n = length body / 2 in
      told ∙ ap (λ d. option_map Send (option_map (asked_by width (on_four m)) d)) (plain_data op a n small narrow (omega (arith, few)))
      ∙ ap (λ c. Some (Send c)) (sampled_is (place op a (counted n)) width n 2 (on_four m) refl)

  pub program_told : length (bytes_of_bits body) < 2 ^ 64 → Tells what.Program word.Program width 0
  program_told fits told =
      let bytes = bytes_of_bits body in
      told ∙ ap (λ d. option_map Send (option_and_then (sends_by false width) d)) (spelled_data op a (length bytes) small narrow fits bytes)
      ∙ ap (λ b. option_map Send (option_map (λ (l : List ℕ). framed (place op a (counted (length bytes) ++ spelled bytes)) width 0 (load_by false l)) b))
      (bytes_back bytes (all_small bytes (sent_below sends body)))

  pub quad_program_told : length (bytes_of_nibbles body) < 2 ^ 64 → Tells what.QuadProgram word.QuadProgram width 0
  quad_program_told fits told =
      let bytes = bytes_of_nibbles body in
      told ∙ ap (λ d. option_map Send (option_and_then (sends_by true width) d)) (spelled_data op a (length bytes) small narrow fits bytes)
      ∙ ap (λ b. option_map Send (option_map (λ (l : List ℕ). framed (place op a (counted (length bytes) ++ spelled bytes)) width 0 (load_by true l)) b))
      (bytes_back bytes (all_small bytes (sent_below sends4 body)))

  module _ (expect : List ℕ) (bytes : Small expect) where
    abbrev Verifies : What → Word → ℕ → ℕ → Type 0
    Verifies w by n dummies = IsToldBy m width (Some by) (hex_pair op ++ (in_eight a ++ (counted n ++ spelled expect))) found
        → found ≡ Some (Verify (clocks_for w op a width dummies body) expect)

    pub verify_told : Verifies what.Read word.Verify (length body / 8) 0
    verify_told told =
        let n = length body / 8 in
        let p = place op a (counted n ++ spelled expect) in
        told ∙ ap (option_and_then (verified_by width single)) (spelled_data op a n small narrow (omega (arith, few)) expect)
        ∙ ap (option_map (λ (l : List ℕ). Verify (sampled p width single n) l)) (bytes_back expect bytes)
        ∙ ap (λ c. Some (Verify c expect)) (sampled_is p width n 8 single refl)

    pub quad_verify_told : Verifies what.QuadRead word.QuadVerify (length body / 2) (quad_read_dummies m)
    quad_verify_told told =
        let n = length body / 2 in
        let p = place op a (counted n ++ spelled expect) in
        told ∙ ap (option_and_then (verified_by width (on_four m))) (spelled_data op a n small narrow (omega (arith, few)) expect)
        ∙ ap (option_map (λ (l : List ℕ). Verify (sampled p width (on_four m) n) l)) (bytes_back expect bytes)
        ∙ ap (λ c. Some (Verify c expect)) (sampled_is p width n 2 (on_four m) refl)
