-- Clocks that a chip takes are told by their opcode and what it sees in them.
use Rattle.std.proofs.Common.{◌≡◌, ℕ, suc, ◌+◌, ◌*◌, ◌/◌, ◌^◌, ◌<◌, ◌≤◌, ◌==◌, ◌&&◌, ◌||◌, Bool, true, false, List, [], ◌∷◌, length, take, drop, get_or, Option, Some, None, refl, sym, ◌∙◌, ap, arith, eqb-true, length-take, length-drop}
use Rattle.std.specs.Prelude.{nat_le, if◌then◌else◌, option_map, replicate}
use Rattle.std.specs.List.{list_all}
use Rattle.std.proofs.lemmas.Bool.{leb-true, and_parts}
use Rattle.std.proofs.lemmas.List.{length-replicate}
use Rattle.nor_base.specs.declared.instruction.What.{What}
use Rattle.nor_base.specs.declared.instruction.What.TheVariants as what
use Rattle.nor_base.specs.Parameters.{Parameters}
use Rattle.nor_base.specs.Instructions.{Form, nothing, sends, sends4, samples, samples4, form_of, Row, row_of, table}
use Rattle.nor_base.specs.Decoding.{Instruction, instruction, transaction, decode, by_row, broken, has_opcode, is_bit_sent, is_idle, is_data, is_form, number, opcode, address_clocks, dummy_clocks, data_clocks, bytes_of_bits, bytes_of_nibbles, bytes_sent, bytes_asked}
use Rattle.nor_base.specs.Effect.{is_broken, has_address}
use Rattle.nor_base.specs.Spelling.{Instr, seen, bytes_to_send, count_to_read}
use Rattle.nor_base.proofs.ListLaws.{found_passes}
use Rattle.nor_laws.specs.Spelling.{SameSpelling}
use Rattle.nor_laws.proofs.ScriptLaws.{Small}
use Rattle.nor_decode.proofs.NumberLemmas.{number_fits}

-- at most four address bytes, and none where an instruction names no address
row_narrow : (m : Parameters) (mode4 : Bool) (op : ℕ) (r : Row) → row_of m mode4 op ≡ Some r → nat_le r.width 4 ≡ true
unfolding row_of
row_narrow m true op r h = (found_passes (λ (r : Row). (op == r.opcode) && r.offered) (λ (r : Row). nat_le r.width 4) (table m true) r refl h).all
row_narrow m false op r h = (found_passes (λ (r : Row). (op == r.opcode) && r.offered) (λ (r : Row). nat_le r.width 4) (table m false) r refl h).all

row_bare : (m : Parameters) (mode4 : Bool) (op : ℕ) (r : Row) → row_of m mode4 op ≡ Some r → has_address r.what || (r.width == 0) ≡ true
unfolding row_of
row_bare m mode4 op r h =
    (found_passes (λ (r : Row). (op == r.opcode) && r.offered) (λ (r : Row). has_address r.what || (r.width == 0)) (table m mode4) r refl h).all

pub opcode_small : (clocks : List ℕ) → opcode clocks < 256
opcode_small clocks = number_fits 8 (take 8 clocks) (omega (arith, length-take 8 clocks))

pub all_small : (xs : List ℕ) → ((i : ℕ) → get_or xs i 0 < 256) → Small xs
all_small [] h = tt
all_small (x ∷ xs) h = (h 0, all_small xs (λ i. h (suc i)))

-- an instruction with data clocks
abbrev pub taken_as : What → ℕ → List ℕ → Instruction
taken_as w address body = instruction (record { what = w; address = address; body = body })

-- clocks that a chip takes by a row
pub record Takes (m : Parameters) (mode4 : Bool) (clocks : List ℕ) (i : Instruction) : Type 0 where
  pub r : Row
  pub address : ℕ
  pub body : List ℕ
  pub found : row_of m mode4 (opcode clocks) ≡ Some r
  pub narrow : address < 2 ^ 32
  pub bare : has_address r.what ≡ false → address ≡ 0
  pub few : length body ≤ length clocks
  pub within : address < 2 ^ (8 * r.width)
  pub shaped : is_data (form_of r.what) body ≡ true
  pub is : taken_as r.what address body ≡ i

data_shaped : (r : Row) (rest : List ℕ) → is_form r rest ≡ true → is_data (form_of r.what) (data_clocks r rest) ≡ true
unfolding is_form
data_shaped r rest is =
    let all = and_parts (nat_le (8 * r.width + r.dummies) (length rest)) _ is in
    let after = and_parts (list_all is_bit_sent (address_clocks r rest)) _ all.1 in
    (and_parts (list_all is_idle (dummy_clocks r rest)) (is_data (form_of r.what) (data_clocks r rest)) after.1).1

width_none : (has : Bool) (width : ℕ) → has || (width == 0) ≡ true → has ≡ false → width ≡ 0
width_none true width h is = cc
width_none false width h is = eqb-true width 0 h

module _ (m : Parameters) (mode4 : Bool) (clocks : List ℕ) (i : Instruction) (sound : is_broken i.what ≡ false) where
  by_form : (r : Row) (b : Bool) → is_form r (drop 8 clocks) ≡ b → row_of m mode4 (opcode clocks) ≡ Some r
      → instruction (if b then record { what = r.what; address = number (address_clocks r (drop 8 clocks)); body = data_clocks r (drop 8 clocks) } else broken) ≡ i
      → Takes m mode4 clocks i
  by_form r true formed found h =
      let rest = drop 8 clocks in
      let narrow : r.width ≤ 4 = leb-true r.width 4 (row_narrow m mode4 (opcode clocks) r found) in
      record {
        r = r;
        address = number (address_clocks r rest);
        body = data_clocks r rest;
        found = found;
        narrow = number_fits 32 (address_clocks r rest) (omega (arith, length-take (8 * r.width) rest));
        bare = λ none.
            let no_width : r.width ≡ 0 = width_none (has_address r.what) r.width (row_bare m mode4 (opcode clocks) r found) none in
            ap (λ n. number (take (8 * n) rest)) no_width;
        few = omega (arith, length-drop 8 clocks, length-drop (8 * r.width) rest, length-drop r.dummies (drop (8 * r.width) rest));
        within = number_fits (8 * r.width) (address_clocks r rest) (omega (arith, length-take (8 * r.width) rest));
        shaped = data_shaped r rest formed;
        is = h;
      }
  by_form r false formed found h =
      let same : what.Broken ≡ i.what = ap (λ (s : Instruction). s.what) h in
      let says : true ≡ is_broken i.what = ap is_broken same in
      let both : true ≡ false = says ∙ sound in
      absurd (let wrong : ⊥ = cc in wrong)

  by_found : (b : Bool) (o : Option Row) → row_of m mode4 (opcode clocks) ≡ o
      → option_map instruction (if b then option_map (by_row (drop 8 clocks)) o else None) ≡ Some i → Takes m mode4 clocks i
  unfolding by_row
  by_found false o found h = cc
  by_found true None found h = cc
  by_found true (Some r) found h =
      let is : instruction (by_row (drop 8 clocks) r) ≡ i = cc in
      by_form r (is_form r (drop 8 clocks)) refl found is

  pub takes : decode m mode4 clocks ≡ Some i → Takes m mode4 clocks i
  unfolding decode transaction
  takes h = by_found (has_opcode clocks) (row_of m mode4 (opcode clocks)) refl h

-- the instruction that is spelled by clocks in which a chip sees this
abbrev pub bytes_for : Form → List ℕ → List ℕ
bytes_for nothing body = []
bytes_for sends body = bytes_of_bits body
bytes_for sends4 body = bytes_of_nibbles body
bytes_for samples body = replicate (length body / 8) 0
bytes_for samples4 body = replicate (length body / 2) 0

sent_same : (form : Form) (body : List ℕ) → bytes_to_send form (bytes_for form body) ≡ bytes_sent form body
sent_same nothing body = refl
sent_same sends body = refl
sent_same sends4 body = refl
sent_same samples body = refl
sent_same samples4 body = refl

asked_same : (form : Form) (body : List ℕ) → count_to_read form (bytes_for form body) ≡ bytes_asked form body
asked_same nothing body = refl
asked_same sends body = refl
asked_same sends4 body = refl
asked_same samples body = length-replicate {A = ℕ} (length body / 8) 0
asked_same samples4 body = length-replicate {A = ℕ} (length body / 2) 0

abbrev pub spelled_by : Row → ℕ → ℕ → List ℕ → Instr
spelled_by r op address body =
    record { what = r.what; op = op; address = address; width = r.width; dummies = r.dummies; bytes = bytes_for (form_of r.what) body }

pub seen_same : (r : Row) (op address : ℕ) (body : List ℕ) → taken_as r.what address body ≡ seen (spelled_by r op address body)
seen_same r op address body =
    let form = form_of r.what in
    ap (λ (bytes : List ℕ). record { what = r.what; address = address; sent = bytes; asked = bytes_asked form body }) (sym (sent_same form body))
    ∙ ap (λ n. record { what = r.what; address = address; sent = bytes_to_send form (bytes_for form body); asked = n }) (sym (asked_same form body))

-- so no two have one opcode and are seen alike
pub same_clocks : SameSpelling → (m : Parameters) (mode4 : Bool) (xs ys : List ℕ) (i j : Instruction) → decode m mode4 xs ≡ Some i → decode m mode4 ys ≡ Some j
    → Takes m mode4 xs i → opcode xs ≡ opcode ys → i ≡ j → xs ≡ ys
same_clocks law m mode4 xs ys i j first second t op same =
    let s = spelled_by t.r (opcode xs) t.address t.body in
    let alike : i ≡ seen s = sym t.is ∙ seen_same t.r (opcode xs) t.address t.body in
    law m mode4 s xs ys (record { r = t.r; found = t.found; its_what = refl; its_width = refl; its_dummies = refl })
    (record { begins = refl; decodes = first ∙ ap (λ (k : Instruction). Some k) alike })
    (record { begins = sym op; decodes = second ∙ ap (λ (k : Instruction). Some k) (sym same ∙ alike) })

-- clocks of one opcode are taken by one row
pub same_row : (m : Parameters) (mode4 : Bool) (xs ys : List ℕ) (i j : Instruction) (s : Takes m mode4 xs i) (t : Takes m mode4 ys j) → opcode xs ≡ opcode ys → s.r ≡ t.r
same_row m mode4 xs ys i j s t op =
    let both : Some s.r ≡ Some t.r = sym s.found ∙ ap (row_of m mode4) op ∙ t.found in
    some_is both
  where
    some_is : {a b : Row} → Some a ≡ Some b → a ≡ b
    some_is h = cc
