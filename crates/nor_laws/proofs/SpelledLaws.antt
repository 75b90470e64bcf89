-- The clocks of an instruction spell it.
use Rattle.std.proofs.Common.{◌≡◌, ℕ, zero, suc, ◌+◌, ◌*◌, ◌%◌, ◌^◌, ◌<◌, ◌==◌, ◌&&◌, Bool, true, List, ◌++◌, length, take, drop, Some, refl, sym, ◌∙◌, ap, arith, eq-eqb, length-append}
use Rattle.std.specs.Prelude.{flat_map, nat_le, nat_lt, replicate}
use Rattle.std.specs.List.{list_all}
use Rattle.std.proofs.Math.Nat.{mod-eq_of_lt}
use Rattle.std.proofs.lemmas.Bool.{le-leb, lt-ltb}
use Rattle.std.proofs.lemmas.List.{append_assoc, take_at, drop_at, length-replicate}
use Rattle.nor_base.specs.Parameters.{Parameters}
use Rattle.nor_base.specs.Instructions.{Form, nothing, sends, sends4, samples, samples4, form_of, Row, row_of}
use Rattle.nor_base.specs.Decoding.{instruction, decode, transaction, by_row, has_opcode, is_form, is_data, is_bit_sent, is_bit_sampled, is_nibble_sampled, is_idle, number, bytes_sent, bytes_asked, opcode}
use Rattle.nor_base.specs.Spelling.{Instr, Spells, seen, bytes_to_send, count_to_read}
use Rattle.nor_base.specs.Clocks.{bits, nibbles, address_bytes, body_clocks, clocks_of, HasRow, CanCarry, IsSendable}
use Rattle.nor_base.proofs.BitLaws.{length-bits, length-all_bits, length-all_nibbles}
use Rattle.nor_laws.proofs.BitLemmas.{all_sent, all_sent4, bytes_of_all_bits, bytes_of_all_nibbles, number_of_bits, are_sent, number_of_address, address_small, length-address_bytes}

all_alike : (p : ℕ → Bool) (n symbol : ℕ) → p symbol ≡ true → list_all p (replicate n symbol) ≡ true
all_alike p zero symbol h = refl
all_alike p (suc n) symbol h = rw (h, all_alike p n symbol h) refl

dot_sampled : is_bit_sampled 0x2E ≡ true
unfolding is_bit_sampled
dot_sampled = refl

equals_sampled : is_nibble_sampled 0x3D ≡ true
unfolding is_nibble_sampled
equals_sampled = refl

dash_idle : is_idle 0x2D ≡ true
unfolding is_idle
dash_idle = refl

-- groups of n clocks, some of them
grouped : (n k : ℕ) (clocks : List ℕ) → length clocks ≡ n * k → 0 < k → 0 < n → (n * k) % n ≡ 0 → (nat_lt 0 (length clocks) && (length clocks % n == 0)) ≡ true
grouped n k clocks long some much whole =
    let filled : nat_lt 0 (length clocks) ≡ true = lt-ltb 0 (length clocks) (positive n k clocks long some much) in
    let even : (length clocks % n == 0) ≡ true = eq-eqb (length clocks % n) 0 (ap (λ l. l % n) long ∙ whole) in
    rw (filled, even) refl
  where
    positive : (n k : ℕ) (clocks : List ℕ) → length clocks ≡ n * k → 0 < k → 0 < n → 0 < length clocks
    positive n (suc k) clocks long some much = omega (arith, long)
    positive n zero clocks long some much = absurd (omega arith)

-- data clocks have their form
data_has_form : (form : Form) (bytes : List ℕ) → CanCarry form bytes → is_data form (body_clocks form bytes) ≡ true
unfolding is_data
data_has_form nothing bytes can = refl
data_has_form sends bytes can =
    rw (grouped 8 (length bytes) (flat_map bits bytes) (length-all_bits bytes) can.0 (omega arith) (omega arith), all_sent bytes can.1) refl
data_has_form sends4 bytes can =
    rw (grouped 2 (length bytes) (flat_map nibbles bytes) (length-all_nibbles bytes) can.0 (omega arith) (omega arith), all_sent4 bytes can.1) refl
data_has_form samples bytes can =
    rw (
      grouped 8 (length bytes) (replicate (8 * length bytes) 0x2E) (length-replicate {A = ℕ} (8 * length bytes) 0x2E) can (omega arith) (omega arith),
      all_alike is_bit_sampled (8 * length bytes) 0x2E dot_sampled,
    ) refl
data_has_form samples4 bytes can =
    rw (
      grouped 2 (length bytes) (replicate (2 * length bytes) 0x3D) (length-replicate {A = ℕ} (2 * length bytes) 0x3D) can (omega arith) (omega arith),
      all_alike is_nibble_sampled (2 * length bytes) 0x3D equals_sampled,
    ) refl

-- and say which bytes are sent, and how many are asked for
data_sends : (form : Form) (bytes : List ℕ) → CanCarry form bytes → bytes_sent form (body_clocks form bytes) ≡ bytes_to_send form bytes
data_sends nothing bytes can = refl
data_sends sends bytes can = bytes_of_all_bits bytes can.1
data_sends sends4 bytes can = bytes_of_all_nibbles bytes can.1
data_sends samples bytes can = refl
data_sends samples4 bytes can = refl

data_asks : (form : Form) (bytes : List ℕ) → bytes_asked form (body_clocks form bytes) ≡ count_to_read form bytes
data_asks nothing bytes = refl
data_asks sends bytes = refl
data_asks sends4 bytes = refl
data_asks samples bytes = let long = length-replicate {A = ℕ} (8 * length bytes) 0x2E in omega (arith, long)
data_asks samples4 bytes = let long = length-replicate {A = ℕ} (2 * length bytes) 0x3D in omega (arith, long)

-- address, dummies and data have the form of their row
by_parts : (r : Row) (address body : List ℕ) → length address ≡ 8 * r.width → list_all is_bit_sent address ≡ true → is_data (form_of r.what) body ≡ true
    → by_row (address ++ (replicate r.dummies 0x2D ++ body)) r ≡ record { what = r.what; address = number address; body = body }
unfolding by_row is_form
by_parts r address body long sent good =
    let rest = replicate r.dummies 0x2D ++ body in
    let waits = length-replicate {A = ℕ} r.dummies 0x2D in
    let enough : nat_le (8 * r.width + r.dummies) (length (address ++ rest)) ≡ true =
    le-leb (8 * r.width + r.dummies) (length (address ++ rest)) (omega (arith, length-append address rest, length-append (replicate r.dummies 0x2D) body, long, waits)) in
    let front : take (8 * r.width) (address ++ rest) ≡ address = take_at address rest (8 * r.width) long in
    let back : drop (8 * r.width) (address ++ rest) ≡ rest = drop_at address rest (8 * r.width) long in
    let middle : take r.dummies rest ≡ replicate r.dummies 0x2D = take_at (replicate r.dummies 0x2D) body r.dummies waits in
    let last : drop r.dummies rest ≡ body = drop_at (replicate r.dummies 0x2D) body r.dummies waits in
    let idle = all_alike is_idle r.dummies 0x2D dash_idle in
    rw (enough, front, back, middle, last, sent, idle, good) refl

-- clocks that begin with the opcode of a row are by that row
opcode_there : (op : ℕ) (rest : List ℕ) → list_all is_bit_sent (bits op) ≡ true → has_opcode (bits op ++ rest) ≡ true
unfolding has_opcode
opcode_there op rest sent =
    let enough : nat_le 8 (length (bits op ++ rest)) ≡ true = le-leb 8 (length (bits op ++ rest)) (omega (arith, length-append (bits op) rest, length-bits op)) in
    let front : take 8 (bits op ++ rest) ≡ bits op = take_at (bits op) rest 8 (length-bits op) in
    rw (enough, front, sent) refl

opcode_of_bits : (op : ℕ) (rest : List ℕ) → op < 256 → opcode (bits op ++ rest) ≡ op
opcode_of_bits op rest small = ap number (take_at (bits op) rest 8 (length-bits op)) ∙ number_of_bits op small

by_its_row : (m : Parameters) (mode4 : Bool) (op : ℕ) (rest : List ℕ) (r : Row) → op < 256 → row_of m mode4 op ≡ Some r
    → decode m mode4 (bits op ++ rest) ≡ Some (instruction (by_row rest r))
unfolding decode transaction
by_its_row m mode4 op rest r small found =
    let there = opcode_there op rest (are_sent op small) in
    let is = opcode_of_bits op rest small in
    let after : drop 8 (bits op ++ rest) ≡ rest = drop_at (bits op) rest 8 (length-bits op) in
    rw (there, is, found, after) refl

-- the clocks of a row's instruction decode to it
decodes_to : (m : Parameters) (mode4 : Bool) (op address : ℕ) (bytes : List ℕ) (r : Row) → op < 256 → row_of m mode4 op ≡ Some r
    → address < 2 ^ (8 * r.width) → CanCarry (form_of r.what) bytes
    → decode m mode4 (bits op ++ (flat_map bits (address_bytes r.width address) ++ (replicate r.dummies 0x2D ++ body_clocks (form_of r.what) bytes)))
    ≡ Some (record { what = r.what; address = address; sent = bytes_to_send (form_of r.what) bytes; asked = count_to_read (form_of r.what) bytes })
decodes_to m mode4 op address bytes r small found fits can =
    let its = flat_map bits (address_bytes r.width address) in
    let body = body_clocks (form_of r.what) bytes in
    let first = by_its_row m mode4 op (its ++ (replicate r.dummies 0x2D ++ body)) r small found in
    let long : length its ≡ 8 * r.width = length-all_bits (address_bytes r.width address) ∙ ap (λ k. 8 * k) (length-address_bytes r.width address) in
    let parts = by_parts r its body long (all_sent (address_bytes r.width address) (address_small r.width address)) (data_has_form (form_of r.what) bytes can) in
    let at : number its ≡ address = number_of_address r.width address ∙ mod-eq_of_lt fits in
    let sent = data_sends (form_of r.what) bytes can in
    let asked = data_asks (form_of r.what) bytes in
    rw (first, parts, at, sent, asked) refl

pub has_spelling : (m : Parameters) (mode4 : Bool) (i : Instr) → HasRow m mode4 i → IsSendable i → Spells m mode4 i (clocks_of i)
has_spelling m mode4 i row fits =
    let rest = replicate i.dummies 0x2D ++ body_clocks (form_of i.what) i.bytes in
    let its = flat_map bits (address_bytes i.width i.address) in
    let parts : clocks_of i ≡ bits i.op ++ (its ++ rest) = append_assoc (bits i.op) its rest in
    let whole = decodes_to m mode4 i.op i.address i.bytes row.r fits.op row.found (rw row.its_width fits.address) (rw row.its_what fits.carried) in
    let here : decode m mode4 (bits i.op ++ (its ++ rest)) ≡ Some (seen i) = rw (sym row.its_what, sym row.its_width, sym row.its_dummies) whole in
    record {
      begins = ap opcode parts ∙ opcode_of_bits i.op (its ++ rest) fits.op;
      decodes = ap (decode m mode4) parts ∙ here;
    }
