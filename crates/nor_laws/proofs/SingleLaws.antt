-- No two lists of clocks spell one instruction.
use Rattle.std.proofs.Common.{◌≡◌, ℕ, zero, suc, ◌+◌, ◌*◌, ◌/◌, ◌%◌, ◌^◌, ◌<◌, ◌≤◌, ◌==◌, ◌&&◌, not, Bool, true, false, List, [], ◌∷◌, length, take, drop, Some, None, refl, sym, ◌∙◌, ap, arith, subst, eqb-true, length-take, length-drop, pow-add}
use Rattle.std.specs.Prelude.{nat_le, nat_lt, if◌then◌else◌, option_map}
use Rattle.std.specs.List.{list_all}
use Rattle.std.proofs.lemmas.Bool.{and_parts, leb-true, not-true}
use Rattle.std.proofs.lemmas.List.{take-append-drop, nil_from_length}
use Rattle.nor_base.specs.declared.instruction.What.TheVariants as what
use Rattle.nor_base.specs.Parameters.{Parameters}
use Rattle.nor_base.specs.Instructions.{Form, nothing, sends, sends4, samples, samples4, form_of, Row, row, row_of, table}
use Rattle.nor_base.specs.Decoding.{Instruction, instruction, decode, transaction, by_row, broken, has_opcode, is_form, is_data, are_groups, is_bit_sent, is_nibble_sent, is_bit_sampled, is_nibble_sampled, is_idle, bit, nibble, number, bytes_of_bits, bytes_of_nibbles, bytes_sent, bytes_asked, opcode, address_clocks, dummy_clocks, data_clocks}
use Rattle.nor_base.specs.Effect.{is_broken}
use Rattle.nor_base.specs.Run.{poll_clocks}
use Rattle.nor_base.specs.Spelling.{Instr, Spells, seen}
use Rattle.nor_base.specs.Operations.{poll}
use Rattle.nor_base.specs.Clocks.{bits, clocks_of, HasRow, IsSendable}
use Rattle.nor_base.proofs.ListLaws.{found_passes}
use Rattle.nor_laws.proofs.SpelledLaws.{has_spelling}
use Rattle.nor_laws.proofs.SymbolLemmas.{bit_is, nibble_is, bit_sampled_is, nibble_sampled_is, idle_is}

-- bits of one length and number are the same
number_small : (xs : List ℕ) → list_all is_bit_sent xs ≡ true → number xs < 2 ^ length xs
number_small [] sent = omega arith
number_small (x ∷ xs) sent =
    let parts = and_parts (is_bit_sent x) (list_all is_bit_sent xs) sent in
    let later = number_small xs parts.1 in
    let sum : length (x ∷ xs) ≡ 1 + length xs = omega arith in
    let power : 2 ^ length (x ∷ xs) ≡ 2 * 2 ^ length xs = ap (λ n. 2 ^ n) sum ∙ pow-add 2 1 (length xs) in
    subst (λ p. number (x ∷ xs) < p) (sym power) (weighed (bit x) (2 ^ length xs) (number xs) (bit_is x parts.0).1 later)
  where
    weighed : (b p n : ℕ) → b < 2 → n < p → b * p + n < 2 * p
    weighed zero p n low small = omega arith
    weighed (suc zero) p n low small = omega arith
    weighed (suc (suc b)) p n low small = absurd (omega arith)

record AreEqual (a b m n : ℕ) : Type 0 where
  high : a ≡ b
  low : m ≡ n

by_weight : (a b p m n : ℕ) → a < 2 → b < 2 → m < p → n < p → a * p + m ≡ b * p + n → AreEqual a b m n
by_weight zero zero p m n ha hb hm hn h = record { high = refl; low = omega arith }
by_weight zero (suc zero) p m n ha hb hm hn h = absurd (omega arith)
by_weight (suc zero) zero p m n ha hb hm hn h = absurd (omega arith)
by_weight (suc zero) (suc zero) p m n ha hb hm hn h = record { high = refl; low = omega arith }
by_weight (suc (suc a)) b p m n ha hb hm hn h = absurd (omega arith)
by_weight a (suc (suc b)) p m n ha hb hm hn h = absurd (omega arith)

pub same_number : (xs ys : List ℕ) → length xs ≡ length ys → list_all is_bit_sent xs ≡ true → list_all is_bit_sent ys ≡ true → number xs ≡ number ys → xs ≡ ys
same_number [] [] long first second is = refl
same_number [] (y ∷ ys) long first second is = absurd (omega (arith, long))
same_number (x ∷ xs) [] long first second is = absurd (omega (arith, long))
same_number (x ∷ xs) (y ∷ ys) long first second is =
    let one = and_parts (is_bit_sent x) (list_all is_bit_sent xs) first in
    let two = and_parts (is_bit_sent y) (list_all is_bit_sent ys) second in
    let a = bit_is x one.0 in
    let b = bit_is y two.0 in
    let alike : length xs ≡ length ys = omega (arith, long) in
    let power : 2 ^ length xs ≡ 2 ^ length ys = ap (λ n. 2 ^ n) alike in
    let below : number ys < 2 ^ length xs = subst (λ p. number ys < p) (sym power) (number_small ys two.1) in
    let sums : bit x * 2 ^ length xs + number xs ≡ bit y * 2 ^ length xs + number ys = is ∙ ap (λ p. bit y * p + number ys) (sym power) in
    let same = by_weight (bit x) (bit y) (2 ^ length xs) (number xs) (number ys) a.1 b.1 (number_small xs one.1) below sums in
    let heads : x ≡ y = a.0 ∙ ap (λ n. 0x30 + n) same.high ∙ sym b.0 in
    let tails = same_number xs ys alike one.1 two.1 same.low in
    cc

-- clocks of one sort that is one symbol
same_filled : (p : ℕ → Bool) (symbol : ℕ) (only : (byte : ℕ) → p byte ≡ true → byte ≡ symbol) (xs ys : List ℕ) → length xs ≡ length ys
    → list_all p xs ≡ true → list_all p ys ≡ true → xs ≡ ys
same_filled p symbol only [] [] long first second = refl
same_filled p symbol only [] (y ∷ ys) long first second = absurd (omega (arith, long))
same_filled p symbol only (x ∷ xs) [] long first second = absurd (omega (arith, long))
same_filled p symbol only (x ∷ xs) (y ∷ ys) long first second =
    let one = and_parts (p x) (list_all p xs) first in
    let two = and_parts (p y) (list_all p ys) second in
    let heads : x ≡ y = only x one.0 ∙ sym (only y two.0) in
    let tails = same_filled p symbol only xs ys (omega (arith, long)) one.1 two.1 in
    cc

-- eight clocks a byte
eight : (xs : List ℕ) → 8 ≤ length xs → bytes_of_bits xs ≡ number (take 8 xs) ∷ bytes_of_bits (drop 8 xs)
eight [] long = absurd (omega arith)
eight (a ∷ []) long = absurd (omega arith)
eight (a ∷ b ∷ []) long = absurd (omega arith)
eight (a ∷ b ∷ c ∷ []) long = absurd (omega arith)
eight (a ∷ b ∷ c ∷ d ∷ []) long = absurd (omega arith)
eight (a ∷ b ∷ c ∷ d ∷ e ∷ []) long = absurd (omega arith)
eight (a ∷ b ∷ c ∷ d ∷ e ∷ f ∷ []) long = absurd (omega arith)
eight (a ∷ b ∷ c ∷ d ∷ e ∷ f ∷ g ∷ []) long = absurd (omega arith)
eight (a ∷ b ∷ c ∷ d ∷ e ∷ f ∷ g ∷ h ∷ more) long = refl

-- so many bytes, of eight clocks each
bytes_counted : (k : ℕ) (xs : List ℕ) → length xs ≡ 8 * k → length (bytes_of_bits xs) ≡ k
bytes_counted zero [] long = refl
bytes_counted zero (x ∷ xs) long = absurd (omega (arith, long))
bytes_counted (suc k) xs long =
    let later = bytes_counted k (drop 8 xs) (omega (arith, long, length-drop 8 xs)) in
    ap (λ (bytes : List ℕ). length bytes) (eight xs (omega (arith, long))) ∙ ap suc later

-- what each of a list passes, each of its first and each of the others passes
all_first : (p : ℕ → Bool) (n : ℕ) (xs : List ℕ) → list_all p xs ≡ true → list_all p (take n xs) ≡ true
all_first p zero xs h = refl
all_first p (suc n) [] h = refl
all_first p (suc n) (x ∷ xs) h = let parts = and_parts (p x) (list_all p xs) h in rw (parts.0, all_first p n xs parts.1) refl

all_others : (p : ℕ → Bool) (n : ℕ) (xs : List ℕ) → list_all p xs ≡ true → list_all p (drop n xs) ≡ true
all_others p zero xs h = h
all_others p (suc n) [] h = refl
all_others p (suc n) (x ∷ xs) h = all_others p n xs (and_parts (p x) (list_all p xs) h).1

-- lists of one beginning and one end are one
same_ends : (n : ℕ) (xs ys : List ℕ) → take n xs ≡ take n ys → drop n xs ≡ drop n ys → xs ≡ ys
same_ends n xs ys front back =
    let first = take-append-drop n xs in
    let second = take-append-drop n ys in
    sym first ∙ (rw (front, back) second)

same_taken : (n k : ℕ) (xs ys : List ℕ) → length xs ≡ n + k → length ys ≡ n + k → length (take n xs) ≡ length (take n ys)
same_taken n k xs ys long longer = omega (arith, length-take n xs, length-take n ys, long, longer)

same_bits : (k : ℕ) (xs ys : List ℕ) → length xs ≡ 8 * k → length ys ≡ 8 * k → list_all is_bit_sent xs ≡ true → list_all is_bit_sent ys ≡ true
    → bytes_of_bits xs ≡ bytes_of_bits ys → xs ≡ ys
same_bits zero xs ys long longer first second is = nil_from_length xs (omega (arith, long)) ∙ sym (nil_from_length ys (omega (arith, longer)))
same_bits (suc k) xs ys long longer first second is =
    let heads : number (take 8 xs) ∷ bytes_of_bits (drop 8 xs) ≡ number (take 8 ys) ∷ bytes_of_bits (drop 8 ys) =
    sym (eight xs (omega (arith, long))) ∙ is ∙ eight ys (omega (arith, longer)) in
    let one : number (take 8 xs) ≡ number (take 8 ys) = cc in
    let more : bytes_of_bits (drop 8 xs) ≡ bytes_of_bits (drop 8 ys) = cc in
    let front = same_number (take 8 xs) (take 8 ys) (same_taken 8 (8 * k) xs ys (omega (arith, long)) (omega (arith, longer)))
    (all_first is_bit_sent 8 xs first) (all_first is_bit_sent 8 ys second) one in
    let back = same_bits k (drop 8 xs) (drop 8 ys) (omega (arith, long, length-drop 8 xs)) (omega (arith, longer, length-drop 8 ys))
    (all_others is_bit_sent 8 xs first) (all_others is_bit_sent 8 ys second) more in
    same_ends 8 xs ys front back

-- the same with two clocks a byte
nibbles_counted : (k : ℕ) (xs : List ℕ) → length xs ≡ 2 * k → length (bytes_of_nibbles xs) ≡ k
nibbles_counted zero [] long = refl
nibbles_counted zero (x ∷ xs) long = absurd (omega (arith, long))
nibbles_counted (suc k) [] long = absurd (omega (arith, long))
nibbles_counted (suc k) (x ∷ []) long = absurd (omega (arith, long))
nibbles_counted (suc k) (x ∷ y ∷ xs) long = ap suc (nibbles_counted k xs (omega (arith, long)))

same_nibbles : (k : ℕ) (xs ys : List ℕ) → length xs ≡ 2 * k → length ys ≡ 2 * k → list_all is_nibble_sent xs ≡ true → list_all is_nibble_sent ys ≡ true
    → bytes_of_nibbles xs ≡ bytes_of_nibbles ys → xs ≡ ys
same_nibbles zero xs ys long longer first second is = nil_from_length xs (omega (arith, long)) ∙ sym (nil_from_length ys (omega (arith, longer)))
same_nibbles (suc k) [] ys long longer first second is = absurd (omega (arith, long))
same_nibbles (suc k) (x ∷ []) ys long longer first second is = absurd (omega (arith, long))
same_nibbles (suc k) (x ∷ y ∷ xs) [] long longer first second is = absurd (omega (arith, longer))
same_nibbles (suc k) (x ∷ y ∷ xs) (a ∷ []) long longer first second is = absurd (omega (arith, longer))
same_nibbles (suc k) (x ∷ y ∷ xs) (a ∷ b ∷ ys) long longer first second is =
    let high = and_parts (is_nibble_sent x) (is_nibble_sent y && list_all is_nibble_sent xs) first in
    let low = and_parts (is_nibble_sent y) (list_all is_nibble_sent xs) high.1 in
    let top = and_parts (is_nibble_sent a) (is_nibble_sent b && list_all is_nibble_sent ys) second in
    let end = and_parts (is_nibble_sent b) (list_all is_nibble_sent ys) top.1 in
    let one : 16 * nibble x + nibble y ≡ 16 * nibble a + nibble b = cc in
    let more : bytes_of_nibbles xs ≡ bytes_of_nibbles ys = cc in
    let hx = nibble_is x high.0 in
    let hy = nibble_is y low.0 in
    let ha = nibble_is a top.0 in
    let hb = nibble_is b end.0 in
    let upper : x ≡ a = omega (arith, one, hx.0, hx.1, hy.1, ha.0, ha.1, hb.1) in
    let lower : y ≡ b = omega (arith, one, hx.1, hy.0, hy.1, ha.1, hb.0, hb.1) in
    let rest = same_nibbles k xs ys (omega (arith, long)) (omega (arith, longer)) low.1 end.1 more in
    cc

-- groups of clocks are whole
record AreWhole (n : ℕ) (p : ℕ → Bool) (clocks : List ℕ) : Type 0 where
  even : length clocks % n ≡ 0
  all : list_all p clocks ≡ true

whole_groups : (n : ℕ) (p : ℕ → Bool) (clocks : List ℕ) → are_groups n clocks && list_all p clocks ≡ true → AreWhole n p clocks
whole_groups n p clocks h =
    let parts = and_parts (are_groups n clocks) (list_all p clocks) h in
    let groups = and_parts (nat_lt 0 (length clocks)) (length clocks % n == 0) parts.0 in
    record { even = eqb-true (length clocks % n) 0 groups.1; all = parts.1 }

-- data clocks of one form that send the same bytes, or ask for as many, are the same
same_data : (form : Form) (xs ys : List ℕ) → is_data form xs ≡ true → is_data form ys ≡ true → bytes_sent form xs ≡ bytes_sent form ys
    → bytes_asked form xs ≡ bytes_asked form ys → xs ≡ ys
unfolding is_data
same_data nothing xs ys first second sent asked =
    nil_from_length xs (eqb-true (length xs) 0 first) ∙ sym (nil_from_length ys (eqb-true (length ys) 0 second))
same_data sends xs ys first second sent asked =
    let one = whole_groups 8 is_bit_sent xs first in
    let other = whole_groups 8 is_bit_sent ys second in
    let count = bytes_counted (length xs / 8) xs (omega (arith, one.even)) in
    let counts = bytes_counted (length ys / 8) ys (omega (arith, other.even)) in
    let same = ap (λ (bytes : List ℕ). length bytes) sent in
    same_bits (length xs / 8) xs ys (omega (arith, one.even)) (omega (arith, other.even, count, counts, same)) one.all other.all sent
same_data sends4 xs ys first second sent asked =
    let one = whole_groups 2 is_nibble_sent xs first in
    let other = whole_groups 2 is_nibble_sent ys second in
    let count = nibbles_counted (length xs / 2) xs (omega (arith, one.even)) in
    let counts = nibbles_counted (length ys / 2) ys (omega (arith, other.even)) in
    let same = ap (λ (bytes : List ℕ). length bytes) sent in
    same_nibbles (length xs / 2) xs ys (omega (arith, one.even)) (omega (arith, other.even, count, counts, same)) one.all other.all sent
same_data samples xs ys first second sent asked =
    let one = whole_groups 8 is_bit_sampled xs first in
    let other = whole_groups 8 is_bit_sampled ys second in
    same_filled is_bit_sampled 0x2E bit_sampled_is xs ys (omega (arith, one.even, other.even, asked)) one.all other.all
same_data samples4 xs ys first second sent asked =
    let one = whole_groups 2 is_nibble_sampled xs first in
    let other = whole_groups 2 is_nibble_sampled ys second in
    same_filled is_nibble_sampled 0x3D nibble_sampled_is xs ys (omega (arith, one.even, other.even, asked)) one.all other.all

-- what is known of clocks that are seen as an instruction by a row
record IsSeenBy (r : Row) (i : Instr) (clocks : List ℕ) : Type 0 where
  opcode_there : has_opcode clocks ≡ true
  formed : is_form r (drop 8 clocks) ≡ true
  is : instruction (record { what = r.what; address = number (address_clocks r (drop 8 clocks)); body = data_clocks r (drop 8 clocks) }) ≡ seen i

has_row : (m : Parameters) (mode4 : Bool) (r : Row) (s : Instruction) (clocks : List ℕ) (b : Bool) → has_opcode clocks ≡ b → row_of m mode4 (opcode clocks) ≡ Some r
    → option_map instruction (if b then option_map (by_row (drop 8 clocks)) (row_of m mode4 (opcode clocks)) else None) ≡ Some s
    → (has_opcode clocks ≡ true) × (instruction (by_row (drop 8 clocks) r) ≡ s)
has_row m mode4 r s clocks false there found h = cc
has_row m mode4 r s clocks true there found h =
    let whole : option_map instruction (option_map (by_row (drop 8 clocks)) (Some r)) ≡ Some s =
    subst (λ o. option_map instruction (option_map (by_row (drop 8 clocks)) o) ≡ Some s) found h in
    (there, some_is whole)
  where
    some_is : {a b : Instruction} → Some a ≡ Some b → a ≡ b
    some_is h = cc

has_form : (r : Row) (i : Instr) (rest : List ℕ) (b : Bool) → is_form r rest ≡ b → is_broken i.what ≡ false
    → instruction (if b then record { what = r.what; address = number (address_clocks r rest); body = data_clocks r rest } else broken) ≡ seen i
    → (is_form r rest ≡ true) × (instruction (record { what = r.what; address = number (address_clocks r rest); body = data_clocks r rest }) ≡ seen i)
has_form r i rest true is sound h = (is, h)
has_form r i rest false is sound h =
    let same : what.Broken ≡ i.what = ap (λ (s : Instruction). s.what) h in
    let says : is_broken what.Broken ≡ is_broken i.what = ap is_broken same in
    absurd_from says sound
  where
    absurd_from : {A : Type 0} {b : Bool} → true ≡ b → b ≡ false → A
    absurd_from h is = cc

-- no row of the table is broken
known_row : (m : Parameters) (mode4 : Bool) (opcode : ℕ) (r : Row) → row_of m mode4 opcode ≡ Some r → not (is_broken r.what) ≡ true
unfolding row_of
known_row m mode4 opcode r h = (found_passes (λ (r : Row). (opcode == r.opcode) && r.offered) (λ (r : Row). not (is_broken r.what)) (table m mode4) r refl h).all

seen_by_row : (m : Parameters) (mode4 : Bool) (i : Instr) (clocks : List ℕ) (row : HasRow m mode4 i) → Spells m mode4 i clocks → IsSeenBy row.r i clocks
unfolding decode transaction by_row
seen_by_row m mode4 i clocks row spelled =
    let found : row_of m mode4 (opcode clocks) ≡ Some row.r = ap (row_of m mode4) spelled.begins ∙ row.found in
    let sound : is_broken i.what ≡ false = not-true (is_broken i.what) (subst (λ w. not (is_broken w) ≡ true) row.its_what (known_row m mode4 i.op row.r row.found)) in
    let there = has_row m mode4 row.r (seen i) clocks (has_opcode clocks) refl found spelled.decodes in
    let parts = has_form row.r i (drop 8 clocks) (is_form row.r (drop 8 clocks)) refl sound there.1 in
    record { opcode_there = there.0; formed = parts.0; is = parts.1 }

-- the parts of clocks that have the form of a row
pub record HasForm (r : Row) (rest : List ℕ) : Type 0 where
  pub enough : 8 * r.width + r.dummies ≤ length rest
  pub sent : list_all is_bit_sent (address_clocks r rest) ≡ true
  pub idle : list_all is_idle (dummy_clocks r rest) ≡ true
  pub good : is_data (form_of r.what) (data_clocks r rest) ≡ true

pub form_parts : (r : Row) (rest : List ℕ) → is_form r rest ≡ true → HasForm r rest
unfolding is_form
form_parts r rest h =
    let a = and_parts (nat_le (8 * r.width + r.dummies) (length rest)) _ h in
    let b = and_parts (list_all is_bit_sent (address_clocks r rest)) _ a.1 in
    let c = and_parts (list_all is_idle (dummy_clocks r rest)) _ b.1 in
    record { enough = leb-true (8 * r.width + r.dummies) (length rest) a.0; sent = b.0; idle = c.0; good = c.1 }

same_rest : (r : Row) (xs ys : List ℕ) → HasForm r xs → HasForm r ys → number (address_clocks r xs) ≡ number (address_clocks r ys)
    → bytes_sent (form_of r.what) (data_clocks r xs) ≡ bytes_sent (form_of r.what) (data_clocks r ys)
    → bytes_asked (form_of r.what) (data_clocks r xs) ≡ bytes_asked (form_of r.what) (data_clocks r ys) → xs ≡ ys
same_rest r xs ys first second at sent asked =
    let n = 8 * r.width in
    let address : take n xs ≡ take n ys =
    same_number (take n xs) (take n ys) (omega (arith, length-take n xs, length-take n ys, first.enough, second.enough)) first.sent second.sent at in
    let dummies : take r.dummies (drop n xs) ≡ take r.dummies (drop n ys) =
    same_filled is_idle 0x2D idle_is (take r.dummies (drop n xs)) (take r.dummies (drop n ys))
    (omega (arith, length-take r.dummies (drop n xs), length-take r.dummies (drop n ys), length-drop n xs, length-drop n ys, first.enough, second.enough)) first.idle second.idle in
    let body : drop r.dummies (drop n xs) ≡ drop r.dummies (drop n ys) =
    same_data (form_of r.what) (data_clocks r xs) (data_clocks r ys) first.good second.good sent asked in
    same_ends n xs ys address (same_ends r.dummies (drop n xs) (drop n ys) dummies body)

pub record HasOpcode (clocks : List ℕ) : Type 0 where
  pub enough : 8 ≤ length clocks
  pub sent : list_all is_bit_sent (take 8 clocks) ≡ true

pub opcode_parts : (clocks : List ℕ) → has_opcode clocks ≡ true → HasOpcode clocks
unfolding has_opcode
opcode_parts clocks h = let a = and_parts (nat_le 8 (length clocks)) _ h in record { enough = leb-true 8 (length clocks) a.0; sent = a.1 }

same_opcode : (xs ys : List ℕ) → HasOpcode xs → HasOpcode ys → opcode xs ≡ opcode ys → take 8 xs ≡ take 8 ys
same_opcode xs ys first second is =
    same_number (take 8 xs) (take 8 ys) (omega (arith, length-take 8 xs, length-take 8 ys, first.enough, second.enough)) first.sent second.sent is

pub same_spelling : (m : Parameters) (mode4 : Bool) (i : Instr) (xs ys : List ℕ) → HasRow m mode4 i → Spells m mode4 i xs → Spells m mode4 i ys → xs ≡ ys
same_spelling m mode4 i xs ys row first second =
    let r = row.r in
    let one = seen_by_row m mode4 i xs row first in
    let other = seen_by_row m mode4 i ys row second in
    let alike = one.is ∙ sym other.is in
    let at = ap (λ (s : Instruction). s.address) alike in
    let sent = ap (λ (s : Instruction). s.sent) alike in
    let asked = ap (λ (s : Instruction). s.asked) alike in
    let front = same_opcode xs ys (opcode_parts xs one.opcode_there) (opcode_parts ys other.opcode_there) (first.begins ∙ sym second.begins) in
    let back = same_rest r (drop 8 xs) (drop 8 ys) (form_parts r (drop 8 xs) one.formed) (form_parts r (drop 8 ys) other.formed) at sent asked in
    same_ends 8 xs ys front back

pub one_spelling : (m : Parameters) (mode4 : Bool) (i : Instr) (clocks : List ℕ) → HasRow m mode4 i → IsSendable i → Spells m mode4 i clocks → clocks ≡ clocks_of i
one_spelling m mode4 i clocks row fits spelled = same_spelling m mode4 i clocks (clocks_of i) row spelled (has_spelling m mode4 i row fits)

-- a poll has its row on every chip
pub poll_row : (m : Parameters) (mode4 : Bool) → HasRow m mode4 poll
unfolding row_of
poll_row m mode4 = record { r = row 0x05 true what.Status 0; found = refl; its_what = refl; its_width = refl; its_dummies = refl }

pub poll_clocks_are : clocks_of poll ≡ poll_clocks
unfolding bits
poll_clocks_are = refl

pub poll_is_fixed : (m : Parameters) (mode4 : Bool) (clocks : List ℕ) → Spells m mode4 poll clocks → clocks ≡ poll_clocks
poll_is_fixed m mode4 clocks spelled =
    one_spelling m mode4 poll clocks (poll_row m mode4) (record { op = omega arith; address = omega arith; carried = omega arith }) spelled ∙ poll_clocks_are
