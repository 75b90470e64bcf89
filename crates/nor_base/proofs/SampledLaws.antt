-- A transaction gives as many bytes as its clocks sample.
use Rattle.std.proofs.Common.{◌≡◌, ℕ, ◌+◌, ◌*◌, ◌/◌, ◌==◌, nat_le, Bool, true, false, cond, ◌&&◌, if◌then◌else◌, List, [], ◌∷◌, ◌++◌, length, take, drop, Option, Some, None, option_map, refl, sym, ◌∙◌, ap, subst, arith, eqb-true}
use Rattle.std.specs.Prelude.{count_by}
use Rattle.std.specs.List.{list_all, find}
use Rattle.std.specs.Option.{option_map_or}
use Rattle.std.proofs.lemmas.Bool.{and_parts}
use Rattle.std.proofs.lemmas.List.{take-append-drop}
use Rattle.std.proofs.lemmas.List.Sums.{sum_by-append, sum_by-cons}
use Rattle.nor_base.specs.declared.clock.Clock.{Clock}
use Rattle.nor_base.specs.declared.clock.Clock.TheVariants as clock
use Rattle.nor_base.specs.declared.clock.Sample.{Sample}
use Rattle.nor_base.specs.Sample.{symbol, sample, clocks, clock_at, sampled_count}
use Rattle.nor_base.specs.Parameters.{Parameters}
use Rattle.nor_base.specs.Instructions.{Form, nothing, sends, sends4, samples, samples4, form_of, Row, row_of}
use Rattle.nor_base.specs.Decoding.{has_lanes, is_bit_sent, is_nibble_sent, is_bit_sampled, is_nibble_sampled, is_idle, are_groups, is_data, address_clocks, dummy_clocks, data_clocks, is_form, Transaction, broken, by_row, has_opcode, opcode, number, transaction, bytes_asked, Instruction, instruction, decode}
use Rattle.nor_base.specs.Effect.{is_broken}
use Rattle.nor_base.proofs.SymbolLaws.{by_clock}

found_step : (byte : ℕ) (first : Clock) (rest : List Clock) (c : Clock) (b : Bool) → (symbol first == byte) ≡ b
    → (find (λ clock. symbol clock == byte) rest ≡ Some c → (symbol c == byte) ≡ true)
    → cond b (Some first) (find (λ clock. symbol clock == byte) rest) ≡ Some c → (symbol c == byte) ≡ true
found_step byte first rest c true is later h = let same : first ≡ c = cc in subst (λ clock. (symbol clock == byte) ≡ true) same is
found_step byte first rest c false is later h = later h

found_symbol : (byte : ℕ) (those : List Clock) (c : Clock) → find (λ clock. symbol clock == byte) those ≡ Some c → (symbol c == byte) ≡ true
found_symbol byte [] c h = cc
found_symbol byte (first ∷ rest) c h = found_step byte first rest c (symbol first == byte) refl (found_symbol byte rest c) h

-- a byte whose lanes are known is a clock's symbol
record HasClock (driven sampled byte : ℕ) : Type 0 where
  clock : Clock
  symbol_is : symbol clock ≡ byte
  driven_is : ((sample clock).driven == driven) ≡ true
  sampled_is : ((sample clock).sampled == sampled) ≡ true

clock_known : (driven sampled byte : ℕ) (found : Option Clock) → clock_at byte ≡ found
    → option_map_or (λ (s : Sample). (s.driven == driven) && (s.sampled == sampled)) (option_map sample found) false ≡ true → HasClock driven sampled byte
clock_known driven sampled byte None is h = cc
clock_known driven sampled byte (Some c) is h = record {
  clock = c;
  symbol_is = eqb-true (symbol c) byte (found_symbol byte clocks c is);
  driven_is = (and_parts ((sample c).driven == driven) ((sample c).sampled == sampled) h).0;
  sampled_is = (and_parts ((sample c).driven == driven) ((sample c).sampled == sampled) h).1;
}

has_clock : (driven sampled byte : ℕ) → has_lanes driven sampled byte ≡ true → HasClock driven sampled byte
has_clock driven sampled byte h =
    clock_known driven sampled byte (clock_at byte) refl
    (subst (λ o. option_map_or (λ (s : Sample). (s.driven == driven) && (s.sampled == sampled)) o false ≡ true) (by_clock byte) h)

-- whether a symbol is `.`, and whether it is `=`
abbrev is_dot : ℕ → Bool
is_dot byte = byte == 0x2E

abbrev is_equals : ℕ → Bool
is_equals byte = byte == 0x3D

no_dot : (c : Clock) → ((sample c).sampled == 0) ≡ true → is_dot (symbol c) ≡ false
no_dot clock.SampleOne h = cc
no_dot other h = refl

no_equals : (c : Clock) → ((sample c).sampled == 0) ≡ true → is_equals (symbol c) ≡ false
no_equals clock.SampleFour h = cc
no_equals other h = refl

one_dot : (c : Clock) → ((sample c).sampled == 2) ≡ true → is_dot (symbol c) ≡ true
one_dot clock.SampleOne h = refl
one_dot other h = cc

one_no_equals : (c : Clock) → ((sample c).sampled == 2) ≡ true → is_equals (symbol c) ≡ false
one_no_equals clock.SampleOne h = refl
one_no_equals other h = cc

four_no_dot : (c : Clock) → ((sample c).sampled == 15) ≡ true → is_dot (symbol c) ≡ false
four_no_dot clock.SampleFour h = refl
four_no_dot other h = cc

four_equals : (c : Clock) → ((sample c).sampled == 15) ≡ true → is_equals (symbol c) ≡ true
four_equals clock.SampleFour h = refl
four_equals other h = cc

silent_dot : (driven byte : ℕ) → has_lanes driven 0 byte ≡ true → is_dot byte ≡ false
silent_dot driven byte h = let k = has_clock driven 0 byte h in subst (λ b. is_dot b ≡ false) k.symbol_is (no_dot k.clock k.sampled_is)

silent_equals : (driven byte : ℕ) → has_lanes driven 0 byte ≡ true → is_equals byte ≡ false
silent_equals driven byte h = let k = has_clock driven 0 byte h in subst (λ b. is_equals b ≡ false) k.symbol_is (no_equals k.clock k.sampled_is)

-- how many elements pass, where all tell the same
count_none : (test told : ℕ → Bool) (xs : List ℕ) → ((x : ℕ) → told x ≡ true → test x ≡ false) → list_all told xs ≡ true → count_by test xs ≡ 0
count_none test told [] none h = refl
count_none test told (x ∷ xs) none h =
    let here = none x (and_parts (told x) (list_all told xs) h).0 in
    let later : count_by test xs ≡ 0 = count_none test told xs none (and_parts (told x) (list_all told xs) h).1 in
    sum_by-cons (λ y. cond (test y) 1 0) x xs ∙ ap (λ b. cond b 1 0 + count_by test xs) here ∙ ap (λ n. 0 + n) later

count_all : (test told : ℕ → Bool) (xs : List ℕ) → ((x : ℕ) → told x ≡ true → test x ≡ true) → list_all told xs ≡ true → count_by test xs ≡ length xs
count_all test told [] all h = refl
count_all test told (x ∷ xs) all h =
    let here = all x (and_parts (told x) (list_all told xs) h).0 in
    let later : count_by test xs ≡ length xs = count_all test told xs all (and_parts (told x) (list_all told xs) h).1 in
    sum_by-cons (λ y. cond (test y) 1 0) x xs ∙ ap (λ b. cond b 1 0 + count_by test xs) here ∙ ap (λ n. 1 + n) later ∙ omega arith

-- clocks that sample nothing
record IsSilent (xs : List ℕ) : Type 0 where
  dots : count_by is_dot xs ≡ 0
  equals : count_by is_equals xs ≡ 0

silent : (driven : ℕ) (xs : List ℕ) → list_all (has_lanes driven 0) xs ≡ true → IsSilent xs
silent driven xs h = record {
  dots = count_none is_dot (has_lanes driven 0) xs (silent_dot driven) h;
  equals = count_none is_equals (has_lanes driven 0) xs (silent_equals driven) h;
}

after_silent : (xs ys : List ℕ) → IsSilent xs → sampled_count (xs ++ ys) ≡ sampled_count ys
after_silent xs ys s =
    let dots : count_by is_dot (xs ++ ys) ≡ count_by is_dot ys = sum_by-append (λ x. cond (is_dot x) 1 0) xs ys ∙ ap (λ n. n + count_by is_dot ys) s.dots ∙ omega arith in
    let equals : count_by is_equals (xs ++ ys) ≡ count_by is_equals ys = sum_by-append (λ x. cond (is_equals x) 1 0) xs ys ∙ ap (λ n. n + count_by is_equals ys) s.equals ∙ omega arith in
    ap (λ n. n / 8 + count_by is_equals (xs ++ ys) / 2) dots ∙ ap (λ n. count_by is_dot ys / 8 + n / 2) equals

none_sampled : (xs : List ℕ) → IsSilent xs → sampled_count xs ≡ 0
none_sampled xs s = ap (λ n. n / 8 + count_by is_equals xs / 2) s.dots ∙ ap (λ n. 0 / 8 + n / 2) s.equals

-- data clocks sample the bytes that they ask for
data_sampled : (form : Form) (body : List ℕ) → is_data form body ≡ true → sampled_count body ≡ bytes_asked form body
unfolding is_data is_bit_sent is_nibble_sent is_bit_sampled is_nibble_sampled
data_sampled nothing [] h = refl
data_sampled nothing (x ∷ body) h = absurd (let none : length (x ∷ body) ≡ 0 = eqb-true (length (x ∷ body)) 0 h in omega arith)
data_sampled sends body h = none_sampled body (silent 13 body (and_parts (are_groups 8 body) _ h).1)
data_sampled sends4 body h = none_sampled body (silent 15 body (and_parts (are_groups 2 body) _ h).1)
data_sampled samples body h =
    let those = (and_parts (are_groups 8 body) (list_all (has_lanes 12 2) body) h).1 in
    let dots = count_all is_dot (has_lanes 12 2) body (λ x t. let k = has_clock 12 2 x t in subst (λ b. is_dot b ≡ true) k.symbol_is (one_dot k.clock k.sampled_is)) those in
    let equals = count_none is_equals (has_lanes 12 2) body (λ x t. let k = has_clock 12 2 x t in subst (λ b. is_equals b ≡ false) k.symbol_is (one_no_equals k.clock k.sampled_is)) those in
    ap (λ n. n / 8 + count_by is_equals body / 2) dots ∙ ap (λ n. length body / 8 + n / 2) equals ∙ omega arith
data_sampled samples4 body h =
    let those = (and_parts (are_groups 2 body) (list_all (has_lanes 0 15) body) h).1 in
    let dots = count_none is_dot (has_lanes 0 15) body (λ x t. let k = has_clock 0 15 x t in subst (λ b. is_dot b ≡ false) k.symbol_is (four_no_dot k.clock k.sampled_is)) those in
    let equals = count_all is_equals (has_lanes 0 15) body (λ x t. let k = has_clock 0 15 x t in subst (λ b. is_equals b ≡ true) k.symbol_is (four_equals k.clock k.sampled_is)) those in
    ap (λ n. n / 8 + count_by is_equals body / 2) dots ∙ ap (λ n. 0 / 8 + n / 2) equals ∙ omega arith

-- what follows the opcode, by its row
rest_sampled : (r : Row) (rest : List ℕ) → is_form r rest ≡ true → sampled_count rest ≡ bytes_asked (form_of r.what) (data_clocks r rest)
unfolding is_form is_bit_sent is_idle
rest_sampled r rest h =
    let a = (and_parts (nat_le (8 * r.width + r.dummies) (length rest)) _ h).1 in
    let address = silent 13 (address_clocks r rest) (and_parts (list_all (has_lanes 13 0) (address_clocks r rest)) _ a).0 in
    let b = (and_parts (list_all (has_lanes 13 0) (address_clocks r rest)) _ a).1 in
    let dummies = silent 0 (dummy_clocks r rest) (and_parts (list_all (has_lanes 0 0) (dummy_clocks r rest)) _ b).0 in
    let body = data_sampled (form_of r.what) (data_clocks r rest) (and_parts (list_all (has_lanes 0 0) (dummy_clocks r rest)) _ b).1 in
    ap sampled_count (sym (take-append-drop (8 * r.width) rest))
    ∙ after_silent (address_clocks r rest) (drop (8 * r.width) rest) address
    ∙ ap sampled_count (sym (take-append-drop r.dummies (drop (8 * r.width) rest)))
    ∙ after_silent (dummy_clocks r rest) (data_clocks r rest) dummies ∙ body

-- the transaction of a row, or a broken one
abbrev by_row_if : List ℕ → Row → Bool → Transaction
by_row_if rest r b = if b then record { what = r.what; address = number (address_clocks r rest); body = data_clocks r rest } else broken

by_row_asks : (rest : List ℕ) (r : Row) (b : Bool) → is_form r rest ≡ b → is_broken (by_row_if rest r b).what ≡ false
    → sampled_count rest ≡ (instruction (by_row_if rest r b)).asked
by_row_asks rest r true is known = rest_sampled r rest is
by_row_asks rest r false is known = cc

-- what was seen, where it isn't broken
pub record IsSeen (clocks : List ℕ) (i : Instruction) : Type 0 where
  pub seen : Transaction
  pub seen_is : i ≡ instruction seen
  pub asks : is_broken i.what ≡ false → sampled_count clocks ≡ i.asked

seen_by_row : (clocks : List ℕ) (b : Bool) (found : Option Row) (i : Instruction) → has_opcode clocks ≡ b
    → option_map instruction (if b then option_map (by_row (drop 8 clocks)) found else None) ≡ Some i → IsSeen clocks i
unfolding by_row has_opcode is_bit_sent
seen_by_row clocks false found i is h = cc
seen_by_row clocks true None i is h = cc
seen_by_row clocks true (Some r) i is h =
    let same : instruction (by_row (drop 8 clocks) r) ≡ i = cc in
    let front = silent 13 (take 8 clocks) (and_parts (nat_le 8 (length clocks)) (list_all (has_lanes 13 0) (take 8 clocks)) is).1 in
    record {
      seen = by_row (drop 8 clocks) r;
      seen_is = sym same;
      asks = λ known.
          let known' : is_broken (by_row_if (drop 8 clocks) r (is_form r (drop 8 clocks))).what ≡ false = ap (λ (j : Instruction). is_broken j.what) same ∙ known in
          ap sampled_count (sym (take-append-drop 8 clocks)) ∙ after_silent (take 8 clocks) (drop 8 clocks) front
          ∙ by_row_asks (drop 8 clocks) r (is_form r (drop 8 clocks)) refl known' ∙ ap (λ (j : Instruction). j.asked) same;
    }

pub decoded : (m : Parameters) (mode4 : Bool) (clocks : List ℕ) (i : Instruction) → decode m mode4 clocks ≡ Some i → IsSeen clocks i
unfolding decode transaction
decoded m mode4 clocks i h = seen_by_row clocks (has_opcode clocks) (row_of m mode4 (opcode clocks)) i refl h

pub asks_sampled : (m : Parameters) (mode4 : Bool) (clocks : List ℕ) (i : Instruction) → decode m mode4 clocks ≡ Some i → is_broken i.what ≡ false
    → i.asked ≡ sampled_count clocks
asks_sampled m mode4 clocks i h known = sym ((decoded m mode4 clocks i h).asks known)
