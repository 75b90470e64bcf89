-- No line feed is in a line.
use Rattle.std.proofs.Common.{◌≡◌, ℕ, ◌/◌, ◌%◌, ◌+◌, ◌^◌, ◌<◌, ◌==◌, ◌||◌, ◌≤◌, Bool, true, false, List, [], ◌∷◌, ◌++◌, length, refl, sym, ◌∙◌, ap, subst, arith, append_assoc}
use Rattle.std.specs.Prelude.{not, codes, decimal, flat_map}
use Rattle.std.specs.List.{list_all, list_any}
use Rattle.std.specs.Int.{w32, to_be_bytes}
use Rattle.std.proofs.lemmas.Bool.{and_parts, agree_below_at}
use Rattle.std.proofs.lemmas.Fmt.{decimal_by_steps}
use Rattle.nor_base.specs.declared.instruction.What.{What}
use Rattle.nor_base.specs.declared.instruction.What.TheVariants as what
use Rattle.nor_base.specs.declared.step.Step.{Step}
use Rattle.nor_base.specs.declared.step.Step.TheVariants.{Send, Poll, Verify}
use Rattle.nor_base.specs.Array.{are_bytes, is_filled}
use Rattle.nor_base.specs.Decoding.{opcode, bytes_asked, bytes_of_bits, bytes_of_nibbles}
use Rattle.nor_base.specs.Instructions.{Form, form_of, sends, sends4}
use Rattle.nor_decode.proofs.SmallLemmas.{sent_below}
use Rattle.nor_base.specs.Parameters.{Parameters, block_size}
use Rattle.nor_base.specs.Sample.{is_symbol}
use Rattle.nor_base.specs.Script.{hex_digit, hex_pair, step_line}
use Rattle.nor_base.specs.Step.{IsStep, are_clocks, expected, step_clocks}
use Rattle.nor_laws.proofs.ScriptLaws.{None_is, Small, small_bytes, up_to}
use Rattle.nor_listing.specs.Law.{IsListable}
use Rattle.nor_listing.specs.Listing.{in_eight, counted, spelled, words, line}
use Rattle.nor_listing.specs.Told.{SaysNoLine, BeginsNone, numbered}
use Rattle.nor_listing.proofs.TailLemmas.{tail_words, fewer_bits, fewer_nibbles}
use Rattle.nor_listing.proofs.TakenLemmas.{takes, taken_as, all_small, opcode_small}
use Rattle.nor_listing.proofs.ViewLemmas.{View, taken, polled, verified, broken, unknown, view, word, verify_word, read_tail, read_sound, asked_few}
use Rattle.nor_script.specs.Faults.{is_line_feed, BeginsWith}
use Rattle.nor_script.specs.Hexadecimal.{hex_number}

-- a text without a line feed
abbrev IsLine : List ℕ → Type 0
IsLine text = None_is 0x0A text

line_append : (xs ys : List ℕ) → IsLine xs → IsLine ys → IsLine (xs ++ ys)
line_append [] ys p q = q
line_append (x ∷ xs) ys p q = (p.0, line_append xs ys p.1 q)

by_test : (xs : List ℕ) → list_all (λ b. not (b == 0x0A)) xs ≡ true → IsLine xs
by_test [] h = tt
by_test (x ∷ xs) h =
    let parts = and_parts (not (x == 0x0A)) (list_all (λ b. not (b == 0x0A)) xs) h in
    (λ same. let both : false ≡ true = sym (ap (λ b. not (b == 0x0A)) same) ∙ parts.0 in cc, by_test xs parts.1)

digit_line : (n : ℕ) → n < 16 → IsLine (hex_digit n ∷ [])
digit_line n small = by_test (hex_digit n ∷ []) (agree_below_at (λ k. list_all (λ b. not (b == 0x0A)) (hex_digit k ∷ [])) (λ k. true) 16 n refl small)

pair_line : (b : ℕ) → b < 256 → IsLine (hex_pair b)
pair_line b small = ((digit_line (b / 16) (omega arith)).0, ((digit_line (b % 16) (omega arith)).0, tt))

bytes_line : (bytes : List ℕ) → Small bytes → IsLine (flat_map hex_pair bytes)
bytes_line [] small = tt
bytes_line (b ∷ bytes) small = line_append (hex_pair b) (flat_map hex_pair bytes) (pair_line b small.0) (bytes_line bytes small.1)

number_line : (n : ℕ) → IsLine (hex_number n)
unfolding hex_number
number_line n = bytes_line (to_be_bytes w32 n) (omega arith, (omega arith, (omega arith, (omega arith, tt))))

decimal_line : (n : ℕ) → n < 2 ^ 64 → IsLine (decimal n)
decimal_line n fits =
    decimal_by_steps (λ k ds. IsLine ds) (λ k small. ((λ same. omega (arith, same)), tt))
    (λ k ds big before. line_append ds ((48 + k % 10) ∷ []) before ((λ same. omega (arith, same)), tt)) n fits

symbols_line : (xs : List ℕ) → list_all is_symbol xs ≡ true → IsLine xs
symbols_line [] h = tt
symbols_line (x ∷ xs) h =
    let parts = and_parts (is_symbol x) (list_all is_symbol xs) h in
    (λ same. let both : false ≡ true = sym (ap is_symbol same) ∙ parts.0 in cc, symbols_line xs parts.1)

clocks_line : (clocks : List ℕ) → are_clocks clocks ≡ true → IsLine clocks
clocks_line clocks h = symbols_line clocks (and_parts (is_filled clocks) (list_all is_symbol clocks) h).1

eight_line : (n : ℕ) → IsLine (in_eight n)
eight_line n = line_append (codes " ") (hex_number n) (by_test (codes " ") refl) (number_line n)

count_line : (n : ℕ) → n < 2 ^ 64 → IsLine (counted n)
count_line n fits = line_append (codes " ") (decimal n) (by_test (codes " ") refl) (decimal_line n fits)

spelled_line : (bytes : List ℕ) → Small bytes → IsLine (spelled bytes)
spelled_line bytes small = line_append (codes " ") (flat_map hex_pair bytes) (by_test (codes " ") refl) (bytes_line bytes small)

word_line : (w : What) → IsLine (word w)
word_line what.Enable = by_test (codes "enable ") refl
word_line what.Disable = by_test (codes "disable ") refl
word_line what.Status = by_test (codes "status ") refl
word_line what.Enter = by_test (codes "enter ") refl
word_line what.Leave = by_test (codes "leave ") refl
word_line (what.Erase kind) = by_test (codes "erase ") refl
word_line what.Program = by_test (codes "program ") refl
word_line what.QuadProgram = by_test (codes "quadprogram ") refl
word_line what.Read = by_test (codes "read ") refl
word_line what.QuadRead = by_test (codes "quadread ") refl
word_line what.Broken = by_test (codes "enable ") refl

verify_word_line : (w : What) → IsLine (verify_word w)
verify_word_line what.QuadRead = by_test (codes "quadverify ") refl
verify_word_line other = by_test (codes "verify ") refl

-- what is sent, with its number
sent_line : (bytes : List ℕ) → Small bytes → length bytes < 2 ^ 64 → IsLine (counted (length bytes) ++ spelled bytes)
sent_line bytes small fits = line_append (counted (length bytes)) (spelled bytes) (count_line (length bytes) fits) (spelled_line bytes small)

tail_line : (m : Parameters) (w : What) (a : ℕ) (body : List ℕ) → length body < 2 ^ 64 → IsLine (tail_words m (taken_as w a body) w)
tail_line m what.Enable a body few = tt
tail_line m what.Disable a body few = tt
tail_line m what.Status a body few = count_line (length body / 8) (omega (arith, few))
tail_line m what.Enter a body few = tt
tail_line m what.Leave a body few = tt
tail_line m (what.Erase kind) a body few = line_append (in_eight a) (in_eight (block_size m kind)) (eight_line a) (eight_line (block_size m kind))
tail_line m what.Program a body few =
    let bytes = bytes_of_bits body in
    line_append (in_eight a) (counted (length bytes) ++ spelled bytes) (eight_line a) (sent_line bytes (all_small bytes (sent_below sends body)) (omega (arith, few, fewer_bits body)))
tail_line m what.QuadProgram a body few =
    let bytes = bytes_of_nibbles body in
    line_append (in_eight a) (counted (length bytes) ++ spelled bytes) (eight_line a) (sent_line bytes (all_small bytes (sent_below sends4 body)) (omega (arith, few, fewer_nibbles body)))
tail_line m what.Read a body few = line_append (in_eight a) (counted (length body / 8)) (eight_line a) (count_line (length body / 8) (omega (arith, few)))
tail_line m what.QuadRead a body few = line_append (in_eight a) (counted (length body / 2)) (eight_line a) (count_line (length body / 2) (omega (arith, few)))
tail_line m what.Broken a body few = tt

asked_line : (form : Form) (body : List ℕ) → length body < 2 ^ 64 → IsLine (counted (bytes_asked form body))
asked_line form body few = count_line (bytes_asked form body) (omega (arith, few, asked_few form body))

read_tail_line : (w : What) (a : ℕ) (body expect : List ℕ) → length body < 2 ^ 64 → Small expect → IsLine (read_tail (taken_as w a body) expect)
read_tail_line w a body expect few small =
    line_append (in_eight a) (counted (bytes_asked (form_of w) body) ++ spelled expect) (eight_line a)
    (line_append (counted (bytes_asked (form_of w) body)) (spelled expect) (asked_line (form_of w) body few) (spelled_line expect small))

script_line : (x : Step) → IsStep x → IsLine (step_line x)
unfolding step_line
script_line (Send clocks) one = line_append (codes "x ") clocks (by_test (codes "x ") refl) (clocks_line clocks one.passes)
script_line (Poll clocks) one = line_append (codes "p ") clocks (by_test (codes "p ") refl) (clocks_line clocks one.passes)
script_line (Verify clocks expect) one =
    line_append (codes "v ") (clocks ++ (codes " " ++ flat_map hex_pair expect)) (by_test (codes "v ") refl)
    (line_append clocks (codes " " ++ flat_map hex_pair expect) (clocks_line clocks (and_parts (are_clocks clocks) (is_filled expect) one.passes).0)
    (line_append (codes " ") (flat_map hex_pair expect) (by_test (codes " ") refl) (bytes_line expect (small_bytes expect one.bytes))))

module _ (m : Parameters) (mode4 : Bool) (x : Step) (listed : IsListable x) where
  few_body : (clocks body : List ℕ) → step_clocks x ≡ clocks → length body ≤ length clocks → length body < 2 ^ 64
  few_body clocks body same fewer = let few = subst (λ (c : List ℕ). length c < 2 ^ 64) same listed.few in omega (arith, few, fewer)

  by_view : View m mode4 x → IsLine (words m mode4 x)
  by_view (taken v) =
      let s = takes m mode4 v.clocks v.i v.sound v.sees in
      let op = opcode v.clocks in
      subst IsLine (sym (v.spelled ∙ ap (λ i. word i.what ++ (hex_pair op ++ tail_words m i i.what)) (sym s.is)))
      (line_append (word s.r.what) (hex_pair op ++ tail_words m (taken_as s.r.what s.address s.body) s.r.what) (word_line s.r.what)
      (line_append (hex_pair op) (tail_words m (taken_as s.r.what s.address s.body) s.r.what) (pair_line op (opcode_small v.clocks))
      (tail_line m s.r.what s.address s.body (few_body v.clocks s.body (ap step_clocks v.is) s.few))))
  by_view (verified v) =
      let s = takes m mode4 v.clocks v.i (read_sound v.i.what v.reads) v.sees in
      let op = opcode v.clocks in
      let bytes = small_bytes v.expect (sym (ap (λ (step : Step). are_bytes (expected step)) v.is) ∙ listed.is_one.bytes) in
      subst IsLine (sym (v.spelled ∙ ap (λ i. verify_word i.what ++ (hex_pair op ++ read_tail i v.expect)) (sym s.is)))
      (line_append (verify_word s.r.what) (hex_pair op ++ read_tail (taken_as s.r.what s.address s.body) v.expect) (verify_word_line s.r.what)
      (line_append (hex_pair op) (read_tail (taken_as s.r.what s.address s.body) v.expect) (pair_line op (opcode_small v.clocks))
      (read_tail_line s.r.what s.address s.body v.expect (few_body v.clocks s.body (ap step_clocks v.is) s.few) bytes)))
  by_view (polled v) = subst IsLine (sym v.spelled) (by_test (codes "poll 05") refl)
  by_view (broken v) = subst IsLine (sym v.spelled) (line_append (codes "broken ") (step_line x) (by_test (codes "broken ") refl) (script_line x listed.is_one))
  by_view (unknown v) = subst IsLine (sym v.spelled) (line_append (codes "unknown ") (step_line x) (by_test (codes "unknown ") refl) (script_line x listed.is_one))

  numbered_line : (n : ℕ) → n < 2 ^ 64 → IsLine (numbered n (words m mode4 x))
  numbered_line n fits =
      line_append (decimal n) (codes " " ++ words m mode4 x) (decimal_line n fits) (line_append (codes " ") (words m mode4 x) (by_test (codes " ") refl) (by_view (view m mode4 x)))

or_true : (b : Bool) → (b || true) ≡ true
or_true true = refl
or_true false = refl

or_false : (a b : Bool) → (a || b) ≡ false → (a ≡ false) × (b ≡ false)
or_false true b h = cc
or_false false b h = (refl, h)

has_feed : (xs ys : List ℕ) → list_any is_line_feed (xs ++ 0x0A ∷ ys) ≡ true
has_feed [] ys = refl
has_feed (x ∷ xs) ys = ap (λ b. is_line_feed x || b) (has_feed xs ys) ∙ or_true (is_line_feed x)

none_any : (xs : List ℕ) → list_any is_line_feed xs ≡ false → IsLine xs
none_any [] h = tt
none_any (x ∷ xs) h =
    let parts = or_false (is_line_feed x) (list_any is_line_feed xs) h in
    (λ same. let both : true ≡ false = sym (ap is_line_feed same) ∙ parts.0 in cc, none_any xs parts.1)

line_then : (m : Parameters) (n : ℕ) (mode4 : Bool) (x : Step) (more : List ℕ) → line m n mode4 x ++ more ≡ numbered n (words m mode4 x) ++ 0x0A ∷ more
unfolding line
line_then m n mode4 x more = append_assoc (numbered n (words m mode4 x)) (0x0A ∷ []) more

-- a text without a line feed begins with no line
pub at_end : (m : Parameters) (n : ℕ) (mode4 : Bool) (text : List ℕ) → list_any is_line_feed text ≡ false → BeginsNone m n mode4 text
at_end m n mode4 text none = λ x more listed is.
    let both : true ≡ false = sym (has_feed (numbered n (words m mode4 x)) more) ∙ ap (list_any is_line_feed) (sym (is ∙ line_then m n mode4 x more)) ∙ none in cc

-- nor does one whose first line is that of no step
pub at_line : (m : Parameters) (n k : ℕ) (mode4 first : Bool) (text here after : List ℕ) → n ≡ k → mode4 ≡ first → n < 2 ^ 64 → BeginsWith text here after → SaysNoLine m n mode4 here
    → BeginsNone m k first text
at_line m n k mode4 first text here after count mode fits cut none =
    subst (λ j. BeginsNone m j first text) count (subst (λ b. BeginsNone m n b text) mode (λ x more listed is.
    let both = up_to 0x0A here (numbered n (words m mode4 x)) after more (none_any here cut.one) (numbered_line m mode4 x listed n fits)
    (sym (append_assoc here (0x0A ∷ []) after) ∙ sym cut.whole ∙ is ∙ line_then m n mode4 x more) in
    none x listed both.front))
