-- The hexadecimal digits of bytes, and these put a part at a time.
use Rattle.std.proofs.Common.{◌≡◌, ℕ, zero, suc, ◌/◌, ◌%◌, ◌<◌, ◌==◌, true, List, [], ◌∷◌, get_or, Result, Ok, Err, IsOk, OnOk, Fits, w8, refl, arith, eqb-true, ◌+◌, ◌++◌, take, drop, Option, sym, ◌∙◌, ap, subst}
use Rattle.std.specs.Prelude.{flat_map, slice_index}
use Rattle.std.proofs.lemmas.Bool.{agree_below_at}
use Rattle.hex.specs.declared.error.FromHexError.{FromHexError}
use Rattle.hex.specs.Hex.{lower_digits, encode_with, encode_lower}
use Rattle.nor_base.specs.Script.{hex_digit, hex_pair}
use Rattle.std.specs.Io.KnownBytes.{Appends}
use Rattle.std.proofs.lemmas.Grind.{flat_map-append}
use Rattle.std.proofs.lemmas.List.{take-append-drop, get_or-drop}
use Rattle.std.proofs.Math.Seq.{take-add}
use Rattle.nor_base.specs.Device.{Cuts}
use Rattle.nor_base.proofs.DeviceLaws.{Appends-append, Cuts-then, Cuts-more}

-- a digit by the table and by its number
digit_of : (n : ℕ) → n < 16 → slice_index lower_digits n ≡ hex_digit n
digit_of n h = eqb-true (slice_index lower_digits n) (hex_digit n)
    (agree_below_at (λ k. slice_index lower_digits k == hex_digit k) (λ k. true) 16 n refl h)

fits_byte : (n : ℕ) → Fits w8 n → n < 256
fits_byte n h = omega (arith, h)

digits_are : (bytes : List ℕ) → ((k : ℕ) → Fits w8 (get_or bytes k 0)) → encode_lower bytes ≡ flat_map hex_pair bytes
unfolding encode_with
digits_are [] h = refl
digits_are (byte ∷ bytes) h =
    let small : byte < 256 = fits_byte byte (h 0) in
    let high = digit_of (byte / 16) (omega arith) in
    let low = digit_of (byte % 16) (omega arith) in
    let later = digits_are bytes (λ k. h (suc k)) in
    rw (high, low, later) refl

-- where the digits have room they are there
pub written : (r : Result (Unit {0}) FromHexError) (digits bytes : List ℕ) → IsOk r → OnOk r (digits ≡ encode_lower bytes) → ((k : ℕ) → Fits w8 (get_or bytes k 0))
    → digits ≡ flat_map hex_pair bytes
written (Ok u) digits bytes ok is small = is ∙ digits_are bytes small
written (Err e) digits bytes ok is small = cc

few_fit : (k : ℕ) (bytes : List ℕ) → ((i : ℕ) → Fits w8 (get_or bytes i 0)) → (i : ℕ) → Fits w8 (get_or (take k bytes) i 0)
few_fit zero bytes small i = omega arith
few_fit (suc k) [] small i = small i
few_fit (suc k) (byte ∷ bytes) small zero = small 0
few_fit (suc k) (byte ∷ bytes) small (suc i) = few_fit k bytes (λ j. small (suc j)) i

pub part_fits : (k from : ℕ) (bytes : List ℕ) → ((i : ℕ) → Fits w8 (get_or bytes i 0)) → (i : ℕ) → Fits w8 (get_or (take k (drop from bytes)) i 0)
part_fits k from bytes small = few_fit k (drop from bytes) (λ i. subst (Fits w8) (sym (get_or-drop from bytes i 0)) (small (from + i)))

abbrev digits : List ℕ → List ℕ
digits bytes = flat_map hex_pair bytes

abbrev part : List ℕ → ℕ → ℕ → List ℕ
part bytes from n = take n (drop from bytes)

-- n more bytes, from one on
pub part_put : (a b c : Option (List ℕ)) (bytes : List ℕ) (from n k : ℕ) → k ≡ n → Appends a b (flat_map hex_pair (take from bytes))
    → Appends b c (flat_map hex_pair (take k (drop from bytes))) → Appends a c (flat_map hex_pair (take (from + n) bytes))
part_put a b c bytes from n k count before now =
    let more : digits (take from bytes) ++ digits (part bytes from n) ≡ digits (take (from + n) bytes) =
    sym (flat_map-append hex_pair (take from bytes) (part bytes from n)) ∙ ap digits (sym (take-add from n bytes)) in
    subst (Appends a c) more
    (Appends-append a b c (digits (take from bytes)) (digits (part bytes from n)) before (subst (λ i. Appends b c (digits (part bytes from i))) count now))

-- a proper prefix of these
pub part_cut : (a b c : Option (List ℕ)) (bytes : List ℕ) (from k : ℕ) → Appends a b (flat_map hex_pair (take from bytes))
    → Cuts b c (flat_map hex_pair (take k (drop from bytes))) → Cuts a c (flat_map hex_pair bytes)
part_cut a b c bytes from k before now =
    let rest = drop k (drop from bytes) in
    let later : digits (part bytes from k) ++ digits rest ≡ digits (drop from bytes) =
    sym (flat_map-append hex_pair (part bytes from k) rest) ∙ ap digits (take-append-drop k (drop from bytes)) in
    let whole : digits (take from bytes) ++ (digits (part bytes from k) ++ digits rest) ≡ digits bytes =
    ap (λ l. digits (take from bytes) ++ l) later ∙ sym (flat_map-append hex_pair (take from bytes) (drop from bytes)) ∙ ap digits (take-append-drop from bytes) in
    subst (Cuts a c) whole (Cuts-then a b c (digits (take from bytes)) _ before (Cuts-more b c (digits (part bytes from k)) (digits rest) now))
