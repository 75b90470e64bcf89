-- Each statement of a meaning is printed.
use Rattle.std.proofs.Common.{◌≡◌, ◌∙◌, ℕ, zero, suc, ◌%◌, ◌^◌, ◌≤◌, ◌&&◌, Bool, true, false, List, [], ◌∷◌, ◌++◌, length, Option, Some, None, Ok, Err, refl, sym, ap, subst, arith}
use Rattle.std.specs.Prelude.{codes, decimal, if◌then◌else◌}
use Rattle.std.specs.List.{list_all}
use Rattle.std.proofs.Math.Nat.{pow-le-pow_right}
use Rattle.std.proofs.lemmas.Bool.{lt-ltb, le-leb, le-ltb, eq-eqb}
use Rattle.nor_base.specs.declared.meaning.Width.{Width}
use Rattle.nor_base.specs.declared.meaning.Width.TheVariants.{Three, Both, Four}
use Rattle.nor_base.specs.declared.meaning.Switch.{Switch}
use Rattle.nor_base.specs.declared.meaning.Switch.TheVariants.{Absent, Plain, Latched}
use Rattle.nor_base.specs.declared.meaning.Erase.{Erase}
use Rattle.nor_base.specs.declared.meaning.Region.{Region}
use Rattle.nor_base.specs.declared.meaning.QuadRead.{QuadRead}
use Rattle.nor_base.specs.Accepted.{IsPowerOfTwo, IsRegion}
use Rattle.nor_sheet.specs.declared.said.Said.TheVariants as say
use Rattle.nor_sheet.specs.declared.fault.LineFault.TheVariants.{Limit}
use Rattle.nor_sheet.specs.Limits.{is_size, is_page, is_kind, is_erase_size, is_region, IsErase, IsRead}
use Rattle.nor_sheet.specs.Line.{said_by}
use Rattle.nor_sheet.specs.Said.{op4_of, size_by, page_size_by, erase_by, quad_read_by, region_by}
use Rattle.nor_sheet.specs.Number.{byte_of, number_of}
use Rattle.norprog.specs.ChipText.{hex_byte, op4_text}
use Rattle.norprog_laws.proofs.SpacedLemmas.{is_plain}
use Rattle.norprog_laws.proofs.NumberLemmas.{decimal_plain, number_back, byte_back, byte_plain, op4_back, op4_plain}
use Rattle.norprog_laws.proofs.RunLemmas.{Printed, IsPrinted}

-- ---- the statements

abbrev pub size_printed : ℕ → Printed
size_printed n = record { said = say.Size n; word = codes "size"; words = decimal n ∷ [] }

abbrev pub page_words : ℕ → Bool → List (List ℕ)
page_words n true = decimal n ∷ codes "up" ∷ []
page_words n false = decimal n ∷ []

abbrev pub page_printed : ℕ → Bool → Printed
page_printed n open_page = record { said = say.Page (record { size = n; open_page = open_page }); word = codes "page"; words = page_words n open_page }

abbrev pub width_word : Width → List ℕ
width_word Three = codes "three"
width_word Both = codes "both"
width_word Four = codes "four"

abbrev pub address_printed : Width → Printed
address_printed width = record { said = say.Address width; word = codes "address"; words = width_word width ∷ [] }

abbrev pub kind_printed : ℕ → Erase → Printed
kind_printed k erase = record {
  said = say.Kind k erase;
  word = codes "erase";
  words = decimal k ∷ decimal erase.size ∷ hex_byte erase.op ∷ op4_text erase.op4 ∷ [];
}

abbrev pub switch_word : Switch → List ℕ
switch_word Absent = codes "absent"
switch_word Plain = codes "plain"
switch_word Latched = codes "latched"

abbrev pub enter_printed : Switch → Printed
enter_printed switch = record { said = say.Enter switch; word = codes "enter"; words = switch_word switch ∷ [] }

abbrev pub leave_printed : Switch → Printed
leave_printed switch = record { said = say.Leave switch; word = codes "leave"; words = switch_word switch ∷ [] }

abbrev pub read_words : Option QuadRead → List (List ℕ)
read_words None = codes "none" ∷ []
read_words (Some read) = hex_byte read.op ∷ decimal read.dummies ∷ []

abbrev pub read_printed : Option QuadRead → Printed
read_printed read = record { said = say.QuadRead read; word = codes "quadread"; words = read_words read }

abbrev pub offered_word : Bool → List ℕ → List (List ℕ)
offered_word true word = word ∷ []
offered_word false word = []

abbrev pub dedicated_printed : Bool → Bool → Bool → Bool → Printed
dedicated_printed a b c d = record {
  said = say.Dedicated (record { read4 = a; quad_read4 = b; program4 = c; quad4 = d });
  word = codes "dedicated";
  words = offered_word a (codes "13") ++ (offered_word b (codes "6c") ++ (offered_word c (codes "12") ++ offered_word d (codes "34")));
}

abbrev pub region_printed : Region → Printed
region_printed region = record { said = say.Region region; word = codes "region"; words = decimal region.size ∷ decimal region.kinds ∷ [] }

-- ---- they are printed

plain_one : (a : List ℕ) → is_plain a ≡ true → list_all is_plain (a ∷ []) ≡ true
plain_one a one = rw one refl

plain_two : (a b : List ℕ) → is_plain a ≡ true → is_plain b ≡ true → list_all is_plain (a ∷ b ∷ []) ≡ true
plain_two a b one two = rw (one, two) refl

plain_four : (a b c d : List ℕ) → is_plain a ≡ true → is_plain b ≡ true → is_plain c ≡ true → is_plain d ≡ true → list_all is_plain (a ∷ b ∷ c ∷ d ∷ []) ≡ true
plain_four a b c d one two three four = rw (one, two, three, four) refl

pub size_is : (n : ℕ) → 4096 ≤ n → n ≤ 2 ^ 28 → n % 4096 ≡ 0 → IsPrinted (size_printed n)
size_is n low high whole =
    let within : is_size n ≡ true = rw (le-leb 4096 n low, le-leb n (2 ^ 28) high, eq-eqb (n % 4096) 0 whole) refl in
    record {
      plain = refl;
      others = plain_one (decimal n) (decimal_plain n (omega (arith, high)));
      few = omega arith;
      says = ap size_by (number_back n (omega (arith, high))) ∙ ap (λ b. if b then Ok (say.Size n) else Err Limit) within;
      kept = (low, high, whole);
    }

page_is : (e : ℕ) → 4 ≤ e → e ≤ 12 → is_page (2 ^ e) ≡ true
page_is zero low high = absurd (omega (arith, low))
page_is (suc zero) low high = absurd (omega (arith, low))
page_is (suc (suc zero)) low high = absurd (omega (arith, low))
page_is (suc (suc (suc zero))) low high = absurd (omega (arith, low))
page_is (suc (suc (suc (suc zero)))) low high = refl
page_is (suc (suc (suc (suc (suc zero))))) low high = refl
page_is (suc (suc (suc (suc (suc (suc zero)))))) low high = refl
page_is (suc (suc (suc (suc (suc (suc (suc zero))))))) low high = refl
page_is (suc (suc (suc (suc (suc (suc (suc (suc zero)))))))) low high = refl
page_is (suc (suc (suc (suc (suc (suc (suc (suc (suc zero))))))))) low high = refl
page_is (suc (suc (suc (suc (suc (suc (suc (suc (suc (suc zero)))))))))) low high = refl
page_is (suc (suc (suc (suc (suc (suc (suc (suc (suc (suc (suc zero))))))))))) low high = refl
page_is (suc (suc (suc (suc (suc (suc (suc (suc (suc (suc (suc (suc zero)))))))))))) low high = refl
page_is (suc (suc (suc (suc (suc (suc (suc (suc (suc (suc (suc (suc (suc e))))))))))))) low high = absurd (omega (arith, high))

block_is : (e : ℕ) → 8 ≤ e → e ≤ 24 → is_erase_size (2 ^ e) ≡ true
block_is zero low high = absurd (omega (arith, low))
block_is (suc zero) low high = absurd (omega (arith, low))
block_is (suc (suc zero)) low high = absurd (omega (arith, low))
block_is (suc (suc (suc zero))) low high = absurd (omega (arith, low))
block_is (suc (suc (suc (suc zero)))) low high = absurd (omega (arith, low))
block_is (suc (suc (suc (suc (suc zero))))) low high = absurd (omega (arith, low))
block_is (suc (suc (suc (suc (suc (suc zero)))))) low high = absurd (omega (arith, low))
block_is (suc (suc (suc (suc (suc (suc (suc zero))))))) low high = absurd (omega (arith, low))
block_is (suc (suc (suc (suc (suc (suc (suc (suc zero)))))))) low high = refl
block_is (suc (suc (suc (suc (suc (suc (suc (suc (suc zero))))))))) low high = refl
block_is (suc (suc (suc (suc (suc (suc (suc (suc (suc (suc zero)))))))))) low high = refl
block_is (suc (suc (suc (suc (suc (suc (suc (suc (suc (suc (suc zero))))))))))) low high = refl
block_is (suc (suc (suc (suc (suc (suc (suc (suc (suc (suc (suc (suc zero)))))))))))) low high = refl
block_is (suc (suc (suc (suc (suc (suc (suc (suc (suc (suc (suc (suc (suc zero))))))))))))) low high = refl
block_is (suc (suc (suc (suc (suc (suc (suc (suc (suc (suc (suc (suc (suc (suc zero)))))))))))))) low high = refl
block_is (suc (suc (suc (suc (suc (suc (suc (suc (suc (suc (suc (suc (suc (suc (suc zero))))))))))))))) low high = refl
block_is (suc (suc (suc (suc (suc (suc (suc (suc (suc (suc (suc (suc (suc (suc (suc (suc zero)))))))))))))))) low high = refl
block_is (suc (suc (suc (suc (suc (suc (suc (suc (suc (suc (suc (suc (suc (suc (suc (suc (suc zero))))))))))))))))) low high = refl
block_is (suc (suc (suc (suc (suc (suc (suc (suc (suc (suc (suc (suc (suc (suc (suc (suc (suc (suc zero)))))))))))))))))) low high = refl
block_is (suc (suc (suc (suc (suc (suc (suc (suc (suc (suc (suc (suc (suc (suc (suc (suc (suc (suc (suc zero))))))))))))))))))) low high = refl
block_is (suc (suc (suc (suc (suc (suc (suc (suc (suc (suc (suc (suc (suc (suc (suc (suc (suc (suc (suc (suc zero)))))))))))))))))))) low high = refl
block_is (suc (suc (suc (suc (suc (suc (suc (suc (suc (suc (suc (suc (suc (suc (suc (suc (suc (suc (suc (suc (suc zero))))))))))))))))))))) low high = refl
block_is (suc (suc (suc (suc (suc (suc (suc (suc (suc (suc (suc (suc (suc (suc (suc (suc (suc (suc (suc (suc (suc (suc zero)))))))))))))))))))))) low high = refl
block_is (suc (suc (suc (suc (suc (suc (suc (suc (suc (suc (suc (suc (suc (suc (suc (suc (suc (suc (suc (suc (suc (suc (suc zero))))))))))))))))))))))) low high = refl
block_is (suc (suc (suc (suc (suc (suc (suc (suc (suc (suc (suc (suc (suc (suc (suc (suc (suc (suc (suc (suc (suc (suc (suc (suc zero)))))))))))))))))))))))) low high = refl
block_is (suc (suc (suc (suc (suc (suc (suc (suc (suc (suc (suc (suc (suc (suc (suc (suc (suc (suc (suc (suc (suc (suc (suc (suc (suc e))))))))))))))))))))))))) low high = absurd (omega (arith, high))

power_small : (e : ℕ) → e ≤ 24 → 2 ^ e ≤ 2 ^ 24
power_small e high = pow-le-pow_right (omega arith) {i = e} {j = 24} high

two_fits : (low high n : ℕ) → IsPowerOfTwo low high n → high ≤ 24 → n ≤ 2 ^ 24
two_fits low high n power few = subst (λ x. x ≤ 2 ^ 24) (sym power.value) (power_small power.exponent (omega (arith, power.at_most, few)))

page_says : (n : ℕ) (open_page : Bool) → number_of (decimal n) ≡ Some n → is_page n ≡ true → said_by (codes "page") (page_words n open_page) ≡ Ok (say.Page (record { size = n; open_page = open_page }))
page_says n true back is =
    ap (λ o. page_size_by o true) back ∙ ap (λ b. if b then Ok (say.Page (record { size = n; open_page = true })) else Err Limit) is
page_says n false back is =
    ap (λ o. page_size_by o false) back ∙ ap (λ b. if b then Ok (say.Page (record { size = n; open_page = false })) else Err Limit) is

page_plain : (n : ℕ) (open_page : Bool) → is_plain (decimal n) ≡ true → list_all is_plain (page_words n open_page) ≡ true
page_plain n true plain = plain_two (decimal n) (codes "up") plain refl
page_plain n false plain = plain_one (decimal n) plain

page_few : (n : ℕ) (open_page : Bool) → length (page_words n open_page) ≤ 4
page_few n true = omega arith
page_few n false = omega arith

pub page_is_printed : (n : ℕ) (open_page : Bool) → IsPowerOfTwo 4 12 n → IsPrinted (page_printed n open_page)
page_is_printed n open_page power =
    let small = two_fits 4 12 n power (omega arith) in
    record {
      plain = refl;
      others = page_plain n open_page (decimal_plain n (omega (arith, small)));
      few = page_few n open_page;
      says = page_says n open_page (number_back n (omega (arith, small))) (ap is_page power.value ∙ page_is power.exponent power.at_least power.at_most);
      kept = power;
    }

pub address_is : (width : Width) → IsPrinted (address_printed width)
address_is Three = record { plain = refl; others = refl; few = omega arith; says = refl; kept = tt }
address_is Both = record { plain = refl; others = refl; few = omega arith; says = refl; kept = tt }
address_is Four = record { plain = refl; others = refl; few = omega arith; says = refl; kept = tt }

pub kind_is : (k : ℕ) (erase : Erase) → 1 ≤ k → k ≤ 4 → IsErase erase → IsPrinted (kind_printed k erase)
kind_is k erase low high is =
    let small = two_fits 8 24 erase.size is.size (omega arith) in
    let within : (is_kind k && is_erase_size erase.size) ≡ true =
    rw (le-leb 1 k low, le-leb k 4 high) (ap is_erase_size is.size.value ∙ block_is is.size.exponent is.size.at_least is.size.at_most) in
    record {
      plain = refl;
      others = plain_four (decimal k) (decimal erase.size) (hex_byte erase.op) (op4_text erase.op4)
          (decimal_plain k (omega (arith, high))) (decimal_plain erase.size (omega (arith, small))) (byte_plain erase.op is.op) (op4_plain erase.op4 is.op4);
      few = omega arith;
      says = ap (λ o. erase_by o (number_of (decimal erase.size)) (byte_of (hex_byte erase.op)) (op4_of (op4_text erase.op4))) (number_back k (omega (arith, high))) ∙ ap (λ o. erase_by (Some k) o (byte_of (hex_byte erase.op)) (op4_of (op4_text erase.op4))) (number_back erase.size (omega (arith, small)))
          ∙ ap (λ o. erase_by (Some k) (Some erase.size) o (op4_of (op4_text erase.op4))) (byte_back erase.op is.op) ∙ ap (λ o. erase_by (Some k) (Some erase.size) (Some erase.op) o) (op4_back erase.op4 is.op4)
          ∙ ap (λ b. if b then Ok (say.Kind k erase) else Err Limit) within;
      kept = (low, high, is);
    }

pub enter_is : (switch : Switch) → IsPrinted (enter_printed switch)
enter_is Absent = record { plain = refl; others = refl; few = omega arith; says = refl; kept = tt }
enter_is Plain = record { plain = refl; others = refl; few = omega arith; says = refl; kept = tt }
enter_is Latched = record { plain = refl; others = refl; few = omega arith; says = refl; kept = tt }

pub leave_is : (switch : Switch) → IsPrinted (leave_printed switch)
leave_is Absent = record { plain = refl; others = refl; few = omega arith; says = refl; kept = tt }
leave_is Plain = record { plain = refl; others = refl; few = omega arith; says = refl; kept = tt }
leave_is Latched = record { plain = refl; others = refl; few = omega arith; says = refl; kept = tt }

pub read_is : (read : Option QuadRead) → IsRead read → IsPrinted (read_printed read)
read_is None is = record { plain = refl; others = refl; few = omega arith; says = refl; kept = tt }
read_is (Some read) is = record {
  plain = refl;
  others = plain_two (hex_byte read.op) (decimal read.dummies) (byte_plain read.op is.0) (decimal_plain read.dummies (omega (arith, is.1)));
  few = omega arith;
  says = ap (λ o. quad_read_by o (number_of (decimal read.dummies))) (byte_back read.op is.0) ∙ ap (λ o. quad_read_by (Some read.op) o) (number_back read.dummies (omega (arith, is.1)))
      ∙ ap (λ b. if b then Err Limit else Ok (say.QuadRead (Some read))) (le-ltb 38 read.dummies is.1);
  kept = is;
}

dedicated_says : (a b c d : Bool) → said_by (dedicated_printed a b c d).word (dedicated_printed a b c d).words ≡ Ok (dedicated_printed a b c d).said
dedicated_says true true true true = refl
dedicated_says true true true false = refl
dedicated_says true true false true = refl
dedicated_says true true false false = refl
dedicated_says true false true true = refl
dedicated_says true false true false = refl
dedicated_says true false false true = refl
dedicated_says true false false false = refl
dedicated_says false true true true = refl
dedicated_says false true true false = refl
dedicated_says false true false true = refl
dedicated_says false true false false = refl
dedicated_says false false true true = refl
dedicated_says false false true false = refl
dedicated_says false false false true = refl
dedicated_says false false false false = refl

dedicated_plain : (a b c d : Bool) → list_all is_plain (dedicated_printed a b c d).words ≡ true
dedicated_plain true true true true = refl
dedicated_plain true true true false = refl
dedicated_plain true true false true = refl
dedicated_plain true true false false = refl
dedicated_plain true false true true = refl
dedicated_plain true false true false = refl
dedicated_plain true false false true = refl
dedicated_plain true false false false = refl
dedicated_plain false true true true = refl
dedicated_plain false true true false = refl
dedicated_plain false true false true = refl
dedicated_plain false true false false = refl
dedicated_plain false false true true = refl
dedicated_plain false false true false = refl
dedicated_plain false false false true = refl
dedicated_plain false false false false = refl

word_few : (a : Bool) (word : List ℕ) (words : List (List ℕ)) (n : ℕ) → length words ≤ n → length (offered_word a word ++ words) ≤ suc n
word_few true word words n few = omega (arith, few)
word_few false word words n few = omega (arith, few)

last_few : (a : Bool) (word : List ℕ) → length (offered_word a word) ≤ 1
last_few true word = omega arith
last_few false word = omega arith

pub dedicated_is : (a b c d : Bool) → IsPrinted (dedicated_printed a b c d)
dedicated_is a b c d = record {
  plain = refl;
  others = dedicated_plain a b c d;
  few = word_few a _ _ 3 (word_few b _ _ 2 (word_few c _ _ 1 (last_few d _)));
  says = dedicated_says a b c d;
  kept = tt;
}

pub region_is : (region : Region) → IsRegion region → region.size ≤ 2 ^ 28 → IsPrinted (region_printed region)
region_is region is small =
    let within : is_region region.size region.kinds ≡ true = rw (lt-ltb 0 region.size is.some, eq-eqb (region.size % 256) 0 is.whole, lt-ltb region.kinds 16 is.mask) refl in
    let mask = is.mask in
    record {
      plain = refl;
      others = plain_two (decimal region.size) (decimal region.kinds) (decimal_plain region.size (omega (arith, small))) (decimal_plain region.kinds (omega (arith, mask)));
      few = omega arith;
      says = ap (λ o. region_by o (number_of (decimal region.kinds))) (number_back region.size (omega (arith, small))) ∙ ap (λ o. region_by (Some region.size) o) (number_back region.kinds (omega (arith, mask)))
          ∙ ap (λ b. if b then Ok (say.Region region) else Err Limit) within;
      kept = is;
    }
