-- A text has one image and one list of regions, so a job has one first region without a byte.
use Rattle.std.proofs.Common.{◌≡◌, ◌∙◌, refl, sym, ap, subst, ℕ, ◌+◌, ◌-◌, min, nat_lt, cond, length, Bool, List, [], ◌∷◌, map, filter, Option, Some, None, Result, Ok, not}
use Rattle.std.specs.Prelude.{is_some}
use Rattle.std.specs.List.{range_with_len, position_or_len}
use Rattle.nor_base.specs.Parameters.{Parameters}
use Rattle.nor_hex.specs.Image.{Pairs, Puts, byte_at}
use Rattle.nor_hex.specs.Faults.{IsImage}
use Rattle.nor_hex.specs.Record.{Record}
use Rattle.nor_hex.specs.declared.fault.HexFault.{HexFault}
use Rattle.nor_layout.specs.Region.{Region}
use Rattle.nor_target.specs.Shares.{share, share_in, chosen_regions, first_empty}
use Rattle.nor_job.specs.Causes.{ImageSays, LayoutSays, AreAccepted}
use Rattle.nor_job.specs.Shares.{HasFirstEmpty, first_empty_of}
use Rattle.nor_job.specs.Task.{Task}
use Rattle.nor_job.proofs.ChipLemmas.{one_chip}

-- records are told by their list
records_same : (xs ys : List Record) → ◌≡◌ {A = List (Result Record HexFault)} (map Ok xs) (map Ok ys) → xs ≡ ys
records_same [] [] h = refl
records_same [] (y ∷ ys) h = cc
records_same (x ∷ xs) [] h = cc
records_same (x ∷ xs) (y ∷ ys) h =
    let head : x ≡ y = cc in
    let tails : ◌≡◌ {A = List (Result Record HexFault)} (map Ok xs) (map Ok ys) = cc in
    ap (λ z. z ∷ xs) head ∙ ap (λ zs. y ∷ zs) (records_same xs ys tails)

option_same : (o p : Option ℕ) → ((x : ℕ) → o ≡ Some x → p ≡ Some x) → ((x : ℕ) → p ≡ Some x → o ≡ Some x) → o ≡ p
option_same (Some x) p f g = sym (f x refl)
option_same None None f g = refl
option_same None (Some y) f g = g y refl

text_same : (text : List ℕ) (a b : Pairs) → IsImage text a → IsImage text b → (address : ℕ) → byte_at a address ≡ byte_at b address
text_same text a b is_a is_b address =
    let same : is_a.records ≡ is_b.records = records_same is_a.records is_b.records (sym is_a.accepted.each ∙ is_b.accepted.each) in
    option_same (byte_at a address) (byte_at b address)
    (λ byte is. is_b.put address byte (subst (λ (records : List Record). Puts records address byte) same (is_a.given address byte is)))
    (λ byte is. is_a.put address byte (subst (λ (records : List Record). Puts records address byte) (sym same) (is_b.given address byte is)))

pub image_same : (given : Option Pairs) (text : List ℕ) (a b : Pairs) → ImageSays given text a → ImageSays given text b → (address : ℕ) → byte_at a address ≡ byte_at b address
image_same None text a b is_a is_b address = text_same text a b is_a is_b address
image_same (Some its) text a b is_a is_b address = ap (λ image. byte_at image address) (is_a.0 ∙ sym is_b.0)

pub regions_same : (o : Option (List ℕ)) (a b : List Region) → LayoutSays o a → LayoutSays o b → a ≡ b
regions_same None a b is_a is_b = is_a ∙ sym is_b
regions_same (Some text) a b is_a is_b = is_a.spelled ∙ sym is_b.spelled

-- what an image gives is told by the bytes that it has
filter_same : (f g : ℕ → Option ℕ) (base : ℕ) → ((a : ℕ) → f a ≡ g a) → (xs : List ℕ) → filter (λ a. is_some (f (base + a))) xs ≡ filter (λ a. is_some (g (base + a))) xs
filter_same f g base same [] = refl
filter_same f g base same (x ∷ xs) = rw (same (base + x), filter_same f g base same xs) refl

share_same : (f g : ℕ → Option ℕ) (base size : ℕ) → ((a : ℕ) → f a ≡ g a) → (region : Region) → share_in f base size region ≡ share_in g base size region
share_same f g base size same region = ap share (filter_same f g base same (range_with_len region.start (min (region.end + 1) size - region.start)))

position_same : {X : Type 0} (p q : X → Bool) → ((x : X) → p x ≡ q x) → (xs : List X) → position_or_len p xs ≡ position_or_len q xs
position_same p q same [] = refl
position_same p q same (x ∷ xs) = rw (same x, position_same p q same xs) refl

empty_same : (f g : ℕ → Option ℕ) (base size : ℕ) → ((a : ℕ) → f a ≡ g a) → (regions : List Region) → first_empty f base size regions ≡ first_empty g base size regions
empty_same f g base size same regions =
    let at = position_same (λ region. not (is_some (share_in f base size region))) (λ region. not (is_some (share_in g base size region)))
    (λ region. ap (λ s. not (is_some s)) (share_same f g base size same region)) regions in
    ap (λ n. cond (nat_lt n (length regions)) (Some n) None) at

-- the first of a job, as its image and its chosen regions have it
pub one_first : (t : Task) (len : ℕ) (image : Pairs) (regions : List Region) (m : Parameters) (chosen : List Region) (index : Option ℕ) → AreAccepted t len image regions m
    → chosen ≡ chosen_regions regions t.regions m.size → index ≡ first_empty (byte_at image) t.base m.size chosen
    → HasFirstEmpty t len index
one_first t len image regions m chosen index accepted same is = record {
  image = image;
  regions = regions;
  m = m;
  accepted = accepted;
  empty = sym (is ∙ ap (first_empty (byte_at image) t.base m.size) same);
}

pub only_first : (t : Task) (len : ℕ) (index other : Option ℕ) → HasFirstEmpty t len index → HasFirstEmpty t len other → index ≡ other
only_first t len index other a b =
    let means = one_chip a.accepted.means b.accepted.means in
    let named = regions_same t.layout a.regions b.regions a.accepted.named.layout b.accepted.named.layout in
    let bytes = image_same t.image t.hex a.image b.image a.accepted.named.imaged.spelled b.accepted.named.imaged.spelled in
    sym a.empty
    ∙ ap (λ (m : Parameters). first_empty_of t a.image a.regions m) means
    ∙ ap (λ (these : List Region). first_empty_of t a.image these b.m) named
    ∙ empty_same (byte_at a.image) (byte_at b.image) t.base b.m.size bytes (chosen_regions b.regions t.regions b.m.size)
    ∙ b.empty
