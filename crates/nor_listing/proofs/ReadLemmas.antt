-- Lines that were read, one after another.
use Rattle.std.proofs.Common.{◌≡◌, ℕ, suc, ◌+◌, ◌^◌, ◌<◌, Bool, true, List, [], ◌∷◌, ◌++◌, length, get_or, Fits, w8, Bor, Option, Some, None, inl, inr, refl, sym, ◌∙◌, ap, subst, arith, append_assoc, append-nil}
use Rattle.std.specs.Prelude.{codes, decimal, MatchOption}
use Rattle.std.proofs.lemmas.List.{append_cancel_left}
use Rattle.std.proofs.lemmas.Bool.{lt-ltb}
use Rattle.nor_base.specs.Array.{are_bytes}
use Rattle.nor_base.proofs.ListLaws.{all_append}
use Rattle.nor_base.specs.declared.step.Step.{Step}
use Rattle.nor_laws.proofs.ScriptLaws.{Small}
use Rattle.nor_base.specs.Parameters.{Parameters}
use Rattle.nor_base.specs.Script.{closed, end_line}
use Rattle.nor_listing.specs.Law.{IsListable, AreListable}
use Rattle.nor_listing.specs.Listing.{words, mode_past, line, lines_from, chip_line, unended_listing, listing}
use Rattle.nor_listing.specs.Read.{mode_through, IsListingOf, Refuses}
use Rattle.nor_listing.specs.declared.fault.ListFault.TheVariants.{BadLine}
use Rattle.nor_listing.specs.declared.reader.Read.{Read}
use Rattle.nor_listing.specs.Told.{Says, SaysLine, AreRead, BeginsNone, numbered}

from_none : (n : ℕ) → n ≡ 0 + n
from_none n = omega arith

one_list_count : (n : ℕ) → n ≡ n + length {A = Step} []
one_list_count n = omega arith

module _ (m : Parameters) where
  lines_more : (n : ℕ) (mode4 : Bool) (xs : List Step) (x : Step)
      → lines_from m n mode4 (xs ++ x ∷ []) ≡ lines_from m n mode4 xs ++ line m (n + length xs) (mode_through m mode4 xs) x
  unfolding lines_from
  lines_more n mode4 [] x =
      append-nil (line m n mode4 x) ∙ ap (λ k. line m k mode4 x) (one_list_count n)
  lines_more n mode4 (y ∷ ys) x =
      let count : (n + 1) + length ys ≡ n + length (y ∷ ys) = omega arith in
      ap (λ l. line m n mode4 y ++ l) (lines_more (n + 1) (mode_past m mode4 y) ys x)
      ∙ sym (append_assoc (line m n mode4 y) (lines_from m (n + 1) (mode_past m mode4 y) ys) _)
      ∙ ap (λ k. (line m n mode4 y ++ lines_from m (n + 1) (mode_past m mode4 y) ys) ++ line m k (mode_through m (mode_past m mode4 y) ys) x) count

  pub mode_more : (mode4 : Bool) (xs : List Step) (x : Step) → mode_through m mode4 (xs ++ x ∷ []) ≡ mode_past m (mode_through m mode4 xs) x
  mode_more mode4 [] x = refl
  mode_more mode4 (y ∷ ys) x = mode_more (mode_past m mode4 y) ys x

  line_is : (n : ℕ) (mode4 : Bool) (x : Step) (text : List ℕ) → text ≡ numbered n (words m mode4 x) → closed text ≡ line m n mode4 x
  unfolding line
  line_is n mode4 x text is = ap closed is

  module _ (first : Bool) (text : List ℕ) (steps : List Step) (rest : List ℕ) where
    pub none_read : steps ≡ [] → rest ≡ text → AreRead m first text steps rest
    unfolding lines_from
    none_read none same = rw none (record { each = tt; whole = sym same })

    pub one_read : (one : Read) (mode4 : Bool) (words more : List ℕ) → AreRead m first text steps rest → mode4 ≡ mode_through m first steps
        → rest ≡ closed words ++ more → SaysLine m (length steps) mode4 words one → AreRead m first text (steps ++ one.step ∷ []) more
    one_read one mode4 words more read mode cut says = record {
      each = all_append IsListable steps (one.step ∷ []) read.each (says.listed, tt);
      whole = read.whole ∙ ap (λ l. lines_from m 0 first steps ++ l) (cut ∙ ap (λ l. l ++ more) (line_is (length steps) mode4 one.step words says.told))
          ∙ sym (append_assoc (lines_from m 0 first steps) (line m (length steps) mode4 one.step) more)
          ∙ ap (λ k. (lines_from m 0 first steps ++ line m (length steps) k one.step) ++ more) mode
          ∙ ap (λ k. (lines_from m 0 first steps ++ line m k (mode_through m first steps) one.step) ++ more) (from_none (length steps))
          ∙ ap (λ l. l ++ more) (sym (lines_more 0 first steps one.step));
    }

    pub mode_read : (one : Read) (mode4 : Bool) (words : List ℕ) → mode4 ≡ mode_through m first steps
        → SaysLine m (length steps) mode4 words one → one.after ≡ mode_through m first (steps ++ one.step ∷ [])
    mode_read one mode4 words mode says = says.mode ∙ ap (λ k. mode_past m k one.step) mode ∙ sym (mode_more first steps one.step)

-- what is of a type of bytes are bytes
pub all_bytes : (xs : List ℕ) → ((i : ℕ) → Fits w8 (get_or xs i 0)) → are_bytes xs ≡ true
all_bytes [] small = refl
all_bytes (x ∷ xs) small =
    let first = small 0 in
    rw (lt-ltb x 256 (omega (arith, first)), all_bytes xs (λ i. small (suc i))) refl

-- a text that was read up to its end line, and past it
module _ (m : Parameters) (first mode4 : Bool) (text lines : List ℕ) (steps : List Step) (rest : List ℕ) (n : ℕ) (same : mode4 ≡ first) (count : n ≡ length steps)
    (begins : text ≡ chip_line m mode4 ++ lines) (read : AreRead m mode4 lines steps rest) (few : length steps < 2 ^ 64) where
  right : text ≡ unended_listing m first steps ++ rest
  unfolding unended_listing
  right =
      begins ∙ ap (λ l. chip_line m mode4 ++ l) read.whole ∙ sym (append_assoc (chip_line m mode4) (lines_from m 0 mode4 steps) rest)
      ∙ ap (λ k. (chip_line m k ++ lines_from m 0 k steps) ++ rest) same

  listed : AreListable steps
  listed = record { few = few; each = read.each }

  ended : (more : List ℕ) → rest ≡ end_line n ++ more → text ≡ listing m first steps ++ more
  unfolding unended_listing listing
  ended more is =
      right ∙ ap (λ l. unended_listing m first steps ++ l) (is ∙ ap (λ k. end_line k ++ more) count)
      ∙ sym (append_assoc (unended_listing m first steps) (end_line (length steps)) more)
      ∙ ap (λ l. l ++ more) (append_assoc (chip_line m first) (lines_from m 0 first steps) (end_line (length steps)))

  pub all_read : (more : List ℕ) → rest ≡ end_line n ++ more → length more ≡ 0 → IsListingOf m first text steps
  all_read [] is none = record { each = listed; spelled = ended [] is ∙ append-nil (listing m first steps) }
  all_read (byte ∷ more) is none = absurd (omega (arith, none))

  pub went_on : (more : List ℕ) → rest ≡ end_line n ++ more → (length more ≡ 0 → ⊥) → Refuses m first text (BadLine (n + 3))
  went_on [] is some = absurd (some refl)
  went_on (byte ∷ more) is some = inr (inr (record {
    steps = steps;
    byte = byte;
    more = more;
    each = listed;
    whole = ended (byte ∷ more) is;
    number = ap (λ k. k + 3) count;
  }))

  pub unended : ((more : List ℕ) → rest ≡ end_line n ++ more → ⊥) → BeginsNone m (length steps) (mode_through m mode4 steps) rest → Refuses m first text (BadLine (n + 2))
  unended none last = inr (inl (record {
    above = steps;
    rest = rest;
    right = record { each = listed; whole = right };
    strange = record {
      no_step = subst (λ k. BeginsNone m (length steps) (mode_through m k steps) rest) same last;
      no_end = λ more is. none more (is ∙ ap (λ k. end_line k ++ more) (sym count));
    };
    number = ap (λ k. k + 2) count;
  }))

pub other_chip : (m : Parameters) (first mode4 : Bool) (text : List ℕ) → mode4 ≡ first → ((rest : List ℕ) → text ≡ chip_line m mode4 ++ rest → ⊥) → Refuses m first text (BadLine 1)
other_chip m first mode4 text same none = inl (refl, λ rest is. none rest (is ∙ ap (λ k. chip_line m k ++ rest) (sym same)))

-- the line of what the words say
module _ (m : Parameters) (n : ℕ) (mode4 : Bool) (line words : List ℕ) (is : line ≡ numbered n words) where
  pub says_line : (read : Read) → Says m mode4 words read.step read.after → SaysLine m n mode4 line read
  says_line read says = record { listed = says.listed; told = is ∙ ap (numbered n) says.told; mode = says.mode }

-- a line that doesn't begin with the number has no words behind it
pub no_number : (n : ℕ) (text digits : List ℕ) → digits ≡ decimal n → ((rest : List ℕ) → text ≡ digits ++ rest → ⊥) → (words : List ℕ) → text ≡ numbered n words → ⊥
no_number n text digits same none words is = none (codes " " ++ words) (is ∙ ap (λ d. d ++ (codes " " ++ words)) (sym same))

-- one that does has those behind the blank, where there is one
pub number_on : (n : ℕ) (text digits rest : List ℕ) → digits ≡ decimal n → text ≡ digits ++ rest → (r : Option (Bor (List ℕ)))
    → MatchOption r ((words : List ℕ) → rest ≡ codes " " ++ words → ⊥) (λ words. rest ≡ codes " " ++ words.now)
    → MatchOption r ((words : List ℕ) → text ≡ numbered n words → ⊥) (λ words. text ≡ numbered n words.now)
number_on n text digits rest same front None none =
    λ words is. none words (append_cancel_left digits rest (codes " " ++ words) (sym front ∙ is ∙ ap (λ d. d ++ (codes " " ++ words)) (sym same)))
number_on n text digits rest same front (Some words) blank =
    front ∙ ap (λ d. d ++ rest) same ∙ ap (λ l. decimal n ++ l) blank

pub all_bytes_of : (xs : List ℕ) → Small xs → are_bytes xs ≡ true
all_bytes_of [] small = refl
all_bytes_of (x ∷ xs) small = rw (lt-ltb x 256 small.0, all_bytes_of xs small.1) refl
