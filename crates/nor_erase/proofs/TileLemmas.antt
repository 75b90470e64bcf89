-- The last block of a rising list that fits is the largest.
use Rattle.std.proofs.Common.{◌≡◌, ◌⊎◌, ℕ, zero, suc, ◌+◌, ◌-◌, ◌*◌, ◌/◌, ◌%◌, take, drop, not, mul_comm, ◌<◌, ◌≤◌, nat_le, Bool, true, false, ◌&&◌, ◌||◌, List, [], ◌∷◌, ◌++◌, length, map, get_or, Option, Some, None, refl, sym, ◌∙◌, ap, subst, arith, inl, inr, leb-true, le-leb, eqb-true, eq-eqb, ◌==◌, append_assoc, append-nil}
use Rattle.std.specs.Prelude.{MatchOption, flat_map}
use Rattle.std.specs.List.{list_any, range_with_len}
use Rattle.std.proofs.lemmas.Grind.{flat_map-append}
use Rattle.std.proofs.Math.Nat.{mul-div_left, add-mul-mod_self_left}
use Rattle.nor_base.specs.Need.{differs}
use Rattle.nor_base.specs.Units.{pages}
use Rattle.nor_geometry.proofs.WindowLemmas.{steps}
use Rattle.std.proofs.Math.Seq.{drop-cons}
use lib.Pointwise.{pointwise}
use lib.Dec.{eqb}
use Rattle.std.proofs.lemmas.Bool.{cases_lt, and_parts, both_ways}
use Rattle.std.proofs.lemmas.List.{map-append, get_or_default}
use Rattle.std.proofs.lemmas.List.Elements.{All-get_or}
use Rattle.nor_base.specs.declared.meaning.Strategy.{Strategy}
use Rattle.nor_base.specs.Parameters.{Parameters}
use Rattle.nor_base.specs.Accepted.{IsAccepted}
use Rattle.nor_base.specs.Blocks.{Block}
use Rattle.nor_geometry.specs.Legal.{IsListedAt, AreLegalAt}
use Rattle.nor_geometry.proofs.KindLemmas.{same_place}
use Rattle.nor_geometry.specs.declared.unit.PlanUnit.{PlanUnit}
use Rattle.nor_geometry.specs.declared.unit.PlanUnit.TheVariants as unit
use Rattle.nor_erase.specs.Tiles.{IsLargestAt, NoneFits, IsTiling, AddsBlocks, page_if}

-- it starts at an address and ends by another
abbrev pub Fits : ℕ → ℕ → Block → Type 0
Fits low high b = (b.start ≡ low) × (b.start + b.size ≤ high)

-- of the first of some blocks the last that fits
pub record IsLastFit (low high : ℕ) (xs : List Block) (i : ℕ) (b : Block) : Type 0 where
  pub at : ℕ
  pub inside : at < i
  pub is : get_or xs at b ≡ b
  pub fits : Fits low high b
  pub none_after : (k : ℕ) (d : Block) → at < k → k < i → Fits low high (get_or xs k d) → ⊥

abbrev pub LastFit : ℕ → ℕ → List Block → ℕ → Option Block → Type 0
LastFit low high xs i None = (k : ℕ) (d : Block) → k < i → Fits low high (get_or xs k d) → ⊥
LastFit low high xs i (Some b) = IsLastFit low high xs i b

pub fits_now : (low high : ℕ) (xs : List Block) (i : ℕ) (b : Block) → get_or xs i b ≡ b → Fits low high b → LastFit low high xs (i + 1) (Some b)
fits_now low high xs i b is fits = record { at = i; inside = omega arith; is = is; fits = fits; none_after = λ k d after before h. absurd (omega arith) }

at_place : (low high : ℕ) (xs : List Block) (i k : ℕ) (b d : Block) → i < length xs → k ≡ i → get_or xs i b ≡ b → Fits low high (get_or xs k d) → Fits low high b
at_place low high xs i k b d inside same is fits =
    let there : get_or xs k d ≡ b = ap (λ n. get_or xs n d) same ∙ get_or_default xs i d b inside ∙ is in
    let start : (get_or xs k d).start ≡ b.start = ap (λ (x : Block). x.start) there in
    let size : (get_or xs k d).size ≡ b.size = ap (λ (x : Block). x.size) there in
    (sym start ∙ fits.0, omega (arith, fits.1))

pub fits_not : (low high : ℕ) (xs : List Block) (i : ℕ) (b : Block) (o : Option Block) → i < length xs → get_or xs i b ≡ b → (Fits low high b → ⊥) → LastFit low high xs i o
    → LastFit low high xs (i + 1) o
fits_not low high xs i b None inside is unfit h = λ k d before fits. elim (cases_lt k i) [
  | inl less ↦ h k d less fits
  | inr here ↦ unfit (at_place low high xs i k b d inside (omega arith) is fits)
]
fits_not low high xs i b (Some c) inside is unfit h = record {
  at = h.at;
  inside = omega (arith, h.inside);
  is = h.is;
  fits = h.fits;
  none_after = λ k d after before fits. elim (cases_lt k i) [
    | inl less ↦ h.none_after k d after less fits
    | inr here ↦ unfit (at_place low high xs i k b d inside (omega arith) is fits)
  ];
}

-- what the test says
pub does_fit : (low high : ℕ) (b : Block) → (b.start == low) && nat_le (b.start + b.size) high ≡ true → Fits low high b
does_fit low high b h =
    let parts = and_parts (b.start == low) (nat_le (b.start + b.size) high) h in
    (eqb-true b.start low parts.0, leb-true (b.start + b.size) high parts.1)

pub is_unfit : (low high : ℕ) (b : Block) → (b.start == low) && nat_le (b.start + b.size) high ≡ false → Fits low high b → ⊥
is_unfit low high b h fits =
    both_ways ((b.start == low) && nat_le (b.start + b.size) high) h (rw (eq-eqb b.start low fits.0, le-leb (b.start + b.size) high fits.1) refl)

-- one block more
pub next_fit : (low high : ℕ) (xs : List Block) (i : ℕ) (b : Block) (best now : Option Block) → i < length xs → b ≡ get_or xs i b → LastFit low high xs i best
    → (((b.start == low) && nat_le (b.start + b.size) high ≡ true) × (now ≡ Some b)) ⊎ (((b.start == low) && nat_le (b.start + b.size) high ≡ false) × (now ≡ best))
    → LastFit low high xs (i + 1) now
next_fit low high xs i b best now inside is h (inl yes_so) = rw yes_so.1 (fits_now low high xs i b (sym is) (does_fit low high b yes_so.0))
next_fit low high xs i b best now inside is h (inr no_so) = rw no_so.1 (fits_not low high xs i b best inside (sym is) (is_unfit low high b no_so.0) h)

-- of all the last that fits is the largest
pub last_is : (m : Parameters) (by : Strategy) (low high : ℕ) (xs : List Block) (i : ℕ) (o : Option Block) → IsAccepted m → AreLegalAt m by low xs → length xs ≤ i
    → i ≤ length xs → LastFit low high xs i o → MatchOption o (NoneFits m by low high) (IsLargestAt m by low high)
last_is m by low high xs i None accepted h all few none = λ c r start fits.
    let some = h.all c r in
    let d = All-get_or (IsListedAt m by low) xs some.0 some.1 some.2 h.each in
    let size : (get_or xs some.0 some.1).size ≡ c.size = ap (λ (x : Block). x.size) some.3 ∙ some.4 in
    let place : (get_or xs some.0 some.1).start ≡ c.start = same_place m by low (get_or xs some.0 some.1) c accepted d.is r size in
    none some.0 some.1 (omega (arith, some.2)) (omega arith, omega arith)
last_is m by low high xs i (Some b) accepted h all few last =
    let listed : IsListedAt m by low (get_or xs last.at b) = All-get_or (IsListedAt m by low) xs last.at b (omega (arith, last.inside)) h.each in
    record {
      listed = subst (IsListedAt m by low) last.is listed;
      start = last.fits.0;
      fits = last.fits.1;
      most = λ c r start fits.
          let some = h.all c r in
          let d = All-get_or (IsListedAt m by low) xs some.0 some.1 some.2 h.each in
          let size : (get_or xs some.0 some.1).size ≡ c.size = ap (λ (x : Block). x.size) some.3 ∙ some.4 in
          let place : (get_or xs some.0 some.1).start ≡ c.start = same_place m by low (get_or xs some.0 some.1) c accepted d.is r size in
          elim (cases_lt last.at some.0) [
            | inl after ↦ absurd (last.none_after some.0 some.1 after (omega (arith, some.2)) (omega arith, omega arith))
            | inr upto ↦ elim (cases_lt some.0 last.at) [
              | inl before ↦
                  let less : (get_or xs some.0 b).size < (get_or xs last.at b).size = h.rising some.0 last.at b before (omega (arith, last.inside)) in
                  let same : (get_or xs some.0 b).size ≡ (get_or xs some.0 some.1).size = ap (λ (x : Block). x.size) (get_or_default xs some.0 b some.1 some.2) in
                  let its : (get_or xs last.at b).size ≡ b.size = ap (λ (x : Block). x.size) last.is in
                  omega arith
              | inr here ↦
                  let equal : some.0 ≡ last.at = omega arith in
                  let same : (get_or xs some.0 some.1).size ≡ (get_or xs last.at b).size =
                  ap (λ (x : Block). x.size) (get_or_default xs some.0 some.1 b some.2) ∙ ap (λ k. (get_or xs k b).size) equal in
                  let its : (get_or xs last.at b).size ≡ b.size = ap (λ (x : Block). x.size) last.is in
                  omega arith
            ]
          ];
    }

-- blocks that tile a stretch so far
pub record IsTiledTo (m : Parameters) (by : Strategy) (low high start : ℕ) (before now : List PlanUnit) : Type 0 where
  pub blocks : List Block
  pub added : now ≡ before ++ map unit.Block blocks
  pub goes_on : (rest : List Block) → IsTiling m by start high rest → IsTiling m by low high (blocks ++ rest)

pub one_tiled : (m : Parameters) (by : Strategy) (low high start : ℕ) (before now items : List PlanUnit) (b : Block) → IsTiledTo m by low high start before now
    → IsLargestAt m by start high b → items ≡ now ++ unit.Block b ∷ [] → IsTiledTo m by low high (start + b.size) before items
one_tiled m by low high start before now items b t largest is = record {
  blocks = t.blocks ++ b ∷ [];
  added = is ∙ ap (λ xs. xs ++ unit.Block b ∷ []) t.added ∙ append_assoc before (map unit.Block t.blocks) (unit.Block b ∷ [])
      ∙ ap (λ xs. before ++ xs) (sym (map-append unit.Block t.blocks (b ∷ [])));
  goes_on = λ rest h. subst (IsTiling m by low high) (sym (append_assoc t.blocks (b ∷ []) rest)) (t.goes_on (b ∷ rest) (largest, h));
}

pub tiled : (m : Parameters) (by : Strategy) (low high start : ℕ) (before now : List PlanUnit) → IsTiledTo m by low high start before now → NoneFits m by start high
    → AddsBlocks (IsTiling m by low high) before now
tiled m by low high start before now t none = record {
  blocks = t.blocks;
  tiling = subst (IsTiling m by low high) (append-nil t.blocks) (t.goes_on [] none);
  added = t.added;
}

-- the pages from one address up to the next
pub record ArePaged (have want : List ℕ) (at page low high start : ℕ) (before now : List PlanUnit) : Type 0 where
  pub count : ℕ
  pub upto : low + count * page ≡ start
  pub within : start ≤ high
  pub added : now ≡ before ++ flat_map (page_if have want at page) (pages page low count)

pages_end : (page n at : ℕ) → pages page at (suc n) ≡ pages page at n ++ (at + n * page) ∷ []
pages_end page zero at = let same : at ≡ at + 0 * page = omega arith in ap (λ a. a ∷ []) same
pages_end page (suc n) at =
    let same : (at + page) + n * page ≡ at + suc n * page = omega arith in
    ap (λ ps. at ∷ ps) (pages_end page n (at + page)) ∙ ap (λ a. at ∷ (pages page (at + page) n ++ a ∷ [])) same

pub one_paged : (have want : List ℕ) (at page low high start : ℕ) (before now items : List PlanUnit) → ArePaged have want at page low high start before now
    → start + page ≤ high → items ≡ now ++ page_if have want at page start → ArePaged have want at page low high (start + page) before items
one_paged have want at page low high start before now items p fits is = record {
  count = suc p.count;
  upto = omega (arith, p.upto);
  within = fits;
  added =
      is ∙ ap (λ xs. xs ++ page_if have want at page start) p.added
      ∙ append_assoc before (flat_map (page_if have want at page) (pages page low p.count)) (page_if have want at page start)
      ∙ ap (λ xs. before ++ xs) (sym (
      ap (flat_map (page_if have want at page)) (pages_end page p.count low)
      ∙ flat_map-append (page_if have want at page) (pages page low p.count) ((low + p.count * page) ∷ [])
      ∙ ap (λ s. flat_map (page_if have want at page) (pages page low p.count) ++ flat_map (page_if have want at page) (s ∷ [])) p.upto
      ∙ ap (λ xs. flat_map (page_if have want at page) (pages page low p.count) ++ xs) (append-nil (page_if have want at page start))
      ));
}

times_div : (page n k : ℕ) → 0 < page → k * page ≡ n → n / page ≡ k
times_div page n k some is = ap (λ x. x / page) (sym is) ∙ mul-div_left k some

pub all_paged : (have want : List ℕ) (at page low high start : ℕ) (before now : List PlanUnit) → 0 < page → ArePaged have want at page low high start before now → high ≤ start
    → now ≡ before ++ flat_map (page_if have want at page) (pages page low ((high - low) / page))
all_paged have want at page low high start before now some p done =
    let whole : p.count * page ≡ high - low = omega (arith, p.upto, p.within) in
    p.added ∙ ap (λ n. before ++ flat_map (page_if have want at page) (pages page low n)) (sym (times_div page (high - low) p.count some whole))

-- a page that begins before the end of whole pages ends by it
pub page_fits : (page low high start : ℕ) (have want : List ℕ) (at : ℕ) (before now : List PlanUnit) → 0 < page → ArePaged have want at page low high start before now
    → low % page ≡ 0 → high % page ≡ 0 → start < high → start + page ≤ high
page_fits page low high start have want at before now some p whole_low whole_high less =
    let whole : start % page ≡ 0 = ap (λ x. x % page) (sym p.upto) ∙ add-mul-mod_self page low p.count ∙ whole_low in
    steps page start high whole whole_high less
  where
    add-mul-mod_self : (page low n : ℕ) → (low + n * page) % page ≡ low % page
    add-mul-mod_self page low n = ap (λ x. (low + x) % page) (mul_comm n page) ∙ add-mul-mod_self_left low page n

not_and : (a b : Bool) → not (a && b) ≡ not a || not b
not_and true b = refl
not_and false b = refl

-- two ranges of one length are equal where no byte of them differs
pub ranges_differ : (have want : List ℕ) (n from : ℕ) → from + n ≤ length have → length have ≡ length want
    → not (pointwise eqb (take n (drop from have)) (take n (drop from want))) ≡ list_any (differs have want) (range_with_len from n)
ranges_differ have want zero from inside same = refl
ranges_differ have want (suc n) from inside same =
    let left : drop from have ≡ get_or have from 0 ∷ drop (suc from) have = drop-cons have from 0 (omega arith) in
    let right : drop from want ≡ get_or want from 0 ∷ drop (suc from) want = drop-cons want from 0 (omega arith) in
    let one : suc from ≡ from + 1 = omega arith in
    ap (λ xs. not (pointwise eqb (take (suc n) xs) (take (suc n) (drop from want)))) left
    ∙ ap (λ ys. not (pointwise eqb (take (suc n) (get_or have from 0 ∷ drop (suc from) have)) (take (suc n) ys))) right
    ∙ not_and (eqb (get_or have from 0) (get_or want from 0)) (pointwise eqb (take n (drop (suc from) have)) (take n (drop (suc from) want)))
    ∙ ap (λ k. not (eqb (get_or have from 0) (get_or want from 0)) || not (pointwise eqb (take n (drop k have)) (take n (drop k want)))) one
    ∙ ap (λ b. differs have want from || b) (ranges_differ have want n (from + 1) (omega arith) same)
