-- The places that texts name.
use Rattle.std.proofs.Common.{◌≡◌, ◌≢◌, ◌⊎◌, inl, inr, ℕ, ◌+◌, ◌-◌, ◌<◌, ◌≤◌, ◌^◌, IfErr, IfOk, List, Option, Some, None, Result, Ok, Err, length, refl, subst, sym, arith}
use Rattle.std.specs.Prelude.{MatchResult}
use Rattle.std.specs.List.{after_first, before_first, position_or_len}
use Rattle.std.proofs.lemmas.Bool.{lt-ltb, le-ltb}
use Rattle.nor_hex.specs.Image.{Pairs}
use Rattle.nor_hex.specs.Union.{HasJust}
use Rattle.nor_job.specs.declared.fault.BuildFault.TheVariants.{Memory}
use Rattle.nor_layout.specs.Region.{Region}
use Rattle.nor_layout.specs.Text.{IsLayout}
use Rattle.norprog_common.specs.Image.{At, Bin, Chip, InLayout, IsDataOf, IsStart, Laid, Misses, MissesIn, Named, OtherSize, OutOfMemory, RefusesData, Starts, StartsIn, TooFar, Where, Within, bin_in, is_sign, place_by}
use Rattle.norprog_common.specs.declared.faults.Refusal.{Refusal}
use Rattle.norprog_common.specs.declared.faults.Refusal.TheVariants.{BinLength, BinSize, Build}
use Rattle.norprog_common.specs.declared.image.ImageData.TheVariants as given
use Rattle.nor_target.specs.Shares.{region_named}
use Rattle.norprog_common.specs.Values.{base_of}

pub by_few : (text : List ℕ) → length text < 5 → Named text ≡ place_by text
unfolding place_by
by_few text few = rw (lt-ltb (length text) 5 few) refl

pub by_address : (text : List ℕ) (at : ℕ) → 5 ≤ length text → base_of text ≡ Some at → At at ≡ place_by text
unfolding place_by
by_address text at many is = rw (le-ltb (length text) 5 many, is) refl

pub by_name : (text : List ℕ) → 5 ≤ length text → base_of text ≡ None → Named text ≡ place_by text
unfolding place_by
by_name text many is = rw (le-ltb (length text) 5 many, is) refl

-- a text with the sign, and one without
pub bin_placed : (text : List ℕ) → position_or_len is_sign text < length text → Bin (place_by (before_first is_sign text)) (after_first is_sign text) ≡ bin_in text
unfolding bin_in
bin_placed text there = rw (lt-ltb (position_or_len is_sign text) (length text) there) refl

pub bin_whole : (text : List ℕ) → position_or_len is_sign text ≡ length text → Bin Chip text ≡ bin_in text
unfolding bin_in
bin_whole text none = let le : length text ≤ position_or_len is_sign text = omega arith in rw (le-ltb (position_or_len is_sign text) (length text) le) refl

-- ---- of a layout
pub sized : (regions : List Region) (name : List ℕ) (len : ℕ) (region : Region) (result : Result ℕ Refusal) → region_named regions name ≡ Some region
    → IfOk result (λ start. (start ≡ region.start) × (len ≡ region.end + 1 - region.start))
    → IfErr result (λ why. (why ≡ BinLength (record { given = len; wanted = region.end + 1 - region.start })) × (len ≢ region.end + 1 - region.start))
    → MatchResult result (StartsIn regions name len) (MissesIn regions name len)
sized regions name len region (Ok start) found (is, same) other = subst (StartsIn regions name len) (sym is) (Starts region found same)
sized regions name len region (Err why) found same (told, other) = subst (MissesIn regions name len) (sym told) (OtherSize region found other)

module _ (layout : Option (List ℕ)) (text : List ℕ) (regions given : List Region) (name : List ℕ) (len : ℕ) (is : layout ≡ Some text) (says : IsLayout text regions) (same : given ≡ regions) where
  pub starts_in : (result : Result ℕ Refusal) → MatchResult result (StartsIn given name len) (MissesIn given name len) → IfOk result (IsStart layout len (Named name))
  starts_in (Ok at) starts = Within name regions at (rw is says) (subst (λ (rs : List Region). StartsIn rs name len at) same starts)
  starts_in (Err why) misses = tt

  pub misses_in : (result : Result ℕ Refusal) → MatchResult result (StartsIn given name len) (MissesIn given name len) → IfErr result (Misses layout len (Named name))
  misses_in (Ok at) starts = tt
  misses_in (Err why) misses = InLayout name regions why (rw is says) (subst (λ (rs : List Region). MissesIn rs name len why) same misses)

-- ---- raw bytes
module _ (base start : ℕ) (layout : Option (List ℕ)) (bytes raw : List ℕ) (place : Where) (path : List ℕ) (same : raw ≡ bytes) (starts : IsStart layout (length bytes) place start) where
  pub raw_lies : (image : Pairs) → (base + start + length raw ≤ 2 ^ 32) × HasJust (base + start) raw image
      → IsDataOf base layout bytes (Bin place path) (given.Image image)
  raw_lies image (fits, has) =
      Laid place path start image starts (subst (λ (bs : List ℕ). base + start + length bs ≤ 2 ^ 32) same fits)
      (subst (λ (bs : List ℕ). HasJust (base + start) bs image) same has)

  pub raw_refused : (why : Refusal) → ((why ≡ BinSize) × ((2 ^ 32 ≤ base + start) ⊎ (2 ^ 32 < base + start + length raw))) ⊎ (why ≡ Build Memory)
      → RefusesData base layout bytes (Bin place path) why
  raw_refused why (inl (told, far)) =
      subst (RefusesData base layout bytes (Bin place path)) (sym told)
      (TooFar place path start starts (subst (λ (bs : List ℕ). (2 ^ 32 ≤ base + start) ⊎ (2 ^ 32 < base + start + length bs)) same far))
  raw_refused why (inr told) = subst (RefusesData base layout bytes (Bin place path)) (sym told) (OutOfMemory place path)
