-- Which steps a text lists, and why it is no listing (this project's).
use Rattle.std.specs.Prelude.{◌≡◌, ◌⊎◌, ⊤, ℕ, Bool, ◌+◌, List, [], ◌∷◌, ◌++◌, length}
use Rattle.nor_base.specs.declared.step.Step.{Step}
use Rattle.nor_base.specs.Parameters.{Parameters}
use Rattle.nor_base.specs.Script.{end_line}
use Rattle.nor_listing.specs.Law.{IsListable, AreListable}
use Rattle.nor_listing.specs.Listing.{mode_past, line, chip_line, unended_listing, listing}
use Rattle.nor_listing.specs.declared.fault.ListFault.{ListFault}
use Rattle.nor_listing.specs.declared.fault.ListFault.TheVariants.{BadLine, Memory}

-- the text is the listing of these steps, by a meaning and from an address mode on
pub record IsListingOf (m : Parameters) (mode4 : Bool) (text : List ℕ) (steps : List Step) : Type 0 where
  pub each : AreListable steps
  pub spelled : text ≡ listing m mode4 steps

-- whatever steps are read of the listing of some steps, by its meaning and mode, they are these
abbrev pub ReadBack : Type 0
ReadBack = (m : Parameters) (mode4 : Bool) (xs ys : List Step) → AreListable xs → IsListingOf m mode4 (listing m mode4 xs) ys → ys ≡ xs

-- the address mode after these steps
abbrev pub mode_through : Parameters → Bool → List Step → Bool
mode_through m mode4 [] = mode4
mode_through m mode4 (x ∷ xs) = mode_through m (mode_past m mode4 x) xs

-- the first line and the lines of these steps are right, and the rest follows them
pub record IsRight (m : Parameters) (mode4 : Bool) (text : List ℕ) (above : List Step) (rest : List ℕ) : Type 0 where
  pub each : AreListable above
  pub whole : text ≡ unended_listing m mode4 above ++ rest

-- a text begins neither with the line of a step of this number, in this mode, nor with the end line of so many steps
pub record IsStrange (m : Parameters) (n : ℕ) (mode4 : Bool) (text : List ℕ) : Type 0 where
  pub no_step : (x : Step) (more : List ℕ) → IsListable x → text ≡ line m n mode4 x ++ more → ⊥
  pub no_end : (more : List ℕ) → text ≡ end_line n ++ more → ⊥

-- after the first line and those of some steps, the n-th line is neither that of a step nor the end line
pub record HasBadLine (m : Parameters) (mode4 : Bool) (text : List ℕ) (n : ℕ) : Type 0 where
  pub above : List Step
  pub rest : List ℕ
  pub right : IsRight m mode4 text above rest
  pub strange : IsStrange m (length above) (mode_through m mode4 above) rest
  pub number : n ≡ length above + 2

-- something follows the listing of some steps, on the n-th line
pub record GoesOn (m : Parameters) (mode4 : Bool) (text : List ℕ) (n : ℕ) : Type 0 where
  pub steps : List Step
  pub byte : ℕ
  pub more : List ℕ
  pub each : AreListable steps
  pub whole : text ≡ listing m mode4 steps ++ byte ∷ more
  pub number : n ≡ length steps + 3

-- the first line is another
abbrev pub HasOtherChip : Parameters → Bool → List ℕ → ℕ → Type 0
HasOtherChip m mode4 text n = (n ≡ 1) × ((rest : List ℕ) → text ≡ chip_line m mode4 ++ rest → ⊥)

-- why a text is no listing
abbrev pub Refuses : Parameters → Bool → List ℕ → ListFault → Type 0
Refuses m mode4 text (BadLine n) = HasOtherChip m mode4 text n ⊎ (HasBadLine m mode4 text n ⊎ GoesOn m mode4 text n)
Refuses m mode4 text Memory = ⊤

-- the listing of some steps has no such line
abbrev pub ListingsAreFaultless : Type 0
ListingsAreFaultless =
    (m : Parameters) (mode4 : Bool) (text : List ℕ) (steps : List Step) (n : ℕ) → IsListingOf m mode4 text steps → Refuses m mode4 text (BadLine n) → ⊥
