-- The lines on what an image gives the chosen regions (this project's).
use Rattle.std.specs.Prelude.{◌≡◌, ℕ, ◌+◌, ◌-◌, Bool, true, false, List, ◌++◌, Option, Some, None, codes, decimal, flat_map}
use Rattle.nor_base.specs.Parameters.{Parameters}
use Rattle.nor_hex.specs.Image.{Pairs, byte_at}
use Rattle.nor_job.specs.Causes.{AreAccepted}
use Rattle.nor_job.specs.Task.{Task}
use Rattle.nor_layout.specs.Region.{Region}
use Rattle.nor_script.specs.Hexadecimal.{hex_number}
use Rattle.nor_target.specs.Shares.{chosen_regions, share_in}
use Rattle.nor_target.specs.declared.shares.Share.{Share}

-- what is told of a region to which the image gives so many bytes, the first, after these words, here
abbrev pub share_line : Region → ℕ → List ℕ → ℕ → List ℕ
share_line region count words first =
    codes "region " ++ (region.name ++ (codes " " ++ (hex_number region.start ++ (codes " " ++ (hex_number region.end ++ (codes " "
    ++ (decimal count ++ (codes " of " ++ (decimal (region.end + 1 - region.start) ++ (words ++ (hex_number first ++ codes "\n")))))))))))

-- `region NAME AAAAAAAA BBBBBBBB n of m bytes from the image, first AAAAAAAA`, or `region NAME empty`
abbrev pub region_line : Region → Option Share → List ℕ
region_line region None = codes "region " ++ (region.name ++ codes " empty\n")
region_line region (Some share) = share_line region share.count (codes " bytes from the image, first ") share.first

-- one for each of these regions, in their order
abbrev pub region_lines : (ℕ → Option ℕ) → ℕ → ℕ → List Region → List ℕ
region_lines image base size regions = flat_map (λ region. region_line region (share_in image base size region)) regions

-- the inputs are accepted, and these are the lines of their chosen regions, by their image
pub record AreRegionLines (t : Task) (len : ℕ) (lines : List ℕ) : Type 0 where
  pub image : Pairs
  pub regions : List Region
  pub m : Parameters
  pub accepted : AreAccepted t len image regions m
  pub told : lines ≡ region_lines (byte_at image) t.base m.size (chosen_regions regions t.regions m.size)

-- the text ends with them, where they are asked for
abbrev pub EndsWith : Bool → Task → ℕ → List ℕ → List ℕ → Type 0
EndsWith true t len shown rest = (lines : List ℕ) × AreRegionLines t len lines × (rest ≡ shown ++ lines)
EndsWith false t len shown rest = rest ≡ shown
