-- Inputs without a layout.
use Rattle.std.proofs.Common.{◌≡◌, ℕ, false, List, [], ◌∷◌, None, refl, arith}
use Rattle.nor_hex.specs.Image.{Pairs}
use Rattle.nor_layout.specs.Region.{Region}
use Rattle.nor_layout.specs.Chosen.{has, is_chosen, first_unknown}
use Rattle.nor_job.specs.Task.{Task, contradiction}
use Rattle.nor_base.specs.Array.{is_filled}
use Rattle.nor_job.specs.Causes.{LayoutSays, HasImage, HasRegions}

not_named : (t : Task) → contradiction t ≡ None → t.layout ≡ None → is_filled t.regions ≡ false
unfolding contradiction
not_named t e none = grind arith

no_names : (names : List (List ℕ)) → is_filled names ≡ false → names ≡ []
no_names [] e = refl
no_names (name ∷ names) e = cc

-- without a layout no region is named, and the whole chip is chosen
pub all_without_a_layout : (t : Task) (image : Pairs) → t.layout ≡ None → HasImage t image
    → (regions : List Region) × HasRegions t image regions × ((a : ℕ) → has None a ≡ is_chosen regions t.regions a)
all_without_a_layout t image none imaged =
    let bare : t.regions ≡ [] = no_names t.regions (not_named t imaged.consistent none) in
    let known : first_unknown [] t.regions ≡ None = rw bare refl in
    let says : LayoutSays t.layout [] = rw none refl in
    let chosen : (a : ℕ) → has None a ≡ is_chosen [] t.regions a = λ a. rw bare refl in
    ([], record { imaged = imaged; layout = says; known = known }, chosen)
