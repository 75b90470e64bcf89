-- What of an image has no place on a chip (this project's).
use Rattle.std.specs.Prelude.{◌≡◌, ℕ, Bool, false, ◌+◌, ◌<◌, count_by}
use Rattle.nor_base.specs.Target.{is_ignored}
use Rattle.nor_hex.specs.Image.{Pairs}

-- an address of the image that is `base` and some chip address together for no chosen address below the chip's size
abbrev pub HasNoPlace : ℕ → (ℕ → Bool) → ℕ → ℕ → Type 0
HasNoPlace base is_chosen size at = (a : ℕ) → a < size → base + a ≡ at → is_chosen a ≡ false

-- how many addresses of the image have no chosen address below this size
abbrev pub ignored_below : Pairs → ℕ → (ℕ → Bool) → ℕ → ℕ
ignored_below image base is_chosen size = count_by (λ pair. is_ignored base is_chosen size pair.0) image
