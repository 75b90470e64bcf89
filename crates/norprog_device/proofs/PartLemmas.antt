-- What is written one after the other.
use Rattle.std.proofs.Common.{ℕ, List, ◌++◌, Option, Result}
use Rattle.std.specs.Prelude.{IsErr}
use Rattle.std.specs.Io.KnownBytes.{Appends}
use Rattle.nor_base.specs.Device.{Cuts, Writes}
use Rattle.nor_base.proofs.DeviceLaws.{Cuts-more, Cuts-then, Writes-cut, Writes-then}

pub first_cut : {T F : Type 0} (h i : Option (List ℕ)) (r : Result T F) (xs ys : List ℕ) → IsErr r → Cuts h i xs → Writes h i r (xs ++ ys)
first_cut h i r xs ys err cut = Writes-cut h i r (xs ++ ys) err (Cuts-more h i xs ys cut)

pub second_cut : {T F : Type 0} (h i j : Option (List ℕ)) (r : Result T F) (xs ys zs : List ℕ) → IsErr r → Appends h i xs → Cuts i j ys
    → Writes h j r (xs ++ (ys ++ zs))
second_cut h i j r xs ys zs err put cut = Writes-cut h j r (xs ++ (ys ++ zs)) err (Cuts-then h i j xs (ys ++ zs) put (Cuts-more i j ys zs cut))

pub all_three : {T F : Type 0} (h i j k : Option (List ℕ)) (r : Result T F) (xs ys zs : List ℕ) → Appends h i xs → Appends i j ys → Writes j k r zs
    → Writes h k r (xs ++ (ys ++ zs))
all_three h i j k r xs ys zs one two three = Writes-then h i k r xs (ys ++ zs) one (Writes-then i j k r ys zs two three)
