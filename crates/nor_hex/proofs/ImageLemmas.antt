-- Lemmas on an image as a list of addresses with their bytes.
use Prim.Native.Nat.{zero}
use Rattle.std.proofs.Common.{◌≡◌, ℕ, suc, ◌<◌, nat_eq, List, [], ◌∷◌, length, slice_get, slice_index_or, Some, Contains, refl, arith}
use Rattle.std.specs.Ordering.{nat_cmp}
use Rattle.std.specs.BTreeMap as tree
use Rattle.std.proofs.lemmas.Bool.{eqb-true}
use Rattle.std.proofs.lemmas.Bool.Decides.{nat_tests}
use Rattle.std.proofs.lemmas.Map.Entries.{place_from_lookup}
use Rattle.nor_hex.specs.Image.{Pairs, byte_at}

-- an element by its place, where the place is known to be there
pub index_from_get : {X : Type 0} (xs : List X) (i : ℕ) (x d : X) → slice_get xs i ≡ Some x → (i < length xs) × (slice_index_or xs i d ≡ x)
index_from_get [] i x d e = absurd cc
index_from_get (y ∷ ys) zero x d e = (omega arith, cc)
index_from_get (y ∷ ys) (suc i) x d e = let more = index_from_get ys i x d e in (omega (arith, more.0), more.1)

pub get_from_index : {X : Type 0} (xs : List X) (i : ℕ) (d : X) → i < length xs → slice_get xs i ≡ Some (slice_index_or xs i d)
get_from_index [] i d h = absurd (omega arith)
get_from_index (y ∷ ys) zero d h = refl
get_from_index (y ∷ ys) (suc i) d h = get_from_index ys i d (omega arith)

-- what the image gives is in its list
pub contains_from_byte : (image : Pairs) (address byte : ℕ) → byte_at image address ≡ Some byte → Contains image (address, byte)
contains_from_byte image address byte e =
    let found = place_from_lookup (nat_eq address) image byte e in
    let same : address ≡ found.1 = eqb-true address found.1 found.3 in
    let here = index_from_get image found.0 (found.1, byte) (address, byte) found.2 in
    (found.0, here.0, rw (← same) at here.1)

-- a look-up by the order finds what one by equality does
pub equal_keys : (a b : ℕ) → tree.is_at (nat_cmp a) b ≡ nat_eq a b
equal_keys a b = grind (arith, nat_tests)
