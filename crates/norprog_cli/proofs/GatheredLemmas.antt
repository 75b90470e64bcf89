-- One more part of a byte string.
use Rattle.std.proofs.Common.{◌≤◌, ◌+◌, ℕ, List, length, take, drop, Option, sym, ap, subst, arith, length-append, length-drop}
use Rattle.std.specs.Io.KnownBytes.{Appends}
use Rattle.std.proofs.Math.Seq.{take-add}
use Rattle.std.proofs.lemmas.List.{take-append-drop}
use Rattle.nor_base.proofs.DeviceLaws.{Appends-append}
use Rattle.nor_base.proofs.ListLaws.{shorter_front}

-- n more bytes of xs, of the m from a on
pub appends_more : (before between after : Option (List ℕ)) (xs : List ℕ) (a m n : ℕ) → n ≤ length (take m (drop a xs))
    → Appends before between (take a xs) → Appends between after (take n (take m (drop a xs))) → Appends before after (take (a + n) xs)
appends_more before between after xs a m n fits p q =
    let rest : Appends between after (take n (drop a xs)) = subst (Appends between after) (shorter_front (drop a xs) n m fits) q in
    subst (Appends before after) (sym (take-add a n xs)) (Appends-append before between after (take a xs) (take n (drop a xs)) p rest)

pub within_bytes : (xs : List ℕ) (a m n : ℕ) → a ≤ length xs → n ≤ length (take m (drop a xs)) → a + n ≤ length xs
within_bytes xs a m n a_fits n_fits =
    omega (arith, ap length (take-append-drop m (drop a xs)), length-append (take m (drop a xs)) (drop m (drop a xs)), length-drop a xs)
