-- Where a text is cut, and the bytes that it spells.
use Rattle.std.proofs.Common.{◌≡◌, ℕ, ◌≤◌, nat_lt, Bool, true, false, cond, List, [], ◌∷◌, ◌++◌, length, get_or, Option, Some, None, inl, inr, refl, sym, ◌∙◌, ap}
use Rattle.std.specs.Prelude.{option_map, position, if◌then◌else◌}
use Rattle.std.specs.List.{position_or_len}
use Rattle.std.proofs.lemmas.Bool.{lt-ltb, cases_lt}
use Rattle.std.proofs.lemmas.List.{append_assoc}
use Rattle.nor_lines.specs.Lines.{is_blank}
use Rattle.nor_log.specs.Words.{bytes_of, byte_of, before_all, pair_on}

at_some : (b : Bool) (n k : ℕ) → Some k ≡ cond b (Some n) None → n ≡ k
at_some true n k e = cc
at_some false n k e = cc

-- the place that was found
pub place_is : (p : ℕ → Bool) (xs : List ℕ) (k : ℕ) → Some k ≡ position p xs → position_or_len p xs ≡ k
place_is p xs k e = at_some (nat_lt (position_or_len p xs) (length xs)) (position_or_len p xs) k e

-- none was
pub no_place : (p : ℕ → Bool) (xs : List ℕ) → None ≡ position p xs → length xs ≤ position_or_len p xs
no_place p xs e = elim (cases_lt (position_or_len p xs) (length xs)) [
  | inl below ↦
      let both : None ≡ Some (position_or_len p xs) =
      e ∙ ap (λ b. cond b (Some (position_or_len p xs)) None) (lt-ltb (position_or_len p xs) (length xs) below) in
      cc
  | inr past ↦ past
]

-- one byte more of what is spelled
one_more : (bytes : List ℕ) (b : ℕ) (o : Option (List ℕ)) → option_map (λ more. bytes ++ more) (before_all o (Some b)) ≡ option_map (λ more. (bytes ++ b ∷ []) ++ more) o
one_more bytes b None = refl
one_more bytes b (Some more) = ap Some (sym (append_assoc bytes (b ∷ []) more))

byte_here : (o : Option ℕ) (rest : List ℕ) (p : ℕ × List ℕ) → Some p ≡ option_map (λ byte. (byte, rest)) o → (o ≡ Some p.0) × (rest ≡ p.1)
byte_here None rest p e = cc
byte_here (Some x) rest p e =
    let same : p ≡ (x, rest) = cc in
    (ap (λ (q : ℕ × List ℕ). Some q.0) (sym same), ap (λ (q : ℕ × List ℕ). q.1) (sym same))

further : (whole : Option (List ℕ)) (bytes : List ℕ) (c : ℕ) (rest : List ℕ) (p : ℕ × List ℕ) → whole ≡ option_map (λ m. bytes ++ m) (bytes_of (c ∷ rest)) → is_blank c ≡ false
    → Some p ≡ pair_on (c ∷ rest) → whole ≡ option_map (λ m. (bytes ++ p.0 ∷ []) ++ m) (bytes_of p.1)
further whole bytes c [] p so blank pair = cc
further whole bytes c (d ∷ rest) p so blank pair =
    let here = byte_here (byte_of c d) rest p pair in
    so ∙ ap (λ t. option_map (λ m. bytes ++ m) (if t then bytes_of (d ∷ rest) else before_all (bytes_of rest) (byte_of c d))) blank
    ∙ ap (λ o. option_map (λ m. bytes ++ m) (before_all (bytes_of rest) o)) here.0
    ∙ one_more bytes p.0 (bytes_of rest)
    ∙ ap (λ r. option_map (λ m. (bytes ++ p.0 ∷ []) ++ m) (bytes_of r)) here.1

-- a byte more is spelled, by the pair that the rest begins with
pub spelled_further : (whole : Option (List ℕ)) (bytes rest : List ℕ) (p : ℕ × List ℕ) → whole ≡ option_map (λ m. bytes ++ m) (bytes_of rest)
    → is_blank (get_or rest 0 0) ≡ false → Some p ≡ pair_on rest → whole ≡ option_map (λ m. (bytes ++ p.0 ∷ []) ++ m) (bytes_of p.1)
spelled_further whole bytes [] p so blank pair = cc
spelled_further whole bytes (c ∷ rest) p so blank pair = further whole bytes c rest p so blank pair
