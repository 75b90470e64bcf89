-- What is given or taken in two goes.
use Rattle.std.proofs.Common.{◌≡◌, ℕ, zero, suc, ◌<◌, ◌≤◌, ◌+◌, ◌-◌, inl, inr, List, [], ◌∷◌, ◌++◌, length, get_or, map, take, drop, Option, Some, None, Result, Ok, Err, refl, sym, ◌∙◌, ap, subst, append_assoc, append-nil, arith, length-append}
use Rattle.std.specs.Prelude.{flat_map, IsErr}
use Rattle.std.specs.Io.KnownBytes.{Appends}
use Rattle.std.specs.List.{slice_index, range_with_len}
use Rattle.std.proofs.Math.ListN.{get_or-append}
use Rattle.std.proofs.Math.Seq.{get_or-append_right, take-append-add}
use Rattle.std.proofs.lemmas.Bool.{cases_lt}
use Rattle.std.proofs.lemmas.Grind.{same_number_lists}
use Rattle.std.proofs.lemmas.List.{take-append-le}
use Rattle.std.proofs.lemmas.List.FromFn.{length-map-range_with_len, get_or-map-range_with_len}
use Rattle.nor_base.specs.Device.{Ahead, Unknown, Finite, Endless, Gives, first_of, Cuts, Writes, one_more, raised}

pub Appends-append : (a b c : Option (List ℕ)) (xs ys : List ℕ) → Appends a b xs → Appends b c ys → Appends a c (xs ++ ys)
Appends-append None b c xs ys p q = tt
Appends-append (Some a) None c xs ys p q = absurd p
Appends-append (Some a) (Some b) None xs ys p q = absurd q
Appends-append (Some a) (Some b) (Some c) xs ys p q = q ∙ ap (λ front. front ++ ys) p ∙ append_assoc a xs ys

pub Appends-none : (a : Option (List ℕ)) → Appends a a []
Appends-none None = tt
Appends-none (Some xs) = sym (append-nil xs)

-- what was put, and then a proper prefix of what follows
pub Cuts-then : (a b c : Option (List ℕ)) (xs ys : List ℕ) → Appends a b xs → Cuts b c ys → Cuts a c (xs ++ ys)
Cuts-then a b c xs ys p q =
    let fits : length xs + q.0 < length (xs ++ ys) = omega (arith, q.1, length-append xs ys) in
    (length xs + q.0, fits, subst (Appends a c) (sym (take-append-add xs ys q.0)) (Appends-append a b c xs (take q.0 ys) p q.2))

-- a proper prefix of a part is one of the whole
pub Cuts-more : (a b : Option (List ℕ)) (xs ys : List ℕ) → Cuts a b xs → Cuts a b (xs ++ ys)
Cuts-more a b xs ys p =
    let fits : p.0 < length (xs ++ ys) = omega (arith, p.1, length-append xs ys) in
    (p.0, fits, subst (Appends a b) (sym (take-append-le p.0 xs ys (omega (arith, p.1)))) p.2)

-- what was put, and then what is written after it
pub Writes-then : {T F : Type 0} (a b c : Option (List ℕ)) (r : Result T F) (xs ys : List ℕ) → Appends a b xs → Writes b c r ys → Writes a c r (xs ++ ys)
Writes-then a b c (Ok x) xs ys p q = Appends-append a b c xs ys p q
Writes-then a b c (Err e) xs ys p q = Cuts-then a b c xs ys p q

-- a fault that is handed on after a proper prefix
pub Writes-cut : {T F : Type 0} (a b : Option (List ℕ)) (r : Result T F) (bytes : List ℕ) → IsErr r → Cuts a b bytes → Writes a b r bytes
Writes-cut a b (Ok x) bytes is p = cc
Writes-cut a b (Err e) bytes is p = p

-- what is joined, around one of the parts
joined_at : {X : Type 0} (f : X → List ℕ) (parts : List X) (d : X) (i : ℕ) → i < length parts
    → flat_map f parts ≡ flat_map f (take i parts) ++ (f (get_or parts i d) ++ flat_map f (drop (suc i) parts))
joined_at f [] d i fits = absurd (omega arith)
joined_at f (x ∷ xs) d zero fits = refl
joined_at f (x ∷ xs) d (suc i) fits =
    ap (λ rest. f x ++ rest) (joined_at f xs d i (omega arith))
    ∙ sym (append_assoc (f x) (flat_map f (take i xs)) (f (get_or xs i d) ++ flat_map f (drop (suc i) xs)))

-- the parts before one were put, and a proper prefix of that one
pub Cuts-at : {X : Type 0} (f : X → List ℕ) (parts : List X) (d : X) (i : ℕ) (a b c : Option (List ℕ)) → i < length parts
    → Appends a b (flat_map f (take i parts)) → Cuts b c (f (get_or parts i d)) → Cuts a c (flat_map f parts)
Cuts-at f parts d i a b c fits p q =
    subst (Cuts a c) (sym (joined_at f parts d i fits))
    (Cuts-then a b c _ _ p (Cuts-more b c _ (flat_map f (drop (suc i) parts)) q))

-- the bytes of the second part are those past the first
past_the_first : (f g : ℕ → ℕ) (xs ys : List ℕ) (k : ℕ) → length xs ≤ k → k < length (xs ++ ys)
    → ((j : ℕ) → g j ≡ f (length xs + j)) → ((j : ℕ) → j < length ys → slice_index ys j ≡ g j) → slice_index (xs ++ ys) k ≡ f k
past_the_first f g xs ys k far fits moved given =
    let within : k - length xs < length ys = omega (arith, length-append xs ys) in
    let whole : length xs + (k - length xs) ≡ k = omega arith in
    get_or-append_right xs ys k 0 far ∙ given (k - length xs) within ∙ moved (k - length xs) ∙ ap f whole

endless_twice : (f g h : ℕ → ℕ) (xs ys : List ℕ) → Gives (Endless f) xs (Endless g) → Gives (Endless g) ys (Endless h) → Gives (Endless f) (xs ++ ys) (Endless h)
endless_twice f g h xs ys p q = (
  λ k fits. elim (cases_lt k (length xs)) [
    | inl near ↦ get_or-append xs ys 0 k near ∙ p.0 k near
    | inr far ↦ past_the_first f g xs ys k far fits p.1 q.0
  ],
  λ k.
      let lengths : length xs + (length ys + k) ≡ length (xs ++ ys) + k = omega (arith, length-append xs ys) in
      q.1 k ∙ p.1 (length ys + k) ∙ ap f lengths,
)

pub Gives-append : (a b c : Ahead) (xs ys : List ℕ) → Gives a xs b → Gives b ys c → Gives a (xs ++ ys) c
Gives-append Unknown b c xs ys p q = tt
Gives-append (Finite a) Unknown c xs ys p q = absurd p
Gives-append (Finite a) (Endless b) c xs ys p q = absurd p
Gives-append (Finite a) (Finite b) Unknown xs ys p q = absurd q
Gives-append (Finite a) (Finite b) (Endless c) xs ys p q = absurd q
Gives-append (Finite a) (Finite b) (Finite c) xs ys p q = p ∙ ap (λ rest. xs ++ rest) q ∙ sym (append_assoc xs ys c)
Gives-append (Endless a) Unknown c xs ys p q = absurd p
Gives-append (Endless a) (Finite b) c xs ys p q = absurd p
Gives-append (Endless a) (Endless b) Unknown xs ys p q = absurd q
Gives-append (Endless a) (Endless b) (Finite c) xs ys p q = absurd q
Gives-append (Endless a) (Endless b) (Endless c) xs ys p q = endless_twice a b c xs ys p q

first_of_endless : (f g : ℕ → ℕ) (bytes : List ℕ) (n : ℕ) → Gives (Endless f) bytes (Endless g)
    → map f (range_with_len 0 (length bytes + n)) ≡ bytes ++ map g (range_with_len 0 n)
first_of_endless f g bytes n p =
    let front : length (map f (range_with_len 0 (length bytes + n))) ≡ length bytes + n = length-map-range_with_len f 0 (length bytes + n) in
    let back : length (map g (range_with_len 0 n)) ≡ n = length-map-range_with_len g 0 n in
    let lengths : length (map f (range_with_len 0 (length bytes + n))) ≡ length (bytes ++ map g (range_with_len 0 n)) =
    omega (arith, front, back, length-append bytes (map g (range_with_len 0 n))) in
    same_number_lists _ _ lengths (λ k fits.
    let within : k < length bytes + n = omega (arith, front) in
    get_or-map-range_with_len f 0 (length bytes + n) k k 0 within (omega arith)
    ∙ elim (cases_lt k (length bytes)) [
      | inl near ↦ sym (get_or-append bytes (map g (range_with_len 0 n)) 0 k near ∙ p.0 k near)
      | inr far ↦
          let whole : length bytes + (k - length bytes) ≡ k = omega arith in
          sym (get_or-append_right bytes (map g (range_with_len 0 n)) k 0 far
          ∙ get_or-map-range_with_len g 0 n (k - length bytes) (k - length bytes) 0 (omega arith) (omega arith)
          ∙ p.1 (k - length bytes) ∙ ap f whole)
    ])

-- what is ahead first is what is given, and then what is ahead after it
pub first_in_parts : (before after : Ahead) (bytes content : List ℕ) (n : ℕ) → Gives before bytes after → first_of (length bytes + n) before ≡ Some content
    → (rest : List ℕ) × (first_of n after ≡ Some rest) × (content ≡ bytes ++ rest)
first_in_parts Unknown after bytes content n p h = cc
first_in_parts (Finite a) Unknown bytes content n p h = absurd p
first_in_parts (Finite a) (Endless b) bytes content n p h = absurd p
first_in_parts (Finite a) (Finite b) bytes content n p h =
    let whole : take (length bytes + n) a ≡ content = cc in
    (take n b, refl, sym whole ∙ ap (take (length bytes + n)) p ∙ take-append-add bytes b n)
first_in_parts (Endless a) Unknown bytes content n p h = absurd p
first_in_parts (Endless a) (Finite b) bytes content n p h = absurd p
first_in_parts (Endless a) (Endless b) bytes content n p h =
    let whole : map a (range_with_len 0 (length bytes + n)) ≡ content = cc in
    (map b (range_with_len 0 n), refl, sym whole ∙ first_of_endless a b bytes n p)

-- a count that has risen isn't 0
pub risen_some : (before after : ℕ) → after ≡ one_more before → 0 < after
unfolding one_more
risen_some before after h = omega (arith, h)

-- and one that is 0 still hasn't risen
pub never_raised : (times : ℕ) → 0 ≡ raised 0 times → times ≡ 0
never_raised zero h = refl
never_raised (suc k) h = absurd (let some = risen_some 0 0 h in omega (arith, some))
