-- What came is all that was ahead: more would have come too, up to one byte more than is allowed.
use Rattle.std.proofs.Common.{◌≡◌, ◌≤◌, ◌∙◌, ◌+◌, ◌^◌, ℕ, suc, zero, rules, List, [], ◌∷◌, ◌++◌, length, take, Option, Some, None, option_map, IfSome, refl, ap, subst, arith}
use Rattle.std.specs.Io.Take.{take_limit}
use Rattle.norprog_files.specs.Files.{Unusable}
use Rattle.norprog_files.proofs.guards.read_opened.Goals as goal

-- a front that is shorter than it may be is the whole
short : (n : ℕ) (xs : List ℕ) → length (take (suc n) xs) ≤ n → take (suc n) xs ≡ xs
short n [] few = refl
short zero (x ∷ xs) few = absurd (omega (arith, few))
short (suc n) (x ∷ xs) few = ap (λ (ys : List ℕ). x ∷ ys) (short n xs (omega (arith, few)))

whole : (most limit : ℕ) (ahead : Option (List ℕ)) (got : List ℕ) → limit ≡ most + 1 → IfSome (option_map (take limit) ahead) (λ xs. got ≡ xs)
    → length got ≤ most → IfSome ahead (λ xs. got ≡ xs)
whole most limit None got one is few = tt
whole most limit (Some xs) got one is few =
    let same : limit ≡ suc most = omega (arith, one) in
    let cut : got ≡ take (suc most) xs = subst (λ (k : ℕ). got ≡ take k xs) same is in
    cut ∙ short most xs (subst (λ (ys : List ℕ). length ys ≤ most) cut few)

pub returns-clause-whole : goal.returns-clause-whole
returns-clause-whole g c =
    let limit = take_limit c.take.result in
    let got = c.read_to_end.new.buf.items in
    whole (2 ^ 36) limit (g.F.Read.remaining c.args.file) got c.take.ensures.limit
    (subst (λ (old : List ℕ). IfSome (option_map (take limit) (g.F.Read.remaining c.args.file)) (λ xs. got ≡ old ++ xs)) c.new-bytes.ensures.items
    (subst (λ inner. IfSome (option_map (take limit) (g.F.Read.remaining inner.now)) (λ xs. got ≡ c.new-bytes.result.items ++ xs)) c.take.ensures.inner
    c.in-Ok.ensures.bytes))
    (search rules)

pub returns-then-len-gt-MOST_BYTES-clause-refused : goal.returns-then-len-gt-MOST_BYTES-clause-refused
returns-then-len-gt-MOST_BYTES-clause-refused g c = Unusable
