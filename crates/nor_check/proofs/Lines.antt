-- The six tests of an effect, on two chips of which the second takes whatever the first takes.
use Rattle.std.proofs.Common.{◌≡◌, ℕ, ◌≤◌, Bool, true, false, if◌then◌else◌, Result, Ok, Err, refl, arith, subst}
use Rattle.nor_base.specs.declared.wrong.Wrong.{Wrong}
use Rattle.nor_base.specs.declared.wrong.Wrong.TheVariants as wrong
use Rattle.nor_check.specs.Order.{rank_of}

-- it isn't a wrong of a lower rank
abbrev pub NotBelow : {A : Type 0} → ℕ → Result A Wrong → Type 0
NotBelow n (Ok x) = Unit {0}
NotBelow n (Err v) = n ≤ rank_of v

line_takes : {A B : Type 0} (b c : Bool) (v : Wrong) (rest : Result A Wrong) (other : Result B Wrong) (x : A) (y : B) → (c ≡ true → b ≡ true)
    → (rest ≡ Ok x → other ≡ Ok y) → (if b then Err v else rest) ≡ Ok x → (if c then Err v else other) ≡ Ok y
line_takes true c v rest other x y only more h = cc
line_takes false true v rest other x y only more h = let no : false ≡ true = only refl in cc
line_takes false false v rest other x y only more h = more h

line_same : {A B : Type 0} (b : Bool) (v cause : Wrong) (rest : Result A Wrong) (other : Result B Wrong) → (rest ≡ Err cause → other ≡ Err cause)
    → (if b then Err v else rest) ≡ Err cause → (if b then Err v else other) ≡ Err cause
line_same true v cause rest other more h = let same : v ≡ cause = cc in cc
line_same false v cause rest other more h = more h

line_below : {A : Type 0} (c : Bool) (n : ℕ) (v : Wrong) (other : Result A Wrong) → n ≤ rank_of v → NotBelow n other → NotBelow n (if c then Err v else other)
line_below true n v other low more = low
line_below false n v other low more = more

line_refuses : {A B : Type 0} (b c : Bool) (v cause : Wrong) (rest : Result A Wrong) (other : Result B Wrong) → (c ≡ true → b ≡ true)
    → NotBelow (rank_of v) other → (rest ≡ Err cause → NotBelow (rank_of cause) other) → (if b then Err v else rest) ≡ Err cause
    → NotBelow (rank_of cause) (if c then Err v else other)
line_refuses true true v cause rest other only low more h = let same : v ≡ cause = cc in subst (λ (w : Wrong). rank_of w ≤ rank_of v) same (omega arith)
line_refuses true false v cause rest other only low more h = let same : v ≡ cause = cc in subst (λ (w : Wrong). NotBelow (rank_of w) other) same low
line_refuses false true v cause rest other only low more h = let no : false ≡ true = only refl in cc
line_refuses false false v cause rest other only low more h = more h

line_rank : {A : Type 0} (b : Bool) (v cause : Wrong) (rest : Result A Wrong) → rank_of v ≤ 4 → (rest ≡ Err cause → rank_of cause ≤ 4)
    → (if b then Err v else rest) ≡ Err cause → rank_of cause ≤ 4
line_rank true v cause rest low more h = let same : v ≡ cause = cc in subst (λ (w : Wrong). rank_of w ≤ 4) same low
line_rank false v cause rest low more h = more h

abbrev pub chain : {A : Type 0} → (b1 b2 b3 b4 b5 b6 : Bool) → Wrong → A → Result A Wrong
chain b1 b2 b3 b4 b5 b6 e a =
    if b1 then Err wrong.Ignored
    else if b2 then Err wrong.Ignored
    else if b3 then Err wrong.Ignored
    else if b4 then Err wrong.Ignored
    else if b5 then Err wrong.OutOfRange
    else if b6 then Err e
    else Ok a

pub chain_takes : {A : Type 0} (b1 b2 b3 b4 b5 b6 c2 c4 : Bool) (e : Wrong) (a b r : A) → (c2 ≡ true → b2 ≡ true) → (c4 ≡ true → b4 ≡ true)
    → chain b1 b2 b3 b4 b5 b6 e a ≡ Ok r → chain b1 c2 b3 c4 b5 b6 e b ≡ Ok b
chain_takes b1 b2 b3 b4 b5 b6 c2 c4 e a b r only too =
    line_takes b1 b1 wrong.Ignored _ _ r b (λ is. is)
    (line_takes b2 c2 wrong.Ignored _ _ r b only
    (line_takes b3 b3 wrong.Ignored _ _ r b (λ is. is)
    (line_takes b4 c4 wrong.Ignored _ _ r b too
    (line_takes b5 b5 wrong.OutOfRange _ _ r b (λ is. is)
    (line_takes b6 b6 e _ _ r b (λ is. is) (λ h. refl))))))

pub chain_same : {A : Type 0} (b1 b2 b3 b4 b5 b6 : Bool) (e cause : Wrong) (a b : A) → chain b1 b2 b3 b4 b5 b6 e a ≡ Err cause → chain b1 b2 b3 b4 b5 b6 e b ≡ Err cause
chain_same b1 b2 b3 b4 b5 b6 e cause a b =
    line_same b1 wrong.Ignored cause _ _
    (line_same b2 wrong.Ignored cause _ _
    (line_same b3 wrong.Ignored cause _ _
    (line_same b4 wrong.Ignored cause _ _
    (line_same b5 wrong.OutOfRange cause _ _
    (line_same b6 e cause _ _ (λ h. cc))))))

pub chain_rank : {A : Type 0} (b1 b2 b3 b4 b5 b6 : Bool) (e cause : Wrong) (a : A) → rank_of e ≤ 4 → chain b1 b2 b3 b4 b5 b6 e a ≡ Err cause → rank_of cause ≤ 4
chain_rank b1 b2 b3 b4 b5 b6 e cause a low =
    line_rank b1 wrong.Ignored cause _ (omega arith)
    (line_rank b2 wrong.Ignored cause _ (omega arith)
    (line_rank b3 wrong.Ignored cause _ (omega arith)
    (line_rank b4 wrong.Ignored cause _ (omega arith)
    (line_rank b5 wrong.OutOfRange cause _ (omega arith)
    (line_rank b6 e cause _ low (λ h. cc))))))

pub chain_refuses : {A : Type 0} (b1 b2 b3 b4 b5 b6 c2 c4 : Bool) (e cause : Wrong) (a b : A) → 3 ≤ rank_of e → (c2 ≡ true → b2 ≡ true) → (c4 ≡ true → b4 ≡ true)
    → chain b1 b2 b3 b4 b5 b6 e a ≡ Err cause → NotBelow (rank_of cause) (chain b1 c2 b3 c4 b5 b6 e b)
chain_refuses {A} b1 b2 b3 b4 b5 b6 c2 c4 e cause a b high only too =
    let last : (n : ℕ) → n ≤ rank_of e → NotBelow {A = A} n (if b6 then Err e else Ok b) = λ n low. line_below b6 n e (Ok b) low tt in
    let fifth = line_below b5 1 wrong.OutOfRange (if b6 then Err e else Ok b) (omega arith) (last 1 (omega arith)) in
    let fourth = line_below c4 1 wrong.Ignored (if b5 then Err wrong.OutOfRange else if b6 then Err e else Ok b) (omega arith) fifth in
    let third = line_below b3 1 wrong.Ignored (if c4 then Err wrong.Ignored else if b5 then Err wrong.OutOfRange else if b6 then Err e else Ok b) (omega arith) fourth in
    let second =
    line_below c2 1 wrong.Ignored (if b3 then Err wrong.Ignored else if c4 then Err wrong.Ignored else if b5 then Err wrong.OutOfRange else if b6 then Err e else Ok b)
    (omega arith) third in
    line_refuses b1 b1 wrong.Ignored cause _ _ (λ is. is) second
    (line_refuses b2 c2 wrong.Ignored cause _ _ only third
    (line_refuses b3 b3 wrong.Ignored cause _ _ (λ is. is) fourth
    (line_refuses b4 c4 wrong.Ignored cause _ _ too fifth
    (line_refuses b5 b5 wrong.OutOfRange cause _ _ (λ is. is) (last 2 (omega arith))
    (line_refuses b6 b6 e cause (Ok a) (Ok b) (λ is. is) tt (λ h. cc))))))
