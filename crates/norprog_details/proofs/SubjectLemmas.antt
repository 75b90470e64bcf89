-- A search through lists that are joined.
use Rattle.std.proofs.Common.{◌≡◌, ℕ, zero, suc, ◌<◌, Bool, true, false, List, [], ◌∷◌, ◌++◌, length, get_or, take, Option, None, Some, refl, sym, ◌∙◌, ap, arith}
use Rattle.std.specs.Prelude.{flat_map, map, cond}
use Rattle.std.specs.List.{find}
use Rattle.std.specs.Option.{option_or}
use Rattle.std.proofs.lemmas.List.Folds.{find-append}
use Rattle.std.proofs.lemmas.Grind.{flat_map-append}

first_none : {X : Type 0} (a b : Option X) → option_or a b ≡ None → a ≡ None
first_none None b none = refl
first_none (Some x) b none = cc

second_none : {X : Type 0} (a b : Option X) → option_or a b ≡ None → b ≡ None
second_none None b none = none
second_none (Some x) b none = cc

-- the first lists have none; then what is found is what the next one has
pub found_at : {X L : Type 0} (p : X → Bool) (f : L → List X) (lists : List L) (i : ℕ) (d : L) (x : X) → i < length lists
    → find p (flat_map f (take i lists)) ≡ None → find p (f (get_or lists i d)) ≡ Some x → find p (flat_map f lists) ≡ Some x
found_at p f [] i d x fits none some = absurd (omega arith)
found_at p f (l ∷ ls) zero d x fits none some = find-append p (f l) (flat_map f ls) ∙ ap (λ o. option_or o (find p (flat_map f ls))) some
found_at p f (l ∷ ls) (suc i) d x fits none some =
    let both : option_or (find p (f l)) (find p (flat_map f (take i ls))) ≡ None = sym (find-append p (f l) (flat_map f (take i ls))) ∙ none in
    find-append p (f l) (flat_map f ls)
    ∙ ap (λ o. option_or o (find p (flat_map f ls))) (first_none (find p (f l)) (find p (flat_map f (take i ls))) both)
    ∙ found_at p f ls i d x (omega arith) (second_none (find p (f l)) (find p (flat_map f (take i ls))) both) some

-- nor has the next one any
pub none_more : {X L : Type 0} (p : X → Bool) (f : L → List X) (lists : List L) (i : ℕ) (d : L) → i < length lists
    → find p (flat_map f (take i lists)) ≡ None → find p (f (get_or lists i d)) ≡ None → find p (flat_map f (take (suc i) lists)) ≡ None
none_more p f [] i d fits none here = absurd (omega arith)
none_more p f (l ∷ ls) zero d fits none here = find-append p (f l) [] ∙ ap (λ o. option_or o None) here
none_more p f (l ∷ ls) (suc i) d fits none here =
    let both : option_or (find p (f l)) (find p (flat_map f (take i ls))) ≡ None = sym (find-append p (f l) (flat_map f (take i ls))) ∙ none in
    find-append p (f l) (flat_map f (take (suc i) ls))
    ∙ ap (λ o. option_or o (find p (flat_map f (take (suc i) ls)))) (first_none (find p (f l)) (find p (flat_map f (take i ls))) both)
    ∙ none_more p f ls i d (omega arith) (second_none (find p (f l)) (find p (flat_map f (take i ls))) both) here

cond_none : {X : Type 0} (b : Bool) (x : X) (o : Option X) → cond b (Some x) o ≡ None → (b ≡ false) × (o ≡ None)
cond_none true x o none = cc
cond_none false x o none = (refl, none)

-- the first ones aren't it; then it is the next one, as it is seen
pub found_one : {X L : Type 0} (p : X → Bool) (g : L → X) (items : List L) (i : ℕ) (d : L) → i < length items
    → find p (map g (take i items)) ≡ None → p (g (get_or items i d)) ≡ true → find p (map g items) ≡ Some (g (get_or items i d))
found_one p g [] i d fits none here = absurd (omega arith)
found_one p g (l ∷ ls) zero d fits none here = ap (λ (b : Bool). cond b (Some (g l)) (find p (map g ls))) here
found_one p g (l ∷ ls) (suc i) d fits none here =
    let both = cond_none (p (g l)) (g l) (find p (map g (take i ls))) none in
    ap (λ (b : Bool). cond b (Some (g l)) (find p (map g ls))) both.0 ∙ found_one p g ls i d (omega arith) both.1 here

-- nor is the next one
pub none_yet : {X L : Type 0} (p : X → Bool) (g : L → X) (items : List L) (i : ℕ) (d : L) → i < length items
    → find p (map g (take i items)) ≡ None → p (g (get_or items i d)) ≡ false → find p (map g (take (suc i) items)) ≡ None
none_yet p g [] i d fits none here = absurd (omega arith)
none_yet p g (l ∷ ls) zero d fits none here = ap (λ (b : Bool). cond b (Some (g l)) None) here
none_yet p g (l ∷ ls) (suc i) d fits none here =
    let both = cond_none (p (g l)) (g l) (find p (map g (take i ls))) none in
    ap (λ (b : Bool). cond b (Some (g l)) (find p (map g (take (suc i) ls)))) both.0 ∙ none_yet p g ls i d (omega arith) both.1 here

-- texts of what is seen of some things, and of joined lists
pub flat_seen : {X L : Type 0} (f : X → List ℕ) (g : L → X) (items : List L) → flat_map f (map g items) ≡ flat_map (λ l. f (g l)) items
flat_seen f g [] = refl
flat_seen f g (l ∷ ls) = ap (λ rest. f (g l) ++ rest) (flat_seen f g ls)

pub flat_joined : {X L : Type 0} (f : X → List ℕ) (g : L → List X) (lists : List L) → flat_map f (flat_map g lists) ≡ flat_map (λ l. flat_map f (g l)) lists
flat_joined f g [] = refl
flat_joined f g (l ∷ ls) = flat_map-append f (g l) (flat_map g ls) ∙ ap (λ rest. flat_map f (g l) ++ rest) (flat_joined f g ls)

pub eight : {X : Type 0} {a b c d e f g h a' b' c' d' e' f' g' h' : List X} → a ≡ a' → b ≡ b' → c ≡ c' → d ≡ d' → e ≡ e' → f ≡ f' → g ≡ g' → h ≡ h'
    → a ++ (b ++ (c ++ (d ++ (e ++ (f ++ (g ++ (h ++ []))))))) ≡ a' ++ (b' ++ (c' ++ (d' ++ (e' ++ (f' ++ (g' ++ (h' ++ [])))))))
eight p q r s t u v w = cc
