-- The bytes of a part of a content.
use Rattle.std.proofs.Common.{◌≡◌, ◌≤◌, ◌-◌, ◌+◌, ◌∙◌, ℕ, zero, suc, Bool, true, false, List, [], ◌∷◌, ◌++◌, length, take, drop, refl, sym, ap, arith, length-drop, length-take}
use Rattle.std.specs.List.{slice_range}
use Rattle.std.proofs.Math.Seq.{take-append_seam}
use Rattle.std.proofs.lemmas.List.{take_all}
use Rattle.nor_base.specs.Parameters.{Parameters}
use Rattle.nor_base.specs.Wire.{Wire}
use Rattle.nor_loop.specs.Reads.{chunk}
use Rattle.norprog_read.specs.declared.asked.Ask.{Ask}
use Rattle.norprog_read.specs.declared.asked.Span.{Span}
use Rattle.norprog_read.specs.Chip.{GivesContent}
use Rattle.norprog_read.specs.Span.{came, part_in, span, All, Around, IsPart, Nothing}
use Rattle.norprog_read.specs.Way.{Way}

-- bytes that end where the part does are all that counts
drop_front : (low : ℕ) (xs ys : List ℕ) → low ≤ length xs → drop low (xs ++ ys) ≡ drop low xs ++ ys
drop_front zero xs ys within = refl
drop_front (suc n) [] ys within = absurd (omega arith)
drop_front (suc n) (x ∷ xs) ys within = drop_front n xs ys (omega arith)

pub came_as : (part : Span) (xs ys : List ℕ) → part.low ≤ part.high → length xs ≡ part.high → came part (xs ++ ys) ≡ chunk part.low (drop part.low xs)
came_as part xs ys order long =
    let count : part.high - part.low ≡ length (drop part.low xs) = omega (arith, length-drop part.low xs) in
    ap (chunk part.low)
    (ap (take (part.high - part.low)) (drop_front part.low xs ys (omega arith)) ∙ ap (λ n. take n (drop part.low xs ++ ys)) count
    ∙ take-append_seam (drop part.low xs) ys)

-- all of a content is a part of it
pub all_of : (content : List ℕ) (size : ℕ) → length content ≡ size → slice_range content 0 size ≡ content
all_of content size long = let all : size - 0 ≡ size = omega arith in ap (λ n. take n content) all ∙ take_all size content (omega (arith, long))

pub came_all : (part : Span) (content : List ℕ) → part ≡ span 0 (length content) → came part content ≡ chunk 0 content
came_all part content is =
    ap (λ (p : Span). came p content) is ∙ ap (chunk 0) (all_of content (length content) refl)

-- the bytes of a part lie in the content
pub part_within : (part : Span) (content : List ℕ) (size : ℕ) → length content ≡ size → part.low ≤ part.high → part.high ≤ size
    → part.low + length (part_in part content) ≤ size
part_within part content size long order upto =
    omega (arith, length-take (part.high - part.low) (drop part.low content), length-drop part.low content)

-- where nothing is wanted the part is empty
nothing_read : (ask : Ask) (m : Parameters) (part : Span) → ask.content ≡ false → IsPart ask m part → part.high ≡ 0
nothing_read ask m part none (Nothing is) = refl
nothing_read ask m part none (All some near) = let e : ◌≡◌ {A = Bool} true false = sym some ∙ none in absurd cc
nothing_read ask m part none (Around near window some is wide) = let e : ◌≡◌ {A = Bool} true false = sym some ∙ none in absurd cc

-- what was read reaches as far as the part
pub reaches : (ask : Ask) (w : Way) (u v : Wire) (part : Span) (content : List ℕ) → IsPart ask w.m part → part.high ≤ w.m.size
    → GivesContent w u v ask.content content → part.high ≤ length content
reaches ask w u v part content asked within gives = by ask.content refl gives
  where
    by : (wanted : Bool) → ask.content ≡ wanted → GivesContent w u v wanted content → part.high ≤ length content
    by true wants given = let whole = given.whole in omega (arith, whole, within)
    by false wants given = let none = nothing_read ask w.m part wants asked in omega (arith, none)
