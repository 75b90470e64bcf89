-- A frame after what a vector held before, and its data.
use Rattle.std.proofs.Common.{◌≡◌, ◌⊎◌, ℕ, ◌≤◌, List, ◌++◌, length, take, sym, ◌∙◌, ap, subst, arith, inl, inr, Bor}
use Rattle.std.specs.Prelude.{replicate}
use Rattle.std.proofs.lemmas.List.{take_all, take-append-le}
use Rattle.nor_select.specs.declared.instr.Body.{Body}
use Rattle.nor_select.specs.declared.instr.Body.TheVariants.{Plain, Poll, Read1, Read4}
use Rattle.nor_select.specs.View.{load_in}
use Rattle.nor_frames.specs.Frames.{load_clocks, load_len}

-- a vector that grew begins with what it held
pub held_before : (old filled items front : List ℕ) (start end : ℕ) → items ≡ take end old ++ filled → start ≡ length old → start ≤ end → front ≡ take start items → front ≡ old
held_before old filled items front start end are long grows is =
    let all : take end old ≡ old = take_all end old (omega (arith, long, grows)) in
    let within : start ≤ length old = omega (arith, long) in
    is ∙ ap (take start) (are ∙ ap (λ these. these ++ filled) all) ∙ take-append-le start old filled within ∙ take_all start old (omega (arith, long))

-- all that it holds then is that and the frame
pub framed : (old front text rest frame : List ℕ) (len : ℕ) → front ≡ old → text ≡ frame → len ≡ length (front ++ text) → take len ((front ++ text) ++ rest) ≡ old ++ frame
framed old front text rest frame len before is long =
    let within : len ≤ length (front ++ text) = omega (arith, long) in
    take-append-le len (front ++ text) rest within ∙ take_all len (front ++ text) (omega (arith, long)) ∙ ap (λ these. these ++ text) before ∙ ap (λ these. old ++ these) is

-- the clocks of data that is not sent: none, or as many as are left for it
pub none_left : (body : Body) (left : List ℕ) → body ≡ Plain → length left ≡ load_len (load_in body) → left ≡ load_clocks (load_in body)
none_left body left is long =
    let none = long ∙ ap (λ (b : Body). load_len (load_in b)) is in
    sym (take_all 0 left (omega (arith, none))) ∙ ap (λ (b : Body). load_clocks (load_in b)) (sym is)

pub asked_on_one : (body : Body) (n : ℕ) → (body ≡ Poll) ⊎ ((bytes : Bor (List ℕ)) × body ≡ Read1 bytes) → n ≡ load_len (load_in body)
    → replicate n 0x2E ≡ load_clocks (load_in body)
asked_on_one body n (inl is) = subst (λ (b : Body). n ≡ load_len (load_in b) → replicate n 0x2E ≡ load_clocks (load_in b)) (sym is) (ap (λ k. replicate k 0x2E))
asked_on_one body n (inr is) = subst (λ (b : Body). n ≡ load_len (load_in b) → replicate n 0x2E ≡ load_clocks (load_in b)) (sym is.1) (ap (λ k. replicate k 0x2E))

pub asked_on_four : (body : Body) (n : ℕ) (bytes : Bor (List ℕ)) → body ≡ Read4 bytes → n ≡ load_len (load_in body) → replicate n 0x3D ≡ load_clocks (load_in body)
asked_on_four body n bytes is = subst (λ (b : Body). n ≡ load_len (load_in b) → replicate n 0x3D ≡ load_clocks (load_in b)) (sym is) (ap (λ k. replicate k 0x3D))
