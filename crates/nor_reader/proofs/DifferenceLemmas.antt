-- Two byte strings, place by place.
use Rattle.std.proofs.Common.{◌≡◌, ℕ, ◌≤◌, List, length, take, sym, ◌∙◌, arith}
use Rattle.std.proofs.lemmas.List.{take_all}

-- alike at each
pub alike_all : (got want : List ℕ) (i : ℕ) → length got ≡ length want → length got ≤ i → take i got ≡ take i want → got ≡ want
alike_all got want i long past same = sym (take_all i got past) ∙ same ∙ take_all i want (omega arith)
