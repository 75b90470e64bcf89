-- One of all chips, and what it is after an instruction.
use Rattle.std.proofs.Common.{◌≡◌, ℕ, zero, suc, ◌≤◌, Bool, true, false, not, ◌&&◌, List, [], ◌∷◌, drop, refl, sym, ◌∙◌, ap, arith, inl, inr, if◌then◌else◌}
use Rattle.std.specs.Prelude.{pred, ◌⊎◌}
use Rattle.std.specs.List.{slice_index}
use Rattle.std.proofs.Math.Bool.{and_self}
use Rattle.nor_base.specs.declared.instruction.What.{What}
use Rattle.nor_base.specs.declared.instruction.What.TheVariants as what
use Rattle.nor_base.specs.declared.wrong.Wrong.TheVariants as wrong
use Rattle.nor_base.specs.Parameters.{Parameters}
use Rattle.nor_base.specs.Decoding.{Instruction}
use Rattle.nor_base.specs.Chip.{is_busy}
use Rattle.nor_base.specs.Effect.{after, answer, is_status, barred}
use Rattle.nor_check.specs.declared.chips.Latches.{Latches}
use Rattle.nor_check.specs.declared.chips.Latches.TheVariants.{Clear, Set, Either}
use Rattle.nor_check.specs.Order.{rank_of}
use Rattle.nor_check.specs.Chips.{Kind, Chips, one_like, latch_of, MayBeLeft, one_of, some_left, least_able, busy_after, switched, all_after}

-- whoever is busy, the least able is
pub busy_only : (b busy : Bool) (left : ℕ) → MayBeLeft busy left → b && is_busy left ≡ true → b && is_busy (some_left busy) ≡ true
busy_only false busy left may h = cc
busy_only true true left may h = refl
busy_only true false left may h = let none : is_busy left ≡ false = ap is_busy may in cc

-- whoever lacks the latch, the least able does
pub latch_only : (b : Bool) (latches : Latches) (keeps : Bool) → b && not (latch_of latches keeps) ≡ true → b && not (latch_of latches false) ≡ true
latch_only b Clear keeps h = h
latch_only b Set keeps h = h
latch_only false Either keeps h = cc
latch_only true Either keeps h = refl

pub left_for_some : (busy : Bool) → MayBeLeft busy (some_left busy)
left_for_some true = tt
left_for_some false = refl

-- what is left, and what is to come, after an instruction
abbrev pub next_left : What → ℕ → List ℕ → ℕ
next_left what.Status left to_come = pred left
next_left (what.Erase kind) left to_come = slice_index to_come 0
next_left what.Program left to_come = slice_index to_come 0
next_left what.QuadProgram left to_come = slice_index to_come 0
next_left other left to_come = left

abbrev pub next_come : What → List ℕ → List ℕ
next_come (what.Erase kind) to_come = drop 1 to_come
next_come what.Program to_come = drop 1 to_come
next_come what.QuadProgram to_come = drop 1 to_come
next_come other to_come = to_come

pub may_next : (busy : Bool) (is : What) (left : ℕ) (to_come : List ℕ) → MayBeLeft busy left → MayBeLeft (busy_after busy is) (next_left is left to_come)
may_next busy (what.Erase kind) left to_come may = tt
may_next busy what.Program left to_come may = tt
may_next busy what.QuadProgram left to_come may = tt
may_next true what.Status left to_come may = tt
may_next false what.Status left to_come may = ap pred may
may_next busy other left to_come may = may

-- a program or an erase begins the next of the busy times; else at most one status read is done
pub how_next : (busy : Bool) (is : What) (left : ℕ) (to_come : List ℕ)
    → ((next_left is left to_come ≡ slice_index to_come 0) × (next_come is to_come ≡ drop 1 to_come))
    ⊎ ((next_come is to_come ≡ to_come) × (busy_after busy is ≡ true → (busy ≡ true) × (left ≤ suc (next_left is left to_come))))
how_next busy (what.Erase kind) left to_come = inl (refl, refl)
how_next busy what.Program left to_come = inl (refl, refl)
how_next busy what.QuadProgram left to_come = inl (refl, refl)
how_next busy what.Status zero to_come = inr (refl, λ still. (still, omega arith))
how_next busy what.Status (suc left) to_come = inr (refl, λ still. (still, omega arith))
how_next busy other left to_come = inr (refl, λ still. (still, omega arith))

-- one that is busy just where the least able is may be left so
pub may_where : (busy : Bool) (left : ℕ) → is_busy left ≡ is_busy (some_left busy) → MayBeLeft busy left
may_where true left same = tt
may_where false zero same = refl
may_where false (suc left) same = cc

-- and before one, so that they are these after it
abbrev one_more : Bool → ℕ → ℕ
one_more true left = suc left
one_more false left = left

abbrev pub prev_left : Bool → What → ℕ → ℕ
prev_left busy what.Status left = one_more busy left
prev_left busy (what.Erase kind) left = 0
prev_left busy what.Program left = 0
prev_left busy what.QuadProgram left = 0
prev_left busy other left = left

abbrev pub prev_come : What → ℕ → List ℕ → List ℕ
prev_come (what.Erase kind) left to_come = left ∷ to_come
prev_come what.Program left to_come = left ∷ to_come
prev_come what.QuadProgram left to_come = left ∷ to_come
prev_come other left to_come = to_come

none_left : (busy : Bool) → MayBeLeft busy 0
none_left true = tt
none_left false = refl

pub may_prev : (busy : Bool) (is : What) (left : ℕ) → MayBeLeft (busy_after busy is) left → MayBeLeft busy (prev_left busy is left)
may_prev busy (what.Erase kind) left may = none_left busy
may_prev busy what.Program left may = none_left busy
may_prev busy what.QuadProgram left may = none_left busy
may_prev true what.Status left may = tt
may_prev false what.Status left may = may
may_prev busy other left may = may

pub left_again : (busy : Bool) (is : What) (left : ℕ) (to_come : List ℕ) → MayBeLeft (busy_after busy is) left
    → next_left is (prev_left busy is left) (prev_come is left to_come) ≡ left
left_again true what.Status left to_come may = refl
left_again false what.Status left to_come may = ap pred may ∙ sym may
left_again busy other left to_come may = refl

pub come_again : (is : What) (left : ℕ) (to_come : List ℕ) → next_come is (prev_come is left to_come) ≡ to_come
come_again (what.Erase kind) left to_come = refl
come_again what.Program left to_come = refl
come_again what.QuadProgram left to_come = refl
come_again other left to_come = refl

-- a latch that stays just where it is kept
switched_latch : (latches : Latches) (keeps : Bool) → latch_of latches keeps && keeps ≡ latch_of (switched latches) keeps
switched_latch Clear keeps = refl
switched_latch Set keeps = refl
switched_latch Either keeps = and_self keeps

-- one of all chips is after an instruction one of all chips after it
pub after_is : (k : Kind) (w : Chips) (i : Instruction) (busy : List ℕ) (keeps : Bool) (left : ℕ) (to_come : List ℕ) (is : What)
    → after (one_like k busy keeps) (one_of w keeps left to_come) i is
    ≡ one_of (all_after w is (after (one_like k [] false) (least_able w) i is)) keeps (next_left is left to_come) (next_come is to_come)
unfolding after
after_is k w i busy keeps left to_come what.Enable = refl
after_is k w i busy keeps left to_come what.Disable = refl
after_is k w i busy keeps left to_come what.Status = refl
after_is k w i busy keeps left to_come what.Enter =
    ap (λ latch. record { array = w.array; latch = latch; mode4 = true; left = left; to_come = to_come }) (switched_latch w.latches keeps)
after_is k w i busy keeps left to_come what.Leave =
    ap (λ latch. record { array = w.array; latch = latch; mode4 = false; left = left; to_come = to_come }) (switched_latch w.latches keeps)
after_is k w i busy keeps left to_come (what.Erase kind) = refl
after_is k w i busy keeps left to_come what.Program = refl
after_is k w i busy keeps left to_come what.QuadProgram = refl
after_is k w i busy keeps left to_come what.Read = refl
after_is k w i busy keeps left to_come what.QuadRead = refl
after_is k w i busy keeps left to_come what.Broken = refl

-- but for a status read all give the same bytes
pub same_answer : (w : Chips) (i : Instruction) (keeps : Bool) (left : ℕ) (to_come : List ℕ) (is : What) → is_status is ≡ false
    → answer (one_of w keeps left to_come) i is ≡ answer (least_able w) i is
unfolding answer
same_answer w i keeps left to_come what.Status quiet = cc
same_answer w i keeps left to_come other quiet = refl

ranks : (b : Bool) → (3 ≤ rank_of (if b then wrong.NotErased else wrong.Raised)) × (rank_of (if b then wrong.NotErased else wrong.Raised) ≤ 4)
ranks true = (omega arith, omega arith)
ranks false = (omega arith, omega arith)

pub barred_rank : (m : Parameters) → (3 ≤ rank_of (barred m)) × (rank_of (barred m) ≤ 4)
barred_rank m = ranks m.erased_only
