-- A part of a target, run by run.
use Rattle.std.proofs.Common.{◌≡◌, ◌⊎◌, inl, inr, ℕ, ◌+◌, ◌<◌, ◌≤◌, leb, Bool, true, false, List, length, get_or, Option, refl, sym, ◌∙◌, ap, arith}
use Rattle.std.proofs.lemmas.Bool.Decides.{leb_tells}
use Rattle.nor_base.specs.Target.{target_byte}
use Rattle.nor_target.specs.Runs.{HasNoChosen, IsNextChosen, IsLaid, overlay}

-- the bytes below `done` are what f gives, and the others those that were there
pub record IsFilled (f : ℕ → ℕ → ℕ) (at : ℕ) (have want : List ℕ) (done : ℕ) : Type 0 where
  pub within : done ≤ length have
  pub same_length : length want ≡ length have
  pub before : (k : ℕ) → k < done → get_or want k 0 ≡ f (at + k) (get_or have k 0)
  pub after : (k : ℕ) → done ≤ k → get_or want k 0 ≡ get_or have k 0

pub target_chosen : (image : ℕ → Option ℕ) (base : ℕ) (is_chosen : ℕ → Bool) (address old : ℕ) → is_chosen address ≡ true → target_byte image base is_chosen address old ≡ target_byte image base (λ _. true) address old
target_chosen image base is_chosen address old e = rw (e) refl

pub target_unchosen : (image : ℕ → Option ℕ) (base : ℕ) (is_chosen : ℕ → Bool) (address old : ℕ) → is_chosen address ≡ false → target_byte image base is_chosen address old ≡ old
target_unchosen image base is_chosen address old e = rw (e) refl

pub filled_more : (image : ℕ → Option ℕ) (base at : ℕ) (is_chosen : ℕ → Bool) (have want new : List ℕ) (done begin end : ℕ) → IsFilled (target_byte image base is_chosen) at have want done → IsNextChosen is_chosen at done (length have) (begin, end) → length new ≡ length want → IsLaid (overlay image base at) want new begin end → IsFilled (target_byte image base is_chosen) at have new end
filled_more image base at is_chosen have want new done begin end so_far next lengths laid = record {
  within = next.within;
  same_length = lengths ∙ so_far.same_length;
  before = λ k h. before k h (leb_tells done k) (leb_tells begin k);
  after = λ k h. laid.outside k (inr h) ∙ so_far.after k (let past = next.past in let some = next.some in omega arith);
}
  where
    before : (k : ℕ) → k < end → ((leb done k ≡ true) × (done ≤ k)) ⊎ ((leb done k ≡ false) × (k < done)) → ((leb begin k ≡ true) × (begin ≤ k)) ⊎ ((leb begin k ≡ false) × (k < begin)) → get_or new k 0 ≡ target_byte image base is_chosen (at + k) (get_or have k 0)
    before k h (inr p) other = let past = next.past in let lt = p.1 in laid.outside k (inl (omega arith)) ∙ so_far.before k p.1
    before k h (inl p) (inr q) =
        laid.outside k (inl q.1) ∙ so_far.after k p.1 ∙ sym (target_unchosen image base is_chosen (at + k) (get_or have k 0) (next.none_before k p.1 q.1))
    before k h (inl p) (inl q) =
        laid.inside k q.1 h
        ∙ ap (λ (old : ℕ). target_byte image base (λ _. true) (at + k) old) (so_far.after k p.1)
        ∙ sym (target_chosen image base is_chosen (at + k) (get_or have k 0) (next.each k q.1 h))

pub filled_all : (image : ℕ → Option ℕ) (base at : ℕ) (is_chosen : ℕ → Bool) (have want : List ℕ) (done : ℕ) → IsFilled (target_byte image base is_chosen) at have want done → HasNoChosen is_chosen at done (length have) → (k : ℕ) → k < length have → get_or want k 0 ≡ target_byte image base is_chosen (at + k) (get_or have k 0)
filled_all image base at is_chosen have want done so_far none k h = by (leb_tells done k)
  where
    by : ((leb done k ≡ true) × (done ≤ k)) ⊎ ((leb done k ≡ false) × (k < done)) → get_or want k 0 ≡ target_byte image base is_chosen (at + k) (get_or have k 0)
    by (inr p) = so_far.before k p.1
    by (inl p) = so_far.after k p.1 ∙ sym (target_unchosen image base is_chosen (at + k) (get_or have k 0) (none k p.1 h))
