-- One change more, of those that are left.
use Rattle.std.proofs.Common.{◌≡◌, ◌↔◌, ℕ, ◌+◌, ◌<◌, true, false, List, length, drop, get_or, set, inl, inr, refl, sym, ap, ◌∙◌, arith}
use Rattle.std.proofs.lemmas.Bool.{cases_lt, iff_false}
use Rattle.std.proofs.lemmas.List.{drop_more, set_past}
use Rattle.test_samples.specs.Patches.{patched}

pub one_more : (held next : List ℕ) (patches : List (ℕ × ℕ)) (at : ℕ) (none : ℕ × ℕ) → at < length patches
    → next ≡ set held (get_or patches at none).0 (get_or patches at none).1 → patched next (drop (at + 1) patches) ≡ patched held (drop at patches)
one_more held next patches at none within is =
    ap (λ now. patched now (drop (at + 1) patches)) is ∙ sym (ap (patched held) (drop_more patches at none within))

-- a change past the bytes
pub past : (held : List ℕ) (count at byte : ℕ) → count ≡ length held → ((false ≡ true) ↔ (at < count)) → held ≡ set held at byte
past held count at byte is there =
    elim (cases_lt at count) [ inl within ↦ absurd (iff_false there refl within) | inr beyond ↦ sym (set_past held at byte (omega (arith, is, beyond))) ]
