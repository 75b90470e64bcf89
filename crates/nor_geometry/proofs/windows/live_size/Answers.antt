-- No region allows the kind.
use Rattle.std.proofs.Common.{◌≡◌, ℕ, Bool, true, false, ◌&&◌, if◌then◌else◌, refl, rules}
use Rattle.std.specs.Prelude.{is_some}
use Rattle.std.specs.List.{list_any}
use Rattle.nor_base.specs.Parameters.{allows, block_size, erase_kind}
use Rattle.nor_geometry.proofs.windows.live_size.Goals as goal

dead : (some any : Bool) (n : ℕ) → any ≡ false → 0 ≡ (if some && any then n else 0)
dead true any n none = rw none refl
dead false any n none = refl

pub returns-then-not-is_allowed : goal.returns-then-not-is_allowed
returns-then-not-is_allowed c =
    let none : list_any (λ region. allows region c.args.kind) c.args.meaning.now.regions ≡ false = search rules in
    dead (is_some (erase_kind c.args.meaning.now c.args.kind)) (list_any (λ region. allows region c.args.kind) c.args.meaning.now.regions)
    (block_size c.args.meaning.now c.args.kind) none
