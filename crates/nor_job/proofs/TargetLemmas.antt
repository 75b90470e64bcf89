-- The target of parts of a content.
use Rattle.std.proofs.Common.{◌≡◌, ℕ, ◌+◌, List, [], ◌∷◌, length, refl, ◌∙◌, ap, arith, ◌^◌, Bool, ◌&&◌, if◌then◌else◌, nat_lt, map, Option}
use Rattle.std.specs.List.{enumerate_from}
use Rattle.std.proofs.lemmas.List.{length-map}
use Rattle.std.proofs.lemmas.List.FromFn.{length-enumerate_from}
use Rattle.nor_base.specs.Device.{Ahead, Unknown, Finite, Endless, Gives}
use Rattle.nor_hex.specs.Image.{byte_at}
use Rattle.nor_job.specs.declared.job.Job.{Job}
use Rattle.nor_job.specs.Filled.{target_from}
use Rattle.std.specs.Prelude.{unwrap_or}
use Rattle.nor_base.specs.Target.{target, target_byte}
use Rattle.nor_job.specs.Job.{IsJob}
use Rattle.nor_job.specs.Task.{Task}
use Rattle.nor_layout.specs.Chosen.{has, is_chosen}
use Rattle.nor_job.specs.Wanted.{wanted}

pub gives_none : (before : Ahead) → Gives before [] before
gives_none Unknown = tt
gives_none (Finite bytes) = refl
gives_none (Endless byte_at) = ((λ k inside. absurd (omega (arith, inside))), (λ k. ap byte_at (omega arith)))

pub length-target : (job : Job) (at : ℕ) (part : List ℕ) → length (target_from job at part) ≡ length part
length-target job at part = length-map (enumerate_from at part) _ ∙ length-enumerate_from at part

pub map_same : {X Y : Type 0} (f g : X → Y) (xs : List X) → ((x : X) → f x ≡ g x) → map f xs ≡ map g xs
map_same f g [] same = refl
map_same f g (x ∷ xs) same = ap (λ y. y ∷ map f xs) (same x) ∙ ap (λ ys. g x ∷ ys) (map_same f g xs same)

pub byte_same : (image : ℕ → Option ℕ) (base : ℕ) (c d : ℕ → Bool) → ((a : ℕ) → c a ≡ d a) → (a old : ℕ) → target_byte image base c a old ≡ target_byte image base d a old
byte_same image base c d same a old =
    ap (λ b. if b && nat_lt (base + a) (2 ^ 32) then unwrap_or (image (base + a)) old else old) (same a)

-- the target of a job is that of its inputs
pub target_is : (t : Task) (len : ℕ) (job : Job) (is : IsJob t len job) (part : List ℕ) → target_from job 0 part ≡ wanted t job.image is.regions part
unfolding target
target_is t len job is part =
    map_same _ _ (enumerate_from 0 part) (λ p. byte_same (byte_at job.image) job.base (has job.chosen) (is_chosen is.regions t.regions) is.chosen p.0 p.1)
    ∙ ap (λ base. map (λ p. target_byte (byte_at job.image) base (is_chosen is.regions t.regions) p.0 p.1) (enumerate_from 0 part)) is.base
