-- A content that begins so, and of which nothing past the beginning has to change.
use Rattle.std.proofs.Common.{◌≡◌, ℕ, zero, suc, ◌+◌, ◌-◌, ◌^◌, ◌<◌, ◌≤◌, nat_lt, not, ◌&&◌, Bool, true, false, if◌then◌else◌, List, [], ◌∷◌, ◌++◌, length, take, replicate, Option, Some, None, refl, sym, ◌∙◌, ap, subst, arith, inl, inr, length-append, eq-eqb}
use Rattle.std.specs.Prelude.{unwrap_or}
use Rattle.std.specs.List.{slice_index}
use Rattle.std.proofs.Math.Seq.{get_or-append_right, take-append_seam}
use Rattle.std.proofs.lemmas.Bool.{cases_lt}
use Rattle.std.proofs.lemmas.List.{length-take-le, length-replicate}
use Rattle.nor_base.specs.declared.meaning.Strategy.{Strategy}
use Rattle.nor_base.specs.Accepted.{IsAccepted}
use Rattle.nor_base.specs.Need.{differs, lacks_erase, is_at_fault}
use Rattle.nor_base.specs.Parameters.{Parameters}
use Rattle.nor_base.specs.Strategies.{strategy}
use Rattle.nor_base.specs.Target.{target_byte}
use Rattle.nor_base.specs.Planned.{IsWorkable}
use Rattle.nor_geometry.specs.Plan.{HasPart}
use Rattle.nor_hex.specs.Image.{GivesBytes, byte_at}
use Rattle.nor_job.specs.declared.job.Job.{Job}
use Rattle.nor_layout.specs.Chosen.{has}
use Rattle.nor_job.specs.Filled.{target_from}
use Rattle.norprog.specs.Windows.{IsScriptFront}
use Rattle.nor_job.specs.Written.{AreBytes}
use Rattle.nor_job.proofs.TargetLemmas.{length-target}
use Rattle.norprog.proofs.Content.Targets.{target_of_parts, bytes_of_parts, part_front}

byte_by : (b : Bool) (o : Option ℕ) (old : ℕ) → (if b then unwrap_or o (if b then unwrap_or o old else old) else (if b then unwrap_or o old else old)) ≡ (if b then unwrap_or o old else old)
byte_by true (Some byte) old = refl
byte_by true None old = refl
byte_by false o old = refl

-- the target of a target is itself
twice : (job : Job) (at : ℕ) (xs : List ℕ) → target_from job at (target_from job at xs) ≡ target_from job at xs
twice job at [] = refl
twice job at (x ∷ xs) =
    ap (λ y. y ∷ target_from job (at + 1) (target_from job (at + 1) xs)) (byte_by (has job.chosen at && nat_lt (job.base + at) (2 ^ 32)) (byte_at job.image (job.base + at)) x)
    ∙ ap (λ ys. target_byte (byte_at job.image) job.base (has job.chosen) at x ∷ ys) (twice job (at + 1) xs)

small_by : (b : Bool) (o : Option ℕ) (old : ℕ) → ((byte : ℕ) → o ≡ Some byte → byte < 256) → old < 256 → (if b then unwrap_or o old else old) < 256
small_by true (Some byte) old gives small = gives byte refl
small_by true None old gives small = small
small_by false o old gives small = small

-- the target of zeros is bytes
zeros_small : (job : Job) → GivesBytes job.image → (n at : ℕ) → AreBytes (target_from job at (replicate n 0))
zeros_small job gives zero at k = omega arith
zeros_small job gives (suc n) at zero =
    small_by (has job.chosen at && nat_lt (job.base + at) (2 ^ 32)) (byte_at job.image (job.base + at)) 0 (gives (job.base + at)) (omega arith)
zeros_small job gives (suc n) at (suc k) = zeros_small job gives n (at + 1) k

no_fault : (m : Parameters) (by : Strategy) (have want : List ℕ) (a : ℕ) → differs have want a ≡ false → is_at_fault m by have want a ≡ false
unfolding lacks_erase
no_fault m by have want a same = grind (arith, same)

abbrev pub filler : Job → ℕ → List ℕ
filler job known = target_from job known (replicate (job.meaning.size - known) 0)

-- what is known, and then what is so already
abbrev pub filled : Job → ℕ → List ℕ → List ℕ
filled job known part = take known part ++ filler job known

pub record IsFilled (job : Job) (known : ℕ) (part : List ℕ) : Type 0 where
  pub begins : take known (filled job known part) ≡ take known part
  pub size : length (filled job known part) ≡ job.meaning.size
  pub workable : IsWorkable job.meaning job.start (filled job known part) (target_from job 0 (filled job known part))
  pub has : HasPart (filled job known part) (take known part) 0
  pub has' : HasPart (target_from job 0 (filled job known part)) (target_from job 0 (take known part)) 0

pub filled_is : (job : Job) (known : ℕ) (part bytes : List ℕ) → IsAccepted job.meaning → GivesBytes job.image → known ≤ length part → length part ≤ job.meaning.size
    → IsScriptFront job (take known part) bytes → IsFilled job known part
filled_is job known part bytes accepted gives within fits front =
    let xs = take known part in
    let ys = filler job known in
    let txs = target_from job 0 xs in
    let took : length xs ≡ known = length-take-le known part within in
    let rest : length ys ≡ job.meaning.size - known = length-target job known (replicate (job.meaning.size - known) 0) ∙ length-replicate (job.meaning.size - known) 0 in
    let goal : target_from job 0 (xs ++ ys) ≡ txs ++ ys =
    target_of_parts job 0 known xs ys (omega (arith, took)) ∙ ap (λ zs. txs ++ zs) (twice job known (replicate (job.meaning.size - known) 0)) in
    let long : length txs ≡ known = length-target job 0 xs ∙ took in
    let size : length (xs ++ ys) ≡ job.meaning.size = omega (arith, length-append xs ys, took, rest, fits, within) in
    let has : HasPart (xs ++ ys) xs 0 = part_front xs ys in
    let has' : HasPart (target_from job 0 (xs ++ ys)) txs 0 = subst (λ (zs : List ℕ). HasPart zs txs 0) (sym goal) (part_front txs ys) in
    record {
      begins = ap (λ n. take n (xs ++ ys)) (sym took) ∙ take-append_seam xs ys;
      size = size;
      workable = record {
        accepted = accepted;
        have_size = size;
        want_size = length-target job 0 (xs ++ ys) ∙ size;
        bytes = subst AreBytes (sym goal) (bytes_of_parts txs ys front.small (zeros_small job gives (job.meaning.size - known) known));
        sound = λ a inside. elim (cases_lt a known) [
          | inl less ↦ front.sound (xs ++ ys) (target_from job 0 (xs ++ ys)) has has' a (omega arith) (omega (arith, less, took))
          | inr past ↦
              let left = get_or-append_right xs ys a 0 (omega (arith, past, took)) in
              let right = ap (λ (zs : List ℕ). slice_index zs a) goal ∙ get_or-append_right txs ys a 0 (omega (arith, past, long)) in
              let same : slice_index (xs ++ ys) a ≡ slice_index (target_from job 0 (xs ++ ys)) a =
              left ∙ ap (λ n. slice_index ys (a - n)) (took ∙ sym long) ∙ sym right in
              no_fault job.meaning (strategy job.meaning job.start) (xs ++ ys) (target_from job 0 (xs ++ ys)) a
              (ap not (eq-eqb (slice_index (xs ++ ys) a) (slice_index (target_from job 0 (xs ++ ys)) a) same))
        ];
      };
      has = has;
      has' = has';
    }
