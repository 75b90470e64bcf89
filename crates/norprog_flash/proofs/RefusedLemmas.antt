-- Why a plan stopped.
use Rattle.std.proofs.Common.{◌≡◌, ℕ, ◌+◌, ◌≤◌, List, [], ◌∷◌, ◌++◌, length, map, Option, refl, sym, ap, subst, ◌∙◌, arith, length-append}
use Rattle.std.specs.List.{enumerate_from}
use Rattle.std.proofs.lemmas.List.{map-append}
use Rattle.nor_base.specs.declared.meaning.Strategy.{Strategy}
use Rattle.nor_base.specs.Device.{Ahead, Unknown, Finite, Endless, Gives}
use Rattle.nor_base.specs.Parameters.{Parameters}
use Rattle.nor_base.specs.Strategies.{strategy}
use Rattle.nor_base.specs.Target.{target, target_byte}
use Rattle.nor_geometry.specs.declared.fault.PlanFault.TheVariants as plan
use Rattle.nor_geometry.specs.Plan.{HasPart, IsLowestAt}
use Rattle.nor_hex.specs.Image.{Pairs, byte_at}
use Rattle.nor_job.specs.declared.fault.BuildFault.{BuildFault}
use Rattle.nor_job.specs.declared.fault.BuildFault.TheVariants as fault
use Rattle.nor_job.specs.Causes.{RefusesInputs}
use Rattle.nor_job.specs.Status.{start_of}
use Rattle.nor_job.specs.Task.{Task}
use Rattle.nor_job.specs.Wanted.{wanted}
use Rattle.nor_layout.specs.Chosen.{is_chosen}
use Rattle.nor_layout.specs.Region.{Region}
use Rattle.nor_base.specs.Wire.{wire}
use Rattle.norprog.specs.Plan.{StopsPlan}
use Rattle.norprog.specs.Update.{asked, WorkCause}
use Rattle.norprog.proofs.Content.Targets.{part_front}
use Rattle.norprog_flash.specs.Refused.{late, IsCause, StopsPlanning}

-- ---- the target of a beginning of the content
enumerate_more : (n : ℕ) (xs ys : List ℕ) → (rest : List (ℕ × ℕ)) × (enumerate_from n (xs ++ ys) ≡ enumerate_from n xs ++ rest)
enumerate_more n [] ys = (enumerate_from n ys, refl)
enumerate_more n (x ∷ xs) ys = let more = enumerate_more (n + 1) xs ys in (more.0, ap (λ ps. (n, x) ∷ ps) more.1)

wanted_front : (t : Task) (image : Pairs) (regions : List Region) (xs ys : List ℕ)
    → HasPart (wanted t image regions (xs ++ ys)) (wanted t image regions xs) 0
unfolding target
wanted_front t image regions xs ys =
    let byte : ℕ × ℕ → ℕ = λ p. target_byte (byte_at image) t.base (is_chosen regions t.regions) p.0 p.1 in
    let more = enumerate_more 0 xs ys in
    subst (λ (zs : List ℕ). HasPart zs (map byte (enumerate_from 0 xs)) 0)
    (sym (ap (map byte) more.1 ∙ map-append byte (enumerate_from 0 xs) more.0)) (part_front (map byte (enumerate_from 0 xs)) (map byte more.0))

-- ---- why a plan stopped
lower : (m : Parameters) (by : Strategy) (content goal : List ℕ) (few many a : ℕ) → few ≤ many → IsLowestAt m by 0 content goal few a
    → IsLowestAt m by 0 content goal many a
lower m by content goal few many a le is = let upto = is.upto in record { from = is.from; upto = omega (arith, upto, le); none_below = is.none_below }

-- the rest of a content of which some was read
rest_of : (content part : List ℕ) (after : Ahead) → Gives (Finite content) part after → (rest : List ℕ) × (content ≡ part ++ rest)
rest_of content part (Finite rest) given = (rest, given)
rest_of content part Unknown given = absurd given
rest_of content part (Endless f) given = absurd given

module _ (t : Task) (image : Pairs) (regions : List Region) (m : Parameters) (xs ys : List ℕ) where
  abbrev goal : List ℕ
  goal = wanted t image regions (xs ++ ys)

  cause_of : (after : Ahead) (why : BuildFault) → WorkCause (asked t image regions m xs) after why
      → IsCause m (start_of t) (xs ++ ys) goal (late why)
  cause_of after (fault.Plan (plan.NoErase a)) is =
      let low = is (xs ++ ys) goal (part_front xs ys) (wanted_front t image regions xs ys) in
      (lower m (strategy m (start_of t)) (xs ++ ys) goal (length xs) (length (xs ++ ys)) a (omega (arith, length-append xs ys)) low.0, low.1)
  cause_of after (fault.Plan (plan.Unreachable a)) is =
      let low = is (xs ++ ys) goal (part_front xs ys) (wanted_front t image regions xs ys) in
      (lower m (strategy m (start_of t)) (xs ++ ys) goal (length xs) (length (xs ++ ys)) a (omega (arith, length-append xs ys)) low.0, low.1)
  cause_of after (fault.Plan plan.Memory) is = absurd is
  cause_of after fault.Write is = tt
  cause_of after fault.Memory is = tt
  cause_of after fault.ContentShort is = tt
  cause_of after fault.Read is = tt
  cause_of after (fault.Contradiction number) is = tt
  cause_of after (fault.Hex why) is = tt
  cause_of after (fault.Layout why) is = tt
  cause_of after (fault.Sfdp why) is = tt
  cause_of after (fault.Sheet why) is = tt
  cause_of after (fault.Status number) is = tt
  cause_of after fault.ModeImpossible is = tt
  cause_of after fault.ContentSize is = tt

-- a plan of a content in memory that stopped
stops_planning : (t : Task) (content : List ℕ) (after : Ahead) (o p : Option (List ℕ)) (why : BuildFault)
    → StopsPlan t (length content) (wire o (Finite content)) (wire p after) why → StopsPlanning t content content (late why)
stops_planning t content after o p why s =
    let from = rest_of content s.part after s.given in
    record {
      image = s.image;
      regions = s.regions;
      m = s.m;
      accepted = s.accepted;
      cause = subst (λ (xs : List ℕ). IsCause s.m (start_of t) xs (wanted t s.image s.regions xs) (late why)) (sym from.1)
          (cause_of t s.image s.regions s.m s.part from.0 after why s.cause);
    }

-- inputs that are refused have no fault that is reported of a plan
pub not_late : (t : Task) (len : ℕ) (why : BuildFault) → RefusesInputs t len why → late why ≡ fault.Memory
not_late t len (fault.Contradiction number) is = refl
not_late t len (fault.Hex why) is = refl
not_late t len (fault.Layout why) is = refl
not_late t len (fault.Sfdp why) is = refl
not_late t len (fault.Sheet why) is = refl
not_late t len (fault.Status number) is = refl
not_late t len fault.ModeImpossible is = refl
not_late t len fault.ContentSize is = refl
not_late t len (fault.Plan why) is = absurd is
not_late t len fault.ContentShort is = refl
not_late t len fault.Read is = refl
not_late t len fault.Write is = refl
not_late t len fault.Memory is = refl

-- so is what is reported of one that stopped
pub reported : (t : Task) (content ahead : List ℕ) (after : Ahead) (o p : Option (List ℕ)) (why told : BuildFault) → ahead ≡ content
    → told ≡ late why → StopsPlan t (length content) (wire o (Finite ahead)) (wire p after) why → StopsPlanning t content content told
reported t content ahead after o p why told all is stops =
    subst (StopsPlanning t content content) (sym is) (stops_planning t content after o p why
    (subst (λ (xs : List ℕ). StopsPlan t (length content) (wire o (Finite xs)) (wire p after) why) all stops))
