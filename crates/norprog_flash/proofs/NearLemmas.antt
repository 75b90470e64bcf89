-- Which part of a chip is read.
use Rattle.std.proofs.Common.{max, length, ◌≡◌, ◌∙◌, ℕ, ◌+◌, ◌^◌, ◌<◌, ◌≤◌, min, Bool, true, false, not, is_some, List, [], Option, None, refl, sym, ap, subst, arith, inl, inr, ◌-◌}
use Rattle.std.proofs.lemmas.Bool.{and_parts, cases_lt}
use Rattle.std.proofs.lemmas.Option.{slice_get-get_or}
use Rattle.nor_hex.specs.Image.{IsRunFrom, Pairs, byte_at}
use Rattle.nor_job.proofs.OneLemmas.{image_same}
use Rattle.nor_job.specs.Causes.{HasRegions, ImageSays}
use Rattle.nor_job.specs.Task.{Task, contradiction, has_no_tables}
use Rattle.nor_layout.specs.Chosen.{IsChosenRun, is_chosen}
use Rattle.nor_layout.specs.Region.{Region}
use Rattle.norprog_flash.specs.declared.job.Job.{Job}
use Rattle.norprog_flash.specs.Near.{Gets, GetsByte, IsNextPiece, goes_near}
use Rattle.norprog_flash.specs.Task.{blank_image, flash_task, imaged_task}
use Rattle.norprog_read.specs.Chip.{task_chip}
use Rattle.norprog_read.specs.declared.asked.Known.{Known}
use Rattle.norprog_read.specs.declared.asked.Known.TheVariants.{Own, Sheet, Tables, Uniform}

-- ---- the pieces of an image

-- of the next chosen addresses, and the next bytes of the image from the first of them on
pub piece_is : (image : Pairs) (base done start first last at end : ℕ) (run : List ℕ) (choice : ℕ → Bool) → IsChosenRun choice done first last → start ≡ base + first
    → IsRunFrom image start at run → end ≡ max (min ((at - base) + length run) (last + 1)) (at - base) → IsNextPiece (Gets image base choice) done (at - base, end)
piece_is image base done start first last at end run choice chosen from gives is = record {
  past = omega (arith, is, from, chosen.past, chosen.some, gives.past, gives.some);
  order = omega (arith, is);
  upto = omega (arith, is, gives.fits);
  none_before = λ a late before gets. elim (cases_lt a first) [
    | inl early ↦ let no = chosen.none_before a late early in let yes = gets.chosen in let e : true ≡ false = sym yes ∙ no in absurd cc
    | inr past ↦
        let no = gives.none_before (base + a) (omega (arith, from, past)) (omega (arith, before)) in
        let e : true ≡ false = sym gets.given ∙ ap is_some no in
        absurd cc
  ];
  each = λ a past below.
      let place : at + ((base + a) - at) ≡ base + a = omega (arith, past, gives.past, from) in
      let inside : (base + a) - at < length run = omega (arith, past, below, is, gives.past, from) in
      record {
        chosen = chosen.each a (omega (arith, past, gives.past, from)) (omega (arith, past, below, is));
        below = omega (arith, place, inside, gives.fits);
        given = ap (λ n. is_some (byte_at image n)) (sym place)
            ∙ ap is_some (gives.bytes ((base + a) - at) inside ∙ slice_get-get_or run ((base + a) - at) 0 inside);
      };
}

-- each address below one that gets a byte lies between these
pub record SpansSoFar (gets : ℕ → Type 0) (low high done : ℕ) : Type 0 where
  pub within : done ≤ 2 ^ 32
  pub upto : high ≤ done
  pub each : (a : ℕ) → a < done → gets a → (low ≤ a) × (a < high)

-- one piece more
pub piece_more : (gets : ℕ → Type 0) (low high done begin end : ℕ) → SpansSoFar gets low high done → IsNextPiece gets done (begin, end) → begin < end
    → SpansSoFar gets (min low begin) end end
piece_more gets low high done begin end so_far next some = record {
  within = next.upto;
  upto = omega arith;
  each = λ a below is. elim (cases_lt a done) [
    | inl early ↦ let lies = so_far.each a early is in (omega (arith, lies.0), below)
    | inr late ↦ elim (cases_lt a begin) [
      | inl before ↦ absurd (next.none_before a late before is)
      | inr past ↦ (omega arith, below)
    ]
  ];
}

-- what a task gives a byte is given one by an image and a choice of its own
pub gets_same : (t : Task) (image own : Pairs) (regions : List Region) (base : ℕ) (choice : ℕ → Bool) → HasRegions t image regions → ImageSays t.image t.hex own
    → base ≡ t.base → ((a : ℕ) → choice a ≡ is_chosen regions t.regions a) → (a : ℕ) → GetsByte t image regions a → Gets own base choice a
gets_same t image own regions base choice named says from same a is =
    let at : base + a ≡ t.base + a = ap (λ n. n + a) from in
    record {
      chosen = same a ∙ is.chosen;
      below = omega (arith, at, is.below);
      given = ap (λ n. is_some (byte_at own n)) at ∙ ap is_some (image_same t.image t.hex own image says named.imaged.spelled (t.base + a)) ∙ is.given;
    }

-- ---- a job whose chip is read in part
not_true : (b : Bool) → not b ≡ true → b ≡ false
not_true true e = cc
not_true false e = refl

pub near_says : (job : Job) → goes_near job ≡ true → job.blank ≡ false
near_says job near = not_true job.blank (and_parts job.near (not job.blank) near).1

-- has the image that it was given
pub own_image : (job : Job) (size : ℕ) → goes_near job ≡ true → imaged_task job [] None ≡ flash_task job [] size
own_image job size near = sym (ap (λ b. imaged_task job [] (blank_image b size)) (near_says job near))

-- and has the regions that it has whatever tables its chip gives
tables_same : (known : Known) (bits tables : List ℕ) → has_no_tables (task_chip known bits tables) ≡ has_no_tables (task_chip known bits [])
tables_same Own bits tables = refl
tables_same (Tables file) bits tables = refl
tables_same (Uniform size) bits tables = refl
tables_same (Sheet text) bits tables = refl

consistent_same : (job : Job) (tables : List ℕ) (image : Option Pairs) → contradiction (imaged_task job tables image) ≡ contradiction (imaged_task job [] image)
unfolding contradiction
consistent_same job tables image = rw (tables_same job.ask.known job.ask.bits.now tables) refl

pub regions_any : (job : Job) (tables : List ℕ) (size : ℕ) (image : Pairs) (regions : List Region) → goes_near job ≡ true
    → HasRegions (flash_task job tables size) image regions → HasRegions (flash_task job [] 0) image regions
regions_any job tables size image regions near named =
    let none = (near_says job near) in
    let here : HasRegions (imaged_task job tables None) image regions =
    subst (λ b. HasRegions (imaged_task job tables (blank_image b size)) image regions) none named in
    let there : HasRegions (imaged_task job [] None) image regions =
    record {
      imaged = record { consistent = sym (consistent_same job tables None) ∙ here.imaged.consistent; spelled = here.imaged.spelled };
      layout = here.layout;
      known = here.known;
    } in
    subst (λ (t : Task). HasRegions t image regions) (own_image job 0 near) there
