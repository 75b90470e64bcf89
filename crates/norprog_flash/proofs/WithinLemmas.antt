-- A target is within the part that was read.
use Rattle.std.proofs.Common.{◌≡◌, ◌⊎◌, ℕ, ◌+◌, ◌^◌, ◌<◌, ◌≤◌, nat_lt, Bool, true, false, ◌&&◌, if◌then◌else◌, is_some, List, length, Option, Some, None, unwrap_or, refl, sym, ◌∙◌, ap, arith, inl, inr, subst}
use Rattle.std.specs.List.{slice_index}
use Rattle.std.proofs.lemmas.Bool.{cases_lt, ltb-true}
use Rattle.std.proofs.lemmas.List.{get_or_past}
use Rattle.nor_base.specs.Array.{each, IsOutside}
use Rattle.nor_base.specs.declared.step.Step.{Step}
use Rattle.nor_base.specs.Parameters.{Parameters}
use Rattle.nor_base.specs.Target.{target, target_byte}
use Rattle.nor_base.proofs.ArrayLaws.{length-each, slice_index-each}
use Rattle.nor_hex.specs.Image.{Pairs, byte_at}
use Rattle.nor_flasher.specs.Apart.{work_on, ChipRead}
use Rattle.nor_flasher.specs.Within.{AreAlike, IsPlannedWithin, IsWithin}
use Rattle.nor_job.specs.Causes.{HasRegions}
use Rattle.nor_job.specs.Task.{Task}
use Rattle.nor_layout.specs.Chosen.{is_chosen}
use Rattle.nor_layout.specs.Region.{Region}
use Rattle.nor_loop.specs.Loop.{IsContent, IsDoneBy}
use Rattle.norprog_flash.specs.declared.job.Job.{Job}
use Rattle.norprog_flash.specs.Near.{Gets, GetsByte}
use Rattle.norprog_flash.specs.declared.dump.Dump.{Dump}
use Rattle.norprog_flash.specs.Dump.{AreOfPart, older}
use Rattle.norprog_flash.specs.Task.{flash_task, goal_of}
use Rattle.norprog_flash.proofs.DumpLemmas.{IsOlder, is_older}
use Rattle.norprog_flash.proofs.NearLemmas.{regions_any}
use Rattle.norprog_flash.proofs.PartLemmas.{HasBorders, IsRead, none_outside}
use Rattle.norprog_read.specs.declared.asked.Span.{Span}
use Rattle.norprog_read.specs.Span.{span}

-- what each byte becomes at an address is one byte, or it stays
abbrev GivesOrKeeps : (ℕ → ℕ) → Type 0
GivesOrKeeps f = ((old other : ℕ) → f old ≡ f other) ⊎ ((old : ℕ) → f old ≡ old)

gives_or_keeps : (image : ℕ → Option ℕ) (base : ℕ) (chosen : ℕ → Bool) (x : ℕ) → GivesOrKeeps (target_byte image base chosen x)
gives_or_keeps image base chosen x = by (chosen x && nat_lt (base + x) (2 ^ 32)) (image (base + x))
  where
    by : (goes : Bool) (byte : Option ℕ) → GivesOrKeeps (λ old. if goes then unwrap_or byte old else old)
    by true (Some byte) = inl (λ old other. refl)
    by true None = inr (λ old. refl)
    by false byte = inr (λ old. refl)

-- at each address the target of what a chip held before is what it holds, or one byte whatever that is
abbrev StaysOrGives : (List ℕ → List ℕ) → ℕ → ℕ → Type 0
StaysOrGives goal size x = ((held : List ℕ) → length held ≡ size → slice_index (goal held) x ≡ slice_index held x)
    ⊎ ((one other : List ℕ) → length one ≡ size → length other ≡ size → slice_index (goal one) x ≡ slice_index (goal other) x)

module _ (image : ℕ → Option ℕ) (base : ℕ) (chosen : ℕ → Bool) (dump : Option Dump) (part : Span) (size : ℕ) (is_older : IsOlder dump part size) where
  abbrev f : ℕ → ℕ → ℕ
  f = target_byte image base chosen

  abbrev goal : List ℕ → List ℕ
  goal held = each f (older dump held)

  goal_size : (held : List ℕ) → length held ≡ size → length (goal held) ≡ size
  goal_size held long = length-each f (older dump held) ∙ is_older.size_is held long

  there : (held : List ℕ) (x : ℕ) → length held ≡ size → x < size → slice_index (goal held) x ≡ f x (slice_index (older dump held) x)
  there held x long inside = slice_index-each f (older dump held) x (omega (arith, is_older.size_is held long, inside))

  stays_or_gives : (x : ℕ) → x < size → StaysOrGives goal size x
  stays_or_gives x inside = elim (gives_or_keeps image base chosen x) [
    | inl gives ↦ inr (λ one other long its.
        there one x long inside ∙ gives (slice_index (older dump one) x) (slice_index (older dump other) x) ∙ sym (there other x its inside))
    | inr keeps ↦ elim (is_older.either x) [
      | inl same ↦ inl (λ held long. there held x long inside ∙ keeps (slice_index (older dump held) x) ∙ same held long)
      | inr (past, before, fixed) ↦ inr (λ one other long its.
          there one x long inside ∙ keeps (slice_index (older dump one) x) ∙ fixed one other long its ∙ sym (keeps (slice_index (older dump other) x))
          ∙ sym (there other x its inside))
    ]
  ]

  -- outside the part it is what it holds, where no address gets a byte
  stays_outside : (held : List ℕ) (x : ℕ) → length held ≡ size → x < size → IsOutside part.low part.high x → ((old : ℕ) → f x old ≡ old)
      → slice_index (goal held) x ≡ slice_index held x
  stays_outside held x long inside out keeps = there held x long inside ∙ keeps (slice_index (older dump held) x) ∙ by (is_older.either x) out
    where
      by : (((h : List ℕ) → length h ≡ size → slice_index (older dump h) x ≡ slice_index h x)
          ⊎ ((part.low ≤ x) × (x < part.high) × ((one other : List ℕ) → length one ≡ size → length other ≡ size → slice_index (older dump one) x ≡ slice_index (older dump other) x)))
          → IsOutside part.low part.high x → slice_index (older dump held) x ≡ slice_index held x
      by (inl same) out = same held long
      by (inr (past, before, fixed)) (inl low) = absurd (omega (arith, past, low))
      by (inr (past, before, fixed)) (inr high) = absurd (omega (arith, before, high))

  -- a content, where that of one content is
  goal_byte : (m : Parameters) (one held : List ℕ) (x : ℕ) → m.size ≡ size → IsContent m one → IsContent m (goal one) → IsContent m held
      → slice_index (goal held) x < 256
  goal_byte m one held x same first made is = elim (cases_lt x size) [
    | inl inside ↦ elim (stays_or_gives x inside) [
      | inl stays ↦ let here = stays held (is.size ∙ same) in omega (arith, here, is.bytes x)
      | inr gives ↦ let here = gives held one (is.size ∙ same) (first.size ∙ same) in omega (arith, here, made.bytes x)
    ]
    | inr past ↦ let none = get_or_past (goal held) x 0 (omega (arith, goal_size held (is.size ∙ same), past)) in omega (arith, none)
  ]

  goal_alike : (low high : ℕ) (one other : List ℕ) → high ≤ size → length one ≡ size → length other ≡ size → AreAlike low high one other
      → AreAlike low high (goal one) (goal other)
  goal_alike low high one other upto long its alike x past before = elim (stays_or_gives x (omega (arith, upto, before))) [
    | inl stays ↦ stays one long ∙ alike x past before ∙ sym (stays other its)
    | inr gives ↦ gives one other long its
  ]

-- so it is within a part outside which no address gets a byte
pub target_within : (c : ChipRead) (image : ℕ → Option ℕ) (base : ℕ) (chosen : ℕ → Bool) (dump : Option Dump)
    → ((x : ℕ) → x < c.m.size → IsOutside c.low c.high x → (old : ℕ) → target_byte image base chosen x old ≡ old) → IsOlder dump (span c.low c.high) c.m.size
    → c.high ≤ c.m.size → IsContent c.m c.content → IsContent c.m (target image base chosen (older dump c.content))
    → IsWithin c (λ held. target image base chosen (older dump held))
unfolding target
target_within c image base chosen dump keeps is_older upto content made =
    let part = span c.low c.high in
    record {
      content = λ held is. record {
        size = goal_size image base chosen dump part c.m.size is_older held is.size;
        bytes = λ x. goal_byte image base chosen dump part c.m.size is_older c.m c.content held x refl content made is;
      };
      outside = λ held x is inside out. stays_outside image base chosen dump part c.m.size is_older held x is.size inside out (keeps x inside out);
      inside = λ one other is its. goal_alike image base chosen dump part c.m.size is_older c.low c.high one other upto is.size its.size;
    }

-- an address that gets no byte keeps the one that it has
no_byte : (image : Pairs) (base : ℕ) (choice : ℕ → Bool) (x old : ℕ) → (Gets image base choice x → ⊥) → target_byte (byte_at image) base choice x old ≡ old
no_byte image base choice x old none = by (choice x) (nat_lt (base + x) (2 ^ 32)) (byte_at image (base + x)) refl refl refl
  where
    by : (goes below : Bool) (byte : Option ℕ) → choice x ≡ goes → nat_lt (base + x) (2 ^ 32) ≡ below → byte_at image (base + x) ≡ byte
        → (if goes && below then unwrap_or byte old else old) ≡ old
    by true true (Some byte) chosen small given =
        absurd (none (record { chosen = chosen; below = ltb-true (base + x) (2 ^ 32) small; given = ap is_some given }))
    by true true None chosen small given = refl
    by true false byte chosen small given = refl
    by false below byte chosen small given = refl

-- outside the part no address gets a byte
abbrev pub IsKeptOutside : ChipRead → Task → Pairs → List Region → Type 0
IsKeptOutside c t image regions = (x : ℕ) → x < c.m.size → IsOutside c.low c.high x → GetsByte t image regions x → ⊥

-- steps that are the planned work to the target of what the chip held before are planned so, where the older dump is of just the part
pub planned_within : (c : ChipRead) (t : Task) (image : Pairs) (regions : List Region) (dump : Option Dump) (steps : List Step)
    → HasBorders c.m (span c.low c.high) → IsKeptOutside c t image regions → AreOfPart dump (span c.low c.high) c.content → IsContent c.m c.content
    → IsDoneBy (work_on c (goal_of t image regions dump) steps) c.content → IsPlannedWithin c (goal_of t image regions dump) steps
planned_within c t image regions dump steps borders kept fits content done = record {
  content = content;
  low = borders.low;
  high = borders.high;
  order = borders.order;
  upto = borders.upto;
  within = target_within c (byte_at image) t.base (is_chosen regions t.regions) dump
      (λ x inside out old. no_byte image t.base (is_chosen regions t.regions) x old (kept x inside out))
      (subst (IsOlder dump (span c.low c.high)) content.size (is_older dump (span c.low c.high) c.content fits)) borders.upto content
      (record { size = done.workable.want_size; bytes = done.workable.bytes });
  done = done;
}

-- so it is of the chip of a job
pub kept_outside : (job : Job) (tables : List ℕ) (size : ℕ) (m : Parameters) (part : Span) (image : Pairs) (regions : List Region) → IsRead job m part
    → HasRegions (flash_task job tables size) image regions → (x : ℕ) → x < m.size → IsOutside part.low part.high x
    → GetsByte (flash_task job tables size) image regions x → ⊥
kept_outside job tables size m part image regions read named x inside out gets =
    let (near, goes, spans, none) = none_outside job m part x read inside out in
    none (spans image regions (regions_any job tables size image regions goes named) x gets)
