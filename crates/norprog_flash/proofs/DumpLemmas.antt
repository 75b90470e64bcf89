-- What a chip held before work on it was begun.
use Rattle.std.proofs.Common.{◌≡◌, ◌∙◌, ◌⊎◌, ℕ, ◌+◌, ◌-◌, ◌<◌, ◌≤◌, ◌==◌, ◌&&◌, nat_le, true, false, List, ◌++◌, length, take, drop, Option, None, Some, Result, Ok, Err, IfOk, IfErr, Bor, subst, refl, sym, ap, arith, inl, inr}
use Rattle.std.proofs.Common.{length-append, length-drop}
use Rattle.std.specs.Prelude.{◌≢◌, MatchOption, is_some, slice_get}
use Rattle.std.proofs.lemmas.Option.{slice_get_past}
use Rattle.std.specs.List.{slice_index}
use Rattle.norprog_common.specs.declared.faults.Refusal.{Refusal}
use Rattle.std.proofs.lemmas.Bool.{and_parts, cases_lt, eqb-true, leb-true}
use Rattle.std.proofs.lemmas.List.{get_or_append_left, get_or-append_right, get_or-drop, get_or-take, length-take-le}
use Rattle.nor_hex.specs.Faults.{IsFault, IsImage}
use Rattle.nor_hex.specs.declared.fault.HexFault.{HexFault}
use Rattle.nor_hex.specs.declared.fault.HexFault.TheVariants as hex
use Rattle.nor_job.specs.declared.fault.BuildFault.TheVariants.{Memory}
use Rattle.nor_hex.specs.Image.{HasNoneFrom, IsRunFrom, Pairs, byte_at}
use Rattle.nor_hex.specs.Laws.{GivesJust}
use Rattle.norprog_flash.specs.declared.dump.Dump.{Dump}
use Rattle.norprog_flash.specs.Dump.{AreOfPart, Gapped, IsDumpOf, NoHex, NoMemory, NoRun, OfPart, RefusesDump, RefusesRun, is_of_part, laid, older}
use Rattle.norprog_common.specs.declared.faults.FileName.TheVariants.{Resume}
use Rattle.norprog_common.specs.declared.faults.Refusal.TheVariants.{Build, File}
use Rattle.norprog_read.specs.declared.asked.Span.{Span}

-- a dump of just a part
pub record FitsPart (dump : Dump) (part : Span) (content : List ℕ) : Type 0 where
  pub low : dump.at ≡ part.low
  pub high : dump.at + length dump.bytes.items ≡ part.high
  pub inside : part.high ≤ length content

pub fits_part : (dump : Dump) (part : Span) (content : List ℕ) → is_of_part dump part content ≡ true → FitsPart dump part content
fits_part dump part content is =
    let both = and_parts (dump.at == part.low) ((dump.at + length dump.bytes.items == part.high) && nat_le part.high (length content)) is in
    let rest = and_parts (dump.at + length dump.bytes.items == part.high) (nat_le part.high (length content)) both.1 in
    record { low = eqb-true dump.at part.low both.0; high = eqb-true (dump.at + length dump.bytes.items) part.high rest.0; inside = leb-true part.high (length content) rest.1 }

-- bytes laid into a content in their place
module _ (dump : Dump) (part : Span) (content held : List ℕ) (fits : FitsPart dump part content) (long : length held ≡ length content) where
  abbrev bytes : List ℕ
  bytes = dump.bytes.items

  abbrev rest : List ℕ
  rest = drop (dump.at + length bytes) held

  front_size : length (take dump.at held) ≡ dump.at
  front_size = length-take-le dump.at held (omega (arith, fits.high, fits.inside, long))

  pub laid_size : length (laid dump held) ≡ length held
  laid_size =
      omega (arith, length-append (take dump.at held) (bytes ++ rest), length-append bytes rest, length-drop (dump.at + length bytes) held, front_size, fits.high, fits.inside, long)

  pub laid_outside : (x : ℕ) → (x < part.low) ⊎ (part.high ≤ x) → slice_index (laid dump held) x ≡ slice_index held x
  laid_outside x (inl before) =
      let low = fits.low in
      let less : x < dump.at = omega (arith, before, low) in
      get_or_append_left (take dump.at held) (bytes ++ rest) 0 x (omega (arith, less, front_size)) ∙ get_or-take dump.at held x 0 less
  laid_outside x (inr past) =
      let more : dump.at + length bytes ≤ x = omega (arith, past, fits.high) in
      let back : (dump.at + length bytes) + ((x - dump.at) - length bytes) ≡ x = omega (arith, more) in
      get_or-append_right (take dump.at held) (bytes ++ rest) dump.at x 0 front_size (omega (arith, more))
      ∙ get_or-append_right bytes rest (length bytes) (x - dump.at) 0 refl (omega (arith, more))
      ∙ get_or-drop (dump.at + length bytes) held ((x - dump.at) - length bytes) 0 ∙ ap (slice_index held) back

  pub laid_inside : (x : ℕ) → part.low ≤ x → x < part.high → slice_index (laid dump held) x ≡ slice_index bytes (x - dump.at)
  laid_inside x past before =
      let low = fits.low in
      get_or-append_right (take dump.at held) (bytes ++ rest) dump.at x 0 front_size (omega (arith, past, low))
      ∙ get_or_append_left bytes rest 0 (x - dump.at) (omega (arith, past, before, low, fits.high))

-- and at each address it is what it holds, or one byte whatever that is, in the part
pub record IsOlder (dump : Option Dump) (part : Span) (size : ℕ) : Type 0 where
  pub size_is : (held : List ℕ) → length held ≡ size → length (older dump held) ≡ size
  pub either : (x : ℕ) → ((held : List ℕ) → length held ≡ size → slice_index (older dump held) x ≡ slice_index held x)
      ⊎ ((part.low ≤ x) × (x < part.high)
      × ((one other : List ℕ) → length one ≡ size → length other ≡ size → slice_index (older dump one) x ≡ slice_index (older dump other) x))

pub is_older : (dump : Option Dump) (part : Span) (content : List ℕ) → AreOfPart dump part content → IsOlder dump part (length content)
is_older None part content fits = record { size_is = λ held long. long; either = λ x. inl (λ held long. refl) }
is_older (Some d) part content of_part = record {
  size_is = λ held long. laid_size d part content held fits long ∙ long;
  either = λ x. elim (cases_lt x part.low) [
    | inl before ↦ inl (λ held long. laid_outside d part content held fits long x (inl before))
    | inr past ↦ elim (cases_lt x part.high) [
      | inl inside ↦ inr (
        past,
        inside,
        λ one other long its.
            laid_inside d part content one fits long x past inside ∙ sym (laid_inside d part content other fits its x past inside),
      )
      | inr beyond ↦ inl (λ held long. laid_outside d part content held fits long x (inr beyond))
    ]
  ];
}
  where
    fits : FitsPart d part content
    fits = fits_part d part content of_part

-- the dump of a part, by its text's image
pub part_given : (file : List ℕ) (image : Pairs) (result : Result Dump Refusal) → IsImage file image
    → IfOk result (λ dump. GivesJust dump.at dump.bytes.items image) → IfOk result (IsDumpOf file true)
part_given file image (Ok dump) is just = OfPart dump image is just
part_given file image (Err why) is just = tt

-- bytes come after the run's gap
pub gapped : (image : Pairs) (at : ℕ) (run : List ℕ) (end : ℕ) (found : Option (ℕ × Bor (List ℕ))) → IsRunFrom image 0 at run → end ≡ at + length run
    → MatchOption found (HasNoneFrom image end) (λ more. IsRunFrom image end more.0 more.1.now) → true ≡ is_some found
    → RefusesRun image (File Resume)
gapped image at run end None first is second there = absurd cc
gapped image at run end (Some (next, more)) first is second there = Gapped at next run more.now first (subst (λ (k : ℕ). IsRunFrom image k next more.now) is second)

-- a part's text is refused as its image is
pub run_refused : (file : List ℕ) (image : Pairs) (result : Result Dump Refusal) → IsImage file image → IfErr result (RefusesRun image)
    → IfErr result (RefusesDump file true)
run_refused file image (Ok dump) is why = tt
run_refused file image (Err fault) is why = NoRun image fault is why

-- or none do
pub none_more : (image : Pairs) (at : ℕ) (run : List ℕ) (end : ℕ) (found : Option (ℕ × Bor (List ℕ))) → end ≡ at + length run
    → MatchOption found (HasNoneFrom image end) (λ more. IsRunFrom image end more.0 more.1.now) → false ≡ is_some found
    → HasNoneFrom image (at + length run)
none_more image at run end None is none there = subst (HasNoneFrom image) is none
none_more image at run end (Some more) is one there = absurd cc

-- and where it can't be read
pub text_refused : (file : List ℕ) (fault : HexFault) (why : Refusal) → (fault ≢ hex.Memory → IsFault file fault)
    → (why ≡ Build Memory) ⊎ ((fault ≢ hex.Memory) × (why ≡ File Resume)) → RefusesDump file true why
text_refused file fault why is (inl full) = rw full NoMemory
text_refused file fault why is (inr (other, unfit)) = rw unfit (NoHex fault (is other))

-- the only run of an image has just its bytes
pub only_bytes : (image : Pairs) (at : ℕ) (run : List ℕ) → IsRunFrom image 0 at run → HasNoneFrom image (at + length run) → GivesJust at run image
only_bytes image at run is none address byte = (to, from)
  where
    same : at ≤ address → address - at < length run → byte_at image address ≡ slice_get run (address - at)
    same past inside =
        let place : at + (address - at) ≡ address = omega (arith, past) in
        subst (λ (a : ℕ). byte_at image a ≡ slice_get run (address - at)) place (is.bytes (address - at) inside)

    to : byte_at image address ≡ Some byte → (at ≤ address) × (slice_get run (address - at) ≡ Some byte)
    to given = elim (cases_lt address at) [
      | inl before ↦ let no = is.none_before address (omega arith) before in absurd cc
      | inr past ↦ elim (cases_lt (address - at) (length run)) [
        | inl inside ↦ (past, sym (same past inside) ∙ given)
        | inr beyond ↦ let no = none address (omega (arith, past, beyond)) in absurd cc
      ]
    ]

    from : (at ≤ address) × (slice_get run (address - at) ≡ Some byte) → byte_at image address ≡ Some byte
    from given = elim (cases_lt (address - at) (length run)) [
      | inl inside ↦ same given.0 inside ∙ given.1
      | inr beyond ↦ let no = slice_get_past run (address - at) beyond in let it = given.1 in absurd cc
    ]
