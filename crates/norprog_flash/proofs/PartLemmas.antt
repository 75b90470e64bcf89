-- The part of a chip that is read: where it ends, and what lies outside it.
use Rattle.std.proofs.Common.{◌≡◌, ◌∙◌, ℕ, ◌+◌, ◌-◌, ◌*◌, ◌/◌, ◌%◌, ◌^◌, ◌<◌, ◌≤◌, min, true, is_some, [], Option, None, Some, refl, sym, ap, subst, arith, inl, inr}
use Rattle.std.specs.List.{list_any}
use Rattle.std.proofs.Math.Nat.{div-add-mod, mod-lt, mul-mod_left, mul_comm, zero-mod}
use Rattle.std.proofs.Math.Pow.{pow_mono}
use Rattle.std.proofs.lemmas.Bool.{and_parts, cases_lt}
use Rattle.nor_base.specs.Accepted.{IsAccepted, IsPowerOfTwo}
use Rattle.nor_base.specs.Array.{IsOutside}
use Rattle.nor_base.specs.declared.meaning.Erase.{Erase}
use Rattle.nor_base.specs.Parameters.{Parameters, allows, block_size, erase_kind}
use Rattle.nor_flasher.specs.Within.{DividesAll, IsBorder}
use Rattle.nor_geometry.proofs.KindLemmas.{size_of}
use Rattle.nor_geometry.proofs.WindowLemmas.{divides, multiple_of, window_power}
use Rattle.norprog_flash.specs.Begun.{ask_of}
use Rattle.norprog_flash.specs.declared.job.Job.{Job}
use Rattle.norprog_flash.specs.Near.{All as AllOfIt, Around as NearThese, IsNear, LiesIn, Spans, goes_near}
use Rattle.norprog_flash.specs.Task.{flash_task}
use Rattle.norprog_read.specs.declared.asked.Span.{Span}
use Rattle.norprog_read.specs.Span.{All, Around, IsPart, IsWide, Nothing, span, windows_around, windows_end}

-- ---- a window's size divides as no page and no block goes over its end
wide_power : (m : Parameters) (w : ℕ) → IsAccepted m → IsWide m w → IsPowerOfTwo 12 24 w
wide_power m w accepted (largest, size, is) = elim (cases_lt largest 65536) [
  | inl small ↦ record { exponent = 16; at_least = omega arith; at_most = omega arith; value = omega (arith, is, small) }
  | inr large ↦ let same : w ≡ largest = omega (arith, is, large) in subst (IsPowerOfTwo 12 24) (sym same) (window_power m largest accepted size)
]

page_whole : (m : Parameters) (w a : ℕ) → IsAccepted m → IsWide m w → a % w ≡ 0 → a % m.page ≡ 0
page_whole m w a accepted wide whole =
    let page = accepted.page in
    let few : 2 ^ page.exponent ≤ 2 ^ 12 = pow_mono page.at_most in
    let least = wide.1.least in
    let fits : m.page ≤ w = omega (arith, page.value, few, wide.2) in
    multiple_of a w m.page (divides 4 12 12 24 m.page w page (wide_power m w accepted wide) fits) whole

block_whole : (m : Parameters) (w a kind : ℕ) (slot : Option Erase) → IsAccepted m → IsWide m w → a % w ≡ 0 → block_size m kind ≤ w
    → erase_kind m kind ≡ slot → is_some slot ≡ true → a % block_size m kind ≡ 0
block_whole m w a kind None accepted wide whole fits there some = absurd cc
block_whole m w a kind (Some erase) accepted wide whole fits there some =
    let power : IsPowerOfTwo 8 24 (block_size m kind) = subst (IsPowerOfTwo 8 24) (sym (size_of m kind erase there)) (accepted.kinds kind erase there).size in
    multiple_of a w (block_size m kind) (divides 8 24 12 24 (block_size m kind) w power (wide_power m w accepted wide) fits) whole

divides_all : (m : Parameters) (w a : ℕ) → IsAccepted m → IsWide m w → a % w ≡ 0 → DividesAll m a
divides_all m w a accepted wide whole = record {
  page = page_whole m w a accepted wide whole;
  block = λ kind live.
      let most = wide.1.greatest kind live in
      block_whole m w a kind (erase_kind m kind) accepted wide whole (omega (arith, most, wide.2)) refl
      (and_parts (is_some (erase_kind m kind)) (list_any (λ r. allows r kind) m.regions) live).0;
}

-- ---- windows around some addresses
-- they end at a multiple of their size, or with the chip
high_border : (m : Parameters) (w high : ℕ) → IsAccepted m → IsWide m w → IsBorder m (windows_end high w m.size)
high_border m w high accepted wide =
    let whole = (min high m.size + (w - 1)) / w * w in
    elim (cases_lt whole m.size) [
      | inl inside ↦ let is : windows_end high w m.size ≡ whole = omega (arith, inside) in
          inr (divides_all m w (windows_end high w m.size) accepted wide (ap (λ n. n % w) is ∙ mul-mod_left ((min high m.size + (w - 1)) / w) w))
      | inr past ↦ inl (omega (arith, past))
    ]

low_border : (m : Parameters) (w : ℕ) (near : Span) → IsAccepted m → IsWide m w → IsBorder m (windows_around near w m.size).low
low_border m w near accepted wide =
    let whole = near.low / w * w in
    let end = windows_end near.high w m.size in
    elim (cases_lt whole end) [
      | inl before ↦ let is : min whole end ≡ whole = omega (arith, before) in
          inr (divides_all m w (min whole end) accepted wide (ap (λ n. n % w) is ∙ mul-mod_left (near.low / w) w))
      | inr past ↦ let is : min whole end ≡ end = omega (arith, past) in subst (IsBorder m) (sym is) (high_border m w near.high accepted wide)
    ]

-- and have all these addresses in them
outside_none : (near : Span) (w size x : ℕ) → 0 < w → x < size → IsOutside (windows_around near w size).low (windows_around near w size).high x → LiesIn near x → ⊥
outside_none near w size x some inside out lies =
    let reach = min near.high size + (w - 1) in
    let low = div-add-mod near.low w in
    let low_is = mul_comm (near.low / w) w in
    let high = div-add-mod reach w in
    let high_is = mul_comm (reach / w) w in
    let rest = mod-lt reach some in
    elim out [
      | inl before ↦ omega (arith, before, low, low_is, lies.0)
      | inr past ↦ omega (arith, past, high, high_is, rest, lies.1, inside)
    ]

-- ---- the part that was read
-- it is the whole chip, or the windows around those addresses of which each is that gets a byte
pub data IsRead (job : Job) (m : Parameters) : Span → Type 0 where
  Whole : IsRead job m (span 0 m.size)
  InPart : (near : Span) (window : ℕ) → goes_near job ≡ true → Spans (flash_task job [] 0) near → IsWide m window
      → IsRead job m (windows_around near window m.size)

around_is : (job : Job) (m : Parameters) (near other : Span) (window : ℕ) → other ≡ near → goes_near job ≡ true → Spans (flash_task job [] 0) near → IsWide m window
    → IsRead job m (windows_around other window m.size)
around_is job m near other window same goes spans wide =
    InPart other window goes (subst (Spans (flash_task job [] 0)) (sym same) spans) wide

pub read_part : (job : Job) (m : Parameters) (near : Option Span) (part : Span) → job.ask.content ≡ true → IsNear job near → IsPart (ask_of job near) m part
    → IsRead job m part
read_part job m near part wanted goes (Nothing none) = absurd cc
read_part job m near part wanted goes (All all nowhere) = Whole
read_part job m near part wanted (AllOfIt far) (Around these window all given wide) = absurd cc
read_part job m near part wanted (NearThese own goes spans) (Around these window all given wide) =
    let same : these ≡ own = cc in around_is job m own these window same goes spans wide

-- no page and no block lies across its borders
pub record HasBorders (m : Parameters) (part : Span) : Type 0 where
  pub low : IsBorder m part.low
  pub high : IsBorder m part.high
  pub order : part.low ≤ part.high
  pub upto : part.high ≤ m.size

first_border : (m : Parameters) → IsBorder m 0
first_border m = inr (record { page = zero-mod m.page; block = λ kind live. zero-mod (block_size m kind) })

pub part_borders : (job : Job) (m : Parameters) (part : Span) → IsAccepted m → IsRead job m part → HasBorders m part
part_borders job m part accepted Whole = record { low = first_border m; high = inl refl; order = omega arith; upto = omega arith }
part_borders job m part accepted (InPart near window goes spans wide) = record {
  low = low_border m window near accepted wide;
  high = high_border m window near.high accepted wide;
  order = omega arith;
  upto = omega arith;
}

-- outside it there is nothing; or no address gets a byte
pub none_outside : (job : Job) (m : Parameters) (part : Span) (x : ℕ) → IsRead job m part → x < m.size → IsOutside part.low part.high x
    → (near : Span) × (goes_near job ≡ true) × Spans (flash_task job [] 0) near × (LiesIn near x → ⊥)
none_outside job m part x Whole inside (inl before) = absurd (omega (arith, before))
none_outside job m part x Whole inside (inr past) = absurd (omega (arith, past, inside))
none_outside job m part x (InPart near window goes spans wide) inside out =
    (near, goes, spans, outside_none near window m.size x (omega (arith, wide.2)) inside out)
