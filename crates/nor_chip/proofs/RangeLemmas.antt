-- What lies on the chip.
use Rattle.std.proofs.Common.{◌≡◌, ℕ, ◌+◌, ◌-◌, ◌*◌, ◌/◌, ◌%◌, ◌^◌, ◌<◌, ◌≤◌, ◌==◌, nat_le, nat_lt, Bool, true, false, ◌&&◌, ◌||◌, Option, Some, None, option_map, refl, sym, ◌∙◌, ap, subst, arith, inl, inr, eqb-true}
use Rattle.std.specs.List.{list_any}
use Rattle.std.specs.Option.{option_map_or}
use Rattle.std.proofs.lemmas.Bool.{and_parts, cases_lt, leb-false, ltb-false, not-false, or_cases, or_parts}
use Rattle.std.proofs.Math.Nat.{mul-le-mul_left}
use Rattle.std.proofs.lemmas.Nat.{pow-add, pow_pos}
use Rattle.nor_base.specs.declared.meaning.Erase.{Erase}
use Rattle.nor_base.specs.declared.instruction.What.{What}
use Rattle.nor_base.specs.declared.instruction.What.TheVariants as what
use Rattle.nor_base.specs.Parameters.{Parameters, erase_kind, block_size}
use Rattle.nor_base.specs.Accepted.{IsAccepted, IsPowerOfTwo}
use Rattle.nor_base.specs.Chip.{may_page, page_sizes}
use Rattle.nor_base.specs.Blocks.{is_legal, lies_in_one}
use Rattle.nor_base.specs.Decoding.{Instruction}
use Rattle.nor_base.specs.Effect.{has_address, is_program, is_read, starts_no_block, is_out_of_range, page_start}
use Rattle.nor_base.proofs.RegionLaws.{legal_on_chip}

size_step : (page exponent : ℕ) (rest : Bool) → 4 ≤ exponent → exponent ≤ 12 → (page == 2 ^ exponent) || rest ≡ true → (rest ≡ true → IsPowerOfTwo 4 12 page)
    → IsPowerOfTwo 4 12 page
size_step page exponent rest low high h other = elim (or_cases (page == 2 ^ exponent) rest h) [
  | inl same ↦ record { exponent = exponent; at_least = low; at_most = high; value = eqb-true page (2 ^ exponent) same }
  | inr more ↦ other more
]

-- each size that a page may have is a power of two from 16 to 4096
page_size_is_power : (page : ℕ) → list_any (λ size. page == size) page_sizes ≡ true → IsPowerOfTwo 4 12 page
page_size_is_power page h =
    size_step page 4 _ (omega arith) (omega arith) h (λ h5.
    size_step page 5 _ (omega arith) (omega arith) h5 (λ h6.
    size_step page 6 _ (omega arith) (omega arith) h6 (λ h7.
    size_step page 7 _ (omega arith) (omega arith) h7 (λ h8.
    size_step page 8 _ (omega arith) (omega arith) h8 (λ h9.
    size_step page 9 _ (omega arith) (omega arith) h9 (λ h10.
    size_step page 10 _ (omega arith) (omega arith) h10 (λ h11.
    size_step page 11 _ (omega arith) (omega arith) h11 (λ h12.
    size_step page 12 _ (omega arith) (omega arith) h12 (λ none. cc)))))))))

-- so is each page that a chip may have
pub page_is_power : (m : Parameters) (page : ℕ) → IsAccepted m → may_page m page ≡ true → IsPowerOfTwo 4 12 page
page_is_power m page accepted may = elim (or_cases (page == m.page) _ may) [
  | inl own ↦ subst (IsPowerOfTwo 4 12) (sym (eqb-true page m.page own)) accepted.page
  | inr larger ↦ page_size_is_power page (and_parts (nat_le m.page page) _ (and_parts m.open_page _ larger).1).1
]

pub page_not_empty : (page : ℕ) → IsPowerOfTwo 4 12 page → 0 < page
page_not_empty page e = subst (λ n. 0 < n) (sym e.value) (pow_pos e.exponent)

-- a page that holds an address of the chip lies on the chip
pub page_inside : (m : Parameters) (page address : ℕ) → IsAccepted m → IsPowerOfTwo 4 12 page → address < m.size → page_start page address + page ≤ m.size
page_inside m page address accepted e inside =
    let whole : e.exponent + (12 - e.exponent) ≡ 12 = omega (arith, e.at_most) in
    let twelve : 4096 ≡ page * 2 ^ (12 - e.exponent) =
    ap (λ n. 2 ^ n) (sym whole) ∙ pow-add 2 e.exponent (12 - e.exponent) ∙ ap (λ n. n * 2 ^ (12 - e.exponent)) (sym e.value) in
    let pages : m.size ≡ page * (2 ^ (12 - e.exponent) * (m.size / 4096)) =
    (let parts : m.size ≡ 4096 * (m.size / 4096) = omega (arith, accepted.size_whole) in parts) ∙ ap (λ n. n * (m.size / 4096)) twelve ∙ omega arith in
    let some = page_not_empty page e in
    elim (cases_lt (address / page) (2 ^ (12 - e.exponent) * (m.size / 4096))) [
      | inl low ↦
          let up : page * (address / page + 1) ≤ page * (2 ^ (12 - e.exponent) * (m.size / 4096)) = mul-le-mul_left page (omega arith) in
          omega (arith, up, pages, some)
      | inr high ↦
          let up : page * (2 ^ (12 - e.exponent) * (m.size / 4096)) ≤ page * (address / page) = mul-le-mul_left page high in
          absurd (omega (arith, up, pages, some, inside))
    ]

named_in_range : (m : Parameters) (w : What) (address asked : ℕ) → has_address w ≡ true
    → (has_address w && nat_le m.size address) || ((is_read w && nat_lt m.size (address + asked)) || starts_no_block m w address) ≡ false → address < m.size
named_in_range m w address asked named h =
    leb-false m.size address (ap (λ b. b && nat_le m.size address) (sym named) ∙ (or_parts _ _ h).0)

program_has_address : (w : What) → is_program w ≡ true → has_address w ≡ true
program_has_address what.Program h = refl
program_has_address what.QuadProgram h = refl
program_has_address other h = cc

pub program_in_range : (m : Parameters) (i : Instruction) → is_program i.what ≡ true → is_out_of_range m i ≡ false → i.address < m.size
unfolding is_out_of_range
program_in_range m i program h = named_in_range m i.what i.address i.asked (program_has_address i.what program) h

pub read_in_range : (m : Parameters) (i : Instruction) → is_read i.what ≡ true → is_out_of_range m i ≡ false → i.address + i.asked ≤ m.size
unfolding is_out_of_range
read_in_range m i read h =
    ltb-false m.size (i.address + i.asked)
    (ap (λ b. b && nat_lt m.size (i.address + i.asked)) (sym read) ∙ (or_parts _ _ (or_parts (has_address i.what && nat_le m.size i.address) _ h).1).0)

erase_told : (m : Parameters) (w : What) (kind address : ℕ) → w ≡ what.Erase kind → starts_no_block m w address ≡ false → is_legal m kind address ≡ true
erase_told m w kind address is h = not-false (is_legal m kind address) (ap (λ v. starts_no_block m v address) (sym is) ∙ h)

pub erase_in_range : (m : Parameters) (i : Instruction) (kind : ℕ) → i.what ≡ what.Erase kind → is_out_of_range m i ≡ false → is_legal m kind i.address ≡ true
unfolding is_out_of_range
erase_in_range m i kind is h =
    erase_told m i.what kind i.address is (or_parts (is_read i.what && nat_lt m.size (i.address + i.asked)) _ (or_parts (has_address i.what && nat_le m.size i.address) _ h).1).1

legal_slot : (m : Parameters) (kind start : ℕ) (slot : Option Erase)
    → option_map_or (λ (erase : Erase). (start % erase.size == 0) && lies_in_one 0 m.regions kind start erase.size) slot false ≡ true
    → option_map (λ (erase : Erase). erase.size) slot ≡ Some (option_map_or (λ (erase : Erase). erase.size) slot 0)
legal_slot m kind start None h = cc
legal_slot m kind start (Some erase) h = refl

-- a legal block of a kind lies on the chip
pub legal_inside : (m : Parameters) (kind start : ℕ) → IsAccepted m → is_legal m kind start ≡ true → start + block_size m kind ≤ m.size
unfolding is_legal
legal_inside m kind start accepted h =
    legal_on_chip m (record { start = start; size = block_size m kind; kind = kind }) accepted
    (record { size = legal_slot m kind start (erase_kind m kind) h; legal = h })
