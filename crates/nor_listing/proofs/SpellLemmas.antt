-- The clocks that a chip takes are those of their row, opcode, address and data.
use Rattle.std.proofs.Common.{◌≡◌, ℕ, ◌+◌, ◌*◌, ◌/◌, ◌%◌, ◌<◌, ◌≤◌, ◌==◌, ◌&&◌, ◌||◌, Bool, true, false, cond, List, [], ◌∷◌, length, Option, Some, inl, inr, refl, sym, ◌∙◌, ap, subst, arith, eqb-true}
use Rattle.std.specs.Prelude.{◌⊎◌, not, nat_lt}
use Rattle.std.specs.List.{AllByRecursion, list_all, find}
use Rattle.std.proofs.lemmas.Bool.{and_parts, ltb-true}
use Rattle.std.proofs.lemmas.List.{length-replicate}
use Rattle.nor_base.specs.declared.instruction.What.{What}
use Rattle.nor_base.specs.declared.instruction.What.TheVariants as what
use Rattle.nor_base.specs.Clocks.{CanCarry}
use Rattle.nor_base.specs.Decoding.{Instruction, decode, opcode, is_data, is_bit_sent, is_nibble_sent, is_bit_sampled, is_nibble_sampled, are_groups, bytes_of_bits, bytes_of_nibbles}
use Rattle.nor_base.specs.Effect.{has_address}
use Rattle.nor_base.specs.Instructions.{Form, nothing, sends, sends4, samples, samples4, form_of, Row, row_of, table, quad_read_dummies}
use Rattle.nor_base.specs.Parameters.{Parameters}
use Rattle.nor_base.proofs.ListLaws.{found_passes}
use Rattle.nor_decode.proofs.SmallLemmas.{sent_below}
use Rattle.nor_laws.specs.Spelling.{OneSpelling}
use Rattle.nor_listing.proofs.ReadLemmas.{all_bytes_of}
use Rattle.nor_listing.proofs.TakenLemmas.{Takes, spelled_by, seen_same, bytes_for, opcode_small, all_small}
use Rattle.nor_listing.proofs.ToldLemmas.{clocks_for}

-- where there are data clocks there is a byte
some_bits : (xs : List ℕ) → length xs ≤ 8 * length (bytes_of_bits xs) + 7
some_bits (a ∷ b ∷ c ∷ d ∷ e ∷ f ∷ g ∷ h ∷ more) = let later = some_bits more in omega (arith, later)
some_bits [] = omega arith
some_bits (a ∷ []) = omega arith
some_bits (a ∷ b ∷ []) = omega arith
some_bits (a ∷ b ∷ c ∷ []) = omega arith
some_bits (a ∷ b ∷ c ∷ d ∷ []) = omega arith
some_bits (a ∷ b ∷ c ∷ d ∷ e ∷ []) = omega arith
some_bits (a ∷ b ∷ c ∷ d ∷ e ∷ f ∷ []) = omega arith
some_bits (a ∷ b ∷ c ∷ d ∷ e ∷ f ∷ g ∷ []) = omega arith

some_nibbles : (xs : List ℕ) → length xs ≤ 2 * length (bytes_of_nibbles xs) + 1
some_nibbles (a ∷ b ∷ more) = let later = some_nibbles more in omega (arith, later)
some_nibbles [] = omega arith
some_nibbles (a ∷ []) = omega arith

-- groups of clocks, and not none
record Groups (n : ℕ) (body : List ℕ) : Type 0 where
  filled : 0 < length body
  whole : length body % n ≡ 0

groups : (n : ℕ) (body : List ℕ) → are_groups n body ≡ true → Groups n body
groups n body is =
    let parts = and_parts (nat_lt 0 (length body)) (length body % n == 0) is in
    record { filled = ltb-true 0 (length body) parts.0; whole = eqb-true (length body % n) 0 parts.1 }

carries : (form : Form) (body : List ℕ) → is_data form body ≡ true → CanCarry form (bytes_for form body)
unfolding is_data
carries nothing body is = tt
carries sends body is =
    let its = groups 8 body (and_parts (are_groups 8 body) (list_all is_bit_sent body) is).0 in
    let filled = its.filled in
    let whole = its.whole in
    (omega (arith, some_bits body, filled, whole), all_bytes_of (bytes_of_bits body) (all_small (bytes_of_bits body) (sent_below sends body)))
carries sends4 body is =
    let its = groups 2 body (and_parts (are_groups 2 body) (list_all is_nibble_sent body) is).0 in
    let filled = its.filled in
    let whole = its.whole in
    (omega (arith, some_nibbles body, filled, whole), all_bytes_of (bytes_of_nibbles body) (all_small (bytes_of_nibbles body) (sent_below sends4 body)))
carries samples body is =
    let its = groups 8 body (and_parts (are_groups 8 body) (list_all is_bit_sampled body) is).0 in
    let filled = its.filled in
    let whole = its.whole in
    omega (arith, length-replicate {A = ℕ} (length body / 8) 0, filled, whole)
carries samples4 body is =
    let its = groups 2 body (and_parts (are_groups 2 body) (list_all is_nibble_sampled body) is).0 in
    let filled = its.filled in
    let whole = its.whole in
    omega (arith, length-replicate {A = ℕ} (length body / 2) 0, filled, whole)

module _ (law : OneSpelling) (m : Parameters) (mode4 : Bool) (clocks : List ℕ) (i : Instruction) where
  pub clocks_are : (s : Takes m mode4 clocks i) → decode m mode4 clocks ≡ Some i → clocks ≡ clocks_for s.r.what (opcode clocks) s.address s.r.width s.r.dummies s.body
  clocks_are s sees =
      let spelled = spelled_by s.r (opcode clocks) s.address s.body in
      law m mode4 spelled clocks (record { r = s.r; found = s.found; its_what = refl; its_width = refl; its_dummies = refl })
      (record { op = opcode_small clocks; address = s.within; carried = carries (form_of s.r.what) s.body s.shaped })
      (record { begins = refl; decodes = sees ∙ ap (λ (k : Instruction). Some k) (sym s.is ∙ seen_same s.r (opcode clocks) s.address s.body) })

-- the dummy clocks and the address bytes of a row
abbrev pub dummies_for : Parameters → What → ℕ
dummies_for m what.QuadRead = quad_read_dummies m
dummies_for m other = 0

abbrev HasDummies : Parameters → Row → Type 0
HasDummies m r = r.dummies ≡ dummies_for m r.what

find_step : {A : Type 0} (P : A → Type 0) (b : Bool) (x y : A) (o : Option A) → P x → (o ≡ Some y → P y) → cond b (Some x) o ≡ Some y → P y
find_step P true x y o here later h = let same : x ≡ y = cc in subst P same here
find_step P false x y o here later h = later h

find_all : {A : Type 0} (P : A → Type 0) (p : A → Bool) (xs : List A) (y : A) → AllByRecursion P xs → find p xs ≡ Some y → P y
find_all P p [] y each h = cc
find_all P p (x ∷ xs) y each h = find_step P (p x) x y (find p xs) each.0 (find_all P p xs y each.1) h

pub row_dummies : (m : Parameters) (mode4 : Bool) (op : ℕ) (r : Row) → row_of m mode4 op ≡ Some r → r.dummies ≡ dummies_for m r.what
unfolding row_of
row_dummies m mode4 op r h = find_all (HasDummies m) (λ (r : Row). (op == r.opcode) && r.offered) (table m mode4) r
    (refl, (refl, (refl, (refl, (refl, (refl, (refl, (refl, (refl, (refl, (refl, (refl, (refl, (refl, (refl, (refl, (refl, (refl, (refl, (refl, (refl, tt))))))))))))))))))))) h

abbrev is_wide : Row → Bool
is_wide r = not (has_address r.what) || (r.width == 3 || r.width == 4)

row_wide : (m : Parameters) (mode4 : Bool) (op : ℕ) (r : Row) → row_of m mode4 op ≡ Some r → is_wide r ≡ true
unfolding row_of
row_wide m true op r h = (found_passes (λ (r : Row). (op == r.opcode) && r.offered) is_wide (table m true) r refl h).all
row_wide m false op r h = (found_passes (λ (r : Row). (op == r.opcode) && r.offered) is_wide (table m false) r refl h).all

abbrev is_narrow : Row → Bool
is_narrow r = has_address r.what || (r.width == 0)

row_bare : (m : Parameters) (mode4 : Bool) (op : ℕ) (r : Row) → row_of m mode4 op ≡ Some r → is_narrow r ≡ true
unfolding row_of
row_bare m mode4 op r h = (found_passes (λ (r : Row). (op == r.opcode) && r.offered) is_narrow (table m mode4) r refl h).all

pub bare_width : (m : Parameters) (mode4 : Bool) (op : ℕ) (r : Row) → row_of m mode4 op ≡ Some r → has_address r.what ≡ false → r.width ≡ 0
bare_width m mode4 op r h none = eqb-true r.width 0 (sym (ap (λ b. b || (r.width == 0)) none) ∙ row_bare m mode4 op r h)

three_or_four : (n : ℕ) → (n == 3 || n == 4) ≡ true → (n ≡ 3) ⊎ (n ≡ 4)
three_or_four n h = by (n == 3) refl h
  where
    by : (b : Bool) → (n == 3) ≡ b → (b || n == 4) ≡ true → (n ≡ 3) ⊎ (n ≡ 4)
    by true is h = inl (eqb-true n 3 is)
    by false is h = inr (eqb-true n 4 h)

pub place_width : (m : Parameters) (mode4 : Bool) (op : ℕ) (r : Row) → row_of m mode4 op ≡ Some r → has_address r.what ≡ true → (r.width ≡ 3) ⊎ (r.width ≡ 4)
place_width m mode4 op r h has = three_or_four r.width (sym (ap (λ b. not b || (r.width == 3 || r.width == 4)) has) ∙ row_wide m mode4 op r h)
