-- What a chip sees in clocks, by the transaction that they are.
use Rattle.std.proofs.Common.{◌≡◌, ℕ, ◌≤◌, Bool, true, false, List, take, length, Option, Some, None, refl, sym, ◌∙◌, ap}
use Rattle.std.specs.Prelude.{nat_le, if◌then◌else◌}
use Rattle.std.specs.List.{list_all}
use Rattle.std.proofs.lemmas.Bool.{and_parts, leb-true}
use Rattle.nor_base.specs.Parameters.{Parameters}
use Rattle.nor_base.specs.Decoding.{Transaction, Instruction, transaction, decode, has_opcode, is_bit_sent}
use Rattle.nor_base.specs.Run.{is_verify}
use Rattle.nor_base.specs.Script.{closed}
use Rattle.nor_listing.specs.Listing.{verify_words}

-- with a transaction there is an opcode
pub has_eight : (m : Parameters) (mode4 : Bool) (clocks : List ℕ) (t : Transaction) → Some t ≡ transaction m mode4 clocks → 8 ≤ length clocks
unfolding transaction has_opcode
has_eight m mode4 clocks t is = leb-true 8 (length clocks) (and_parts (nat_le 8 (length clocks)) (list_all is_bit_sent (take 8 clocks)) (there _ _ t is)).0
  where
    there : (b : Bool) (o : Option Transaction) (t : Transaction) → Some t ≡ (if b then o else None) → b ≡ true
    there true o t is = refl
    there false o t is = cc

-- the words of a verify, by what a chip sees in clocks that one may have
pub verified_by : (m : Parameters) (mode4 : Bool) (clocks expect : List ℕ) (o : Option Instruction) → is_verify clocks ≡ true → decode m mode4 clocks ≡ o
    → closed (verify_words clocks expect o) ≡ closed (verify_words clocks expect (if is_verify clocks then decode m mode4 clocks else None))
verified_by m mode4 clocks expect o may is =
    ap (λ p. closed (verify_words clocks expect p)) (sym is) ∙ ap (λ b. closed (verify_words clocks expect (if b then decode m mode4 clocks else None))) (sym may)
