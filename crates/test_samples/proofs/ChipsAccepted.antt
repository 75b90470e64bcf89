-- The sample chips are accepted.
use Rattle.std.proofs.Common.{◌≡◌, ℕ, Bool, true, false, List, ◌∷◌, [], Option, Some, None, refl, sym, subst}
use Rattle.std.specs.Bool.{then_some}
use Rattle.nor_base.specs.declared.meaning.Erase.{Erase}
use Rattle.nor_base.specs.declared.meaning.Region.{Region}
use Rattle.nor_base.specs.declared.meaning.Switch.{Switch}
use Rattle.nor_base.specs.Parameters.{Parameters}
use Rattle.nor_base.specs.Accepted.{IsAccepted}
use Rattle.test_samples.specs.Chips.{small, small_open_page, plain, large_by, twin}
use Rattle.test_samples.proofs.Acceptance.{accepted}

-- the fields of the small chip with such a page are accepted
pub open_page_built : (m : Parameters) → m ≡ small → IsAccepted (record m { page = 64; open_page = true })
open_page_built m is = subst (λ n. IsAccepted (record n { page = 64; open_page = true })) (sym is) (accepted small_open_page refl)

-- the fields of a chip like the small one, as code fills them in
pub plain_built : (m : Parameters) (size : ℕ) (erases : List (Option Erase)) (map regions : List Region) → m ≡ small → regions ≡ map
    → IsAccepted (plain size erases map) → IsAccepted (record m { size = size; erases = erases; regions = regions })
plain_built m size erases map regions is filled h = rw (is, filled) h

large_accepted : (switch : Switch) (dedicated quad3 : Bool) → IsAccepted (large_by switch dedicated quad3)
large_accepted switch true quad3 = accepted (large_by switch true quad3) refl
large_accepted switch false quad3 = accepted (large_by switch false quad3) refl

-- the fields of a large chip as code fills them in
pub large_built : (switch : Switch) (dedicated quad3 : Bool) (sectors blocks : Option ℕ) (regions : List Region)
    → sectors ≡ then_some dedicated 0x21 → blocks ≡ then_some dedicated 0xDC → regions ≡ record { size = 33554432; kinds = 15 } ∷ []
    → IsAccepted (record (large_by switch dedicated quad3) {
      erases = Some (record { size = 4096; op = 0x20; op4 = sectors })
          ∷ Some (record { size = 32768; op = 0x52; op4 = None })
          ∷ Some (record { size = 65536; op = 0xD8; op4 = blocks })
          ∷ None
          ∷ [];
      regions = regions;
    })
large_built switch dedicated quad3 sectors blocks regions first third filled = rw (first, third, filled) (large_accepted switch dedicated quad3)

twin_accepted : (dedicated : Bool) (leave : Switch) → IsAccepted (twin dedicated leave)
twin_accepted true leave = accepted (twin true leave) refl
twin_accepted false leave = accepted (twin false leave) refl

-- the same of the chip with two kinds of sectors
pub twin_built : (dedicated : Bool) (leave : Switch) (twins : Option ℕ) (regions : List Region) → twins ≡ then_some dedicated 0x21
    → regions ≡ record { size = 0xFFF000; kinds = 15 } ∷ record { size = 0x1001000; kinds = 15 } ∷ []
    → IsAccepted (record (twin dedicated leave) {
      erases = Some (record { size = 4096; op = 0x20; op4 = None })
          ∷ Some (record { size = 4096; op = 0xD7; op4 = twins })
          ∷ Some (record { size = 65536; op = 0xD8; op4 = Some 0xDC })
          ∷ None
          ∷ [];
      regions = regions;
    })
twin_built dedicated leave twins regions second filled = rw (second, filled) (twin_accepted dedicated leave)
