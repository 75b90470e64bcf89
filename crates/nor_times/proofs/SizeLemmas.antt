-- Bounds on sizes.
use Rattle.std.proofs.Common.{◌≤◌, subst, sym}
use Rattle.std.proofs.Math.Pow.{pow_mono}
use Rattle.nor_base.specs.Accepted.{IsAccepted}
use Rattle.nor_base.specs.Parameters.{Parameters}

pub page_at_most : (m : Parameters) → IsAccepted m → m.page ≤ 4096
page_at_most m accepted = subst (λ n. n ≤ 4096) (sym accepted.page.value) (pow_mono accepted.page.at_most)
