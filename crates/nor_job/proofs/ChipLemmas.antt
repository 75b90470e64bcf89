-- What the inputs say of the chip is one meaning.
use Rattle.std.proofs.Common.{◌≡◌, ◌∙◌, sym, ap, ℕ, Bool, Option, Some, Result, Ok}
use Rattle.nor_base.specs.declared.meaning.Part.{Part}
use Rattle.nor_base.specs.Parameters.{Parameters}
use Rattle.nor_sfdp.specs.Reading.{meaning_of}
use Rattle.nor_sheet.proofs.ApartLemmas.{one_meaning}
use Rattle.nor_job.specs.Chip.{IsMeaning, OriginSays, paged, profiled, uniform_says}
use Rattle.nor_job.specs.Task.{Origin, Sfdp, Sheet, Uniform}

meaning_same : {E : Type 0} (r : Result Parameters E) (m n : Parameters) → r ≡ Ok m → r ≡ Ok n → m ≡ n
meaning_same r m n is_m is_n = cc

one_origin : (origin : Origin) (part : Part) (m n : Parameters) → OriginSays origin part m → OriginSays origin part n → m ≡ n
one_origin (Sfdp bytes bits) part m n a b = meaning_same (meaning_of bytes bits part) m n a b
one_origin (Uniform size) part m n a b = meaning_same (uniform_says size) m n a b
one_origin (Sheet text) part m n a b = one_meaning text m n a b

page_same : (o : Option Parameters) (m n : Parameters) → o ≡ Some m → o ≡ Some n → m ≡ n
page_same o m n is_m is_n = cc

pub one_chip : {origin : Origin} {part : Part} {page : Option ℕ} {erased_only : Bool} {m n : Parameters} → IsMeaning origin part page erased_only m
    → IsMeaning origin part page erased_only n → m ≡ n
one_chip {origin} {part} {page} {erased_only} a b =
    let own = one_origin origin part a.own b.own a.says b.says in
    a.profile ∙ ap (profiled erased_only) (page_same (paged page a.own) a.its b.its a.with_page (ap (paged page) own ∙ b.with_page)) ∙ sym b.profile
