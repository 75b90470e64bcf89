-- Lines in parts: a number before words; what stands before the bytes of a line, the bytes, and LF.
use Rattle.std.proofs.Common.{◌≡◌, ℕ, Bool, List, [], ◌∷◌, ◌++◌, Option, Result, sym, ◌∙◌, ap, subst, append_assoc}
use Rattle.std.specs.Prelude.{codes, decimal}
use Rattle.std.specs.Io.KnownBytes.{Appends}
use Rattle.nor_base.specs.declared.device.Failed.{Failed}
use Rattle.nor_base.specs.declared.step.Step.{Step}
use Rattle.nor_base.specs.Device.{Cuts, Writes}
use Rattle.nor_base.specs.Parameters.{Parameters}
use Rattle.nor_base.specs.Script.{closed}
use Rattle.nor_base.proofs.DeviceLaws.{Cuts-then, Cuts-more, Writes-then}
use Rattle.nor_listing.specs.Listing.{words, line}

-- a line behind some words
pub closed_then : (front line : List ℕ) → front ++ closed line ≡ closed (front ++ line)
closed_then front line = sym (append_assoc front line (0x0A ∷ []))

-- a line that ends with a number
pub count_line : (word op place count : List ℕ) → word ++ (op ++ (place ++ (count ++ 0x0A ∷ []))) ≡ closed (word ++ (op ++ (place ++ count)))
count_line word op place count = sym (simp append_assoc)

module _ (word op place count bytes : List ℕ) where
  abbrev pub before_data : List ℕ
  before_data = word ++ (op ++ (place ++ (count ++ 0x20 ∷ [])))

  abbrev pub data_line : List ℕ
  data_line = closed (word ++ (op ++ (place ++ (count ++ 0x20 ∷ bytes))))

  in_parts : before_data ++ (bytes ++ 0x0A ∷ []) ≡ data_line
  in_parts = sym (simp append_assoc)

  pub before_cut : (a b : Option (List ℕ)) → Cuts a b before_data → Cuts a b data_line
  before_cut a b cut = subst (Cuts a b) in_parts (Cuts-more a b before_data (bytes ++ 0x0A ∷ []) cut)

  pub data_cut : (a b c : Option (List ℕ)) → Appends a b before_data → Cuts b c bytes → Cuts a c data_line
  data_cut a b c put cut = subst (Cuts a c) in_parts (Cuts-then a b c before_data (bytes ++ 0x0A ∷ []) put (Cuts-more b c bytes (0x0A ∷ []) cut))

  pub data_put : {T : Type 0} (a b c d : Option (List ℕ)) (r : Result T Failed) → Appends a b before_data → Appends b c bytes → Writes c d r (0x0A ∷ []) → Writes a d r data_line
  data_put a b c d r front middle end =
      subst (Writes a d r) in_parts (Writes-then a b d r before_data (bytes ++ 0x0A ∷ []) front (Writes-then b c d r bytes (0x0A ∷ []) middle end))

-- a number and a blank, and then the words of its step
module _ (m : Parameters) (n : ℕ) (mode4 : Bool) (x : Step) (digits : List ℕ) (same : digits ≡ decimal n) where
  numbered : (digits ++ codes " ") ++ closed (words m mode4 x) ≡ line m n mode4 x
  unfolding line
  numbered =
      ap (λ (d : List ℕ). (d ++ codes " ") ++ closed (words m mode4 x)) same ∙ append_assoc (decimal n) (codes " ") (closed (words m mode4 x))
      ∙ sym (append_assoc (decimal n) (codes " " ++ words m mode4 x) (0x0A ∷ []))

  pub number_cut : (a b : Option (List ℕ)) → Cuts a b (digits ++ codes " ") → Cuts a b (line m n mode4 x)
  number_cut a b cut = subst (Cuts a b) numbered (Cuts-more a b (digits ++ codes " ") (closed (words m mode4 x)) cut)

  pub number_put : {T : Type 0} (a b c : Option (List ℕ)) (r : Result T Failed) → Appends a b (digits ++ codes " ") → Writes b c r (closed (words m mode4 x))
      → Writes a c r (line m n mode4 x)
  number_put a b c r front rest = subst (Writes a c r) numbered (Writes-then a b c r (digits ++ codes " ") (closed (words m mode4 x)) front rest)
