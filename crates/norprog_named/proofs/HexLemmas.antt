-- How the steps of `hex` that end it do.
use Rattle.std.proofs.Common.{◌≡◌, ◌⊎◌, ℕ, inl, inr, List, [], ◌∷◌, Option, Ok, Err, subst, sym, take}
use Rattle.nor_base.specs.Device.{Ahead}
use Rattle.nor_hex.specs.Converted as hex
use Rattle.nor_hex.specs.WrittenSegments.{hex_text}
use Rattle.nor_hex.specs.declared.converted.Unconverted.{Unconverted}
use Rattle.norprog_files.specs.Files.{Event, IsClosed, Leaves_it, Loses, Loses_some, Lost, Made, Opened, Sends_all, Sent}
use Rattle.norprog_files.specs.declared.replaced.OutKind.TheVariants.{Hex}
use Rattle.norprog_named.specs.Hex.{BadImage, BadOutput, Converted, Cut, EndsHex, IsUnended, NoMemory, refusal_of}
use Rattle.norprog_named.specs.declared.hex_request.HexRequest.{HexRequest}

module _ (Unread : Type 0) (r : HexRequest) (image : Ahead) (len : ℕ) (begun ended : Option (List ℕ)) where
  unended : (last : Event) → IsClosed r.out.path.now ended last → hex.IsUnended r.at begun ended → IsUnended r (Made r.out Hex begun ∷ last ∷ [])
  unended last closed cut = Cut cut.0 cut.1.0 _ cut.1.1 (Leaves_it begun ended last cut.1.2 closed)

  pub unconverted : {A B : Type 0} (last : Event) (why : Unconverted) → (A → Unread) → (B → last ≡ Lost r.out.path.now ended) → IsClosed r.out.path.now ended last
      → hex.Stops (A ⊎ hex.HasOtherLength len image) B why → hex.IsUnended r.at begun ended
      → EndsHex Unread r (Opened r.bin.now image len ∷ Made r.out Hex begun ∷ last ∷ []) (Err (refusal_of why))
  unconverted last why read lost closed (hex.Unreadable cause) cut =
      BadImage image len _ (elim cause [ inl failed ↦ inl (read failed) | inr other ↦ inr other ]) (unended last closed cut)
  unconverted last why read lost closed (hex.Unwritable failed) cut =
      let text = take cut.1.0 (hex_text r.at cut.0) in
      BadOutput image len text _ (subst (λ (e : Event). Loses r.out Hex text (Made r.out Hex begun ∷ e ∷ [])) (sym (lost failed)) (Loses_some begun ended cut.1.2))
  unconverted last why read lost closed hex.Unallotted cut = NoMemory image len _ (unended last closed cut)

  pub converted : hex.IsConverted r.at len image begun ended → EndsHex Unread r (Opened r.bin.now image len ∷ Made r.out Hex begun ∷ Sent r.out.path.now ended ∷ []) (Ok 0)
  converted is = subst (λ (n : ℕ). EndsHex Unread r (Opened r.bin.now image n ∷ Made r.out Hex begun ∷ Sent r.out.path.now ended ∷ []) (Ok 0)) is.long
      (Converted image is.bytes _ is.whole (Sends_all begun ended is.put))
