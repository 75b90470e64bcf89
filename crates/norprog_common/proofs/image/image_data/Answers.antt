-- The text as it is, or the raw bytes where they lie.
use Rattle.std.proofs.Common.{◌≡◌, length, option_map, subst, arith, refl}
use Rattle.std.proofs.lemmas.Grind.{common_steps}
use Rattle.nor_base.proofs.FaultLaws.{handed_on}
use Rattle.norprog_common.specs.Image.{As_is, IsStart, Misses, Nowhere, place_in}
use Rattle.norprog_common.proofs.ImageLemmas.{raw_lies, raw_refused}
use Rattle.norprog_common.proofs.image.image_data.Goals as goal

pub returns-in-Hex-clause-gives : goal.returns-in-Hex-clause-gives
returns-in-Hex-clause-gives c = rw c.in-Hex.is (As_is c.in-Hex.field-0.now _ refl refl)

pub returns-in_err-start-in-Bin-clause-refused : goal.returns-in_err-start-in-Bin-clause-refused
returns-in_err-start-in-Bin-clause-refused c =
    let ok = c.args.bytes.ok in
    let len : c.len.result ≡ length c.args.bytes.items = grind (arith, common_steps, c.len.ensures) in
    rw c.in-Bin.is
    (handed_on _ _ _ c.from_residual.ensures.1
    (Nowhere (place_in c.in-Bin.place) c.in-Bin.path.now _
    (subst (λ n. Misses (option_map (λ t. t.now) c.args.layout) n (place_in c.in-Bin.place) c.in_err-start-in-Bin.field-0.0) len c.in_err-start-in-Bin.ensures.refused)))

pub returns-in_err-image-in-Bin-clause-refused : goal.returns-in_err-image-in-Bin-clause-refused
returns-in_err-image-in-Bin-clause-refused c =
    let ok = c.args.bytes.ok in
    let len : c.len.result ≡ length c.args.bytes.items = grind (arith, common_steps, c.len.ensures) in
    rw c.in-Bin.is
    (handed_on _ _ _ c.from_residual-in_err-image-in-Bin.ensures.1
    (raw_refused c.args.base c.in_ok-start-in-Bin.start (option_map (λ t. t.now) c.args.layout) c.args.bytes.items c.as_slice.result.now (place_in c.in-Bin.place)
    c.in-Bin.path.now c.as_slice.ensures.value
    (subst (λ n. IsStart (option_map (λ t. t.now) c.args.layout) n (place_in c.in-Bin.place) c.in_ok-start-in-Bin.start) len c.in_ok-start-in-Bin.ensures.start)
    _ c.in_err-image-in-Bin.ensures.refused))

pub returns-in_ok-image-in-Bin-clause-gives : goal.returns-in_ok-image-in-Bin-clause-gives
returns-in_ok-image-in-Bin-clause-gives c =
    let ok = c.args.bytes.ok in
    let len : c.len.result ≡ length c.args.bytes.items = grind (arith, common_steps, c.len.ensures) in
    rw c.in-Bin.is
    (raw_lies c.args.base c.in_ok-start-in-Bin.start (option_map (λ t. t.now) c.args.layout) c.args.bytes.items c.as_slice.result.now (place_in c.in-Bin.place)
    c.in-Bin.path.now c.as_slice.ensures.value
    (subst (λ n. IsStart (option_map (λ t. t.now) c.args.layout) n (place_in c.in-Bin.place) c.in_ok-start-in-Bin.start) len c.in_ok-start-in-Bin.ensures.start)
    c.in_ok-image-in-Bin.image c.in_ok-image-in-Bin.ensures.image)
