-- The lines before were put, and at a failure a proper prefix of these.
use Rattle.std.proofs.Common.{◌∙◌, ◌++◌, ap, subst}
use Rattle.std.specs.Io.KnownBytes.{Appends}
use Rattle.nor_base.specs.Device.{Cuts, Writes}
use Rattle.nor_base.specs.Parameters.{Parameters}
use Rattle.std.specs.Prelude.{flat_map}
use Rattle.norprog.specs.ChipText.{front_text, erases_text, modes_text, quad_read_text, dedicated_text, region_text, meaning_text}
use Rattle.nor_base.proofs.DeviceLaws.{Cuts-then, Cuts-more, Writes-then, Writes-cut}
use Rattle.norprog.proofs.chip_text.sfdp_text.Goals as goal

pub returns-in_err-put_front-clause-bytes : goal.returns-in_err-put_front-clause-bytes
unfolding meaning_text
returns-in_err-put_front-clause-bytes g c =
    let m = c.args.meaning.now in
    Writes-cut _ _ _ _ c.from_residual.ensures.0
    (Cuts-more _ _ (front_text m) (erases_text m ++ (modes_text m ++ (quad_read_text m.quad_read ++ (dedicated_text m ++ (flat_map region_text m.regions))))) c.in_err-put_front.ensures.bytes)

pub returns-in_err-put_erases-clause-bytes : goal.returns-in_err-put_erases-clause-bytes
unfolding meaning_text
returns-in_err-put_erases-clause-bytes g c =
    let m = c.args.meaning.now in
    Writes-cut _ _ _ _ c.from_residual-in_err-put_erases.ensures.0
    (Cuts-then _ _ _ (front_text m) (erases_text m ++ (modes_text m ++ (quad_read_text m.quad_read ++ (dedicated_text m ++ (flat_map region_text m.regions))))) c.in_ok-put_front.ensures.bytes
    (Cuts-more _ _ (erases_text m) (modes_text m ++ (quad_read_text m.quad_read ++ (dedicated_text m ++ (flat_map region_text m.regions)))) c.in_err-put_erases.ensures.bytes))

pub returns-in_err-put_modes-clause-bytes : goal.returns-in_err-put_modes-clause-bytes
unfolding meaning_text
returns-in_err-put_modes-clause-bytes g c =
    let m = c.args.meaning.now in
    Writes-cut _ _ _ _ c.from_residual-in_err-put_modes.ensures.0
    (Cuts-then _ _ _ (front_text m) (erases_text m ++ (modes_text m ++ (quad_read_text m.quad_read ++ (dedicated_text m ++ (flat_map region_text m.regions))))) c.in_ok-put_front.ensures.bytes
    (Cuts-then _ _ _ (erases_text m) (modes_text m ++ (quad_read_text m.quad_read ++ (dedicated_text m ++ (flat_map region_text m.regions)))) c.in_ok-put_erases.ensures.bytes
    (Cuts-more _ _ (modes_text m) (quad_read_text m.quad_read ++ (dedicated_text m ++ (flat_map region_text m.regions))) c.in_err-put_modes.ensures.bytes)))

pub returns-in_err-put_quad_read-clause-bytes : goal.returns-in_err-put_quad_read-clause-bytes
unfolding meaning_text
returns-in_err-put_quad_read-clause-bytes g c =
    let m = c.args.meaning.now in
    Writes-cut _ _ _ _ c.from_residual-in_err-put_quad_read.ensures.0
    (Cuts-then _ _ _ (front_text m) (erases_text m ++ (modes_text m ++ (quad_read_text m.quad_read ++ (dedicated_text m ++ (flat_map region_text m.regions))))) c.in_ok-put_front.ensures.bytes
    (Cuts-then _ _ _ (erases_text m) (modes_text m ++ (quad_read_text m.quad_read ++ (dedicated_text m ++ (flat_map region_text m.regions)))) c.in_ok-put_erases.ensures.bytes
    (Cuts-then _ _ _ (modes_text m) (quad_read_text m.quad_read ++ (dedicated_text m ++ (flat_map region_text m.regions))) c.in_ok-put_modes.ensures.bytes
    (Cuts-more _ _ (quad_read_text m.quad_read) (dedicated_text m ++ (flat_map region_text m.regions))
    (subst (Cuts (g.W.ByteOut.held c.put_modes.new.writer) (g.W.ByteOut.held c.put_quad_read.new.writer)) (ap (λ (v : Parameters). quad_read_text v.quad_read) c.meaning.view_is) c.in_err-put_quad_read.ensures.bytes)))))

pub returns-in_err-put_dedicated-clause-bytes : goal.returns-in_err-put_dedicated-clause-bytes
unfolding meaning_text
returns-in_err-put_dedicated-clause-bytes g c =
    let m = c.args.meaning.now in
    Writes-cut _ _ _ _ c.from_residual-in_err-put_dedicated.ensures.0
    (Cuts-then _ _ _ (front_text m) (erases_text m ++ (modes_text m ++ (quad_read_text m.quad_read ++ (dedicated_text m ++ (flat_map region_text m.regions))))) c.in_ok-put_front.ensures.bytes
    (Cuts-then _ _ _ (erases_text m) (modes_text m ++ (quad_read_text m.quad_read ++ (dedicated_text m ++ (flat_map region_text m.regions)))) c.in_ok-put_erases.ensures.bytes
    (Cuts-then _ _ _ (modes_text m) (quad_read_text m.quad_read ++ (dedicated_text m ++ (flat_map region_text m.regions))) c.in_ok-put_modes.ensures.bytes
    (Cuts-then _ _ _ (quad_read_text m.quad_read) (dedicated_text m ++ (flat_map region_text m.regions))
    (subst (Appends (g.W.ByteOut.held c.put_modes.new.writer) (g.W.ByteOut.held c.put_quad_read.new.writer)) (ap (λ (v : Parameters). quad_read_text v.quad_read) c.meaning.view_is) c.in_ok-put_quad_read.ensures.bytes)
    (Cuts-more _ _ (dedicated_text m) (flat_map region_text m.regions) c.in_err-put_dedicated.ensures.bytes)))))

pub returns-clause-bytes : goal.returns-clause-bytes
unfolding meaning_text
returns-clause-bytes g c =
    let m = c.args.meaning.now in
    Writes-then _ _ _ _ (front_text m) (erases_text m ++ (modes_text m ++ (quad_read_text m.quad_read ++ (dedicated_text m ++ (flat_map region_text m.regions))))) c.in_ok-put_front.ensures.bytes
    (Writes-then _ _ _ _ (erases_text m) (modes_text m ++ (quad_read_text m.quad_read ++ (dedicated_text m ++ (flat_map region_text m.regions)))) c.in_ok-put_erases.ensures.bytes
    (Writes-then _ _ _ _ (modes_text m) (quad_read_text m.quad_read ++ (dedicated_text m ++ (flat_map region_text m.regions))) c.in_ok-put_modes.ensures.bytes
    (Writes-then _ _ _ _ (quad_read_text m.quad_read) (dedicated_text m ++ (flat_map region_text m.regions))
    (subst (Appends (g.W.ByteOut.held c.put_modes.new.writer) (g.W.ByteOut.held c.put_quad_read.new.writer)) (ap (λ (v : Parameters). quad_read_text v.quad_read) c.meaning.view_is) c.in_ok-put_quad_read.ensures.bytes)
    (Writes-then _ _ _ _ (dedicated_text m) (flat_map region_text m.regions) c.in_ok-put_dedicated.ensures.bytes
    (subst (λ l. Writes (g.W.ByteOut.held c.put_dedicated.new.writer) (g.W.ByteOut.held c.put_regions.new.writer) c.put_regions.result (flat_map region_text l))
    (c.as_slice.ensures.value ∙ ap (λ (v : Parameters). v.regions) c.meaning.view_is) c.put_regions.ensures.bytes)))))
