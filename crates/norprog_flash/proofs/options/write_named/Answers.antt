-- The dashes, and the names.
use Rattle.std.specs.Prelude.{codes, flat_map}
use Rattle.nor_base.proofs.DeviceLaws.{Writes-then}
use Rattle.norprog_flash.specs.State.{region_word}
use Rattle.norprog_flash.proofs.options.write_named.Goals as goal

pub returns-clause-bytes : goal.returns-clause-bytes
returns-clause-bytes g c =
    Writes-then _ _ _ c.write_names.result (codes " --") (flat_map region_word c.args.regions.now) c.in_ok-put_all.ensures.bytes
    c.write_names.ensures.bytes
