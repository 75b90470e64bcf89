-- The file was read, or can't be.
use Rattle.norprog_common.specs.Image.{place_in}
use Rattle.norprog_named.proofs.JobLemmas.{bin_read, hex_read}
use Rattle.norprog_named.proofs.job.read_image.Goals as goal

pub returns-in-Hex : goal.returns-in-Hex
returns-in-Hex g c = rw c.in-Hex.is (_, c.read.ensures.did, hex_read c.in-Hex.path.now c.read.result c.read.ensures.refused)

pub returns-in-Bin : goal.returns-in-Bin
returns-in-Bin g c = rw c.in-Bin.is (_, c.read-in-Bin.ensures.did, bin_read (place_in c.in-Bin.place) c.in-Bin.path.now c.read-in-Bin.result c.read-in-Bin.ensures.refused)
