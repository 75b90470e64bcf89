-- The bytes sent are as many as the clocks have room for.
use Rattle.std.proofs.Common.{◌<◌, arith, length}
use Rattle.nor_base.specs.Decoding.{bytes_of_bits, bytes_of_nibbles}
use Rattle.nor_decode.proofs.ByteLemmas.{bits_length, nibbles_length}
use Rattle.nor_decode.proofs.seen.Seen.byte.Goals as goal

pub byte_of_bits-requires : goal.byte_of_bits-requires
byte_of_bits-requires c =
    let within : c.args.i < length (bytes_of_bits c.args.self.now.body.now) = rw c.in-Program.is at c.requires in
    omega (arith, bits_length c.args.self.now.body.now)

pub byte_of_nibbles-requires : goal.byte_of_nibbles-requires
byte_of_nibbles-requires c =
    let within : c.args.i < length (bytes_of_nibbles c.args.self.now.body.now) = rw c.in-QuadProgram.is at c.requires in
    omega (arith, nibbles_length c.args.self.now.body.now)
