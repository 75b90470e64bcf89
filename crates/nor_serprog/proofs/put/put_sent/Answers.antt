-- One more piece.
use Rattle.std.proofs.Common.{◌≡◌, ◌≤◌, ◌+◌, length, ◌∙◌, rules}
use Rattle.std.specs.List.{slice_range}
use Rattle.nor_base.specs.Decoding.{bytes_of_bits}
use Rattle.nor_base.proofs.DeviceLaws.{Writes-cut}
use Rattle.nor_serprog.proofs.PieceLemmas.{put_more, put_cut, piece_room}
use Rattle.nor_serprog.proofs.put.put_sent.Goals as goal

pub returns-in_err-put_all-clause-bytes : goal.returns-in_err-put_all-clause-bytes
returns-in_err-put_all-clause-bytes g c =
    let bytes = bytes_of_bits c.args.bits.now in
    let is : c.copy_sent.new.part ≡ slice_range bytes c.loop-done.done (c.loop-done.done + c.min-room.result) = search rules in
    let within : c.loop-done.done + c.min-room.result ≤ length bytes = search rules in
    Writes-cut _ _ _ _ c.from_residual.ensures.0
    (put_cut _ _ _ bytes c.copy_sent.new.part c.loop-done.done c.min-room.result within is c.loop-done.invariant.put c.in_err-put_all.ensures.bytes)

pub loop-done-preserved : goal.loop-done-preserved
loop-done-preserved g c =
    let bytes = bytes_of_bits c.args.bits.now in
    let is : c.copy_sent.new.part ≡ slice_range bytes c.loop-done.done (c.loop-done.done + c.min-room.result) = search rules in
    record {
      within = search rules;
      all = search rules;
      put = put_more _ _ _ bytes c.copy_sent.new.part c.loop-done.done c.min-room.result is c.loop-done.invariant.put c.in_ok-put_all.ensures.bytes;
      count = c.in_ok-put_all.ensures.count ∙ c.loop-done.invariant.count;
      room = piece_room c.loop-done.piece c.copy_sent.new.part c.min-room.result (search rules) (search rules) c.loop-done.invariant.room;
    }
