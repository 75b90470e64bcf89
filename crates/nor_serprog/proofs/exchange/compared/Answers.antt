-- One more piece.
use Rattle.std.proofs.Common.{◌≡◌, ◌≤◌, ◌+◌, length, refl, ◌∙◌, rules}
use Rattle.std.specs.List.{slice_range}
use Rattle.nor_serprog.specs.declared.fault.Reason.TheVariants.{Exchange}
use Rattle.nor_serprog.specs.Exchange.{TakesAsMany}
use Rattle.nor_base.proofs.FaultLaws.{answered}
use Rattle.nor_serprog.proofs.PieceLemmas.{piece_room}
use Rattle.nor_serprog.proofs.ExchangeLemmas.{compares_more, takes_fewer}
use Rattle.nor_serprog.proofs.exchange.compared.Goals as goal

pub returns-in_err-filled-clause-takes : goal.returns-in_err-filled-clause-takes
returns-in_err-filled-clause-takes g c =
    let why = c.in_err-filled.field-0.0 in
    let within : c.loop-done.done + length c.filled.new.got ≤ length c.args.want.now = search rules in
    answered c.from_residual.result (λ r. TakesAsMany (g.R.ByteIn.ahead c.args.from.now) (g.R.ByteIn.ahead c.filled.new.from) r c.args.want.now)
    (Exchange why) (takes_fewer _ _ _ c.args.want.now c.filled.new.got c.loop-done.done c.loop-done.found why c.loop-done.invariant.so_far within c.in_err-filled.ensures.fills)
    c.from_residual.ensures.1

pub loop-done-preserved : goal.loop-done-preserved
loop-done-preserved g c =
    let within : c.loop-done.done + c.min-room.result ≤ length c.args.want.now = search rules in
    let long : length c.filled.new.got ≡ c.min-room.result = search rules in
    record {
      so_far = compares_more _ _ _ c.args.want.now c.filled.new.got (slice_range c.args.want.now c.loop-done.done (c.loop-done.done + c.min-room.result)) c.loop-done.done c.min-room.result
          c.loop-done.found c.first_other-found.result c.loop-done.invariant.so_far within long refl c.in_ok-filled.ensures.fills c.first_other-found.ensures.before c.first_other-found.ensures.first;
      count = c.in_ok-filled.ensures.reads ∙ c.loop-done.invariant.count;
      room = piece_room c.loop-done.piece c.filled.new.got c.min-room.result long (search rules) c.loop-done.invariant.room;
    }
