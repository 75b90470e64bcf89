-- Exchanges one after the other, and an operation by its clocks.
use Rattle.std.proofs.Common.{◌≡◌, ℕ, List, [], ◌++◌, length, Option, Result, Ok, Err, sym, ◌∙◌, subst}
use Rattle.nor_base.specs.Device.{Ahead}
use Rattle.nor_base.specs.Sample.{sampled_count}
use Rattle.nor_base.proofs.DeviceLaws.{Appends-append, Appends-none, Gives-append}
use Rattle.nor_base.specs.Wire.{wire}
use Rattle.nor_serprog.specs.declared.fault.Reason.{Reason}
use Rattle.nor_serprog.specs.declared.fault.Reason.TheVariants as reason
use Rattle.nor_serprog.specs.declared.limits.Limits.{Limits}
use Rattle.nor_serprog.specs.Protocol.{request}
use Rattle.nor_serprog.specs.Exchange.{Talked, Knows}
use Rattle.nor_serprog.specs.Follow.{Operates}
use Rattle.nor_serprog.specs.Carried.{IsOperation}
use Rattle.nor_serprog.proofs.CarriedLemmas.{asked_is}
use Rattle.nor_serprog.proofs.ExchangeLemmas.{gives_nothing}

-- nothing was talked yet; one more exchange
pub nothing_talked : (held : Option (List ℕ)) (ahead : Ahead) → Talked (wire held ahead) (wire held ahead) [] []
nothing_talked held ahead = record { out = Appends-none held; back = gives_nothing ahead }

pub talked_more : {h m h' : Option (List ℕ)} {a b a' : Ahead} (put given more answered : List ℕ) → Talked (wire h a) (wire m b) put given → Talked (wire m b) (wire h' a') more answered
    → Talked (wire h a) (wire h' a') (put ++ more) (given ++ answered)
talked_more {h} {m} {h'} {a} {b} {a'} put given more answered p q =
    record { out = Appends-append h m h' put more p.out q.out; back = Gives-append a b a' given answered p.back q.back }

-- an operation asks for as many bytes as its clocks sample
pub of_want : (limits : Limits) (clocks sent want : List ℕ) (asked : ℕ) → IsOperation limits clocks sent asked → length want ≡ sampled_count clocks
    → IsOperation limits clocks sent (length want)
of_want limits clocks sent want asked op long = subst (IsOperation limits clocks sent) (sym (asked_is limits clocks sent asked op) ∙ sym long) op

-- an operation by what is known of its answer
pub operates_as : (h h' : Option (List ℕ)) (a a' : Ahead) (limits : Limits) (clocks sent want : List ℕ) (r : Result (Unit {0}) Reason)
    → IsOperation limits clocks sent (length want) → Knows (wire h a) (wire h' a') r (request sent (length want)) want → Operates (wire h a) (wire h' a') r limits clocks want
operates_as h h' a a' limits clocks sent want (Ok u) op p = record { sent = sent; spelled = op; talked = record { out = p.0; back = p.1 } }
operates_as h h' a a' limits clocks sent want (Err (reason.Differs place byte)) op p = record { sent = sent; spelled = op; put = p.0; gives = p.1 }
operates_as h h' a a' limits clocks sent want (Err (reason.Exchange why)) op p = record { sent = sent; spelled = op; got = p.0; as_many = p.1; stop = p.2 }
operates_as h h' a a' limits clocks sent want (Err reason.Busy) op p = absurd p
operates_as h h' a a' limits clocks sent want (Err reason.Carried) op p = absurd p
