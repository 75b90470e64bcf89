-- Operations of a device, one after the other.
use Rattle.std.proofs.Common.{◌≡◌, ℕ, List, [], ◌∷◌, ◌++◌, length, Option, Result, Ok, Err, refl, sym, ◌∙◌, ap, subst, append_assoc, append-nil, arith}
use Rattle.std.specs.Io.KnownBytes.{Appends}
use Rattle.nor_base.specs.declared.meaning.Switch.{Switch}
use Rattle.nor_base.specs.declared.meaning.Switch.TheVariants.{Latched}
use Rattle.nor_base.specs.Device.{Ahead, Gives}
use Rattle.nor_base.specs.Wire.{wire}
use Rattle.nor_serprog.specs.declared.fault.Fault.{Fault}
use Rattle.nor_serprog.specs.Exchange.{Answers, Asks}
use Rattle.nor_serprog.specs.Protocol.{request, answer}
use Rattle.nor_loop.specs.Log.{Operation, HasLogged}
use Rattle.nor_loop.specs.Reads.{bare, switch_ops}
use Rattle.nor_loop.proofs.DeviceLemmas.{logged_none, logged_both}
use Rattle.nor_reader.specs.Switched.{Operates, StopsAmong}

-- some were done, and others stopped
stops_then : (h i j : Option (List ℕ)) (a b c : Ahead) (one two : List Operation) (why : Fault) → HasLogged (wire h a) (wire i b) one → StopsAmong (wire i b) (wire j c) two why
    → StopsAmong (wire h a) (wire j c) (one ++ two) why
stops_then h i j a b c one two why p q = record {
  front = one ++ q.front;
  last = q.last;
  rest = q.rest;
  those = ap (λ l. one ++ l) q.those ∙ sym (append_assoc one q.front (q.last ∷ q.rest));
  held = q.held;
  ahead = q.ahead;
  done = logged_both h i q.held a b q.ahead one q.front p q.done;
  stop = q.stop;
}

-- where others would follow
stops_before : (h i : Option (List ℕ)) (a b : Ahead) (one two : List Operation) (why : Fault) → StopsAmong (wire h a) (wire i b) one why → StopsAmong (wire h a) (wire i b) (one ++ two) why
stops_before h i a b one two why p = record {
  front = p.front;
  last = p.last;
  rest = p.rest ++ two;
  those = ap (λ l. l ++ two) p.those ∙ append_assoc p.front (p.last ∷ p.rest) two;
  held = p.held;
  ahead = p.ahead;
  done = p.done;
  stop = p.stop;
}

operates_then : (h i j : Option (List ℕ)) (a b c : Ahead) (r : Result (Unit {0}) Fault) (one two : List Operation) → HasLogged (wire h a) (wire i b) one
    → Operates (wire i b) (wire j c) r two → Operates (wire h a) (wire j c) r (one ++ two)
operates_then h i j a b c (Ok u) one two p q = logged_both h i j a b c one two p q
operates_then h i j a b c (Err why) one two p q = stops_then h i j a b c one two why p q

-- an opcode without more
pub one_sent : (h i : Option (List ℕ)) (a b : Ahead) (r : Result (Unit {0}) Fault) (op : ℕ) (got : List ℕ) → length got ≡ 0
    → Asks (wire h a) (wire i b) r (request (op ∷ []) 0) (Answers a b r got) → Operates (wire h a) (wire i b) r (bare op ∷ [])
one_sent h i a b (Ok u) op [] none p = record {
  short = ((omega arith, omega arith), tt);
  talked = record {
    out = subst (Appends h i) (sym (append-nil (request (op ∷ []) 0))) p.0;
    back = subst (λ l. Gives a l b) (sym (append-nil (answer []))) p.1;
  };
}
one_sent h i a b (Err why) op [] none p =
    record { front = []; last = bare op; rest = []; those = refl; held = h; ahead = a; done = logged_none h a; stop = p }
one_sent h i a b r op (x ∷ xs) none p = absurd (omega (arith, none))

-- nothing to switch
pub none_done : (h : Option (List ℕ)) (a : Ahead) → Operates (wire h a) (wire h a) (Ok tt) []
none_done h a = logged_none h a

-- how a mode is switched where the chip asks for a write enable
module _ (h i : Option (List ℕ)) (a b : Ahead) (w : Switch) (op : ℕ) (is : w ≡ Latched) where
  latched : (r : Result (Unit {0}) Fault) → Operates (wire h a) (wire i b) r (switch_ops Latched op) → Operates (wire h a) (wire i b) r (switch_ops w op)
  latched r p = subst (λ (x : Switch). Operates (wire h a) (wire i b) r (switch_ops x op)) (sym is) p

  pub enable_ends : (why : Fault) → StopsAmong (wire h a) (wire i b) (bare 0x06 ∷ []) why → Operates (wire h a) (wire i b) (Err why) (switch_ops w op)
  enable_ends why p = latched (Err why) (stops_before h i a b (bare 0x06 ∷ []) (bare op ∷ bare 0x04 ∷ []) why p)

  pub opcode_ends : (k : Option (List ℕ)) (c : Ahead) (why : Fault) → HasLogged (wire h a) (wire k c) (bare 0x06 ∷ []) → StopsAmong (wire k c) (wire i b) (bare op ∷ []) why
      → Operates (wire h a) (wire i b) (Err why) (switch_ops w op)
  opcode_ends k c why enabled p = latched (Err why) (stops_then h k i a c b (bare 0x06 ∷ []) (bare op ∷ bare 0x04 ∷ []) why enabled
      (stops_before k i c b (bare op ∷ []) (bare 0x04 ∷ []) why p))

  pub switched : (k l : Option (List ℕ)) (c d : Ahead) (r : Result (Unit {0}) Fault) → HasLogged (wire h a) (wire k c) (bare 0x06 ∷ []) → HasLogged (wire k c) (wire l d) (bare op ∷ [])
      → Operates (wire l d) (wire i b) r (bare 0x04 ∷ []) → Operates (wire h a) (wire i b) r (switch_ops w op)
  switched k l c d r enabled sent p = latched r (operates_then h k i a c b r (bare 0x06 ∷ []) (bare op ∷ bare 0x04 ∷ []) enabled
      (operates_then k l i c d b r (bare op ∷ []) (bare 0x04 ∷ []) sent p))
