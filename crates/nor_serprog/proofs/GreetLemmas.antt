-- A handshake, exchange by exchange.
use Rattle.std.proofs.Common.{◌≡◌, ◌≢◌, ℕ, ◌+◌, ◌*◌, Bool, true, List, [], ◌∷◌, ◌++◌, length, get_or, take, Option, Some, None, Ok, Err, refl, sym, ◌∙◌, ap, subst, append-nil}
use Rattle.std.specs.Prelude.{flat_map, replicate}
use Rattle.std.specs.Io.KnownBytes.{Appends}
use Rattle.std.proofs.lemmas.Grind.{flat_map-append}
use Rattle.std.proofs.lemmas.List.{nil_from_length}
use Rattle.nor_base.specs.Device.{Ahead, Gives}
use Rattle.nor_base.specs.Wire.{wire}
use Rattle.nor_serprog.specs.declared.fault.Fault.{Fault}
use Rattle.nor_serprog.specs.declared.fault.Fault.TheVariants as fault
use Rattle.nor_serprog.specs.declared.fault.Command.{Command}
use Rattle.nor_serprog.specs.declared.fault.Command.TheVariants as command
use Rattle.nor_serprog.specs.declared.fault.GreetFault.{GreetFault}
use Rattle.nor_serprog.specs.declared.fault.GreetFault.TheVariants as refused
use Rattle.nor_serprog.specs.Protocol.{ACK, NAK, answer}
use Rattle.nor_serprog.specs.Exchange.{Talked}
use Rattle.nor_serprog.specs.Greeting.{Greeting, Exchange, offers, exchange_if, told_or_nak, TellsAhead, exchanges, place, answer_length, command_bytes, first_version, HasExchanged, HasLearnt, Tells, HasBegun, StopsAt, IsWord, Reaches, Greeted}
use Rattle.nor_serprog.proofs.FollowLemmas.{talked_more}

-- the first exchange of a list
pub exchanged_one : {h h' : Option (List ℕ)} {a a' : Ahead} (x : Exchange) → Talked (wire h a) (wire h' a') x.put x.given → HasExchanged (wire h a) (wire h' a') (x ∷ [])
exchanged_one {h} {h'} {a} {a'} x p = record {
  out = subst (Appends h h') (sym (append-nil x.put)) p.out;
  back = subst (λ bytes. Gives a bytes a') (sym (append-nil x.given)) p.back;
}

-- and one more
pub exchanged_more : {h m h' : Option (List ℕ)} {a b a' : Ahead} (xs : List Exchange) (x : Exchange) → HasExchanged (wire h a) (wire m b) xs → Talked (wire m b) (wire h' a') x.put x.given
    → HasExchanged (wire h a) (wire h' a') (xs ++ x ∷ [])
exchanged_more {h} {m} {h'} {a} {b} {a'} xs x p q =
    let puts : flat_map (λ (e : Exchange). e.put) (xs ++ x ∷ []) ≡ flat_map (λ (e : Exchange). e.put) xs ++ x.put =
    flat_map-append (λ (e : Exchange). e.put) xs (x ∷ []) ∙ ap (λ ys. flat_map (λ (e : Exchange). e.put) xs ++ ys) (append-nil x.put) in
    let gives : flat_map (λ (e : Exchange). e.given) (xs ++ x ∷ []) ≡ flat_map (λ (e : Exchange). e.given) xs ++ x.given =
    flat_map-append (λ (e : Exchange). e.given) xs (x ∷ []) ∙ ap (λ ys. flat_map (λ (e : Exchange). e.given) xs ++ ys) (append-nil x.given) in
    let whole = talked_more _ _ x.put x.given p q in
    record { out = subst (Appends h h') (sym puts) whole.out; back = subst (λ bytes. Gives a bytes a') (sym gives) whole.back }

-- the words of a device so far
abbrev pub greeting_of : {h h' : Option (List ℕ)} {a a' : Ahead} → HasBegun (wire h a) (wire h' a') → List ℕ → List ℕ → List ℕ → List ℕ → Greeting
greeting_of begun version commands sends gives = record {
  tries = begun.tries;
  noise = begun.noise;
  late = begun.late;
  version = version;
  commands = commands;
  buffer = None;
  sends = sends;
  gives = gives;
}

-- and what it takes ahead, and the most is said to be
abbrev pub greeting_by : {h h' : Option (List ℕ)} {a a' : Ahead} {commands : List ℕ} → HasLearnt (wire h a) (wire h' a') commands → Option (List ℕ) → List ℕ → List ℕ
    → Greeting
greeting_by {h} {h'} {a} {a'} {commands} known buffer sends gives = record {
  tries = known.tries;
  noise = known.noise;
  late = known.late;
  version = first_version;
  commands = commands;
  buffer = buffer;
  sends = sends;
  gives = gives;
}

-- a command whose exchange ends early
pub tells_not : (h m h' : Option (List ℕ)) (a b a' : Ahead) (at : Command) (got : List ℕ) (e : GreetFault) (g : Greeting)
    → ((why : Fault) → StopsAt (wire h a) (wire h' a') at why → Greeted (wire h a) (wire h' a') (Err (refused.Command at why)))
    → IsWord g.tries g.noise g.late → Reaches g at → length got ≡ answer_length at → HasExchanged (wire h a) (wire m b) (take (place at) (exchanges g))
    → Tells (wire m b) (wire h' a') (Err e) at got → Greeted (wire h a) (wire h' a') (Err e)
tells_not h m h' a b a' at got (refused.Command here why) g goes word reaches room before p =
    let stops : Greeted (wire h a) (wire h' a') (Err (refused.Command at why)) = goes why (record {
      greeting = g;
      held = m;
      ahead = b;
      got = got;
      word = word;
      reaches = reaches;
      room = room;
      before = before;
      stop = p.1;
    }) in
    subst (λ c. Greeted (wire h a) (wire h' a') (Err (refused.Command c why))) (sym p.0) stops
tells_not h m h' a b a' at got refused.Version g goes word reaches room before p = absurd p
tells_not h m h' a b a' at got refused.NoOperation g goes word reaches room before p = absurd p

-- 04h, of which NAK is an answer
stops_at_buffer : (h h' : Option (List ℕ)) (a a' : Ahead) (why : Fault) → refused.Command command.QueryBuffer why ≢ refused.Command command.QueryBuffer fault.Nak
    → StopsAt (wire h a) (wire h' a') command.QueryBuffer why → Greeted (wire h a) (wire h' a') (Err (refused.Command command.QueryBuffer why))
stops_at_buffer h h' a a' fault.Nak other p = absurd (other refl)
stops_at_buffer h h' a a' fault.Read other p = p
stops_at_buffer h h' a a' fault.Write other p = p
stops_at_buffer h h' a a' fault.Silent other p = p
stops_at_buffer h h' a a' fault.Differs other p = p

pub buffer_not : (h m h' : Option (List ℕ)) (a b a' : Ahead) (got : List ℕ) (e : GreetFault) (g : Greeting) → e ≢ refused.Command command.QueryBuffer fault.Nak
    → IsWord g.tries g.noise g.late → Reaches g command.QueryBuffer → length got ≡ 2 → HasExchanged (wire h a) (wire m b) (take 4 (exchanges g))
    → Tells (wire m b) (wire h' a') (Err e) command.QueryBuffer got → Greeted (wire h a) (wire h' a') (Err e)
buffer_not h m h' a b a' got (refused.Command here why) g other word reaches room before p =
    let its = subst (λ (c : Command). refused.Command c why ≢ refused.Command command.QueryBuffer fault.Nak) p.0 other in
    let stops = stops_at_buffer h h' a a' why its (record {
      greeting = g;
      held = m;
      ahead = b;
      got = got;
      word = word;
      reaches = reaches;
      room = room;
      before = before;
      stop = p.1;
    }) in
    subst (λ (c : Command). Greeted (wire h a) (wire h' a') (Err (refused.Command c why))) (sym p.0) stops
buffer_not h m h' a b a' got refused.Version g other word reaches room before p = absurd p
buffer_not h m h' a b a' got refused.NoOperation g other word reaches room before p = absurd p

pub ahead_some : (h h' : Option (List ℕ)) (a a' : Ahead) (offered : Bool) (got : List ℕ) (n : ℕ) → offered ≡ true → length got ≡ 2
    → n ≡ get_or got 0 0 + 256 * get_or got 1 0 → Appends h h' (command_bytes command.QueryBuffer) → Gives a (answer got) a' → TellsAhead offered (wire h a) (wire h' a') (Ok n)
ahead_some h h' a a' offered got n offers_it room is out back = rw offers_it (Some got, room, is, record { out = out; back = back })

-- the exchanges so far, one after another
pub word_done : {h h' : Option (List ℕ)} {a a' : Ahead} (begun : HasBegun (wire h a) (wire h' a')) (version commands sends gives : List ℕ)
    → HasExchanged (wire h a) (wire h' a') (take 1 (exchanges (greeting_of begun version commands sends gives)))
word_done begun version commands sends gives =
    exchanged_one (record { put = replicate begun.tries 0x10; given = begun.noise ++ (NAK ∷ ACK ∷ begun.late) }) begun.talked

pub version_done : {h m h' : Option (List ℕ)} {a b a' : Ahead} (g : Greeting) → HasExchanged (wire h a) (wire m b) (take 1 (exchanges g))
    → Talked (wire m b) (wire h' a') (command_bytes command.QueryInterface) (answer g.version) → HasExchanged (wire h a) (wire h' a') (take 2 (exchanges g))
version_done g p q = exchanged_more (take 1 (exchanges g)) (record { put = command_bytes command.QueryInterface; given = answer g.version }) p q

-- the version is 1
pub version_is : {h m h' : Option (List ℕ)} {a b a' : Ahead} (begun : HasBegun (wire h a) (wire m b)) (commands : List ℕ) {version : List ℕ} → version ≡ first_version
    → Talked (wire m b) (wire h' a') (command_bytes command.QueryInterface) (answer version)
    → HasExchanged (wire h a) (wire h' a') (take 2 (exchanges (greeting_of begun first_version commands [] [])))
version_is {h} {m} {h'} {a} {b} {a'} begun commands one q =
    version_done (greeting_of begun first_version commands [] []) (word_done begun first_version commands [] [])
    (subst (λ v. Talked (wire m b) (wire h' a') (command_bytes command.QueryInterface) (answer v)) one q)

pub commands_done : {h m h' : Option (List ℕ)} {a b a' : Ahead} (g : Greeting) → HasExchanged (wire h a) (wire m b) (take 2 (exchanges g))
    → Talked (wire m b) (wire h' a') (command_bytes command.QueryCommands) (answer g.commands) → HasExchanged (wire h a) (wire h' a') (take 3 (exchanges g))
commands_done g p q = exchanged_more (take 2 (exchanges g)) (record { put = command_bytes command.QueryCommands; given = answer g.commands }) p q

pub bus_done : {h m h' : Option (List ℕ)} {a b a' : Ahead} (g : Greeting) (got : List ℕ) → length got ≡ 0 → HasExchanged (wire h a) (wire m b) (take 3 (exchanges g))
    → Talked (wire m b) (wire h' a') (command_bytes command.SetBus) (answer got) → HasExchanged (wire h a) (wire h' a') (take 4 (exchanges g))
bus_done {h} {m} {h'} {a} {b} {a'} g got none p q =
    let nothing : got ≡ [] = nil_from_length got none in
    exchanged_more (take 3 (exchanges g)) (record { put = command_bytes command.SetBus; given = answer [] }) p
    (subst (λ xs. Talked (wire m b) (wire h' a') (command_bytes command.SetBus) (answer xs)) nothing q)

pub buffer_done : {h m h' : Option (List ℕ)} {a b a' : Ahead} (g : Greeting) (offered : Bool) → offered ≡ offers g.commands 0x04 → HasExchanged (wire h a) (wire m b) (take 4 (exchanges g))
    → Talked (wire m b) (wire h' a') (exchange_if offered (command_bytes command.QueryBuffer) (told_or_nak g.buffer)).put (exchange_if offered (command_bytes command.QueryBuffer) (told_or_nak g.buffer)).given
    → HasExchanged (wire h a) (wire h' a') (take 5 (exchanges g))
buffer_done {h} {m} {h'} {a} {b} {a'} g offered is p q =
    let x = λ (o : Bool). exchange_if o (command_bytes command.QueryBuffer) (told_or_nak g.buffer) in
    exchanged_more (take 4 (exchanges g)) (x (offers g.commands 0x04)) p (subst (λ o. Talked (wire m b) (wire h' a') (x o).put (x o).given) is q)

pub sends_done : {h m h' : Option (List ℕ)} {a b a' : Ahead} (g : Greeting) (offered : Bool) → offered ≡ offers g.commands 0x08 → HasExchanged (wire h a) (wire m b) (take 5 (exchanges g))
    → Talked (wire m b) (wire h' a') (exchange_if offered (command_bytes command.QueryWriteMax) (answer g.sends)).put (exchange_if offered (command_bytes command.QueryWriteMax) (answer g.sends)).given
    → HasExchanged (wire h a) (wire h' a') (take 6 (exchanges g))
sends_done {h} {m} {h'} {a} {b} {a'} g offered is p q =
    let x = λ (o : Bool). exchange_if o (command_bytes command.QueryWriteMax) (answer g.sends) in
    exchanged_more (take 5 (exchanges g)) (x (offers g.commands 0x08)) p (subst (λ o. Talked (wire m b) (wire h' a') (x o).put (x o).given) is q)

pub gives_done : {h m h' : Option (List ℕ)} {a b a' : Ahead} (g : Greeting) (offered : Bool) → offered ≡ offers g.commands 0x11 → HasExchanged (wire h a) (wire m b) (take 6 (exchanges g))
    → Talked (wire m b) (wire h' a') (exchange_if offered (command_bytes command.QueryReadMax) (answer g.gives)).put (exchange_if offered (command_bytes command.QueryReadMax) (answer g.gives)).given
    → HasExchanged (wire h a) (wire h' a') (take 7 (exchanges g))
gives_done {h} {m} {h'} {a} {b} {a'} g offered is p q =
    let x = λ (o : Bool). exchange_if o (command_bytes command.QueryReadMax) (answer g.gives) in
    exchanged_more (take 6 (exchanges g)) (x (offers g.commands 0x11)) p (subst (λ o. Talked (wire m b) (wire h' a') (x o).put (x o).given) is q)

pub pins_done : {h m h' : Option (List ℕ)} {a b a' : Ahead} (g : Greeting) (got : List ℕ) (offered : Bool) → length got ≡ 0 → offered ≡ offers g.commands 0x15
    → HasExchanged (wire h a) (wire m b) (take 7 (exchanges g))
    → Talked (wire m b) (wire h' a') (exchange_if offered (command_bytes command.SetPins) (answer got)).put (exchange_if offered (command_bytes command.SetPins) (answer got)).given
    → HasExchanged (wire h a) (wire h' a') (exchanges g)
pins_done {h} {m} {h'} {a} {b} {a'} g got offered none is p q =
    let nothing : got ≡ [] = nil_from_length got none in
    let x = λ (o : Bool) (xs : List ℕ). exchange_if o (command_bytes command.SetPins) (answer xs) in
    let bare : Talked (wire m b) (wire h' a') (x offered []).put (x offered []).given = subst (λ xs. Talked (wire m b) (wire h' a') (x offered xs).put (x offered xs).given) nothing q in
    exchanged_more (take 7 (exchanges g)) (x (offers g.commands 0x15) []) p (subst (λ o. Talked (wire m b) (wire h' a') (x o []).put (x o []).given) is bare)
