-- The first word, byte by byte.
use Rattle.std.proofs.Common.{◌≡◌, ◌≢◌, ℕ, ◌+◌, ◌-◌, ◌*◌, ◌<◌, ◌≤◌, ◌==◌, ◌||◌, Bool, true, false, List, [], ◌∷◌, ◌++◌, length, take, Option, Some, None, Result, Ok, Err, refl, sym, ◌∙◌, ap, subst, append-nil, append_assoc, arith, length-append, eqb-true}
use Rattle.std.specs.Prelude.{replicate}
use Rattle.std.specs.Io.KnownBytes.{Appends}
use Rattle.std.proofs.lemmas.Bool.{and_parts}
use Rattle.std.proofs.lemmas.List.{length-take, replicate_more}
use Rattle.nor_base.specs.Device.{Ahead, Gives, IsAtEnd}
use Rattle.nor_base.proofs.DeviceLaws.{Appends-append, Gives-append}
use Rattle.nor_base.specs.Wire.{wire}
use Rattle.nor_serprog.specs.declared.fault.Fault.{Fault}
use Rattle.nor_serprog.specs.declared.fault.Fault.TheVariants as fault
use Rattle.nor_serprog.specs.Protocol.{ACK, NAK}
use Rattle.nor_serprog.specs.Exchange.{Talked}
use Rattle.nor_serprog.specs.Greeting.{is_word, has_word, most_tries, most_noise, HasNoWord, HasFound, StopsWord, Hears, HearsLate, Tries, Begins}
use Rattle.nor_serprog.proofs.FollowLemmas.{nothing_talked}

-- the last of some bytes, or ACK where there is none
abbrev pub last_of : List ℕ → ℕ
last_of [] = ACK
last_of (x ∷ []) = x
last_of (x ∷ y ∷ more) = last_of (y ∷ more)

-- one more byte ends the word, or doesn't
or_both : (a b c : Bool) → a ≡ false → b ≡ c → (a || b) ≡ c
or_both a b c none same = rw none same

or_left : (a b : Bool) → (a || b) ≡ false → (a ≡ false)
or_left true b h = h
or_left false b h = refl

or_right : (a b : Bool) → (a || b) ≡ false → (b ≡ false)
or_right true b h = cc
or_right false b h = h

no_word_more : (xs : List ℕ) (byte : ℕ) → has_word xs ≡ false → is_word (last_of xs) byte ≡ false → has_word (xs ++ byte ∷ []) ≡ false
no_word_more [] byte none not = refl
no_word_more (x ∷ []) byte none not = or_both (is_word x byte) false false not refl
no_word_more (x ∷ y ∷ more) byte none not =
    let first = or_left (is_word x y) (has_word (y ∷ more)) none in
    let rest = or_right (is_word x y) (has_word (y ∷ more)) none in
    or_both (is_word x y) (has_word ((y ∷ more) ++ byte ∷ [])) false first (no_word_more (y ∷ more) byte rest not)

last_of_more : (xs : List ℕ) (byte : ℕ) → last_of (xs ++ byte ∷ []) ≡ byte
last_of_more [] byte = refl
last_of_more (x ∷ []) byte = refl
last_of_more (x ∷ y ∷ more) byte = last_of_more (y ∷ more) byte

-- bytes whose last is NAK, without it
record EndsWith (xs : List ℕ) (byte : ℕ) : Type 0 where
  front : List ℕ
  is : xs ≡ front ++ byte ∷ []

ends_with : (xs : List ℕ) (byte : ℕ) → byte ≢ ACK → last_of xs ≡ byte → EndsWith xs byte
ends_with [] byte other is = absurd (other (sym is))
ends_with (x ∷ []) byte other is = record { front = []; is = ap (λ b. b ∷ []) is }
ends_with (x ∷ y ∷ more) byte other is =
    let later = ends_with (y ∷ more) byte other is in record { front = x ∷ later.front; is = ap (λ xs. x ∷ xs) later.is }

-- so many tries went out, and these bytes came, in which no word is, in so many turns
pub record IsListening (h h' : Option (List ℕ)) (a a' : Ahead) (tries last turns : ℕ) : Type 0 where
  pub given : List ℕ
  pub some : 0 < tries
  pub few : tries ≤ most_tries
  pub none : has_word given ≡ false
  pub its_last : last_of given ≡ last
  pub all : length given + tries ≡ turns + 1
  pub talked : Talked (wire h a) (wire h' a') (replicate tries 0x10) given

-- the first try went out
pub begins : {h h' : Option (List ℕ)} (a : Ahead) → Appends h h' (0x10 ∷ []) → IsListening h h' a a 1 ACK 0
begins {h} {h'} a out = record {
  given = [];
  some = omega arith;
  few = omega arith;
  none = refl;
  its_last = refl;
  all = refl;
  talked = record { out = out; back = (nothing_talked h a).back };
}

-- one more byte came that ends no word
pub hears : {h h' : Option (List ℕ)} {a b : Ahead} (c : Ahead) (tries last turns byte : ℕ) (came : Option ℕ) → came ≡ Some byte → IsListening h h' a b tries last turns
    → Hears b c (Ok came) → is_word last byte ≡ false → IsListening h h' a c tries byte (turns + 1)
hears {h} {h'} {a} {b} c tries last turns byte came is p heard not =
    let back : Gives b (byte ∷ []) c = subst (λ o. Hears b c (Ok o)) is heard in
    let not_here : is_word (last_of p.given) byte ≡ false = subst (λ l. is_word l byte ≡ false) (sym p.its_last) not in
    record {
      given = p.given ++ byte ∷ [];
      some = p.some;
      few = p.few;
      none = no_word_more p.given byte p.none not_here;
      its_last = last_of_more p.given byte;
      all = omega (arith, p.all, length-append p.given (byte ∷ []));
      talked = record { out = p.talked.out; back = Gives-append a b c p.given (byte ∷ []) p.talked.back back };
    }

-- silence, and one more try
pub tries_again : {h m : Option (List ℕ)} (h' : Option (List ℕ)) {a b : Ahead} (c : Ahead) (tries last turns : ℕ) (came : Option ℕ) → came ≡ None → tries ≢ most_tries → IsListening h m a b tries last turns
    → Hears b c (Ok came) → Appends m h' (0x10 ∷ []) → IsListening h h' a c (tries + 1) last (turns + 1)
tries_again {h} {m} h' {a} {b} c tries last turns came is few p heard out =
    let back : Gives b [] c = (subst (λ o. Hears b c (Ok o)) is heard).0 in
    record {
      given = p.given;
      some = omega arith;
      few = omega (arith, p.few, few);
      none = p.none;
      its_last = p.its_last;
      all = omega (arith, p.all);
      talked = record {
        out = subst (Appends h h') (replicate_more tries 0x10) (Appends-append h m h' (replicate tries 0x10) (0x10 ∷ []) p.talked.out out);
        back = subst (λ bytes. Gives a bytes c) (append-nil p.given) (Gives-append a b c p.given [] p.talked.back back);
      };
    }

-- the word's last byte came
pub found : {h h' : Option (List ℕ)} {a b : Ahead} (c : Ahead) (tries last turns byte : ℕ) (came : Option ℕ) → came ≡ Some byte → IsListening h h' a b tries last turns
    → Hears b c (Ok came) → is_word last byte ≡ true → HasFound (wire h a) (wire h' c) tries
found {h} {h'} {a} {b} c tries last turns byte came is p heard whole_word =
    let back : Gives b (byte ∷ []) c = subst (λ o. Hears b c (Ok o)) is heard in
    let both = and_parts (last == NAK) (byte == ACK) whole_word in
    let nak : last ≡ NAK = eqb-true last NAK both.0 in
    let ack : byte ≡ ACK = eqb-true byte ACK both.1 in
    let end = ends_with p.given NAK (λ (same : NAK ≡ ACK). cc) (p.its_last ∙ nak) in
    let whole : p.given ++ byte ∷ [] ≡ end.front ++ (NAK ∷ ACK ∷ []) =
    ap (λ xs. xs ++ byte ∷ []) end.is ∙ ap (λ b. (end.front ++ NAK ∷ []) ++ b ∷ []) ack ∙ append_assoc end.front (NAK ∷ []) (ACK ∷ []) in
    record {
      noise = end.front;
      word = record { some = p.some; few = p.few; first = subst (λ xs. has_word xs ≡ false) end.is p.none; rest = omega arith };
      talked = record { out = p.talked.out; back = subst (λ xs. Gives a xs c) whole (Gives-append a b c p.given (byte ∷ []) p.talked.back back) };
    }

pub differs : {h h' : Option (List ℕ)} {a a' : Ahead} (tries last turns : ℕ) → turns ≡ most_noise → IsListening h h' a a' tries last turns
    → StopsWord (wire h a) (wire h' a') fault.Differs
differs tries last turns all p = (tries, p.given, omega (arith, p.all), record { few = p.few; none = p.none; talked = p.talked })

-- the reader was silent, and gave nothing
pub silent : {h h' : Option (List ℕ)} {a b : Ahead} (c : Ahead) (tries last turns : ℕ) (came : Option ℕ) → came ≡ None → tries ≡ most_tries → IsListening h h' a b tries last turns → Hears b c (Ok came)
    → StopsWord (wire h a) (wire h' c) fault.Silent
silent {h} {h'} {a} {b} c tries last turns came is all p heard =
    let both : Hears b c (Ok None) = subst (λ o. Hears b c (Ok o)) is heard in
    let back : Gives b [] c = both.0 in
    let end : IsAtEnd c = both.1 in (
      p.given,
      end,
      subst (λ n. HasNoWord (wire h a) (wire h' c) n p.given) all (record {
        few = p.few;
        none = p.none;
        talked = record { out = p.talked.out; back = subst (λ bytes. Gives a bytes c) (append-nil p.given) (Gives-append a b c p.given [] p.talked.back back) };
      }),
    )

pub stops_hearing : {h h' : Option (List ℕ)} {a b : Ahead} (c : Ahead) (tries last turns : ℕ) (why : Fault) → IsListening h h' a b tries last turns → Hears b c (Err why)
    → StopsWord (wire h a) (wire h' c) why
stops_hearing {h} {h'} {a} {b} c tries last turns fault.Read p back =
    (tries, p.given, p.few, record { out = p.talked.out; back = subst (λ bytes. Gives a bytes c) (append-nil p.given) (Gives-append a b c p.given [] p.talked.back back) })
stops_hearing c tries last turns fault.Write p back = absurd back
stops_hearing c tries last turns fault.Silent p back = absurd back
stops_hearing c tries last turns fault.Nak p back = absurd back
stops_hearing c tries last turns fault.Differs p back = absurd back

-- the writer took nothing of a try
pub stops_trying : {h m : Option (List ℕ)} (h' : Option (List ℕ)) {a b : Ahead} (c : Ahead) (tries last turns : ℕ) (came : Option ℕ) (why : Fault) → came ≡ None → tries ≢ most_tries → IsListening h m a b tries last turns → Hears b c (Ok came)
    → Tries m h' (Err why) → StopsWord (wire h a) (wire h' c) why
stops_trying {h} {m} h' {a} {b} c tries last turns came fault.Write is few p heard cut =
    let back : Gives b [] c = (subst (λ o. Hears b c (Ok o)) is heard).0 in
    let nothing : cut.0 ≡ 0 = omega (arith, cut.1) in
    let none : Appends m h' [] = subst (λ n. Appends m h' (take n (0x10 ∷ []))) nothing cut.2 in (
      tries,
      p.given,
      omega (arith, p.few, few),
      record {
        few = p.few;
        none = p.none;
        talked = record {
          out = subst (Appends h h') (append-nil (replicate tries 0x10)) (Appends-append h m h' (replicate tries 0x10) [] p.talked.out none);
          back = subst (λ bytes. Gives a bytes c) (append-nil p.given) (Gives-append a b c p.given [] p.talked.back back);
        };
      },
    )
stops_trying h' c tries last turns came fault.Read is few p heard cut = absurd cut
stops_trying h' c tries last turns came fault.Silent is few p heard cut = absurd cut
stops_trying h' c tries last turns came fault.Nak is few p heard cut = absurd cut
stops_trying h' c tries last turns came fault.Differs is few p heard cut = absurd cut

-- what comes late, and a reader that fails in it
pub then_late : {h h' : Option (List ℕ)} {a b : Ahead} (c : Ahead) (tries : ℕ) (r : Result (Unit {0}) Fault) (room : ℕ) → room ≤ 2 * (tries - 1) → HasFound (wire h a) (wire h' b) tries → HearsLate b c r room
    → Begins (wire h a) (wire h' c) r
then_late {h} {h'} {a} {b} c tries (Ok u) room few p q = record {
  tries = tries;
  noise = p.noise;
  late = q.0;
  word = record { some = p.word.some; few = p.word.few; first = p.word.first; rest = omega (arith, q.1, few) };
  talked = record {
    out = p.talked.out;
    back = subst (λ xs. Gives a xs c) (append_assoc p.noise (NAK ∷ ACK ∷ []) q.0) (Gives-append a b c (p.noise ++ (NAK ∷ ACK ∷ [])) q.0 p.talked.back q.2);
  };
}
then_late {h} {h'} {a} {b} c tries (Err fault.Read) room few p q =
    (tries, (p.noise ++ (NAK ∷ ACK ∷ [])) ++ q.0, p.word.few, record { out = p.talked.out; back = Gives-append a b c (p.noise ++ (NAK ∷ ACK ∷ [])) q.0 p.talked.back q.2 })
then_late c tries (Err fault.Write) room few p q = absurd q
then_late c tries (Err fault.Silent) room few p q = absurd q
then_late c tries (Err fault.Nak) room few p q = absurd q
then_late c tries (Err fault.Differs) room few p q = absurd q

pub short_front : (n : ℕ) (xs : List ℕ) → length (take n xs) ≤ n
short_front n xs = omega (arith, length-take n xs)
