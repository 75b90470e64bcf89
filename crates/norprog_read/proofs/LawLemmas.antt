-- A setting of a terminal takes some bytes away, and where they came it changed nothing of what was read.
use Rattle.std.proofs.Common.{◌≡◌, ◌<◌, ◌∙◌, ℕ, ◌+◌, Bool, true, false, not, ◌&&◌, ◌||◌, List, [], ◌∷◌, ◌++◌, map, ap, refl, subst, arith}
use Rattle.std.specs.Prelude.{◌==◌, ◌%◌, if◌then◌else◌}
use Rattle.std.proofs.Math.Nat.{mod-lt}
use Rattle.std.proofs.lemmas.Bool.{lt-leb}
use Rattle.std.proofs.lemmas.Bool.Decides.{nat_tests}
use Rattle.norprog_read.specs.declared.came.Kind.{Kind}
use Rattle.norprog_read.specs.declared.came.Kind.TheVariants.{High, Feed, Return, Capital, Small}
use Rattle.norprog_read.specs.Came.{has, is_kept, is_of}
use Rattle.norprog_read.specs.Laws.{handed_on, lowered, stripped, turned, ShownLineKeeps}
use Rattle.norprog_read.proofs.WayLemmas.{and_both, not_so, or_right}

never : {A : Type 0} (b : Bool) → b ≡ true → b ≡ false → A
never true is isnt = let e : Path Bool true false = isnt in absurd cc
never false is isnt = let e : Path Bool false true = is in absurd cc

or_none : (a b : Bool) → a || b ≡ false → (a ≡ false) × (b ≡ false)
or_none true b none = let e : Path Bool true false = none in absurd cc
or_none false b none = (refl, none)

-- ---- a capital letter, and the small one that is made of it
small_of : (byte : ℕ) → is_of Capital byte ≡ true → is_of Small (byte + 0x20) ≡ true
small_of byte is = grind (arith, nat_tests)

made_small : (byte : ℕ) → is_of Capital byte ≡ true → is_of Capital (byte + 0x20) ≡ false
made_small byte is = grind (arith, nat_tests)

-- one of seven bits is one of ASCII
made_low : (byte : ℕ) → byte < 0x80 → is_of Capital byte ≡ true → byte + 0x20 < 0x80
made_low byte low is = grind (arith, nat_tests)

low_byte : (byte : ℕ) → byte < 0x80 → is_of High byte ≡ false
low_byte byte low = lt-leb 0x80 byte low

-- ---- what holds of each that a setting makes
lowered_of : (P : ℕ → Type 0) (byte : ℕ) (p : Bool) → is_of Capital byte ≡ p → (is_of Capital byte ≡ true → P (byte + 0x20))
    → (is_of Capital byte ≡ false → P byte) → P (if p then byte + 0x20 else byte)
lowered_of P byte true is made kept = made is
lowered_of P byte false is made kept = kept is

-- by whether the byte is one of those two
abbrev turned_by : Bool → Bool → Bool → Bool → ℕ → ℕ
turned_by icrnl inlcr back feed byte = if icrnl && back then 0x0A else if inlcr && feed then 0x0D else byte

turned_of : (P : ℕ → Type 0) (icrnl inlcr back feed : Bool) (byte : ℕ) → P 0x0A → P 0x0D → P byte → P (turned_by icrnl inlcr back feed byte)
turned_of P true inlcr true feed byte p q r = p
turned_of P true true false true byte p q r = q
turned_of P true true false false byte p q r = r
turned_of P true false false feed byte p q r = r
turned_of P false true back true byte p q r = q
turned_of P false true back false byte p q r = r
turned_of P false false back feed byte p q r = r

-- ---- what it takes away
no_capital : (icrnl inlcr : Bool) (byte : ℕ) → is_of Capital (turned icrnl inlcr (lowered true byte)) ≡ false
no_capital icrnl inlcr byte =
    let c = lowered true byte in
    let low : is_of Capital c ≡ false = lowered_of (λ x. is_of Capital x ≡ false) byte (is_of Capital byte) refl
    (made_small byte) (λ isnt. isnt) in
    turned_of (λ x. is_of Capital x ≡ false) icrnl inlcr (c == 0x0D) (c == 0x0A) c refl refl low

no_high : (iuclc icrnl inlcr : Bool) (byte : ℕ) → is_of High (turned icrnl inlcr (lowered iuclc (stripped true byte))) ≡ false
no_high iuclc icrnl inlcr byte =
    let s = byte % 0x80 in
    let c = lowered iuclc s in
    turned_of (λ x. is_of High x ≡ false) icrnl inlcr (c == 0x0D) (c == 0x0A) c refl refl (low iuclc)
  where
    small : byte % 0x80 < 0x80
    small = mod-lt byte (omega arith)

    low : (l : Bool) → is_of High (lowered l (byte % 0x80)) ≡ false
    low true = lowered_of (λ x. is_of High x ≡ false) (byte % 0x80) (is_of Capital (byte % 0x80)) refl
        (λ is. low_byte (byte % 0x80 + 0x20) (made_low (byte % 0x80) small is)) (λ isnt. low_byte (byte % 0x80) small)
    low false = low_byte (byte % 0x80) small

no_return : (byte : ℕ) → is_of Return (turned true false byte) ≡ false
no_return byte = go (byte == 0x0D) refl
  where
    go : (back : Bool) → byte == 0x0D ≡ back → is_of Return (turned_by true false back (byte == 0x0A) byte) ≡ false
    go true is = refl
    go false isnt = isnt

no_feed : (byte : ℕ) → is_of Feed (turned false true byte) ≡ false
no_feed byte = go (byte == 0x0A) refl
  where
    go : (feed : Bool) → byte == 0x0A ≡ feed → is_of Feed (turned_by false true (byte == 0x0D) feed byte) ≡ false
    go true is = refl
    go false isnt = isnt

all_lack : (kind : Kind) (f : ℕ → ℕ) → ((byte : ℕ) → is_of kind (f byte) ≡ false) → (sent : List ℕ) → has kind (map f sent) ≡ false
all_lack kind f each [] = refl
all_lack kind f each (byte ∷ sent) = rw (each byte) (all_lack kind f each sent)

-- ---- where it made nothing, it changed nothing
turned_kept : (icrnl inlcr back feed : Bool) (byte : ℕ) → (icrnl ≡ true → is_of Feed (turned_by icrnl inlcr back feed byte) ≡ false)
    → (inlcr ≡ true → is_of Return (turned_by icrnl inlcr back feed byte) ≡ false) → turned_by icrnl inlcr back feed byte ≡ byte
turned_kept true inlcr true feed byte feeds returns = let e : Path Bool true false = feeds refl in absurd cc
turned_kept true true false true byte feeds returns = let e : Path Bool true false = returns refl in absurd cc
turned_kept true true false false byte feeds returns = refl
turned_kept true false false feed byte feeds returns = refl
turned_kept false true back true byte feeds returns = let e : Path Bool true false = returns refl in absurd cc
turned_kept false true back false byte feeds returns = refl
turned_kept false false back feed byte feeds returns = refl

lowered_kept : (iuclc : Bool) (byte : ℕ) → (iuclc ≡ true → is_of Small (lowered iuclc byte) ≡ false) → lowered iuclc byte ≡ byte
lowered_kept true byte none = go (is_of Capital byte) refl (none refl)
  where
    go : (p : Bool) → is_of Capital byte ≡ p → is_of Small (if p then byte + 0x20 else byte) ≡ false → (if p then byte + 0x20 else byte) ≡ byte
    go true is isnt = never (is_of Small (byte + 0x20)) (small_of byte is) isnt
    go false is isnt = refl
lowered_kept false byte none = refl

byte_kept : (iuclc icrnl inlcr : Bool) (byte : ℕ) → (iuclc ≡ true → is_of Small (turned icrnl inlcr (lowered iuclc byte)) ≡ false)
    → (icrnl ≡ true → is_of Feed (turned icrnl inlcr (lowered iuclc byte)) ≡ false)
    → (inlcr ≡ true → is_of Return (turned icrnl inlcr (lowered iuclc byte)) ≡ false) → turned icrnl inlcr (lowered iuclc byte) ≡ byte
byte_kept iuclc icrnl inlcr byte small feeds returns =
    let c = lowered iuclc byte in
    let same : turned icrnl inlcr c ≡ c = turned_kept icrnl inlcr (c == 0x0D) (c == 0x0A) c feeds returns in
    same ∙ lowered_kept iuclc byte (λ set. subst (λ (x : ℕ). is_of Small x ≡ false) same (small set))

all_kept : (iuclc icrnl inlcr : Bool) (sent : List ℕ)
    → (iuclc ≡ true → has Small (map (handed_on false iuclc icrnl inlcr) sent) ≡ false)
    → (icrnl ≡ true → has Feed (map (handed_on false iuclc icrnl inlcr) sent) ≡ false)
    → (inlcr ≡ true → has Return (map (handed_on false iuclc icrnl inlcr) sent) ≡ false) → map (handed_on false iuclc icrnl inlcr) sent ≡ sent
all_kept iuclc icrnl inlcr [] small feeds returns = refl
all_kept iuclc icrnl inlcr (byte ∷ sent) small feeds returns =
    let f = handed_on false iuclc icrnl inlcr in
    let first : f byte ≡ byte = byte_kept iuclc icrnl inlcr byte
    (λ set. (or_none (is_of Small (f byte)) (has Small (map f sent)) (small set)).0)
    (λ set. (or_none (is_of Feed (f byte)) (has Feed (map f sent)) (feeds set)).0)
    (λ set. (or_none (is_of Return (f byte)) (has Return (map f sent)) (returns set)).0) in
    let rest : map f sent ≡ sent = all_kept iuclc icrnl inlcr sent
    (λ set. (or_none (is_of Small (f byte)) (has Small (map f sent)) (small set)).1)
    (λ set. (or_none (is_of Feed (f byte)) (has Feed (map f sent)) (feeds set)).1)
    (λ set. (or_none (is_of Return (f byte)) (has Return (map f sent)) (returns set)).1) in
    ap (λ x. x ∷ map f sent) first ∙ ap (λ xs. byte ∷ xs) rest

-- ---- what came shows that
both_lack : (kind : Kind) (f : ℕ → ℕ) → ((byte : ℕ) → is_of kind (f byte) ≡ false) → (id read : List ℕ) → has kind (map f id ++ map f read) ≡ false
both_lack kind f each [] read = all_lack kind f each read
both_lack kind f each (byte ∷ id) read = rw (each byte) (both_lack kind f each id read)

-- a setting that takes away the one kind made none of the other
none_made : (lost made : Kind) (f : ℕ → ℕ) → ((byte : ℕ) → is_of lost (f byte) ≡ false) → (id read : List ℕ)
    → is_kept lost made (map f id) (map f read) ≡ true → has made (map f read) ≡ false
none_made lost made f each id read kept =
    not_so (has made (map f read)) (or_right (has lost (map f id ++ map f read)) (not (has made (map f read))) kept (both_lack lost f each id read))

no_small : (iuclc icrnl inlcr : Bool) (id read : List ℕ)
    → is_kept Capital Small (map (handed_on false iuclc icrnl inlcr) id) (map (handed_on false iuclc icrnl inlcr) read) ≡ true
    → iuclc ≡ true → has Small (map (handed_on false iuclc icrnl inlcr) read) ≡ false
no_small true icrnl inlcr id read kept set = none_made Capital Small (handed_on false true icrnl inlcr) (no_capital icrnl inlcr) id read kept
no_small false icrnl inlcr id read kept set = let e : Path Bool false true = set in absurd cc

no_feeds : (iuclc icrnl inlcr : Bool) (id read : List ℕ) → icrnl && inlcr ≡ false
    → is_kept Return Feed (map (handed_on false iuclc icrnl inlcr) id) (map (handed_on false iuclc icrnl inlcr) read) ≡ true
    → icrnl ≡ true → has Feed (map (handed_on false iuclc icrnl inlcr) read) ≡ false
no_feeds iuclc true true id read apart kept set = let e : Path Bool true false = apart in absurd cc
no_feeds iuclc true false id read apart kept set =
    none_made Return Feed (handed_on false iuclc true false) (λ byte. no_return (lowered iuclc byte)) id read kept
no_feeds iuclc false inlcr id read apart kept set = let e : Path Bool false true = set in absurd cc

no_returns : (iuclc icrnl inlcr : Bool) (id read : List ℕ) → icrnl && inlcr ≡ false
    → is_kept Feed Return (map (handed_on false iuclc icrnl inlcr) id) (map (handed_on false iuclc icrnl inlcr) read) ≡ true
    → inlcr ≡ true → has Return (map (handed_on false iuclc icrnl inlcr) read) ≡ false
no_returns iuclc true true id read apart kept set = let e : Path Bool true false = apart in absurd cc
no_returns iuclc false true id read apart kept set =
    none_made Feed Return (handed_on false iuclc false true) (λ byte. no_feed (lowered iuclc byte)) id read kept
no_returns iuclc icrnl false id read apart kept set = let e : Path Bool false true = set in absurd cc

pub shown_line_keeps : ShownLineKeeps
shown_line_keeps true iuclc icrnl inlcr id read apart shows =
    let f = handed_on true iuclc icrnl inlcr in
    let high = has High (map f id ++ map f read) in
    never high (and_both high _ shows).0 (both_lack High f (no_high iuclc icrnl inlcr) id read)
shown_line_keeps false iuclc icrnl inlcr id read apart shows =
    let f = handed_on false iuclc icrnl inlcr in
    let feeds = is_kept Return Feed (map f id) (map f read) in
    let returns = is_kept Feed Return (map f id) (map f read) in
    let small = is_kept Capital Small (map f id) (map f read) in
    let first = and_both feeds (returns && small) (and_both (has High (map f id ++ map f read)) (feeds && (returns && small)) shows).1 in
    let rest = and_both returns small first.1 in
    all_kept iuclc icrnl inlcr read (no_small iuclc icrnl inlcr id read rest.1) (no_feeds iuclc icrnl inlcr id read apart first.0)
    (no_returns iuclc icrnl inlcr id read apart rest.0)
