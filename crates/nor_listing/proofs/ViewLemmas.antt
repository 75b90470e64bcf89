-- The words of a step tell the step.
use Rattle.std.proofs.Common.{◌≡◌, ℕ, ◌+◌, ◌*◌, ◌/◌, ◌^◌, ◌<◌, ◌≤◌, ◌==◌, if◌then◌else◌, Bool, true, false, List, [], ◌∷◌, ◌++◌, length, drop, get_or, Option, Some, None, refl, sym, ◌∙◌, ap, subst, arith, append_assoc}
use Rattle.std.specs.Prelude.{codes}
use Rattle.std.specs.Str.{bytes_eq}
use Rattle.std.proofs.lemmas.List.{append_cancel_left}
use Rattle.std.proofs.lemmas.Slice.Eq.{bytes_eq-Decides}
use Rattle.nor_base.specs.declared.instruction.What.{What}
use Rattle.nor_base.specs.declared.instruction.What.TheVariants as what
use Rattle.nor_base.specs.declared.step.Step.{Step}
use Rattle.nor_base.specs.declared.step.Step.TheVariants.{Send, Poll, Verify}
use Rattle.nor_base.specs.Parameters.{Parameters}
use Rattle.nor_base.specs.Instructions.{Form, nothing, sends, sends4, samples, samples4, form_of}
use Rattle.nor_base.specs.Decoding.{Instruction, decode, opcode, bytes_asked}
use Rattle.nor_base.specs.Effect.{is_broken, is_read, has_address}
use Rattle.nor_base.specs.Run.{poll_clocks, is_verify}
use Rattle.nor_base.specs.Array.{are_bytes}
use Rattle.nor_base.specs.Step.{expected, step_clocks}
use Rattle.nor_base.specs.Script.{closed, hex_pair, step_line}
use Rattle.nor_laws.specs.Spelling.{SameSpelling}
use Rattle.nor_listing.specs.Law.{IsListable}
use Rattle.nor_listing.specs.Listing.{in_eight, counted, spelled, sent_words, send_words, read_words, verify_words, words}
use Rattle.nor_laws.proofs.ScriptLaws.{SameStep, bytes_apart, pair_apart, small_bytes, step_apart}
use Rattle.nor_listing.proofs.TailLemmas.{tail_words, tail_tells, placed, data_apart}
use Rattle.nor_listing.proofs.TakenLemmas.{takes, taken_as, same_row, same_clocks, opcode_small}

-- the word of clocks that are taken, and that of clocks that read what is expected
abbrev pub word : What → List ℕ
word what.Enable = codes "enable "
word what.Disable = codes "disable "
word what.Status = codes "status "
word what.Enter = codes "enter "
word what.Leave = codes "leave "
word (what.Erase kind) = codes "erase "
word what.Program = codes "program "
word what.QuadProgram = codes "quadprogram "
word what.Read = codes "read "
word what.QuadRead = codes "quadread "
word what.Broken = codes "enable "

abbrev pub verify_word : What → List ℕ
verify_word what.QuadRead = codes "quadverify "
verify_word other = codes "verify "

sent_are : (m : Parameters) (clocks : List ℕ) (i : Instruction) (w : What) → is_broken w ≡ false
    → sent_words m clocks i w ≡ word w ++ (hex_pair (opcode clocks) ++ tail_words m i w)
sent_are m clocks i what.Enable sound = refl
sent_are m clocks i what.Disable sound = refl
sent_are m clocks i what.Status sound = refl
sent_are m clocks i what.Enter sound = refl
sent_are m clocks i what.Leave sound = refl
sent_are m clocks i (what.Erase kind) sound = refl
sent_are m clocks i what.Program sound = refl
sent_are m clocks i what.QuadProgram sound = refl
sent_are m clocks i what.Read sound = refl
sent_are m clocks i what.QuadRead sound = refl
sent_are m clocks i what.Broken sound = cc

-- two letters of a text tell its first word
abbrev tag : List ℕ → ℕ
tag text = get_or text 0 0 * 256 + get_or text 4 0

abbrev word_by : ℕ → List ℕ
word_by t =
    if t == 0x656C then codes "enable "
    else if t == 0x6462 then codes "disable "
    else if t == 0x7375 then codes "status "
    else if t == 0x6572 then codes "enter "
    else if t == 0x6C65 then codes "leave "
    else if t == 0x6565 then codes "erase "
    else if t == 0x7072 then codes "program "
    else if t == 0x7170 then codes "quadprogram "
    else if t == 0x7220 then codes "read "
    else if t == 0x7172 then codes "quadread "
    else if t == 0x7166 then codes "verify "
    else if t == 0x7666 then codes "verify "
    else codes "quadverify "

word_told : (w : What) (z : List ℕ) → word_by (tag (word w ++ z)) ≡ word w
word_told what.Enable z = refl
word_told what.Disable z = refl
word_told what.Status z = refl
word_told what.Enter z = refl
word_told what.Leave z = refl
word_told (what.Erase kind) z = refl
word_told what.Program z = refl
word_told what.QuadProgram z = refl
word_told what.Read z = refl
word_told what.QuadRead z = refl
word_told what.Broken z = refl

verify_word_told : (w : What) (z : List ℕ) → word_by (tag (verify_word w ++ z)) ≡ verify_word w
verify_word_told what.QuadRead z = refl
verify_word_told other z = refl

-- of a text that begins with one of some words, the word
same_word : (a b u v : List ℕ) → word_by (tag (a ++ u)) ≡ a → word_by (tag (b ++ v)) ≡ b → a ++ u ≡ b ++ v → u ≡ v
same_word a b u v first second h =
    let words : a ≡ b = sym first ∙ ap (λ l. word_by (tag l)) h ∙ second in
    append_cancel_left b u v (ap (λ l. l ++ u) (sym words) ∙ h)

-- which sort of line
abbrev sort_by : ℕ → ℕ
sort_by t =
    if t == 0x7020 then 1
    else if t == 0x7666 then 2
    else if t == 0x7176 then 2
    else if t == 0x6265 then 3
    else if t == 0x756F then 4
    else 0

word_sort : (w : What) (z : List ℕ) → sort_by (tag (word w ++ z)) ≡ 0
word_sort what.Enable z = refl
word_sort what.Disable z = refl
word_sort what.Status z = refl
word_sort what.Enter z = refl
word_sort what.Leave z = refl
word_sort (what.Erase kind) z = refl
word_sort what.Program z = refl
word_sort what.QuadProgram z = refl
word_sort what.Read z = refl
word_sort what.QuadRead z = refl
word_sort what.Broken z = refl

verify_word_sort : (w : What) (z : List ℕ) → sort_by (tag (verify_word w ++ z)) ≡ 2
verify_word_sort what.QuadRead z = refl
verify_word_sort other z = refl

abbrev pub read_tail : Instruction → List ℕ → List ℕ
read_tail i expect = in_eight i.address ++ (counted i.asked ++ spelled expect)

pub read_sound : (w : What) → is_read w ≡ true → is_broken w ≡ false
read_sound what.Broken reads = cc
read_sound other reads = refl

read_same : (w : What) (a b : ℕ) (p q : List ℕ) → is_read w ≡ true → a ≡ b → bytes_asked (form_of w) p ≡ bytes_asked (form_of w) q → taken_as w a p ≡ taken_as w b q
read_same what.Read a b p q reads at count =
    ap (λ k. record { what = what.Read; address = k; sent = []; asked = length p / 8 }) at ∙ ap (λ n. record { what = what.Read; address = b; sent = []; asked = n }) count
read_same what.QuadRead a b p q reads at count =
    ap (λ k. record { what = what.QuadRead; address = k; sent = []; asked = length p / 2 }) at ∙ ap (λ n. record { what = what.QuadRead; address = b; sent = []; asked = n }) count
read_same other a b p q reads at count = cc

pub asked_few : (form : Form) (body : List ℕ) → bytes_asked form body ≤ length body
asked_few nothing body = omega arith
asked_few sends body = omega arith
asked_few sends4 body = omega arith
asked_few samples body = omega arith
asked_few samples4 body = omega arith

pub record IsTaken (m : Parameters) (mode4 : Bool) (x : Step) : Type 0 where
  pub clocks : List ℕ
  pub i : Instruction
  pub is : x ≡ Send clocks
  pub sees : decode m mode4 clocks ≡ Some i
  pub sound : is_broken i.what ≡ false
  pub spelled : words m mode4 x ≡ word i.what ++ (hex_pair (opcode clocks) ++ tail_words m i i.what)

pub record IsPolled (m : Parameters) (mode4 : Bool) (x : Step) : Type 0 where
  pub is : x ≡ Poll poll_clocks
  pub spelled : words m mode4 x ≡ codes "poll 05"

pub record IsVerified (m : Parameters) (mode4 : Bool) (x : Step) : Type 0 where
  pub clocks : List ℕ
  pub expect : List ℕ
  pub i : Instruction
  pub is : x ≡ Verify clocks expect
  pub sees : decode m mode4 clocks ≡ Some i
  pub reads : is_read i.what ≡ true
  pub spelled : words m mode4 x ≡ verify_word i.what ++ (hex_pair (opcode clocks) ++ read_tail i expect)

pub record IsCopied (m : Parameters) (mode4 : Bool) (x : Step) (front : List ℕ) : Type 0 where
  pub spelled : words m mode4 x ≡ front ++ step_line x

pub data View (m : Parameters) (mode4 : Bool) (x : Step) : Type 0 where
  taken : IsTaken m mode4 x → View m mode4 x
  polled : IsPolled m mode4 x → View m mode4 x
  verified : IsVerified m mode4 x → View m mode4 x
  broken : IsCopied m mode4 x (codes "broken ") → View m mode4 x
  unknown : IsCopied m mode4 x (codes "unknown ") → View m mode4 x

module _ (m : Parameters) (mode4 : Bool) where
  view_taken : (clocks : List ℕ) (i : Instruction) (b : Bool) → is_broken i.what ≡ b → decode m mode4 clocks ≡ Some i → View m mode4 (Send clocks)
  unfolding words
  view_taken clocks i false sound sees = taken (record {
    clocks = clocks;
    i = i;
    is = refl;
    sees = sees;
    sound = sound;
    spelled = ap (send_words m clocks) sees ∙ sent_are m clocks i i.what sound;
  })
  view_taken clocks i true is sees = broken (record { spelled = ap (send_words m clocks) sees ∙ broken_words i.what is })
    where
      broken_words : (w : What) → is_broken w ≡ true → sent_words m clocks i w ≡ codes "broken " ++ step_line (Send clocks)
      broken_words what.Broken is = refl
      broken_words other is = cc

  view_send : (clocks : List ℕ) (o : Option Instruction) → decode m mode4 clocks ≡ o → View m mode4 (Send clocks)
  unfolding words
  view_send clocks None sees = unknown (record { spelled = ap (send_words m clocks) sees })
  view_send clocks (Some i) sees = view_taken clocks i (is_broken i.what) refl sees

  view_poll : (clocks : List ℕ) (b : Bool) → bytes_eq clocks poll_clocks ≡ b → View m mode4 (Poll clocks)
  unfolding words
  view_poll clocks true is = polled (record {
    is = ap Poll ((bytes_eq-Decides clocks poll_clocks).0 is);
    spelled = ap (λ b. if b then codes "poll 05" else codes "unknown " ++ step_line (Poll clocks)) is;
  })
  view_poll clocks false is =
      unknown (record { spelled = ap (λ b. if b then codes "poll 05" else codes "unknown " ++ step_line (Poll clocks)) is })

  view_read : (clocks expect : List ℕ) (i : Instruction) (w : What) → i.what ≡ w → decode m mode4 clocks ≡ Some i
      → words m mode4 (Verify clocks expect) ≡ read_words clocks expect i i.what → View m mode4 (Verify clocks expect)
  view_read clocks expect i what.Read is sees told = verified (record {
    clocks = clocks;
    expect = expect;
    i = i;
    is = refl;
    sees = sees;
    reads = ap is_read is;
    spelled = told ∙ ap (read_words clocks expect i) is ∙ ap (λ w. verify_word w ++ (hex_pair (opcode clocks) ++ read_tail i expect)) (sym is);
  })
  view_read clocks expect i what.QuadRead is sees told = verified (record {
    clocks = clocks;
    expect = expect;
    i = i;
    is = refl;
    sees = sees;
    reads = ap is_read is;
    spelled = told ∙ ap (read_words clocks expect i) is ∙ ap (λ w. verify_word w ++ (hex_pair (opcode clocks) ++ read_tail i expect)) (sym is);
  })
  view_read clocks expect i what.Broken is sees told = broken (record { spelled = told ∙ ap (read_words clocks expect i) is })
  view_read clocks expect i other is sees told = unknown (record { spelled = told ∙ ap (read_words clocks expect i) is })

  view_seen : (clocks expect : List ℕ) (o : Option Instruction) → decode m mode4 clocks ≡ o
      → words m mode4 (Verify clocks expect) ≡ verify_words clocks expect o → View m mode4 (Verify clocks expect)
  view_seen clocks expect None sees told = unknown (record { spelled = told })
  view_seen clocks expect (Some i) sees told = view_read clocks expect i i.what refl sees told

  view_verify : (clocks expect : List ℕ) (b : Bool) → is_verify clocks ≡ b → View m mode4 (Verify clocks expect)
  unfolding words
  view_verify clocks expect true is =
      view_seen clocks expect (decode m mode4 clocks) refl (ap (λ b. verify_words clocks expect (if b then decode m mode4 clocks else None)) is)
  view_verify clocks expect false is =
      unknown (record { spelled = ap (λ b. verify_words clocks expect (if b then decode m mode4 clocks else None)) is })

  pub view : (x : Step) → View m mode4 x
  view (Send clocks) = view_send clocks (decode m mode4 clocks) refl
  view (Poll clocks) = view_poll clocks (bytes_eq clocks poll_clocks) refl
  view (Verify clocks expect) = view_verify clocks expect (is_verify clocks) refl

  abbrev sort : (x : Step) → View m mode4 x → ℕ
  sort x (taken v) = 0
  sort x (polled v) = 1
  sort x (verified v) = 2
  sort x (broken v) = 3
  sort x (unknown v) = 4

  sorted : (x : Step) (v : View m mode4 x) (z : List ℕ) → sort_by (tag (words m mode4 x ++ z)) ≡ sort x v
  sorted x (taken v) z =
      ap (λ l. sort_by (tag (l ++ z))) v.spelled
      ∙ ap (λ l. sort_by (tag l)) (append_assoc (word v.i.what) (hex_pair (opcode v.clocks) ++ tail_words m v.i v.i.what) z)
      ∙ word_sort v.i.what ((hex_pair (opcode v.clocks) ++ tail_words m v.i v.i.what) ++ z)
  sorted x (polled v) z = ap (λ l. sort_by (tag (l ++ z))) v.spelled
  sorted x (verified v) z =
      ap (λ l. sort_by (tag (l ++ z))) v.spelled
      ∙ ap (λ l. sort_by (tag l)) (append_assoc (verify_word v.i.what) (hex_pair (opcode v.clocks) ++ read_tail v.i v.expect) z)
      ∙ verify_word_sort v.i.what ((hex_pair (opcode v.clocks) ++ read_tail v.i v.expect) ++ z)
  sorted x (broken v) z = ap (λ l. sort_by (tag (l ++ z))) v.spelled
  sorted x (unknown v) z = ap (λ l. sort_by (tag (l ++ z))) v.spelled

  -- the same word in front
  behind : (x y : Step) (a b u v p q : List ℕ) → words m mode4 x ≡ a ++ u → words m mode4 y ≡ b ++ v → word_by (tag (a ++ (u ++ p))) ≡ a → word_by (tag (b ++ (v ++ q))) ≡ b
      → words m mode4 x ++ p ≡ words m mode4 y ++ q → u ++ p ≡ v ++ q
  behind x y a b u v p q first second its other h =
      same_word a b (u ++ p) (v ++ q) its other
      (sym (append_assoc a u p) ∙ ap (λ l. l ++ p) (sym first) ∙ h ∙ ap (λ l. l ++ q) second ∙ append_assoc b v q)

  few_clocks : (x : Step) (clocks : List ℕ) → IsListable x → step_clocks x ≡ clocks → length clocks < 2 ^ 64
  few_clocks x clocks listed is = subst (λ (c : List ℕ). length c < 2 ^ 64) is listed.few

  module _ (law : SameSpelling) (x y : Step) (listed : IsListable x) (other : IsListable y) (p q : List ℕ)
      (h : words m mode4 x ++ 0x0A ∷ p ≡ words m mode4 y ++ 0x0A ∷ q) where
    both_taken : IsTaken m mode4 x → IsTaken m mode4 y → SameStep x y p q
    both_taken v w =
        let s = takes m mode4 v.clocks v.i v.sound v.sees in
        let t = takes m mode4 w.clocks w.i w.sound w.sees in
        let u = hex_pair (opcode v.clocks) ++ tail_words m v.i v.i.what in
        let z = hex_pair (opcode w.clocks) ++ tail_words m w.i w.i.what in
        let after = behind x y (word v.i.what) (word w.i.what) u z (0x0A ∷ p) (0x0A ∷ q) v.spelled w.spelled
        (word_told v.i.what (u ++ 0x0A ∷ p)) (word_told w.i.what (z ++ 0x0A ∷ q)) h in
        let op = pair_apart (opcode v.clocks) (opcode w.clocks) (tail_words m v.i v.i.what ++ 0x0A ∷ p) (tail_words m w.i w.i.what ++ 0x0A ∷ q)
        (opcode_small v.clocks) (opcode_small w.clocks) after in
        let row = same_row m mode4 v.clocks w.clocks v.i w.i s t op.front in
        let few = few_clocks x v.clocks listed (ap step_clocks v.is) in
        let fewer = few_clocks y w.clocks other (ap step_clocks w.is) in
        let its = s.few in
        let theirs = t.few in
        let second : taken_as s.r.what t.address t.body ≡ w.i = ap (λ r. taken_as r.what t.address t.body) row ∙ t.is in
        let same = tail_tells m s.address t.address s.body t.body p q s.r.what
        (record { narrow = s.narrow; few = omega (arith, few, its); bare = s.bare })
        (record { narrow = t.narrow; few = omega (arith, fewer, theirs); bare = λ none. t.bare (ap (λ r. has_address r.what) (sym row) ∙ none) })
        (ap (λ k. tail_words m k k.what ++ 0x0A ∷ p) s.is ∙ op.rest ∙ sym (ap (λ k. tail_words m k k.what ++ 0x0A ∷ q) second)) in
        let clocks = same_clocks law m mode4 v.clocks w.clocks v.i w.i v.sees w.sees s op.front (sym s.is ∙ same.is ∙ second) in
        record { is = v.is ∙ ap Send clocks ∙ sym w.is; rest = same.rest }

    both_polled : IsPolled m mode4 x → IsPolled m mode4 y → SameStep x y p q
    both_polled v w = record {
      is = v.is ∙ sym w.is;
      rest = ap (drop 8) (ap (λ l. l ++ 0x0A ∷ p) (sym v.spelled) ∙ h ∙ ap (λ l. l ++ 0x0A ∷ q) w.spelled);
    }

    both_copied : (front : List ℕ) → IsCopied m mode4 x front → IsCopied m mode4 y front → SameStep x y p q
    both_copied front v w =
        let lines : closed (step_line x) ++ p ≡ closed (step_line y) ++ q =
        append_assoc (step_line x) (0x0A ∷ []) p
        ∙ append_cancel_left front (step_line x ++ 0x0A ∷ p) (step_line y ++ 0x0A ∷ q)
        (sym (append_assoc front (step_line x) (0x0A ∷ p)) ∙ ap (λ l. l ++ 0x0A ∷ p) (sym v.spelled) ∙ h ∙ ap (λ l. l ++ 0x0A ∷ q) w.spelled
        ∙ append_assoc front (step_line y) (0x0A ∷ q))
        ∙ sym (append_assoc (step_line y) (0x0A ∷ []) q) in
        step_apart x y p q listed.is_one other.is_one lines

    both_verified : IsVerified m mode4 x → IsVerified m mode4 y → SameStep x y p q
    both_verified v w =
        let s = takes m mode4 v.clocks v.i (read_sound v.i.what v.reads) v.sees in
        let t = takes m mode4 w.clocks w.i (read_sound w.i.what w.reads) w.sees in
        let u = hex_pair (opcode v.clocks) ++ read_tail v.i v.expect in
        let z = hex_pair (opcode w.clocks) ++ read_tail w.i w.expect in
        let after = behind x y (verify_word v.i.what) (verify_word w.i.what) u z (0x0A ∷ p) (0x0A ∷ q) v.spelled w.spelled
        (verify_word_told v.i.what (u ++ 0x0A ∷ p)) (verify_word_told w.i.what (z ++ 0x0A ∷ q)) h in
        let op = pair_apart (opcode v.clocks) (opcode w.clocks) (read_tail v.i v.expect ++ 0x0A ∷ p) (read_tail w.i w.expect ++ 0x0A ∷ q)
        (opcode_small v.clocks) (opcode_small w.clocks) after in
        let row = same_row m mode4 v.clocks w.clocks v.i w.i s t op.front in
        let few = few_clocks x v.clocks listed (ap step_clocks v.is) in
        let fewer = few_clocks y w.clocks other (ap step_clocks w.is) in
        let its = s.few in
        let theirs = t.few in
        let kind = s.r.what in
        let n = bytes_asked (form_of kind) s.body in
        let k = bytes_asked (form_of kind) t.body in
        let second : taken_as kind t.address t.body ≡ w.i = ap (λ r. taken_as r.what t.address t.body) row ∙ t.is in
        let at = placed s.address t.address (counted n ++ spelled v.expect) (counted k ++ spelled w.expect) (0x0A ∷ p) (0x0A ∷ q) s.narrow t.narrow
        (ap (λ i. read_tail i v.expect ++ 0x0A ∷ p) s.is ∙ op.rest ∙ sym (ap (λ i. read_tail i w.expect ++ 0x0A ∷ q) second)) in
        let small = small_bytes v.expect (sym (ap (λ (step : Step). are_bytes (expected step)) v.is) ∙ listed.is_one.bytes) in
        let smaller = small_bytes w.expect (sym (ap (λ (step : Step). are_bytes (expected step)) w.is) ∙ other.is_one.bytes) in
        let count = data_apart n k v.expect w.expect p q (omega (arith, few, its, asked_few (form_of kind) s.body)) (omega (arith, fewer, theirs, asked_few (form_of kind) t.body))
        small smaller at.rest in
        let bytes = bytes_apart v.expect w.expect p q small smaller count.rest in
        let reads : is_read kind ≡ true = ap (λ (i : Instruction). is_read i.what) s.is ∙ v.reads in
        let same = read_same kind s.address t.address s.body t.body reads at.front count.front in
        let clocks = same_clocks law m mode4 v.clocks w.clocks v.i w.i v.sees w.sees s op.front (sym s.is ∙ same ∙ second) in
        record { is = v.is ∙ ap (λ c. Verify c v.expect) clocks ∙ ap (Verify w.clocks) bytes.front ∙ sym w.is; rest = bytes.rest }

    one_sort : (v : View m mode4 x) (w : View m mode4 y) → sort x v ≡ sort y w
    one_sort v w = sym (sorted x v (0x0A ∷ p)) ∙ ap (λ l. sort_by (tag l)) h ∙ sorted y w (0x0A ∷ q)

    pub apart : View m mode4 x → View m mode4 y → SameStep x y p q
    apart (taken v) (taken w) = both_taken v w
    apart (polled v) (polled w) = both_polled v w
    apart (verified v) (verified w) = both_verified v w
    apart (broken v) (broken w) = both_copied (codes "broken ") v w
    apart (unknown v) (unknown w) = both_copied (codes "unknown ") v w
    apart v w = let same = one_sort v w in absurd (omega (arith, same))
