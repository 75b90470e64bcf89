-- Two readings that are cut apart show the mode.
use Rattle.std.proofs.Common.{◌≡◌, ◌<◌, ◌≤◌, ◌⊎◌, inl, inr, ℕ, zero, suc, Bool, true, false, ◌+◌, ◌-◌, ◌*◌, ◌^◌, List, [], ◌∷◌, ◌++◌, length, take, drop, length-take, length-drop, append-nil, get_or, refl, sym, ◌∙◌, ap, subst, arith}
use Rattle.std.specs.Prelude.{not, if◌then◌else◌, min, replicate, nat_lt}
use Rattle.std.specs.List.{AllByRecursion}
use Rattle.std.proofs.lemmas.Bool.{cases_lt, le-ltb, lt-ltb, leb-true}
use Rattle.std.proofs.Math.Nat.{mul-le-mul_right}
use Rattle.std.proofs.lemmas.List.{get_or-drop, get_or-take, drop-drop, take_all, length-replicate}
use Rattle.nor_base.specs.Array.{are_bytes}
use Rattle.nor_base.specs.Clocks.{address_bytes}
use Rattle.nor_base.specs.declared.meaning.Switch.{Switch}
use Rattle.nor_base.specs.declared.meaning.Switch.TheVariants.{Absent, Plain, Latched}
use Rattle.nor_base.specs.Instructions.{is_there}
use Rattle.nor_loop.specs.Log.{Operation}
use Rattle.nor_loop.specs.Reads.{chunk, switch_ops, Chunk}
use Rattle.nor_reader.specs.declared.by.ReadBy.{ReadBy}
use Rattle.nor_reader.specs.declared.by.ReadBy.TheVariants.{Tables, Content, FourBytes, Entered}
use Rattle.nor_reader.specs.Modes.{address_of, MayGive}
use Rattle.nor_reader.specs.Reads.{read_op, reads, ops_from}
use Rattle.nor_reader.specs.Cut.{shift, AreCut, ReadsCut}
use Rattle.nor_reader.specs.Telling.{IsTelling, ShowsMode, is_near, mode_after, FitsFour, HasGiven, Holds, ModeIsShown, ApartKnows, SaidGives, SaidHolds, EnteredHolds, GivesSaid, SureKnows, SwitchMakes}
use Rattle.nor_reader.proofs.ModeLemmas.{Overlaps, period_by, other_four, other_three}

-- in one mode all the time
abbrev AllGive : (ℕ → ℕ) → Bool → List Operation → Type 0
AllGive holds mode4 log = AllByRecursion (MayGive holds mode4) log

-- few bytes tell nothing
pub few_tell : (piece : List ℕ) → length piece ≤ 3 → IsTelling piece → ⊥
few_tell piece few telling =
    telling 255 (omega arith) (omega arith) (period_by 255 (drop 3 piece) (λ y within. absurd (omega (arith, within, few, length-drop 3 piece))))

-- where three address bytes are said they are what is sent for the near
near_op : (a : ℕ) (p : List ℕ) → a + length p ≤ 2 ^ 24 → read_op (Content false) a p ≡ record { sent = 0x03 ∷ address_bytes 3 a; got = p }
near_op a p near =
    ap (λ far. record { sent = if far then 0x13 ∷ address_bytes 4 a else 0x03 ∷ address_bytes 3 a; got = p }) (le-ltb (2 ^ 24) (a + length p) near)

far_op : (a : ℕ) (p : List ℕ) → 2 ^ 24 < a + length p → read_op (Content false) a p ≡ record { sent = 0x13 ∷ address_bytes 4 a; got = p }
far_op a p far =
    ap (λ far. record { sent = if far then 0x13 ∷ address_bytes 4 a else 0x03 ∷ address_bytes 3 a; got = p }) (lt-ltb (2 ^ 24) (a + length p) far)

-- a pair of pieces, the second of which begins two bytes further on
pair_tells : (said : Bool) (holds : ℕ → ℕ) (a : ℕ) (p q : List ℕ) → a + 2 < 2 ^ 32 → (said ≡ true) ⊎ ((a + length p ≤ 2 ^ 24) × (a + 2 + length q ≤ 2 ^ 24))
    → 3 < length p → Overlaps p q → MayGive holds (not said) (read_op (Content said) a p) → MayGive holds (not said) (read_op (Content said) (a + 2) q)
    → IsTelling p → ⊥
pair_tells true holds a p q fits near some over one two telling = telling 256 (omega arith) (omega arith) (other_three holds a p q fits over one two)
pair_tells false holds a p q fits (inl clash) some over one two telling = cc
pair_tells false holds a p q fits (inr near) some over one two telling =
    let has = other_four holds a p q (omega (arith, near.1, over.long)) over (subst (MayGive holds true) (near_op a p near.0) one)
    (subst (MayGive holds true) (near_op (a + 2) q near.1) two) in
    telling has.0 has.1 has.2 has.3

-- the pieces at one number of two readings
cut_overlaps : (most : ℕ) (bytes p q : List ℕ) → p ≡ take most bytes → q ≡ take most (drop 2 bytes) → Overlaps p q
cut_overlaps most bytes p q one two =
    let p_long : length p ≡ length (take most bytes) = ap length one in
    let q_long : length q ≡ length (take most (drop 2 bytes)) = ap length two in
    let p_size = length-take most bytes in
    let q_size = length-take most (drop 2 bytes) in
    let left = length-drop 2 bytes in
    record {
      long = omega (arith, p_long, q_long, p_size, q_size, left);
      alike = λ y within.
          ap (λ (l : List ℕ). get_or l y 0) two ∙ get_or-take most (drop 2 bytes) y 0 (omega (arith, within, p_long, p_size))
          ∙ get_or-drop 2 bytes y 0 ∙ sym (get_or-take most bytes (2 + y) 0 (omega (arith, within, p_long, p_size)))
          ∙ ap (λ (l : List ℕ). get_or l (2 + y) 0) (sym one);
    }

none_tells : (said : Bool) (holds : ℕ → ℕ) (most : ℕ) (k at again : ℕ) (bytes : List ℕ) (ps qs : List (List ℕ)) → AreCut most most bytes ps
    → AreCut most most (drop 2 bytes) qs → (2 < length bytes → again ≡ at + 2) → at + length bytes ≤ 2 ^ 32
    → (said ≡ true) ⊎ (min (at + k * most + 2 + most) (at + length bytes) ≤ 2 ^ 24)
    → AllGive holds (not said) (ops_from (Content said) at ps) → AllGive holds (not said) (ops_from (Content said) again qs)
    → IsTelling (take most (drop (k * most) bytes)) → ⊥
none_tells said holds most k at again bytes [] qs cut recut far fits near one two telling =
    few_tell (take most (drop (k * most) bytes)) (omega (arith, length-take most (drop (k * most) bytes), length-drop (k * most) bytes, ap length cut))
    telling
none_tells said holds most k at again bytes (p ∷ ps) [] cut recut far fits near one two telling =
    few_tell (take most (drop (k * most) bytes))
    (omega (arith, length-take most (drop (k * most) bytes), length-drop (k * most) bytes, ap length recut, length-drop 2 bytes)) telling
none_tells said holds most zero at again bytes (p ∷ ps) (q ∷ qs) cut recut far fits near one two telling =
    let p_size : length p ≡ min most (length bytes) = ap length cut.1 ∙ length-take most bytes in
    let q_size : length q ≡ min most (length (drop 2 bytes)) = ap length recut.1 ∙ length-take most (drop 2 bytes) in
    let left = length-drop 2 bytes in
    let none : 0 * most ≡ 0 = omega arith in
    let tells : IsTelling p = subst IsTelling (ap (λ (n : ℕ). take most (drop n bytes)) none ∙ sym cut.1) telling in
    elim (cases_lt 3 (length p)) [
      | inl some ↦ pair_tells said holds at p q (omega (arith, p_size)) (reached said p_size q_size left near) some
          (cut_overlaps most bytes p q cut.1 recut.1) one.0
          (subst (λ (n : ℕ). MayGive holds (not said) (read_op (Content said) n q)) (far (omega (arith, p_size))) two.0) tells
      | inr few ↦ few_tell p few tells
    ]
  where
    reached : (mode4 : Bool) → length p ≡ min most (length bytes) → length q ≡ min most (length (drop 2 bytes)) → length (drop 2 bytes) ≡ length bytes - 2
        → (mode4 ≡ true) ⊎ (min (at + 0 * most + 2 + most) (at + length bytes) ≤ 2 ^ 24)
        → (mode4 ≡ true) ⊎ ((at + length p ≤ 2 ^ 24) × (at + 2 + length q ≤ 2 ^ 24))
    reached mode4 p_size q_size left (inl four) = inl four
    reached mode4 p_size q_size left (inr upto) = inr (omega arith, omega (arith, recut.0))
none_tells said holds most (suc k) at again bytes (p ∷ ps) (q ∷ qs) cut recut far fits near one two telling =
    let p_size : length p ≡ min most (length bytes) = ap length cut.1 ∙ length-take most bytes in
    let q_size : length q ≡ min most (length (drop 2 bytes)) = ap length recut.1 ∙ length-take most (drop 2 bytes) in
    let left = length-drop 2 bytes in
    let rest = length-drop most bytes in
    none_tells said holds most k (at + length p) (again + length q) (drop most bytes) ps qs cut.2
    (subst (λ (l : List ℕ). AreCut most most l qs) (two_drops most bytes) recut.2)
    (λ more. omega (arith, far (omega (arith, more, rest)), p_size, q_size, left, rest, more)) (omega (arith, p_size, rest)) (nearer said p_size rest near) one.1 two.1
    (subst IsTelling (ap (take most) (behind most k bytes)) telling)
  where
    behind : (n j : ℕ) (l : List ℕ) → drop (suc j * n) l ≡ drop (j * n) (drop n l)
    behind n j l = let same : suc j * n ≡ n + j * n = omega arith in ap (λ (m : ℕ). drop m l) same ∙ sym (drop-drop (j * n) n l)

    two_drops : (n : ℕ) (l : List ℕ) → drop n (drop 2 l) ≡ drop 2 (drop n l)
    two_drops n l = let same : 2 + n ≡ n + 2 = omega arith in drop-drop n 2 l ∙ ap (λ (m : ℕ). drop m l) same ∙ sym (drop-drop 2 n l)

    nearer : (mode4 : Bool) → length p ≡ min most (length bytes) → length (drop most bytes) ≡ length bytes - most
        → (mode4 ≡ true) ⊎ (min (at + suc k * most + 2 + most) (at + length bytes) ≤ 2 ^ 24)
        → (mode4 ≡ true) ⊎ (min (at + length p + k * most + 2 + most) (at + length p + length (drop most bytes)) ≤ 2 ^ 24)
    nearer mode4 p_size rest (inl four) = inl four
    nearer mode4 p_size rest (inr upto) = inr (omega arith)

-- bytes of an address are that address
three_back : (a : ℕ) (driven : List ℕ) → a < 2 ^ 24 → address_of 3 (address_bytes 3 a ++ driven) ≡ a
three_back a driven fits = omega (arith, fits)

four_back : (a : ℕ) (driven : List ℕ) → a < 2 ^ 32 → address_of 4 (address_bytes 4 a ++ driven) ≡ a
four_back a driven fits = omega (arith, fits)

-- a chip in the mode that is said gives what it has
same_op : (holds : ℕ → ℕ) (said : Bool) (a : ℕ) (p : List ℕ) → a + length p ≤ 2 ^ 32 → MayGive holds said (read_op (Content said) a p)
    → (j : ℕ) → j < length p → holds (a + j) ≡ get_or p j 0
same_op holds true a p fits gave j within =
    let from = four_back a gave.driven (omega arith) in
    let same : a + j ≡ address_of 4 (address_bytes 4 a ++ gave.driven) + (4 + j - 4) = omega (arith, from) in
    ap holds same ∙ sym (gave.gives j within (omega arith))
same_op holds false a p fits gave j within = elim (cases_lt (2 ^ 24) (a + length p)) [
  | inl far ↦ by_four (subst (MayGive holds false) (far_op a p far) gave)
  | inr near ↦ by_three near (subst (MayGive holds false) (near_op a p near) gave)
]
  where
    by_four : MayGive holds false (record { sent = 0x13 ∷ address_bytes 4 a; got = p }) → holds (a + j) ≡ get_or p j 0
    by_four op =
        let from = four_back a op.driven (omega arith) in
        let same : a + j ≡ address_of 4 (address_bytes 4 a ++ op.driven) + (4 + j - 4) = omega (arith, from) in
        ap holds same ∙ sym (op.gives j within (omega arith))

    by_three : a + length p ≤ 2 ^ 24 → MayGive holds false (record { sent = 0x03 ∷ address_bytes 3 a; got = p }) → holds (a + j) ≡ get_or p j 0
    by_three near op =
        let from = three_back a op.driven (omega (arith, near, within)) in
        let same : a + j ≡ address_of 3 (address_bytes 3 a ++ op.driven) + (3 + j - 3) = omega (arith, from) in
        ap holds same ∙ sym (op.gives j within (omega arith))

-- a read leaves the mode as it is
abbrev IsSteady : ReadBy → Type 0
IsSteady by = (mode4 : Bool) (a : ℕ) (p : List ℕ) → mode_after mode4 (read_op by a p) ≡ mode4

content_steady : (said : Bool) → IsSteady (Content said)
content_steady true mode4 a p = refl
content_steady false mode4 a p = either (nat_lt (2 ^ 24) (a + length p))
  where
    either : (far : Bool) → mode_after mode4 (record { sent = if far then 0x13 ∷ address_bytes 4 a else 0x03 ∷ address_bytes 3 a; got = p }) ≡ mode4
    either true = refl
    either false = refl

all_of_given : (holds : ℕ → ℕ) (mode4 : Bool) (by : ReadBy) → IsSteady by → (at : ℕ) (ps : List (List ℕ)) (log : List Operation)
    → HasGiven holds mode4 (ops_from by at ps ++ log) → AllGive holds mode4 (ops_from by at ps) × HasGiven holds mode4 log
all_of_given holds mode4 by steady at [] log given = (tt, given)
all_of_given holds mode4 by steady at (p ∷ ps) log given =
    let rest = all_of_given holds mode4 by steady (at + length p) ps log
    (subst (λ (m : Bool). HasGiven holds m (ops_from by (at + length p) ps ++ log)) (steady mode4 at p) given.1) in
    ((given.0, rest.0), rest.1)

all_alone : (holds : ℕ → ℕ) (mode4 : Bool) (by : ReadBy) → IsSteady by → (at : ℕ) (ps : List (List ℕ))
    → HasGiven holds mode4 (ops_from by at ps) → AllGive holds mode4 (ops_from by at ps)
all_alone holds mode4 by steady at [] given = tt
all_alone holds mode4 by steady at (p ∷ ps) given = (
  given.0,
  all_alone holds mode4 by steady (at + length p) ps
      (subst (λ (m : Bool). HasGiven holds m (ops_from by (at + length p) ps)) (steady mode4 at p) given.1),
)

given_of_all : (holds : ℕ → ℕ) (mode4 : Bool) (by : ReadBy) → IsSteady by → (at : ℕ) (ps : List (List ℕ))
    → AllGive holds mode4 (ops_from by at ps) → HasGiven holds mode4 (ops_from by at ps)
given_of_all holds mode4 by steady at [] all = tt
given_of_all holds mode4 by steady at (p ∷ ps) all = (
  all.0,
  subst (λ (m : Bool). HasGiven holds m (ops_from by (at + length p) ps)) (sym (steady mode4 at p))
      (given_of_all holds mode4 by steady (at + length p) ps all.1),
)

-- what holds of each piece holds of a chunk
all_held : (holds : ℕ → ℕ) (mode4 : Bool) (by : ReadBy)
    → ((a : ℕ) (p : List ℕ) → a + length p ≤ 2 ^ 32 → MayGive holds mode4 (read_op by a p) → (j : ℕ) → j < length p → holds (a + j) ≡ get_or p j 0)
    → (first most at : ℕ) (bytes : List ℕ) (ps : List (List ℕ)) → AreCut first most bytes ps → at + length bytes ≤ 2 ^ 32
    → AllGive holds mode4 (ops_from by at ps) → (x : ℕ) → x < length bytes → holds (at + x) ≡ get_or bytes x 0
all_held holds mode4 by tells first most at bytes [] cut fits gave x within = absurd (omega (arith, within, ap length cut))
all_held holds mode4 by tells first most at bytes (p ∷ ps) cut fits gave x within =
    let p_size : length p ≡ min first (length bytes) = ap length cut.1 ∙ length-take first bytes in
    let rest = length-drop first bytes in
    elim (cases_lt x (length p)) [
      | inl here ↦ tells at p (omega (arith, p_size)) gave.0 x here ∙ ap (λ (l : List ℕ). get_or l x 0) cut.1
          ∙ get_or-take first bytes x 0 (omega (arith, here, p_size))
      | inr later ↦
          let on : at + x ≡ at + length p + (x - length p) = omega (arith, later) in
          let back : first + (x - length p) ≡ x = omega (arith, later, p_size, within) in
          ap holds on ∙ all_held holds mode4 by tells most most (at + length p) (drop first bytes) ps cut.2 (omega (arith, p_size, rest)) gave.1
          (x - length p) (omega (arith, p_size, rest, later, within))
          ∙ get_or-drop first bytes (x - length p) 0 ∙ ap (λ (n : ℕ). get_or bytes n 0) back
    ]

-- four-byte mode is entered
in_four : (holds : ℕ → ℕ) (mode4 : Bool) (enter : Switch) (log : List Operation) → is_there enter ≡ true
    → HasGiven holds mode4 (switch_ops enter 0xB7 ++ log) → HasGiven holds true log
in_four holds mode4 Absent log there given = absurd (clash there)
  where
    clash : ◌≡◌ {A = Bool} false true → ⊥
    clash h = cc
in_four holds mode4 Plain log there given = given.1
in_four holds mode4 Latched log there given = given.1.1.1

pub entered_holds : EnteredHolds
entered_holds first most enter leave mode4 holds c log fits there reads gave =
    let four = in_four holds mode4 enter (ops_from (Entered enter leave) c.at reads.pieces ++ switch_ops leave 0xE9) there
    (subst (HasGiven holds mode4) reads.those gave) in
    all_held holds true (Entered enter leave) (same_op holds true) first most c.at c.bytes reads.pieces reads.cut fits
    (all_of_given holds true (Entered enter leave) (λ mode a p. refl) c.at reads.pieces (switch_ops leave 0xE9) four).0

-- the log of pieces
plain : (said : Bool) (at : ℕ) (log : List Operation) (pieces : List (List ℕ)) → log ≡ ops_from (Content said) at pieces ++ []
    → log ≡ ops_from (Content said) at pieces
plain said at log pieces those = those ∙ append-nil (ops_from (Content said) at pieces)

-- a second reading begins with two bytes by themselves
apart : (said : Bool) (holds : ℕ → ℕ) (most : ℕ) (content : List ℕ) (ps qs : List (List ℕ)) → length content ≤ 2 ^ 32 → ShowsMode said most content
    → AreCut most most content ps → AreCut (min shift most) most content qs → AllGive holds (not said) (ops_from (Content said) 0 ps)
    → AllGive holds (not said) (ops_from (Content said) 0 qs) → ⊥
apart said holds most content ps [] fits shows cut recut one two =
    few_tell (take most (drop (shows.number * most) content))
    (omega (arith, length-take most (drop (shows.number * most) content), length-drop (shows.number * most) content, ap length recut)) shows.telling
apart said holds most content ps (q ∷ qs) fits shows cut recut one two = elim (cases_lt most 2) [
  | inl few ↦ few_tell (take most (drop (shows.number * most) content))
      (omega (arith, length-take most (drop (shows.number * most) content), few)) shows.telling
  | inr many ↦ by_two (omega (arith, many)) recut.1 recut.2
]
  where
    from_zero : (mode4 : Bool) → is_near mode4 (shows.number * most) most (length content) ≡ true
        → (mode4 ≡ true) ⊎ (min (0 + shows.number * most + 2 + most) (0 + length content) ≤ 2 ^ 24)
    from_zero true near = inl refl
    from_zero false near = inr (omega (arith, leb-true (min (shows.number * most + 2 + most) (length content)) (2 ^ 24) near))

    by_two : min shift most ≡ 2 → q ≡ take (min shift most) content → AreCut most most (drop (min shift most) content) qs → ⊥
    by_two two_ is after =
        let q_size : length q ≡ min 2 (length content) = ap length (is ∙ ap (λ n. take n content) two_) ∙ length-take 2 content in
        none_tells said holds most shows.number 0 (0 + length q) content ps qs cut
        (subst (λ n. AreCut most most (drop n content) qs) two_ after) (λ more. omega (arith, q_size, more)) (omega (arith, fits))
        (from_zero said shows.near) one two.1 shows.telling

-- the two modes and the two that are said
shown_by : (most : ℕ) (holds : ℕ → ℕ) (content : List ℕ) (said mode4 : Bool) → length content ≤ 2 ^ 32 → ShowsMode said most content
    → (ps qs : List (List ℕ)) → AreCut most most content ps → AreCut (min shift most) most content qs
    → AllGive holds mode4 (ops_from (Content said) 0 ps) → AllGive holds mode4 (ops_from (Content said) 0 qs) → (mode4 ≡ said) × Holds holds (chunk 0 content)
shown_by most holds content true true fits shows ps qs cut recut one two =
    (refl, all_held holds true (Content true) (same_op holds true) most most 0 content ps cut (omega (arith, fits)) one)
shown_by most holds content false false fits shows ps qs cut recut one two =
    (refl, all_held holds false (Content false) (same_op holds false) most most 0 content ps cut (omega (arith, fits)) one)
shown_by most holds content true false fits shows ps qs cut recut one two =
    absurd (apart true holds most content ps qs fits shows cut recut one two)
shown_by most holds content false true fits shows ps qs cut recut one two =
    absurd (apart false holds most content ps qs fits shows cut recut one two)

pub mode_shown : ModeIsShown
mode_shown most said mode4 holds content first again fits shows reads rereads one two =
    shown_by most holds content said mode4 fits shows reads.pieces rereads.pieces reads.cut rereads.cut
    (all_alone holds mode4 (Content said) (content_steady said) 0 reads.pieces (subst (HasGiven holds mode4) (plain said 0 first reads.pieces reads.those) one))
    (all_alone holds mode4 (Content said) (content_steady said) 0 rereads.pieces
    (subst (HasGiven holds mode4) (plain said 0 again rereads.pieces rereads.those) two))

pub apart_knows : ApartKnows
apart_knows most h i a b said content fits shows apart_ = record {
  first = apart_.first;
  again = apart_.second;
  wire = apart_.wire;
  known = λ mode4 holds unsure given.
      let one = apart_.reads in
      let two = apart_.rereads in
      let both : HasGiven holds mode4 (ops_from (Content said) 0 one.pieces ++ ops_from (Content said) 0 two.pieces) =
      subst (λ (log : List Operation). HasGiven holds mode4 (log ++ ops_from (Content said) 0 two.pieces)) (plain said 0 apart_.first one.pieces one.those)
      (subst (λ (log : List Operation). HasGiven holds mode4 (apart_.first ++ log)) (plain said 0 apart_.second two.pieces two.those) given) in
      let parts = all_of_given holds mode4 (Content said) (content_steady said) 0 one.pieces (ops_from (Content said) 0 two.pieces) both in
      shown_by most holds content said mode4 fits shows one.pieces two.pieces one.cut two.cut parts.0
      (all_alone holds mode4 (Content said) (content_steady said) 0 two.pieces parts.1);
}

-- what was given is given as far as it goes
first_given : (holds : ℕ → ℕ) (mode4 : Bool) (xs ys : List Operation) → HasGiven holds mode4 (xs ++ ys) → HasGiven holds mode4 xs
first_given holds mode4 [] ys given = tt
first_given holds mode4 (x ∷ xs) ys given = (given.0, first_given holds (mode_after mode4 x) xs ys given.1)

pub said_holds : SaidHolds
said_holds first most said holds c log fits reads gave =
    all_held holds said (Content said) (same_op holds said) first most c.at c.bytes reads.pieces reads.cut fits
    (all_alone holds said (Content said) (content_steady said) c.at reads.pieces (subst (HasGiven holds said) (plain said c.at log reads.pieces reads.those) gave))

first_holds : (most : ℕ) (by : ReadBy) (said mode4 : Bool) (holds : ℕ → ℕ) (c : Chunk) (log : List Operation) → FitsFour c
    → GivesSaid by said → mode4 ≡ said → ReadsCut most (reads most by) c log → HasGiven holds mode4 log → Holds holds c
first_holds most (Content said_) said mode4 holds c log fits way is cut gave =
    said_holds most most said holds c log fits (subst (λ (m : Bool). ReadsCut most (reads most (Content m)) c log) way cut)
    (subst (λ (m : Bool). HasGiven holds m log) is gave)
first_holds most (Entered enter leave) said mode4 holds c log fits way is reads gave =
    entered_holds most most enter leave mode4 holds c log fits way reads gave
first_holds most Tables said mode4 holds c log fits way is reads gave = absurd way
first_holds most FourBytes said mode4 holds c log fits way is reads gave = absurd way

pub sure_knows : SureKnows
sure_knows t h i a b said c fits way apart_ = record {
  first = apart_.first;
  again = apart_.second;
  wire = apart_.wire;
  known = λ mode4 holds sure given. (
    sure refl,
    first_holds t.first.most t.first.by said mode4 holds c apart_.first fits way (sure refl) apart_.reads
        (first_given holds mode4 apart_.first apart_.second given),
  );
}

pub switch_makes : SwitchMakes
switch_makes said mode4 Absent there = absurd cc
switch_makes true mode4 Plain there = refl
switch_makes false mode4 Plain there = refl
switch_makes true mode4 Latched there = refl
switch_makes false mode4 Latched there = refl

-- what is driven doesn't matter then
zeros_are_bytes : (n : ℕ) → are_bytes (replicate n 0) ≡ true
zeros_are_bytes zero = refl
zeros_are_bytes (suc n) = zeros_are_bytes n

give_op : (holds : ℕ → ℕ) (said : Bool) (a : ℕ) (p : List ℕ) → a + length p ≤ 2 ^ 32 → ((j : ℕ) → j < length p → holds (a + j) ≡ get_or p j 0)
    → MayGive holds said (read_op (Content said) a p)
give_op holds true a p fits has = record {
  driven = zeros;
  bytes = zeros_are_bytes (length p);
  each = length-replicate (length p) 0;
  gives = λ j within late.
      let from = four_back a zeros (omega arith) in
      let same : a + j ≡ address_of 4 (address_bytes 4 a ++ zeros) + (4 + j - 4) = omega (arith, from) in
      sym (has j within) ∙ ap holds same;
}
  where
    zeros : List ℕ
    zeros = replicate (length p) 0
give_op holds false a p fits has = elim (cases_lt (2 ^ 24) (a + length p)) [
  | inl far ↦ subst (MayGive holds false) (sym (far_op a p far)) (record {
    driven = zeros;
    bytes = zeros_are_bytes (length p);
    each = length-replicate (length p) 0;
    gives = λ j within late.
        let from = four_back a zeros (omega arith) in
        let same : a + j ≡ address_of 4 (address_bytes 4 a ++ zeros) + (4 + j - 4) = omega (arith, from) in
        sym (has j within) ∙ ap holds same;
  })
  | inr near ↦ subst (MayGive holds false) (sym (near_op a p near)) (record {
    driven = zeros;
    bytes = zeros_are_bytes (length p);
    each = length-replicate (length p) 0;
    gives = λ j within late.
        let from = three_back a zeros (omega (arith, near, within)) in
        let same : a + j ≡ address_of 3 (address_bytes 3 a ++ zeros) + (3 + j - 3) = omega (arith, from) in
        sym (has j within) ∙ ap holds same;
  })
]
  where
    zeros : List ℕ
    zeros = replicate (length p) 0

give_all : (holds : ℕ → ℕ) (said : Bool) (first most at : ℕ) (bytes : List ℕ) (ps : List (List ℕ)) → AreCut first most bytes ps → at + length bytes ≤ 2 ^ 32
    → ((x : ℕ) → x < length bytes → holds (at + x) ≡ get_or bytes x 0) → AllGive holds said (ops_from (Content said) at ps)
give_all holds said first most at bytes [] cut fits has = tt
give_all holds said first most at bytes (p ∷ ps) cut fits has =
    let p_size : length p ≡ min first (length bytes) = ap length cut.1 ∙ length-take first bytes in
    let rest = length-drop first bytes in (
      give_op holds said at p (omega (arith, p_size))
          (λ j within. has j (omega (arith, within, p_size)) ∙ sym (get_or-take first bytes j 0 (omega (arith, within, p_size)))
          ∙ ap (λ (l : List ℕ). get_or l j 0) (sym cut.1)),
      give_all holds said most most (at + length p) (drop first bytes) ps cut.2 (omega (arith, p_size, rest))
          (λ x within.
          let on : at + length p + x ≡ at + (first + x) = omega (arith, p_size, rest, within) in
          ap holds on ∙ has (first + x) (omega (arith, rest, within)) ∙ sym (get_or-drop first bytes x 0)),
    )

pub said_gives : SaidGives
said_gives first most said holds c log fits reads has =
    subst (HasGiven holds said) (sym (plain said c.at log reads.pieces reads.those))
    (given_of_all holds said (Content said) (content_steady said) c.at reads.pieces
    (give_all holds said first most c.at c.bytes reads.pieces reads.cut fits has))

-- one number of pieces is before an address, of pieces of so many bytes
pub one_number : (most n k : ℕ) → n * most ≤ k * most → k * most < n * most + most → k ≡ n
one_number most n k low high = elim (cases_lt k n) [
  | inl less ↦ absurd (omega (arith, mul-le-mul_right most (below less), low, high))
  | inr more ↦ elim (cases_lt n k) [ inl over ↦ absurd (omega (arith, mul-le-mul_right most (below over), high)) | inr same ↦ omega (arith, same, more) ]
]
  where
    below : {a b : ℕ} → a < b → suc a ≤ b
    below h = omega arith

-- the piece of a reading from an address on
pub piece_there : (most done len : ℕ) (content : List ℕ) → done < length content → len ≡ min (length content - done) most
    → take (done + len - done) (drop done content) ≡ take most (drop done content)
piece_there most done len content within is = elim (cases_lt (length content - done) most) [
  | inl few ↦ take_all (done + len - done) (drop done content) (omega (arith, is, few, length-drop done content))
      ∙ sym (take_all most (drop done content) (omega (arith, few, length-drop done content)))
  | inr many ↦ let count : done + len - done ≡ most = omega (arith, is, many) in ap (λ n. take n (drop done content)) count
]

-- none of the pieces before an address is telling
abbrev pub NoneTells : ℕ → List ℕ → ℕ → Type 0
NoneTells most content done = (n : ℕ) → n * most < done → IsTelling (take most (drop (n * most) content)) → ⊥

-- pieces end at a multiple of their size, or at the end
abbrev pub IsCutAt : ℕ → List ℕ → ℕ → Type 0
IsCutAt most content done = ((n : ℕ) × (done ≡ n * most)) ⊎ (length content ≤ done)

-- one piece more isn't
pub none_more : (most done len : ℕ) (content : List ℕ) → done < length content → len ≡ min (length content - done) most
    → IsCutAt most content done → NoneTells most content done → (IsTelling (take (done + len - done) (drop done content)) → ⊥)
    → NoneTells most content (done + len)
none_more most done len content within is (inr ends) none here n before telling = absurd (omega (arith, ends, within))
none_more most done len content within is (inl at) none here n before telling = elim (cases_lt (n * most) done) [
  | inl less ↦ none n less telling
  | inr more ↦
      let same : n ≡ at.0 = one_number most at.0 n (omega (arith, at.1, more)) (omega (arith, at.1, before, is)) in
      let there : n * most ≡ done = ap (λ m. m * most) same ∙ sym at.1 in
      here (subst IsTelling (ap (λ m. take most (drop m content)) there ∙ sym (piece_there most done len content within is)) telling)
]

pub cut_more : (most done len : ℕ) (content : List ℕ) → done < length content → len ≡ min (length content - done) most
    → IsCutAt most content done → IsCutAt most content (done + len)
cut_more most done len content within is (inr ends) = absurd (omega (arith, ends, within))
cut_more most done len content within is (inl at) = elim (cases_lt (length content - done) most) [
  | inl few ↦ inr (omega (arith, is, few))
  | inr many ↦ inl (suc at.0, (let more : suc at.0 * most ≡ at.0 * most + most = omega arith in omega (arith, at.1, is, many, more)))
]

-- so the content shows nothing: all its pieces were looked at, or the next isn't near
pub none_shows : (mode4 : Bool) (most done : ℕ) (content : List ℕ) → length content ≤ done → NoneTells most content done → ShowsMode mode4 most content → ⊥
none_shows mode4 most done content ends none shows = elim (cases_lt (shows.number * most) done) [
  | inl less ↦ none shows.number less shows.telling
  | inr more ↦ few_tell (take most (drop (shows.number * most) content))
      (omega (arith, length-take most (drop (shows.number * most) content), length-drop (shows.number * most) content, ends, more)) shows.telling
]
