-- The blocks reached at an address, by the kinds looked at so far.
use Rattle.std.proofs.Common.{◌≡◌, ◌⊎◌, ℕ, suc, ◌+◌, ◌<◌, ◌≤◌, List, [], ◌∷◌, length, Option, Some, None, get_or, refl, sym, ◌∙◌, ap, arith, inl, inr}
use Rattle.std.specs.Prelude.{slice_get, MatchOption}
use Rattle.std.specs.List.{AllByRecursion, Contains}
use Rattle.std.proofs.lemmas.Bool.{cases_lt}
use Rattle.std.proofs.lemmas.List.Elements.{All-get_or}
use Rattle.nor_base.specs.declared.meaning.Strategy.{Strategy}
use Rattle.nor_base.specs.Parameters.{Parameters, erase_kind}
use Rattle.nor_base.specs.Accepted.{IsAccepted}
use Rattle.nor_base.specs.Blocks.{Block}
use Rattle.nor_geometry.specs.Legal.{IsReachedAt, IsListedAt, AreLegalAt, IsSmallestAt}
use Rattle.nor_geometry.specs.Takes.{reached_at, with_block}
use Rattle.nor_geometry.proofs.KindLemmas.{none_some, reached_is, is_reached, placed, few_kinds}
use Rattle.nor_geometry.proofs.ListLemmas.{Covers, IsRising, AreAbove, rising_with, each_with, covers_still, covers_new, all_of, pairs_of, length_with}

-- reached, of a kind below one
pub record IsBelow (m : Parameters) (by : Strategy) (a kind : ℕ) (b : Block) : Type 0 where
  pub is : IsReachedAt m by a b
  pub below : b.kind < kind

-- just those of the kinds below one
pub record AreBelow (m : Parameters) (by : Strategy) (a kind : ℕ) (blocks : List Block) : Type 0 where
  pub each : AllByRecursion (IsBelow m by a kind) blocks
  pub covers : (c : Block) → IsReachedAt m by a c → c.kind < kind → Covers blocks c
  pub rising : IsRising blocks

pub none_below : (m : Parameters) (by : Strategy) (a : ℕ) → IsAccepted m → AreBelow m by a 1 []
none_below m by a accepted = record {
  each = tt;
  covers = λ c r below.
      let none : c.kind ≡ 0 = omega arith in
      let p = placed m c accepted r.legal in
      let there : None ≡ Some p.erase = ap (erase_kind m) (sym none) ∙ p.there in
      cc;
  rising = tt;
}

each_wider : (m : Parameters) (by : Strategy) (a kind : ℕ) (bs : List Block) → AllByRecursion (IsBelow m by a kind) bs → AllByRecursion (IsBelow m by a (kind + 1)) bs
each_wider m by a kind [] h = tt
each_wider m by a kind (b ∷ bs) h = (record { is = h.0.is; below = omega (arith, h.0.below) }, each_wider m by a kind bs h.1)

low_kinds : (m : Parameters) (by : Strategy) (a kind : ℕ) (bs : List Block) → AllByRecursion (IsBelow m by a kind) bs → AllByRecursion (λ c. c.kind ≤ kind) bs
low_kinds m by a kind [] h = tt
low_kinds m by a kind (b ∷ bs) h = (omega (arith, h.0.below), low_kinds m by a kind bs h.1)

pub without : (m : Parameters) (by : Strategy) (a kind : ℕ) (bs : List Block) → IsAccepted m → AreBelow m by a kind bs → reached_at m by a kind ≡ None → AreBelow m by a (kind + 1) bs
without m by a kind bs accepted h none = record {
  each = each_wider m by a kind bs h.each;
  covers = λ c r below. elim (cases_lt c.kind kind) [
    | inl less ↦ h.covers c r less
    | inr here ↦
        let same : c.kind ≡ kind = omega arith in
        absurd (none_some c (reached_at m by a kind) none (ap (reached_at m by a) (sym same) ∙ is_reached m by a c accepted r))
  ];
  rising = h.rising;
}

pub with_one : (m : Parameters) (by : Strategy) (a kind : ℕ) (bs : List Block) (b : Block) → IsAccepted m → AreBelow m by a kind bs → reached_at m by a kind ≡ Some b
    → AreBelow m by a (kind + 1) (with_block b bs)
with_one m by a kind bs b accepted h found =
    let r = reached_is m by a kind b (erase_kind m kind) accepted refl found in
    let its : b.kind ≡ kind = r.1 in
    record {
      each = each_with (IsBelow m by a (kind + 1)) b bs (record { is = r.0; below = omega arith }) (each_wider m by a kind bs h.each);
      covers = λ c s below. elim (cases_lt c.kind kind) [
        | inl less ↦ covers_still b bs c (h.covers c s less)
        | inr here ↦
            let same : c.kind ≡ kind = omega arith in
            let both : Some b ≡ Some c = sym found ∙ ap (reached_at m by a) (sym same) ∙ is_reached m by a c accepted s in
            let equal : b ≡ c = cc in
            let low : AllByRecursion (λ d. d.kind ≤ b.kind) bs = ap_kind b.kind kind bs its (low_kinds m by a kind bs h.each) in
            ap_cover b c (with_block b bs) equal (covers_new b bs low)
      ];
      rising = rising_with b bs h.rising;
    }
  where
    ap_kind : (x y : ℕ) (bs : List Block) → x ≡ y → AllByRecursion (λ d. d.kind ≤ y) bs → AllByRecursion (λ d. d.kind ≤ x) bs
    ap_kind x y bs same h = rw same h

    ap_cover : (b c : Block) (bs : List Block) → b ≡ c → Covers bs b → Covers bs c
    ap_cover b c bs same h = rw (← same) h

-- a block of the list
abbrev Member : List Block → Block → Type 0
Member [] b = ⊥
Member (c ∷ cs) b = (c ≡ b) ⊎ Member cs b

member_above : (n : ℕ) (bs : List Block) (b : Block) → AreAbove n bs → Member bs b → n < b.size
member_above n [] b above h = absurd h
member_above n (c ∷ cs) b above (inl same) = let size : c.size ≡ b.size = ap (λ (d : Block). d.size) same in omega (arith, above.0)
member_above n (c ∷ cs) b above (inr later) = member_above n cs b above.1 later

covers_above : (n : ℕ) (bs : List Block) (c : Block) → AreAbove n bs → Covers bs c → n < c.size
covers_above n [] c above h = absurd h
covers_above n (b ∷ bs) c above (inl here) = omega (arith, above.0, here.0)
covers_above n (b ∷ bs) c above (inr later) = covers_above n bs c above.1 later

-- a block of the list is that by which it covers another of its size
member_covers : (bs : List Block) (b c : Block) → IsRising bs → Member bs b → Covers bs c → c.size ≡ b.size → b.kind ≤ c.kind
member_covers [] b c rising h covers size = absurd h
member_covers (x ∷ xs) b c rising (inl same) (inl here) size = let kind : x.kind ≡ b.kind = ap (λ (d : Block). d.kind) same in omega (arith, here.1)
member_covers (x ∷ xs) b c rising (inl same) (inr later) size =
    let less = covers_above x.size xs c rising.0 later in
    let its : x.size ≡ b.size = ap (λ (d : Block). d.size) same in
    absurd (omega (arith, less))
member_covers (x ∷ xs) b c rising (inr later) (inl here) size =
    let less = member_above x.size xs b rising.0 later in
    absurd (omega (arith, less, here.0))
member_covers (x ∷ xs) b c rising (inr member) (inr later) size = member_covers xs b c rising.1 member later size

each_member : (P : Block → Type 0) (bs : List Block) → ((b : Block) → Member bs b → P b) → AllByRecursion P bs
each_member P [] f = tt
each_member P (b ∷ bs) f = (f b (inl refl), each_member P bs (λ c later. f c (inr later)))

of_member : (m : Parameters) (by : Strategy) (a kind : ℕ) (bs : List Block) (b : Block) → AllByRecursion (IsBelow m by a kind) bs → Member bs b → IsReachedAt m by a b
of_member m by a kind [] b h member = absurd member
of_member m by a kind (c ∷ cs) b h (inl same) = moved c b same h.0.is
  where
    moved : (c b : Block) → c ≡ b → IsReachedAt m by a c → IsReachedAt m by a b
    moved c b same r = rw (← same) r
of_member m by a kind (c ∷ cs) b h (inr later) = of_member m by a kind cs b h.1 later

-- the block by which another is covered
record IsCover (bs : List Block) (c d : Block) : Type 0 where
  member : Member bs d
  size : d.size ≡ c.size
  kind : d.kind ≤ c.kind

cover_of : (bs : List Block) (c : Block) → Covers bs c → (d : Block) × IsCover bs c d
cover_of [] c h = absurd h
cover_of (b ∷ bs) c (inl here) = (b, record { member = inl refl; size = here.0; kind = here.1 })
cover_of (b ∷ bs) c (inr later) = let d = cover_of bs c later in (d.0, record { member = inr d.1.member; size = d.1.size; kind = d.1.kind })

contains_of : (bs : List Block) (b : Block) → Member bs b → Contains bs b
contains_of [] b h = absurd h
contains_of (c ∷ cs) b (inl same) = (0, omega arith, same)
contains_of (c ∷ cs) b (inr later) = let k = contains_of cs b later in (suc k.0, omega (arith, k.1), k.2)

pub are_legal : (m : Parameters) (by : Strategy) (a : ℕ) (bs : List Block) → IsAccepted m → AreBelow m by a 5 bs → AreLegalAt m by a bs
are_legal m by a bs accepted h = record {
  each = all_of (IsListedAt m by a) bs (each_member (IsListedAt m by a) bs (λ b member. record {
    is = of_member m by a 5 bs b h.each member;
    lowest = λ c r size.
        let p = placed m c accepted r.legal in
        member_covers bs b c h.rising member (h.covers c r (few_kinds m c.kind p.erase accepted p.there)) size;
  }));
  all = λ c r.
      let p = placed m c accepted r.legal in
      let d = cover_of bs c (h.covers c r (few_kinds m c.kind p.erase accepted p.there)) in
      let at = contains_of bs d.0 d.1.member in
      (at.0, d.0, at.1, at.2, d.1.size);
  rising = pairs_of bs h.rising;
}

-- one kind more, with a block or without one
pub next_kind : (m : Parameters) (by : Strategy) (a kind : ℕ) (xs ys : List Block) (b : Block) → IsAccepted m → length xs < kind → AreBelow m by a kind xs
    → reached_at m by a kind ≡ Some b → ys ≡ with_block b xs → (length ys < kind + 1) × AreBelow m by a (kind + 1) ys
next_kind m by a kind xs ys b accepted room h found now =
    let fits = length_with b xs in
    let same : length ys ≡ length (with_block b xs) = ap (λ zs. length zs) now in
    (omega (arith, fits), rw now (with_one m by a kind xs b accepted h found))

pub no_kind : (m : Parameters) (by : Strategy) (a kind : ℕ) (xs ys : List Block) → IsAccepted m → length xs < kind → AreBelow m by a kind xs
    → reached_at m by a kind ≡ None → ys ≡ xs → (length ys < kind + 1) × AreBelow m by a (kind + 1) ys
no_kind m by a kind xs ys accepted room h none now =
    let same : length ys ≡ length xs = ap (λ zs. length zs) now in
    (omega arith, rw now (without m by a kind xs accepted h none))

-- the first of them is the smallest
pub first_is : (m : Parameters) (by : Strategy) (a : ℕ) (b : Block) (bs : List Block) → AreLegalAt m by a bs → slice_get bs 0 ≡ Some b → IsSmallestAt m by a b
first_is m by a b [] h is = cc
first_is m by a b (x ∷ xs) h is =
    let same : x ≡ b = cc in
    let size : x.size ≡ b.size = ap (λ (d : Block). d.size) same in
    let first : IsListedAt m by a x = All-get_or (IsListedAt m by a) (x ∷ xs) 0 x (omega arith) h.each in
    record {
      listed = moved m by a x b same first;
      least = λ c r.
          let some = h.all c r in
          elim (cases_lt 0 some.0) [
            | inr here ↦
                let zeroth : some.0 ≡ 0 = omega arith in
                let its : x ≡ some.1 = ap (λ k. get_or (x ∷ xs) k some.1) (sym zeroth) ∙ some.3 in
                let its_size : x.size ≡ some.1.size = ap (λ (d : Block). d.size) its in
                omega (arith, some.4)
            | inl later ↦
                let less : x.size < (get_or (x ∷ xs) some.0 some.1).size = h.rising 0 some.0 some.1 later some.2 in
                let its_size : (get_or (x ∷ xs) some.0 some.1).size ≡ some.1.size = ap (λ (d : Block). d.size) some.3 in
                omega (arith, some.4)
          ];
    }
  where
    moved : (m : Parameters) (by : Strategy) (a : ℕ) (x b : Block) → x ≡ b → IsListedAt m by a x → IsListedAt m by a b
    moved m by a x b same h = rw (← same) h

pub none_at : (m : Parameters) (by : Strategy) (a : ℕ) (bs : List Block) → AreLegalAt m by a bs → slice_get bs 0 ≡ None → (c : Block) → IsReachedAt m by a c → ⊥
none_at m by a [] h is c r = let some = h.all c r in absurd (omega (arith, some.2))
none_at m by a (x ∷ xs) h is c r = cc

pub smallest_is : (m : Parameters) (by : Strategy) (a : ℕ) (bs : List Block) (o : Option Block) → AreLegalAt m by a bs → o ≡ slice_get bs 0
    → MatchOption o ((b : Block) → IsReachedAt m by a b → ⊥) (IsSmallestAt m by a)
smallest_is m by a bs None h is = none_at m by a bs h (sym is)
smallest_is m by a bs (Some b) h is = first_is m by a b bs h (sym is)
