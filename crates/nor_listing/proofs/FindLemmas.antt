-- The step of some words is found.
use Rattle.std.proofs.Common.{◌≡◌, ℕ, ◌^◌, ◌<◌, ◌≤◌, Bool, true, false, List, ◌++◌, length, Option, Some, None, inl, inr, refl, sym, ◌∙◌, ap, subst, arith}
use Rattle.std.specs.Prelude.{◌⊎◌, codes}
use Rattle.nor_base.specs.declared.instruction.What.{What}
use Rattle.nor_base.specs.declared.instruction.What.TheVariants as what
use Rattle.nor_base.specs.declared.step.Step.{Step}
use Rattle.nor_base.specs.declared.step.Step.TheVariants.{Send, Verify}
use Rattle.nor_base.specs.Array.{are_bytes}
use Rattle.nor_base.specs.Decoding.{opcode}
use Rattle.nor_base.specs.Effect.{is_broken, is_read, has_address}
use Rattle.nor_base.specs.Instructions.{Row, row_of}
use Rattle.nor_base.specs.Parameters.{Parameters}
use Rattle.nor_base.specs.Script.{hex_pair, step_line}
use Rattle.nor_base.specs.Step.{step_clocks, expected}
use Rattle.nor_laws.proofs.ScriptLaws.{Small, small_bytes}
use Rattle.nor_laws.specs.Spelling.{OneSpelling}
use Rattle.nor_listing.specs.Law.{IsListable}
use Rattle.nor_listing.specs.Listing.{words}
use Rattle.nor_listing.specs.Parts.{IsTold}
use Rattle.nor_listing.specs.Told.{HasWidth}
use Rattle.nor_listing.proofs.SpellLemmas.{clocks_are, dummies_for, row_dummies, bare_width, place_width}
use Rattle.nor_listing.proofs.TailLemmas.{tail_words, fewer_bits, fewer_nibbles}
use Rattle.nor_listing.proofs.TakenLemmas.{takes, taken_as, opcode_small}
use Rattle.nor_listing.proofs.ToldLemmas as told
use Rattle.nor_listing.proofs.ToldLemmas.{by_word, clocks_for}
use Rattle.nor_listing.proofs.ViewLemmas.{View, IsTaken, IsVerified, taken, polled, verified, broken, unknown, view, word, verify_word, read_tail, read_sound}

-- what a row says of the clocks, where the words were read with that many address bytes
record Agrees (m : Parameters) (width wide dummies : ℕ) (w : What) : Type 0 where
  bare : has_address w ≡ false → wide ≡ 0
  placed : has_address w ≡ true → wide ≡ width
  its : dummies ≡ dummies_for m w

module _ (m : Parameters) (width op a wide dummies : ℕ) (body text : List ℕ) (found : Option Step) (small : op < 256) (narrow : a < 2 ^ 32)
    (few : length body < 2 ^ 64) (says : IsTold m width text found) where
  abbrev Found : What → ℕ → ℕ → Type 0
  Found w n d = found ≡ Some (Send (clocks_for w op a n d body))

  widen : (w : What) (n d : ℕ) → wide ≡ n → dummies ≡ d → Found w n d → Found w wide dummies
  widen w n d first second h =
      h ∙ ap (λ k. Some (Send (clocks_for w op a k d body))) (sym first) ∙ ap (λ k. Some (Send (clocks_for w op a wide k body))) (sym second)

  abbrev after : What → List ℕ
  after w = hex_pair op ++ tail_words m (taken_as w a body) w

  kind : (w : What) → is_broken w ≡ false → Agrees m width wide dummies w → text ≡ word w ++ after w → Found w wide dummies
  kind what.Enable sound row is =
      widen what.Enable 0 0 (row.bare refl) row.its (told.enable_told m width op a body found small narrow few (by_word m width (codes "enable") (after what.Enable) text found refl is says))
  kind what.Disable sound row is =
      widen what.Disable 0 0 (row.bare refl) row.its (told.disable_told m width op a body found small narrow few (by_word m width (codes "disable") (after what.Disable) text found refl is says))
  kind what.Status sound row is =
      widen what.Status 0 0 (row.bare refl) row.its (told.status_told m width op a body found small narrow few (by_word m width (codes "status") (after what.Status) text found refl is says))
  kind what.Enter sound row is =
      widen what.Enter 0 0 (row.bare refl) row.its (told.enter_told m width op a body found small narrow few (by_word m width (codes "enter") (after what.Enter) text found refl is says))
  kind what.Leave sound row is =
      widen what.Leave 0 0 (row.bare refl) row.its (told.leave_told m width op a body found small narrow few (by_word m width (codes "leave") (after what.Leave) text found refl is says))
  kind (what.Erase k) sound row is =
      widen (what.Erase k) width 0 (row.placed refl) row.its (told.erase_told m width op a body found small narrow few k (by_word m width (codes "erase") (after (what.Erase k)) text found refl is says))
  kind what.Program sound row is =
      widen what.Program width 0 (row.placed refl) row.its
      (told.program_told m width op a body found small narrow few (omega (arith, few, fewer_bits body)) (by_word m width (codes "program") (after what.Program) text found refl is says))
  kind what.QuadProgram sound row is =
      widen what.QuadProgram width 0 (row.placed refl) row.its
      (told.quad_program_told m width op a body found small narrow few (omega (arith, few, fewer_nibbles body)) (by_word m width (codes "quadprogram") (after what.QuadProgram) text found refl is says))
  kind what.Read sound row is =
      widen what.Read width 0 (row.placed refl) row.its (told.read_told m width op a body found small narrow few (by_word m width (codes "read") (after what.Read) text found refl is says))
  kind what.QuadRead sound row is =
      widen what.QuadRead width _ (row.placed refl) row.its (told.quad_read_told m width op a body found small narrow few (by_word m width (codes "quadread") (after what.QuadRead) text found refl is says))
  kind what.Broken sound row is = cc

  module _ (expect : List ℕ) (bytes : Small expect) where
    abbrev Checked : What → ℕ → ℕ → Type 0
    Checked w n d = found ≡ Some (Verify (clocks_for w op a n d body) expect)

    widen_checked : (w : What) (n d : ℕ) → wide ≡ n → dummies ≡ d → Checked w n d → Checked w wide dummies
    widen_checked w n d first second h =
        h ∙ ap (λ k. Some (Verify (clocks_for w op a k d body) expect)) (sym first) ∙ ap (λ k. Some (Verify (clocks_for w op a wide k body) expect)) (sym second)

    abbrev behind : What → List ℕ
    behind w = hex_pair op ++ read_tail (taken_as w a body) expect

    reading : (w : What) → is_read w ≡ true → Agrees m width wide dummies w → text ≡ verify_word w ++ behind w → Checked w wide dummies
    reading what.Read reads row is =
        widen_checked what.Read width 0 (row.placed refl) row.its
        (told.verify_told m width op a body found small narrow few expect bytes (by_word m width (codes "verify") (behind what.Read) text found refl is says))
    reading what.QuadRead reads row is =
        widen_checked what.QuadRead width _ (row.placed refl) row.its
        (told.quad_verify_told m width op a body found small narrow few expect bytes (by_word m width (codes "quadverify") (behind what.QuadRead) text found refl is says))
    reading other reads row is = cc

-- a row agrees with the width of its step
agrees : (m : Parameters) (mode4 : Bool) (op width : ℕ) (r : Row) → row_of m mode4 op ≡ Some r → (r.width ≡ width) ⊎ (r.width ≡ 0) → Agrees m width r.width r.dummies r.what
agrees m mode4 op width r found one = record {
  bare = bare_width m mode4 op r found;
  placed = λ has. elim one [
    | inl same ↦ same
    | inr none ↦ absurd (elim (place_width m mode4 op r found has) [ inl three ↦ omega (arith, none, three) | inr four ↦ omega (arith, none, four) ])
  ];
  its = row_dummies m mode4 op r found;
}

module _ (law : OneSpelling) (m : Parameters) (mode4 : Bool) (width : ℕ) (x : Step) (listed : IsListable x) (wide : HasWidth m mode4 x width) (text : List ℕ)
    (found : Option Step) (is : text ≡ words m mode4 x) (says : IsTold m width text found) where
  row_agrees : (clocks : List ℕ) (r : Row) → step_clocks x ≡ clocks → row_of m mode4 (opcode clocks) ≡ Some r → Agrees m width r.width r.dummies r.what
  row_agrees clocks r same row = agrees m mode4 (opcode clocks) width r row (wide r (ap (λ c. row_of m mode4 (opcode c)) same ∙ row))

  few_body : (clocks body : List ℕ) → step_clocks x ≡ clocks → length body ≤ length clocks → length body < 2 ^ 64
  few_body clocks body same fewer = let few = subst (λ (c : List ℕ). length c < 2 ^ 64) same listed.few in omega (arith, few, fewer)

  taken_found : IsTaken m mode4 x → found ≡ Some x
  taken_found v =
      let s = takes m mode4 v.clocks v.i v.sound v.sees in
      let same = ap step_clocks v.is in
      let op = opcode v.clocks in
      let sound : is_broken s.r.what ≡ false = ap (λ i. is_broken i.what) s.is ∙ v.sound in
      let told : text ≡ word s.r.what ++ (hex_pair op ++ tail_words m (taken_as s.r.what s.address s.body) s.r.what) =
      is ∙ v.spelled ∙ ap (λ i. word i.what ++ (hex_pair op ++ tail_words m i i.what)) (sym s.is) in
      kind m width op s.address s.r.width s.r.dummies s.body text found (opcode_small v.clocks) s.narrow (few_body v.clocks s.body same s.few) says s.r.what sound
      (row_agrees v.clocks s.r same s.found) told
      ∙ ap (λ c. Some (Send c)) (sym (clocks_are law m mode4 v.clocks v.i s v.sees)) ∙ ap Some (sym v.is)

  verified_found : IsVerified m mode4 x → found ≡ Some x
  verified_found v =
      let s = takes m mode4 v.clocks v.i (read_sound v.i.what v.reads) v.sees in
      let same = ap step_clocks v.is in
      let op = opcode v.clocks in
      let reads : is_read s.r.what ≡ true = ap (λ i. is_read i.what) s.is ∙ v.reads in
      let told : text ≡ verify_word s.r.what ++ (hex_pair op ++ read_tail (taken_as s.r.what s.address s.body) v.expect) =
      is ∙ v.spelled ∙ ap (λ i. verify_word i.what ++ (hex_pair op ++ read_tail i v.expect)) (sym s.is) in
      let bytes = small_bytes v.expect (sym (ap (λ (step : Step). are_bytes (expected step)) v.is) ∙ listed.is_one.bytes) in
      reading m width op s.address s.r.width s.r.dummies s.body text found (opcode_small v.clocks) s.narrow (few_body v.clocks s.body same s.few) says v.expect bytes
      s.r.what reads (row_agrees v.clocks s.r same s.found) told
      ∙ ap (λ c. Some (Verify c v.expect)) (sym (clocks_are law m mode4 v.clocks v.i s v.sees)) ∙ ap Some (sym v.is)

  by_view : View m mode4 x → found ≡ Some x
  by_view (taken v) = taken_found v
  by_view (verified v) = verified_found v
  by_view (polled v) = by_word m width (codes "poll") (codes "05") text found refl (is ∙ v.spelled) says ∙ ap Some (sym v.is)
  by_view (broken v) = by_word m width (codes "broken") (step_line x) text found refl (is ∙ v.spelled) says x listed.is_one refl
  by_view (unknown v) = by_word m width (codes "unknown") (step_line x) text found refl (is ∙ v.spelled) says x listed.is_one refl

  pub finds : found ≡ Some x
  finds = by_view (view m mode4 x)

-- each step has three address bytes, or four, or none
pub some_width : (m : Parameters) (mode4 : Bool) (x : Step) → HasWidth m mode4 x 3 ⊎ HasWidth m mode4 x 4
some_width m mode4 x = by_row (row_of m mode4 (opcode (step_clocks x))) refl
  where
    same_row : (r s : Row) → Some r ≡ Some s → r ≡ s
    same_row r s h = cc

    by_row : (o : Option Row) → row_of m mode4 (opcode (step_clocks x)) ≡ o → HasWidth m mode4 x 3 ⊎ HasWidth m mode4 x 4
    by_row None is = inl (λ r found. let none : None ≡ Some r = sym is ∙ found in cc)
    by_row (Some r) is = by (has_address r.what) refl
      where
        of : (n : ℕ) → (r.width ≡ n) ⊎ (r.width ≡ 0) → HasWidth m mode4 x n
        of n one s found = subst (λ (k : Row). (k.width ≡ n) ⊎ (k.width ≡ 0)) (same_row r s (sym is ∙ found)) one

        by : (b : Bool) → has_address r.what ≡ b → HasWidth m mode4 x 3 ⊎ HasWidth m mode4 x 4
        by false none = inl (of 3 (inr (bare_width m mode4 (opcode (step_clocks x)) r is none)))
        by true has = elim (place_width m mode4 (opcode (step_clocks x)) r is has) [ inl three ↦ inl (of 3 (inl three)) | inr four ↦ inr (of 4 (inl four)) ]
