-- One statement more.
use Rattle.std.proofs.Common.{◌≡◌, ◌∙◌, ℕ, zero, suc, ◌-◌, ◌≤◌, nat_le, Bool, true, false, List, [], ◌∷◌, ◌++◌, length, Option, Some, None, Ok, Err, refl, sym, ap, subst, arith, append-nil}
use Rattle.std.specs.Prelude.{IfSome, filter_map, slice_get, slice_set, if◌then◌else◌}
use Rattle.std.specs.List.{AllByRecursion, cons_option}
use Rattle.std.proofs.lemmas.Bool.{leb-false}
use Rattle.std.proofs.lemmas.List.{length_push, length-set}
use Rattle.std.proofs.lemmas.List.Elements.{filter_map-append}
use Rattle.nor_base.proofs.ListLaws.{all_append}
use Rattle.nor_base.specs.declared.meaning.Erase.{Erase}
use Rattle.nor_base.specs.declared.meaning.Region.{Region}
use Rattle.nor_base.specs.Accepted.{IsRegion}
use Rattle.nor_sheet.specs.declared.fault.LineFault.TheVariants.{Limit}
use Rattle.nor_sheet.specs.declared.said.Said.{Said}
use Rattle.nor_sheet.specs.declared.said.Said.TheVariants as say
use Rattle.nor_sheet.specs.Limits.{IsErase, IsSaid}
use Rattle.nor_sheet.specs.Sheet.{Sheet, AreSaid, told, once, placed, with, sheet_of, kind_told, size_in, page_in, width_in, kind_in, enter_in, leave_in, quad_read_in, dedicated_in, region_in}

-- what is said of a subject that a further statement isn't of
told_other : {A : Type 0} (of : Said → Option A) (above : List Said) (said : Said) → of said ≡ None → told of above ≡ told of (above ++ said ∷ [])
told_other of above said other =
    ap (λ l. slice_get l 0) (sym (filter_map-append of above (said ∷ []) ∙ ap (λ o. filter_map of above ++ cons_option o []) other ∙ append-nil (filter_map of above)))

-- and of one that it is of
none_yet : {A : Type 0} (these : List A) → slice_get these 0 ≡ None → these ≡ []
none_yet [] none = refl
none_yet (this ∷ others) none = cc

told_new : {A : Type 0} (of : Said → Option A) (above : List Said) (said : Said) (value : A) → told of above ≡ None → of said ≡ Some value → Some value ≡ told of (above ++ said ∷ [])
told_new of above said value none is =
    sym (ap (λ l. slice_get l 0) (filter_map-append of above (said ∷ []) ∙ ap (λ l. l ++ filter_map of (said ∷ [])) (none_yet (filter_map of above) none))
    ∙ ap (λ o. slice_get (cons_option o []) 0) is)

-- a value that was put in its place, where none was
pub record IsPlaced {A : Type 0} (put : Option A → Sheet) (slot : Option A) (value : A) (after : Sheet) : Type 0 where
  pub none : slot ≡ None
  pub is : put (Some value) ≡ after

pub placed_ok : {A : Type 0} (put : Option A → Sheet) (slot : Option A) (value : A) (after : Sheet) → placed put (once slot value) ≡ Ok after → IsPlaced put slot value after
placed_ok put None value after e = record { none = refl; is = cc }
placed_ok put (Some other) value after e = cc

same_regions : (above : List Said) (said : Said) → region_in said ≡ None → filter_map region_in above ≡ filter_map region_in (above ++ said ∷ [])
same_regions above said other = sym (filter_map-append region_in above (said ∷ []) ∙ ap (λ o. filter_map region_in above ++ cons_option o []) other ∙ append-nil (filter_map region_in above))

same_kinds : (above : List Said) (said : Said) → kind_in 1 said ≡ None → kind_in 2 said ≡ None → kind_in 3 said ≡ None → kind_in 4 said ≡ None → (sheet_of above).kinds ≡ (sheet_of (above ++ said ∷ [])).kinds
same_kinds above said one two three four =
    λ i. told_other (kind_in 1) above said one i ∷ told_other (kind_in 2) above said two i ∷ told_other (kind_in 3) above said three i ∷ told_other (kind_in 4) above said four i ∷ []

-- one kind more
kind_more : (above : List Said) (k : ℕ) (erase : Erase) → 1 ≤ k → k ≤ 4 → kind_told (sheet_of above) k ≡ None
    → slice_set (sheet_of above).kinds (k - 1) (Some erase) ≡ (sheet_of (above ++ say.Kind k erase ∷ [])).kinds
kind_more above zero erase low high none = absurd (omega (arith, low))
kind_more above (suc zero) erase low high none =
    let said = say.Kind 1 erase in
    λ i. told_new (kind_in 1) above said erase none refl i ∷ told_other (kind_in 2) above said refl i ∷ told_other (kind_in 3) above said refl i ∷ told_other (kind_in 4) above said refl i ∷ []
kind_more above (suc (suc zero)) erase low high none =
    let said = say.Kind 2 erase in
    λ i. told_other (kind_in 1) above said refl i ∷ told_new (kind_in 2) above said erase none refl i ∷ told_other (kind_in 3) above said refl i ∷ told_other (kind_in 4) above said refl i ∷ []
kind_more above (suc (suc (suc zero))) erase low high none =
    let said = say.Kind 3 erase in
    λ i. told_other (kind_in 1) above said refl i ∷ told_other (kind_in 2) above said refl i ∷ told_new (kind_in 3) above said erase none refl i ∷ told_other (kind_in 4) above said refl i ∷ []
kind_more above (suc (suc (suc (suc zero)))) erase low high none =
    let said = say.Kind 4 erase in
    λ i. told_other (kind_in 1) above said refl i ∷ told_other (kind_in 2) above said refl i ∷ told_other (kind_in 3) above said refl i ∷ told_new (kind_in 4) above said erase none refl i ∷ []
kind_more above (suc (suc (suc (suc (suc k))))) erase low high none = absurd (omega (arith, high))

region_put : (many : Bool) (s : Sheet) (region : Region) (after : Sheet) → (if many then Err Limit else Ok (record s { regions = s.regions ++ region ∷ [] })) ≡ Ok after
    → (many ≡ false) × (record s { regions = s.regions ++ region ∷ [] } ≡ after)
region_put true s region after e = cc
region_put false s region after e = (refl, cc)

-- the sheet that says one thing more is that of the statements and it
pub with_said : (above : List Said) (said : Said) (after : Sheet) → IsSaid said → with (sheet_of above) said ≡ Ok after → after ≡ sheet_of (above ++ said ∷ [])
with_said above (say.Size n) after is e =
    let said = say.Size n in
    let done = placed_ok (λ told. record (sheet_of above) { size = told }) (sheet_of above).size n after e in
    sym done.is ∙ (λ i. record {
      size = told_new size_in above said n done.none refl i;
      page = told_other page_in above said refl i;
      width = told_other width_in above said refl i;
      kinds = same_kinds above said refl refl refl refl i;
      enter = told_other enter_in above said refl i;
      leave = told_other leave_in above said refl i;
      quad_read = told_other quad_read_in above said refl i;
      dedicated = told_other dedicated_in above said refl i;
      regions = same_regions above said refl i;
    })
with_said above (say.Page page) after is e =
    let said = say.Page page in
    let done = placed_ok (λ told. record (sheet_of above) { page = told }) (sheet_of above).page page after e in
    sym done.is ∙ (λ i. record {
      size = told_other size_in above said refl i;
      page = told_new page_in above said page done.none refl i;
      width = told_other width_in above said refl i;
      kinds = same_kinds above said refl refl refl refl i;
      enter = told_other enter_in above said refl i;
      leave = told_other leave_in above said refl i;
      quad_read = told_other quad_read_in above said refl i;
      dedicated = told_other dedicated_in above said refl i;
      regions = same_regions above said refl i;
    })
with_said above (say.Address width) after is e =
    let said = say.Address width in
    let done = placed_ok (λ told. record (sheet_of above) { width = told }) (sheet_of above).width width after e in
    sym done.is ∙ (λ i. record {
      size = told_other size_in above said refl i;
      page = told_other page_in above said refl i;
      width = told_new width_in above said width done.none refl i;
      kinds = same_kinds above said refl refl refl refl i;
      enter = told_other enter_in above said refl i;
      leave = told_other leave_in above said refl i;
      quad_read = told_other quad_read_in above said refl i;
      dedicated = told_other dedicated_in above said refl i;
      regions = same_regions above said refl i;
    })
with_said above (say.Kind k erase) after is e =
    let said = say.Kind k erase in
    let done = placed_ok (λ told. record (sheet_of above) { kinds = slice_set (sheet_of above).kinds (k - 1) told }) (kind_told (sheet_of above) k) erase after e in
    sym done.is ∙ (λ i. record {
      size = told_other size_in above said refl i;
      page = told_other page_in above said refl i;
      width = told_other width_in above said refl i;
      kinds = kind_more above k erase is.0 is.1 done.none i;
      enter = told_other enter_in above said refl i;
      leave = told_other leave_in above said refl i;
      quad_read = told_other quad_read_in above said refl i;
      dedicated = told_other dedicated_in above said refl i;
      regions = same_regions above said refl i;
    })
with_said above (say.Enter switch) after is e =
    let said = say.Enter switch in
    let done = placed_ok (λ told. record (sheet_of above) { enter = told }) (sheet_of above).enter switch after e in
    sym done.is ∙ (λ i. record {
      size = told_other size_in above said refl i;
      page = told_other page_in above said refl i;
      width = told_other width_in above said refl i;
      kinds = same_kinds above said refl refl refl refl i;
      enter = told_new enter_in above said switch done.none refl i;
      leave = told_other leave_in above said refl i;
      quad_read = told_other quad_read_in above said refl i;
      dedicated = told_other dedicated_in above said refl i;
      regions = same_regions above said refl i;
    })
with_said above (say.Leave switch) after is e =
    let said = say.Leave switch in
    let done = placed_ok (λ told. record (sheet_of above) { leave = told }) (sheet_of above).leave switch after e in
    sym done.is ∙ (λ i. record {
      size = told_other size_in above said refl i;
      page = told_other page_in above said refl i;
      width = told_other width_in above said refl i;
      kinds = same_kinds above said refl refl refl refl i;
      enter = told_other enter_in above said refl i;
      leave = told_new leave_in above said switch done.none refl i;
      quad_read = told_other quad_read_in above said refl i;
      dedicated = told_other dedicated_in above said refl i;
      regions = same_regions above said refl i;
    })
with_said above (say.QuadRead read) after is e =
    let said = say.QuadRead read in
    let done = placed_ok (λ told. record (sheet_of above) { quad_read = told }) (sheet_of above).quad_read read after e in
    sym done.is ∙ (λ i. record {
      size = told_other size_in above said refl i;
      page = told_other page_in above said refl i;
      width = told_other width_in above said refl i;
      kinds = same_kinds above said refl refl refl refl i;
      enter = told_other enter_in above said refl i;
      leave = told_other leave_in above said refl i;
      quad_read = told_new quad_read_in above said read done.none refl i;
      dedicated = told_other dedicated_in above said refl i;
      regions = same_regions above said refl i;
    })
with_said above (say.Dedicated dedicated) after is e =
    let said = say.Dedicated dedicated in
    let done = placed_ok (λ told. record (sheet_of above) { dedicated = told }) (sheet_of above).dedicated dedicated after e in
    sym done.is ∙ (λ i. record {
      size = told_other size_in above said refl i;
      page = told_other page_in above said refl i;
      width = told_other width_in above said refl i;
      kinds = same_kinds above said refl refl refl refl i;
      enter = told_other enter_in above said refl i;
      leave = told_other leave_in above said refl i;
      quad_read = told_other quad_read_in above said refl i;
      dedicated = told_new dedicated_in above said dedicated done.none refl i;
      regions = same_regions above said refl i;
    })
with_said above (say.Region region) after is e =
    let said = say.Region region in
    let done = region_put (nat_le 256 (length (sheet_of above).regions)) (sheet_of above) region after e in
    sym done.1 ∙ (λ i. record {
      size = told_other size_in above said refl i;
      page = told_other page_in above said refl i;
      width = told_other width_in above said refl i;
      kinds = same_kinds above said refl refl refl refl i;
      enter = told_other enter_in above said refl i;
      leave = told_other leave_in above said refl i;
      quad_read = told_other quad_read_in above said refl i;
      dedicated = told_other dedicated_in above said refl i;
      regions = sym (filter_map-append region_in above (said ∷ [])) i;
    })

-- ---- the limits are kept

slot_set : (slots : List (Option Erase)) (k : ℕ) (erase : Erase) → AllByRecursion (λ slot. IfSome slot IsErase) slots → IsErase erase → AllByRecursion (λ slot. IfSome slot IsErase) (slice_set slots k (Some erase))
slot_set [] k erase all is = tt
slot_set (slot ∷ slots) zero erase all is = (is, all.1)
slot_set (slot ∷ slots) (suc k) erase all is = (all.0, slot_set slots k erase all.1 is)

pub with_kept : (s : Sheet) (said : Said) (after : Sheet) → AreSaid s → IsSaid said → with s said ≡ Ok after → AreSaid after
with_kept s (say.Size n) after all is e =
    subst AreSaid (placed_ok (λ told. record s { size = told }) s.size n after e).is (record {
      size = is;
      page = all.page;
      four = all.four;
      kinds = all.kinds;
      quad_read = all.quad_read;
      few = all.few;
      regions = all.regions;
    })
with_kept s (say.Page page) after all is e =
    subst AreSaid (placed_ok (λ told. record s { page = told }) s.page page after e).is (record {
      size = all.size;
      page = is;
      four = all.four;
      kinds = all.kinds;
      quad_read = all.quad_read;
      few = all.few;
      regions = all.regions;
    })
with_kept s (say.Address width) after all is e =
    subst AreSaid (placed_ok (λ told. record s { width = told }) s.width width after e).is (record {
      size = all.size;
      page = all.page;
      four = all.four;
      kinds = all.kinds;
      quad_read = all.quad_read;
      few = all.few;
      regions = all.regions;
    })
with_kept s (say.Kind k erase) after all is e =
    subst AreSaid (placed_ok (λ told. record s { kinds = slice_set s.kinds (k - 1) told }) (kind_told s k) erase after e).is (record {
      size = all.size;
      page = all.page;
      four = length-set s.kinds (k - 1) (Some erase) ∙ all.four;
      kinds = slot_set s.kinds (k - 1) erase all.kinds is.2;
      quad_read = all.quad_read;
      few = all.few;
      regions = all.regions;
    })
with_kept s (say.Enter switch) after all is e =
    subst AreSaid (placed_ok (λ told. record s { enter = told }) s.enter switch after e).is (record {
      size = all.size;
      page = all.page;
      four = all.four;
      kinds = all.kinds;
      quad_read = all.quad_read;
      few = all.few;
      regions = all.regions;
    })
with_kept s (say.Leave switch) after all is e =
    subst AreSaid (placed_ok (λ told. record s { leave = told }) s.leave switch after e).is (record {
      size = all.size;
      page = all.page;
      four = all.four;
      kinds = all.kinds;
      quad_read = all.quad_read;
      few = all.few;
      regions = all.regions;
    })
with_kept s (say.QuadRead read) after all is e =
    subst AreSaid (placed_ok (λ told. record s { quad_read = told }) s.quad_read read after e).is (record {
      size = all.size;
      page = all.page;
      four = all.four;
      kinds = all.kinds;
      quad_read = is;
      few = all.few;
      regions = all.regions;
    })
with_kept s (say.Dedicated dedicated) after all is e =
    subst AreSaid (placed_ok (λ told. record s { dedicated = told }) s.dedicated dedicated after e).is (record {
      size = all.size;
      page = all.page;
      four = all.four;
      kinds = all.kinds;
      quad_read = all.quad_read;
      few = all.few;
      regions = all.regions;
    })
with_kept s (say.Region region) after all is e =
    let done = region_put (nat_le 256 (length s.regions)) s region after e in
    subst AreSaid done.1 (record {
      size = all.size;
      page = all.page;
      four = all.four;
      kinds = all.kinds;
      quad_read = all.quad_read;
      few = omega (arith, length_push s.regions region, leb-false 256 (length s.regions) done.0);
      regions = all_append IsRegion s.regions (region ∷ []) all.regions (is, tt);
    })
