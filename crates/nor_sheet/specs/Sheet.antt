-- What the lines of a sheet say together (this project's).
use Rattle.std.specs.Prelude.{◌≡◌, ℕ, ◌-◌, ◌==◌, ◌^◌, ◌%◌, ◌≤◌, nat_le, if◌then◌else◌, Option, Some, None, IfSome, option_and_then, Result, Ok, Err, List, [], ◌∷◌, ◌++◌, length, filter_map, slice_get, slice_set}
use Rattle.std.specs.List.{AllByRecursion}
use Rattle.nor_base.specs.declared.meaning.Width.{Width}
use Rattle.nor_base.specs.declared.meaning.Switch.{Switch}
use Rattle.nor_base.specs.declared.meaning.Erase.{Erase}
use Rattle.nor_base.specs.declared.meaning.Region.{Region}
use Rattle.nor_base.specs.declared.meaning.QuadRead.{QuadRead}
use Rattle.nor_base.specs.Accepted.{IsPowerOfTwo, IsRegion}
use Rattle.nor_sheet.specs.declared.fault.LineFault.{LineFault}
use Rattle.nor_sheet.specs.declared.fault.LineFault.TheVariants.{Limit, Twice}
use Rattle.nor_sheet.specs.declared.said.Page.{Page}
use Rattle.nor_sheet.specs.declared.said.Dedicated.{Dedicated}
use Rattle.nor_sheet.specs.declared.said.Said.{Said}
use Rattle.nor_sheet.specs.declared.said.Said.TheVariants as say
use Rattle.nor_sheet.specs.Limits.{IsErase, IsRead}

-- what is said of each subject, where something is; of the kinds 1 to 4 in this order
pub record Sheet : Type 0 where
  pub size : Option ℕ
  pub page : Option Page
  pub width : Option Width
  pub kinds : List (Option Erase)
  pub enter : Option Switch
  pub leave : Option Switch
  pub quad_read : Option (Option QuadRead)
  pub dedicated : Option Dedicated
  pub regions : List Region

-- what a statement says of a subject, where it is of that subject
abbrev pub size_in : Said → Option ℕ
size_in (say.Size n) = Some n
size_in other = None

abbrev pub page_in : Said → Option Page
page_in (say.Page page) = Some page
page_in other = None

abbrev pub width_in : Said → Option Width
width_in (say.Address width) = Some width
width_in other = None

abbrev pub kind_in : ℕ → Said → Option Erase
kind_in k (say.Kind number erase) = if number == k then Some erase else None
kind_in k other = None

abbrev pub enter_in : Said → Option Switch
enter_in (say.Enter switch) = Some switch
enter_in other = None

abbrev pub leave_in : Said → Option Switch
leave_in (say.Leave switch) = Some switch
leave_in other = None

abbrev pub quad_read_in : Said → Option (Option QuadRead)
quad_read_in (say.QuadRead read) = Some read
quad_read_in other = None

abbrev pub dedicated_in : Said → Option Dedicated
dedicated_in (say.Dedicated dedicated) = Some dedicated
dedicated_in other = None

abbrev pub region_in : Said → Option Region
region_in (say.Region region) = Some region
region_in other = None

-- what the first of some statements that is of a subject says of it
abbrev pub told : {A : Type 0} → (Said → Option A) → List Said → Option A
told of said = slice_get (filter_map of said) 0

-- what some statements say; the regions are in their order
abbrev pub sheet_of : List Said → Sheet
sheet_of said = record {
  size = told size_in said;
  page = told page_in said;
  width = told width_in said;
  kinds = told (kind_in 1) said ∷ told (kind_in 2) said ∷ told (kind_in 3) said ∷ told (kind_in 4) said ∷ [];
  enter = told enter_in said;
  leave = told leave_in said;
  quad_read = told quad_read_in said;
  dedicated = told dedicated_in said;
  regions = filter_map region_in said;
}

-- a value where none is said yet
abbrev pub once : {A : Type 0} → Option A → A → Result (Option A) LineFault
once None value = Ok (Some value)
once (Some other) value = Err Twice

-- with such a value put in its place
abbrev pub placed : {A : Type 0} → (Option A → Sheet) → Result (Option A) LineFault → Result Sheet LineFault
placed put (Ok value) = Ok (put value)
placed put (Err fault) = Err fault

-- what is said of the kind of a number
abbrev pub kind_told : Sheet → ℕ → Option Erase
kind_told s k = option_and_then (λ slot. slot) (slice_get s.kinds (k - 1))

-- the sheet that says this too: nothing is said twice, and there are at most 256 regions
abbrev pub with : Sheet → Said → Result Sheet LineFault
with s (say.Size n) = placed (λ told. record s { size = told }) (once s.size n)
with s (say.Page page) = placed (λ told. record s { page = told }) (once s.page page)
with s (say.Address width) = placed (λ told. record s { width = told }) (once s.width width)
with s (say.Kind k erase) = placed (λ told. record s { kinds = slice_set s.kinds (k - 1) told }) (once (kind_told s k) erase)
with s (say.Enter switch) = placed (λ told. record s { enter = told }) (once s.enter switch)
with s (say.Leave switch) = placed (λ told. record s { leave = told }) (once s.leave switch)
with s (say.QuadRead read) = placed (λ told. record s { quad_read = told }) (once s.quad_read read)
with s (say.Dedicated dedicated) = placed (λ told. record s { dedicated = told }) (once s.dedicated dedicated)
with s (say.Region region) = if nat_le 256 (length s.regions) then Err Limit else Ok (record s { regions = s.regions ++ region ∷ [] })

-- what holds of each sheet: its parts are within the limits
pub record AreSaid (s : Sheet) : Type 0 where
  pub size : IfSome s.size (λ n. (4096 ≤ n) × (n ≤ 2 ^ 28) × (n % 4096 ≡ 0))
  pub page : IfSome s.page (λ page. IsPowerOfTwo 4 12 page.size)
  pub four : length s.kinds ≡ 4
  pub kinds : AllByRecursion (λ slot. IfSome slot IsErase) s.kinds
  pub quad_read : IfSome s.quad_read IsRead
  pub few : length s.regions ≤ 256
  pub regions : AllByRecursion IsRegion s.regions
