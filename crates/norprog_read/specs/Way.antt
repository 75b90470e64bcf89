-- How a chip's content is read, the first time and again (this project's).
use Rattle.std.specs.Prelude.{◌≡◌, ◌^◌, ℕ, nat_le, not, ◌&&◌, ◌||◌, Bool, true, false, if◌then◌else◌, List}
use Rattle.nor_base.specs.declared.meaning.Start.{Start}
use Rattle.nor_base.specs.declared.meaning.Width.{Width}
use Rattle.nor_base.specs.declared.meaning.Width.TheVariants.{Both}
use Rattle.nor_base.specs.Chip.{begins4}
use Rattle.nor_base.specs.Instructions.{is_there}
use Rattle.nor_base.specs.Parameters.{Parameters}
use Rattle.nor_reader.specs.declared.by.ReadBy.{ReadBy}
use Rattle.nor_reader.specs.declared.by.ReadBy.TheVariants.{Content, FourBytes, Entered}
use Rattle.nor_reader.specs.Telling.{ShowsMode}
use Rattle.nor_reader.specs.Twice.{twice, Twice}
use Rattle.norprog_read.specs.declared.asked.Span.{Span}
use Rattle.norprog_read.specs.Span.{span}

-- how a part of a content is read: by reads of no more than so many bytes, of a chip of this meaning that begins so, in a mode that is sure or
-- isn't
pub record Way : Type 0 where
  pub most : ℕ
  pub m : Parameters
  pub start : Start
  pub sure : Bool
  pub part : Span

abbrev pub way : ℕ → Parameters → Start → Bool → Span → Way
way most m start sure part = record { most = most; m = m; start = start; sure = sure; part = part }

-- a chip of this width has both address modes
abbrev pub has_both : Width → Bool
has_both Both = true
has_both other = false

-- three address bytes reach all of it
abbrev pub is_small : Parameters → Bool
is_small m = nat_le m.size (2 ^ 24)

-- it can be read whole in the mode that it begins in
abbrev pub is_near : Parameters → Start → Bool
is_near m start = is_small m || (begins4 m start || m.read4)

-- it begins in three-byte mode, and its tables say how the other is entered and left
abbrev pub may_enter : Parameters → Start → Bool
may_enter m start = not (begins4 m start) && (is_there m.enter && is_there m.leave)

-- it can be read whole
abbrev pub is_readable : Parameters → Start → Bool
is_readable m start = is_near m start || may_enter m start

-- in the mode that it begins in; else in four-byte mode, which is entered and left
abbrev pub first_by : Parameters → Start → ReadBy
first_by m start = if is_near m start then Content (begins4 m start) else Entered m.enter m.leave

-- where the mode isn't sure, again as the first time, so that the content shows it; else by four address bytes, where a chip that is in the
-- other mode than was said could give the same bytes twice, or three address bytes don't reach all of it: by 13h where it has that, else in
-- four-byte mode, which is entered and left; else as the first time
abbrev pub second_by : Parameters → Start → Bool → ReadBy
second_by m start sure =
    if not sure || (is_small m && not (has_both m.width)) then first_by m start
    else if m.read4 then FourBytes
    else if may_enter m start then Entered m.enter m.leave else first_by m start

-- the two readings of a way
abbrev pub first_of : Way → ReadBy
first_of w = first_by w.m w.start

abbrev pub second_of : Way → ReadBy
second_of w = second_by w.m w.start w.sure

abbrev pub twice_of : Way → Twice
twice_of w = twice w.most (first_of w) (second_of w)

-- past its end by 13h where it has that, else as the first time
abbrev pub past_by : Parameters → Start → ReadBy
past_by m start = if m.read4 then FourBytes else first_by m start

-- all of the content is read
abbrev pub IsAll : Way → Type 0
IsAll w = w.part ≡ span 0 w.m.size

-- a content that came by the address bytes of a mode shows it, in pieces of so many bytes
abbrev pub IsShownBy : ReadBy → ℕ → List ℕ → Type 0
IsShownBy (Content mode4) most content = ShowsMode mode4 most content
IsShownBy other most content = ⊥

-- so it is of all of the content, by the first reading
pub record IsShown (w : Way) (content : List ℕ) : Type 0 where
  pub all : IsAll w
  pub shows : IsShownBy (first_of w) w.most content
