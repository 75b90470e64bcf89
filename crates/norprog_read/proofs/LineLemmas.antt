-- The parts of a line, joined.
use Rattle.std.proofs.Common.{◌≡◌, refl, ℕ, List, ◌++◌, true, length, Some}
use Rattle.std.specs.Prelude.{codes, decimal}
use Rattle.nor_base.specs.Script.{hex_pair}
use Rattle.norprog_read.specs.declared.fault.Unlike.TheVariants.{Moved, Size}
use Rattle.norprog_read.specs.Line.{content_line, note_line, unlike_line}

pub count_parts : (content digits : List ℕ) → digits ≡ decimal (length content) → codes "read " ++ (digits ++ codes " twice alike\n") ≡ content_line true content
count_parts content digits d = rw d refl

pub number_parts : (n : ℕ) (digits : List ℕ) → digits ≡ decimal n
    → codes "no tables: " ++ (digits ++ codes "\n") ≡ codes "no tables: " ++ (decimal n ++ codes "\n")
number_parts n digits d = rw d refl

pub note_parts : (size : ℕ) (digits : List ℕ) → digits ≡ decimal size
    → codes "note: the identification says " ++ (digits ++ codes " bytes\n") ≡ note_line (Some size)
note_parts size digits d = rw d refl

pub size_parts : (size : ℕ) (digits : List ℕ) → digits ≡ decimal size
    → codes "unlike size: the chip's tables say " ++ (digits ++ codes " bytes\n") ≡ unlike_line (Size size)
size_parts size digits d = rw d refl

pub moved_parts : (value : ℕ) (digits : List ℕ) → digits ≡ hex_pair value
    → codes "unlike register " ++ (digits ++ codes "\n") ≡ unlike_line (Moved value)
moved_parts value digits d = rw d refl
