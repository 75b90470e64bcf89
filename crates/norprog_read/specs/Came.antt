-- What came over a line, and whether it shows that the terminal changed nothing of what was read (this project's; the settings are those of
-- termios).
use Rattle.std.specs.Prelude.{◌≡◌, ℕ, ◌==◌, nat_le, not, ◌&&◌, ◌||◌, Bool, true, false, List, ◌++◌}
use Rattle.std.specs.List.{list_any}
use Rattle.norprog_read.specs.declared.asked.Ask.{Ask}
use Rattle.norprog_read.specs.declared.came.Kind.{Kind}
use Rattle.norprog_read.specs.declared.came.Kind.TheVariants.{High, Feed, Return, Capital, Small}

-- a byte is from 80h on, a line feed, a carriage return, a capital letter, or a small one that is made of a capital (letters as Linux's
-- `tolower` has them, in ASCII and Latin-1: D7h is no capital, and so F7h is made of none)
abbrev pub is_of : Kind → ℕ → Bool
is_of High byte = nat_le 0x80 byte
is_of Feed byte = byte == 0x0A
is_of Return byte = byte == 0x0D
is_of Capital byte = (nat_le 0x41 byte && nat_le byte 0x5A) || (nat_le 0xC0 byte && nat_le byte 0xDE && not (byte == 0xD7))
is_of Small byte = (nat_le 0x61 byte && nat_le byte 0x7A) || (nat_le 0xE0 byte && nat_le byte 0xFE && not (byte == 0xF7))

-- some byte is of the kind
abbrev pub has : Kind → List ℕ → Bool
has kind bytes = list_any (is_of kind) bytes

-- a setting that makes a byte of one kind of each byte of another didn't change what was read: a byte of the kind that it takes away came
-- nevertheless, in the identification or in what was read, or nothing that was read is of the kind that it makes
abbrev pub is_kept : Kind → Kind → List ℕ → List ℕ → Bool
is_kept lost made id read = has lost (id ++ read) || not (has made read)

-- ISTRIP clears bit 7 of each byte: some byte came that has it. ICRNL makes a line feed of each carriage return, INLCR a carriage return of
-- each line feed, IUCLC a small letter of each capital: none of them changed what was read
abbrev pub shows_line : List ℕ → List ℕ → Bool
shows_line id read = has High (id ++ read) && (is_kept Return Feed id read && (is_kept Feed Return id read && is_kept Capital Small id read))

-- where the content was wanted, and the terminal isn't said to hand on each byte as it comes, what came shows that it changed nothing of
-- what was read
abbrev pub ShowsLine : Ask → List ℕ → List ℕ → Type 0
ShowsLine ask id read = ask.content ≡ true → ask.raw ≡ false → shows_line id read ≡ true

-- so it is wanted, and what came doesn't show it
pub record HidesLine (ask : Ask) (id read : List ℕ) : Type 0 where
  pub content : ask.content ≡ true
  pub raw : ask.raw ≡ false
  pub hidden : shows_line id read ≡ false
