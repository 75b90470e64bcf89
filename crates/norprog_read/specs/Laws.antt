-- What the settings of a terminal do to each byte, and when they did nothing (this project's; the settings are those of termios).
use Rattle.std.specs.Prelude.{◌≡◌, ℕ, ◌+◌, ◌%◌, ◌==◌, ◌&&◌, Bool, true, false, List, map, if◌then◌else◌}
use Rattle.norprog_read.specs.declared.came.Kind.TheVariants.{Capital}
use Rattle.norprog_read.specs.Came.{is_of, shows_line}

-- ISTRIP clears the highest of eight bits
abbrev pub stripped : Bool → ℕ → ℕ
stripped true byte = byte % 0x80
stripped false byte = byte

-- IUCLC makes a small letter of a capital
abbrev pub lowered : Bool → ℕ → ℕ
lowered true byte = if is_of Capital byte then byte + 0x20 else byte
lowered false byte = byte

-- ICRNL makes a line feed of a carriage return, INLCR a carriage return of a line feed
abbrev pub turned : Bool → Bool → ℕ → ℕ
turned icrnl inlcr byte = if icrnl && (byte == 0x0D) then 0x0A else if inlcr && (byte == 0x0A) then 0x0D else byte

-- in this order
abbrev pub handed_on : Bool → Bool → Bool → Bool → ℕ → ℕ
handed_on istrip iuclc icrnl inlcr byte = turned icrnl inlcr (lowered iuclc (stripped istrip byte))

-- except where both of the last are set, which exchanges the two bytes: where what came shows the line, what was read is as it was sent
abbrev pub ShownLineKeeps : Type 0
ShownLineKeeps = (istrip iuclc icrnl inlcr : Bool) (id read : List ℕ) → icrnl && inlcr ≡ false
    → shows_line (map (handed_on istrip iuclc icrnl inlcr) id) (map (handed_on istrip iuclc icrnl inlcr) read) ≡ true
    → map (handed_on istrip iuclc icrnl inlcr) read ≡ read
