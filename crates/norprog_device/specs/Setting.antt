-- How the terminal of a device is set, and what is written before the device answers (this project's; `stty` is POSIX's).
use Rattle.std.specs.Prelude.{ℕ, List, ◌++◌, codes}
use Rattle.norprog_device.specs.Shell.{shell_word}

-- the command that sets the terminal of this device: 115200 baud, each byte as it comes, and a read that ends after 20 tenths of a second
-- without one
abbrev pub stty_command : List ℕ → List ℕ
stty_command device = codes "stty -F " ++ (shell_word device ++ codes " 115200 raw -echo min 0 time 20")

-- the device that is waited for, and when to set its terminal
abbrev pub waiting_front : List ℕ → List ℕ
waiting_front device = codes "waiting for " ++ (shell_word device ++ codes "; if nothing follows, set it: ")

-- the line with that command, and LF
abbrev pub waiting_line : List ℕ → List ℕ
waiting_line device = waiting_front device ++ (stty_command device ++ codes "\n")
