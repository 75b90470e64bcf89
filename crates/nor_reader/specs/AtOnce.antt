-- How much of a chip is read at once (this project's).
use Rattle.std.specs.Prelude.{ℕ, ◌^◌, min}
use Rattle.nor_serprog.specs.declared.limits.Limits.{Limits}

-- as many bytes as the device gives, and 64 KiB at most
abbrev pub at_once : Limits → ℕ
at_once limits = min limits.asked (2 ^ 16)
