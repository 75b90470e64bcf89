-- A text as a shell reads it (words and quotes are those of the Shell Command Language of POSIX, 2.2).
use Rattle.std.specs.Prelude.{ℕ, Bool, false, ◌==◌, ◌||◌, if◌then◌else◌, List, [], ◌∷◌, ◌++◌, flat_map, codes}
use Rattle.std.specs.Char.{is_ascii_alphanumeric}
use Rattle.std.specs.List.{list_all, list_any}

-- a letter, a digit, or one of - . / _
abbrev pub is_plain : ℕ → Bool
is_plain c = is_ascii_alphanumeric c || list_any (λ other. other == c) (codes "-./_")

-- a text of these is a word as it is
abbrev pub is_bare : List ℕ → Bool
is_bare [] = false
is_bare (c ∷ rest) = list_all is_plain (c ∷ rest)

-- between single quotes each character stands for itself, except a single quote: it stands outside of them, after a backslash
abbrev pub quoted : ℕ → List ℕ
quoted c = if c == 0x27 then 0x27 ∷ 0x5C ∷ 0x27 ∷ 0x27 ∷ [] else c ∷ []

abbrev pub quoted_word : List ℕ → List ℕ
quoted_word text = 0x27 ∷ (flat_map quoted text ++ 0x27 ∷ [])

-- the word that a shell reads as this text
abbrev pub shell_word : List ℕ → List ℕ
shell_word text = if is_bare text then text else quoted_word text
