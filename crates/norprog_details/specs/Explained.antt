-- What is told of a text that the program prints (this project's).
use Rattle.std.specs.Prelude.{◌≡◌, ℕ, Bool, nat_eq, if◌then◌else◌, List, [], ◌∷◌, ◌++◌, flat_map, map, bytes_eq, codes, Option, Some, None, option_map, unwrap_or, Result, Ok, Err}
use Rattle.std.specs.Borrow.{Bor}
use Rattle.std.specs.Io.KnownBytes.{Appends}
use Rattle.std.specs.List.{find, starts_with}
use Rattle.nor_base.specs.Device.{Cuts}
use Rattle.nor_base.specs.Script.{closed}
use Rattle.nor_job.specs.declared.fault.BuildFault.TheVariants.{Write}
use Rattle.norprog_common.specs.declared.faults.Refusal.{Refusal}
use Rattle.norprog_common.specs.declared.faults.Refusal.TheVariants.{Usage, Build}
use Rattle.norprog_common.specs.Told.{Fails, Output}

-- the words that a text begins with, and what is told of it
abbrev pub Topic : Type 0
Topic = List ℕ × List ℕ

abbrev pub told : List (Bor (List ℕ) × Bor (List ℕ)) → List Topic
told topics = map (λ topic. (topic.0.now, topic.1.now)) topics

-- the topics of all subjects, in their order
abbrev pub in_order : List (Bor (List (Bor (List ℕ) × Bor (List ℕ)))) → List Topic
in_order subjects = flat_map (λ topics. told topics.now) subjects

-- the arguments of a command line in a row, with a blank behind each
abbrev pub in_a_row : List (List ℕ) → List ℕ
in_a_row arguments = flat_map (λ argument. argument ++ 32 ∷ []) arguments

-- what is asked begins with the words of the topic, and a blank
abbrev pub is_about : List ℕ → Topic → Bool
is_about asked topic = starts_with nat_eq asked (topic.0 ++ 32 ∷ [])

-- the paragraph of a topic, and the line that lists it
abbrev pub paragraph : Topic → List ℕ
paragraph topic = closed topic.1

abbrev pub listed : Topic → List ℕ
listed topic = closed topic.0

-- the paragraph of the first topic that the words asked begin with; without words the topics, one a line
abbrev pub answered : List Topic → List (List ℕ) → Option (List ℕ)
answered topics [] = Some (flat_map listed topics)
answered topics (argument ∷ more) = option_map paragraph (find (is_about (in_a_row (argument ∷ more))) topics)

-- the paragraph of the first topic that a line begins with, word by word, if there is one
abbrev pub topic_text : List Topic → List ℕ → List ℕ
topic_text topics line = unwrap_or (option_map paragraph (find (is_about (line ++ 32 ∷ [])) topics)) []

-- arguments without the name in front of them that the line of a refusal begins with
abbrev pub nameless : List (List ℕ) → List (List ℕ)
nameless [] = []
nameless (argument ∷ more) = if bytes_eq argument (codes "norprog:") then more else argument ∷ more

-- what is told of the arguments of a command line
abbrev pub explained : List Topic → List (List ℕ) → Option (List ℕ)
explained topics arguments = answered topics (nameless arguments)

-- the text was written
abbrev pub Tells : Option (List ℕ) → Option (List ℕ) → Option (List ℕ) → Type 0
Tells (Some text) before after = Appends before after text
Tells None before after = ⊥

-- a proper prefix of the text was written; nothing, where there is nothing to tell
abbrev pub CutsText : Option (List ℕ) → Option (List ℕ) → Option (List ℕ) → Type 0
CutsText (Some text) before after = Cuts before after text
CutsText None before after = after ≡ before

-- a failed write; usage where there is nothing to tell
abbrev pub RefusesText : Type 0 → Option (List ℕ) → Refusal → Type 0
RefusesText Broke (Some text) why = (why ≡ Build Write) × Broke
RefusesText Broke None why = why ≡ Usage

-- how `explain` ends: the text was printed; or some of it, where what is printed to failed, or none where there is none
abbrev pub EndsExplain : Option (List ℕ) → Output → Result ℕ Refusal → Type 0
EndsExplain text out (Ok status) = (status ≡ 0) × Tells text out.before out.after
EndsExplain text out (Err why) = CutsText text out.before out.after × RefusesText (Fails out) text why
