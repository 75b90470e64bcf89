-- Steps that are fed one by one are the play of their list.
use Rattle.std.proofs.Common.{◌≡◌, ℕ, ◌<◌, Bool, true, false, if◌then◌else◌, List, [], ◌∷◌, ◌++◌, length, take, get_or, Ok, Err, refl, sym, ◌∙◌, subst, arith, length-append}
use Rattle.std.proofs.lemmas.List.{take-append-le, take_all}
use Rattle.nor_base.specs.declared.step.Step.{Step}
use Rattle.nor_base.specs.Chip.{is_settled}
use Rattle.nor_base.specs.Port.{Shown}
use Rattle.nor_chip.specs.Asked.{AsksMore}
use Rattle.nor_play.specs.declared.fault.PlayFault.{PlayFault}
use Rattle.nor_play.specs.declared.fault.PlayFault.TheVariants as fault
use Rattle.nor_base.specs.declared.wrong.Wrong.TheVariants as wrong
use Rattle.nor_play.specs.Asks.{AsksNumbered, AsksPlay}
use Rattle.nor_play.specs.Fed.{Player, begun, past, ending}
use Rattle.nor_play.specs.Numbered.{PlaysNumbered}
use Rattle.nor_play.specs.Play.{Plays}
use Rattle.nor_play.specs.Turns.{EndsStep}
use Rattle.nor_play.proofs.AskLemmas.{HasAsked, one_more_asked, halt_asks}
use Rattle.nor_play.proofs.PlayLemmas.{HasPlayed, nothing_played, one_more, halts_at, play_ends, play_unsettled}

-- a player was fed these steps: from what the port showed before to what it shows now
pub record IsFed (before now : Shown) (limit : ℕ) (steps : List Step) (player : Player) : Type 0 where
  pub played : HasPlayed before now limit steps player.done
  pub number : player.number ≡ length steps
  pub tries : player.limit ≡ limit

pub fed_none : (before : Shown) (limit : ℕ) → IsFed before before limit [] (begun limit)
fed_none before limit = record { played = nothing_played before limit; number = refl; tries = refl }

take_front : (above rest : List Step) → take (length above) (above ++ rest) ≡ above
take_front above rest = take-append-le (length above) above rest (omega arith) ∙ take_all (length above) above (omega arith)

get_middle : (above rest : List Step) (x : Step) → get_or (above ++ x ∷ rest) (length above) x ≡ x
get_middle [] rest x = refl
get_middle (y ∷ above) rest x = get_middle above rest x

module _ (before now after : Shown) (limit : ℕ) (steps : List Step) (player : Player) (fed : IsFed before now limit steps player) (x : Step) where
  -- one step more
  pub fed_more : (turns : ℕ) → PlaysNumbered now after player x (Ok turns) → IsFed before after limit (steps ++ x ∷ []) (past player (Ok turns))
  fed_more turns told =
      let number = fed.number in
      record {
        played = one_more before now after limit steps x player.done fed.played turns (subst (λ n. EndsStep now after n x turns) fed.tries told);
        number = omega (arith, number, length-append steps (x ∷ []));
        tries = fed.tries;
      }

  -- a step's fault is that of the play, whatever follows
  module _ (rest : List Step) (f : PlayFault) (told : PlaysNumbered now after player x (Err f)) where
    abbrev placed : Player
    placed = record { limit = limit; number = length steps; done = player.done }

    at_its_place : PlaysNumbered now after placed x (Err f)
    at_its_place =
        subst (λ n. PlaysNumbered now after (record { limit = limit; number = n; done = player.done }) x (Err f)) fed.number
        (subst (λ n. PlaysNumbered now after (record { limit = n; number = player.number; done = player.done }) x (Err f)) fed.tries told)

    front : HasPlayed before now limit (take (length steps) (steps ++ x ∷ rest)) player.done
    front = subst (λ (l : List Step). HasPlayed before now limit l player.done) (sym (take_front steps (x ∷ rest))) fed.played

    within : length steps < length (steps ++ x ∷ rest)
    within = omega (arith, length-append steps (x ∷ rest))

    pub fed_halts : Plays before after limit (steps ++ x ∷ rest) (Err f)
    fed_halts = halts_at before now after placed (steps ++ x ∷ rest) x player.done f front within (sym (get_middle steps rest x)) at_its_place

    pub fed_halts_asks : (P Q R : ℕ → Type 0) → HasAsked before P Q limit steps player.done → AsksNumbered now (AsksMore Q R) player.limit x (Err f)
        → AsksPlay before (AsksMore P R) limit (steps ++ x ∷ rest) (Err f)
    fed_halts_asks P Q R asked more =
        halt_asks before now after P Q R placed (steps ++ x ∷ rest) x player.done f front
        (subst (λ (l : List Step). HasAsked before P Q limit l player.done) (sym (take_front steps (x ∷ rest))) asked) within (sym (get_middle steps rest x)) at_its_place
        (subst (λ n. AsksNumbered now (AsksMore Q R) n x (Err f)) fed.tries more)

  pub fed_more_asks : (P Q R : ℕ → Type 0) (turns : ℕ) → HasAsked before P Q limit steps player.done → AsksNumbered now (AsksMore Q R) player.limit x (Ok turns)
      → HasAsked before P R limit (steps ++ x ∷ []) (past player (Ok turns)).done
  fed_more_asks P Q R turns asked more =
      one_more_asked before now P Q R limit steps x player.done fed.played asked turns (subst (λ n. AsksNumbered now (AsksMore Q R) n x (Ok turns)) fed.tries more)

-- the end
module _ (before now : Shown) (limit : ℕ) (steps : List Step) (player : Player) (fed : IsFed before now limit steps player) where
  ends_by : (b : Bool) → is_settled now.setting now.chip ≡ b
      → Plays before now limit steps (if b then Ok player.done else Err (fault.Wrong player.number wrong.NotIdleAtEnd))
  ends_by true is = play_ends before now limit steps player.done fed.played is
  ends_by false is = subst (λ n. Plays before now limit steps (Err (fault.Wrong n wrong.NotIdleAtEnd))) (sym fed.number) (play_unsettled before now limit steps player.done fed.played is)

  pub fed_ends : Plays before now limit steps (ending player now)
  fed_ends = ends_by (is_settled now.setting now.chip) refl

  asks_by : (b : Bool) (P Q : ℕ → Type 0) → HasAsked before P Q limit steps player.done
      → AsksPlay before (AsksMore P Q) limit steps (if b then Ok player.done else Err (fault.Wrong player.number wrong.NotIdleAtEnd))
  asks_by true P Q asked = (asked.sum, asked.asked)
  asks_by false P Q asked = subst (AsksMore P Q) asked.sum asked.asked

  pub fed_ends_asks : (P Q : ℕ → Type 0) → HasAsked before P Q limit steps player.done → AsksPlay before (AsksMore P Q) limit steps (ending player now)
  fed_ends_asks P Q asked = asks_by (is_settled now.setting now.chip) P Q asked
