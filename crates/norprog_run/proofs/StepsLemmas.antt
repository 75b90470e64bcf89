-- How a play of the steps that came stands, and what was read of the text.
use Rattle.std.proofs.Common.{◌≡◌, ℕ, true, false, Bool, List, [], ◌∷◌, ◌++◌, length, Option, Some, None, Result, Ok, Err, sym, ◌∙◌, ap, subst, append_assoc, append-nil}
use Rattle.std.specs.Prelude.{is_some, not}
use Rattle.nor_base.specs.declared.step.Step.{Step}
use Rattle.nor_base.specs.Device.{Ahead}
use Rattle.nor_base.specs.Port.{Shown}
use Rattle.nor_play.specs.declared.fault.PlayFault.{PlayFault}
use Rattle.nor_play.specs.declared.fault.PlayFault.TheVariants as fault
use Rattle.nor_play.specs.Fed.{Player, past, ending}
use Rattle.nor_play.specs.Play.{Plays}
use Rattle.nor_play.proofs.FedLaws.{IsFed, fed_more, fed_halts, fed_ends}
use Rattle.nor_script.specs.Stream.{Reading, reading, HasRead, Advances, HadText}
use Rattle.nor_script.proofs.TextLaws.{script_of}
use Rattle.norprog_run.specs.declared.verdict.Verdict.{Verdict}
use Rattle.norprog_run.specs.declared.verdict.Verdict.TheVariants.{Done, Wrong}
use Rattle.norprog_run.specs.Play.{EndsSo, run_of}
use Rattle.norprog_run.specs.Steps.{Steps, Ends, playing}
use Rattle.norprog_run.specs.Stream.{PlaysText}

-- how it stands after these steps: a player was fed them; or the chip went wrong, and whatever follows them, the play ends so
abbrev pub Stands : Shown → Shown → ℕ → List Step → Player → Option Verdict → Type 0
Stands before now limit above player None = IsFed before now limit above player
Stands before now limit above player (Some verdict) = (rest : List Step) → EndsSo (run_of before.setting before.chip limit) (above ++ rest) verdict now.chip

pub stands_next : (before now after : Shown) (limit : ℕ) (above : List Step) (x shown : Step) (player player' : Player) (wrong : Option Verdict) → shown ≡ x
    → IsFed before now limit above player → Steps (playing player now) (playing player' after) shown (Ok wrong) → Stands before after limit (above ++ x ∷ []) player' wrong
stands_next before now after limit above x shown player player' None is fed (turns, told, next) =
    subst (λ (p : Player). IsFed before after limit (above ++ x ∷ []) p) (sym next)
    (subst (λ (y : Step). IsFed before after limit (above ++ y ∷ []) (past player (Ok turns))) is (fed_more before now after limit above player fed shown turns told))
stands_next before now after limit above x shown player player' (Some (Wrong at why)) is fed told =
    λ rest. subst (λ (l : List Step). EndsSo (run_of before.setting before.chip limit) l (Wrong at why) after.chip)
    (ap (λ (y : Step). above ++ y ∷ rest) is ∙ sym (append_assoc above (x ∷ []) rest))
    (fed_halts before now after limit above player fed shown rest (fault.Wrong at why) told).1
stands_next before now after limit above x shown player player' (Some (Done transactions)) is fed told = absurd told

stands_still : (before now : Shown) (limit : ℕ) (above : List Step) (x : Step) (player : Player) (verdict : Verdict) → Stands before now limit above player (Some verdict)
    → Stands before now limit (above ++ x ∷ []) player (Some verdict)
stands_still before now limit above x player verdict stands =
    λ rest. subst (λ (l : List Step). EndsSo (run_of before.setting before.chip limit) l verdict now.chip) (sym (append_assoc above (x ∷ []) rest)) (stands (x ∷ rest))

-- the end
ends_so : (before now : Shown) (limit : ℕ) (steps : List Step) (r : Result ℕ PlayFault) (verdict : Verdict) → Plays before now limit steps r → Ends r verdict
    → EndsSo (run_of before.setting before.chip limit) steps verdict now.chip
ends_so before now limit steps (Ok n) verdict plays is =
    subst (λ (v : Verdict). EndsSo (run_of before.setting before.chip limit) steps v now.chip) (sym is) (plays.ends, plays.counted)
ends_so before now limit steps (Err (fault.Wrong at why)) verdict plays is =
    subst (λ (v : Verdict). EndsSo (run_of before.setting before.chip limit) steps v now.chip) (sym is) plays.1
ends_so before now limit steps (Err (fault.PortFailed at)) verdict plays is = absurd is
ends_so before now limit steps (Err fault.Memory) verdict plays is = absurd is

module _ (before : Ahead) (b c : Reading) (above : List Step) (steps : ℕ) (step : Step) (has : HasRead (reading before []) b above) (number : steps ≡ length above)
    (over : Advances b c steps step (Ok false)) where
  pub all_played : (first now : Shown) (limit : ℕ) (player : Player) (verdict : Verdict) → IsFed first now limit above player → Ends (ending player now) verdict
      → HadText before c.ahead (PlaysText (run_of first.setting first.chip limit) verdict now.chip)
  all_played first now limit player verdict fed ends =
      let of = script_of before b c above steps step has number over in
      (of.0, of.1, (above, of.2, ends_so first now limit above (ending player now) verdict (fed_ends first now limit above player fed) ends))

  pub went_wrong : (first now : Shown) (limit : ℕ) (player : Player) (verdict : Verdict) → Stands first now limit above player (Some verdict)
      → HadText before c.ahead (PlaysText (run_of first.setting first.chip limit) verdict now.chip)
  went_wrong first now limit player verdict stands =
      let of = script_of before b c above steps step has number over in
      (of.0, of.1, (above, of.2, subst (λ (l : List Step). EndsSo (run_of first.setting first.chip limit) l verdict now.chip) (append-nil above) (stands [])))

-- by what the loop knows: it goes on, or the chip went wrong

pub fed_of : (before now : Shown) (limit : ℕ) (above : List Step) (player : Player) (wrong : Option Verdict) (b : Bool) → is_some wrong ≡ not b → b ≡ true
    → Stands before now limit above player wrong → IsFed before now limit above player
fed_of before now limit above player None b is none stands = stands
fed_of before now limit above player (Some verdict) b is none stands = let no : true ≡ false = is ∙ ap not none in cc

pub kept_of : (before now : Shown) (limit : ℕ) (above : List Step) (x : Step) (player : Player) (wrong : Option Verdict) (b : Bool) → is_some wrong ≡ not b → b ≡ false
    → Stands before now limit above player wrong → Stands before now limit (above ++ x ∷ []) player wrong
kept_of before now limit above x player None b is some stands = let no : false ≡ true = is ∙ ap not some in cc
kept_of before now limit above x player (Some verdict) b is some stands = stands_still before now limit above x player verdict stands
