-- The clocks of a planned instruction are those of what it is coded as.
use Rattle.std.proofs.Common.{◌≡◌, ℕ, List, ◌++◌, refl, sym, ◌∙◌, ap, subst}
use Rattle.std.specs.Prelude.{flat_map, replicate}
use Rattle.nor_base.specs.declared.instruction.What.{What}
use Rattle.nor_base.specs.declared.instruction.What.TheVariants as what
use Rattle.nor_base.specs.Instructions.{form_of}
use Rattle.nor_base.specs.Spelling.{Instr, Spells}
use Rattle.nor_base.specs.Clocks.{bits, head_bytes, body_clocks, clocks_of}
use Rattle.nor_laws.specs.Spelling.{HasSpelling}
use Rattle.nor_select.specs.Coded.{load_of, Coded, coded}
use Rattle.nor_frames.specs.Frames.{load_clocks, frame, SpellsCoded}

same_load : (is : What) (bytes : List ℕ) → load_clocks (load_of is bytes) ≡ body_clocks (form_of is) bytes
same_load what.Enable bytes = refl
same_load what.Disable bytes = refl
same_load what.Status bytes = refl
same_load what.Enter bytes = refl
same_load what.Leave bytes = refl
same_load (what.Erase kind) bytes = refl
same_load what.Program bytes = refl
same_load what.QuadProgram bytes = refl
same_load what.Read bytes = refl
same_load what.QuadRead bytes = refl
same_load what.Broken bytes = refl

same_frame : (i : Instr) → clocks_of i ≡ frame (coded i)
same_frame i = ap (λ load. flat_map bits (head_bytes i) ++ (replicate i.dummies 0x2D ++ load)) (sym (same_load i.what i.bytes))

pub spells_coded : HasSpelling → (c : Coded) → SpellsCoded c
spells_coded law c m mode4 i is row fits = subst (Spells m mode4 i) (same_frame i ∙ ap frame is) (law m mode4 i row fits)
