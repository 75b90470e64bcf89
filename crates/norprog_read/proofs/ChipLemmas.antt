-- What came so far of a chip that is asked.
use Rattle.std.proofs.Common.{◌≡◌, ◌∙◌, ℕ, Bool, List, Ok, ap}
use Rattle.nor_base.specs.declared.meaning.Start.{Start}
use Rattle.nor_base.specs.Chip.{begins4}
use Rattle.nor_base.specs.Parameters.{Parameters}
use Rattle.nor_job.specs.Chip.{HasChip}
use Rattle.nor_reader.specs.declared.by.ReadBy.{ReadBy}
use Rattle.nor_base.specs.Wire.{Wire}
use Rattle.norprog_read.specs.declared.asked.Ask.{Ask}
use Rattle.norprog_read.specs.declared.asked.Span.{Span}
use Rattle.norprog_read.specs.declared.mode.Modes.{Modes}
use Rattle.norprog_read.specs.Asked.{AsksId, AsksStatus, IsDriven, IsExpected}
use Rattle.norprog_read.specs.Chip.{chip_task, ops_by, past_end, start_by, way_by, AreAlike, GivesContent, GivesTables}
use Rattle.norprog_read.specs.End.{past, SeesEnd}
use Rattle.norprog_read.specs.Modes.{is_sure, mode_ops, modes_of, MakesMode}
use Rattle.norprog_read.specs.Size.{asked_register, IsUnmoved}
use Rattle.norprog_read.specs.Stops.{IsEnded, IsHeld, IsIdentified, IsKnown, IsMade, IsReady}
use Rattle.norprog_read.specs.Span.{IsPart}
use Rattle.norprog_read.specs.Way.{past_by, way}

abbrev pub identified : {u w : Wire} {ask : Ask} (v : Wire) (status : ℕ) (id : List ℕ) → AsksStatus u v ask (Ok status) → AsksId v w (Ok id)
    → IsDriven id → IsExpected ask.expect_id id → IsIdentified u w ask
identified v status id idle read driven expected =
    record { status = status; id = id; asked = v; idle = idle; read = read; driven = driven; expected = expected }

abbrev pub known : {most : ℕ} {u w : Wire} {ask : Ask} (v : Wire) → IsIdentified u v ask → {chip : List ℕ} → GivesTables most v w ask.known chip
    → AreAlike ask.known chip → IsKnown most u w ask
known v said {chip} read alike = record { chip = chip; between = v; identified = said; read = read; alike = alike }

abbrev pub made : {most : ℕ} {u w : Wire} {ask : Ask} (v : Wire) (known : IsKnown most u v ask) {m : Parameters} {next : ℕ}
    → HasChip (chip_task ask known.chip) m → MakesMode v w ask (ops_by ask known.chip m) known.identified.status next → IsMade most u w ask
made v is {m} {next} means mode = record { m = m; next = next; between = v; known = is; means = means; mode = mode }

abbrev pub ready : {most : ℕ} {u w : Wire} {ask : Ask} (v : Wire) (made : IsMade most u v ask)
    → IsUnmoved v w (asked_register ask.content made.known.chip) → IsReady most u w ask
ready v is unmoved = record { between = v; made = is; unmoved = unmoved }

abbrev pub held : {most : ℕ} {u w : Wire} {ask : Ask} (v : Wire) (ready : IsReady most u v ask) {part : Span} (content : List ℕ)
    → IsPart ask ready.made.m part → GivesContent (way_by most ask ready.made.known.chip ready.made.m part) v w ask.content content
    → IsHeld most u w ask
held v is {part} content asked read = record { part = part; content = content; between = v; ready = is; asked_for = asked; read = read }

abbrev pub ended : {most : ℕ} {u w : Wire} {ask : Ask} (v : Wire) (all : IsHeld most u v ask)
    → SeesEnd v w (past_end most ask all.ready.made.m all.content) ask all.part → IsEnded most u w ask
ended v all end = record { between = v; all = all; end = end }

-- the mode that was said and what is known of the modes are those of the tables that came
pub ops_are : (ask : Ask) (m : Parameters) {start : Start} {bytes chip : List ℕ} {said : Bool} {modes : Modes} → said ≡ begins4 m start
    → start ≡ start_by ask → modes ≡ modes_of ask.known bytes m → bytes ≡ chip → mode_ops ask.content said modes ≡ ops_by ask chip m
ops_are ask m {said = said} {modes = modes} is begins are same =
    ap (λ (b : Bool). mode_ops ask.content b modes) (is ∙ ap (λ (s : Start). begins4 m s) begins)
    ∙ ap (λ (x : Modes). mode_ops ask.content (begins4 m (start_by ask)) x) (are ∙ ap (λ (xs : List ℕ). modes_of ask.known xs m) same)

-- and so is how the content is read
pub way_is : (most : ℕ) (ask : Ask) (m : Parameters) {part : Span} {start : Start} {bytes chip : List ℕ} {said sure : Bool} {modes : Modes} → said ≡ begins4 m start
    → start ≡ start_by ask → modes ≡ modes_of ask.known bytes m → bytes ≡ chip → sure ≡ is_sure ask said modes
    → way most m start sure part ≡ way_by most ask chip m part
way_is most ask m {part = part} {said = said} {sure = sure} {modes = modes} is begins are same certain =
    ap (λ (s : Start). way most m s sure part) begins
    ∙ ap (λ (b : Bool). way most m (start_by ask) b part)
    (certain ∙ (ap (λ (b : Bool). is_sure ask b modes) (is ∙ ap (λ (s : Start). begins4 m s) begins)
    ∙ ap (λ (x : Modes). is_sure ask (begins4 m (start_by ask)) x) (are ∙ ap (λ (xs : List ℕ). modes_of ask.known xs m) same)))

-- and how it is read past its end
pub end_is : (most : ℕ) (ask : Ask) (m : Parameters) {start : Start} {by : ReadBy} {content items : List ℕ} → start ≡ start_by ask → by ≡ past_by m start
    → content ≡ items → past most by content ≡ past_end most ask m items
end_is most ask m {content = content} begins is same =
    ap (λ (x : ReadBy). past most x content) (is ∙ ap (λ (s : Start). past_by m s) begins) ∙ ap (λ (xs : List ℕ). past_end most ask m xs) same
