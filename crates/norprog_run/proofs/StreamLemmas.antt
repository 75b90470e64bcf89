-- What the reading of a script comes to.
use Rattle.std.proofs.Common.{◌≡◌, ◌<◌, ℕ, List, length, Option, Result, Ok, Err, refl, subst, arith}
use Rattle.std.specs.Prelude.{IfOk, IfErr}
use Rattle.std.specs.Io.KnownBytes.{Appends}
use Rattle.nor_base.specs.Chip.{Setting, Chip}
use Rattle.nor_base.specs.Device.{Ahead, Finite, Gives, one_more}
use Rattle.nor_base.proofs.DeviceLaws.{never_raised}
use Rattle.nor_job.specs.declared.fault.BuildFault.TheVariants as fault
use Rattle.nor_job.specs.Status.{start_of}
use Rattle.nor_job.specs.Task.{Task}
use Rattle.nor_script.specs.declared.fault.ReadFault.{ReadFault}
use Rattle.nor_script.specs.declared.fault.ReadFault.TheVariants as read
use Rattle.nor_script.specs.declared.fault.ScriptFault.TheVariants as script
use Rattle.nor_script.specs.Faults.{IsFault}
use Rattle.nor_script.specs.Laws.{ScriptsAreFaultless}
use Rattle.nor_script.specs.Stream.{HadText, IsSpelled, StopsReader}
use Rattle.norprog_common.specs.declared.faults.FileName.TheVariants as file
use Rattle.norprog_common.specs.declared.faults.Refusal.{Refusal}
use Rattle.norprog_common.specs.declared.faults.Refusal.TheVariants.{File, Build, Script}
use Rattle.norprog_common.specs.Content.{CountsReader, CountsWriter, StopsReading}
use Rattle.norprog_common.specs.Reading.{GivesSome}
use Rattle.norprog_run.specs.declared.kind.Kind.{Kind}
use Rattle.norprog_run.specs.declared.request.ChipBehaviour.{ChipBehaviour}
use Rattle.norprog_run.specs.declared.verdict.Verdict.{Verdict}
use Rattle.norprog_run.specs.Kind.{kind_setting}
use Rattle.nor_job.specs.Written.{passed, Passed}
use Rattle.norprog_run.specs.Play.{page_of, play_of, ready_run, setting_of, IsSized, Play, Run}
use Rattle.norprog_run.specs.Refusals.{RefusesPaged, RefusesPlay, IsEarly}
use Rattle.norprog_run.specs.Stream.{BadReading, Blames, CountsOne, IsPlayed, NoChip, NoMemory, PlaysText, Refused, RefusesScript, StopsText, Unplayed, of_script, refusal_of}

-- a text that has this has that
pub text_wider : (before after : Ahead) (P Q : List ℕ → Type 0) → ((text : List ℕ) → P text → Q text) → HadText before after P → HadText before after Q
text_wider before after P Q wider has = (has.0, has.1, wider has.0 has.2)

-- the chip of a kind is that of the inputs
kind_is : (t : Task) (bench : ChipBehaviour) (kind : Kind) → kind.start ≡ start_of t → kind.page ≡ page_of bench.page kind.meaning → kind_setting kind bench ≡ setting_of t bench kind.meaning
kind_is t bench kind start page = rw (start, page) refl

module _ (t : Task) (bench : ChipBehaviour) (kind : Kind) (len : ℕ) (sized : IsSized t bench.page len kind.meaning) (start : kind.start ≡ start_of t)
    (page : kind.page ≡ page_of bench.page kind.meaning) (script script' before after : Ahead) (held held' : Option (List ℕ)) where
  abbrev Why : Refusal → Type 0
  Why = Unplayed (play_of t bench len (passed before after held held')) script script'

  -- the reading found no script
  pub script_refused : (why : Refusal) → RefusesScript script script' why → Why why
  script_refused (Script why) p = Refused (Script why) (text_wider script script' _ _ (λ text is. ((kind.meaning, sized), is)) p)
  script_refused (File file.Script) p = BadReading (kind.meaning, sized) p
  script_refused (Build fault.Memory) p = NoMemory (kind.meaning, sized)
  script_refused other p = absurd p

  -- it did, and the content wasn't read
  pub content_refused : (why : Refusal) → HadText script script' IsSpelled → StopsReading len before after why → Why why
  content_refused (Build fault.ContentShort) looked p =
      Refused (Build fault.ContentShort)
      (text_wider script script' _ _ (λ text is. ((kind.meaning, is.steps, record { sized = sized; script = is.script }), p.0, p.1)) looked)
  content_refused (Build fault.Read) looked p =
      Refused (Build fault.Read) (text_wider script script' _ _ (λ text is. ((kind.meaning, is.steps, record { sized = sized; script = is.script }), p)) looked)
  content_refused (Build fault.Memory) looked p = NoMemory (kind.meaning, sized)
  content_refused other looked p = absurd p

  -- the content was read
  module _ (content : List ℕ) (whole : length content ≡ len) (given : Gives before content after) where
    pub play_refused : (why : Refusal) → StopsText (passed script script' held held') (ready_run (kind_setting kind bench) content bench.limit) why → Why why
    play_refused (Script why) p = script_refused (Script why) p
    play_refused (File file.Script) p = BadReading (kind.meaning, sized) p
    play_refused (Build fault.Memory) p = NoMemory (kind.meaning, sized)
    play_refused (Build fault.Write) p =
        let here = subst (λ (s : Setting). StopsText (passed script script' held held') (ready_run s content bench.limit) (Build fault.Write)) (kind_is t bench kind start page) p in
        Refused (Build fault.Write) (text_wider script script' _ _ (λ text is. record {
          m = kind.meaning;
          steps = is.0;
          may = record { sized = sized; script = is.1 };
          content = content;
          whole = whole;
          given = given;
          stops = is.2;
        }) here)
    play_refused other p = absurd p

    pub all_played : (verdict : Verdict) (chip : Chip)
        → HadText script script' (PlaysText (ready_run (kind_setting kind bench) content bench.limit) verdict chip) → Appends held held' chip.array
        → HadText script script' (IsPlayed (play_of t bench len (passed before after held held')) verdict)
    all_played verdict chip p put =
        let here = subst (λ (s : Setting). HadText script script' (PlaysText (ready_run s content bench.limit) verdict chip)) (kind_is t bench kind start page) p in
        text_wider script script' _ _ (λ text is. record {
          m = kind.meaning;
          steps = is.0;
          may = record { sized = sized; script = is.1 };
          content = content;
          whole = whole;
          given = given;
          chip = chip;
          ends = is.2;
          put = put;
        }) here

    -- the same of whichever came

    pub plays_all : (r : Result Verdict Refusal)
        → IfOk r (λ verdict. (chip : Chip)
        × HadText script script' (PlaysText (ready_run (kind_setting kind bench) content bench.limit) verdict chip)
        × Appends held held' chip.array)
        → IfOk r (λ verdict. HadText script script' (IsPlayed (play_of t bench len (passed before after held held')) verdict))
    plays_all (Ok verdict) p = all_played verdict p.0 p.1 p.2
    plays_all (Err why) p = tt

    pub refuses_all : (r : Result Verdict Refusal)
        → IfErr r (StopsText (passed script script' held held') (ready_run (kind_setting kind bench) content bench.limit)) → IfErr r Why
    refuses_all (Ok verdict) p = tt
    refuses_all (Err why) p = play_refused why p

-- which reader, or that the writer, has failed

pub paged_blames : (A B C : Type 0) (t : Task) (page : Option ℕ) (len : ℕ) (why : Refusal) → RefusesPaged t page len why → Blames A B C why
paged_blames A B C t page len (File file.Script) p = absurd p
paged_blames A B C t page len (Build fault.Read) p = absurd p
paged_blames A B C t page len (Build fault.Write) p = absurd p
paged_blames A B C t page len other p = tt

pub script_blames : (B C : Type 0) (n n' : ℕ) (before after : Ahead) (why : Refusal) → RefusesScript before after why → CountsOne {T = Unit {0}} n n' (Err why)
    → Blames (n' ≡ one_more n) B C why
script_blames B C n n' before after (File file.Script) p counts = counts
script_blames B C n n' before after (Build fault.Read) p counts = absurd p
script_blames B C n n' before after (Build fault.Write) p counts = absurd p
script_blames B C n n' before after other p counts = tt

pub content_blames : (A C : Type 0) (n n' len : ℕ) (before after : Ahead) (why : Refusal) → StopsReading len before after why → CountsReader {T = Unit {0}} n n' (Err why)
    → Blames A (n' ≡ one_more n) C why
content_blames A C n n' len before after (File file.Script) p counts = absurd p
content_blames A C n n' len before after (Build fault.Read) p counts = counts
content_blames A C n n' len before after (Build fault.Write) p counts = absurd p
content_blames A C n n' len before after other p counts = tt

play_blames : (B : Type 0) (n n' k k' : ℕ) (by : Passed) (run : Run) (why : Refusal) → StopsText by run why → CountsOne {T = Verdict} n n' (Err why) → CountsWriter {T = Verdict} k k' (Err why) → Blames (n' ≡ one_more n) B (k' ≡ one_more k) why
play_blames B n n' k k' by run (File file.Script) p reads writes = reads
play_blames B n n' k k' by run (Build fault.Read) p reads writes = absurd p
play_blames B n n' k k' by run (Build fault.Write) p reads writes = writes
play_blames B n n' k k' by run other p reads writes = tt

pub all_blames : (B : Type 0) (n n' k k' : ℕ) (by : Passed) (run : Run) (r : Result Verdict Refusal) → IfErr r (StopsText by run) → CountsOne n n' r → CountsWriter k k' r → IfErr r (Blames (n' ≡ one_more n) B (k' ≡ one_more k))
all_blames B n n' k k' by run (Ok verdict) p reads writes = tt
all_blames B n n' k k' by run (Err why) p reads writes = play_blames B n n' k k' by run why p reads writes

-- of a text in memory, which can be read without a failure

pub text_told : (script script' : Ahead) (text : List ℕ) (P : List ℕ → Type 0) → script ≡ Finite text → HadText script script' P → P text
text_told script script' text P is has =
    let told = subst (λ (a : Ahead). HadText a script' P) is has in subst P told.1 told.2

pub kind_refused : (p : Play) (text : List ℕ) (why : Refusal) → RefusesPaged p.chip p.bench.page p.len why
    → RefusesPlay p text why
kind_refused p text (Script why) paged = absurd paged
kind_refused p text (Build fault.ContentShort) paged = absurd paged
kind_refused p text (Build fault.Read) paged = absurd paged
kind_refused p text (Build fault.Write) paged = absurd paged
kind_refused p text (Build fault.Memory) paged = absurd paged
kind_refused p text other paged = paged

pub text_refused : (p : Play) (text : List ℕ) (script script' : Ahead) {why : Refusal} → script ≡ Finite text → of_script why ≡ 0 → Unplayed p script script' why
    → RefusesPlay p text why
text_refused p text script script' is works (NoChip why refuses same unread) = kind_refused p text why refuses
text_refused p text script script' is works (Refused why had) =
    text_told script script' text (λ text. RefusesPlay p text why) is had
text_refused p text script script' is works (BadReading sized gave) = absurd (omega (arith, works))
text_refused p text script script' is works (NoMemory sized) = sized

pub text_refuses : (p : Play) (text : List ℕ) (script script' : Ahead) (r : Result Verdict Refusal) → script ≡ Finite text → CountsOne 0 0 r
    → IfErr r (Unplayed p script script') → IfErr r (RefusesPlay p text)
text_refuses p text script script' (Ok verdict) is works refused = tt
text_refuses p text script script' (Err why) is works refused = text_refused p text script script' is (never_raised (of_script why) works) refused

pub text_plays : (p : Play) (text : List ℕ) (script script' : Ahead) (r : Result Verdict Refusal) → script ≡ Finite text
    → IfOk r (λ verdict. HadText script script' (IsPlayed p verdict)) → IfOk r (λ verdict. IsPlayed p verdict text)
text_plays p text script script' (Ok verdict) is had = text_told script script' text (IsPlayed p verdict) is had
text_plays p text script script' (Err why) is had = tt

-- a refusal of the content is none of the script, and not early

pub content_works : (len : ℕ) (before after : Ahead) (why : Refusal) → StopsReading len before after why → of_script why ≡ 0
content_works len before after (File file.Script) p = absurd p
content_works len before after other p = refl

pub content_late : (A : Type 0) (len : ℕ) (before after : Ahead) (why : Refusal) → StopsReading len before after why → IsEarly why → A
content_late A len before after (Build fault.ContentShort) p early = absurd early
content_late A len before after (Build fault.Read) p early = absurd early
content_late A len before after (Build fault.Memory) p early = absurd early
content_late A len before after other p early = absurd p

-- after the content no fault of the text is found that wasn't before
module _ (text : List ℕ) (script script' : Ahead) (is : script ≡ Finite text) (spelled : IsSpelled text) (faultless : ScriptsAreFaultless) (run : Run)
    (held held' : Option (List ℕ)) where
  late : (why : Refusal) → StopsText (passed script script' held held') run why → CountsOne {T = Verdict} 0 0 (Err why) → IsEarly why → ⊥
  late (Script why) p works early = faultless text spelled.steps why spelled.script (text_told script script' text (λ text. IsFault text why) is p)
  late (File file.Script) p works early = let none = never_raised 1 works in omega (arith, none)
  late (Build fault.Write) p works early = early
  late (Build fault.Memory) p works early = early
  late other p works early = p

  pub text_unread : (A : Type 0) (r : Result Verdict Refusal) → IfErr r (StopsText (passed script script' held held') run) → CountsOne 0 0 r → IfErr r (λ why. IsEarly why → A)
  text_unread A (Ok verdict) p works = tt
  text_unread A (Err why) p works = λ early. absurd (late why p works early)

-- the fault of a reading is told of the text
pub script_told : (before after : Ahead) (fault : ReadFault) → StopsReader before after fault → GivesSome before after → RefusesScript before after (refusal_of fault)
script_told before after (read.Script script.Memory) p gave = tt
script_told before after (read.Script (script.Header line)) p gave = p
script_told before after (read.Script (script.BadLine line)) p gave = p
script_told before after (read.Script (script.BadSymbol line)) p gave = p
script_told before after (read.Script (script.BadCount line)) p gave = p
script_told before after (read.Script (script.NoEnd line)) p gave = p
script_told before after (read.Script (script.AfterEnd line)) p gave = p
script_told before after (read.Device failed) p gave = gave

pub fault_told : (by : Passed) (run : Run) (fault : ReadFault) → StopsReader by.ahead by.rest fault → GivesSome by.ahead by.rest → StopsText by run (refusal_of fault)
fault_told by run (read.Script script.Memory) p gave = tt
fault_told by run (read.Script (script.Header line)) p gave = p
fault_told by run (read.Script (script.BadLine line)) p gave = p
fault_told by run (read.Script (script.BadSymbol line)) p gave = p
fault_told by run (read.Script (script.BadCount line)) p gave = p
fault_told by run (read.Script (script.NoEnd line)) p gave = p
fault_told by run (read.Script (script.AfterEnd line)) p gave = p
fault_told by run (read.Device failed) p gave = gave
