-- What the parts of the reader of lines do, put together.
use Rattle.std.proofs.Common.{◌≡◌, ℕ, ◌+◌, ◌<◌, ◌≤◌, inl, inr, Bool, true, false, if◌then◌else◌, List, [], ◌∷◌, ◌++◌, length, take, drop, Some, Result, Ok, Err, refl, sym, ◌∙◌, ap, subst, arith, append-nil, length-append}
use Rattle.std.specs.Prelude.{IsErrAnd, slice_range}
use Rattle.std.proofs.Math.Seq.{drop-append_seam}
use Rattle.std.specs.List.{list_any}
use Rattle.std.proofs.lemmas.List.{take-append-le, take_all}
use Rattle.nor_base.specs.declared.step.Step.{Step}
use Rattle.nor_base.specs.Device.{Ahead, Unknown, Finite, Endless}
use Rattle.nor_base.specs.Script.{closed, header, end_line, step_line}
use Rattle.nor_script.specs.declared.fault.ScriptFault.{ScriptFault}
use Rattle.nor_script.specs.declared.fault.ScriptFault.TheVariants.{Header, BadLine, BadSymbol, BadCount, NoEnd, AfterEnd, Memory}
use Rattle.nor_script.specs.declared.fault.ReadFault.{ReadFault}
use Rattle.nor_script.specs.declared.fault.ReadFault.TheVariants.{Script, Device}
use Rattle.nor_script.specs.Line.{is_end, step_fault, count_fault}
use Rattle.nor_base.specs.Step.{IsStep}
use Rattle.nor_script.specs.declared.line.Kind.{Kind}
use Rattle.nor_script.specs.LineParts.{step_by}
use Rattle.nor_script.specs.Parts.{or_fault, TellsFault}
use Rattle.nor_script.specs.Faults.{is_line_feed, BeginsWith, Refuses}
use Rattle.nor_script.specs.Stream.{Reading, reading, Reads, HasBadLineNext, LacksHeader, IsNextFault, IsFirstFault, IsOutside, Advances, HasRead, Begins, OfText, IsScriptOf, TellsScript}
use Rattle.nor_script.specs.Lines.{Lines, IsFirstLine, FindsLine, Comes, Pulls, ReadsHeader, SkipsHeader, GoesPast, ReadsEnd, ReadsStep}
use Rattle.nor_script.proofs.ReadLemmas.{end_is, IsOfLine, step_told, count_told, none_left, fault_left}
use Rattle.nor_script.proofs.StreamLaws.{reads_then, reads_held, read_of, has_all, refused_at, no_header}

-- a fault that is handed on
pub pull_failed : (a b : Reading) (r : Result ℕ ReadFault) (fault : ReadFault) → IsErrAnd r (λ e. e ≡ fault) → Reads a b [] → IsOutside fault → Pulls a b r
pull_failed a b (Ok n) fault is p out = absurd is
pull_failed a b (Err e) fault is p out = (p, subst IsOutside (sym is) out)

pub find_failed : (a b : Reading) (lines : Lines) (r : Result Bool ReadFault) (fault : ReadFault) → IsErrAnd r (λ e. e ≡ fault) → Reads a b [] → IsOutside fault
    → FindsLine a b lines r
find_failed a b lines (Ok n) fault is p out = absurd is
find_failed a b lines (Err e) fault is p out = (p, subst IsOutside (sym is) out)

pub header_failed : (a b : Reading) (r : Result Bool ReadFault) (fault : ReadFault) → IsErrAnd r (λ e. e ≡ fault) → Reads a b [] → IsOutside fault → ReadsHeader a b r
header_failed a b (Ok n) fault is p out = absurd is
header_failed a b (Err e) fault is p out = (p, subst IsOutside (sym is) out)

-- where nothing changed
pub stays : (ahead : Ahead) (a : Reading) (before after : Lines) → after ≡ before → Reads a (reading ahead before.held) [] → Reads a (reading ahead after.held) []
stays ahead a before after same p = subst (λ (l : Lines). Reads a (reading ahead l.held) []) (sym same) p

-- what came is held
pub comes_reads : (a b : Reading) (n : ℕ) → Comes a b n → Reads a b []
comes_reads a b n p = record { pulled = p.pulled; given = p.given; whole = sym p.whole }

pub comes_more : (a b : Reading) (n : ℕ) → Comes a b n → length b.held ≡ length a.held + n
comes_more a b n p = omega (arith, ap length p.whole, length-append a.held p.pulled, p.number)

nothing : (xs : List ℕ) → length xs ≡ 0 → xs ≡ []
nothing [] h = refl
nothing (x ∷ xs) h = cc

-- the bytes searched are held still
pub searched : (a b : Reading) (n : ℕ) (seen : List ℕ) → seen ≡ a.held → list_any is_line_feed a.held ≡ false → Comes a b n
    → (length seen ≤ length b.held) × (list_any is_line_feed (take (length seen) b.held) ≡ false)
searched a b n seen is none p =
    let size : length seen ≡ length a.held = ap length is in (
      omega (arith, size, comes_more a b n p),
      ap (λ k. list_any is_line_feed (take k b.held)) size ∙ ap (λ l. list_any is_line_feed (take (length a.held) l)) p.whole
          ∙ ap (list_any is_line_feed) (take-append-le (length a.held) a.held p.pulled (omega arith) ∙ take_all (length a.held) a.held (omega arith)) ∙ none,
    )

-- something stands behind the first line
pub goes_past : (now : Reading) (line rest : List ℕ) → BeginsWith now.held line rest → length line + 1 < length now.held → GoesPast now line
goes_past now line [] first more =
    absurd (omega (arith, more, ap length first.whole, length-append (closed line) [], length-append line (10 ∷ [])))
goes_past now line (byte ∷ rest) first more = record { byte = byte; more = rest; whole = first.whole }

first_only : (xs line rest : List ℕ) → BeginsWith xs line rest → length xs ≤ length line + 1 → xs ≡ closed line
first_only xs line [] first fits = first.whole ∙ append-nil (closed line)
first_only xs line (byte ∷ rest) first fits =
    absurd (omega (arith, fits, ap length first.whole, length-append (closed line) (byte ∷ rest), length-append line (10 ∷ [])))

pub something_behind : (a b : Reading) (n : ℕ) (line rest : List ℕ) → BeginsWith a.held line rest → length a.held ≤ length line + 1 → Comes a b n → 0 < n
    → Reads a b [] × GoesPast b line
something_behind a b n line rest first fits p some =
    (comes_reads a b n p, by p.pulled (p.whole ∙ ap (λ l. l ++ p.pulled) (first_only a.held line rest first fits)) (omega (arith, some, p.number)))
  where
    by : (pulled : List ℕ) → b.held ≡ closed line ++ pulled → 0 < length pulled → GoesPast b line
    by [] is more = absurd (omega (arith, more))
    by (byte ∷ more) is some = record { byte = byte; more = more; whole = is }

-- the header
pub header_short : (a b : Reading) (n : ℕ) → length a.held < 12 → Comes a b n → n ≡ 0 → LacksHeader b
unfolding header
header_short a b n short p none = record {
  none = λ rest is. absurd (omega (arith, short, none, comes_more a b n p, ap length is, length-append header rest));
  enough = inr (p.over none);
}

pub header_told : (ahead : Ahead) (a : Reading) (before after : List ℕ) (b : Bool) → Reads a (reading ahead before) [] → 12 ≤ length before
    → SkipsHeader before after b → ReadsHeader a (reading ahead after) (Ok b)
unfolding header
header_told ahead a before after true p enough skips = reads_then a (reading ahead before) (reading ahead after) [] header p (reads_held ahead before after header skips)
header_told ahead a before after false p enough skips = (
  subst (λ l. Reads a (reading ahead l) []) (sym skips.0) p,
  record {
    none = λ rest is. skips.1 rest (sym skips.0 ∙ is);
    enough = inl (omega (arith, enough, ap length skips.0));
  },
)

-- an end line that is right
pub right_end : (line : List ℕ) (steps : ℕ) → is_end line ≡ true → or_fault (count_fault steps (drop 4 line)) ≡ Ok tt → closed line ≡ end_line steps
right_end line steps ends counted = end_is line steps ends (none_left _ counted)

pub end_advances : (a b c : Reading) (line : List ℕ) (steps : ℕ) (step : Step) (r : Result Bool ReadFault) → Reads a b [] → closed line ≡ end_line steps
    → ReadsEnd b c line steps r → Advances a c steps step r
end_advances a b c line steps step (Ok true) p is q = let no : true ≡ false = q.0 in cc
end_advances a b c line steps step (Ok false) p is q = (reads_then a b c [] (end_line steps) p (subst (Reads b c) is q.1), q.2)
end_advances a b c line steps step (Err (Device failed)) p is q = reads_then a b c [] [] p q
end_advances a b c line steps step (Err (Script Memory)) p is q = (reads_then a b c [] [] p q, tt)
end_advances a b c line steps step (Err (Script (AfterEnd n))) p is q =
    let past = q.1 in
    let number : n ≡ steps + 3 = cc in
    (reads_then a b c [] [] p q.0, (record { byte = past.byte; more = past.more; whole = past.whole ∙ ap (λ l. l ++ past.byte ∷ past.more) is }, number))
end_advances a b c line steps step (Err (Script (Header n))) p is q = let no = q.2 in cc
end_advances a b c line steps step (Err (Script (BadLine n))) p is q = let no = q.2 in cc
end_advances a b c line steps step (Err (Script (BadSymbol n))) p is q = let no = q.2 in cc
end_advances a b c line steps step (Err (Script (BadCount n))) p is q = let no = q.2 in cc
end_advances a b c line steps step (Err (Script (NoEnd n))) p is q = let no = q.2 in cc

-- a line of no step
next_by : (now : Reading) (steps n : ℕ) (fault : ScriptFault) → IsOfLine n fault → HasBadLineNext now steps fault → IsNextFault now steps fault
next_by now steps n (BadLine k) of bad = bad
next_by now steps n (BadSymbol k) of bad = bad
next_by now steps n (BadCount k) of bad = bad
next_by now steps n (Header k) of bad = absurd of
next_by now steps n (NoEnd k) of bad = absurd of
next_by now steps n (AfterEnd k) of bad = absurd of
next_by now steps n Memory of bad = absurd of

pub step_bad : (now : Reading) (steps : ℕ) (line rest : List ℕ) (fault : ScriptFault) → BeginsWith now.held line rest → is_end line ≡ false
    → step_fault (steps + 2) line ≡ Some fault → IsNextFault now steps fault
step_bad now steps line rest fault first ends there = next_by now steps (steps + 2) fault (step_told (steps + 2) line fault there) (record {
  line = line;
  more = rest;
  first = first;
  here = ap (λ b. if b then count_fault steps (drop 4 line) else step_fault (steps + 2) line) ends ∙ there;
})

pub step_stops : (now : Reading) (steps : ℕ) (line rest : List ℕ) (fault : ScriptFault) → BeginsWith now.held line rest → is_end line ≡ false
    → TellsFault (step_fault (steps + 2) line) fault → IsNextFault now steps fault
step_stops now steps line rest Memory first ends told = tt
step_stops now steps line rest (BadLine n) first ends told = step_bad now steps line rest (BadLine n) first ends told
step_stops now steps line rest (BadSymbol n) first ends told = step_bad now steps line rest (BadSymbol n) first ends told
step_stops now steps line rest (BadCount n) first ends told = step_bad now steps line rest (BadCount n) first ends told
step_stops now steps line rest (Header n) first ends told = step_bad now steps line rest (Header n) first ends told
step_stops now steps line rest (NoEnd n) first ends told = step_bad now steps line rest (NoEnd n) first ends told
step_stops now steps line rest (AfterEnd n) first ends told = step_bad now steps line rest (AfterEnd n) first ends told

-- an end line that isn't
pub count_bad : (now : Reading) (steps : ℕ) (line rest : List ℕ) (fault : ScriptFault) → BeginsWith now.held line rest → is_end line ≡ true
    → or_fault (count_fault steps (drop 4 line)) ≡ Err fault → IsNextFault now steps fault
count_bad now steps line rest fault first ends told =
    let there : count_fault steps (drop 4 line) ≡ Some fault = fault_left _ fault told in
    next_by now steps (steps + 2) fault (count_told steps line fault told) (record {
      line = line;
      more = rest;
      first = first;
      here = ap (λ b. if b then count_fault steps (drop 4 line) else step_fault (steps + 2) line) ends ∙ there;
    })

-- no line, for no fault of the text
pub advance_failed : (a b : Reading) (steps : ℕ) (step : Step) (r : Result Bool ReadFault) (fault : ReadFault) → IsErrAnd r (λ e. e ≡ fault) → Reads a b []
    → IsOutside fault → Advances a b steps step r
advance_failed a b steps step (Ok x) fault is p out = absurd is
advance_failed a b steps step (Err (Device failed)) fault is p out = p
advance_failed a b steps step (Err (Script why)) fault is p out =
    let memory : why ≡ Memory = subst IsOutside (sym is) out in
    (p, subst (IsNextFault b steps) (sym memory) tt)

-- the line of a step was read
pub step_reads : (a : Reading) (ahead : Ahead) (before after : Lines) (kind : Kind) (upto : ℕ) (expect : List ℕ) → Reads a (reading ahead before.held) []
    → IsFirstLine before → ReadsStep before after kind upto expect
    → Reads a (reading ahead after.held) (closed (step_line (step_by kind (slice_range after.line 2 upto) expect))) × IsStep (step_by kind (slice_range after.line 2 upto) expect)
step_reads a ahead before after kind upto expect p first q =
    let step = step_by kind (slice_range before.line 2 upto) expect in
    let size : length before.line + 1 ≡ length (closed before.line) = sym (length-append before.line (10 ∷ [])) in
    let rest : after.held ≡ first.rest = q.held ∙ ap (λ n. drop n before.held) size ∙ ap (drop (length (closed before.line))) first.first.whole ∙ drop-append_seam (closed before.line) first.rest in
    let whole : before.held ≡ closed (step_line step) ++ after.held =
    first.first.whole ∙ ap (λ l. l ++ first.rest) (ap closed q.spells.spelled) ∙ ap (λ l. closed (step_line step) ++ l) (sym rest) in
    subst (λ l. Reads a (reading ahead after.held) (closed (step_line (step_by kind (slice_range l 2 upto) expect))) × IsStep (step_by kind (slice_range l 2 upto) expect)) (sym q.same)
    (reads_then a (reading ahead before.held) (reading ahead after.held) [] (closed (step_line step)) p (reads_held ahead before.held after.held (closed (step_line step)) whole), q.spells.is_one)

pub advance_refused : (a b : Reading) (steps : ℕ) (step : Step) (r : Result Bool ReadFault) (fault : ScriptFault) → IsErrAnd r (λ e. e ≡ Script fault) → Reads a b []
    → IsNextFault b steps fault → Advances a b steps step r
advance_refused a b steps step (Ok x) fault is p q = absurd is
advance_refused a b steps step (Err e) fault is p q = subst (λ (f : ReadFault). Advances a b steps step (Err f)) (sym is) (p, q)

-- what is told of the whole text
pub tell_failed : (before after : Ahead) (r : Result ℕ ReadFault) (fault : ReadFault) → IsErrAnd r (λ e. e ≡ fault) → TellsScript before after (Err fault)
    → TellsScript before after r
tell_failed before after (Ok n) fault is p = absurd is
tell_failed before after (Err e) fault is p = subst (λ (f : ReadFault). TellsScript before after (Err f)) (sym is) p

first_refused : (text : List ℕ) (now : Reading) (fault : ScriptFault) → Reads (reading (Finite text) []) now [] → IsFirstFault now (Script fault) → Refuses text fault
first_refused text now (Header n) p q =
    let of = read_of text now [] p in
    (q.0, λ rest is. no_header text now of.0 of.1 of.2 q.1 rest is)
first_refused text now (BadLine n) p q = absurd q
first_refused text now (BadSymbol n) p q = absurd q
first_refused text now (BadCount n) p q = absurd q
first_refused text now (NoEnd n) p q = absurd q
first_refused text now (AfterEnd n) p q = absurd q
first_refused text now Memory p q = tt

pub begin_told : (before after : Ahead) (fault : ReadFault) → Begins before after (Err fault) → TellsScript before after (Err fault)
begin_told before after (Device failed) p = tt
begin_told Unknown after (Script fault) p = tt
begin_told (Endless f) after (Script fault) p = tt
begin_told (Finite text) after (Script fault) p = first_refused text (reading after p.0) fault p.1 p.2

pub advance_told : (before : Ahead) (b c : Reading) (above : List Step) (steps : ℕ) (step : Step) (fault : ReadFault) → HasRead (reading before []) b above
    → steps ≡ length above → Advances b c steps step (Err fault) → TellsScript before c.ahead (Err fault)
advance_told before b c above steps step (Device failed) p number q = tt
advance_told Unknown b c above steps step (Script fault) p number q = tt
advance_told (Endless f) b c above steps step (Script fault) p number q = tt
advance_told (Finite text) b c above steps step (Script fault) p number q =
    (refused_at text b c above fault p q.0 (subst (λ n. IsNextFault c n fault) number q.1)).0

pub all_told : (before : Ahead) (b c : Reading) (above : List Step) (steps n : ℕ) (step : Step) → HasRead (reading before []) b above
    → steps ≡ length above → n ≡ steps → Advances b c steps step (Ok false) → TellsScript before c.ahead (Ok n)
all_told before b c above steps n step p number told q = (by before p, q.1.over)
  where
    by : (before : Ahead) → HasRead (reading before []) b above → OfText before (λ text. IsScriptOf text n)
    by Unknown p = tt
    by (Endless f) p = tt
    by (Finite text) p = record {
      steps = above;
      is_script = has_all text b c above p (subst (λ k. Reads b c (end_line k)) number q.0) q.1;
      count = sym (told ∙ number);
    }

pub found : (a b : Reading) (lines : Lines) (there : Bool) → there ≡ true → FindsLine a b lines (Ok there) → Reads a b [] × IsFirstLine lines
found a b lines true is p = p
found a b lines false is p = cc
