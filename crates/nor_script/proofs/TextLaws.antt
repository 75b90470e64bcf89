-- The text of a script that came out of a device.
use Rattle.std.proofs.Common.{◌≡◌, ℕ, inl, inr, List, [], ◌∷◌, ◌++◌, length, Ok, Err, refl, sym, ◌∙◌, ap, subst, append_assoc, append-nil, false}
use Rattle.nor_base.specs.declared.step.Step.{Step}
use Rattle.nor_base.specs.Device.{Ahead, Unknown, Finite, Endless, Gives, IsAtEnd}
use Rattle.nor_base.specs.Script.{header, closed, step_line, end_line, step_lines, script_text, IsScript}
use Rattle.nor_base.specs.Step.{IsStep}
use Rattle.nor_script.specs.declared.fault.ScriptFault.{ScriptFault}
use Rattle.nor_script.specs.declared.fault.ScriptFault.TheVariants.{Header, BadLine, BadSymbol, BadCount, NoEnd, AfterEnd, Memory}
use Rattle.nor_script.specs.declared.fault.ReadFault.{ReadFault}
use Rattle.nor_script.specs.declared.fault.ReadFault.TheVariants as read
use Rattle.nor_script.specs.Faults.{Refuses, BeginsRight}
use Rattle.nor_script.specs.Stream.{Reading, reading, Reads, LacksHeader, IsNextFault, IsFirstFault, HasRead, Advances, Begins, IsTextOf, HadText, StopsReader}
use Rattle.nor_script.proofs.StreamLaws.{RefusesAt, reads_none, reads_then, has_still, has_more, read_of, right_of, refused_at, no_header}

-- a text that a device had ahead of which these bytes were read, and what of it is left there
record TextAt (before : Ahead) (now : Reading) (bytes : List ℕ) : Type 0 where
  text : List ℕ
  left : List ℕ
  is : IsTextOf before now.ahead text
  front : Reads (reading (Finite text) []) (reading (Finite left) now.held) bytes
  over : IsAtEnd now.ahead → left ≡ []

text_at : (before : Ahead) (now : Reading) (bytes : List ℕ) → Reads (reading before []) now bytes → TextAt before now bytes
text_at Unknown now bytes p = record {
  text = p.pulled;
  left = [];
  is = tt;
  front = record { pulled = p.pulled; given = sym (append-nil p.pulled); whole = p.whole };
  over = λ end. refl;
}
text_at (Endless f) now bytes p = record {
  text = p.pulled;
  left = [];
  is = p.given;
  front = record { pulled = p.pulled; given = sym (append-nil p.pulled); whole = p.whole };
  over = λ end. refl;
}
text_at (Finite text) now bytes p =
    let of = read_of text now bytes p in
    record {
      text = text;
      left = of.0;
      is = refl;
      front = record { pulled = p.pulled; given = subst (λ (a : Ahead). Gives (Finite text) p.pulled a) of.1 p.given; whole = p.whole };
      over = λ end. subst IsAtEnd of.1 end;
    }

-- a fault of what is left, whatever device it is left in
next_moved : (now : Reading) (steps : ℕ) (left : List ℕ) (fault : ScriptFault) → (IsAtEnd now.ahead → left ≡ []) → IsNextFault now steps fault
    → IsNextFault (reading (Finite left) now.held) steps fault
next_moved now steps left (Header n) over q = absurd q
next_moved now steps left (BadLine n) over q = record { line = q.line; more = q.more; first = q.first; here = q.here }
next_moved now steps left (BadSymbol n) over q = record { line = q.line; more = q.more; first = q.first; here = q.here }
next_moved now steps left (BadCount n) over q = record { line = q.line; more = q.more; first = q.first; here = q.here }
next_moved now steps left (NoEnd n) over q = (record { unclosed = q.0.unclosed; over = over q.0.over }, q.1)
next_moved now steps left (AfterEnd n) over q = (record { byte = q.0.byte; more = q.0.more; whole = q.0.whole }, q.1)
next_moved now steps left Memory over q = tt

-- the text has that fault first, and the steps read stand above it
pub refused_text : (before : Ahead) (b c : Reading) (above : List Step) (steps : ℕ) (step : Step) (fault : ScriptFault) → HasRead (reading before []) b above
    → steps ≡ length above → Advances b c steps step (Err (read.Script fault))
    → HadText before c.ahead (λ text. RefusesAt text above fault × BeginsRight text above)
refused_text before b c above steps step fault p number q =
    let still = has_still (reading before []) b c above p q.0 in
    let at = text_at before c (header ++ step_lines above) still.reads in
    let now = reading (Finite at.left) c.held in
    let has : HasRead (reading (Finite at.text) []) now above = record { each = still.each; reads = at.front } in
    let next = next_moved c (length above) at.left fault at.over (subst (λ n. IsNextFault c n fault) number q.1) in
    let right = right_of at.text now above has in
    (at.text, at.is, (refused_at at.text now now above fault has (reads_none now) next, record { rest = c.held ++ right.0; right = right.2 }))

-- some steps were read: it begins with them
pub begins_with : (before : Ahead) (now : Reading) (above : List Step) → HasRead (reading before []) now above
    → HadText before now.ahead (λ text. BeginsRight text above)
begins_with before now above p =
    let at = text_at before now (header ++ step_lines above) p.reads in
    let right = right_of at.text (reading (Finite at.left) now.held) above (record { each = p.each; reads = at.front }) in
    (at.text, at.is, record { rest = now.held ++ right.0; right = right.2 })

-- where the header couldn't be read
pub refused_header : (before after : Ahead) (held : List ℕ) (n : ℕ) → Reads (reading before []) (reading after held) [] → IsFirstFault (reading after held) (read.Script (Header n))
    → HadText before after (λ text. Refuses text (Header n))
refused_header before after held n p q =
    let at = text_at before (reading after held) [] p in
    let now = reading (Finite at.left) held in
    let of = read_of at.text now [] at.front in
    let lacks : LacksHeader now = record {
      none = q.1.none;
      enough = elim q.1.enough [ inl enough ↦ inl enough | inr end ↦ inr (at.over end) ];
    } in
    (at.text, at.is, (q.0, λ rest begins. no_header at.text now of.0 of.1 of.2 lacks rest begins))

pub any_text : (before : Ahead) (now : Reading) (bytes : List ℕ) → Reads (reading before []) now bytes → (text : List ℕ) × IsTextOf before now.ahead text
any_text before now bytes p = let at = text_at before now bytes p in (at.text, at.is)

-- the end line was read too
pub script_of : (before : Ahead) (b c : Reading) (above : List Step) (steps : ℕ) (step : Step) → HasRead (reading before []) b above → steps ≡ length above
    → Advances b c steps step (Ok false) → (text : List ℕ) × IsTextOf before c.ahead text × IsScript text above
unfolding script_text
script_of before b c above steps step p number q =
    let bytes = (header ++ step_lines above) ++ end_line (length above) in
    let all = reads_then (reading before []) b c (header ++ step_lines above) (end_line (length above)) p.reads (subst (λ n. Reads b c (end_line n)) number q.0) in
    let at = text_at before c bytes all in
    let now = reading (Finite at.left) c.held in
    let of = read_of at.text now bytes at.front in
    let none : of.0 ≡ [] = subst IsAtEnd of.1 (at.over q.1.over) in (
      at.text,
      at.is,
      record {
        each = p.each;
        spelled = of.2 ∙ ap (λ l. bytes ++ (l ++ of.0)) q.1.none ∙ ap (λ l. bytes ++ l) none ∙ append-nil bytes ∙ append_assoc header (step_lines above) (end_line (length above));
      },
    )

-- why a reading stopped
module _ (before : Ahead) where
  -- the header couldn't be read
  pub stops_header : (after : Ahead) (fault : ReadFault) → Begins before after (Err fault) → StopsReader before after fault
  stops_header after (read.Device failed) p = tt
  stops_header after (read.Script Memory) p = let any = any_text before (reading after p.0) [] p.1 in (any.0, any.1, tt)
  stops_header after (read.Script (Header n)) p = refused_header before after p.0 n p.1 p.2
  stops_header after (read.Script (BadLine n)) p = absurd p.2
  stops_header after (read.Script (BadSymbol n)) p = absurd p.2
  stops_header after (read.Script (BadCount n)) p = absurd p.2
  stops_header after (read.Script (NoEnd n)) p = absurd p.2
  stops_header after (read.Script (AfterEnd n)) p = absurd p.2

  -- the next step couldn't be read
  pub stops_step : (b c : Reading) (above : List Step) (steps : ℕ) (step : Step) (fault : ReadFault) → HasRead (reading before []) b above → steps ≡ length above
      → Advances b c steps step (Err fault) → StopsReader before c.ahead fault
  stops_step b c above steps step (read.Device failed) p number q = tt
  stops_step b c above steps step (read.Script fault) p number q =
      let refused = refused_text before b c above steps step fault p number q in (refused.0, refused.1, refused.2.0.0)

  -- no memory for a step
  pub stops_memory : (b c : Reading) (above : List Step) (step : Step) (fault : ReadFault) → HasRead (reading before []) b above
      → Reads b c (closed (step_line step)) × IsStep step → fault ≡ read.Script Memory → StopsReader before c.ahead fault
  stops_memory b c above step fault p q is =
      let more = has_more (reading before []) b c above step p q.0 q.1 in
      let any = any_text before c (header ++ step_lines (above ++ step ∷ [])) more.reads in
      subst (StopsReader before c.ahead) (sym is) (any.0, any.1, tt)
