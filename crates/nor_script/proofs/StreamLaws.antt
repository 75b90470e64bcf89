-- What is read out of a device in two goes, and what its text is then.
use Rattle.std.proofs.Common.{◌≡◌, ℕ, ◌+◌, inl, inr, List, [], ◌∷◌, ◌++◌, length, take, drop, Some, refl, sym, ◌∙◌, ap, subst, arith, append_assoc, append-nil}
use Rattle.std.specs.List.{list_any}
use Rattle.std.proofs.lemmas.List.{take-append-le, take-append-drop, take_all}
use Rattle.nor_base.specs.declared.step.Step.{Step}
use Rattle.nor_base.specs.Device.{Ahead, Unknown, Finite, Endless, Gives, IsAtEnd}
use Rattle.nor_base.specs.Script.{closed, header, step_line, step_lines, end_line, script_text, IsScript}
use Rattle.nor_base.specs.Step.{IsStep}
use Rattle.nor_base.proofs.DeviceLaws.{Gives-append}
use Rattle.nor_script.specs.declared.fault.ScriptFault.{ScriptFault}
use Rattle.nor_script.specs.declared.fault.ScriptFault.TheVariants.{Header, BadLine, BadSymbol, BadCount, NoEnd, AfterEnd, Memory}
use Rattle.nor_script.specs.Line.{line_fault}
use Rattle.nor_script.specs.Faults.{is_line_feed, IsRight, HasBadLine, Refuses, AreAbove}
use Rattle.nor_script.specs.Stream.{Reading, reading, Reads, IsOver, HasBadLineNext, LacksHeader, IsNextFault, HasRead}
use Rattle.nor_script.proofs.ReadLemmas.{each_more, lines_more, IsOfLine, line_told}

pub Gives-none : (a : Ahead) → Gives a [] a
Gives-none Unknown = tt
Gives-none (Finite bytes) = refl
Gives-none (Endless f) = (λ k fits. absurd (omega arith), λ k. let same : k ≡ 0 + k = omega arith in ap f same)

pub reads_none : (now : Reading) → Reads now now []
reads_none now = record { pulled = []; given = Gives-none now.ahead; whole = append-nil now.held }

-- what is read in two goes
pub reads_then : (a b c : Reading) (xs ys : List ℕ) → Reads a b xs → Reads b c ys → Reads a c (xs ++ ys)
reads_then a b c xs ys p q = record {
  pulled = p.pulled ++ q.pulled;
  given = Gives-append a.ahead b.ahead c.ahead p.pulled q.pulled p.given q.given;
  whole = sym (append_assoc a.held p.pulled q.pulled) ∙ ap (λ l. l ++ q.pulled) p.whole ∙ append_assoc xs b.held q.pulled ∙ ap (λ l. xs ++ l) q.whole
      ∙ sym (append_assoc xs ys c.held);
}

-- bytes that are held are read
pub reads_held : (ahead : Ahead) (before after bytes : List ℕ) → before ≡ bytes ++ after → Reads (reading ahead before) (reading ahead after) bytes
reads_held ahead before after bytes is = record { pulled = []; given = Gives-none ahead; whole = append-nil before ∙ is }

-- the header was read, and no step
pub has_begun : (first now : Reading) → Reads first now header → HasRead first now []
unfolding step_lines
has_begun first now p = record { each = tt; reads = subst (Reads first now) (sym (append-nil header)) p }

-- nothing more was read
pub has_still : (first b c : Reading) (above : List Step) → HasRead first b above → Reads b c [] → HasRead first c above
has_still first b c above p q = record {
  each = p.each;
  reads = subst (Reads first c) (append-nil (header ++ step_lines above)) (reads_then first b c (header ++ step_lines above) [] p.reads q);
}

-- one more step was read
pub has_more : (first b c : Reading) (above : List Step) (step : Step) → HasRead first b above → Reads b c (closed (step_line step)) → IsStep step
    → HasRead first c (above ++ step ∷ [])
has_more first b c above step p q is = record {
  each = each_more above step p.each is;
  reads = subst (Reads first c) (append_assoc header (step_lines above) (closed (step_line step)) ∙ ap (λ l. header ++ l) (lines above step))
      (reads_then first b c (header ++ step_lines above) (closed (step_line step)) p.reads q);
}
  where
    lines : (above : List Step) (step : Step) → step_lines above ++ closed (step_line step) ≡ step_lines (above ++ step ∷ [])
    lines above step =
        ap (λ l. step_lines above ++ l) (sym (append-nil (closed (step_line step)))) ∙ sym (lines_more above step []) ∙ append-nil (step_lines (above ++ step ∷ []))

-- a device that tells its bytes goes on telling them
tells_on : (a b : Ahead) (bytes xs : List ℕ) → a ≡ Finite bytes → Gives a xs b → (ahead : List ℕ) × (b ≡ Finite ahead) × (bytes ≡ xs ++ ahead)
tells_on a b bytes xs is p = by b (subst (λ (a : Ahead). Gives a xs b) is p)
  where
    by : (b : Ahead) → Gives (Finite bytes) xs b → (ahead : List ℕ) × (b ≡ Finite ahead) × (bytes ≡ xs ++ ahead)
    by Unknown p = absurd p
    by (Endless f) p = absurd p
    by (Finite ahead) p = (ahead, refl, p)

-- what was read, and what is left, is the text
pub read_of : (text : List ℕ) (now : Reading) (bytes : List ℕ) → Reads (reading (Finite text) []) now bytes
    → (ahead : List ℕ) × (now.ahead ≡ Finite ahead) × (text ≡ bytes ++ (now.held ++ ahead))
read_of text now bytes p =
    let on = tells_on (Finite text) now.ahead text p.pulled refl p.given in
    (on.0, on.1, on.2 ∙ ap (λ l. l ++ on.0) p.whole ∙ append_assoc bytes now.held on.0)

-- of a text the header and the lines of the steps read are right, and what is left follows them
pub right_of : (text : List ℕ) (now : Reading) (above : List Step) → HasRead (reading (Finite text) []) now above
    → (ahead : List ℕ) × (now.ahead ≡ Finite ahead) × IsRight text above (now.held ++ ahead)
right_of text now above p =
    let of = read_of text now (header ++ step_lines above) p.reads in
    (of.0, of.1, record { each = p.each; whole = of.2 ∙ append_assoc header (step_lines above) (now.held ++ of.0) })

at_end_none : (a : Ahead) (bytes : List ℕ) → a ≡ Finite bytes → IsAtEnd a → bytes ≡ []
at_end_none a bytes is over = subst IsAtEnd is over

-- the end line was read too, and nothing is left: the text is that of the steps
pub has_all : (text : List ℕ) (b c : Reading) (above : List Step) → HasRead (reading (Finite text) []) b above → Reads b c (end_line (length above)) → IsOver c
    → IsScript text above
unfolding script_text
has_all text b c above p q over =
    let of = read_of text c ((header ++ step_lines above) ++ end_line (length above)) (reads_then (reading (Finite text) []) b c (header ++ step_lines above) (end_line (length above)) p.reads q) in
    let none : of.0 ≡ [] = at_end_none c.ahead of.0 of.1 over.over in
    record {
      each = p.each;
      spelled = of.2 ∙ ap (λ l. ((header ++ step_lines above) ++ end_line (length above)) ++ (l ++ of.0)) over.none
          ∙ ap (λ l. ((header ++ step_lines above) ++ end_line (length above)) ++ l) none ∙ append-nil ((header ++ step_lines above) ++ end_line (length above))
          ∙ append_assoc header (step_lines above) (end_line (length above));
    }

-- what is refused, and the steps above
abbrev pub RefusesAt : List ℕ → List Step → ScriptFault → Type 0
RefusesAt text above fault = Refuses text fault × AreAbove text above fault

bad_line : (text : List ℕ) (now : Reading) (above : List Step) (ahead : List ℕ) (fault : ScriptFault) → IsRight text above (now.held ++ ahead)
    → HasBadLineNext now (length above) fault → HasBadLine text fault
bad_line text now above ahead fault right bad = record {
  above = above;
  rest = now.held ++ ahead;
  line = bad.line;
  more = bad.more ++ ahead;
  right = right;
  first = record { whole = ap (λ l. l ++ ahead) bad.first.whole ∙ append_assoc (closed bad.line) bad.more ahead; one = bad.first.one };
  here = bad.here;
}

-- a text whose front lacks the header
pub no_header : (text : List ℕ) (now : Reading) (ahead : List ℕ) → now.ahead ≡ Finite ahead → text ≡ now.held ++ ahead → LacksHeader now → (rest : List ℕ) → text ≡ header ++ rest → ⊥
no_header text now ahead is whole lacks rest begins = elim lacks.enough [
  | inl enough ↦
      let front : take (length header) now.held ≡ header =
      sym (take-append-le (length header) now.held ahead enough) ∙ ap (take (length header)) (sym whole ∙ begins)
      ∙ take-append-le (length header) header rest (omega arith) ∙ take_all (length header) header (omega arith) in
      lacks.none (drop (length header) now.held)
      (sym (take-append-drop (length header) now.held) ∙ ap (λ l. l ++ drop (length header) now.held) front)
  | inr over ↦
      let none : ahead ≡ [] = at_end_none now.ahead ahead is over in
      lacks.none rest (sym (append-nil now.held) ∙ ap (λ l. now.held ++ l) (sym none) ∙ sym whole ∙ begins)
]

-- the line of a bad line is the one after the header and the steps read
bad_number : (steps : ℕ) (fault : ScriptFault) (line : List ℕ) → line_fault steps line ≡ Some fault → IsOfLine (steps + 2) fault
bad_number steps fault line here = line_told steps line fault here

-- behind the end line of the steps read
goes_on : (text : List ℕ) (now : Reading) (above : List Step) (ahead : List ℕ) (byte : ℕ) (more : List ℕ) → IsRight text above (now.held ++ ahead)
    → now.held ≡ end_line (length above) ++ byte ∷ more → text ≡ script_text above ++ byte ∷ (more ++ ahead)
unfolding script_text
goes_on text now above ahead byte more right is =
    right.whole ∙ ap (λ l. header ++ (step_lines above ++ (l ++ ahead))) is
    ∙ ap (λ l. header ++ (step_lines above ++ l)) (append_assoc (end_line (length above)) (byte ∷ more) ahead)
    ∙ ap (λ l. header ++ l) (sym (append_assoc (step_lines above) (end_line (length above)) (byte ∷ (more ++ ahead))))
    ∙ sym (append_assoc header (step_lines above ++ end_line (length above)) (byte ∷ (more ++ ahead)))

-- a fault of what is left is the first of the text, and the steps read stand above it
refuses_next : (text : List ℕ) (now : Reading) (above : List Step) (ahead : List ℕ) (fault : ScriptFault) → now.ahead ≡ Finite ahead
    → IsRight text above (now.held ++ ahead) → IsNextFault now (length above) fault → RefusesAt text above fault
refuses_next text now above ahead (Header n) is right q = absurd q
refuses_next text now above ahead (BadLine n) is right q =
    (bad_line text now above ahead (BadLine n) right q, (record { rest = now.held ++ ahead; right = right }, bad_number (length above) (BadLine n) q.line q.here))
refuses_next text now above ahead (BadSymbol n) is right q =
    (bad_line text now above ahead (BadSymbol n) right q, (record { rest = now.held ++ ahead; right = right }, bad_number (length above) (BadSymbol n) q.line q.here))
refuses_next text now above ahead (BadCount n) is right q =
    (bad_line text now above ahead (BadCount n) right q, (record { rest = now.held ++ ahead; right = right }, bad_number (length above) (BadCount n) q.line q.here))
refuses_next text now above ahead (NoEnd n) is right q =
    let none : ahead ≡ [] = at_end_none now.ahead ahead is q.0.over in (
      record {
        above = above;
        rest = now.held ++ ahead;
        right = right;
        unclosed = ap (λ l. list_any is_line_feed (now.held ++ l)) none ∙ ap (list_any is_line_feed) (append-nil now.held) ∙ q.0.unclosed;
        number = q.1;
      },
      (record { rest = now.held ++ ahead; right = right }, q.1),
    )
refuses_next text now above ahead (AfterEnd n) is right q = (
  record {
    steps = above;
    byte = q.0.byte;
    more = q.0.more ++ ahead;
    each = right.each;
    whole = goes_on text now above ahead q.0.byte q.0.more right q.0.whole;
    number = q.1;
  },
  (record { rest = now.held ++ ahead; right = right }, q.1),
)
refuses_next text now above ahead Memory is right q = (tt, tt)

pub refused_at : (text : List ℕ) (b c : Reading) (above : List Step) (fault : ScriptFault) → HasRead (reading (Finite text) []) b above → Reads b c []
    → IsNextFault c (length above) fault → RefusesAt text above fault
refused_at text b c above fault p q next =
    let of = right_of text c above (has_still (reading (Finite text) []) b c above p q) in
    refuses_next text c above of.0 fault of.1 of.2 next
