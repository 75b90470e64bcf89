-- What the lines of the steps that came are of the text.
use Rattle.std.proofs.Common.{◌≡◌, ℕ, suc, ◌+◌, inl, inr, Bool, false, List, [], ◌∷◌, ◌++◌, length, Option, Ok, Err, refl, sym, ◌∙◌, ap, subst, arith, append_assoc, append-nil}
use Rattle.std.specs.List.{AllByRecursion}
use Rattle.std.specs.Io.KnownBytes.{Appends}
use Rattle.nor_base.specs.declared.step.Step.{Step}
use Rattle.nor_base.specs.declared.device.Failed.{Failed}
use Rattle.nor_base.specs.Device.{Ahead, Cuts}
use Rattle.nor_base.specs.Parameters.{Parameters}
use Rattle.nor_base.specs.Script.{closed, header, step_line, end_line}
use Rattle.nor_base.specs.Step.{IsStep}
use Rattle.nor_base.proofs.DeviceLaws.{Appends-append, Cuts-then}
use Rattle.nor_listing.specs.Listing.{chip_line, line, lines_from, mode_past, unended_listing, listing}
use Rattle.nor_script.specs.declared.fault.ScriptFault.{ScriptFault}
use Rattle.nor_script.specs.declared.fault.ScriptFault.TheVariants.{Header, Memory}
use Rattle.nor_script.specs.declared.fault.ReadFault.{ReadFault}
use Rattle.nor_script.specs.declared.fault.ReadFault.TheVariants as read
use Rattle.nor_script.specs.Faults.{Refuses, AreAbove}
use Rattle.nor_script.specs.Stream.{Reading, reading, Reads, HasRead, Advances, Begins}
use Rattle.nor_script.proofs.ReadLemmas.{lines_more}
use Rattle.nor_script.proofs.StreamLaws.{reads_none, has_still, has_more}
use Rattle.nor_script.proofs.TextLaws.{begins_with, refused_text, refused_header, any_text, script_of}
use Rattle.nor_listing.specs.declared.stream.Stop.{Stop}
use Rattle.nor_listing.specs.declared.stream.Stop.TheVariants.{Script, Out}
use Rattle.nor_listing.specs.Stream.{AreFirst, PutsLine, ListsOf, Lists}
use Rattle.nor_base.specs.Wire.{wire}

-- the address mode after some steps
abbrev pub mode_upto : Parameters → Bool → List Step → Bool
mode_upto m mode4 [] = mode4
mode_upto m mode4 (x ∷ xs) = mode_upto m (mode_past m mode4 x) xs

pub mode_more : (m : Parameters) (mode4 : Bool) (xs : List Step) (x : Step) → mode_upto m mode4 (xs ++ x ∷ []) ≡ mode_past m (mode_upto m mode4 xs) x
mode_more m mode4 [] x = refl
mode_more m mode4 (y ∷ xs) x = mode_more m (mode_past m mode4 y) xs x

line_more : (m : Parameters) (n : ℕ) (mode4 : Bool) (xs : List Step) (x : Step)
    → lines_from m n mode4 (xs ++ x ∷ []) ≡ lines_from m n mode4 xs ++ line m (n + length xs) (mode_upto m mode4 xs) x
unfolding lines_from
line_more m n mode4 [] x = append-nil (line m n mode4 x) ∙ (let same : n ≡ n + 0 = omega arith in ap (λ k. line m k mode4 x) same)
line_more m n mode4 (y ∷ xs) x =
    let number : n + 1 + length xs ≡ n + suc (length xs) = omega arith in
    ap (λ l. line m n mode4 y ++ l) (line_more m (n + 1) (mode_past m mode4 y) xs x
    ∙ ap (λ k. lines_from m (n + 1) (mode_past m mode4 y) xs ++ line m k (mode_upto m (mode_past m mode4 y) xs) x) number)
    ∙ sym (append_assoc (line m n mode4 y) (lines_from m (n + 1) (mode_past m mode4 y) xs) (line m (n + suc (length xs)) (mode_upto m (mode_past m mode4 y) xs) x))

-- the line of one more step
pub unended_more : (m : Parameters) (first : Bool) (xs : List Step) (x : Step)
    → unended_listing m first xs ++ line m (length xs) (mode_upto m first xs) x ≡ unended_listing m first (xs ++ x ∷ [])
unfolding unended_listing
unended_more m first xs x =
    let number : length xs ≡ 0 + length xs = omega arith in
    append_assoc (chip_line m first) (lines_from m 0 first xs) (line m (length xs) (mode_upto m first xs) x)
    ∙ ap (λ k. chip_line m first ++ (lines_from m 0 first xs ++ line m k (mode_upto m first xs) x)) number
    ∙ ap (λ l. chip_line m first ++ l) (sym (line_more m 0 first xs x))

pub unended_none : (m : Parameters) (first : Bool) → chip_line m first ≡ unended_listing m first []
unfolding unended_listing lines_from
unended_none m first = sym (append-nil (chip_line m first))

ended : (m : Parameters) (first : Bool) (steps : List Step) → unended_listing m first steps ++ end_line (length steps) ≡ listing m first steps
unfolding unended_listing listing
ended m first steps = append_assoc (chip_line m first) (lines_from m 0 first steps) (end_line (length steps))

-- the line of a step put, and cut
pub line_put : (m : Parameters) (first : Bool) (above : List Step) (x shown : Step) (n : ℕ) (mode4 : Bool) (a b c : Option (List ℕ)) → shown ≡ x → n ≡ length above
    → mode4 ≡ mode_upto m first above → Appends a b (unended_listing m first above) → Appends b c (line m n mode4 shown)
    → Appends a c (unended_listing m first (above ++ x ∷ []))
line_put m first above x shown n mode4 a b c is number mode put more =
    subst (Appends a c) (ap (λ y. unended_listing m first above ++ line m n mode4 y) is ∙ ap (λ k. unended_listing m first above ++ line m k mode4 x) number
    ∙ ap (λ k. unended_listing m first above ++ line m (length above) k x) mode ∙ unended_more m first above x)
    (Appends-append a b c (unended_listing m first above) (line m n mode4 shown) put more)

pub line_cut : (m : Parameters) (first : Bool) (above : List Step) (x shown : Step) (n : ℕ) (mode4 : Bool) (a b c : Option (List ℕ)) → shown ≡ x → n ≡ length above
    → mode4 ≡ mode_upto m first above → Appends a b (unended_listing m first above) → Cuts b c (line m n mode4 shown)
    → Cuts a c (unended_listing m first (above ++ x ∷ []))
line_cut m first above x shown n mode4 a b c is number mode put more =
    subst (Cuts a c) (ap (λ y. unended_listing m first above ++ line m n mode4 y) is ∙ ap (λ k. unended_listing m first above ++ line m k mode4 x) number
    ∙ ap (λ k. unended_listing m first above ++ line m (length above) k x) mode ∙ unended_more m first above x)
    (Cuts-then a b c (unended_listing m first above) (line m n mode4 shown) put more)

-- the first steps of a text are without their last one its first steps as well
each_less : (above : List Step) (step : Step) → AllByRecursion IsStep (above ++ step ∷ []) → AllByRecursion IsStep above
each_less [] step each = tt
each_less (x ∷ above) step each = (each.0, each_less above step each.1)

first_less : (text : List ℕ) (above : List Step) (step : Step) → AreFirst text (above ++ step ∷ []) → AreFirst text above
first_less text above step (inl none) = inl (nothing above none)
  where
    nothing : (above : List Step) → above ++ step ∷ [] ≡ [] → above ≡ []
    nothing [] none = refl
    nothing (x ∷ above) none = cc
first_less text above step (inr begins) = inr (record {
  rest = closed (step_line step) ++ begins.rest;
  right = record {
    each = each_less above step begins.right.each;
    whole = begins.right.whole ∙ ap (λ l. header ++ l) (lines_more above step begins.rest);
  };
})

-- why it stopped, and what was put of which text
module _ (m : Parameters) (first : Bool) (before : Ahead) where
  -- the first line is cut
  pub lists_none : (a w : Option (List ℕ)) (failed : Failed) → Cuts a w (chip_line m first) → Lists m first (wire a before) (wire w before) (Err (Out failed))
  lists_none a w failed cut =
      let any = any_text before (reading before []) [] (reads_none (reading before [])) in (
        any.0,
        any.1,
        record {
          bytes = unended_listing m first [];
          are = inr (record { steps = []; are = inl refl; lines = refl });
          put = subst (Cuts a w) (unended_none m first) cut;
        },
      )

  faulted : (text : List ℕ) (above : List Step) (fault : ScriptFault) (a w : Option (List ℕ)) → Refuses text fault → AreAbove text above fault → AreFirst text above
      → Appends a w (unended_listing m first above) → ListsOf m first text a w (Err (Script (read.Script fault)))
  faulted text above Memory a w refuses at are put =
      record { bytes = unended_listing m first above; are = record { steps = above; are = are; lines = refl }; put = put }
  faulted text above fault a w refuses at are put =
      record { bytes = unended_listing m first above; are = record { fault = refuses; steps = above; above = at; lines = refl }; put = put }

  -- the header couldn't be read
  pub lists_header : (after : Ahead) (a w : Option (List ℕ)) (fault : ReadFault) → Begins before after (Err fault) → Appends a w (chip_line m first)
      → Lists m first (wire a before) (wire w after) (Err (Script fault))
  lists_header after a w (read.Device failed) p put =
      let any = any_text before (reading after p.0) [] p.1 in
      (any.0, any.1, record { bytes = unended_listing m first []; are = record { steps = []; are = inl refl; lines = refl }; put = subst (Appends a w) (unended_none m first) put })
  lists_header after a w (read.Script Memory) p put =
      let any = any_text before (reading after p.0) [] p.1 in
      (any.0, any.1, record { bytes = unended_listing m first []; are = record { steps = []; are = inl refl; lines = refl }; put = subst (Appends a w) (unended_none m first) put })
  lists_header after a w (read.Script (Header n)) p put =
      let refused = refused_header before after p.0 n p.1 p.2 in
      (refused.0, refused.1, faulted refused.0 [] (Header n) a w refused.2 refl (inl refl) (subst (Appends a w) (unended_none m first) put))
  lists_header after a w (read.Script other) p put = absurd p.2

  -- the next step couldn't be read
  pub lists_fault : (b c : Reading) (above : List Step) (steps : ℕ) (step : Step) (a w : Option (List ℕ)) (fault : ReadFault) → HasRead (reading before []) b above
      → steps ≡ length above → Advances b c steps step (Err fault) → Appends a w (unended_listing m first above) → Lists m first (wire a before) (wire w c.ahead) (Err (Script fault))
  lists_fault b c above steps step a w (read.Device failed) p number q put =
      let of = begins_with before c above (has_still (reading before []) b c above p q) in
      (of.0, of.1, record { bytes = unended_listing m first above; are = record { steps = above; are = inr of.2; lines = refl }; put = put })
  lists_fault b c above steps step a w (read.Script fault) p number q put =
      let of = refused_text before b c above steps step fault p number q in
      (of.0, of.1, faulted of.0 above fault a w of.2.0.0 of.2.0.1 (inr of.2.1) put)

  -- no memory for a step
  pub lists_memory : (c : Reading) (above : List Step) (step : Step) (a w : Option (List ℕ)) → HasRead (reading before []) c (above ++ step ∷ [])
      → Appends a w (unended_listing m first above) → Lists m first (wire a before) (wire w c.ahead) (Err (Script (read.Script Memory)))
  lists_memory c above step a w p put =
      let of = begins_with before c (above ++ step ∷ []) p in
      (of.0, of.1, record { bytes = unended_listing m first above; are = record { steps = above; are = first_less of.0 above step (inr of.2); lines = refl }; put = put })

  -- a step's line is cut
  pub lists_cut : (c : Reading) (above : List Step) (a w : Option (List ℕ)) (failed : Failed) → HasRead (reading before []) c above → Cuts a w (unended_listing m first above)
      → Lists m first (wire a before) (wire w c.ahead) (Err (Out failed))
  lists_cut c above a w failed p put =
      let of = begins_with before c above p in
      (of.0, of.1, record { bytes = unended_listing m first above; are = inr (record { steps = above; are = inr of.2; lines = refl }); put = put })

  -- the end
  pub lists_all : (b c : Reading) (above : List Step) (steps number : ℕ) (step : Step) (a w v : Option (List ℕ)) → HasRead (reading before []) b above
      → steps ≡ length above → number ≡ length above → Advances b c steps step (Ok false) → Appends a w (unended_listing m first above) → Appends w v (end_line number)
      → Lists m first (wire a before) (wire v c.ahead) (Ok tt)
  lists_all b c above steps number step a w v p is counted q put end =
      let of = script_of before b c above steps step p is q in (
        of.0,
        of.1,
        record {
          bytes = listing m first above;
          are = record { steps = above; script = of.2; lines = refl };
          put = subst (Appends a v) (ap (λ n. unended_listing m first above ++ end_line n) counted ∙ ended m first above) (Appends-append a w v (unended_listing m first above) (end_line number) put end);
        },
      )

  pub lists_end_cut : (b c : Reading) (above : List Step) (steps number : ℕ) (step : Step) (a w v : Option (List ℕ)) (failed : Failed) → HasRead (reading before []) b above
      → steps ≡ length above → number ≡ length above → Advances b c steps step (Ok false) → Appends a w (unended_listing m first above) → Cuts w v (end_line number)
      → Lists m first (wire a before) (wire v c.ahead) (Err (Out failed))
  lists_end_cut b c above steps number step a w v failed p is counted q put end =
      let of = script_of before b c above steps step p is q in (
        of.0,
        of.1,
        record {
          bytes = listing m first above;
          are = inl (record { steps = above; script = of.2; lines = refl });
          put = subst (Cuts a v) (ap (λ n. unended_listing m first above ++ end_line n) counted ∙ ended m first above) (Cuts-then a w v (unended_listing m first above) (end_line number) put end);
        },
      )

  -- a step's line isn't put
  pub lists_step : (b c : Reading) (above : List Step) (step shown : Step) (n : ℕ) (mode4 : Bool) (a w v : Option (List ℕ)) (stop : Stop)
      → HasRead (reading before []) b above → Reads b c (closed (step_line step)) × IsStep step → shown ≡ step → n ≡ length above → mode4 ≡ mode_upto m first above
      → Appends a w (unended_listing m first above) → PutsLine {T = Bool} w v (Err stop) (line m n mode4 shown) → Lists m first (wire a before) (wire v c.ahead) (Err stop)
  lists_step b c above step shown n mode4 a w v (Out failed) p q is number mode put cut =
      lists_cut c (above ++ step ∷ []) a v failed (has_more (reading before []) b c above step p q.0 q.1)
      (line_cut m first above step shown n mode4 a w v is number mode put cut)
  lists_step b c above step shown n mode4 a w v (Script why) p q is number mode put none =
      subst (λ (f : ReadFault). Lists m first (wire a before) (wire v c.ahead) (Err (Script f))) (sym none.0)
      (lists_memory c above step a v (has_more (reading before []) b c above step p q.0 q.1)
      (subst (λ o. Appends a o (unended_listing m first above)) (sym none.1) put))

pub mode_next : (m : Parameters) (first mode4 : Bool) (above : List Step) (step shown : Step) → shown ≡ step → mode4 ≡ mode_upto m first above
    → mode_past m mode4 shown ≡ mode_upto m first (above ++ step ∷ [])
mode_next m first mode4 above step shown is mode =
    ap (mode_past m mode4) is ∙ ap (λ k. mode_past m k step) mode ∙ sym (mode_more m first above step)
