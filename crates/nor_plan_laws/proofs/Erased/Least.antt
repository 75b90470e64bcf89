-- No script erases less: a byte that is due stays due until an erase holds it.
use Rattle.std.proofs.Common.{◌≡◌, ◌⊎◌, ℕ, zero, suc, ◌+◌, ◌<◌, ◌≤◌, ◌==◌, nat_le, Bool, true, false, not, ◌&&◌, ◌||◌, if◌then◌else◌, List, [], ◌∷◌, ◌++◌, length, Option, Some, None, option_map, Result, Ok, Err, refl, sym, ◌∙◌, ap, subst, arith, inl, inr, eq-eqb, eqb-true, le-leb}
use Rattle.std.specs.Prelude.{bit_and}
use Rattle.std.specs.Int.Bits.{and_self}
use Rattle.std.specs.List.{list_any, slice_index}
use Rattle.std.specs.Option.{option_map_or}
use Rattle.std.specs.Str.{bytes_eq}
use Rattle.std.proofs.Math.Bool.{or-true}
use Rattle.std.proofs.lemmas.Nat.{and_assoc}
use Rattle.std.proofs.lemmas.Bool.{and_parts, cases_lt, both_ways, not-true, not-false, or_parts}
use Rattle.std.proofs.lemmas.List.{get_or_past}
use Rattle.nor_base.specs.declared.meaning.Erase.{Erase}
use Rattle.nor_base.specs.declared.meaning.Start.{Start}
use Rattle.nor_base.specs.declared.instruction.What.{What}
use Rattle.nor_base.specs.declared.instruction.What.TheVariants as what
use Rattle.nor_base.specs.declared.step.Step.{Step}
use Rattle.nor_base.specs.declared.step.Step.TheVariants.{Send, Poll, Verify}
use Rattle.nor_base.specs.declared.wrong.Wrong.{Wrong}
use Rattle.nor_base.specs.declared.wrong.Wrong.TheVariants as wrong
use Rattle.nor_base.specs.Parameters.{Parameters, erase_kind, block_size}
use Rattle.nor_base.specs.Accepted.{IsAccepted}
use Rattle.nor_base.specs.Decoding.{Instruction, decode}
use Rattle.nor_base.specs.Blocks.{Block, IsLegalBlock, is_legal, smallest}
use Rattle.nor_base.specs.Chip.{Setting, Chip, IsChipOf, ready}
use Rattle.nor_base.specs.Effect.{may_program, is_barred, is_out_of_range, is_program, written, programmed, erased, after, effect, effect_if}
use Rattle.nor_base.specs.Run.{poll_clocks, says_busy, poll_on, polled, done, matched, is_verify, step, go_on, run, DoesTask}
use Rattle.nor_base.specs.Need.{is_due, is_needed}
use Rattle.nor_base.specs.Events.{Event, event_on, polled_events, step_events, events_after, events_from, events, erases_address, is_erased_by}
use Rattle.nor_base.proofs.ArrayLaws.{length-each, slice_index-each, some-false, erased_keeps}
use Rattle.nor_base.proofs.OutcomeLaws.{later_ok}
use Rattle.nor_laws.proofs.EffectLaws.{taken}
use Rattle.nor_geometry.proofs.KindLemmas.{legal_kind, size_of}
use Rattle.nor_plan_laws.proofs.Erased.Erasing.{moved}
use Rattle.nor_plan_laws.proofs.Erased.Needed.{needed_caused, holds_smallest, block_here}

-- a byte that has to change and that no program may change
abbrev stuck : Parameters → ℕ → ℕ → Bool
stuck m old want = not (old == want) && not (may_program m old want)

-- a program that may be done over it leaves it so
stays_by : (b : Bool) (old byte want : ℕ) → (if b then old == 255 else bit_and old byte == byte) ≡ true
    → not (old == want) && not (if b then old == 255 else bit_and old want == want) ≡ true
    → not (bit_and old byte == want) && not (if b then bit_and old byte == 255 else bit_and (bit_and old byte) want == want) ≡ true
stays_by true old byte want may h =
    let parts = and_parts (not (old == want)) (not (old == 255)) h in
    absurd (both_ways (old == 255) (not-true (old == 255) parts.1) may)
stays_by false old byte want may h =
    let parts = and_parts (not (old == want)) (not (bit_and old want == want)) h in
    let apart : bit_and old want == want ≡ false = not-true (bit_and old want == want) parts.1 in
    rw (never_same (bit_and old byte == want) refl apart, never (bit_and (bit_and old byte) want == want) refl apart) refl
  where
    falls : bit_and (bit_and old byte) want ≡ want → bit_and old want ≡ want
    falls h = ap (bit_and old) (sym h) ∙ ap (bit_and old) (and_assoc want old byte) ∙ sym (and_assoc (bit_and byte want) old old)
        ∙ ap (λ n. bit_and n (bit_and byte want)) (and_self old) ∙ sym (and_assoc want old byte) ∙ h

    never : (t : Bool) → (bit_and (bit_and old byte) want == want) ≡ t → bit_and old want == want ≡ false → bit_and (bit_and old byte) want == want ≡ false
    never true is apart = absurd (both_ways (bit_and old want == want) apart (eq-eqb (bit_and old want) want (falls (eqb-true (bit_and (bit_and old byte) want) want is))))
    never false is apart = is

    never_same : (t : Bool) → (bit_and old byte == want) ≡ t → bit_and old want == want ≡ false → bit_and old byte == want ≡ false
    never_same true is apart =
        let same : bit_and old byte ≡ want = eqb-true (bit_and old byte) want is in
        absurd (both_ways (bit_and old want == want) apart (eq-eqb (bit_and old want) want (falls (ap (λ n. bit_and n want) same ∙ and_self want))))
    never_same false is apart = is

-- after a program that isn't barred a byte that was stuck is
program_keeps : (m : Parameters) (page address : ℕ) (bytes array want : List ℕ) (x : ℕ) → is_barred m page address bytes array ≡ false → is_due m array want x ≡ true
    → is_due m (programmed page address bytes array) want x ≡ true
unfolding programmed is_barred
program_keeps m page address bytes array want x free due = elim (cases_lt x (length array)) [
  | inl inside ↦
      subst (λ old. stuck m old (slice_index want x) ≡ true) (sym (slice_index-each _ array x inside))
      (written_keeps (written page address bytes x)
      (some-false (λ y old. option_map_or (λ byte. not (may_program m old byte)) (written page address bytes y) false) array x free inside))
  | inr past ↦
      let same = get_or_past _ x 0 (omega (arith, length-each (λ y old. option_map_or (bit_and old) (written page address bytes y) old) array, past)) ∙ sym (get_or_past array x 0 past) in
      subst (λ old. stuck m old (slice_index want x) ≡ true) (sym same) due
]
  where
    written_keeps : (o : Option ℕ) → option_map_or (λ byte. not (may_program m (slice_index array x) byte)) o false ≡ false
        → stuck m (option_map_or (bit_and (slice_index array x)) o (slice_index array x)) (slice_index want x) ≡ true
    written_keeps None none = due
    written_keeps (Some byte) none =
        stays_by m.erased_only (slice_index array x) byte (slice_index want x) (not-false (may_program m (slice_index array x) byte) none) due

-- a legal block that holds the one address holds the other
abbrev Wide : Parameters → ℕ → ℕ → Type 0
Wide m x a = (k start : ℕ) → is_legal m k start ≡ true → start ≤ x → x < start + block_size m k → (start ≤ a) × (a < start + block_size m k)

abbrev hit : Parameters → ℕ → Option Instruction → Bool
hit m a seen = option_map_or (λ i. erases_address m a i i.what) seen false

-- an instruction leaves a byte that is due so, or erases it
after_keeps : (s : Setting) (c : Chip) (i : Instruction) (w : What) (want : List ℕ) (x a : ℕ) → Wide s.meaning x a → is_out_of_range s.meaning (record i { what = w }) ≡ false
    → is_program w && is_barred s.meaning s.page i.address i.sent c.array ≡ false → is_due s.meaning c.array want x ≡ true
    → (is_due s.meaning (after s c i w).array want x ≡ true) ⊎ (erases_address s.meaning a i w ≡ true)
unfolding after is_out_of_range erased
after_keeps s c i (what.Erase kind) want x a wide range free due =
    let parts = or_parts (nat_le s.meaning.size i.address) _ range in
    let legal : is_legal s.meaning kind i.address ≡ true = not-false (is_legal s.meaning kind i.address) parts.1 in
    elim (cases_lt x i.address) [
      | inl before ↦ inl (subst (λ old. stuck s.meaning old (slice_index want x) ≡ true) (sym (erased_keeps i.address (block_size s.meaning kind) c.array x (inl before))) due)
      | inr from ↦ elim (cases_lt x (i.address + block_size s.meaning kind)) [
        | inr past ↦ inl (subst (λ old. stuck s.meaning old (slice_index want x) ≡ true) (sym (erased_keeps i.address (block_size s.meaning kind) c.array x (inr past))) due)
        | inl upto ↦
            let both = wide kind i.address legal from upto in
            inr (rw (le-leb i.address a both.0) (le-leb (suc a) (i.address + block_size s.meaning kind) both.1))
      ]
    ]
after_keeps s c i what.Program want x a wide range free due = inl (program_keeps s.meaning s.page i.address i.sent c.array want x free due)
after_keeps s c i what.QuadProgram want x a wide range free due = inl (program_keeps s.meaning s.page i.address i.sent c.array want x free due)
after_keeps s c i what.Enable want x a wide range free due = inl due
after_keeps s c i what.Disable want x a wide range free due = inl due
after_keeps s c i what.Status want x a wide range free due = inl due
after_keeps s c i what.Enter want x a wide range free due = inl due
after_keeps s c i what.Leave want x a wide range free due = inl due
after_keeps s c i what.Read want x a wide range free due = inl due
after_keeps s c i what.QuadRead want x a wide range free due = inl due
after_keeps s c i what.Broken want x a wide range free due = inl due

keeps_if : (s : Setting) (c d : Chip) (seen : Option Instruction) (bytes want : List ℕ) (x a : ℕ) → Wide s.meaning x a → effect_if s c seen ≡ Ok (d, bytes)
    → is_due s.meaning c.array want x ≡ true → (is_due s.meaning d.array want x ≡ true) ⊎ (hit s.meaning a seen ≡ true)
keeps_if s c d None bytes want x a wide h due = cc
keeps_if s c d (Some i) bytes want x a wide h due =
    let t = taken s c i d bytes h in
    elim (after_keeps s c i i.what want x a wide t.in_range t.may due) [
      | inl still ↦ inl (subst (λ (e : Chip). is_due s.meaning e.array want x ≡ true) (sym t.chip) still)
      | inr erases ↦ inr erases
    ]

-- so does a transaction
keeps : (s : Setting) (c d : Chip) (clocks bytes want : List ℕ) (x a : ℕ) → Wide s.meaning x a → effect s c clocks ≡ Ok (d, bytes)
    → is_due s.meaning c.array want x ≡ true → (is_due s.meaning d.array want x ≡ true) ⊎ (hit s.meaning a (decode s.meaning c.mode4 clocks) ≡ true)
unfolding effect
keeps s c d clocks bytes want x a wide h due = keeps_if s c d (decode s.meaning c.mode4 clocks) bytes want x a wide h due

abbrev hits : Parameters → ℕ → List Event → Bool
hits m a seen = list_any (λ e. hit m a e.seen) seen

abbrev Kept : Setting → List ℕ → ℕ → ℕ → Chip → List Event → Type 0
Kept s want x a d seen = (is_due s.meaning d.array want x ≡ true) ⊎ (hits s.meaning a seen ≡ true)

one_event : (s : Setting) (n : ℕ) (c d e : Chip) (clocks bytes want : List ℕ) (x a : ℕ) (more : Chip × List ℕ → List Event) → Wide s.meaning x a
    → effect s c clocks ≡ Ok (e, bytes) → is_due s.meaning c.array want x ≡ true → (is_due s.meaning e.array want x ≡ true → Kept s want x a d (more (e, bytes)))
    → Kept s want x a d (event_on s n c clocks (effect s c clocks) more)
one_event s n c d e clocks bytes want x a more wide h due later = rw h (by_hit (hit s.meaning a (decode s.meaning c.mode4 clocks)) refl)
  where
    by_hit : (t : Bool) → hit s.meaning a (decode s.meaning c.mode4 clocks) ≡ t
        → (is_due s.meaning d.array want x ≡ true) ⊎ (hit s.meaning a (decode s.meaning c.mode4 clocks) || hits s.meaning a (more (e, bytes)) ≡ true)
    by_hit true is = inr (rw is refl)
    by_hit false is = elim (keeps s c e clocks bytes want x a wide h due) [
      | inr erases ↦ absurd (both_ways _ is erases)
      | inl still ↦ elim (later still) [ inl kept ↦ inl kept | inr found ↦ inr (rw found (or-true (hit s.meaning a (decode s.meaning c.mode4 clocks)))) ]
    ]

poll_step : (s : Setting) (n turns : ℕ) (c d : Chip) (want : List ℕ) (x a : ℕ) (r : Result (Chip × List ℕ) Wrong) → Wide s.meaning x a → effect s c poll_clocks ≡ r
    → ((e : Chip) → polled s turns e ≡ Ok d → is_due s.meaning e.array want x ≡ true → Kept s want x a d (polled_events s n turns e))
    → poll_on r (polled s turns) ≡ Ok d → is_due s.meaning c.array want x ≡ true
    → Kept s want x a d (event_on s n c poll_clocks (effect s c poll_clocks) (λ after. if says_busy after.1 then polled_events s n turns after.0 else []))
poll_step s n turns c d want x a (Err why) wide is later h due = cc
poll_step s n turns c d want x a (Ok after) wide is later h due =
    one_event s n c d after.0 poll_clocks after.1 want x a (λ r. if says_busy r.1 then polled_events s n turns r.0 else []) wide is due
    (λ still. by_busy (says_busy after.1) h still)
  where
    by_busy : (b : Bool) → (if b then polled s turns after.0 else Ok after.0) ≡ Ok d → is_due s.meaning after.0.array want x ≡ true
        → Kept s want x a d (if b then polled_events s n turns after.0 else [])
    by_busy true h still = later after.0 h still
    by_busy false h still = let same : after.0 ≡ d = cc in inl (subst (λ (e : Chip). is_due s.meaning e.array want x ≡ true) same still)

polls_keep : (s : Setting) (n turns : ℕ) (c d : Chip) (want : List ℕ) (x a : ℕ) → Wide s.meaning x a → polled s turns c ≡ Ok d → is_due s.meaning c.array want x ≡ true
    → Kept s want x a d (polled_events s n turns c)
unfolding polled polled_events
polls_keep s n zero c d want x a wide h due = cc
polls_keep s n (suc turns) c d want x a wide h due =
    poll_step s n turns c d want x a (effect s c poll_clocks) wide refl (λ e run still. polls_keep s n turns e d want x a wide run still) h due

send_keeps : (s : Setting) (n : ℕ) (c d : Chip) (clocks want : List ℕ) (x a : ℕ) (r : Result (Chip × List ℕ) Wrong) → Wide s.meaning x a → effect s c clocks ≡ r
    → done r ≡ Ok d → is_due s.meaning c.array want x ≡ true → Kept s want x a d (event_on s n c clocks (effect s c clocks) (λ after. []))
send_keeps s n c d clocks want x a (Err why) wide is h due = cc
send_keeps s n c d clocks want x a (Ok after) wide is h due =
    let same : after.0 ≡ d = cc in
    one_event s n c d after.0 clocks after.1 want x a (λ r. []) wide is due (λ still. inl (subst (λ (e : Chip). is_due s.meaning e.array want x ≡ true) same still))

pub matched_done : (expect : List ℕ) (d : Chip) (r : Result (Chip × List ℕ) Wrong) → matched expect r ≡ Ok d → done r ≡ Ok d
matched_done expect d (Err why) h = cc
matched_done expect d (Ok gave) h = by_same (bytes_eq gave.1 expect) h
  where
    by_same : (b : Bool) → (if b then Ok gave.0 else Err wrong.Mismatch) ≡ Ok d → done (Ok gave) ≡ Ok d
    by_same true h = h
    by_same false h = cc

poll_if : (s : Setting) (n : ℕ) (c d : Chip) (want : List ℕ) (x a : ℕ) (b : Bool) → Wide s.meaning x a
    → (if b then polled s (suc c.left) c else Err wrong.Unknown) ≡ Ok d → is_due s.meaning c.array want x ≡ true
    → Kept s want x a d (if b then polled_events s n (suc c.left) c else [])
poll_if s n c d want x a true wide h due = polls_keep s n (suc c.left) c d want x a wide h due
poll_if s n c d want x a false wide h due = cc

verify_if : (s : Setting) (n : ℕ) (c d : Chip) (clocks expect want : List ℕ) (x a : ℕ) (b : Bool) → Wide s.meaning x a
    → (if b then matched expect (effect s c clocks) else Err wrong.Unknown) ≡ Ok d → is_due s.meaning c.array want x ≡ true
    → Kept s want x a d (if b then event_on s n c clocks (effect s c clocks) (λ after. []) else [])
verify_if s n c d clocks expect want x a true wide h due =
    send_keeps s n c d clocks want x a (effect s c clocks) wide refl (matched_done expect d (effect s c clocks) h) due
verify_if s n c d clocks expect want x a false wide h due = cc

step_keeps : (s : Setting) (n : ℕ) (c d : Chip) (y : Step) (want : List ℕ) (x a : ℕ) → Wide s.meaning x a → step s c y ≡ Ok d → is_due s.meaning c.array want x ≡ true
    → Kept s want x a d (step_events s n c y)
unfolding step step_events
step_keeps s n c d (Send clocks) want x a wide h due = send_keeps s n c d clocks want x a (effect s c clocks) wide refl h due
step_keeps s n c d (Poll clocks) want x a wide h due = poll_if s n c d want x a (bytes_eq clocks poll_clocks) wide h due
step_keeps s n c d (Verify clocks expect) want x a wide h due = verify_if s n c d clocks expect want x a (is_verify clocks) wide h due

first_any : (test : Event → Bool) (xs ys : List Event) → list_any test xs ≡ true → list_any test (xs ++ ys) ≡ true
first_any test [] ys h = cc
first_any test (e ∷ xs) ys h = by_first (test e) refl h (first_any test xs ys)
  where
    by_first : (t : Bool) → test e ≡ t → test e || list_any test xs ≡ true → (list_any test xs ≡ true → list_any test (xs ++ ys) ≡ true)
        → test e || list_any test (xs ++ ys) ≡ true
    by_first true is h later = rw is refl
    by_first false is h later = rw (later (ap (λ b. b || list_any test xs) (sym is) ∙ h)) (or-true (test e))

second_any : (test : Event → Bool) (xs ys : List Event) → list_any test ys ≡ true → list_any test (xs ++ ys) ≡ true
second_any test [] ys h = h
second_any test (e ∷ xs) ys h = rw (second_any test xs ys h) (or-true (test e))

run_step : (s : Setting) (n : ℕ) (c d : Chip) (y : Step) (ys : List Step) (want : List ℕ) (x a : ℕ) (r : Result Chip Wrong) → step s c y ≡ r
    → ((e : Chip) → step s c y ≡ Ok e → Kept s want x a e (step_events s n c y))
    → ((e : Chip) → run s e ys ≡ Ok d → is_due s.meaning e.array want x ≡ true → Kept s want x a d (events_from s (n + 1) e ys))
    → go_on c r (λ e. run s e ys) ≡ Ok d → Kept s want x a d (step_events s n c y ++ events_after r (λ e. events_from s (n + 1) e ys))
run_step s n c d y ys want x a (Err why) is first later h = cc
run_step s n c d y ys want x a (Ok e) is first later h = elim (first e is) [
  | inr found ↦ inr (first_any (λ v. hit s.meaning a v.seen) (step_events s n c y) (events_from s (n + 1) e ys) found)
  | inl still ↦ elim (later e (later_ok (run s e ys) d h) still) [
    | inl kept ↦ inl kept
    | inr found ↦ inr (second_any (λ v. hit s.meaning a v.seen) (step_events s n c y) (events_from s (n + 1) e ys) found)
  ]
]

run_keeps : (s : Setting) (n : ℕ) (c d : Chip) (steps : List Step) (want : List ℕ) (x a : ℕ) → Wide s.meaning x a → run s c steps ≡ Ok d
    → is_due s.meaning c.array want x ≡ true → Kept s want x a d (events_from s n c steps)
unfolding run events_from
run_keeps s n c d [] want x a wide h due = let same : c ≡ d = cc in inl (subst (λ (e : Chip). is_due s.meaning e.array want x ≡ true) same due)
run_keeps s n c d (y ∷ ys) want x a wide h due =
    run_step s n c d y ys want x a (step s c y) refl (λ e is. step_keeps s n c e y want x a wide is due)
    (λ e is still. run_keeps s (n + 1) e d ys want x a wide is still) h

-- the target isn't due
not_due : (m : Parameters) (want : List ℕ) (x : ℕ) → is_due m want want x ≡ false
not_due m want x = rw (eq-eqb (slice_index want x) (slice_index want x) refl) refl

wide_by : (m : Parameters) (due : ℕ → Bool) (a x : ℕ) (b : Block) → IsAccepted m → smallest m x ≡ Some b → b.start ≤ a → a < b.start + b.size → Wide m x a
wide_by m due a x b accepted is low high k start legal from upto =
    let kind = legal_kind m k start legal in
    let size : option_map (λ (erase : Erase). erase.size) (erase_kind m k) ≡ Some (block_size m k) =
    ap (option_map (λ (erase : Erase). erase.size)) kind.there ∙ ap (λ n. Some n) (sym (size_of m k kind.erase kind.there)) in
    let block : IsLegalBlock m (record { start = start; size = block_size m k; kind = k }) = record { size = size; legal = legal } in
    let here = block_here m (record { start = start; size = block_size m k; kind = k }) accepted block in
    let there' = moved m start x k (record { start = start; size = block_size m k; kind = k }) accepted here from upto in
    let lies = holds_smallest m x k (record { start = start; size = block_size m k; kind = k }) b accepted there' is in
    (omega (arith, lies.0, low), omega (arith, lies.1, high))

least_on : (s : Setting) (have want : List ℕ) (steps : List Step) (a : ℕ) → IsAccepted s.meaning → DoesTask s have want steps
    → is_needed s.meaning (is_due s.meaning have want) a ≡ true → is_erased_by s (events s (ready s have) steps) a ≡ true
least_on s have want steps a accepted task needed =
    let c = needed_caused s.meaning (is_due s.meaning have want) a needed in
    let wide = wide_by s.meaning (is_due s.meaning have want) a c.cause c.block accepted c.is c.low c.high in
    elim (run_keeps s 0 (ready s have) task.final steps want c.cause a wide task.good.runs c.is_due) [
      | inl still ↦
          let due : is_due s.meaning want want c.cause ≡ true = subst (λ array. is_due s.meaning array want c.cause ≡ true) task.array still in
          absurd (both_ways _ (not_due s.meaning want c.cause) due)
      | inr found ↦ found
    ]

pub no_script_erases_less : (m : Parameters) (start : Start) (s : Setting) (have want : List ℕ) (steps : List Step) (a : ℕ) → IsAccepted m → IsChipOf m start s
    → DoesTask s have want steps → is_needed m (is_due m have want) a ≡ true → is_erased_by s (events s (ready s have) steps) a ≡ true
no_script_erases_less m start s have want steps a accepted is task needed =
    least_on s have want steps a (subst IsAccepted (sym is.its_meaning) accepted) task
    (subst (λ (n : Parameters). is_needed n (is_due n have want) a ≡ true) (sym is.its_meaning) needed)
