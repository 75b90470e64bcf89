-- How many of some steps make a row.
use Rattle.std.proofs.Common.{◌≡◌, ℕ, ◌+◌, ◌*◌, true, List, [], ◌∷◌, ◌++◌, length, refl, sym, ◌∙◌, ap, subst, arith, length-append}
use Rattle.std.specs.Prelude.{flat_map, replicate}
use Rattle.std.proofs.lemmas.List.{length-replicate}
use Rattle.nor_base.specs.declared.step.Step.{Step}
use Rattle.nor_base.specs.declared.step.Step.TheVariants.{Send, Poll, Verify}
use Rattle.nor_base.specs.Clocks.{bits}
use Rattle.nor_base.specs.Run.{poll_clocks}
use Rattle.nor_base.specs.Sample.{sampled_count}
use Rattle.nor_base.specs.Step.{step_clocks, verifies}
use Rattle.nor_base.proofs.BitLaws.{length-all_bits}
use Rattle.nor_serprog.specs.declared.limits.Limits.{Limits}
use Rattle.nor_serprog.specs.Carried.{IsOperation}
use Rattle.nor_serprog.specs.Done.{IsDoable}
use Rattle.nor_serprog.specs.Follow.{status_request}
use Rattle.nor_serprog.specs.Protocol.{head, request}
use Rattle.nor_serprog.specs.Row.{IsSent, IsAsked}
use Rattle.nor_serprog.proofs.CarriedLemmas.{asked_is}

-- a request has seven bytes before those that go out
request_long : (sent : List ℕ) (asked : ℕ) → length (request sent asked) ≡ 7 + length sent
unfolding head
request_long sent asked = omega arith

-- a step's request, by the bytes that its clocks send
of_count : (limits : Limits) (clocks sent : List ℕ) (asked n : ℕ) → IsOperation limits clocks sent asked → sampled_count clocks ≡ n → IsOperation limits clocks sent n
of_count limits clocks sent asked n op count = subst (IsOperation limits clocks sent) (sym (asked_is limits clocks sent asked op) ∙ count) op

pub request_of : (limits : Limits) (x : Step) (sent : List ℕ) (asked : ℕ) → IsDoable x → verifies x ≡ true → IsOperation limits (step_clocks x) sent asked
    → IsSent limits x (request sent asked)
request_of limits (Send symbols) sent asked form is op = cc
request_of limits (Poll symbols) sent asked form is op = cc
request_of limits (Verify symbols expect) sent asked form is op =
    let count : asked ≡ length expect = sym (asked_is limits symbols sent asked op) ∙ sym form in
    (sent, subst (IsOperation limits symbols sent) count op, ap (request sent) count)

-- a step is asked for by as many bytes
record Asked (limits : Limits) (x : Step) (bytes : ℕ) : Type 0 where
  put : List ℕ
  its : IsAsked limits 1 x put
  long : length put ≡ bytes

one_sent : (sent : List ℕ) (limits : Limits) (asked : ℕ) → IsOperation limits poll_clocks sent asked → length sent ≡ 1
one_sent sent limits asked op =
    let count : asked ≡ 1 = sym (asked_is limits poll_clocks sent asked op) in
    let long : 16 ≡ length (flat_map bits sent) + length (replicate (8 * asked) 0x2E) =
    ap length op.spelled ∙ length-append (flat_map bits sent) (replicate (8 * asked) 0x2E) in
    omega (arith, count, long, length-all_bits sent, length-replicate {A = ℕ} (8 * asked) 0x2E)

pub asked_by : (limits : Limits) (x : Step) (sent : List ℕ) (asked bytes : ℕ) → IsDoable x → IsOperation limits (step_clocks x) sent asked → bytes ≡ 7 + length sent
    → (put : List ℕ) × IsAsked limits 1 x put × (length put ≡ bytes)
asked_by limits (Send symbols) sent asked bytes form op long =
    (request sent 0, (sent, of_count limits symbols sent asked 0 op form, refl), request_long sent 0 ∙ sym long)
asked_by limits (Poll symbols) sent asked bytes form op long =
    let one = one_sent sent limits asked (subst (λ (l : List ℕ). IsOperation limits l sent asked) form op) in
    (status_request ++ [], (form, refl), omega (arith, long, one, request_long (0x05 ∷ []) 1, length-append status_request []))
asked_by limits (Verify symbols expect) sent asked bytes form op long =
    (request sent (length expect), (sent, of_count limits symbols sent asked (length expect) op (sym form), refl), request_long sent (length expect) ∙ sym long)
