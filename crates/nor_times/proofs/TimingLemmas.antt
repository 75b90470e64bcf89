-- The sums over lines, piece after piece.
use Rattle.std.proofs.Common.{◌≡◌, ℕ, suc, ◌+◌, ◌==◌, Bool, true, cond, if◌then◌else◌, List, [], ◌∷◌, ◌++◌, Option, Some, None, refl, sym, ◌∙◌, ap, zero-add, arith}
use Rattle.std.specs.Prelude.{count_by, option_map}
use Rattle.std.specs.List.{list_any}
use Rattle.std.proofs.lemmas.Bool.{ne_eqb}
use Rattle.std.proofs.lemmas.List.Sums.{sum_by-append, sum_by-cons}
use Rattle.nor_base.specs.declared.meaning.Start.{Start}
use Rattle.nor_base.specs.Parameters.{Parameters}
use Rattle.nor_outline.specs.declared.line.PlanLine.{PlanLine}
use Rattle.nor_outline.specs.declared.line.PlanLine.TheVariants as line
use Rattle.nor_times.specs.declared.busy.Busy.{Busy}
use Rattle.nor_times.specs.declared.times.Times.{Times}
use Rattle.nor_times.specs.Bus.{Doing, bus_of, doing_of, end_after, is_work, lines_clocks, mode_clocks}
use Rattle.nor_times.specs.Busy.{busy_of, known_busy, typical_of, worst_of}
use Rattle.nor_times.specs.Timing.{Timing, sums_of, timing_of}

clocks_append : (d : Doing) (end : ℕ) (ls more : List PlanLine)
    → lines_clocks d end (ls ++ more) ≡ lines_clocks d end ls + lines_clocks d (end_after end ls) more
clocks_append d end [] more = sym (zero-add (lines_clocks d end more))
clocks_append d end (line.Erase start size opcode ∷ ls) more = let rest = clocks_append d (start + size) ls more in omega (arith, rest)
clocks_append d end (line.Because start cause ∷ ls) more = clocks_append d end ls more
clocks_append d end (line.Program start count ∷ ls) more = let rest = clocks_append d end ls more in omega (arith, rest)

end_append : (end : ℕ) (ls more : List PlanLine) → end_after end (ls ++ more) ≡ end_after (end_after end ls) more
end_append end [] more = refl
end_append end (line.Erase start size opcode ∷ ls) more = end_append (start + size) ls more
end_append end (line.Because start cause ∷ ls) more = end_append end ls more
end_append end (line.Program start count ∷ ls) more = end_append end ls more

works_append : (ls more : List PlanLine) → count_by is_work (ls ++ more) ≡ count_by is_work ls + count_by is_work more
works_append ls more = sum_by-append (λ l. cond (is_work l) 1 0) ls more

abbrev both : Busy → Busy → Busy
both one other = record { typical = one.typical + other.typical; worst = one.worst + other.worst }

busy_append : (times : Option Times) (m : Parameters) (ls more : List PlanLine)
    → known_busy times m (ls ++ more) ≡ both (known_busy times m ls) (known_busy times m more)
unfolding busy_of
busy_append None m ls more = refl
busy_append (Some t) m ls more =
    let typical = sum_by-append (typical_of t m) ls more in
    let worst = sum_by-append (worst_of t m) ls more in
    cc

-- a timing, and what a piece adds to it
abbrev pub grown : Timing → ℕ → ℕ → ℕ → Busy → Timing
grown t works end clocks busy = record {
  works = t.works + works;
  sums = record { doing = t.sums.doing; times = t.sums.times; end = end; clocks = t.sums.clocks + clocks; busy = both t.sums.busy busy };
}

-- of lines and of the next ones
at_lines : (m : Parameters) (s : Start) (verify : Bool) (times : Option Times) (told lines : List PlanLine)
    → grown (timing_of m s verify times told) (count_by is_work lines) (end_after (end_after 0 told) lines)
    (lines_clocks (doing_of m s verify) (end_after 0 told) lines) (known_busy times m lines)
    ≡ timing_of m s verify times (told ++ lines)
unfolding sums_of
at_lines m s verify times told lines =
    let works = works_append told lines in
    let end = end_append 0 told lines in
    let clocks = clocks_append (doing_of m s verify) 0 told lines in
    let busy = busy_append times m told lines in
    cc

pub timing_more : (t : Timing) (lines : List PlanLine) (m : Parameters) (s : Start) (verify : Bool) (times : Option Times) (told : List PlanLine)
    → t ≡ timing_of m s verify times told
    → grown t (count_by is_work lines) (end_after t.sums.end lines) (lines_clocks t.sums.doing t.sums.end lines)
    (known_busy t.sums.times t.sums.doing.meaning lines)
    ≡ timing_of m s verify times (told ++ lines)
unfolding sums_of
timing_more t lines m s verify times told is =
    ap
    (λ (t : Timing). grown t (count_by is_work lines) (end_after t.sums.end lines) (lines_clocks t.sums.doing t.sums.end lines)
    (known_busy t.sums.times t.sums.doing.meaning lines))
    is
    ∙ at_lines m s verify times told lines

-- of no lines yet
abbrev pub started : Doing → Option Times → Timing
started d times = record { works = 0; sums = record { doing = d; times = times; end = 0; clocks = 0; busy = record { typical = 0; worst = 0 } } }

pub none_yet : (d : Doing) (m : Parameters) (s : Start) (verify : Bool) (times : Option Times) → d ≡ doing_of m s verify
    → started d times ≡ timing_of m s verify times []
unfolding sums_of busy_of
none_yet d m s verify None is = ap (λ (d : Doing). started d None) is
none_yet d m s verify (Some t) is = ap (λ (d : Doing). started d (Some t)) is

-- some line reports an instruction just where one at least does
at_least_one : (n works k : ℕ) → works ≡ suc k → (if works == 0 then 0 else n) ≡ n
at_least_one n works k is =
    ap (λ b. if b then 0 else n) (ne_eqb works 0 (λ none. omega (arith, is, none)))

abbrev counted : Bool → ℕ
counted b = cond b 1 0

one_more : (l : PlanLine) (lines : List PlanLine) → is_work l ≡ true → count_by is_work (l ∷ lines) ≡ suc (count_by is_work lines)
one_more l lines works =
    let sum = sum_by-cons (λ x. cond (is_work x) 1 0) l lines in
    let one = ap counted works in
    omega (arith, sum, one)

mode_any : (n : ℕ) (lines : List PlanLine) → (if count_by is_work lines == 0 then 0 else n) ≡ (if list_any is_work lines then n else 0)
mode_any n [] = refl
mode_any n (line.Erase start size opcode ∷ lines) = at_least_one n _ (count_by is_work lines) (one_more (line.Erase start size opcode) lines refl)
mode_any n (line.Because start cause ∷ lines) = mode_any n lines
mode_any n (line.Program start count ∷ lines) = at_least_one n _ (count_by is_work lines) (one_more (line.Program start count) lines refl)

pub bus_is : (t : Timing) (m : Parameters) (s : Start) (verify : Bool) (times : Option Times) (told : List PlanLine)
    → t ≡ timing_of m s verify times told
    → (if t.works == 0 then 0 else mode_clocks t.sums.doing.meaning t.sums.doing.by) + t.sums.clocks ≡ bus_of m s verify told
unfolding sums_of bus_of
bus_is t m s verify times told is =
    ap (λ (t : Timing). (if t.works == 0 then 0 else mode_clocks t.sums.doing.meaning t.sums.doing.by) + t.sums.clocks) is
    ∙ ap (λ n. n + lines_clocks (doing_of m s verify) 0 told) (mode_any (mode_clocks m (doing_of m s verify).by) told)

-- the busy time, where the tables tell of it
pub busy_is : (t : Timing) (m : Parameters) (s : Start) (verify : Bool) (times : Option Times) (told : List PlanLine)
    → t ≡ timing_of m s verify times told → option_map (λ _. t.sums.busy) t.sums.times ≡ option_map (λ t. busy_of t m told) times
unfolding sums_of
busy_is t m s verify times told is =
    ap (λ (t : Timing). option_map (λ _. t.sums.busy) t.sums.times) is ∙ known times
  where
    known : (times : Option Times) → option_map (λ _. known_busy times m told) times ≡ option_map (λ t. busy_of t m told) times
    known None = refl
    known (Some t) = refl
