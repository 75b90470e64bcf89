-- What came twice is known.
use Rattle.std.proofs.Common.{◌≡◌, ◌≤◌, ◌+◌, ◌∙◌, ◌^◌, ℕ, true, false, List, length, refl, sym, arith}
use Rattle.nor_base.proofs.FaultLaws.{handed_on}
use Rattle.nor_base.specs.Wire.{wire}
use Rattle.nor_loop.specs.Reads.{chunk}
use Rattle.norprog_read.specs.Span.{came, part_in}
use Rattle.norprog_read.specs.Stops.{Hidden, Lost, NoMemory, Other, StopsContent, Unreadable}
use Rattle.norprog_read.specs.Way.{first_by, is_readable, second_by, twice_of, way, IsShownBy}
use Rattle.norprog_read.proofs.PartLemmas.{came_all, part_within}
use Rattle.norprog_read.proofs.ReadLemmas.{written}
use Rattle.norprog_read.proofs.WayLemmas.{first_gives, mode_known, second_gives}
use Rattle.norprog_read.proofs.content.read_part.Goals as goal

pub returns-then-not-is_readable-clause-stops : goal.returns-then-not-is_readable-clause-stops
returns-then-not-is_readable-clause-stops g c = Unreadable (sym c.is_readable.ensures ∙ c.if-not-is_readable.true) refl

pub returns-in_err-content-clause-stops : goal.returns-in_err-content-clause-stops
returns-in_err-content-clause-stops g c = handed_on (StopsContent _ _ _) _ _ c.from_residual.ensures.1 (NoMemory refl)

pub read_within-requires-clause-size : goal.read_within-requires-clause-size
read_within-requires-clause-size g c =
    let long = c.as_mut_slice-bytes.ensures.len in
    let all = c.in_ok-content.ensures.len in
    let size = c.size_in.ensures.is in
    let few = c.size_in.ensures.few in
    (omega (arith, long, all, size, few), omega (arith, c.requires.part.0, c.requires.part.1, size, few))

pub returns-then-is_certain-clause-whole : goal.returns-then-is_certain-clause-whole
returns-then-is_certain-clause-whole g c =
    let most = c.args.limits.now.asked in
    let new = c.read_within.new.content in
    let m = c.args.meaning.now in
    let start = c.args.start in
    let sure = c.args.sure in
    let part = c.args.part in
    let w = way most m start sure part in
    let u = wire (g.W.ByteOut.held c.args.to.now) (g.R.ByteIn.ahead c.args.from.now) in
    let v = wire (g.W.ByteOut.held c.read_within.new.to) (g.R.ByteIn.ahead c.read_within.new.from) in
    let long : c.in_ok-content.content.len ≡ length new = omega (arith, c.read_within.auto.content, c.as_mut_slice-bytes.ensures.len) in
    let whole : length new ≡ m.size = omega (arith, long, c.in_ok-content.ensures.len, c.size_in.ensures.is) in
    let small : m.size ≤ 2 ^ 32 = omega (arith, c.size_in.ensures.is, c.size_in.ensures.few) in
    let within : part.low + length (part_in part new) ≤ m.size = part_within part new m.size whole c.requires.part.0 c.requires.part.1 in
    let readable : is_readable m start ≡ true = sym c.is_readable.ensures ∙ c.if-not-is_readable.false in
    let by : c.first_by-by.result ≡ first_by m start = c.first_by-by.ensures in
    let again : c.second_by-again.result ≡ second_by m start sure = c.second_by-again.ensures in
    let alike = rw by at (rw again at c.in-Ok.ensures.twice) in
    let apart_ = rw by at (rw again at c.in-Ok.ensures.apart) in
    let is = written new c.in_ok-content.content.items c.in_ok-content.content.len long in
    let shown : sure ≡ false → (content : List ℕ) × (came part new ≡ chunk 0 content) × IsShownBy (first_by m start) most content =
    λ unsure.
    let shows = rw by at (rw (c.as_slice.ensures.value ∙ is) at (c.if-is_certain.ensures.shown unsure)) in
    (new, came_all part new shows.0, shows.1) in
    rw is (record {
      whole = whole;
      way = first_gives m start readable;
      known = λ quad. c.twice_knows.ensures (twice_of w) _ _ _ _ m (record start { quad = quad }) (came part new) small within
          (first_gives m (record start { quad = quad }) readable) (second_gives m (record start { quad = quad }) sure readable) alike;
      twice = alike;
      mode = mode_known c.mode_is_shown.ensures.knows c.mode_is_shown.ensures.sure w u v (came part new) (omega (arith, within, small)) readable shown apart_;
    })

pub returns-in-Ok-clause-stops : goal.returns-in-Ok-clause-stops
returns-in-Ok-clause-stops g c =
    let new = c.read_within.new.content in
    let long : c.in_ok-content.content.len ≡ length new = omega (arith, c.read_within.auto.content, c.as_mut_slice-bytes.ensures.len) in
    let whole : length new ≡ c.args.meaning.now.size = omega (arith, long, c.in_ok-content.ensures.len, c.size_in.ensures.is) in
    let same = c.as_slice.ensures.value ∙ written new c.in_ok-content.content.items c.in_ok-content.content.len long in
    Hidden new c.if-is_certain.ensures.hidden.0 (rw c.first_by-by.ensures at (rw c.second_by-again.ensures at c.in-Ok.ensures.twice))
    (λ shows. c.if-is_certain.ensures.hidden.1 (rw c.first_by-by.ensures (rw same (rw whole (shows.all, shows.shows)))))

pub returns-in-Err-Exchange-clause-stops : goal.returns-in-Err-Exchange-clause-stops
returns-in-Err-Exchange-clause-stops g c =
    rw c.in-Err-Exchange.why-is (Lost c.read_within.new.content c.in-Err-Exchange.why
    (rw c.first_by-by.ensures at (rw c.second_by-again.ensures at (rw c.in-Err-Exchange.field-0-is at c.in-Err-Exchange.ensures.twice))))

pub returns-clause-stops : goal.returns-clause-stops
returns-clause-stops g c =
    rw c.in-Err-Differs.d-is (Other c.read_within.new.content c.in-Err-Differs.d
    (rw c.first_by-by.ensures at (rw c.second_by-again.ensures at (rw c.in-Err-Differs.field-0-is at c.in-Err-Differs.ensures.twice))))
