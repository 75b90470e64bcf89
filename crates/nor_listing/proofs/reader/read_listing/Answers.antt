-- Where the lines end.
use Rattle.std.proofs.Common.{◌≡◌, ◌≢◌, ◌++◌, ◌<◌, ◌^◌, length, rules, arith}
use Rattle.std.proofs.lemmas.Bool.Decides.{Decides-eqb}
use Rattle.std.proofs.lemmas.Slice.Eq.{strip_prefix_is}
use Rattle.nor_base.specs.Chip.{begins4}
use Rattle.nor_base.specs.Script.{end_line}
use Rattle.nor_listing.specs.Listing.{chip_line}
use Rattle.nor_listing.proofs.ReadLemmas.{all_read, went_on, unended, other_chip}
use Rattle.nor_listing.proofs.reader.read_listing.Goals as goal

pub returns-in_default-clause-refused : goal.returns-in_default-clause-refused
returns-in_default-clause-refused c =
    let front : c.as_slice.result.now ≡ chip_line c.args.meaning.now c.begins4-mode4.result = search rules in
    other_chip c.args.meaning.now (begins4 c.args.meaning.now c.args.start.now) c.begins4-mode4.result c.args.text.now c.begins4-mode4.ensures
    (rw front at (rw c.in_default.is at (strip_prefix_is Decides-eqb c.args.text.now c.as_slice.result.now _ c.strip_prefix.ensures.cases)))

pub returns-in-Some-strip_prefix-clause-read : goal.returns-in-Some-strip_prefix-clause-read
returns-in-Some-strip_prefix-clause-read c =
    let front : c.as_slice.result.now ≡ chip_line c.args.meaning.now c.begins4-mode4.result = search rules in
    let count : c.len-count.result ≡ length c.read_lines.new.steps.items = omega (arith, c.read_lines.new.steps.ok.0) in
    let few : length c.read_lines.new.steps.items < 2 ^ 64 = omega (arith, c.read_lines.new.steps.ok.0) in
    let last : c.as_slice-2.result.now ≡ end_line c.len-count.result = search rules in
    let end : c.in_ok-rest.rest.now ≡ end_line c.len-count.result ++ c.in-Some-strip_prefix.more.now =
    rw last at (rw c.in-Some-strip_prefix.is at (strip_prefix_is Decides-eqb c.in_ok-rest.rest.now c.as_slice-2.result.now _ c.strip_prefix-2.ensures.cases)) in
    let over : length c.in-Some-strip_prefix.more.now ≡ 0 = search rules in
    all_read c.args.meaning.now (begins4 c.args.meaning.now c.args.start.now) c.begins4-mode4.result c.args.text.now c.in-Some.lines.now c.read_lines.new.steps.items
    c.in_ok-rest.rest.now c.len-count.result c.begins4-mode4.ensures count
    (rw front at (rw c.in-Some.is at (strip_prefix_is Decides-eqb c.args.text.now c.as_slice.result.now _ c.strip_prefix.ensures.cases)))
    c.in_ok-rest.ensures.read few c.in-Some-strip_prefix.more.now end over

pub returns-in-Some-2-clause-refused : goal.returns-in-Some-2-clause-refused
returns-in-Some-2-clause-refused c =
    let front : c.as_slice.result.now ≡ chip_line c.args.meaning.now c.begins4-mode4.result = search rules in
    let count : c.len-count.result ≡ length c.read_lines.new.steps.items = omega (arith, c.read_lines.new.steps.ok.0) in
    let few : length c.read_lines.new.steps.items < 2 ^ 64 = omega (arith, c.read_lines.new.steps.ok.0) in
    let last : c.as_slice-2.result.now ≡ end_line c.len-count.result = search rules in
    let end : c.in_ok-rest.rest.now ≡ end_line c.len-count.result ++ c.in-Some-strip_prefix.more.now =
    rw last at (rw c.in-Some-strip_prefix.is at (strip_prefix_is Decides-eqb c.in_ok-rest.rest.now c.as_slice-2.result.now _ c.strip_prefix-2.ensures.cases)) in
    let over : length c.in-Some-strip_prefix.more.now ≢ 0 = search rules in
    went_on c.args.meaning.now (begins4 c.args.meaning.now c.args.start.now) c.begins4-mode4.result c.args.text.now c.in-Some.lines.now c.read_lines.new.steps.items
    c.in_ok-rest.rest.now c.len-count.result c.begins4-mode4.ensures count
    (rw front at (rw c.in-Some.is at (strip_prefix_is Decides-eqb c.args.text.now c.as_slice.result.now _ c.strip_prefix.ensures.cases)))
    c.in_ok-rest.ensures.read few c.in-Some-strip_prefix.more.now end over

pub returns-clause-refused : goal.returns-clause-refused
returns-clause-refused c =
    let front : c.as_slice.result.now ≡ chip_line c.args.meaning.now c.begins4-mode4.result = search rules in
    let count : c.len-count.result ≡ length c.read_lines.new.steps.items = omega (arith, c.read_lines.new.steps.ok.0) in
    let few : length c.read_lines.new.steps.items < 2 ^ 64 = omega (arith, c.read_lines.new.steps.ok.0) in
    let last : c.as_slice-2.result.now ≡ end_line c.len-count.result = search rules in
    unended c.args.meaning.now (begins4 c.args.meaning.now c.args.start.now) c.begins4-mode4.result c.args.text.now c.in-Some.lines.now c.read_lines.new.steps.items
    c.in_ok-rest.rest.now c.len-count.result c.begins4-mode4.ensures count
    (rw front at (rw c.in-Some.is at (strip_prefix_is Decides-eqb c.args.text.now c.as_slice.result.now _ c.strip_prefix.ensures.cases)))
    c.in_ok-rest.ensures.read few
    (rw last at (rw c.in-None.is at (strip_prefix_is Decides-eqb c.in_ok-rest.rest.now c.as_slice-2.result.now _ c.strip_prefix-2.ensures.cases)))
    c.in_ok-rest.ensures.last
