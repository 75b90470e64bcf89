-- The words are those of the step that was found, or of none.
use Rattle.std.proofs.Common.{◌≡◌, ◌≢◌, ◌++◌, rules, false, sym, ◌∙◌}
use Rattle.std.specs.Prelude.{codes}
use Rattle.std.proofs.lemmas.Bool.Decides.{Decides-eqb}
use Rattle.std.proofs.lemmas.List.{append_cancel_right}
use Rattle.std.proofs.lemmas.Slice.Eq.{strip_suffix_is}
use Rattle.nor_base.specs.Script.{closed}
use Rattle.nor_base.specs.Step.{is_step}
use Rattle.nor_listing.specs.Listing.{words}
use Rattle.nor_listing.proofs.NoneLemmas.{none_found, not_listable, other_words}
use Rattle.nor_listing.proofs.reader.read_as.Goals as goal

pub returns-in_default : goal.returns-in_default
returns-in_default c =
    none_found c.spelling.ensures.one c.args.meaning.now c.args.mode4 c.args.width c.args.words.now c.in_ok-step.field-0 c.in_default.is c.in_ok-step.ensures

pub returns-then-not-is_listable : goal.returns-then-not-is_listable
returns-then-not-is_listable c =
    let no : is_step c.in-Some.step ≡ false = search rules in
    not_listable c.spelling.ensures.one c.args.meaning.now c.args.mode4 c.args.width c.args.words.now c.in_ok-step.field-0 c.in-Some.step c.in-Some.is c.in_ok-step.ensures no

pub returns-then-eq : goal.returns-then-eq
returns-then-eq c =
    let told = c.as_slice.result.now in
    let said = c.in-Some-strip_suffix.said.now in
    let here = words c.args.meaning.now c.args.mode4 c.in-Some.step in
    let cut : told ≡ said ++ codes "\n" = rw c.in-Some-strip_suffix.is at (strip_suffix_is Decides-eqb told (codes "\n") _ c.strip_suffix.ensures.cases) in
    let same : said ≡ c.args.words.now = search rules in
    let whole : told ≡ closed here = search rules in
    record {
      listed = search rules;
      told = sym same ∙ append_cancel_right said here (codes "\n") (sym cut ∙ whole);
      mode = c.in_ok-told.ensures.mode;
    }

pub returns-else-eq : goal.returns-else-eq
returns-else-eq c =
    let told = c.as_slice.result.now in
    let said = c.in-Some-strip_suffix.said.now in
    let here = words c.args.meaning.now c.args.mode4 c.in-Some.step in
    let cut : told ≡ said ++ codes "\n" = rw c.in-Some-strip_suffix.is at (strip_suffix_is Decides-eqb told (codes "\n") _ c.strip_suffix.ensures.cases) in
    let different : said ≢ c.args.words.now = search rules in
    let whole : told ≡ closed here = search rules in
    other_words c.spelling.ensures.one c.args.meaning.now c.args.mode4 c.args.width c.args.words.now c.in_ok-step.field-0 c.in-Some.step c.in-Some.is c.in_ok-step.ensures
    told whole (λ e. different (append_cancel_right said c.args.words.now (codes "\n") (sym cut ∙ e)))
