-- In the code the map is looked for before the configuration bits are judged; the answer is the same.
use Rattle.std.proofs.Common.{◌≡◌, ◌∙◌, ap, sym, Err}
use Rattle.std.specs.Option.{option_map_or}
use Rattle.nor_sfdp.specs.declared.fault.SfdpFault.TheVariants.{NoMap}
use Rattle.std.proofs.lemmas.Result.{err_from_is_err_and, MatchResult-weaker}
use Rattle.nor_sfdp.specs.SectorMap.{wanted_id, regions_at, mapped_regions}
use Rattle.nor_sfdp.proofs.MapLemmas.{id_or_0, no_commands, no_maps, not_wanted, was_wanted}
use Rattle.nor_sfdp.proofs.map.mapped_regions.Goals as goal

pub returns-in_err-commands-clause-regions : goal.returns-in_err-commands-clause-regions
returns-in_err-commands-clause-regions c =
    let p = err_from_is_err_and c.from_residual.result c.from_residual.ensures.1 in
    rw (p.1, p.2) (no_commands c.args.table.now c.args.config.now c.args.size _ c.in_err-commands.ensures.count)

pub returns-in_err-found-clause-regions : goal.returns-in_err-found-clause-regions
returns-in_err-found-clause-regions c =
    let wanted : c.unwrap_or.result ≡ id_or_0 (wanted_id c.args.config.now c.in_ok-commands.commands) = c.unwrap_or.ensures ∙ ap id_or_0 c.wanted_id-wanted.ensures in
    let p = err_from_is_err_and c.from_residual-in_err-found.result c.from_residual-in_err-found.ensures.1 in
    rw (p.1, p.2) (no_maps c.args.table.now c.args.config.now c.args.size c.in_ok-commands.commands c.unwrap_or.result _ c.in_ok-commands.ensures.count wanted c.in_err-found.ensures.map)

pub returns-in_err-wanted-clause-regions : goal.returns-in_err-wanted-clause-regions
returns-in_err-wanted-clause-regions c =
    let wanted : c.unwrap_or.result ≡ id_or_0 (wanted_id c.args.config.now c.in_ok-commands.commands) = c.unwrap_or.ensures ∙ ap id_or_0 c.wanted_id-wanted.ensures in
    let p = err_from_is_err_and c.from_residual-in_err-wanted.result c.from_residual-in_err-wanted.ensures.1 in
    rw (p.1, p.2) (not_wanted c.args.table.now c.args.config.now c.args.size c.in_ok-commands.commands c.unwrap_or.result _ c.in_ok-found.found c.in_ok-commands.ensures.count wanted
    c.in_ok-found.ensures.map (sym c.in_err-wanted.was ∙ c.wanted_id-wanted.ensures))

pub returns-in-None-clause-regions : goal.returns-in-None-clause-regions
returns-in-None-clause-regions c =
    let wanted : c.unwrap_or.result ≡ id_or_0 (wanted_id c.args.config.now c.in_ok-commands.commands) = c.unwrap_or.ensures ∙ ap id_or_0 c.wanted_id-wanted.ensures in
    ap (λ found. option_map_or (λ m. regions_at c.args.table.now m c.args.size) found (Err NoMap)) (sym c.in-None.is)
    ∙ was_wanted c.args.table.now c.args.config.now c.args.size c.in_ok-commands.commands c.unwrap_or.result _ c.in_ok-found.found c.in_ok-commands.ensures.count wanted
    c.in_ok-found.ensures.map (sym c.in_ok-wanted.was ∙ c.wanted_id-wanted.ensures)

pub returns-in-Some-clause-regions : goal.returns-in-Some-clause-regions
returns-in-Some-clause-regions c =
    let wanted : c.unwrap_or.result ≡ id_or_0 (wanted_id c.args.config.now c.in_ok-commands.commands) = c.unwrap_or.ensures ∙ ap id_or_0 c.wanted_id-wanted.ensures in
    let same : regions_at c.args.table.now c.in-Some.map c.args.size ≡ mapped_regions c.args.table.now c.args.config.now c.args.size =
    ap (λ found. option_map_or (λ m. regions_at c.args.table.now m c.args.size) found (Err NoMap)) (sym c.in-Some.is)
    ∙ was_wanted c.args.table.now c.args.config.now c.args.size c.in_ok-commands.commands c.unwrap_or.result _ c.in_ok-found.found c.in_ok-commands.ensures.count wanted
    c.in_ok-found.ensures.map (sym c.in_ok-wanted.was ∙ c.wanted_id-wanted.ensures) in
    MatchResult-weaker c.regions_at.result c.regions_at.ensures.regions (λ v e. e ∙ same) (λ fault e. e ∙ same)
