-- The maps, one at a time.
use Rattle.std.proofs.Common.{◌≡◌, ℕ, zero, suc, ◌+◌, ◌*◌, ◌<◌, ◌≤◌, ◌==◌, Bool, true, false, cond, List, ◌∷◌, Option, Some, None, Result, Ok, Err, refl, sym, ap, ◌∙◌, arith}
use Rattle.std.specs.Option.{option_or, option_map_or}
use Rattle.std.specs.Result.{result_unwrap_or}
use Rattle.std.specs.List.{find}
use Rattle.std.specs.Prelude.{IfSome}
use Rattle.std.proofs.lemmas.Bool.{lt-ltb, le-ltb}
use Rattle.nor_sfdp.specs.declared.fault.SfdpFault.{SfdpFault}
use Rattle.nor_sfdp.specs.declared.fault.SfdpFault.TheVariants.{NoMap}
use Rattle.nor_base.specs.declared.meaning.Region.{Region}
use Rattle.nor_sfdp.specs.declared.map.SectorMap.{SectorMap}
use Rattle.nor_sfdp.specs.Bits.{dword_count, word, is_set}
use Rattle.nor_sfdp.specs.Tables.{◌>>=◌}
use Rattle.nor_sfdp.specs.SectorMap.{checked_map, maps_from, found_or, first_map_of, command_count_of, wanted_id, regions_at, mapped_regions}

-- the answer where a map may have been found before
abbrev walk : ℕ → List ℕ → ℕ → ℕ → Option SectorMap → Result (Option SectorMap) SfdpFault
walk n table at id found = maps_from n table at >>= λ maps. Ok (option_or found (find (λ (m : SectorMap). m.id == id) maps))

pub record IsWalk (table : List ℕ) (from id at : ℕ) (found : Option SectorMap) : Type 0 where
  pub most : ℕ
  pub enough : dword_count table + 1 ≤ at + most
  pub answer : first_map_of table from id ≡ walk most table at id found

or_none : (found : Option SectorMap) → option_or found None ≡ found
or_none None = refl
or_none (Some m) = refl

pub walk_begins : (table : List ℕ) (from id : ℕ) → 1 ≤ from → IsWalk table from id from None
unfolding first_map_of
walk_begins table from id low = record { most = dword_count table; enough = omega arith; answer = refl }

ended : (n : ℕ) (table : List ℕ) (id at : ℕ) (found : Option SectorMap) → dword_count table < at → walk n table at id found ≡ Ok found
unfolding maps_from
ended zero table id at found past = ap (λ (o : Option SectorMap). Ok o) (or_none found)
ended (suc n) table id at found past = rw (lt-ltb (dword_count table) at past) (ap (λ (o : Option SectorMap). Ok o) (or_none found))

pub walk_ends : (table : List ℕ) (from id at : ℕ) (found : Option SectorMap) → dword_count table < at → IsWalk table from id at found → Ok found ≡ first_map_of table from id
walk_ends table from id at found past w = sym (w.answer ∙ ended w.most table id at found past)

-- a map that isn't accepted
refused : (n : ℕ) (table : List ℕ) (id at : ℕ) (found : Option SectorMap) (fault : SfdpFault) → dword_count table + 1 ≤ at + n → at ≤ dword_count table
    → Err fault ≡ checked_map table at → walk n table at id found ≡ Err fault
unfolding maps_from
refused zero table id at found fault enough inside is = absurd (omega (arith, enough, inside))
refused (suc n) table id at found fault enough inside is = rw (le-ltb (dword_count table) at inside, ← is) refl

pub walk_refuses : (table : List ℕ) (from id at : ℕ) (found : Option SectorMap) (fault : SfdpFault) → at ≤ dword_count table → Err fault ≡ checked_map table at
    → IsWalk table from id at found → Err fault ≡ first_map_of table from id
walk_refuses table from id at found fault inside is w = sym (w.answer ∙ refused w.most table id at found fault w.enough inside is)

find_one : (b : Bool) (m : SectorMap) (found rest : Option SectorMap) → option_or found (cond b (Some m) rest) ≡ option_or (option_or found (cond b (Some m) None)) rest
find_one true m None rest = refl
find_one true m (Some o) rest = refl
find_one false m None rest = refl
find_one false m (Some o) rest = refl

-- the last map
closed : (n : ℕ) (table : List ℕ) (id at : ℕ) (found : Option SectorMap) (m : SectorMap) → dword_count table + 1 ≤ at + n → at ≤ dword_count table
    → Ok m ≡ checked_map table at → true ≡ is_set (word table at) 0 → walk n table at id found ≡ Ok (found_or found m id)
unfolding maps_from
closed zero table id at found m enough inside is last = absurd (omega (arith, enough, inside))
closed (suc n) table id at found m enough inside is last = rw (le-ltb (dword_count table) at inside, ← is, ← last) refl

pub walk_closes : (table : List ℕ) (from id at : ℕ) (found : Option SectorMap) (m : SectorMap) → at ≤ dword_count table → Ok m ≡ checked_map table at
    → true ≡ is_set (word table at) 0 → IsWalk table from id at found → Ok (found_or found m id) ≡ first_map_of table from id
walk_closes table from id at found m inside is last w = sym (w.answer ∙ closed w.most table id at found m w.enough inside is last)

-- another map follows
behind : (id : ℕ) (found : Option SectorMap) (m : SectorMap) (rest : Result (List SectorMap) SfdpFault)
    → ((rest >>= λ others. Ok (m ∷ others)) >>= λ maps. Ok (option_or found (find (λ (m : SectorMap). m.id == id) maps))) ≡ (rest >>= λ maps. Ok (option_or (found_or found m id) (find (λ (m : SectorMap). m.id == id) maps)))
behind id found m (Ok others) = ap (λ (o : Option SectorMap). Ok o) (find_one (m.id == id) m found (find (λ (m : SectorMap). m.id == id) others))
behind id found m (Err fault) = refl

onward : (n : ℕ) (table : List ℕ) (id at : ℕ) (found : Option SectorMap) (m : SectorMap) → at ≤ dword_count table → Ok m ≡ checked_map table at
    → false ≡ is_set (word table at) 0 → walk (suc n) table at id found ≡ walk n table (m.first + m.count) id (found_or found m id)
unfolding maps_from
onward n table id at found m inside is more = rw (le-ltb (dword_count table) at inside, ← is, ← more) (behind id found m (maps_from n table (m.first + m.count)))

pub walk_goes_on : (table : List ℕ) (from id at : ℕ) (found : Option SectorMap) (m : SectorMap) → at ≤ dword_count table → Ok m ≡ checked_map table at
    → at < m.first + m.count → false ≡ is_set (word table at) 0 → IsWalk table from id at found → IsWalk table from id (m.first + m.count) (found_or found m id)
walk_goes_on table from id at found m inside is later more w = by_most table from id at found m inside is later more w.most w.enough w.answer where
  by_most : (table : List ℕ) (from id at : ℕ) (found : Option SectorMap) (m : SectorMap) → at ≤ dword_count table → Ok m ≡ checked_map table at
      → at < m.first + m.count → false ≡ is_set (word table at) 0 → (n : ℕ) → dword_count table + 1 ≤ at + n → first_map_of table from id ≡ walk n table at id found
      → IsWalk table from id (m.first + m.count) (found_or found m id)
  by_most table from id at found m inside is later more zero enough answer = absurd (omega (arith, enough, inside))
  by_most table from id at found m inside is later more (suc n) enough answer = record {
    most = n;
    enough = omega (arith, enough, later);
    answer = answer ∙ onward n table id at found m inside is more;
  }

-- what holds of each map holds of the one found
pub found_holds : (P : SectorMap → Type 0) (found : Option SectorMap) (m : SectorMap) (id : ℕ) → IfSome found P → P m → IfSome (found_or found m id) P
found_holds P found m id before this = by_test found (m.id == id) m before this where
  by_test : (found : Option SectorMap) (b : Bool) (m : SectorMap) → IfSome found P → P m → IfSome (option_or found (cond b (Some m) None)) P
  by_test (Some o) b m before this = before
  by_test None true m before this = this
  by_test None false m before this = tt

-- the ID where the configuration bits are accepted
abbrev pub id_or_0 : Result ℕ SfdpFault → ℕ
id_or_0 wanted = result_unwrap_or wanted 0

-- the regions, where the map is looked for before the configuration bits are known to be accepted
abbrev pub looked_for : List ℕ → List ℕ → ℕ → ℕ → Result (List Region) SfdpFault
looked_for table config size commands =
    first_map_of table (2 * commands + 1) (id_or_0 (wanted_id config commands)) >>= λ found. wanted_id config commands >>= λ _. option_map_or (λ m. regions_at table m size) found (Err NoMap)

commuted : (maps : Result (List SectorMap) SfdpFault) (wanted : Result ℕ SfdpFault) (f : Option SectorMap → Result (List Region) SfdpFault)
    → (maps >>= λ all. wanted >>= λ id. f (find (λ (m : SectorMap). m.id == id) all)) ≡ ((maps >>= λ all. Ok (find (λ (m : SectorMap). m.id == id_or_0 wanted) all)) >>= λ found. wanted >>= λ _. f found)
commuted (Ok all) (Ok id) f = refl
commuted (Ok all) (Err fault) f = refl
commuted (Err fault) wanted f = refl

pub no_commands : (table config : List ℕ) (size : ℕ) (fault : SfdpFault) → Err fault ≡ command_count_of table → Err fault ≡ mapped_regions table config size
unfolding mapped_regions
no_commands table config size fault is = rw (← is) refl

pub after_commands : (table config : List ℕ) (size commands : ℕ) → Ok commands ≡ command_count_of table → mapped_regions table config size ≡ looked_for table config size commands
unfolding mapped_regions first_map_of
after_commands table config size commands is =
    rw (← is) (commuted (maps_from (dword_count table) table (2 * commands + 1)) (wanted_id config commands) (λ found. option_map_or (λ m. regions_at table m size) found (Err NoMap)))

pub no_maps : (table config : List ℕ) (size commands id : ℕ) (fault : SfdpFault) → Ok commands ≡ command_count_of table → id ≡ id_or_0 (wanted_id config commands)
    → Err fault ≡ first_map_of table (2 * commands + 1) id → Err fault ≡ mapped_regions table config size
no_maps table config size commands id fault counted wanted is =
    let looked : Err fault ≡ first_map_of table (2 * commands + 1) (id_or_0 (wanted_id config commands)) = is ∙ ap (first_map_of table (2 * commands + 1)) wanted in
    ap (λ (found : Result (Option SectorMap) SfdpFault). found >>= λ f. wanted_id config commands >>= λ _. option_map_or (λ m. regions_at table m size) f (Err NoMap)) looked
    ∙ sym (after_commands table config size commands counted)

pub not_wanted : (table config : List ℕ) (size commands id : ℕ) (fault : SfdpFault) (found : Option SectorMap) → Ok commands ≡ command_count_of table
    → id ≡ id_or_0 (wanted_id config commands) → Ok found ≡ first_map_of table (2 * commands + 1) id → Err fault ≡ wanted_id config commands
    → Err fault ≡ mapped_regions table config size
not_wanted table config size commands id fault found counted wanted is refused =
    let looked : Ok found ≡ first_map_of table (2 * commands + 1) (id_or_0 (wanted_id config commands)) = is ∙ ap (first_map_of table (2 * commands + 1)) wanted in
    ap (λ (w : Result ℕ SfdpFault). w >>= λ _. option_map_or (λ m. regions_at table m size) found (Err NoMap)) refused
    ∙ ap (λ (found : Result (Option SectorMap) SfdpFault). found >>= λ f. wanted_id config commands >>= λ _. option_map_or (λ m. regions_at table m size) f (Err NoMap)) looked
    ∙ sym (after_commands table config size commands counted)

pub was_wanted : (table config : List ℕ) (size commands id accepted : ℕ) (found : Option SectorMap) → Ok commands ≡ command_count_of table
    → id ≡ id_or_0 (wanted_id config commands) → Ok found ≡ first_map_of table (2 * commands + 1) id → Ok accepted ≡ wanted_id config commands
    → option_map_or (λ m. regions_at table m size) found (Err NoMap) ≡ mapped_regions table config size
was_wanted table config size commands id accepted found counted wanted is taken =
    let looked : Ok found ≡ first_map_of table (2 * commands + 1) (id_or_0 (wanted_id config commands)) = is ∙ ap (first_map_of table (2 * commands + 1)) wanted in
    ap (λ (w : Result ℕ SfdpFault). w >>= λ _. option_map_or (λ m. regions_at table m size) found (Err NoMap)) taken
    ∙ ap (λ (found : Result (Option SectorMap) SfdpFault). found >>= λ f. wanted_id config commands >>= λ _. option_map_or (λ m. regions_at table m size) f (Err NoMap)) looked
    ∙ sym (after_commands table config size commands counted)
