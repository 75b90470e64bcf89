-- What is told of the operations of units is what the units have.
use Rattle.std.proofs.Common.{◌≡◌, ℕ, ◌+◌, ◌/◌, Bool, true, false, cond, if◌then◌else◌, List, [], ◌∷◌, ◌++◌, length, map, Option, Some, None, refl, arith}
use Rattle.std.specs.Prelude.{flat_map, is_some, sum_by, count_by}
use Rattle.std.specs.Option.{option_map_or}
use Rattle.std.proofs.lemmas.List.Sums.{sum_by-cons, sum_by-append}
use Rattle.nor_base.specs.Blocks.{Block}
use Rattle.nor_base.specs.Operations.{Op, erases, writes, reads, unit_reads, unit_erases, unit_ops}
use Rattle.nor_base.specs.Parameters.{Parameters}
use Rattle.nor_base.specs.Programs.{Program, target_bytes}
use Rattle.nor_base.specs.Units.{WorkUnit, pages}
use Rattle.nor_steps.specs.Tally.{erases_of, erased_of, programs_of}

sum_flat : (f : Op → ℕ) (g : WorkUnit → ℕ) (ops : WorkUnit → List Op) → ((u : WorkUnit) → sum_by f (ops u) ≡ g u) → (us : List WorkUnit)
    → sum_by f (flat_map ops us) ≡ sum_by g us
sum_flat f g ops each [] = refl
sum_flat f g ops each (u ∷ us) = omega (arith, sum_by-append f (ops u) (flat_map ops us), each u, sum_flat f g ops each us, sum_by-cons g u us)

-- nothing counts among some operations
none_map : {X : Type 0} (f : Op → ℕ) (op : X → Op) → ((x : X) → f (op x) ≡ 0) → (xs : List X) → sum_by f (map op xs) ≡ 0
none_map f op none [] = refl
none_map f op none (x ∷ xs) = omega (arith, sum_by-cons f (op x) (map op xs), none x, none_map f op none xs)

none_read : (f : Op → ℕ) → ((p : Program) → f (reads p) ≡ 0) → (m : Parameters) (want : List ℕ) (u : WorkUnit) (e : Option Block) → sum_by f (unit_reads m want u e) ≡ 0
none_read f none m want u (Some b) =
    none_map f (λ start. reads (target_bytes want start (start + m.page))) (λ start. none (target_bytes want start (start + m.page))) (pages m.page b.start (b.size / m.page))
none_read f none m want u None = none_map f reads none u.programs

none_where : (f : Op → ℕ) (b : Bool) (ops : List Op) → sum_by f ops ≡ 0 → sum_by f (if b then ops else []) ≡ 0
none_where f true ops none = none
none_where f false ops none = refl

parts : (f : Op → ℕ) (m : Parameters) (verify : Bool) (want : List ℕ) (u : WorkUnit) → ((p : Program) → f (reads p) ≡ 0)
    → sum_by f (unit_ops m verify want u) ≡ sum_by f (unit_erases u.erase) + sum_by f (map writes u.programs)
parts f m verify want u none =
    let rest = if verify then unit_reads m want u u.erase else [] in
    omega (
      arith,
      sum_by-append f (unit_erases u.erase) (map writes u.programs ++ rest),
      sum_by-append f (map writes u.programs) rest,
      none_where f verify (unit_reads m want u u.erase) (none_read f none m want u u.erase),
    )

one_erase : (e : Option Block) → sum_by erases_of (unit_erases e) ≡ cond (is_some e) 1 0
one_erase (Some b) = sum_by-cons erases_of (erases b) []
one_erase None = refl

its_size : (e : Option Block) → sum_by erased_of (unit_erases e) ≡ option_map_or (λ b. b.size) e 0
its_size (Some b) = omega (arith, sum_by-cons erased_of (erases b) [])
its_size None = refl

no_program : (e : Option Block) → sum_by programs_of (unit_erases e) ≡ 0
no_program (Some b) = omega (arith, sum_by-cons programs_of (erases b) [])
no_program None = refl

each_program : (ps : List Program) → sum_by programs_of (map writes ps) ≡ length ps
each_program [] = refl
each_program (p ∷ ps) = omega (arith, sum_by-cons programs_of (writes p) (map writes ps), each_program ps)

pub erases_told : (m : Parameters) (verify : Bool) (want : List ℕ) (us : List WorkUnit)
    → sum_by erases_of (flat_map (unit_ops m verify want) us) ≡ count_by (λ u. is_some u.erase) us
erases_told m verify want us =
    sum_flat erases_of (λ u. cond (is_some u.erase) 1 0) (unit_ops m verify want)
    (λ u. omega (arith, parts erases_of m verify want u (λ p. refl), one_erase u.erase, none_map erases_of writes (λ p. refl) u.programs)) us

pub erased_told : (m : Parameters) (verify : Bool) (want : List ℕ) (us : List WorkUnit)
    → sum_by erased_of (flat_map (unit_ops m verify want) us) ≡ sum_by (λ u. option_map_or (λ block. block.size) u.erase 0) us
erased_told m verify want us =
    sum_flat erased_of (λ u. option_map_or (λ block. block.size) u.erase 0) (unit_ops m verify want)
    (λ u. omega (arith, parts erased_of m verify want u (λ p. refl), its_size u.erase, none_map erased_of writes (λ p. refl) u.programs)) us

pub programs_told : (m : Parameters) (verify : Bool) (want : List ℕ) (us : List WorkUnit)
    → sum_by programs_of (flat_map (unit_ops m verify want) us) ≡ sum_by (λ u. length u.programs) us
programs_told m verify want us =
    sum_flat programs_of (λ u. length u.programs) (unit_ops m verify want)
    (λ u. omega (arith, parts programs_of m verify want u (λ p. refl), no_program u.erase, each_program u.programs)) us
