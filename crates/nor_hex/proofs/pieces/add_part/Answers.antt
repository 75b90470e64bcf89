use Rattle.std.proofs.Common.{◌≡◌, ℕ, ◌+◌, ◌-◌, ◌^◌, ◌<◌, ◌≤◌, length, take, drop, ◌++◌, List, sym, subst, arith}
use Rattle.std.proofs.lemmas.Grind.{common_steps}
use Rattle.std.proofs.lemmas.List.{length-take-le}
use Rattle.std.proofs.lemmas.Result.{MatchResult-weaker}
use Rattle.std.specs.Ordering.{nat_cmp}
use Rattle.std.specs.BTreeMap.{get}
use Rattle.nor_hex.specs.Pieces.{Gives, IsPieces, IsFree, AddsRun, DiffersIn, Opens}
use Rattle.nor_hex.proofs.PieceLemmas.{IsAdded, is_added, pieces_added, run_added, clashes_over}
use Rattle.nor_hex.proofs.pieces.add_part.Given.{Over}
use Rattle.nor_hex.proofs.pieces.add_part.Goals as goal

pub returns-in-Err-clause-clash : goal.returns-in-Err-clause-clash
returns-in-Err-clause-clash g c =
    MatchResult-weaker c.repeat_part.result c.repeat_part.ensures.clash (λ count u. u) (λ fault clash real.
    clashes_over _ c.args.pieces.now.bytes.items c.args.bytes.now c.args.address c.in-Err.last c.in-Err.piece c.in-Err.ensures.next.found c.in-Err.ensures.from
    (subst (λ (xs : List ℕ). DiffersIn (drop (c.in-Err.piece.place + (c.args.address - c.in-Err.piece.first)) xs) c.args.bytes.now (c.in-Err.last + 1 - c.args.address)) c.as_slice.ensures.value clash.1))

-- ---- the bytes that are laid
len : (g : Over) (c : goal.In_ok-insert g) → length (take c.in-Ok.count c.args.bytes.now) ≡ c.in-Ok.count
len g c = length-take-le c.in-Ok.count c.args.bytes.now c.in-Ok.ensures.count.1

some : (g : Over) (c : goal.In_ok-insert g) → 0 < length (take c.in-Ok.count c.args.bytes.now)
some g c = rw (len g c) c.in-Ok.ensures.count.0

free : (g : Over) (c : goal.In_ok-insert g) → IsFree (get nat_cmp c.args.pieces.now.by_last) c.args.address (length (take c.in-Ok.count c.args.bytes.now))
free g c = subst (IsFree (get nat_cmp c.args.pieces.now.by_last) c.args.address) (sym (len g c)) c.in-Ok.ensures.free

last_is : (g : Over) (c : goal.In_ok-insert g) → c.args.address + (c.in-Ok.count - 1) + 1 ≡ c.args.address + length (take c.in-Ok.count c.args.bytes.now)
last_is g c = let some = c.in-Ok.ensures.count.0 in omega (arith, len g c)

fits : (g : Over) (c : goal.In_ok-insert g) → c.args.address + length (take c.in-Ok.count c.args.bytes.now) ≤ 2 ^ 32
fits g c = let few = c.in-Ok.ensures.count.1 in omega (arith, len g c)

place_is : (g : Over) (c : goal.In_ok-insert g) → c.in-Ok-try_from.place ≡ length c.args.pieces.now.bytes.items
place_is g c = grind (arith, common_steps, c.in-Ok-try_from.ensures, c.args.pieces.now.bytes.ok)

added : (g : Over) (c : goal.In_ok-insert g) → IsAdded (get nat_cmp c.args.pieces.now.by_last) (get nat_cmp c.insert.new.self) (length c.args.pieces.now.bytes.items) c.args.address (c.args.address + (c.in-Ok.count - 1)) c.open_piece-piece.result
added g c =
    is_added c.args.pieces.now.by_last c.open_piece-piece.new.by_last c.insert.new.self c.args.pieces.now.bytes.items (take c.in-Ok.count c.args.bytes.now) (length c.args.pieces.now.bytes.items) c.args.address (c.args.address + (c.in-Ok.count - 1)) c.open_piece-piece.result c.requires.part.2 (free g c) (last_is g c) (some g c)
    (subst (λ (n : ℕ). Opens (get nat_cmp c.args.pieces.now.by_last) (get nat_cmp c.open_piece-piece.new.by_last) n c.args.address c.open_piece-piece.result) (place_is g c) c.open_piece-piece.ensures) c.in_ok-insert.ensures.updates

items : (g : Over) (c : goal.In_ok-insert g) → c.extend_from_slice.new.self.items ≡ c.args.pieces.now.bytes.items ++ take c.in-Ok.count c.args.bytes.now
items g c = c.in_ok-extend_from_slice.ensures.items

pub returns-clause-pieces : goal.returns-clause-pieces
returns-clause-pieces g c =
    subst (λ (xs : List ℕ). IsPieces (get nat_cmp c.insert.new.self) xs) (sym (items g c))
    (pieces_added _ _ c.args.pieces.now.bytes.items (take c.in-Ok.count c.args.bytes.now) c.args.address (c.args.address + (c.in-Ok.count - 1)) c.open_piece-piece.result c.requires.part.2 (free g c) (last_is g c) (some g c) (fits g c) (added g c))

pub returns-clause-added : goal.returns-clause-added
returns-clause-added g c =
    subst (λ (xs : List ℕ). AddsRun (Gives (get nat_cmp c.args.pieces.now.by_last) c.args.pieces.now.bytes.items) (Gives (get nat_cmp c.insert.new.self) xs) c.args.address (take c.in-Ok.count c.args.bytes.now)) (sym (items g c))
    (run_added _ _ c.args.pieces.now.bytes.items (take c.in-Ok.count c.args.bytes.now) c.args.address (c.args.address + (c.in-Ok.count - 1)) c.open_piece-piece.result c.requires.part.2 (free g c) (last_is g c) (some g c) (fits g c) (added g c))
