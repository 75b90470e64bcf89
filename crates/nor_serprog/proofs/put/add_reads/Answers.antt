-- One read more.
use Rattle.std.proofs.Common.{◌≡◌, ℕ, List, ◌≤◌, ◌+◌, [], ◌∷◌, ◌++◌, length, ap, length-append, arith, rules}
use Rattle.nor_serprog.proofs.WaitLemmas.{read_added}
use Rattle.nor_serprog.proofs.put.add_reads.Goals as goal

pub loop-preserved : goal.loop-preserved
loop-preserved c =
    let one : List ℕ = 0x13 ∷ 1 ∷ 0 ∷ 0 ∷ 1 ∷ 0 ∷ 0 ∷ 5 ∷ [] in
    let added : c.try_extend_from_slice.new.self.items ≡ c.loop.requests.items ++ one = search rules in
    let few : length c.loop.requests.items + 8 ≤ c.args.ahead = search rules in
    let room : length c.loop.requests.items + 8 ≤ 1024 = search rules in
    record {
      added = read_added c.try_extend_from_slice.new.self.items c.loop.requests.items c.args.requests.now.items c.loop.reads added c.loop.invariant.added;
      count = ap (λ n. n + 1) c.loop.invariant.count;
      fits = λ h. omega (arith, few, room, ap length added, length-append c.loop.requests.items one);
    }
